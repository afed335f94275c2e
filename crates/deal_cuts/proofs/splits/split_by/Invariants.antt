use Rattle.std.proofs.Common.{◌≡◌, ◌+◌, ◌*◌, ◌≤◌}
use Rattle.deal_cuts.proofs.Parts.{in_first, beside_first}
use Rattle.deal_cuts.proofs.splits.split_by.Given as goal

abbrev pub invariant-loop-kind : goal.invariant-loop-kind
invariant-loop-kind l =
    (l.within ≡ in_first l.fn.chosen l.fn.tiles l.kind) × (l.beside ≡ beside_first l.fn.chosen l.fn.tiles l.kind) × (l.within + l.beside ≤ 255 * l.kind) × (l.numbers ≡ l.fn.tiles)
