use Rattle.std.proofs.Common.{◌≡◌, ℕ, ap, ◌∙◌, arith}
use Rattle.deal_cuts.proofs.Parts.{in_first, beside_first, all_in, all_beside}
use Rattle.deal_cuts.proofs.splits.split_by.Goals as goal

pub returns-clause-within : goal.returns-clause-within
returns-clause-within c =
    let last : c.loop-kind.kind ≡ 27 = omega arith in
    c.loop-kind.invariant.0 ∙ ap (λ (i : ℕ). in_first c.args.chosen.now c.args.tiles.now i) last ∙ all_in c.args.chosen.now c.args.tiles.now

pub returns-clause-beside : goal.returns-clause-beside
returns-clause-beside c =
    let last : c.loop-kind.kind ≡ 27 = omega arith in
    c.loop-kind.invariant.1 ∙ ap (λ (i : ℕ). beside_first c.args.chosen.now c.args.tiles.now i) last ∙ all_beside c.args.chosen.now c.args.tiles.now
