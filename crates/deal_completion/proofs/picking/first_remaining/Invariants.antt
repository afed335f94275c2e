use Rattle.std.proofs.Common.{◌≡◌, ltb, get_or}
use Rattle.std.specs.List.{find, range_with_len}
use Rattle.std.proofs.Common.{◌-◌}
use Rattle.deal_steps.specs.Piles.{kinds}
use Rattle.deal_completion.proofs.picking.first_remaining.Given as goal

abbrev pub invariant-loop-kind : goal.invariant-loop-kind
invariant-loop-kind l = find (λ k. ltb 0 (get_or l.remaining k 0)) (range_with_len l.kind (27 - l.kind)) ≡ find (λ k. ltb 0 (get_or l.remaining k 0)) kinds
