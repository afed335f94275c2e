use Rattle.std.proofs.Common.{◌-◌}
use Rattle.gen_moves.specs.Bounds.{IsSum, IsSmallSum, place_in}
use Rattle.gen_moves.proofs.stretches.longest.Given as goal

abbrev pub invariant-loop-place : goal.invariant-loop-place
invariant-loop-place l = record {
  sum : IsSum (place_in l.places) l.first (l.place - l.first) l.sum;
  small : IsSmallSum (l.place - l.first) l.sum;
}
