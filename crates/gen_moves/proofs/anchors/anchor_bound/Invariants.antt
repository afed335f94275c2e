use Rattle.std.proofs.Common.{◌≡◌, ℕ, ◌+◌, ◌-◌, ◌≤◌}
use Rattle.gen_moves.specs.Closing.{open_in}
use Rattle.gen_moves.specs.Bounds.{IsBoundFrom, free_count, place_in}
use Rattle.gen_moves.proofs.anchors.anchor_bound.Given as goal

abbrev pub invariant-loop-back : goal.invariant-loop-back
invariant-loop-back l = record {
  bounds : (first : ℕ) → l.anchor - l.back ≤ first → first ≤ l.anchor → IsBoundFrom l.bonus l.worth.points l.worth.ones (place_in l.places) (open_in l.opens) first l.bound;
  free : l.free ≡ free_count (place_in l.places) (l.anchor - l.back) (l.back + 1);
  few : l.free ≤ 7;
}
