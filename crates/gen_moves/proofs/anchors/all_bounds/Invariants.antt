use Rattle.std.proofs.Common.{◌≡◌, ◌<◌, ℕ, Bool, List, [], get_or, length}
use Rattle.gen_moves.specs.Bounds.{AreOffers}
use Rattle.gen_moves.specs.Starts.{AreUnder}
use Rattle.std.specs.Prelude.{slice_index}
use Rattle.gen_moves.proofs.anchors.all_bounds.Given as goal

-- each line passed has its bounds
abbrev pub invariant-loop-line : goal.invariant-loop-line
invariant-loop-line l = record {
  size : length l.bounds ≡ 15;
  passed : (k : ℕ) → k < l.line → (g : List ℕ → Bool) → AreOffers l.rules l.worth.points l.worth.ones l.board g (get_or l.lines k []) l.rack l.dir k
      → (h : ℕ) → h < 15 → AreUnder l.rules l.board g (get_or l.lines k []) l.rack l.dir k h (slice_index (get_or l.bounds k []) h);
}
