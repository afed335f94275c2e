use Rattle.std.proofs.Common.{◌≡◌, ◌<◌, ℕ, get_or, length}
use Rattle.gen_moves.specs.declared.starts.Start.{Start}
use Rattle.gen_moves.specs.Starts.{IsStartOf}
use Rattle.gen_moves.proofs.starts.all_starts.Given as goal

-- each place passed is that of its number
abbrev pub invariant-loop-number : goal.invariant-loop-number
invariant-loop-number l = record {
  size : length l.starts ≡ 450;
  passed : (k : ℕ) (d : Start) → k < l.number → IsStartOf l.across l.down k (get_or l.starts k d);
}
