use Rattle.std.proofs.Common.{◌≡◌, ◌-◌, length, reverse, drop}
use Rattle.draft_numbers.proofs.lacking.reversed.Given as goal

abbrev pub invariant-loop-following : goal.invariant-loop-following
invariant-loop-following l = l.lacks.items ≡ reverse (drop (length l.there - l.following) l.there)
