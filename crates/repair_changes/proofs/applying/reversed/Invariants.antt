use Rattle.std.proofs.Common.{◌≡◌, ◌-◌, length, reverse, drop}
use Rattle.repair_changes.proofs.applying.reversed.Given as goal

abbrev pub invariant-loop-following : goal.invariant-loop-following
invariant-loop-following l = l.events ≡ reverse (drop (length l.there - l.following) l.there)
