use Rattle.std.proofs.Common.{◌≡◌, drop}
use Rattle.compare_choices.specs.Known.{last_with, last_known}
use Rattle.compare_choices.proofs.known.last_known.Given as goal

abbrev pub invariant-loop-place : goal.invariant-loop-place
invariant-loop-place l = last_with l.last l.player (drop l.place l.lacks) (drop l.place l.events) ≡ last_known l.player l.lacks l.events
