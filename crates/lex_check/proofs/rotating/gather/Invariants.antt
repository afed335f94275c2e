use Rattle.std.proofs.Common.{◌≡◌}
use Rattle.lex_check.specs.Rotations.{gathered}
use Rattle.lex_check.proofs.rotating.gather.Given as goal

abbrev pub invariant-loop-place : goal.invariant-loop-place
invariant-loop-place l = l.paths.items ≡ gathered l.list l.place
