use Rattle.std.proofs.Common.{◌≡◌, take}
use Rattle.lex_check.specs.Held.{held}
use Rattle.lex_check.proofs.rotated.Rotated.of_labels.Given as goal

abbrev pub invariant-loop-place : goal.invariant-loop-place
invariant-loop-place l = l.bytes ≡ held 16 (take l.place l.path)
