use Rattle.std.proofs.Common.{◌≡◌, ◌++◌}
use Rattle.lex_check.specs.Rotations.{paths_of}
use Rattle.lex_check.proofs.rotating.push_paths.Given as goal

abbrev pub invariant-loop-split : goal.invariant-loop-split
invariant-loop-split l = l.paths.items ≡ l.initial.paths.items ++ paths_of l.word l.split
