use Rattle.std.proofs.Common.{◌≡◌, map}
use Rattle.lex_list.specs.RotatedPaths.{label_of}
use Rattle.lex_check.proofs.rotating.labels_back.Given as goal

abbrev pub invariant-loop-letter : goal.invariant-loop-letter
invariant-loop-letter l = l.labels.items ≡ map label_of l.yielded
