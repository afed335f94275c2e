use Rattle.std.proofs.Common.{◌≡◌, map, take, ◌++◌}
use Rattle.lex_list.specs.RotatedPaths.{label_of}
use Rattle.lex_check.proofs.rotating.push_labels.Given as goal

abbrev pub invariant-loop-letter : goal.invariant-loop-letter
invariant-loop-letter l = l.labels.items ≡ l.initial.labels.items ++ map label_of (take l.letter-index l.back)
