use Rattle.std.proofs.Common.{take}
use Rattle.lex_build.specs.NodeWords.{IsLabelWord}
use Rattle.lex_build.proofs.mask_writing.label_word.Given as goal

abbrev pub invariant-loop-arc : goal.invariant-loop-arc
invariant-loop-arc l = IsLabelWord (take l.arc-index l.arcs) l.word
