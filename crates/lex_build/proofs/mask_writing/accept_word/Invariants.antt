use Rattle.std.proofs.Common.{take}
use Rattle.lex_build.specs.NodeWords.{IsAcceptWord}
use Rattle.lex_build.proofs.mask_writing.accept_word.Given as goal

abbrev pub invariant-loop-arc : goal.invariant-loop-arc
invariant-loop-arc l = IsAcceptWord (take l.arc-index l.arcs) l.word
