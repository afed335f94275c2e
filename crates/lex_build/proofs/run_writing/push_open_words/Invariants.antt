use Rattle.std.proofs.Common.{take}
use Rattle.lex_build.specs.Bodies.{HasAppended}
use Rattle.lex_build.specs.NodeWords.{words_of}
use Rattle.lex_build.proofs.run_writing.push_open_words.Given as goal

abbrev pub invariant-loop-arc : goal.invariant-loop-arc
invariant-loop-arc l = HasAppended l.initial.bytes.items l.bytes.items (words_of (take l.arc-index l.arcs))
