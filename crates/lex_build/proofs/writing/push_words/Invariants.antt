use Rattle.std.proofs.Common.{take}
use Rattle.lex_build.specs.Bodies.{HasAppended}
use Rattle.lex_build.proofs.writing.push_words.Given as goal

abbrev pub invariant-loop-word : goal.invariant-loop-word
invariant-loop-word l = HasAppended l.initial.bytes.items l.bytes.items (take l.word-index l.words)
