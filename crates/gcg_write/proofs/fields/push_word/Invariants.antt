use Rattle.std.proofs.Common.{◌≡◌, ◌++◌, take}
use Rattle.gcg_write.specs.Fields.{word_text}
use Rattle.gcg_write.proofs.fields.push_word.Given as goal

abbrev pub invariant-loop-symbol : goal.invariant-loop-symbol
invariant-loop-symbol l = l.out.items ≡ l.initial.out.items ++ word_text (take l.symbol-index l.word)
