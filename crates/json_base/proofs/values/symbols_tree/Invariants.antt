use Rattle.std.proofs.Common.{◌≡◌, take}
use Rattle.gcg_write.specs.Fields.{word_text}
use Rattle.json_base.proofs.values.symbols_tree.Given as goal

abbrev pub invariant-loop-symbol : goal.invariant-loop-symbol
invariant-loop-symbol l = l.text.items ≡ word_text (take l.symbol-index l.word)
