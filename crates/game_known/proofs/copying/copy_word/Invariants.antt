use Rattle.std.proofs.Common.{◌≡◌, take}
use Rattle.game_known.proofs.copying.copy_word.Given as goal

abbrev pub invariant-loop-symbol : goal.invariant-loop-symbol
invariant-loop-symbol l = l.copy.items ≡ take l.symbol-index l.word
