use Rattle.std.proofs.Common.{◌≡◌, take}
use Rattle.game_turns.proofs.copying.same_word.Given as goal

abbrev pub invariant-loop-letter : goal.invariant-loop-letter
invariant-loop-letter l = l.word.items ≡ take l.letter-index l.letters
