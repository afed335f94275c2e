use Rattle.std.proofs.Common.{◌≡◌, take, length}
use Rattle.explain_clues.proofs.plays.copied.Given as goal

abbrev pub invariant-loop-letter : goal.invariant-loop-letter
invariant-loop-letter l =
    record {
      letters : l.word.items ≡ take l.letter-index l.letters;
      len : length l.word.items ≡ l.letter-index;
    }
