use Rattle.std.proofs.Common.{◌≡◌, map, take, length}
use Rattle.ref_play.specs.Words.{items_of}
use Rattle.explain_clues.specs.Words.{sum_in}
use Rattle.explain_clues.specs.Plays.{word_in, words_by}
use Rattle.explain_clues.proofs.plays.played_words.Given as goal

abbrev pub invariant-loop-k : goal.invariant-loop-k
invariant-loop-k l =
    record {
      words : map word_in l.words.items ≡ words_by l.list (map sum_in (take l.k l.scored)) (items_of (take l.k l.letters));
      len : length l.words.items ≡ l.k;
    }
