use Rattle.std.proofs.Common.{◌≡◌, map, length}
use Rattle.std.specs.List.{range_with_len}
use Rattle.ref_play.specs.Formed.{along}
use Rattle.explain_clues.specs.Words.{word_square}
use Rattle.explain_clues.proofs.words.squares_on.Given as goal

abbrev pub invariant-loop-k : goal.invariant-loop-k
invariant-loop-k l =
    record {
      squares : l.squares.items ≡ map (λ k. word_square l.rules l.after l.tiles (along l.run.dir l.run.start k)) (range_with_len 0 l.k);
      len : length l.squares.items ≡ l.k;
    }
