use Rattle.std.proofs.Common.{◌≡◌, map, length}
use Rattle.std.specs.List.{range_with_len}
use Rattle.ref_board.specs.Cells.{tile_at}
use Rattle.ref_play.specs.Formed.{along}
use Rattle.ref_play.specs.Words.{capital_shown}
use Rattle.game_answers.proofs.letters.shown_from.Given as goal

abbrev pub invariant-loop-k : goal.invariant-loop-k
invariant-loop-k l =
    record {
      letters : l.word.items ≡ map (λ k. capital_shown (tile_at l.board (along l.dir l.at k))) (range_with_len 0 l.k);
      len : length l.word.items ≡ l.k;
    }
