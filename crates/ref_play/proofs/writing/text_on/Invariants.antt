use Rattle.std.proofs.Common.{◌≡◌, map, length}
use Rattle.std.specs.List.{range_with_len}
use Rattle.ref_play.specs.Formed.{along}
use Rattle.ref_play.specs.Notations.{symbol_for, tile_in}
use Rattle.ref_play.proofs.writing.text_on.Given as goal

abbrev pub invariant-loop-k : goal.invariant-loop-k
invariant-loop-k l =
    record {
      symbols : l.word.items ≡ map (λ k. symbol_for (tile_in l.tiles (along l.run.dir l.run.start k))) (range_with_len 0 l.k);
      len : length l.word.items ≡ l.k;
    }
