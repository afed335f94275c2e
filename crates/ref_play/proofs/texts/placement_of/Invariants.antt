use Rattle.std.proofs.Common.{◌≡◌, ◌≤◌, ◌++◌, drop, length}
use Rattle.std.specs.List.{flat_map}
use Rattle.ref_play.specs.Texts.{new_tiles, placement_of}
use Rattle.ref_play.proofs.TextLemmas.{cells_from}
use Rattle.ref_play.proofs.texts.placement_of.Given as goal

abbrev pub invariant-loop-k : goal.invariant-loop-k
invariant-loop-k l =
    record {
      rest : l.tiles.items ++ flat_map (new_tiles l.board) (cells_from l.dir l.at l.k (drop l.k l.word)) ≡ placement_of l.board l.dir l.at l.word;
      few : length l.tiles.items ≤ l.k;
    }
