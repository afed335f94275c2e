use Rattle.std.proofs.Common.{◌≡◌, true, drop}
use Rattle.ref_play.specs.Placements.{without_tiles, are_rising, HasTiles}
use Rattle.ref_play.proofs.judging.lift_tiles.Given as goal

abbrev pub invariant-loop-placed : goal.invariant-loop-placed
invariant-loop-placed l =
    record {
      rest : without_tiles l.board (drop l.placed-index l.tiles) ≡ without_tiles l.initial.board l.tiles;
      rising : are_rising (drop l.placed-index l.tiles) ≡ true;
      there : HasTiles l.board (drop l.placed-index l.tiles);
    }
