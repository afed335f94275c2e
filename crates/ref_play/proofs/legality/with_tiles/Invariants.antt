use Rattle.std.proofs.Common.{◌≡◌, true, false, drop}
use Rattle.ref_play.specs.Placements.{with_tiles, are_rising}
use Rattle.ref_play.specs.Legality.{overlaps}
use Rattle.ref_play.proofs.legality.with_tiles.Given as goal

abbrev pub invariant-loop-placed : goal.invariant-loop-placed
invariant-loop-placed l =
    record {
      rest : with_tiles l.after (drop l.placed-index l.tiles) ≡ with_tiles l.board l.tiles;
      rising : are_rising (drop l.placed-index l.tiles) ≡ true;
      free : overlaps l.after (drop l.placed-index l.tiles) ≡ false;
    }
