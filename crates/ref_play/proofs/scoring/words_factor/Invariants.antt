use Rattle.std.proofs.Common.{◌≡◌, ◌^◌, ◌≤◌, map, take}
use Rattle.ref_play.specs.Scores.{factor_in, product}
use Rattle.ref_play.proofs.scoring.words_factor.Given as goal

abbrev pub invariant-loop-placed : goal.invariant-loop-placed
invariant-loop-placed l =
    record {
      factor : l.factor ≡ product (map (factor_in l.rules l.run) (take l.placed-index l.tiles));
      limit : l.factor ≤ 3 ^ l.placed-index;
    }
