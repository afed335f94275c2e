use Rattle.std.proofs.Common.{◌≡◌, ℕ, ◌<◌, length, get_or}
use Rattle.ref_tiles.specs.RulesTexts.{entry_at, points_in}
use Rattle.ref_tiles.proofs.assembling.points.Given as goal

abbrev pub invariant-loop-letter : goal.invariant-loop-letter
invariant-loop-letter l =
    record {
      size : length l.points ≡ 26;
      filled : (k : ℕ) → k < l.letter → get_or l.points k 0 ≡ points_in (entry_at l.draft k);
    }
