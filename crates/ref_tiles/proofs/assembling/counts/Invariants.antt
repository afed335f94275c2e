use Rattle.std.proofs.Common.{◌≡◌, ℕ, ◌<◌, length, get_or}
use Rattle.ref_tiles.specs.RulesTexts.{entry_at, count_in}
use Rattle.ref_tiles.proofs.assembling.counts.Given as goal

abbrev pub invariant-loop-kind : goal.invariant-loop-kind
invariant-loop-kind l =
    record {
      size : length l.counts ≡ 27;
      filled : (k : ℕ) → k < l.kind → get_or l.counts k 0 ≡ count_in (entry_at l.draft k);
    }
