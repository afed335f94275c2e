use Rattle.std.proofs.Common.{◌≡◌, ℕ, ◌<◌, false, length}
use Rattle.std.specs.Prelude.{slice_index_or}
use Rattle.std.specs.Option.{option_copied}
use Rattle.sheet_scores.specs.Pictures.{covered}
use Rattle.sheet_scores.proofs.pictures.picture_for.Given as goal

abbrev pub invariant-loop-number : goal.invariant-loop-number
invariant-loop-number l =
    record {
      size : length l.marked ≡ 225;
      each : (square : ℕ) → square < l.number → slice_index_or l.marked square false ≡ covered (option_copied l.event) square;
    }
