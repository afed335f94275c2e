use Rattle.std.proofs.Common.{◌≡◌, ℕ, ◌<◌, ◌/◌, ◌%◌, length, get_or}
use Rattle.ref_tiles.specs.declared.premiums.Premium.TheVariants as premium
use Rattle.ref_tiles.specs.Statements.{row_item}
use Rattle.ref_tiles.specs.RulesTexts.{entry_at, premium_in}
use Rattle.ref_tiles.proofs.assembling.premiums.Given as goal

abbrev pub invariant-loop-square : goal.invariant-loop-square
invariant-loop-square l =
    record {
      size : length l.premiums ≡ 225;
      filled : (k : ℕ) → k < l.square → get_or l.premiums k premium.Plain ≡ premium_in (entry_at l.draft (row_item (k / 15))) (k % 15);
    }
