-- The value of an empty square, with and without a run through it across the play.
use Rattle.std.proofs.Common.{◌≡◌, ◌<◌, ◌≤◌, ℕ, true, false, List, get_or, sym, ◌∙◌, Option}
use Rattle.std.proofs.lemmas.Bool.{both_ways}
use Rattle.ref_tiles.specs.declared.tiles.Tile.{Tile}
use Rattle.ref_tiles.specs.declared.rulebook.Rules.{Rules}
use Rattle.ref_board.specs.declared.directions.Dir.{Dir}
use Rattle.ref_board.specs.declared.directions.Dir.TheVariants.{Across, Down}
use Rattle.ref_board.specs.Lines.{other_dir}
use Rattle.ref_board.specs.Cells.{holds}
use Rattle.ref_play.specs.declared.runs.Run.{Run}
use Rattle.ref_play.specs.Crosses.{old_points}
use Rattle.gen_cross.specs.declared.crosses.Value.{Value}
use Rattle.gen_cross.specs.declared.crosses.Cross.{Cross}
use Rattle.gen_cross.specs.Values.{IsMask, IsValue, IsRight, value_at}
use Rattle.gen_cross.specs.CrossRuns.{IsRunWith}
use Rattle.gen_cross.proofs.MaskLaws.{mask_short}
use Rattle.gen_cross.proofs.SideLaws.{side_short, side_long}

-- what is right for each direction is right
pub right_both_ways : (rules : Rules) (words : List (List ℕ)) (board : List (Option Tile)) (cross : Cross)
    → ((square : ℕ) → square < 225 → IsValue rules words Across board square (value_at cross Across square))
    → ((square : ℕ) → square < 225 → IsValue rules words Down board square (value_at cross Down square)) → IsRight rules words board cross
right_both_ways rules words board cross across down Across square below = across square below
right_both_ways rules words board cross across down Down square below = down square below

module _ (rules : Rules) (words : List (List ℕ)) (d : Dir) (board : List (Option Tile)) (square : ℕ) (run : Run) (empty : holds board square ≡ false) (across : run.dir ≡ other_dir d) (there : IsRunWith board square run) (v : Value) where
  pub value_short : run.len < 2 → ((k : ℕ) → k < 26 → get_or v.mask k false ≡ true) → v.side ≡ 0 → IsValue rules words d board square v
  value_short short full none =
      record {
        occupied = λ h. absurd (both_ways (holds board square) empty h);
        mask = λ free. mask_short words d board square run across there short v.mask full;
        side = λ free. none ∙ sym (side_short rules d board square run across there short);
      }

  pub value_long : 2 ≤ run.len → IsMask words d board square v.mask → v.side ≡ old_points rules board run → IsValue rules words d board square v
  value_long long mask side =
      record {
        occupied = λ h. absurd (both_ways (holds board square) empty h);
        mask = λ free. mask;
        side = λ free. side ∙ sym (side_long rules d board square run across there long);
      }
