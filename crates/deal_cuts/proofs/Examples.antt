-- A cut of a small game as the definitions give it, computed: AEINRST cannot become BCDFGHJ by an exchange of one tile.
use Rattle.std.proofs.Common.{◌≡◌, ℕ, ◌==◌, Bool, true, false, List, [], map, refl}
use Rattle.std.specs.Prelude.{codes}
use Rattle.std.specs.List.{count_by, list_any, range_with_len}
use Rattle.ref_tiles.specs.English.{english, english_premiums}
use Rattle.ref_tiles.specs.Counting.{no_tiles}
use Rattle.gcg_read.specs.declared.events.Seat.{Seat}
use Rattle.gcg_read.specs.declared.events.Seat.TheVariants.{First, Second}
use Rattle.deal_steps.specs.declared.steps.Motion.{Motion}
use Rattle.deal_steps.specs.declared.steps.Motion.TheVariants as motion
use Rattle.deal_steps.specs.declared.steps.Act.TheVariants as act
use Rattle.deal_steps.specs.declared.steps.Step.{Step}
use Rattle.deal_steps.specs.Piles.{kinds, greater}
use Rattle.deal_cuts.specs.declared.cuts.Places.{Places}
use Rattle.deal_cuts.specs.Cutting.{where_so, number_in, number_beside}
use Rattle.deal_cuts.specs.Flowing.{known_at, flow_of, others_of, strays_of, gained_by, lost_by, carried_to, at_least}

abbrev tiles : List ℕ → List ℕ
tiles letters = map (λ k. count_by (λ letter. letter == k) letters) (range_with_len 65 27)

-- the kinds of these letters
abbrev chosen : List ℕ → List Bool
chosen letters = map (λ k. list_any (λ letter. letter == k) letters) (range_with_len 65 27)

-- a player shows some tiles; all tiles except two racks are in the bag
abbrev line : Seat → List ℕ → Motion → Step
line player shown what =
    record { line = 1; player = player; counted = true; act = act.Turns (tiles shown) what; board = no_tiles; first = 7; second = 7; bag = 86 }

abbrev swaps : Step
swaps = line First (codes "AEINRST") (motion.ThrowsUnknown 1)

abbrev passes : Step
passes = line Second [] motion.Keeps

abbrev all_places : Places
all_places = record { bag = true; first = true; second = true }

abbrev but_first : Places
but_first = record { bag = true; first = false; second = true }

-- all 16 tiles of these kinds are in play
at_start : at_least (chosen (codes "BCDFGHJ")) all_places english swaps ≡ 16
unfolding at_least english english_premiums kinds where_so number_in no_tiles
at_start = refl

-- the first player throws none of them, and draws at most one
swapped : carried_to (chosen (codes "BCDFGHJ")) swaps passes all_places but_first 16 ≡ 15
unfolding carried_to flow_of others_of strays_of gained_by lost_by kinds where_so number_in number_beside no_tiles greater
swapped = refl

passed : carried_to (chosen (codes "BCDFGHJ")) passes passes but_first but_first 15 ≡ 15
unfolding carried_to flow_of others_of strays_of gained_by lost_by kinds where_so number_in number_beside no_tiles greater
passed = refl

-- seven more are shown
shown_then : number_in (chosen (codes "BCDFGHJ")) (known_at First (line First (codes "BCDFGHJ") motion.Keeps)) ≡ 7
unfolding kinds where_so number_in no_tiles greater
shown_then = refl
