-- A law of drafts: a record is the draft in which nothing is missing.
use Rattle.std.specs.Prelude.{◌≡◌, Bool, true, false, List, [], ◌∷◌, map, None}
use Rattle.gcg_read.specs.declared.events.Event.{Event}
use Rattle.game_corrections.specs.WrongNumbers.{wrong_lines}
use Rattle.game_walk.specs.Numbers.{numbers_in}
use Rattle.gcg_drafts.specs.declared.missing.Missing.{Missing}
use Rattle.gcg_drafts.specs.declared.missing.Missing.TheVariants as missing
use Rattle.draft_numbers.specs.Numbers.{wrong_written}

-- whether no line lacks a number
abbrev pub is_whole : (lacks : List Missing) → Bool
is_whole [] = true
is_whole (missing.Nothing ∷ lacks) = is_whole lacks
is_whole (missing.Total ∷ lacks) = false
is_whole (missing.Both ∷ lacks) = false

-- if so, the wrong numbers are those of the sheet
abbrev pub WholeIsSheet : Type 0
WholeIsSheet =
    (lacks : List Missing) (written right : List Event) → is_whole lacks ≡ true → wrong_written lacks written (map numbers_in right) ≡ wrong_lines None written right
