-- The numbers of a draft: those that are written, and the right ones in the place of those that are missing.
use Rattle.std.specs.Prelude.{ℕ, Bool, List, [], ◌∷◌, map, Option, Some, None, if◌then◌else◌}
use Rattle.std.specs.List.{list_any}
use Rattle.gcg_read.specs.declared.events.Event.{Event}
use Rattle.gcg_numbers.specs.Numbers.{text_with}
use Rattle.game_walk.specs.declared.numbers.Numbers.{Numbers}
use Rattle.game_walk.specs.Numbers.{numbers_in, renumbered}
use Rattle.gcg_drafts.specs.declared.missing.Missing.{Missing}
use Rattle.gcg_drafts.specs.declared.missing.Missing.TheVariants as missing
use Rattle.gcg_drafts.specs.Texts.{completed_text}
use Rattle.draft_answers.specs.Counting.{is_missing}

-- the numbers of one event
abbrev pub filled_by : Missing → (written right : Numbers) → Numbers
filled_by missing.Nothing written right = written
filled_by missing.Total written right = record { score = written.score; total = right.total }
filled_by missing.Both written right = right

-- what the event at a place lacks: nothing, if it is not said
abbrev pub said : Option Missing → Missing
said None = missing.Nothing
said (Some m) = m

-- the numbers of all events, by what each lacks
abbrev pub filled : (lacks : List Missing) → (written right : List Numbers) → List Numbers
filled lacks [] rights = []
filled lacks (w ∷ ws) [] = []
filled [] (w ∷ ws) (r ∷ rs) = w ∷ filled [] ws rs
filled (m ∷ lacks) (w ∷ ws) (r ∷ rs) = filled_by m w r ∷ filled lacks ws rs

-- the events with these numbers
unfoldable pub filled_events : (lacks : List Missing) → (written right : List Event) → List Event
filled_events lacks written right = renumbered right (filled lacks (map numbers_in written) (map numbers_in right))

-- whether a number is missing
abbrev pub has_missing : List Missing → Bool
has_missing lacks = list_any is_missing lacks

-- The sheet that a draft makes: its text with the right numbers in the place of those that are missing. A draft that lacks nothing is that sheet.
unfoldable pub sheet_of : (text : List ℕ) → (lacks : List Missing) → (written right : List Event) → List ℕ
sheet_of text lacks written right =
    if has_missing lacks then text_with (filled_events lacks written right) (completed_text text) else completed_text text
