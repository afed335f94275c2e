-- What stays wrong with a change: numbers of the sheet, and words that are not in the list.
use Rattle.std.specs.Prelude.{◌≡◌, ℕ, ◌+◌, ◌<◌, ⊤, Bool, true, false, List, length, Option, Some, None}
use Rattle.std.specs.List.{flat_map, range_with_len}
use Rattle.ref_tiles.specs.declared.rulebook.Rules.{Rules}
use Rattle.gcg_read.specs.declared.events.Event.{Event}
use Rattle.game_turns.specs.LatestEvents.{standing_words}
use Rattle.game_turns.specs.Machines.{state_of}
use Rattle.game_turns.specs.Tallies.{tally_at}
use Rattle.game_walk.specs.declared.rows.Row.{Row}
use Rattle.game_corrections.specs.declared.wrong_numbers.WrongNumber.{WrongNumber}
use Rattle.game_corrections.specs.declared.wrong_numbers.WrongNumber.TheVariants as number
use Rattle.game_corrections.specs.WrongNumbers.{wrong_lines}
use Rattle.game_turns.specs.Unlisted.{letters_in, unlisted_of}
use Rattle.repair_changes.specs.declared.slips.Change.{Change}
use Rattle.repair_changes.specs.Applied.{applied}
use Rattle.repair_single.specs.OnSheet.{on_sheet}
use Rattle.repair_single.specs.declared.remains.Remains.{Remains}

-- The scores and sums of the sheet that are wrong, compared with the right events.
unfoldable pub wrong_with : Change → (written right : List Event) → List WrongNumber
wrong_with change written right = wrong_lines None (on_sheet change (applied change written) right) right

-- whether a number is on a line, and is not the last total of a player
abbrev pub is_on_line : WrongNumber → Bool
is_on_line (number.Total player written right) = false
is_on_line other = true

-- the words of the event at a place that stand and are not in the list
abbrev pub unlisted_at : Rules → (list : List (List ℕ)) → List Event → (place : ℕ) → List (List ℕ)
unlisted_at rules list events place = unlisted_of list (standing_words (tally_at rules events (place + 1)).latest)

-- the words of a record that stand and are not in the list
unfoldable pub unlisted_words : Rules → (list : List (List ℕ)) → List Event → List (List ℕ)
unlisted_words rules list events = flat_map (unlisted_at rules list events) (range_with_len 0 (length events))

-- the words of the event of a row that stand and are not in the list
abbrev pub words_of_row : (list : List (List ℕ)) → Row → List (List ℕ)
words_of_row list row = unlisted_of list (standing_words (state_of row.following).latest)

unfoldable pub words_of_rows : (list : List (List ℕ)) → List Row → List (List ℕ)
words_of_rows list rows = flat_map (words_of_row list) rows

-- Which numbers stay wrong with a change, of those that count: on a record all of them do (`wrong_with`), on a draft those that are written.
abbrev pub Weighing : Type 0
Weighing = Change → (written right : List Event) → List WrongNumber

-- how many numbers and words stay wrong
abbrev pub count_remaining : Rules → (list : List (List ℕ)) → Change → (written right : List Event) → ℕ
count_remaining rules list change written right = length (wrong_with change written right) + length (unlisted_words rules list right)

abbrev pub count_by : (weigh : Weighing) → Rules → (list : List (List ℕ)) → Change → (written right : List Event) → ℕ
count_by weigh rules list change written right = length (weigh change written right) + length (unlisted_words rules list right)

-- fewer than these, if there is a number that they must stay below
abbrev pub AreFewer : (below : Option ℕ) → (many : ℕ) → Type 0
AreFewer None many = ⊤
AreFewer (Some below) many = many < below

-- what stays wrong
pub record Remain (weigh : Weighing) (rules : Rules) (list : List (List ℕ)) (change : Change) (written right : List Event) (remains : Remains) : Type 0 where
  pub wrong : remains.wrong.items ≡ weigh change written right
  pub unlisted : letters_in remains.unlisted.items ≡ unlisted_words rules list right
