-- What is known of a sheet of which a line may be missing: what its players had, and which numbers are wrong.
use Rattle.std.specs.Prelude.{◌≡◌, ℕ, ℤ, ◌+ℤ◌, ◌+◌, Bool, List, length, slice_get, Option, Some, None, if◌then◌else◌}
use Rattle.std.specs.Ordering.{int_eq}
use Rattle.gcg_read.specs.Players.{same_seat}
use Rattle.gcg_read.specs.declared.events.Event.{Event}
use Rattle.gcg_read.specs.declared.events.Seat.{Seat}
use Rattle.gcg_read.specs.declared.events.Seat.TheVariants.{First, Second}
use Rattle.game_walk.specs.declared.numbers.Numbers.{Numbers}
use Rattle.game_corrections.specs.WrongNumbers.{had_before, is_right_sum}
use Rattle.repair_changes.specs.declared.slips.Change.{Change}
use Rattle.repair_changes.specs.declared.slips.Slip.{Slip}
use Rattle.repair_changes.specs.declared.slips.Slip.TheVariants as slip

-- A sheet of these events, whatever numbers the missing line has, if there is one.
pub record IsSheetBut (events : List Event) (missing : Option ℕ) (sheet : List Event) : Type 0 where
  pub as_many : length sheet ≡ length events
  pub same : (place : ℕ) → (missing ≡ Some place → ⊥) → slice_get sheet place ≡ slice_get events place
  pub players : (place : ℕ) (e x : Event) → slice_get events place ≡ Some e → slice_get sheet place ≡ Some x → x.player ≡ e.player

-- the place of a line that is missing
abbrev pub place_by : Slip → (place : ℕ) → Option ℕ
place_by (slip.Missing line) place = Some place
place_by other place = None

abbrev pub missing_place : Change → Option ℕ
missing_place change = place_by change.slip change.place

-- What a player had before a place, if it is known whatever numbers the missing line has.
abbrev pub Knows : Seat → (sheet : List Event) → (place : ℕ) → Option ℤ → Type 0
Knows player sheet place had = (h : ℤ) → had ≡ Some h → had_before sheet player place ≡ h

-- the same after one more line of this player, with this total
abbrev pub next_had : Option ℤ → (owner : Seat) → (total : ℤ) → (player : Seat) → (is_missing : Bool) → Option ℤ
next_had had owner total player is_missing = if same_seat owner player then (if is_missing then None else Some total) else had

-- what one of the players had
abbrev pub had_of : (first second : Option ℤ) → Seat → Option ℤ
had_of first second First = first
had_of first second Second = second

-- 1 if a score is wrong, 0 if it is right
abbrev pub count_scores : (written right : ℤ) → ℕ
count_scores written right = if int_eq written right then 0 else 1

-- the same for a total, by what its player had
abbrev pub count_sums : (had : ℤ) → (written right : Numbers) → ℕ
count_sums had written right = if is_right_sum written.total (had +ℤ written.score) (Some right.total) then 0 else 1

-- the same if it is not known what the player had: 0, since the total may be right
abbrev pub known_sums : Option ℤ → (written right : Numbers) → ℕ
known_sums None written right = 0
known_sums (Some had) written right = count_sums had written right

-- How many numbers of a line are wrong, as far as that is known. Those of the missing line count as right whatever they are.
abbrev pub count_numbers : (is_missing : Bool) → Option ℤ → (written right : Numbers) → ℕ
count_numbers is_missing had written right = if is_missing then 0 else count_scores written.score right.score + known_sums had written right
