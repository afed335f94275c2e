-- Pragmas that name a player, as the bytes of a record write them.
use Rattle.std.specs.Prelude.{ℕ, ◌-◌, Bool, not, ◌&&◌, ◌==◌, List, length, take, drop, codes, Option, Some, None, if◌then◌else◌}
use Rattle.std.specs.List.{prefix_len, suffix_len, before_first, after_first, list_any}
use Rattle.std.specs.Option.{option_and_then}
use Rattle.std.specs.Str.{bytes_eq}
use Rattle.gcg_read.specs.declared.events.Seat.{Seat}
use Rattle.gcg_read.specs.declared.events.Seat.TheVariants.{First, Second}
use Rattle.gcg_read.specs.declared.pragmas.Naming as pragma
use Rattle.gcg_read.specs.Cutting.{is_blank, is_colon}

-- the text without the blanks at its front
abbrev pub front_trimmed : List ℕ → List ℕ
front_trimmed text = drop (prefix_len is_blank text) text

-- the text without the blanks at its end
abbrev pub end_trimmed : List ℕ → List ℕ
end_trimmed text = take (length text - suffix_len is_blank text) text

-- the text without the blanks at its ends
abbrev pub trimmed : List ℕ → List ℕ
trimmed text = end_trimmed (front_trimmed text)

-- a nickname is not empty and has no colon
abbrev pub is_nick : List ℕ → Bool
is_nick nick = not (length nick == 0) && not (list_any is_colon nick)

-- the player that the word after '#' names
abbrev pub seat_named : List ℕ → Option Seat
seat_named word =
    if bytes_eq word (codes "player1") then Some First
    else (if bytes_eq word (codes "player2") then Some Second else None)

-- the nickname and the full name of a player
pub record Naming : Type 0 where
  pub seat : Seat
  pub nick : List ℕ
  pub full : List ℕ

-- A nickname, which a blank ends, and then a full name, which may have blanks inside and may be empty.
unfoldable pub names_of : List ℕ → Seat → Option Naming
names_of text seat =
    if is_nick (before_first is_blank text)
    then Some (record { seat = seat; nick = before_first is_blank text; full = trimmed (after_first is_blank text) })
    else None

-- The player that a pragma names, after its '#': "player1" or "player2", a blank, and the names. None if it
-- is another pragma, or has no nickname.
unfoldable pub naming_of : List ℕ → Option Naming
naming_of text =
    option_and_then (names_of (front_trimmed (after_first is_blank text))) (seat_named (before_first is_blank text))

-- ---- what the reader answers for a pragma

-- the names that are read
abbrev pub naming_in : Option pragma.Naming → Option Naming
naming_in None = None
naming_in (Some naming) = Some (record { seat = naming.seat; nick = naming.nick.now; full = naming.full.now })
