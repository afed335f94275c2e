-- Codes of events that are not plays, as the bytes of a record write them.
use Rattle.std.specs.Prelude.{ℕ, ◌-◌, ◌==◌, ◌&&◌, nat_le, List, [], ◌∷◌, length, take, eqb, codes, Option, Some, None, if◌then◌else◌}
use Rattle.std.specs.List.{ends_with}
use Rattle.std.specs.Option.{option_or, option_map, option_and_then}
use Rattle.std.specs.Str.{bytes_eq}
use Rattle.gcg_read.specs.declared.events.EventKind.{EventKind}
use Rattle.gcg_read.specs.declared.events.EventKind.TheVariants as kind
use Rattle.gcg_read.specs.Numerals.{numeral}
use Rattle.gcg_read.specs.Racks.{rack_of}

-- the number of exchanged tiles that are not known: one digit, 1 to 7
abbrev pub unknown_of : List ℕ → Option ℕ
unknown_of digit = option_and_then (λ n. if nat_le 1 n && nat_le n 7 then Some n else None) (numeral 1 digit)

-- What follows a '-': the tiles that are exchanged, or their number, nothing for a pass, or a second '-' for a withdrawal.
unfoldable pub dashed_of : List ℕ → Option EventKind
dashed_of bytes =
    option_or (option_map kind.Exchange (rack_of bytes))
    (option_or (option_map kind.ExchangeUnknown (unknown_of bytes))
    (if bytes_eq bytes [] then Some kind.Pass
    else (if bytes_eq bytes (codes "-") then Some kind.Withdraw else None)))

-- what is in round brackets: the tiles of a last rack, or a word
unfoldable pub bracketed_of : List ℕ → Option EventKind
bracketed_of bytes =
    option_or (option_map kind.LastRack (rack_of bytes))
    (if bytes_eq bytes (codes "challenge") then Some kind.Challenge
    else (if bytes_eq bytes (codes "time") then Some kind.Time else None))

-- what follows a '(': what is in the brackets, and a ')' (41)
abbrev pub opened_of : List ℕ → Option EventKind
opened_of bytes = if ends_with eqb bytes (41 ∷ []) then bracketed_of (take (length bytes - 1) bytes) else None

-- what a code says: it begins with '-' (45), or it is in round brackets
abbrev pub code_of : List ℕ → Option EventKind
code_of [] = None
code_of (byte ∷ bytes) = if byte == 45 then dashed_of bytes else (if byte == 40 then opened_of bytes else None)
