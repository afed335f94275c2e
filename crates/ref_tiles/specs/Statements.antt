-- What a line of a rules text states, or which fault it has.
use Rattle.std.specs.Prelude.{ℕ, ◌+◌, ◌-◌, ◌<◌, ◌==◌, ◌&&◌, nat_le, nat_lt, eqb, Bool, List, [], ◌∷◌, length, codes, Option, Some, None, is_some, Result, Ok, Err, if◌then◌else◌}
use Rattle.std.specs.List.{list_all, filter_map, starts_with}
use Rattle.std.specs.Option.{ok_or, option_and_then}
use Rattle.std.specs.Str.{bytes_eq}
use Rattle.text_lines.specs.Fields.{fields_of}
use Rattle.text_lines.specs.Numerals.{numeral}
use Rattle.ref_tiles.specs.declared.rules_faults.RulesWhy.{RulesWhy}
use Rattle.ref_tiles.specs.declared.rules_faults.RulesWhy.TheVariants as why
use Rattle.ref_tiles.specs.declared.kinds.Kind.{Kind}
use Rattle.ref_tiles.specs.declared.premiums.Premium.{Premium}
use Rattle.ref_tiles.specs.declared.statements.Statement.{Statement}
use Rattle.ref_tiles.specs.declared.statements.Entry.TheVariants as entry
use Rattle.ref_tiles.specs.Kinds.{number_of, kind_of}
use Rattle.ref_tiles.specs.Codes.{premium_of}

-- ---- the 47 items of a rules text

-- the items of tiles are the numbers of their kinds, 0 to 26; those of rows follow, the row counted from 0
abbrev pub row_item : ℕ → ℕ
row_item row = 27 + row

-- and then the five parameters
unfoldable pub parameter_in : List ℕ → Option ℕ
parameter_in name =
    if bytes_eq name (codes "bonus") then Some 42
    else (if bytes_eq name (codes "exchange_min") then Some 43
    else (if bytes_eq name (codes "zero_limit") then Some 44
    else (if bytes_eq name (codes "challenge_unit") then Some 45
    else (if bytes_eq name (codes "time_step") then Some 46 else None))))

-- ---- fields

-- a tile, A to Z or '?'
abbrev pub kind_in : List ℕ → Option Kind
kind_in (byte ∷ []) = kind_of byte
kind_in [] = None
kind_in (byte ∷ more ∷ bytes) = None

-- a row, 1 to 15 in one or two digits, counted from 0
abbrev pub row_in : List ℕ → Option ℕ
row_in digits = option_and_then (λ n. if nat_le 1 n && nat_le n 15 then Some (n - 1) else None) (numeral 2 digits)

-- the 15 codes of a row
abbrev pub is_code : ℕ → Bool
is_code byte = is_some (premium_of byte)

abbrev pub premiums_in : List ℕ → Option (List Premium)
premiums_in bytes = if length bytes == 15 && list_all is_code bytes then Some (filter_map premium_of bytes) else None

-- ---- statements

-- the steps of a reading in order, up to the first that fails
infixl 10 ◌>>=◌
abbrev pub ◌>>=◌ : {A B E : Type 0} → Result A E → (A → Result B E) → Result B E
(Ok x) >>= f = f x
(Err e) >>= f = Err e

-- the number of tiles of a kind, and their points; the points of a blank (26) are 0
abbrev pub tile_with : ℕ → ℕ → ℕ → Result Statement RulesWhy
tile_with kind number worth =
    if kind == 26 && nat_lt 0 worth then Err why.Number else Ok (record { item = kind; entry = entry.Tile number worth })

-- a tile with its number and its points
unfoldable pub tile_of : List ℕ → List ℕ → List ℕ → Result Statement RulesWhy
tile_of name count points = do
  kind ← ok_or (kind_in name) why.Name
  number ← ok_or (numeral 3 count) why.Number
  worth ← ok_or (numeral 3 points) why.Number
  tile_with (number_of kind) number worth

unfoldable pub tile_in : List (List ℕ) → Result Statement RulesWhy
tile_in (name ∷ count ∷ points ∷ []) = tile_of name count points
tile_in _ = Err why.Fields

-- a row with the premiums of its squares
unfoldable pub row_of : List (List ℕ) → Result Statement RulesWhy
row_of (number ∷ bytes ∷ []) = do
  row ← ok_or (row_in number) why.Name
  premiums ← ok_or (premiums_in bytes) why.Name
  Ok (record { item = row_item row; entry = entry.Row premiums })
row_of _ = Err why.Fields

-- a parameter with its number
unfoldable pub number_in : ℕ → List (List ℕ) → Result Statement RulesWhy
number_in item (digits ∷ []) = do
  number ← ok_or (numeral 3 digits) why.Number
  Ok (record { item = item; entry = entry.Number number })
number_in item _ = Err why.Fields

-- what the fields of a line state
unfoldable pub statement_in : List ℕ → List (List ℕ) → Result Statement RulesWhy
statement_in first fields =
    if bytes_eq first (codes "tile") then tile_in fields
    else (if bytes_eq first (codes "row") then row_of fields
    else (ok_or (parameter_in first) why.Unknown >>= λ item. number_in item fields))

abbrev pub by_fields : List (List ℕ) → Result (Option Statement) RulesWhy
by_fields [] = Ok None
by_fields (first ∷ fields) = statement_in first fields >>= λ s. Ok (Some s)

-- What a line states. One that begins with '#' (35) and one of only blanks are ignored.
unfoldable pub statement_of : List ℕ → Result (Option Statement) RulesWhy
statement_of line = if starts_with eqb line (35 ∷ []) then Ok None else by_fields (fields_of line)

-- ---- what the reader answers

-- a statement is about one of the items
abbrev pub IsPlace : Result Statement RulesWhy → Type 0
IsPlace (Ok s) = s.item < 47
IsPlace (Err w) = Unit {0}

abbrev pub IsLinePlace : Result (Option Statement) RulesWhy → Type 0
IsLinePlace (Ok None) = Unit {0}
IsLinePlace (Ok (Some s)) = s.item < 47
IsLinePlace (Err w) = Unit {0}
