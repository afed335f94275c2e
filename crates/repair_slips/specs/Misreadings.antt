-- One tile that is misread twice on a line: on the stated rack, and in the word of the play or among the exchanged tiles.
use Rattle.std.specs.Prelude.{ℕ, ◌==◌, ◌&&◌, List, [], ◌∷◌, length, Option, Some, None, slice_get, if◌then◌else◌}
use Rattle.ref_tiles.specs.declared.letters.Letter.{Letter}
use Rattle.ref_tiles.specs.declared.kinds.Kind.{Kind}
use Rattle.ref_tiles.specs.declared.kinds.Kind.TheVariants as tile
use Rattle.ref_tiles.specs.declared.symbols.Symbol.{Symbol}
use Rattle.ref_tiles.specs.declared.symbols.Symbol.TheVariants as symbol
use Rattle.ref_tiles.specs.Kinds.{number_of}
use Rattle.gcg_read.specs.declared.events.Event.{Event}
use Rattle.gcg_read.specs.declared.events.EventKind.{EventKind}
use Rattle.gcg_read.specs.declared.events.EventKind.TheVariants as kind
use Rattle.repair_changes.specs.declared.slips.Slip.{Slip}
use Rattle.repair_changes.specs.declared.slips.Slip.TheVariants as slip
use Rattle.repair_changes.specs.declared.slips.Misread.TheVariants as misread
use Rattle.repair_slips.specs.Each.{lists_below, for_letters, for_kinds}
use Rattle.repair_slips.specs.Tiles.{has}

-- ---- on the rack and in the word

-- another letter in place of this one, on the rack and at a place of the word
abbrev pub misread_letter : (place : ℕ) → (written : Letter) → (right : Letter) → List Slip
misread_letter place written right = if right.index == written.index then [] else slip.Misread (misread.Played place written right) ∷ []

-- each other letter in place of this one, if the rack has one
abbrev pub misread_letters : (rack : List ℕ) → (place : ℕ) → (written : Letter) → List Slip
misread_letters rack place written = if has rack (tile.Letter written) then for_letters (misread_letter place written) else []

-- a dot is not on the rack, and neither is the letter that a blank shows
abbrev pub misread_symbol : (rack : List ℕ) → (place : ℕ) → Option Symbol → List Slip
misread_symbol rack place (Some (symbol.Letter written)) = misread_letters rack place written
misread_symbol rack place (Some symbol.Dot) = []
misread_symbol rack place (Some (symbol.Blank shown)) = []
misread_symbol rack place None = []

abbrev pub misread_at : (rack : List ℕ) → (word : List Symbol) → (place : ℕ) → List Slip
misread_at rack word place = misread_symbol rack place (slice_get word place)

-- each letter of the word may have been another one
unfoldable pub misread_word : (rack : List ℕ) → (word : List Symbol) → List Slip
misread_word rack word = lists_below (misread_at rack word) (length word)

-- ---- on the rack and in the exchange

-- another tile in place of this one
abbrev pub misread_tile : (written : Kind) → (right : Kind) → List Slip
misread_tile written right = if number_of right == number_of written then [] else slip.Misread (misread.Exchanged written right) ∷ []

-- each other tile in place of this one, if it is on the rack and is exchanged
abbrev pub misread_tiles : (rack exchanged : List ℕ) → (written : Kind) → List Slip
misread_tiles rack exchanged written = if has rack written && has exchanged written then for_kinds (misread_tile written) else []

-- each exchanged tile may have been another one
unfoldable pub misread_exchange : (rack exchanged : List ℕ) → List Slip
misread_exchange rack exchanged = for_kinds (misread_tiles rack exchanged)

-- ---- on a line

abbrev pub misread_with : (rack : List ℕ) → EventKind → List Slip
misread_with rack (kind.Play at dir word) = misread_word rack word
misread_with rack (kind.Exchange exchanged) = misread_exchange rack exchanged
misread_with rack other = []

abbrev pub misread_by : (rack : Option (List ℕ)) → EventKind → List Slip
misread_by None what = []
misread_by (Some rack) what = misread_with rack what

-- what may be misread twice on a line that states the rack of a play or of an exchange
abbrev pub misread_slips : Event → List Slip
misread_slips e = misread_by e.rack e.kind
