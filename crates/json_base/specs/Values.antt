-- The values that many answers have.
use Rattle.std.specs.Prelude.{ℕ, List, [], ◌∷◌, codes, map, Option, option_map}
use Rattle.json.specs.Json.{Json, null, string}
use Rattle.json_trees.specs.Values.{Field, array_of, count, object_of, or_null, text}
use Rattle.ref_board.specs.declared.directions.Dir.{Dir}
use Rattle.ref_tiles.specs.declared.symbols.Symbol.{Symbol}
use Rattle.gcg_write.specs.Fields.{position_text, tiles_text, word_text}
use Rattle.gcg_unread.specs.declared.lines.UnreadLine.{UnreadLine}
use Rattle.gcg_unread.specs.Reasons.{name_of}

-- a text, or null if it is empty
abbrev pub given_text : List ℕ → Json
given_text [] = null
given_text (byte ∷ bytes) = text (byte ∷ bytes)

-- tiles, A to Z and then '?'
abbrev pub tiles_value : List ℕ → Json
tiles_value tiles = text (tiles_text tiles)

-- the tiles of a rack that is stated
abbrev pub rack_value : Option (List ℕ) → Json
rack_value rack = or_null (option_map tiles_value rack)

-- where a play begins, as event lines have it: 8D across, D8 down
abbrev pub place_value : ℕ → Dir → Json
place_value at dir = text (position_text at dir)

-- the text of a play, as event lines have it
abbrev pub symbols_value : List Symbol → Json
symbols_value word = text (word_text word)

-- a line that is not read although it looks like an event, and why it is not read
abbrev pub unread_fields : UnreadLine → List Field
unread_fields unread = (codes "line", count unread.line) ∷ (codes "why", string (name_of unread.why)) ∷ []

abbrev pub unread_object : UnreadLine → Json
unread_object unread = object_of (unread_fields unread)

-- all of them, in their order
abbrev pub unread_value : List UnreadLine → Json
unread_value lines = array_of (map unread_object lines)
