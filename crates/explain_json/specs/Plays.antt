-- Facts about the text or the placement of a play, and about a play with another tile in one place, as objects.
use Rattle.std.specs.Prelude.{ℕ, ℤ, List, [], ◌∷◌, codes}
use Rattle.json.specs.Json.{Json, string}
use Rattle.json_trees.specs.Values.{count, integer, object_of}
use Rattle.ref_board.specs.declared.directions.Dir.{Dir}
use Rattle.ref_tiles.specs.declared.kinds.Kind.{Kind}
use Rattle.explain_facts.specs.declared.facts.plays.PlayFact.{PlayFact}
use Rattle.explain_facts.specs.declared.facts.plays.PlayFact.TheVariants as play
use Rattle.explain_facts.specs.declared.facts.readings.ReadingFact.{ReadingFact}
use Rattle.explain_facts.specs.declared.facts.readings.ReadingFact.TheVariants as reading
use Rattle.game_turns.specs.declared.unlisted.SpelledWord.{SpelledWord}
use Rattle.json_base.specs.Faults.{tile_value}
use Rattle.json_base.specs.Values.{tiles_value}
use Rattle.json_base.specs.Words.{direction_word}
use Rattle.explain_json.specs.Parts.{bare, byte_value, named, square_value, words_value}

-- where a play begins, how many squares it needs, and how many there are
abbrev pub end_object : (at : ℕ) → Dir → (squares room : ℕ) → Json
end_object at dir squares room = object_of (
    named (codes "LeavesBoard")
    ∷ (codes "square", square_value at)
    ∷ (codes "direction", string (direction_word dir))
    ∷ (codes "number", count squares)
    ∷ (codes "limit", count room)
    ∷ [])

-- a square
abbrev pub square_object : (name : List ℕ) → (square : ℕ) → Json
square_object name square = object_of (named name ∷ (codes "square", square_value square) ∷ [])

-- a square, and the tile that is there
abbrev pub tile_object : (name : List ℕ) → (square shown : ℕ) → Json
tile_object name square shown = object_of (
    named name
    ∷ (codes "square", square_value square)
    ∷ (codes "tile", byte_value shown)
    ∷ [])

-- a square, the letter of the play there, and the one that the tile shows
abbrev pub letter_object : (square written shown : ℕ) → Json
letter_object square written shown = object_of (
    named (codes "OtherLetter")
    ∷ (codes "square", square_value square)
    ∷ (codes "letter", byte_value written)
    ∷ (codes "tile", byte_value shown)
    ∷ [])

-- how many tiles there are, and how many there may be
abbrev pub count_object : (tiles : ℕ) → Json
count_object tiles = object_of (
    named (codes "ManyTiles")
    ∷ (codes "number", count tiles)
    ∷ (codes "limit", count 7)
    ∷ [])

abbrev pub play_object : PlayFact → Json
play_object (play.LeavesBoard at dir squares room) = end_object at dir squares room
play_object (play.DotOnEmpty square) = square_object (codes "DotOnEmpty") square
play_object (play.OtherLetter square written shown) = letter_object square written shown
play_object play.NoNewTile = bare (codes "NoNewTile")
play_object (play.ManyTiles tiles) = count_object tiles
play_object (play.TileBefore square letter) = tile_object (codes "TileBefore") square letter
play_object (play.TileAfter square letter) = tile_object (codes "TileAfter") square letter
play_object play.NotWhole = bare (codes "NotWhole")
play_object play.MissesCentre = bare (codes "MissesCentre")
play_object play.TooShort = bare (codes "TooShort")
play_object play.Apart = bare (codes "Apart")

-- a square, the letter of the play there, what is read there, and the score with it
abbrev pub as_blank_object : (square letter read : ℕ) → (score : ℤ) → Json
as_blank_object square letter read score = object_of (
    named (codes "AsBlank")
    ∷ (codes "square", square_value square)
    ∷ (codes "letter", byte_value letter)
    ∷ (codes "read", byte_value read)
    ∷ (codes "score", integer score)
    ∷ [])

-- how many tiles of a kind the play uses, and how many the rack has
abbrev pub not_on_rack_object : Kind → (played has : ℕ) → (rack : List ℕ) → Json
not_on_rack_object kind played has rack = object_of (
    named (codes "NotOnRack")
    ∷ (codes "tile", tile_value kind)
    ∷ (codes "rack", tiles_value rack)
    ∷ (codes "number", count played)
    ∷ (codes "limit", count has)
    ∷ [])

-- the same as for a blank, with the score that is written and the words of the play
abbrev pub misread_object : (square letter read : ℕ) → List SpelledWord → (score written : ℤ) → Json
misread_object square letter read words score written = object_of (
    named (codes "Misread")
    ∷ (codes "square", square_value square)
    ∷ (codes "letter", byte_value letter)
    ∷ (codes "read", byte_value read)
    ∷ (codes "score", integer score)
    ∷ (codes "written", integer written)
    ∷ (codes "words", words_value words)
    ∷ [])

abbrev pub reading_object : ReadingFact → Json
reading_object (reading.AsBlank square letter read score) = as_blank_object square letter read score
reading_object (reading.NotOnRack kind played has rack) = not_on_rack_object kind played has rack
reading_object (reading.Misread square letter read words score written) = misread_object square letter read words.items score written
