-- What facts of several families have.
use Rattle.std.specs.Prelude.{ℕ, List, [], ◌∷◌, codes, map}
use Rattle.json.specs.Json.{Json, string}
use Rattle.json_trees.specs.Values.{Field, array_of, count, object_of, text}
use Rattle.ref_board.specs.declared.directions.Dir.TheVariants.{Across}
use Rattle.game_turns.specs.declared.unlisted.SpelledWord.{SpelledWord}
use Rattle.json_base.specs.Values.{place_value}

-- the name of a fact
abbrev pub named : List ℕ → Field
named name = (codes "name", string name)

-- a fact that has only its name
abbrev pub bare : List ℕ → Json
bare name = object_of (named name ∷ [])

-- a square by its row and its column: 8H
abbrev pub square_value : ℕ → Json
square_value square = place_value square Across

-- a letter or a tile by its byte
abbrev pub byte_value : ℕ → Json
byte_value byte = text (byte ∷ [])

-- words of plays
abbrev pub spelled_value : SpelledWord → Json
spelled_value word = text word.letters.items

abbrev pub words_value : List SpelledWord → Json
words_value words = array_of (map spelled_value words)

-- numbers of lines, or of other things
abbrev pub numbers_value : List ℕ → Json
numbers_value numbers = array_of (map count numbers)
