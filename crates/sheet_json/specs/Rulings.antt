-- The ruling on words as an object.
use Rattle.std.specs.Prelude.{ℕ, Bool, true, false, List, [], ◌∷◌, codes, length, slice_get, Option, option_map}
use Rattle.std.specs.List.{filter_map, range_with_len}
use Rattle.std.specs.Option.{option_and_then}
use Rattle.json.specs.Json.{Json, boolean, null, string}
use Rattle.json_trees.specs.Values.{Field, array_of, object_of, text}
use Rattle.lex_rulings.specs.declared.asked.AskedWord.{AskedWord}
use Rattle.lex_rulings.specs.declared.rulings.Ruling.{Ruling}

-- a word, and whether it is in the list
abbrev pub word_fields : AskedWord → (acceptable : Bool) → List Field
word_fields word acceptable = (codes "word", text word.letters.items) ∷ (codes "acceptable", boolean acceptable) ∷ []

abbrev pub word_object : AskedWord → (acceptable : Bool) → Json
word_object word acceptable = object_of (word_fields word acceptable)

-- the word at a place, with what is said of it
abbrev pub word_with : (each : List Bool) → (place : ℕ) → AskedWord → Option Json
word_with each place word = option_map (word_object word) (slice_get each place)

unfoldable pub word_at : List AskedWord → (each : List Bool) → (place : ℕ) → Option Json
word_at words each place = option_and_then (word_with each place) (slice_get words place)

-- whether all of them are in the list
abbrev pub ruling_name : Bool → List ℕ
ruling_name true = codes "acceptable"
ruling_name false = codes "not acceptable"

-- the ruling on all words together, and on each
abbrev pub ruling_fields : List AskedWord → Ruling → List Field
ruling_fields words ruling =
    (codes "verdict", string (ruling_name ruling.acceptable))
    ∷ (codes "line", null)
    ∷ (codes "fault", null)
    ∷ (codes "words", array_of (filter_map (word_at words ruling.each.items) (range_with_len 0 (length words))))
    ∷ []

abbrev pub ruling_object : List AskedWord → Ruling → Json
ruling_object words ruling = object_of (ruling_fields words ruling)

-- a text is not a word
abbrev pub no_word_fields : List Field
no_word_fields =
    (codes "verdict", string (codes "bad word"))
    ∷ (codes "line", null)
    ∷ (codes "fault", null)
    ∷ []

abbrev pub no_word_object : Json
no_word_object = object_of no_word_fields
