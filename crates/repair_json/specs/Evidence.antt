-- What stays wrong of a sheet, as an object.
use Rattle.std.specs.Prelude.{ℕ, ℤ, ◌-◌, List, [], ◌∷◌, codes, length, map, Option, Some, None}
use Rattle.std.specs.List.{filter_map}
use Rattle.json.specs.Json.{Json, string}
use Rattle.json_trees.specs.Values.{Field, array_of, count, integer, object_of, text}
use Rattle.game_turns.specs.declared.unlisted.SpelledWord.{SpelledWord}
use Rattle.game_corrections.specs.declared.wrong_numbers.WrongNumber.{WrongNumber}
use Rattle.game_corrections.specs.declared.wrong_numbers.WrongNumber.TheVariants as wrong
use Rattle.game_corrections.specs.WrongNumbers.{due}
use Rattle.repair_single.specs.declared.remains.Remains.{Remains}

-- a number that is wrong on a line
abbrev pub wrong_fields : (what : List ℕ) → (line : ℕ) → (written right : ℤ) → List Field
wrong_fields what line written right =
    (codes "wrong", string what)
    ∷ (codes "line", count line)
    ∷ (codes "written", integer written)
    ∷ (codes "right", integer right)
    ∷ []

abbrev pub wrong_on : (what : List ℕ) → (line : ℕ) → (written right : ℤ) → Json
wrong_on what line written right = object_of (wrong_fields what line written right)

-- a score or a sum; not a last total, which the lines give too
abbrev pub wrong_object : WrongNumber → Option Json
wrong_object (wrong.Score line written right) = Some (wrong_on (codes "score") line written right)
wrong_object (wrong.Sum line written sum right) = Some (wrong_on (codes "sum") line written (due sum right))
wrong_object (wrong.Total player written right) = None

abbrev pub wrong_value : List WrongNumber → Json
wrong_value numbers = array_of (filter_map wrong_object numbers)

abbrev pub word_value : SpelledWord → Json
word_value word = text word.letters.items

-- how many numbers the sheet has, how many are right, those that are wrong, and the words that are not in the list
abbrev pub evidence_fields : Remains → (numbers : ℕ) → List Field
evidence_fields remains numbers =
    (codes "numbers", count numbers)
    ∷ (codes "numbers_right", count (numbers - length remains.wrong.items))
    ∷ (codes "wrong", wrong_value remains.wrong.items)
    ∷ (codes "unlisted", array_of (map word_value remains.unlisted.items))
    ∷ []

abbrev pub evidence_object : Remains → (numbers : ℕ) → Json
evidence_object remains numbers = object_of (evidence_fields remains numbers)
