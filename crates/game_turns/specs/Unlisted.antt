-- The words of a play that are not in the list.
use Rattle.std.specs.Prelude.{ℕ, List, [], ◌∷◌, map, if◌then◌else◌}
use Rattle.std.specs.List.{flat_map}
use Rattle.lex_list.specs.Words.{is_listed}
use Rattle.game_turns.specs.declared.unlisted.SpelledWord.{SpelledWord}

-- the letters of words
abbrev pub letters_in : List SpelledWord → List (List ℕ)
letters_in words = map (λ (word : SpelledWord). word.letters.items) words

-- a word, if it is not in the list
abbrev pub unlisted_one : (list : List (List ℕ)) → List ℕ → List (List ℕ)
unlisted_one list word = if is_listed list word then [] else word ∷ []

-- the words that are not in the list, in their order
abbrev pub unlisted_of : (list : List (List ℕ)) → List (List ℕ) → List (List ℕ)
unlisted_of list words = flat_map (unlisted_one list) words
