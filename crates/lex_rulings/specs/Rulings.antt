-- What a list says of words.
use Rattle.std.specs.Prelude.{◌≡◌, ℕ, Bool, List, map}
use Rattle.std.specs.List.{list_all}
use Rattle.lex_list.specs.Words.{is_listed}
use Rattle.lex_rulings.specs.declared.asked.AskedWord.{AskedWord}
use Rattle.lex_rulings.specs.declared.rulings.Ruling.{Ruling}
use Rattle.lex_rulings.specs.Asked.{letters_of}

-- a word is acceptable exactly if it is in the list
abbrev pub is_acceptable : (list : List (List ℕ)) → AskedWord → Bool
is_acceptable list word = is_listed list (letters_of word)

-- the ruling on words: for each whether it is acceptable, and all together are acceptable exactly if each is
pub record IsRuling (list : List (List ℕ)) (words : List AskedWord) (r : Ruling) : Type 0 where
  pub each : r.each.items ≡ map (is_acceptable list) words
  pub together : r.acceptable ≡ list_all (is_acceptable list) words
