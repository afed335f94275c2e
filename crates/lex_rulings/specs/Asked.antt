-- Words that are asked about.
use Rattle.std.specs.Prelude.{ℕ, Bool, ◌&&◌, List, Option, Some, None, if◌then◌else◌}
use Rattle.std.specs.Char.{is_ascii_alphabetic}
use Rattle.std.specs.List.{list_all}
use Rattle.lex_list.specs.Lists.{capitals}
use Rattle.lex_list.specs.Words.{has_word_length}
use Rattle.lex_rulings.specs.declared.asked.AskedWord.{AskedWord}

-- only letters, of either case, and as many as a word may have
abbrev pub is_word : List ℕ → Bool
is_word text = list_all is_ascii_alphabetic text && has_word_length text

-- the letters of a word
abbrev pub letters_of : AskedWord → List ℕ
letters_of word = word.letters.items

-- the word that a text asks about, in capitals; none if it is not a word
abbrev pub asked_of : List ℕ → Option (List ℕ)
asked_of text = if is_word text then Some (capitals text) else None
