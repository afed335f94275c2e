-- Words, their order, and sets of words.
use Rattle.std.specs.Prelude.{◌≡◌, ℕ, ◌≤◌, Bool, true, ◌&&◌, nat_le, nat_eq, List, length}
use Rattle.std.specs.Char.{is_ascii_uppercase}
use Rattle.std.specs.Cmp.Lexicographic.{pointwise, slice_cmp}
use Rattle.std.specs.List.{list_all, list_any}
use Rattle.std.specs.List.Sorted.{IsStrictlySortedBy}
use Rattle.std.specs.Ordering.{nat_cmp}
use Rattle.std.specs.declared.cmp.Ordering.{Ordering}

-- the most words of a list
unfoldable pub most_words : ℕ
most_words = 400000

-- the fewest and the most letters of a word
abbrev pub fewest_letters : ℕ
fewest_letters = 2

abbrev pub most_letters : ℕ
most_letters = 15

-- a word has 2 to 15 letters
abbrev pub has_word_length : List ℕ → Bool
has_word_length word = nat_le fewest_letters (length word) && nat_le (length word) most_letters

-- 2 to 15 capitals
abbrev pub is_word : List ℕ → Bool
is_word word = list_all is_ascii_uppercase word && has_word_length word

-- words with only capitals
abbrev pub has_capitals_alone : List (List ℕ) → Bool
has_capitals_alone words = list_all (list_all is_ascii_uppercase) words

-- the order of words: byte by byte, with a word before all longer words that begin with it
abbrev pub word_order : List ℕ → List ℕ → Ordering
word_order = slice_cmp nat_cmp

-- whether bytes are one of the words
unfoldable pub is_listed : List (List ℕ) → List ℕ → Bool
is_listed words word = list_any (pointwise nat_eq word) words

-- what a word list is: words in byte order, each once, and not too many
pub record IsWordList (words : List (List ℕ)) : Type 0 where
  pub ordered : IsStrictlySortedBy word_order words
  pub each : list_all is_word words ≡ true
  pub few : length words ≤ most_words
