-- The word list of a text: the set of the words of its lines, or the first fault.
use Rattle.std.specs.Prelude.{◌≡◌, ◌≢◌, ◌⊎◌, ℕ, ◌<◌, ◌≤◌, nat_lt, nat_le, List, [], ◌∷◌, length, map, Option, Some, None, Result, Ok, Err, ◌↔◌, if◌then◌else◌}
use Rattle.std.specs.BTreeSet.{insert_key}
use Rattle.std.specs.Char.{is_ascii_alphabetic, to_ascii_uppercase}
use Rattle.std.specs.List.{fold, list_all, Any, Contains}
use Rattle.std.specs.Prelude.{option_map}
use Rattle.first_faults.specs.Checks.{passes, first_fault, or_fault}
use Rattle.first_faults.specs.FirstBad.{first_bad, IsFirstBad}
use Rattle.lex_list.specs.declared.faults.ListWhy.{ListWhy}
use Rattle.lex_list.specs.declared.faults.ListWhy.TheVariants as why
use Rattle.lex_list.specs.declared.faults.ListFault.{ListFault}
use Rattle.lex_list.specs.Faults.{no_memory}
use Rattle.lex_list.specs.Lines.{lines_of}
use Rattle.lex_list.specs.Words.{most_words, has_word_length, word_order}

-- the most bytes of a text: 16 MiB
abbrev pub most_list_bytes : ℕ
most_list_bytes = 16777216

-- the letters of a line as capitals
abbrev pub capitals : List ℕ → List ℕ
capitals line = map to_ascii_uppercase line

-- The set of words with that of one more line, if the line is not empty. A word that is already there stays once.
unfoldable pub with_line : List (List ℕ) → List ℕ → List (List ℕ)
with_line words [] = words
with_line words (byte ∷ line) = insert_key word_order words (capitals (byte ∷ line))

-- the words of lines, each once, in byte order
unfoldable pub words_in : List (List ℕ) → List (List ℕ)
words_in lines = fold with_line [] lines

-- what is wrong with the bytes of a line that is not empty: they must all be letters, in either case, and 2 to 15
unfoldable pub spelling_fault : List ℕ → Option ListWhy
spelling_fault line =
    first_fault (passes (list_all is_ascii_alphabetic line) why.BadLetter ∷ passes (has_word_length line) why.BadLength ∷ [])

-- What is wrong with a line after these words: its bytes, or with its word there are too many. An empty line is ignored.
unfoldable pub fault_of : List (List ℕ) → List ℕ → Option ListWhy
fault_of words [] = None
fault_of words (byte ∷ line) =
    first_fault (spelling_fault (byte ∷ line) ∷ passes (nat_le (length (with_line words (byte ∷ line))) most_words) why.TooMany ∷ [])

-- a fault on a line
abbrev pub at_line : ℕ → ListWhy → ListFault
at_line line w = record { line = line; why = w }

-- what is wrong with a line after these lines
abbrev pub fault_after : List (List ℕ) → List ℕ → Option ListWhy
fault_after before line = fault_of (words_in before) line

-- the first fault of further lines; the lines before them have none, and are numbered from 1
unfoldable pub first_bad_line : List (List ℕ) → List (List ℕ) → Option ListFault
first_bad_line before lines = first_bad at_line fault_after before lines

-- the words of lines, or their first fault
unfoldable pub list_in : List (List ℕ) → Result (List (List ℕ)) ListFault
list_in lines = or_fault (first_bad_line [] lines) (words_in lines)

-- the words of a text that is not too long, or its first fault
unfoldable pub list_of : List ℕ → Result (List (List ℕ)) ListFault
list_of text = if nat_lt most_list_bytes (length text) then Err (at_line 0 why.TooLong) else list_in (lines_of text)

-- ---- the same in other words

-- a line holds a word: it is not empty, and its letters are those of the word
pub record Holds (word line : List ℕ) : Type 0 where
  pub filled : line ≢ []
  pub letters : capitals line ≡ word

-- the words of a list are exactly those on the lines
abbrev pub HoldsWordsOf : List (List ℕ) → List (List ℕ) → Type 0
HoldsWordsOf words lines = (word : List ℕ) → Contains words word ↔ Any (Holds word) lines

-- A line is the first with a fault: the lines before it have none, and after their words it has this one. Lines are
-- numbered from 1.
abbrev pub IsFirstFault : List (List ℕ) → ListFault → Type 0
IsFirstFault lines fault = IsFirstBad at_line fault_after lines fault

-- the fault of a text, apart from lack of memory: it is too long, or else a line of it is the first with a fault
abbrev pub IsFaultOf : List ℕ → ListFault → Type 0
IsFaultOf text fault =
    (fault ≡ no_memory)
    ⊎ (((most_list_bytes < length text) × (fault ≡ at_line 0 why.TooLong)) ⊎ ((length text ≤ most_list_bytes) × IsFirstFault (lines_of text) fault))

-- ---- what the reader answers

-- the words with those of one more line, or its fault
abbrev pub line_in : List (List ℕ) → ℕ → List ℕ → Result (List (List ℕ)) ListFault
line_in words line text = or_fault (option_map (at_line line) (fault_of words text)) (with_line words text)

-- `new` is what a line makes of the words, unless the call fails
abbrev pub Makes : List (List ℕ) → Result (Unit {0}) ListFault → Result (List (List ℕ)) ListFault → Type 0
Makes new (Ok _) meaning = meaning ≡ Ok new
Makes new (Err fault) meaning = (fault ≡ no_memory) ⊎ (meaning ≡ Err fault)

-- the words that were read are those of the lines
abbrev pub Reads : Result (List (List ℕ)) ListFault → Result (List (List ℕ)) ListFault → Type 0
Reads (Ok words) meaning = meaning ≡ Ok words
Reads (Err fault) meaning = (fault ≡ no_memory) ⊎ (meaning ≡ Err fault)

-- the word of a line
abbrev pub IsWordIn : Result (List ℕ) ListWhy → List ℕ → Type 0
IsWordIn (Ok word) line = (spelling_fault line ≡ None) × (word ≡ capitals line)
IsWordIn (Err w) line = spelling_fault line ≡ Some w
