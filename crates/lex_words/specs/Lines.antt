-- The lines of a text that are words of a list.
use Rattle.std.specs.Prelude.{ℕ, Bool, true, false, ◌&&◌, List, [], ◌∷◌, map, if◌then◌else◌}
use Rattle.std.specs.Char.{is_ascii_alphabetic}
use Rattle.std.specs.List.{list_all, join_with_byte, slice_split}
use Rattle.text_lines.specs.Lines.{is_feed, without_return, without_mark}
use Rattle.lex_list.specs.Words.{has_word_length}

-- only letters, of either case, and as many as a word may have
abbrev pub is_word : List ℕ → Bool
is_word line = list_all is_ascii_alphabetic line && has_word_length line

-- what a word list reads from a line: a CR at its end does not count, nor does a byte order mark in the first line of a text
abbrev pub bare_line : (first : Bool) → List ℕ → List ℕ
bare_line true line = without_return (without_mark line)
bare_line false line = without_return line

abbrev pub is_kept : (first : Bool) → List ℕ → Bool
is_kept first line = is_word (bare_line first line)

-- a line that is a word, and nothing of any other line
unfoldable pub kept_of : (first : Bool) → List ℕ → List ℕ
kept_of first line = if is_kept first line then line else []

abbrev pub kept_lines : List (List ℕ) → List (List ℕ)
kept_lines [] = []
kept_lines (line ∷ lines) = kept_of true line ∷ map (kept_of false) lines

-- a text with nothing in place of each line that is not a word, so that lines keep their numbers
unfoldable pub word_lines : List ℕ → List ℕ
word_lines text = join_with_byte 10 (kept_lines (slice_split is_feed text))
