-- What a file seems to be, by the signs that it has.
use Rattle.std.specs.Prelude.{ℕ, Bool, false, not, ◌==◌, ◌&&◌, ◌||◌, nat_le, List, [], ◌∷◌, length, codes, if◌then◌else◌}
use Rattle.std.specs.List.{starts_with, list_all, list_any}
use Rattle.std.specs.Char.{is_ascii_alphabetic}
use Rattle.text_lines.specs.Lines.{lines_in, is_feed, without_mark}
use Rattle.text_lines.specs.Fields.{fields_of}
use Rattle.io_kinds.specs.declared.kinds.FileKind.{FileKind}
use Rattle.io_kinds.specs.declared.kinds.FileKind.TheVariants as kind

abbrev pub begins : (front text : List ℕ) → Bool
begins front text = starts_with ◌==◌ text front

abbrev pub is_lexicon : List ℕ → Bool
is_lexicon text = begins (codes "GAD1") text || begins (codes "GAD2") text

abbrev pub is_gzip : List ℕ → Bool
is_gzip text = begins (0x1f ∷ 0x8b ∷ []) text

-- PK, and the numbers of the head of a file in the archive
abbrev pub is_zip : List ℕ → Bool
is_zip text = begins (0x50 ∷ 0x4b ∷ 3 ∷ 4 ∷ []) text

-- a byte order mark of UTF-16, or one of the first two bytes is zero
abbrev pub is_wide : List ℕ → Bool
is_wide [] = false
is_wide (one ∷ []) = one == 0
is_wide (one ∷ two ∷ rest) = one == 255 && two == 254 || one == 254 && two == 255 || one == 0 || two == 0

-- the first of these fields begins with these bytes
abbrev pub first_begins : (front : List ℕ) → List (List ℕ) → Bool
first_begins front [] = false
first_begins front (field ∷ fields) = begins front field

-- <
abbrev pub is_markup : List ℕ → Bool
is_markup text = first_begins (60 ∷ []) (fields_of text)

-- CR
abbrev pub is_return : ℕ → Bool
is_return byte = byte == 13

-- CR and no LF
abbrev pub has_returns_alone : List ℕ → Bool
has_returns_alone text = list_any is_return text && not (list_any is_feed text)

-- > (62) after blanks
abbrev pub is_indented_event : List ℕ → Bool
is_indented_event line = not (begins (62 ∷ []) line) && first_begins (62 ∷ []) (fields_of line)

abbrev pub has_indented_events : List ℕ → Bool
has_indented_events text = list_any is_indented_event (lines_in text)

-- empty, or a word of 2 to 15 letters
abbrev pub is_word_line : List ℕ → Bool
is_word_line line = length line == 0 || nat_le 2 (length line) && nat_le (length line) 15 && list_all is_ascii_alphabetic line

abbrev pub begins_with_letter : List ℕ → Bool
begins_with_letter [] = false
begins_with_letter (byte ∷ bytes) = is_ascii_alphabetic byte

-- a letter at the front, and only such lines
abbrev pub is_list : List ℕ → Bool
is_list text = begins_with_letter text && list_all is_word_line (lines_in text)

-- > (62) at the front
abbrev pub is_event : List ℕ → Bool
is_event line = begins (62 ∷ []) line

abbrev pub has_events : List ℕ → Bool
has_events text = list_any is_event (lines_in (without_mark text))

-- the first kind whose signs a text has
unfoldable pub kind_of : List ℕ → FileKind
kind_of text =
    if length text == 0 then kind.Empty
    else if is_lexicon text then kind.Lexicon
    else if is_gzip text then kind.Gzip
    else if is_zip text then kind.Zip
    else if is_wide text then kind.Utf16
    else if is_markup (without_mark text) then kind.Markup
    else if has_returns_alone text then kind.Returns
    else if has_indented_events (without_mark text) then kind.Indented
    else if is_list (without_mark text) then kind.Words
    else kind.Other
