-- The encoding that a record states.
use Rattle.std.specs.Prelude.{ℕ, Bool, false, ◌&&◌, ◌==◌, List, [], ◌∷◌, codes, if◌then◌else◌}
use Rattle.std.specs.Char.{eq_ignore_ascii_case}
use Rattle.std.specs.List.{starts_with, list_any}
use Rattle.std.specs.Str.{bytes_eq}
use Rattle.text_lines.specs.Lines.{lines_in, without_mark}
use Rattle.text_lines.specs.Fields.{fields_of}
use Rattle.gcg_about.specs.declared.encodings.Encoding.{Encoding}
use Rattle.gcg_about.specs.declared.encodings.Encoding.TheVariants.{Utf8, Latin1}

-- `ISO-8859-1`, in letters of either case
abbrev pub is_latin : List ℕ → Bool
is_latin [] = false
is_latin (i ∷ []) = false
is_latin (i ∷ s ∷ []) = false
is_latin (i ∷ s ∷ o ∷ rest) = eq_ignore_ascii_case i 105 && eq_ignore_ascii_case s 115 && eq_ignore_ascii_case o 111 && bytes_eq rest (codes "-8859-1")

abbrev pub is_pragma : List ℕ → Bool
is_pragma word = bytes_eq word (codes "#character-encoding")

-- the pragma and the name of the encoding are the first two of these fields
abbrev pub name_latin : List (List ℕ) → Bool
name_latin [] = false
name_latin (word ∷ []) = false
name_latin (word ∷ name ∷ more) = is_pragma word && is_latin name

-- a pragma begins with # (35), which is the first byte of its line
abbrev pub is_latin_pragma : List ℕ → Bool
is_latin_pragma line = starts_with ◌==◌ line (35 ∷ []) && name_latin (fields_of line)

abbrev pub states_latin : List ℕ → Bool
states_latin text = list_any is_latin_pragma (lines_in text)

abbrev pub encoding_of : List ℕ → Encoding
encoding_of text = if states_latin (without_mark text) then Latin1 else Utf8
