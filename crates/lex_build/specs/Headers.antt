-- A file of a lexicon: the header and the words of its nodes.
use Rattle.std.specs.Prelude.{◌≡◌, ℕ, Bool, List, ◌++◌, Some, None}
use Rattle.byteorder.specs.Endian.{little_bytes}
use Rattle.lex_file.specs.declared.formats.Format.{Format}
use Rattle.lex_file.specs.declared.formats.Format.TheVariants as form
use Rattle.lex_file.specs.Shapes.{format_of, fault_of, word_count_of}
use Rattle.lex_file.specs.Formats.{gad1_magic, gad2_magic}
use Rattle.lex_file.specs.Languages.{language_of}

-- the first bytes of a file of a format
abbrev pub magic_of : Format → List ℕ
magic_of form.Gad1 = gad1_magic
magic_of form.Gad2 = gad2_magic

-- the bytes of a header: the format, the number of words after it, the root, the number of words of the list
abbrev pub header_of : Format → ℕ → ℕ → ℕ → List ℕ
header_of format count root words = magic_of format ++ little_bytes 4 count ++ little_bytes 4 root ++ little_bytes 4 words

-- Bytes are a file of a language, which is given by a test on strings, with a number of words.
pub record IsFileOf (language : List ℕ → Bool) (words : ℕ) (bytes : List ℕ) : Type 0 where
  pub format : format_of bytes ≡ Some form.Gad1
  pub shape : fault_of bytes ≡ None
  pub strings : (string : List ℕ) → language_of bytes string ≡ language string
  pub count : word_count_of bytes ≡ words
