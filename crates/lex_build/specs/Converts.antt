-- What converting a compiled lexicon into a format gives.
use Rattle.std.specs.Prelude.{◌≡◌, ℕ, zero, suc, ◌+◌, ◌<◌, ◌≤◌, true, List, length, map, Some, None, if◌then◌else◌}
use Rattle.lex_file.specs.declared.arcs.Arc.{Arc}
use Rattle.lex_file.specs.declared.formats.Format.{Format}
use Rattle.lex_file.specs.FileWords.{body_of}
use Rattle.lex_file.specs.Languages.{language_of}
use Rattle.lex_file.specs.Shapes.{format_of, fault_of, root_of, word_count_of, file_node, is_file_node}
use Rattle.lex_build.specs.Stores.{limit_of, words_for}
use Rattle.lex_build.specs.declared.faults.BuildFault.{BuildFault}
use Rattle.lex_build.specs.declared.faults.BuildFault.TheVariants as why

-- the number of words that the stored nodes of a file with numbers up to one take in a format
unfoldable pub words_up_to : Format → List ℕ → ℕ → ℕ
words_up_to format bytes zero = 0
words_up_to format bytes (suc n) =
    words_up_to format bytes n + (if is_file_node bytes (suc n) then words_for format (length (file_node bytes (suc n))) else 0)

-- the number of words that all stored nodes of a file take in a format
abbrev pub words_in_format : Format → List ℕ → ℕ
words_in_format format bytes = words_up_to format bytes (length (body_of bytes))

-- an arc that leads to the renamed target
abbrev pub renamed : (ℕ → ℕ) → Arc → Arc
renamed name arc = record { label = arc.label; accepts = arc.accepts; target = name arc.target }

-- A file has the stored nodes of another, in the same order, each under a new number and with the same arcs to the renamed
-- targets; and no others.
pub record AreRenamed (name : ℕ → ℕ) (old new : List ℕ) : Type 0 where
  pub none : name 0 ≡ 0
  pub stored : (n : ℕ) → is_file_node old n ≡ true → is_file_node new (name n) ≡ true
  pub arcs : (n : ℕ) → is_file_node old n ≡ true → file_node new (name n) ≡ map (renamed name) (file_node old n)
  pub rising : (m n : ℕ) → is_file_node old m ≡ true → is_file_node old n ≡ true → m < n → name m < name n
  pub all : (m : ℕ) → is_file_node new m ≡ true → (n : ℕ) × (is_file_node old n ≡ true) × (name n ≡ m)
  pub root : root_of new ≡ name (root_of old)

-- Bytes are a file converted into a format: of that format, with the same nodes, the same language and the same number of
-- words.
pub record IsConverted (format : Format) (old new : List ℕ) : Type 0 where
  pub format_is : format_of new ≡ Some format
  pub shape : fault_of new ≡ None
  pub name : ℕ → ℕ
  pub nodes : AreRenamed name old new
  pub strings : (string : List ℕ) → language_of new string ≡ language_of old string
  pub count : word_count_of new ≡ word_count_of old
  pub few : words_in_format format old ≤ limit_of format

-- Why there are no bytes: the nodes take more words than the format can number. Lack of memory says nothing about them.
abbrev pub IsUnconverted : Format → List ℕ → BuildFault → Type 0
IsUnconverted format old why.TooManyArcs = limit_of format < words_in_format format old
IsUnconverted format old why.NoMemory = Unit {0}
