-- What building a compiled lexicon gives.
use Rattle.std.specs.Prelude.{◌≡◌, ℕ, ◌<◌, List, length, IsTrue, ◌↔◌, Some, sum_by}
use Rattle.std.specs.Cmp.Lexicographic.{slice_cmp}
use Rattle.std.specs.List.{Contains}
use Rattle.std.specs.List.Sorted.{IsStrictlySortedBy}
use Rattle.std.specs.Ordering.{nat_cmp}
use Rattle.lex_list.specs.RotatedPaths.{is_path}
use Rattle.lex_file.specs.Formats.{most_arcs}
use Rattle.lex_file.specs.declared.formats.Format.TheVariants as form
use Rattle.lex_file.specs.Shapes.{format_of}
pub use Rattle.lex_check.specs.Checks.{IsLexiconOf}
use Rattle.lex_build.specs.declared.faults.BuildFault.{BuildFault}
use Rattle.lex_build.specs.declared.faults.BuildFault.TheVariants as why

-- Bytes are the GAD1 file that is built for a list of words: of this format, and the compiled lexicon of the words.
pub record IsBuiltOf (words : List (List ℕ)) (bytes : List ℕ) : Type 0 where
  pub format : format_of bytes ≡ Some form.Gad1
  pub lexicon : IsLexiconOf words bytes

-- All rotated paths of the words, each once, have together more labels than a file has arcs.
pub record HasManyLabels (words : List (List ℕ)) : Type 0 where
  pub paths : List (List ℕ)
  pub once : IsStrictlySortedBy (slice_cmp nat_cmp) paths
  pub all : (string : List ℕ) → Contains paths string ↔ IsTrue (is_path words string)
  pub many : most_arcs < sum_by length paths

-- Why there are no bytes: there are too many arcs, and then the paths have too many labels. Lack of memory says nothing about them.
abbrev pub IsUnbuilt : List (List ℕ) → BuildFault → Type 0
IsUnbuilt words why.TooManyArcs = HasManyLabels words
IsUnbuilt words why.NoMemory = Unit {0}
