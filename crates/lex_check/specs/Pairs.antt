-- The view of a word list and a compiled lexicon that agree.
use Rattle.std.specs.Prelude.{ℕ, List}
use Rattle.lex_file.specs.declared.files.LexFile.{LexFile}
use Rattle.lex_check.specs.declared.pairs.Checked.{Checked}

-- its compiled lexicon
abbrev pub file_in : Checked → LexFile
file_in pair = pair.file

-- the words of its list
abbrev pub list_in : Checked → List (List ℕ)
list_in pair = pair.list.now
