-- Faults of inputs by their names, and the line that a report makes of one.
use Rattle.std.specs.Prelude.{◌≡◌, ℕ, List, [], ◌∷◌, ◌++◌, codes, map, Option, Some, None, option_map}
use Rattle.std.specs.Borrow.{Bor}
use Rattle.arrayvec.specs.ArrayVec.{ArrayVec}
use Rattle.ref_tiles.specs.RulesFaults as stating
use Rattle.gcg_read.specs.Faults as read
use Rattle.lex_list.specs.Faults as listing
use Rattle.lex_file.specs.Faults as file
use Rattle.lex_check.specs.Checks.{symbol_of}
use Rattle.engine_stages.specs.declared.lexicons.LexiconFault.{LexiconFault}
use Rattle.engine_stages.specs.declared.lexicons.LexiconFault.TheVariants as lexicon
use Rattle.engine_stages.specs.declared.input_faults.InputFault.{InputFault}
use Rattle.engine_stages.specs.declared.input_faults.InputFault.TheVariants as input
use Rattle.engine_stages.specs.InputFaults.{input_line}
use Rattle.engine_stages.specs.Reports.{line_text}
use Rattle.engine_faults.specs.declared.inputs.NamedInput.{NamedInput}

-- ---- the parts of the line that gives the fault of an input

-- the name of a fault of a lexicon
abbrev pub lexicon_name : LexiconFault → List ℕ
lexicon_name (lexicon.Form first) = file.name_of first
lexicon_name (lexicon.Missing path) = codes "Missing"
lexicon_name (lexicon.Extra path) = codes "Extra"
lexicon_name lexicon.WordCount = codes "WordCount"

-- the path of the first difference, if that is the fault
abbrev pub lexicon_path : LexiconFault → Option (List ℕ)
lexicon_path (lexicon.Form first) = None
lexicon_path (lexicon.Missing path) = Some (map symbol_of path.items)
lexicon_path (lexicon.Extra path) = Some (map symbol_of path.items)
lexicon_path lexicon.WordCount = None

-- which input is bad
abbrev pub what_of : InputFault → List ℕ
what_of (input.Words fault) = codes "bad word list"
what_of (input.Lexicon fault) = codes "bad lexicon"
what_of input.TooManyArcs = codes "bad lexicon"
what_of (input.Rules fault) = codes "bad rules"
what_of (input.Game fault) = codes "bad record"
what_of input.Rack = codes "bad rack"
what_of input.Line = codes "bad line"

-- the line of the fault, counted from 1; 0 if it is on no line
abbrev pub line_of : InputFault → ℕ
line_of (input.Words fault) = fault.line
line_of (input.Lexicon fault) = 0
line_of input.TooManyArcs = 0
line_of (input.Rules fault) = fault.line
line_of (input.Game fault) = fault.line
line_of input.Rack = 0
line_of input.Line = 0

-- the name of the fault, if it has one
abbrev pub fault_name_of : InputFault → Option (List ℕ)
fault_name_of (input.Words fault) = Some (listing.name_of fault.why)
fault_name_of (input.Lexicon fault) = Some (lexicon_name fault)
fault_name_of input.TooManyArcs = Some (codes "TooManyArcs")
fault_name_of (input.Rules fault) = Some (stating.name_of fault.why)
fault_name_of (input.Game fault) = Some (read.name_of fault.why)
fault_name_of input.Rack = None
fault_name_of input.Line = None

-- the path of the first difference between a lexicon and a list, if that is the fault
abbrev pub path_of : InputFault → Option (List ℕ)
path_of (input.Words fault) = None
path_of (input.Lexicon fault) = lexicon_path fault
path_of input.TooManyArcs = None
path_of (input.Rules fault) = None
path_of (input.Game fault) = None
path_of input.Rack = None
path_of input.Line = None

-- what is wrong with an input has these parts
pub record HasParts (what : List ℕ) (line : ℕ) (name : Option (List ℕ)) (path : Option (List ℕ)) (named : NamedInput) : Type 0 where
  pub what_is : named.what.now ≡ what
  pub line_is : named.line ≡ line
  pub name_is : option_map (λ (text : Bor (List ℕ)). text.now) named.name ≡ name
  pub path_is : option_map (λ (text : ArrayVec ℕ). text.items) named.path ≡ path

-- ---- the line made of them

-- the end of a line: the name of the fault with its path, if it has them
abbrev pub line_end : (name : Option (Bor (List ℕ))) → (path : Option (ArrayVec ℕ)) → List ℕ
line_end None path = 10 ∷ []
line_end (Some name) None = codes ": " ++ name.now ++ 10 ∷ []
line_end (Some name) (Some path) = codes ": " ++ name.now ++ 32 ∷ path.items ++ 10 ∷ []

abbrev pub input_text : NamedInput → List ℕ
input_text n = n.what.now ++ line_text n.line ++ line_end n.name n.path

-- The parts of the line that gives the fault of an input. That a record has no such line is said in words, and these are not
-- parts.
abbrev pub IsNamedInput : InputFault → NamedInput → Type 0
IsNamedInput input.Line n = n.what.now ≡ codes "bad line"
IsNamedInput (input.Words fault) n = input_text n ≡ input_line (input.Words fault)
IsNamedInput (input.Lexicon fault) n = input_text n ≡ input_line (input.Lexicon fault)
IsNamedInput input.TooManyArcs n = input_text n ≡ input_line input.TooManyArcs
IsNamedInput (input.Rules fault) n = input_text n ≡ input_line (input.Rules fault)
IsNamedInput (input.Game fault) n = input_text n ≡ input_line (input.Game fault)
IsNamedInput input.Rack n = input_text n ≡ input_line input.Rack
