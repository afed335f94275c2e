-- What repairs the case of a record.
use Rattle.std.specs.Prelude.{◌≡◌, ℕ, Bool, List, [], Option, Some, None}
use Rattle.ref_tiles.specs.declared.rulebook.Rules.{Rules}
use Rattle.game_case.specs.declared.explains.Case.{Case}
use Rattle.game_case.specs.Explaining.{IsCaseOf}
use Rattle.repair_answers.specs.Answers.{IsRepairAnswer}
use Rattle.gcg_unread.specs.Lines.{unread_of}
use Rattle.draft_answers.specs.declared.making.DraftSheet.{DraftSheet}
use Rattle.repair_answers.specs.Drafts.{IsDraftAnswer}
use Rattle.reply_answers.specs.declared.repaired.RepairedCase.{RepairedCase}
use Rattle.reply_answers.specs.Given.{read_of}

-- in how many lines repairs are requested: ten, unless a number is given
abbrev pub repairs_asked : Option ℕ → ℕ
repairs_asked None = 10
repairs_asked (Some number) = number

-- a case with what repairs its record, whether the repaired sheet is requested, and its lines that are not read
pub record Repairs (rules : Rules) (list : List (List ℕ)) (case : Case) (most : ℕ) (asked : Bool) (x : RepairedCase) : Type 0 where
  pub of_case : x.case ≡ case
  pub repairs : IsRepairAnswer rules list case most x.answer
  pub sheet : x.asked ≡ asked
  pub whole : x.lacks.items ≡ []
  pub lines : x.unread.items ≡ unread_of x.case.text.items

-- the same for the case of a text
pub record IsRepairedCase (rules : Rules) (list : List (List ℕ)) (text : List ℕ) (number : Option ℕ) (asked : Bool) (x : RepairedCase) : Type 0 where
  pub opened : IsCaseOf rules list text x.case
  pub repairs : IsRepairAnswer rules list x.case (repairs_asked number) x.answer
  pub sheet : x.asked ≡ asked
  pub whole : x.lacks.items ≡ []
  pub lines : x.unread.items ≡ unread_of x.case.text.items

-- The same for the sheet of a draft: a number that is missing counts nowhere.
pub record IsRepairedDraft (rules : Rules) (list : List (List ℕ)) (s : DraftSheet) (number : Option ℕ) (asked : Bool) (x : RepairedCase) : Type 0 where
  pub opened : IsCaseOf rules list (read_of s.text.items) x.case
  pub repairs : IsDraftAnswer rules list s.lacks.items x.case (repairs_asked number) x.answer
  pub sheet : x.asked ≡ asked
  pub lacks : x.lacks.items ≡ s.lacks.items
  pub lines : x.unread.items ≡ unread_of x.case.text.items
