-- What repairs the case of a text.
use Rattle.std.proofs.Common.{◌≡◌, ℕ, Bool, List, [], Option, sym, ap, ◌∙◌, subst}
use Rattle.ref_tiles.specs.declared.rulebook.Rules.{Rules}
use Rattle.game_case.specs.declared.explains.Case.{Case}
use Rattle.game_case.specs.Explaining.{IsCaseOf}
use Rattle.repair_answers.specs.Answers.{IsRepairAnswer}
use Rattle.reply_answers.specs.declared.repaired.RepairedCase.{RepairedCase}
use Rattle.gcg_unread.specs.Lines.{unread_of}
use Rattle.draft_answers.specs.declared.making.DraftSheet.{DraftSheet}
use Rattle.repair_answers.specs.Drafts.{IsDraftAnswer}
use Rattle.reply_answers.specs.Given.{read_of}
use Rattle.reply_answers.specs.Repaired.{repairs_asked, Repairs, IsRepairedCase, IsRepairedDraft}

-- the case stays as it is
pub repairs : (rules : Rules) (list : List (List ℕ)) (case after : Case) (most : ℕ) (asked : Bool) (x : RepairedCase) → after ≡ case → x.case ≡ after → IsRepairAnswer rules list case most x.answer
    → x.asked ≡ asked → x.lacks.items ≡ [] → x.unread.items ≡ unread_of after.text.items → Repairs rules list case most asked x
repairs rules list case after most asked x same of answer sheet whole lines =
    record { of_case = of ∙ same; repairs = answer; sheet = sheet; whole = whole; lines = subst (λ (c : Case). x.unread.items ≡ unread_of c.text.items) (sym of) lines }

pub of_text : (rules : Rules) (list : List (List ℕ)) (text : List ℕ) (number : Option ℕ) (asked : Bool) (case : Case) (x : RepairedCase) → IsCaseOf rules list text case
    → Repairs rules list case (repairs_asked number) asked x → IsRepairedCase rules list text number asked x
of_text rules list text number asked case x opened is =
    record {
      opened = subst (IsCaseOf rules list text) (sym is.of_case) opened;
      repairs = subst (λ c. IsRepairAnswer rules list c (repairs_asked number) x.answer) (sym is.of_case) is.repairs;
      sheet = is.sheet;
      whole = is.whole;
      lines = is.lines;
    }

-- the case of the sheet of a draft stays as it is
pub of_draft : (rules : Rules) (list : List (List ℕ)) (s : DraftSheet) (number : Option ℕ) (asked : Bool) (case after : Case) (x : RepairedCase) → after ≡ case → x.case ≡ after
    → IsDraftAnswer rules list s.lacks.items case (repairs_asked number) x.answer → x.asked ≡ asked → x.lacks ≡ s.lacks → x.unread.items ≡ unread_of after.text.items
    → IsCaseOf rules list (read_of s.text.items) case → IsRepairedDraft rules list s number asked x
of_draft rules list s number asked case after x same of answer sheet lacks lines opened =
    let here : x.case ≡ case = of ∙ same in
    record {
      opened = subst (IsCaseOf rules list (read_of s.text.items)) (sym here) opened;
      repairs = subst (λ c. IsDraftAnswer rules list s.lacks.items c (repairs_asked number) x.answer) (sym here) answer;
      sheet = sheet;
      lacks = ap (λ l. l.items) lacks;
      lines = subst (λ (c : Case). x.unread.items ≡ unread_of c.text.items) (sym of) lines;
    }
