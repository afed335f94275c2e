-- What explains the case of a text.
use Rattle.std.proofs.Common.{◌≡◌, ℕ, ◌&&◌, is_none, Bool, List, Option, sym, ◌∙◌, subst}
use Rattle.ref_tiles.specs.declared.rulebook.Rules.{Rules}
use Rattle.game_case.specs.declared.explains.Case.{Case}
use Rattle.game_case.specs.Explaining.{IsCaseOf}
use Rattle.gcg_unread.specs.Lines.{unread_of}
use Rattle.reply_answers.specs.declared.explained.ExplainedCase.{ExplainedCase}
use Rattle.page_answers.specs.Pages.{IsLikelyAsked}
use Rattle.reply_answers.specs.Explained.{IsAmountAsked, IsCaseExplanation, IsWrongAsked, Explains, IsExplainedCase}

of_its_case : (rules : Rules) (list : List (List ℕ)) (text : List ℕ) (line : Option ℕ) (likely lead : Bool) (x : ExplainedCase) → IsCaseOf rules list text x.case
    → Explains rules list x.case line likely lead x → IsExplainedCase rules list text line likely lead x
of_its_case rules list text line likely lead x opened is =
    record {
      opened = opened;
      on_line = is.on_line;
      explanation = is.explanation;
      repair = subst (λ t. IsLikelyAsked (likely && is_none line) rules list t x.case.read x.likely) opened.0 is.repair;
      amount = is.amount;
      numbers = is.numbers text opened;
      lines = is.lines;
    }

pub of_text : (rules : Rules) (list : List (List ℕ)) (text : List ℕ) (line : Option ℕ) (likely lead : Bool) (case : Case) (x : ExplainedCase) → IsCaseOf rules list text case
    → Explains rules list case line likely lead x → IsExplainedCase rules list text line likely lead x
of_text rules list text line likely lead case x opened is =
    of_its_case rules list text line likely lead x (subst (IsCaseOf rules list text) (sym is.of_case) opened)
    (subst (λ c. Explains rules list c line likely lead x) (sym is.of_case) is)

-- the parts of it, found one after the other: the case stays as it is
pub explained : (rules : Rules) (list : List (List ℕ)) (case one two : Case) (line : Option ℕ) (likely lead : Bool) (x : ExplainedCase) → one ≡ case → two ≡ one → x.case ≡ two → x.line ≡ line
    → IsCaseExplanation rules list case.read line x.explanation → IsLikelyAsked (likely && is_none line) rules list case.text.items case.read x.likely
    → IsAmountAsked (lead && is_none line && is_none x.likely) rules list one.read x.amount
    → ((text : List ℕ) → IsCaseOf rules list text two → IsWrongAsked (lead && is_none line && is_none x.likely) rules list text two.read x.wrong)
    → x.unread.items ≡ unread_of two.text.items → Explains rules list case line likely lead x
explained rules list case one two line likely lead x first second of on explanation repair amount wrong lines =
    let same : two ≡ case = second ∙ first in
    record {
      of_case = of ∙ same;
      on_line = on;
      explanation = explanation;
      repair = repair;
      amount = subst (λ c. IsAmountAsked (lead && is_none line && is_none x.likely) rules list c.read x.amount) first amount;
      numbers = subst (λ c. (text : List ℕ) → IsCaseOf rules list text c → IsWrongAsked (lead && is_none line && is_none x.likely) rules list text c.read x.wrong) same wrong;
      lines = subst (λ (c : Case). x.unread.items ≡ unread_of c.text.items) (sym of) lines;
    }
