-- What is found of the sheet that a draft makes.
use Rattle.std.proofs.Common.{◌≡◌, ℕ, Bool, true, false, List, Option, Result, Ok, Err, subst}
use Rattle.ref_tiles.specs.declared.rulebook.Rules.{Rules}
use Rattle.draft_answers.specs.declared.faults.DraftFault.{DraftFault}
use Rattle.draft_answers.specs.declared.making.DraftSheet.{DraftSheet}
use Rattle.draft_answers.specs.Filled.{IsDraftSheet, IsSheetOf}
use Rattle.draft_answers.specs.KnownTotals.{IsBoardSheetOf}
use Rattle.reply_answers.specs.declared.explained.ExplainedCase.{ExplainedCase}
use Rattle.reply_answers.specs.declared.read_sheets.ShownSheet.{ShownSheet}
use Rattle.reply_answers.specs.declared.repaired.RepairedCase.{RepairedCase}
use Rattle.reply_answers.specs.declared.replies.Reply.TheVariants as reply
use Rattle.reply_answers.specs.Explained.{IsExplainedCase}
use Rattle.reply_answers.specs.Given.{read_of}
use Rattle.reply_answers.specs.OnDrafts.{IsReportedOf, IsExplainedAs, IsExplainedOf, IsRepairedOf, IsShownOf}
use Rattle.reply_answers.specs.ReadSheets.{IsShownSheet}
use Rattle.reply_answers.specs.Repaired.{IsRepairedDraft}
use Rattle.reply_answers.specs.Replies.{IsExplainReply, IsBoardReply, IsRepairReply}

pub sheet_explained : (rules : Rules) (list : List (List ℕ)) (draft : List ℕ) (line : Option ℕ) (lead likely : Bool) (s : DraftSheet) (found x : ExplainedCase)
    → IsExplainedCase rules list (read_of s.text.items) line false lead found → IsReportedOf draft s found x → IsDraftSheet rules list draft s
    → IsExplainedAs true rules list draft line likely lead x
sheet_explained rules list draft line lead likely s found x is reported sheet = (s, found, sheet, is, reported)

pub draft_explained : (rules : Rules) (list : List (List ℕ)) (draft : List ℕ) (line : Option ℕ) (lead likely : Bool) (s : DraftSheet) (x : ExplainedCase) → IsSheetOf rules list draft (Ok s)
    → (IsDraftSheet rules list draft s → IsExplainedAs true rules list draft line likely lead x) → IsExplainedOf true rules list draft line likely lead (Ok x)
draft_explained rules list draft line lead likely s x sheet is = is sheet

pub not_explained : (rules : Rules) (list : List (List ℕ)) (draft : List ℕ) (line : Option ℕ) (lead likely : Bool) (f : DraftFault) → IsSheetOf rules list draft (Err f)
    → IsExplainedOf true rules list draft line likely lead (Err f)
not_explained rules list draft line lead likely f is = is

pub draft_shown : (rules : Rules) (draft text : List ℕ) (line : Option ℕ) (s : DraftSheet) (x : ShownSheet) → text ≡ s.text.items → IsBoardSheetOf rules draft (Ok s)
    → IsShownSheet rules line text x → IsShownOf true rules line draft (Ok x)
draft_shown rules draft text line s x same sheet is = (s, sheet, subst (λ t. IsShownSheet rules line t x) same is)

pub not_shown : (rules : Rules) (draft : List ℕ) (line : Option ℕ) (f : DraftFault) → IsBoardSheetOf rules draft (Err f) → IsShownOf true rules line draft (Err f)
not_shown rules draft line f is = is

-- ---- the replies

pub explain_reported : (draft : Bool) (rules : Rules) (list : List (List ℕ)) (game : List ℕ) (line : Option ℕ) (likely lead : Bool) (found : Result ExplainedCase DraftFault) (x : ExplainedCase)
    → found ≡ Ok x → IsExplainedOf draft rules list game line likely lead found → IsExplainReply draft rules list game line likely lead (reply.Explained x)
explain_reported draft rules list game line likely lead found x is reported = subst (IsExplainedOf draft rules list game line likely lead) is reported

pub no_draft_reported : (draft : Bool) (rules : Rules) (list : List (List ℕ)) (game : List ℕ) (line : Option ℕ) (likely lead : Bool) (found : Result ExplainedCase DraftFault) (f : DraftFault)
    → found ≡ Err f → IsExplainedOf draft rules list game line likely lead found → IsExplainReply draft rules list game line likely lead (reply.NoDraft f)
no_draft_reported draft rules list game line likely lead found f is reported = subst (IsExplainedOf draft rules list game line likely lead) is reported

pub board_reported : (draft : Bool) (rules : Rules) (line : Option ℕ) (game : List ℕ) (found : Result ShownSheet DraftFault) (x : ShownSheet) → found ≡ Ok x
    → IsShownOf draft rules line game found → IsBoardReply draft rules line game (reply.Boarded x)
board_reported draft rules line game found x is reported = subst (IsShownOf draft rules line game) is reported

pub no_board_reported : (draft : Bool) (rules : Rules) (line : Option ℕ) (game : List ℕ) (found : Result ShownSheet DraftFault) (f : DraftFault) → found ≡ Err f
    → IsShownOf draft rules line game found → IsBoardReply draft rules line game (reply.NoDraft f)
no_board_reported draft rules line game found f is reported = subst (IsShownOf draft rules line game) is reported

-- ---- repairs

pub draft_repaired : (rules : Rules) (list : List (List ℕ)) (draft : List ℕ) (number : Option ℕ) (asked : Bool) (s : DraftSheet) (x : RepairedCase) → IsSheetOf rules list draft (Ok s)
    → IsRepairedDraft rules list s number asked x → IsRepairedOf true rules list draft number asked (Ok x)
draft_repaired rules list draft number asked s x sheet is = (s, sheet, is)

pub not_repaired : (rules : Rules) (list : List (List ℕ)) (draft : List ℕ) (number : Option ℕ) (asked : Bool) (f : DraftFault) → IsSheetOf rules list draft (Err f)
    → IsRepairedOf true rules list draft number asked (Err f)
not_repaired rules list draft number asked f is = is

pub repair_reported : (draft : Bool) (rules : Rules) (list : List (List ℕ)) (game : List ℕ) (number : Option ℕ) (asked : Bool) (found : Result RepairedCase DraftFault) (x : RepairedCase)
    → found ≡ Ok x → IsRepairedOf draft rules list game number asked found → IsRepairReply draft rules list game number asked (reply.Repaired x)
repair_reported draft rules list game number asked found x is reported = subst (IsRepairedOf draft rules list game number asked) is reported

pub no_repair_reported : (draft : Bool) (rules : Rules) (list : List (List ℕ)) (game : List ℕ) (number : Option ℕ) (asked : Bool) (found : Result RepairedCase DraftFault) (f : DraftFault)
    → found ≡ Err f → IsRepairedOf draft rules list game number asked found → IsRepairReply draft rules list game number asked (reply.NoDraft f)
no_repair_reported draft rules list game number asked found f is reported = subst (IsRepairedOf draft rules list game number asked) is reported
