use Rattle.std.proofs.Common.{List, ℕ, Ok, subst}
use Rattle.draft_answers.specs.Filled.{IsSheetOf}
use Rattle.reply_answers.proofs.on_drafts.explained_draft.Goals as goal

pub returns-in_ok-explained_on-in-Ok-clause-found :
    goal.returns-in_ok-explained_on-in-Ok-clause-found
returns-in_ok-explained_on-in-Ok-clause-found c =
    let sheet = subst (IsSheetOf c.args.rules.now c.list.result.now c.args.draft.now) c.in-Ok.is c.in_ok-sheet.ensures in
    let listed = subst (λ (words : List (List ℕ)). IsSheetOf c.args.rules.now words c.args.draft.now (Ok c.in-Ok.sheet)) c.list.ensures.list sheet in
    λ likely. c.in_ok-explained_on-in-Ok.ensures.found likely listed
