use Rattle.std.proofs.Common.{subst}
use Rattle.draft_answers.specs.KnownTotals.{IsBoardSheetOf}
use Rattle.reply_answers.proofs.OnDrafts.{draft_shown}
use Rattle.reply_answers.proofs.on_drafts.shown_draft.Goals as goal

pub returns-in_ok-shown_sheet-in-Ok-clause-found :
    goal.returns-in_ok-shown_sheet-in-Ok-clause-found
returns-in_ok-shown_sheet-in-Ok-clause-found c =
    let sheet = subst (IsBoardSheetOf c.args.rules.now c.args.draft.now) c.in-Ok.is c.in_ok-sheet.ensures in
    draft_shown c.args.rules.now c.args.draft.now c.as_slice.result.now c.args.line c.in-Ok.sheet c.in_ok-shown_sheet-in-Ok.field-0 c.as_slice.ensures.value sheet c.in_ok-shown_sheet-in-Ok.ensures.shown
