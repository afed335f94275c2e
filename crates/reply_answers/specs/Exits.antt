-- How the program ends after a reply.
use Rattle.std.specs.Prelude.{ℕ, Bool, true, false, Result, Ok, Err, Option, Some, None}
use Rattle.engine_stages.specs.declared.decisions.Decision.{Decision}
use Rattle.engine_stages.specs.declared.verdicts.Verdict.TheVariants as verdict
use Rattle.game_exits.specs.Audits.{audit_status}
use Rattle.game_exits.specs.Cases.{explain_exit}
use Rattle.game_exits.specs.Exits.{status_of, exit_of}
use Rattle.game_exits.specs.declared.exits.Exit.{Exit}
use Rattle.game_exits.specs.declared.exits.Exit.TheVariants as exit
use Rattle.game_answers.specs.declared.boards.ShownBoard.{ShownBoard}
use Rattle.game_answers.specs.declared.tops.FoundPlays.{FoundPlays}
use Rattle.game_answers.specs.Tops.{verdict_of}
use Rattle.compare_answers.specs.declared.agreements.Agreement.{Agreement}
use Rattle.compare_answers.specs.declared.agreements.Agreement.TheVariants as agreement
use Rattle.draft_answers.specs.declared.faults.DraftFault.{DraftFault}
use Rattle.draft_answers.specs.declared.filled.FilledDraft.{FilledDraft}
use Rattle.draft_answers.specs.declared.next.DraftNext.{DraftNext}
use Rattle.game_walk.specs.declared.refusals.Refusal.{Refusal}
use Rattle.reply_answers.specs.declared.compared.SheetsFound.{SheetsFound}
use Rattle.reply_answers.specs.declared.compared.SheetsFound.TheVariants as sheets
use Rattle.reply_answers.specs.declared.words.Ruled.{Ruled}
use Rattle.reply_answers.specs.declared.replies.Reply.{Reply}
use Rattle.reply_answers.specs.declared.replies.Reply.TheVariants as reply

-- after what was found, or after the decision that the record or the rack is not one
abbrev pub status_of_refused : {A : Type 0} → (A → ℕ) → Result A Decision → ℕ
status_of_refused status (Ok found) = status found
status_of_refused status (Err d) = status_of (exit_of d.verdict)

-- after a board, or if there is none
abbrev pub status_of_board : Option ShownBoard → ℕ
status_of_board (Some board) = status_of exit.Fine
status_of_board None = status_of (exit_of verdict.BadLine)

-- after best plays
abbrev pub status_of_plays : FoundPlays → ℕ
status_of_plays plays = status_of (exit_of (verdict_of plays))

-- after the ruling on words: 3 if one of the texts is not a word
abbrev pub status_by : (acceptable : Bool) → ℕ
status_by true = status_of exit.Fine
status_by false = status_of exit.Illegal

abbrev pub status_of_ruled : Option Ruled → ℕ
status_of_ruled (Some ruled) = status_by ruled.ruling.acceptable
status_of_ruled None = status_of exit.BadInput

-- how the program ends after two sheets are compared that have something to compare
abbrev pub exit_of_agreement : Agreement → Exit
exit_of_agreement agreement.Agree = exit.Fine
exit_of_agreement agreement.Differ = exit.Illegal
exit_of_agreement agreement.Unsettled = exit.Unsettled

-- after two sheets are compared: 3 if one of them has nothing to compare
abbrev pub status_of_compared : SheetsFound → ℕ
status_of_compared (sheets.Both both) = status_of (exit_of_agreement both.answer.agreement)
status_of_compared (sheets.FirstBad why) = status_of exit.BadInput
status_of_compared (sheets.SecondBad why) = status_of exit.BadInput

-- after a draft that is filled: as after an audit
abbrev pub status_of_filled : Result FilledDraft DraftFault → ℕ
status_of_filled (Ok f) = audit_status f.answer.audit.wrong.items f.answer.audit.entry.finding
status_of_filled (Err fault) = status_of exit.BadInput

-- after what the next line of a draft is about: 1 if the rules refuse a line with any numbers
abbrev pub status_by_stop : Option Refusal → ℕ
status_by_stop None = status_of exit.Fine
status_by_stop (Some refusal) = status_of exit.Illegal

abbrev pub status_of_next : Result DraftNext DraftFault → ℕ
status_of_next (Ok d) = status_by_stop d.stopped
status_of_next (Err fault) = status_of exit.BadInput

-- after a reply
abbrev pub status_of_reply : Reply → ℕ
status_of_reply (reply.Judged sheet) = status_of_refused (λ game. status_of (exit_of game.verdict)) sheet.found
status_of_reply (reply.Explained x) = status_of (explain_exit x.case.read x.line)
status_of_reply (reply.Audited sheet) = status_of_refused (λ answer. audit_status answer.audit.wrong.items answer.audit.entry.finding) sheet.found
status_of_reply (reply.Boarded sheet) = status_of_refused status_of_board sheet.found
status_of_reply (reply.Found found) = status_of_refused status_of_plays found
status_of_reply (reply.Ruled ruled) = status_of_ruled ruled
status_of_reply (reply.Checked many) = status_of exit.Fine
status_of_reply (reply.Tidied d) = status_of (exit_of d.verdict)
status_of_reply (reply.Paged x) = status_of (explain_exit x.case.read None)
status_of_reply (reply.Compared found) = status_of_compared found
status_of_reply (reply.Repaired x) = status_of (explain_exit x.case.read None)
status_of_reply (reply.Annotated x) = status_of (explain_exit x.case.read None)
status_of_reply (reply.Filled sheet) = status_of_filled sheet.found
status_of_reply (reply.Next found) = status_of_next found
status_of_reply (reply.NoDraft fault) = status_of exit.BadInput
