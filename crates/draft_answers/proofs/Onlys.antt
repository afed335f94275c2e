-- The record of a draft is the only one.
use Rattle.std.proofs.Common.{◌≡◌, ◌≤◌, inl, inr, ℕ, Bool, false, nat_lt, List, length, Option, Some, None, Result, Ok, Err, IfOk, sym, ap, subst, ◌∙◌, arith}
use Rattle.std.proofs.lemmas.Bool.Decides.{nat_tests}
use Rattle.ref_tiles.specs.declared.rulebook.Rules.{Rules}
use Rattle.gcg_read.specs.declared.events.Event.{Event}
use Rattle.gcg_read.specs.declared.faults.Why.TheVariants as why
use Rattle.gcg_read.specs.declared.records.Record.{Record}
use Rattle.gcg_read.specs.Cutting.{lines_of}
use Rattle.gcg_read.specs.Records.{record_of, record_from, no_record, most_bytes}
use Rattle.gcg_write.specs.Rounds.{IsReadWithPoints}
use Rattle.gcg_write.proofs.Inversions.{passed, ok_same}
use Rattle.gcg_numbers.specs.Laws.{IsReadWithNumbers}
use Rattle.game_corrections.specs.Auditing.{IsAudited}
use Rattle.game_corrections.specs.Corrections.{HavePoints, IsCorrection}
use Rattle.game_corrections.specs.Laws.{OneCorrection}
use Rattle.game_corrections.specs.declared.wrong_numbers.WrongNumber.{WrongNumber}
use Rattle.game_walk.specs.declared.refusals.Refusal.{Refusal}
use Rattle.sheet_audit.specs.Answers.{IsAuditAnswer}
use Rattle.sheet_audit.specs.Corrected.{IsReadBack}
use Rattle.gcg_drafts.specs.Texts.{completed_text}
use Rattle.draft_answers.specs.declared.filled.FilledDraft.{FilledDraft}
use Rattle.draft_answers.specs.Filling.{has_missing}
use Rattle.draft_answers.specs.Filled.{IsRighted, IsAnswerOf}
use Rattle.draft_answers.specs.Outs.{IsRecordOfDraft}
use Rattle.draft_answers.proofs.Readable.{is_sheet, points_in}

short_text : (text : List ℕ) (r : Record) → record_of text ≡ Ok r → length text ≤ most_bytes
unfolding record_of
short_text text r h =
    let few : nat_lt most_bytes (length text) ≡ false = (passed (nat_lt most_bytes (length text)) (record { line = 0; why = why.TooLong }) (record_from no_record 1 (lines_of text)) r h).0 in
    grind (arith, nat_tests)

-- the correction of a sheet is the one that its audit gives
same_right : (rules : Rules) (list : List (List ℕ)) (written right given : List Event) (wrong : List WrongNumber) → OneCorrection → HavePoints right → IsCorrection rules list written right
    → IsAudited rules list written given wrong → given ≡ right
same_right rules list written right given wrong law points is (inl whole) = law rules list written given right whole.correction is
same_right rules list written right given wrong law points is (inr part) = absurd (part.none right points is)

answer_of : (rules : Rules) (list : List (List ℕ)) (sheet : List ℕ) (f : FilledDraft) (stopped : Option Refusal) (lacking : Bool) → stopped ≡ None → IsAnswerOf stopped lacking rules list sheet f.answer
    → IsAuditAnswer rules list sheet f.answer
answer_of rules list sheet f None lacking e is = is
answer_of rules list sheet f (Some refusal) lacking e is = absurd cc

pub only_record : (f : FilledDraft) (out : List ℕ) → IsReadWithNumbers → IsReadWithPoints → OneCorrection → IsReadBack f.answer.audit out → IsRecordOfDraft f out
only_record f out numbers points one back rules list text is stop short =
    let d = is.drafted in
    let a = answer_of rules list is.sheet f f.stopped (has_missing f.lacks.items) stop is.answer in
    let s = is_sheet rules list text f.lacks.items f.stopped is.sheet d numbers points (short_text is.sheet a.audit.written a.audit.means) in
    let righted : IsCorrection rules list d.drafted.events d.right = subst (λ o. IsRighted rules list d.drafted.events d.right o) stop d.righted in
    let written : a.audit.written ≡ record d.drafted { events = s.events } = ok_same a.audit.written _ (sym a.audit.means ∙ s.reads) in
    let right_points : HavePoints d.right = d.points.points (points_in (completed_text text) d.drafted points d.means) in
    let of_sheet : IsCorrection rules list s.events d.right = record { renumbered = s.to; allowed = righted.allowed } in
    let of_written : IsCorrection rules list a.audit.written.events d.right = subst (λ (r : Record). IsCorrection rules list r.events d.right) (sym written) of_sheet in
    let same : f.answer.audit.entry.record.events ≡ d.right = same_right rules list a.audit.written.events d.right f.answer.audit.entry.record.events f.answer.audit.wrong.items one right_points of_written a.audit.audit.audited in
    let own : IsCorrection rules list d.drafted.events f.answer.audit.entry.record.events = subst (λ es. IsCorrection rules list d.drafted.events es) (sym same) righted in
    record {
      drafted = d.drafted;
      means = d.means;
      right = f.answer.audit.entry.record;
      reads = back rules list is.sheet a.audit short;
      players = a.audit.audit.players ∙ ap (λ (r : Record). r.players) written;
      is = own;
      only = λ other corrects. one rules list d.drafted.events other f.answer.audit.entry.record.events corrects own;
    }

-- the same of a text that could be made
pub if_only : {V E : Type 0} (items : V → List ℕ) (f : FilledDraft) (r : Result V E) → IsReadWithNumbers → IsReadWithPoints → OneCorrection → IfOk r (λ out. IsReadBack f.answer.audit (items out))
    → IfOk r (λ out. IsRecordOfDraft f (items out))
if_only items f (Ok out) numbers points one back = only_record f (items out) numbers points one back
if_only items f (Err e) numbers points one back = tt
