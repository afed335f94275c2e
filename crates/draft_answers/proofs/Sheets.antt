-- The sheet that a draft makes, and what is found of it.
use Rattle.std.proofs.Common.{◌≡◌, ◌<◌, ◌≤◌, inl, inr, ℕ, ◌+◌, Bool, true, false, List, length, map, Option, Some, None, Result, Ok, Err, IfOk, if◌then◌else◌, arith, sym, ap, subst, ◌∙◌}
use Rattle.std.proofs.lemmas.List.{length-map, take_all}
use Rattle.std.proofs.lemmas.Option.{same_Some}
use Rattle.ref_tiles.specs.declared.rulebook.Rules.{Rules}
use Rattle.gcg_read.specs.declared.events.Event.{Event}
use Rattle.gcg_read.specs.declared.faults.ReadFault.{ReadFault}
use Rattle.gcg_read.specs.declared.faults.Why.TheVariants as why
use Rattle.gcg_read.specs.Records.{record_of, most_bytes}
use Rattle.gcg_write.specs.Rounds.{IsReadWithPoints}
use Rattle.gcg_numbers.specs.Laws.{IsReadWithNumbers}
use Rattle.gcg_numbers.specs.Numbers.{text_with}
use Rattle.engine_stages.specs.declared.decisions.Decision.{Decision}
use Rattle.engine_stages.specs.Stages.{IsRecordOf}
use Rattle.game_walk.specs.declared.numbers.Numbers.{Numbers}
use Rattle.game_walk.specs.declared.refusals.Refusal.{Refusal}
use Rattle.game_walk.specs.declared.walking.Walk.{Walk}
use Rattle.game_walk.specs.Numbers.{numbers_in}
use Rattle.game_walk.specs.Walks.{IsWalk}
use Rattle.game_walk.proofs.Steps.{walk_renumbered}
use Rattle.sheet_audit.specs.declared.answers.AuditAnswer.{AuditAnswer}
use Rattle.sheet_audit.specs.Answers.{IsAuditAnswer, IsAuditAnswerOf}
use Rattle.gcg_drafts.specs.declared.missing.Missing.{Missing}
use Rattle.gcg_drafts.specs.declared.drafts.Draft.{Draft}
use Rattle.gcg_drafts.specs.Drafts.{IsDraft, IsFaultOf}
use Rattle.gcg_drafts.specs.Texts.{completed_text}
use Rattle.draft_answers.specs.declared.faults.DraftFault.{DraftFault}
use Rattle.draft_answers.specs.declared.filled.FilledDraft.{FilledDraft}
use Rattle.draft_answers.specs.declared.making.DraftSheet.{DraftSheet}
use Rattle.draft_answers.specs.Faults.{reported_fault}
use Rattle.draft_answers.specs.Filling.{filled_events, has_missing, sheet_of}
use Rattle.draft_answers.specs.Filled.{AreFilled, IsAnswerOf, IsCutAnswer, IsDrafted, IsFilled, IsNoDraft, IsFillOf, IsSheetIn, IsSheetOf, too_long}
use Rattle.draft_answers.specs.Given.{read_of}
use Rattle.draft_answers.proofs.Readable.{is_sheet}

-- ---- the numbers of the events

pub as_many : (rules : Rules) (list : List (List ℕ)) (old right : List Event) (walk : Walk) (written rights : List Numbers) → IsWalk rules list old right walk → written ≡ map numbers_in old
    → rights ≡ map numbers_in right → length rights ≡ length written
as_many rules list old right walk written rights is of_written of_right =
    let like = (walk_renumbered rules list old right walk is).as_many in
    ap length of_right ∙ length-map right numbers_in ∙ like ∙ sym (length-map old numbers_in) ∙ ap length (sym of_written)

-- ---- the sheet

sheet_by : (text : List ℕ) (lacks : List Missing) (old right new : List Event) (completed sheet : List ℕ) (b : Bool) → completed ≡ completed_text text → new ≡ filled_events lacks old right
    → has_missing lacks ≡ b → sheet ≡ (if b then text_with new completed else completed) → sheet ≡ sheet_of text lacks old right
unfolding sheet_of
sheet_by text lacks old right new completed sheet true is made some out =
    rw some (out ∙ ap (λ es. text_with es completed) made ∙ ap (text_with (filled_events lacks old right)) is)
sheet_by text lacks old right new completed sheet false is made none out = rw none (out ∙ is)

pub drafted : (rules : Rules) (list : List (List ℕ)) (text : List ℕ) (draft : Draft) (new : List Event) (stopped : Option Refusal) (sheet : List ℕ) (b : Bool) → IsDraft text draft
    → AreFilled rules list draft.missing.items draft.record.events new stopped → has_missing draft.missing.items ≡ b → sheet ≡ (if b then text_with new draft.text.items else draft.text.items)
    → IsDrafted rules list text draft.missing.items stopped sheet
drafted rules list text draft new stopped sheet b is filled some out =
    record {
      drafted = draft.record;
      means = is.means;
      missing = is.missing;
      right = filled.right;
      righted = filled.righted;
      points = filled.points;
      is = sheet_by text draft.missing.items draft.record.events filled.right new draft.text.items sheet b is.completed filled.is some out;
    }

-- ---- what is found of it

pub long_sheet : (rules : Rules) (list : List (List ℕ)) (text : List ℕ) (lacks : List Missing) (stopped : Option Refusal) (sheet : List ℕ) (f : DraftFault)
    → IsDrafted rules list text lacks stopped sheet → most_bytes < length sheet → f ≡ too_long → IsFillOf rules list text (Err f)
long_sheet rules list text lacks stopped sheet f d long is = inr (record { fault = is; lacks = lacks; stopped = stopped; sheet = sheet; drafted = d; long = long })

-- a sheet that is not longer is a record
pub not_refused : (rules : Rules) (list : List (List ℕ)) (text : List ℕ) (lacks : List Missing) (stopped : Option Refusal) (sheet : List ℕ) (d : Decision)
    → IsReadWithNumbers → IsReadWithPoints → IsDrafted rules list text lacks stopped sheet → length sheet ≤ most_bytes → IsRecordOf (read_of sheet) (Err d) → ⊥
not_refused rules list text lacks stopped sheet d numbers points is short refused =
    let whole : read_of sheet ≡ sheet = take_all (most_bytes + 1) sheet (omega (arith, short)) in
    let s = is_sheet rules list text lacks stopped sheet is numbers points short in
    let fails : record_of sheet ≡ Err refused.0 = ap record_of (sym whole) ∙ refused.1 in
    let both = sym s.reads ∙ fails in
    absurd cc

pub found : (rules : Rules) (list : List (List ℕ)) (text : List ℕ) (f : FilledDraft) (sheet : List ℕ) (lacking : Bool) (answer : AuditAnswer)
    → IsDrafted rules list text f.lacks.items f.stopped sheet → length sheet ≤ most_bytes → IsAuditAnswer rules list (read_of sheet) answer
    → lacking ≡ has_missing f.lacks.items
    → ((r : Rules) (l : List (List ℕ)) (s : List ℕ) → IsAuditAnswer r l s answer → IsAnswerOf f.stopped lacking r l s f.answer)
    → IsFillOf rules list text (Ok f)
found rules list text f sheet lacking answer is short audited same reported =
    let whole : read_of sheet ≡ sheet = take_all (most_bytes + 1) sheet (omega (arith, short)) in
    record {
      sheet = sheet;
      drafted = is;
      answer = subst (λ b. IsAnswerOf f.stopped b rules list sheet f.answer) same (reported rules list sheet (subst (λ s. IsAuditAnswer rules list s answer) whole audited));
    }

reported_by : (stopped : Option Refusal) (lacking : Bool) (refusal : Refusal) (answer reported : AuditAnswer) → stopped ≡ Some refusal → lacking ≡ true → IsCutAnswer refusal.line answer reported
    → (rules : Rules) (list : List (List ℕ)) (sheet : List ℕ) → IsAuditAnswer rules list sheet answer → IsAnswerOf stopped lacking rules list sheet reported
reported_by None lacking refusal answer reported some lacks cut rules list sheet is = absurd cc
reported_by (Some other) false refusal answer reported some lacks cut rules list sheet is = absurd cc
reported_by (Some other) true refusal answer reported some lacks cut rules list sheet is =
    record { whole = answer; is = is; cut = subst (λ (r : Refusal). IsCutAnswer r.line answer reported) (sym (same_Some other refusal some)) cut }

-- what is reported of an answer if a line is refused and a number is missing
pub if_cut : {E : Type 0} (stopped : Option Refusal) (lacking : Bool) (refusal : Refusal) (answer : AuditAnswer) (r : Result AuditAnswer E) → stopped ≡ Some refusal → lacking ≡ true
    → IfOk r (IsCutAnswer refusal.line answer)
    → IfOk r (λ reported. (rules : Rules) (list : List (List ℕ)) (sheet : List ℕ) → IsAuditAnswer rules list sheet answer → IsAnswerOf stopped lacking rules list sheet reported)
if_cut stopped lacking refusal answer (Ok reported) some lacks cut = reported_by stopped lacking refusal answer reported some lacks cut
if_cut stopped lacking refusal answer (Err e) some lacks cut = tt

-- of the sheet in memory: it is too long
pub if_long : (rules : Rules) (list : List (List ℕ)) (text : List ℕ) (lacks : List Missing) (stopped : Option Refusal) (sheet slice : List ℕ) (f : DraftFault) → slice ≡ sheet
    → most_bytes < length slice → f ≡ too_long → IsDrafted rules list text lacks stopped sheet → IsFillOf rules list text (Err f)
if_long rules list text lacks stopped sheet slice f same long is drafted =
    long_sheet rules list text lacks stopped sheet f drafted (subst (λ (s : List ℕ). most_bytes < length s) same long) is

answered : (rules : Rules) (list : List (List ℕ)) (sheet : List ℕ) (given : Result AuditAnswer Decision) (answer : AuditAnswer) → given ≡ Ok answer → IsAuditAnswerOf rules list sheet given
    → IsAuditAnswer rules list sheet answer
answered rules list sheet given answer ok is = subst (λ (r : Result AuditAnswer Decision). IsAuditAnswerOf rules list sheet r) ok is

refused : (rules : Rules) (list : List (List ℕ)) (sheet : List ℕ) (given : Result AuditAnswer Decision) (d : Decision) → given ≡ Err d → IsAuditAnswerOf rules list sheet given
    → IsRecordOf sheet (Err d)
refused rules list sheet given d err is = subst (λ (r : Result AuditAnswer Decision). IsAuditAnswerOf rules list sheet r) err is

-- its audit gives an answer
pub if_refused : (rules : Rules) (list : List (List ℕ)) (text : List ℕ) (lacks : List Missing) (stopped : Option Refusal) (sheet slice : List ℕ) (given : Result AuditAnswer Decision) (d : Decision)
    → IsReadWithNumbers → IsReadWithPoints → slice ≡ sheet → length slice ≤ most_bytes → given ≡ Err d → IsAuditAnswerOf rules list (read_of slice) given
    → IsDrafted rules list text lacks stopped sheet → ⊥
if_refused rules list text lacks stopped sheet slice given d numbers points same short err is drafted =
    not_refused rules list text lacks stopped sheet d numbers points drafted (subst (λ (s : List ℕ). length s ≤ most_bytes) same short)
    (subst (λ (s : List ℕ). IsRecordOf (read_of s) (Err d)) same (refused rules list (read_of slice) given d err is))

-- and that is what is found
pub if_answered : (rules : Rules) (list : List (List ℕ)) (text : List ℕ) (f : FilledDraft) (sheet slice : List ℕ) (lacking : Bool) (given : Result AuditAnswer Decision) (answer : AuditAnswer)
    → slice ≡ sheet → length slice ≤ most_bytes → given ≡ Ok answer → IsAuditAnswerOf rules list (read_of slice) given → lacking ≡ has_missing f.lacks.items
    → ((r : Rules) (l : List (List ℕ)) (s : List ℕ) → IsAuditAnswer r l s answer → IsAnswerOf f.stopped lacking r l s f.answer)
    → IsDrafted rules list text f.lacks.items f.stopped sheet → IsFilled rules list text f
if_answered rules list text f sheet slice lacking given answer same short ok is lacks reported drafted =
    found rules list text f sheet lacking answer drafted (subst (λ (s : List ℕ). length s ≤ most_bytes) same short)
    (subst (λ (s : List ℕ). IsAuditAnswer rules list (read_of s) answer) same (answered rules list (read_of slice) given answer ok is)) lacks reported

-- ---- a text that is no draft

pub no_draft : (text : List ℕ) (fault : ReadFault) (f : DraftFault) → IsFaultOf text fault → (fault.why ≡ why.NoMemory → ⊥) → f ≡ reported_fault text fault → IsNoDraft text f
no_draft text fault f (inl none) known reported = absurd (known (ap (λ (w : ReadFault). w.why) none))
no_draft text fault f (inr fails) known reported = record { fault = fault; fails = fails; is = reported }

pub not_filled : (rules : Rules) (list other : List (List ℕ)) (text : List ℕ) (f : DraftFault) → IsSheetIn rules other text (Err f) → IsFillOf rules list text (Err f)
not_filled rules list other text f is = inl is

-- ---- the sheet alone

pub short_sheet : (rules : Rules) (list : List (List ℕ)) (text : List ℕ) (s : DraftSheet) → IsSheetIn rules list text (Ok s) → length s.text.items ≤ most_bytes
    → IsSheetOf rules list text (Ok s)
short_sheet rules list text s is short = record { drafted = is; short = short }

pub long_draft : (rules : Rules) (list : List (List ℕ)) (text : List ℕ) (s : DraftSheet) (f : DraftFault) → IsSheetIn rules list text (Ok s) → most_bytes < length s.text.items
    → f ≡ too_long → IsSheetOf rules list text (Err f)
long_draft rules list text s f is long named =
    inr (record { fault = named; lacks = s.lacks.items; stopped = s.stopped; sheet = s.text.items; drafted = is; long = long })
