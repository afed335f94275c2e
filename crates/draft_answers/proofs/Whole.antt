-- What is found of a draft that lacks nothing.
use Rattle.std.proofs.Common.{◌≡◌, ℕ, Bool, true, false, List, [], ◌∷◌, map, Option, Some, None, refl, ap, subst, ◌∙◌}
use Rattle.ref_tiles.specs.declared.rulebook.Rules.{Rules}
use Rattle.gcg_read.specs.declared.events.Event.{Event}
use Rattle.game_walk.specs.declared.refusals.Refusal.{Refusal}
use Rattle.sheet_audit.specs.Answers.{IsAuditAnswer}
use Rattle.gcg_drafts.specs.declared.missing.Missing.TheVariants as missing
use Rattle.gcg_drafts.proofs.Own.{own_draft}
use Rattle.draft_answers.specs.declared.filled.FilledDraft.{FilledDraft}
use Rattle.draft_answers.specs.Filling.{has_missing, sheet_of}
use Rattle.draft_answers.specs.Filled.{IsAnswerOf}
use Rattle.draft_answers.specs.Laws.{FindsWhatAuditFinds}

none_missing : (events : List Event) → has_missing (map (λ (e : Event). missing.Nothing) events) ≡ false
none_missing [] = refl
none_missing (e ∷ events) = none_missing events

answer_by : (rules : Rules) (list : List (List ℕ)) (sheet : List ℕ) (f : FilledDraft) (stopped : Option Refusal) (lacking : Bool) → lacking ≡ false → IsAnswerOf stopped lacking rules list sheet f.answer
    → IsAuditAnswer rules list sheet f.answer
answer_by rules list sheet f None lacking e is = is
answer_by rules list sheet f (Some refusal) true e is = absurd cc
answer_by rules list sheet f (Some refusal) false e is = is

pub finds_what_audit_finds : FindsWhatAuditFinds
unfolding sheet_of
finds_what_audit_finds rules list text r f means is =
    let own = own_draft text r means in
    let d = is.drafted in
    let none : has_missing f.lacks.items ≡ false = ap has_missing (d.missing ∙ own.whole) ∙ none_missing r.events in
    let sheet : is.sheet ≡ text = d.is ∙ rw none own.same in
    subst (λ s. IsAuditAnswer rules list s f.answer) sheet (answer_by rules list is.sheet f f.stopped (has_missing f.lacks.items) none is.answer)
