-- What a walk over a record says of it.
use Rattle.std.proofs.Common.{◌≡◌, ℕ, suc, ◌+◌, ◌<◌, Bool, not, List, length, get_or, Option, Some, None, refl, sym, ap, ◌∙◌, subst, arith}
use Rattle.std.specs.Prelude.{if◌then◌else◌, Result, Ok, Err}
use Rattle.std.proofs.lemmas.Option.{slice_get_read}
use Rattle.ref_tiles.specs.declared.rulebook.Rules.{Rules}
use Rattle.gcg_read.specs.declared.events.Event.{Event}
use Rattle.game_turns.specs.Places.{AreAllowed, IsFirstRefusal, is_finished}
use Rattle.game_turns.specs.Tallies.{State, tally_at}
use Rattle.game_walk.specs.declared.refusals.Refusal.{Refusal}
use Rattle.game_walk.specs.declared.rows.Row.{Row}
use Rattle.game_walk.specs.Refusals.{IsReportedRefusal}
use Rattle.game_walk.specs.Rows.{HaveRows}
use Rattle.gcg_read.specs.declared.faults.ReadFault.{ReadFault}
use Rattle.game_case.specs.declared.entries.Walked.{Walked}
use Rattle.game_case.specs.declared.explains.Case.{Case}
use Rattle.game_case.specs.Archiving.{unlisted_to, IsEntryOf}
use Rattle.game_case.specs.Explaining.{IsWalkFor, IsCaseOf}
use Rattle.game_case.specs.WalkedEntries.{IsWalkedFrom, read_of, walk_of}

-- no event is refused
pub all_allowed : (rules : Rules) (words : List (List ℕ)) (events : List Event) (refused : Option Refusal) → IsReportedRefusal rules words events refused → refused ≡ None → AreAllowed rules words events
all_allowed rules words events refused reported none = subst (IsReportedRefusal rules words events) none reported

-- the first that is
pub first_of : (rules : Rules) (words : List (List ℕ)) (events : List Event) (refused : Option Refusal) (refusal : Refusal) → IsReportedRefusal rules words events refused → refused ≡ Some refusal
    → IsFirstRefusal rules words events refusal.line refusal.why
first_of rules words events refused refusal reported is = subst (IsReportedRefusal rules words events) is reported

-- whether the game is complete
pub complete_at_end : (rules : Rules) (events : List Event) (s : State) (complete : Bool) → complete ≡ s.complete → s ≡ tally_at rules events (length events) → complete ≡ is_finished rules events
complete_at_end rules events s complete reported state = reported ∙ ap (λ (x : State). x.complete) state

-- one more row is counted
pub unlisted_more : (rules : Rules) (words : List (List ℕ)) (events : List Event) (rows : List Row) (place : ℕ) (row : Row) (so_far n : ℕ) → HaveRows rules words events rows → place < length rows
    → row ≡ get_or rows place row → so_far ≡ unlisted_to rules words events place → n ≡ (if not row.listed then 1 else 0) → so_far + n ≡ unlisted_to rules words events (place + 1)
unlisted_more rules words events rows place row so_far n have within read same is =
    let at = have.are.each place row (slice_get_read rows (length rows) place row refl within read) in
    let step : suc place ≡ place + 1 = omega arith in
    ap (λ k. k + n) same ∙ ap (λ k. unlisted_to rules words events place + k) (is ∙ ap (λ (b : Bool). if not b then 1 else 0) at.listed) ∙ ap (unlisted_to rules words events) step

-- the case of a text, by its entry and its walk
pub case_is : (rules : Rules) (words : List (List ℕ)) (text : List ℕ) (walked : Result Walked ReadFault) (case : Case) → IsWalkedFrom rules words text walked → case.text.items ≡ text
    → case.read ≡ read_of walked → case.walk ≡ walk_of walked → IsCaseOf rules words text case
case_is rules words text (Ok w) case is same read walk = (
  same,
  subst (IsEntryOf rules words text) (sym read) (is.0, is.1),
  subst (λ r. IsWalkFor rules words r case.walk) (sym read) (subst (IsWalkFor rules words (Ok w.entry)) (sym walk) is.2),
)
case_is rules words text (Err fault) case is same read walk = (
  same,
  subst (IsEntryOf rules words text) (sym read) is,
  subst (λ r. IsWalkFor rules words r case.walk) (sym read) (subst (IsWalkFor rules words (Err fault)) (sym walk) tt),
)
