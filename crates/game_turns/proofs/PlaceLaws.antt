-- The tally at the next place of a record.
use Rattle.std.proofs.Common.{◌≡◌, ℕ, zero, suc, ◌+◌, ◌<◌, ◌≤◌, Bool, true, false, nat_lt, List, [], ◌∷◌, length, reverse, take, get_or, slice_get, Option, Some, None, refl, sym, ap, ◌∙◌, subst, arith, ⊎_elim}
use Rattle.std.proofs.lemmas.List.{take_more, reverse-append}
use Rattle.std.specs.Borrow.{Bor}
use Rattle.std.specs.Option.{option_copied, is_some, IfSome}
use Rattle.std.proofs.lemmas.Option.{slice_get_past, slice_get_read, slice_get_within, slice_get-get_or, get_or_from_slice_get}
use Rattle.ref_play.specs.Laws.{TakingBackRestores}
use Rattle.game_turns.specs.Laws.{NextTallyIsAfter}
use Rattle.ref_tiles.specs.declared.rulebook.Rules.{Rules}
use Rattle.gcg_read.specs.declared.events.Event.{Event}
use Rattle.std.proofs.lemmas.Bool.{cases_eq, ltb-true, ltb-false}
use Rattle.game_turns.specs.declared.faults.RuleFault.{RuleFault}
use Rattle.game_turns.specs.declared.machine.Machine.{Machine}
use Rattle.game_turns.specs.Machines.{rules_of, state_of}
use Rattle.game_turns.specs.Tallies.{State, tally, tally_at, withdraws}
use Rattle.game_turns.specs.Checks.{fault_in}
use Rattle.game_turns.specs.Places.{fault_of_event, fault_at, AreAllowed, AreAllowedTo, IsFirstRefusal}
use Rattle.game_turns.specs.Changes.{after}
use Rattle.game_turns.proofs.NextTallies.{IsNext, IsLatest, tally_after}

-- the past after one more event
past_more : (events : List Event) (place : ℕ) (e : Event) → slice_get events place ≡ Some e → reverse (take (place + 1) events) ≡ e ∷ reverse (take place events)
past_more events place e is =
    let within = slice_get_within events place e is in
    ap reverse (take_more events place e within) ∙ reverse-append (take place events) (get_or events place e ∷ [])
    ∙ ap (λ x. x ∷ reverse (take place events)) (get_or_from_slice_get events place e e is)

-- the fault at a place is that of its event
pub fault_here : (rules : Rules) (list : List (List ℕ)) (events : List Event) (place : ℕ) (e : Event) → slice_get events place ≡ Some e
    → fault_at rules list events place ≡ fault_in rules list (tally_at rules events place) e
unfolding fault_at
fault_here rules list events place e is = ap (fault_of_event rules list (tally_at rules events place)) is

next_at : (rules : Rules) (list : List (List ℕ)) (events : List Event) (place : ℕ) (e : Event) → slice_get events place ≡ Some e → fault_at rules list events place ≡ None
    → IsNext rules list (reverse (take place events)) e
next_at rules list events place e is none =
    let here : fault_in rules list (tally_at rules events place) e ≡ None = sym (fault_here rules list events place e is) ∙ none in
    subst (λ o. fault_in rules list (tally rules (withdraws o) (reverse (take place events))) e ≡ None) is here

latest_at : (rules : Rules) (list : List (List ℕ)) (events : List Event) (place : ℕ) → place ≤ length events → AreAllowedTo rules list events place
    → IsLatest rules list (reverse (take place events))
latest_at rules list events zero within allowed = tt
latest_at rules list [] (suc place) within allowed = absurd (omega arith)
latest_at rules list (d ∷ rest) (suc place) within allowed =
    let events = d ∷ rest in
    let e = get_or events place d in
    let is : slice_get events place ≡ Some e = slice_get-get_or events place d (omega arith) in
    let step : place + 1 ≡ suc place = omega arith in
    let past : reverse (take (suc place) events) ≡ e ∷ reverse (take place events) = ap (λ k. reverse (take k events)) (sym step) ∙ past_more events place e is in
    subst (IsLatest rules list) (sym past) (next_at rules list events place e is (allowed place (omega arith)))

pub next_tally : TakingBackRestores → (rules : Rules) (list : List (List ℕ)) (events : List Event) (place : ℕ) (e : Event) → slice_get events place ≡ Some e → AreAllowedTo rules list events (place + 1)
    → after rules (tally_at rules events place) e (withdraws (slice_get events (place + 1))) ≡ tally_at rules events (place + 1)
next_tally restores rules list events place e is allowed =
    let within = slice_get_within events place e is in
    let w = withdraws (slice_get events (place + 1)) in
    let past = reverse (take place events) in
    let before = latest_at rules list events place (omega arith) (λ k below. allowed k (omega arith)) in
    let here = next_at rules list events place e is (allowed place (omega arith)) in
    ap (λ o. after rules (tally rules (withdraws o) past) e w) is
    ∙ tally_after restores rules list past e w before here ∙ ap (tally rules w) (sym (past_more events place e is))

same_start : (rules : Rules) (w : Bool) → tally rules false [] ≡ tally rules w []
unfolding tally
same_start rules true = refl
same_start rules false = refl

-- the tally at the first place, whatever the first event is
pub start_tally : (rules : Rules) (events : List Event) → tally rules false [] ≡ tally_at rules events 0
start_tally rules events = same_start rules (withdraws (slice_get events 0))

-- one more place is allowed
pub allowed_more : (rules : Rules) (list : List (List ℕ)) (events : List Event) (end : ℕ) → AreAllowedTo rules list events end → fault_at rules list events end ≡ None
    → AreAllowedTo rules list events (end + 1)
allowed_more rules list events end before here place below =
    ⊎_elim
    (λ (same : place ≡ end). ap (fault_at rules list events) same ∙ here)
    (λ (ne : place ≡ end → ⊥). before place (omega arith))
    (cases_eq place end)

-- a step of a machine from the tally at a place: its answer gives the fault there
pub fault_reported : (rules : Rules) (list : List (List ℕ)) (events : List Event) (place : ℕ) (e : Event) (machine : Machine) (o : Option RuleFault)
    → place < length events → e ≡ get_or events place e → rules_of machine ≡ rules → state_of machine ≡ tally_at rules events place
    → fault_in (rules_of machine) list (state_of machine) e ≡ o → fault_at rules list events place ≡ o
fault_reported rules list events place e machine o within is same_rules same_state reported =
    fault_here rules list events place e (slice_get_read events (length events) place e refl within is)
    ∙ sym (ap (λ r. fault_in r list (tally_at rules events place) e) same_rules)
    ∙ sym (ap (λ t. fault_in (rules_of machine) list t e) same_state) ∙ reported

-- and leaves the tally at the next place
pub state_remaining : NextTallyIsAfter → (rules : Rules) (list : List (List ℕ)) (events : List Event) (place : ℕ) (e : Event) (machine : Machine) (new : State) (next : Option Event)
    → place < length events → e ≡ get_or events place e → rules_of machine ≡ rules → state_of machine ≡ tally_at rules events place
    → next ≡ slice_get events (place + 1) → AreAllowedTo rules list events (place + 1) → new ≡ after (rules_of machine) (state_of machine) e (withdraws next)
    → new ≡ tally_at rules events (place + 1)
state_remaining law rules list events place e machine new next within is same_rules same_state same_next allowed remaining =
    remaining ∙ ap (λ r. after r (state_of machine) e (withdraws next)) same_rules ∙ ap (λ t. after rules t e (withdraws next)) same_state
    ∙ ap (λ o. after rules (tally_at rules events place) e (withdraws o)) same_next
    ∙ law rules list events place e (slice_get_read events (length events) place e refl within is) allowed

-- what a look-up in the events gives
pub copied_get : (events : List Event) (place : ℕ) (o : Option (Bor Event)) → is_some o ≡ nat_lt place (length events) → IfSome o (λ x. x.now ≡ get_or events place x.now)
    → option_copied o ≡ slice_get events place
copied_get events place None there item = sym (slice_get_past events place (ltb-false place (length events) (sym there)))
copied_get events place (Some x) there item = sym (slice_get_read events (length events) place x.now refl (ltb-true place (length events) (sym there)) item)

-- if some event is refused, not all are allowed
pub first_not_allowed : (rules : Rules) (words : List (List ℕ)) (events : List Event) (line : ℕ) (why : RuleFault) → IsFirstRefusal rules words events line why → AreAllowed rules words events → ⊥
first_not_allowed rules words events line why first allowed =
    let none : fault_at rules words events first.place ≡ None = allowed first.place (slice_get_within events first.place first.event first.stands) in
    let both : None ≡ Some why = sym none ∙ first.fails in
    cc
