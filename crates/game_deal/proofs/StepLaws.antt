-- The step at a place of a record that passed.
use Rattle.std.proofs.Common.{◌≡◌, ℕ, ℤ, zero, suc, ◌+◌, ◌<◌, Bool, List, [], ◌∷◌, length, take, reverse, get_or, slice_get, nat_lt, refl, sym, ap, ◌∙◌, arith, Option, Some, None}
use Rattle.std.proofs.lemmas.Option.{slice_get_within, slice_get_read}
use Rattle.std.specs.Borrow.{Bor}
use Rattle.std.specs.Option.{option_copied, is_some, IfSome}
use mathlib.Core.List.{reverse_aux}
use Rattle.ref_tiles.specs.declared.rulebook.Rules.{Rules}
use Rattle.gcg_read.specs.declared.events.Seat.{Seat}
use Rattle.gcg_read.specs.declared.events.Event.{Event}
use Rattle.gcg_read.specs.declared.events.EventKind.{EventKind}
use Rattle.gcg_read.specs.declared.events.EventKind.TheVariants as kind
use Rattle.game_turns.specs.Standing.{is_withdraw}
use Rattle.game_turns.specs.Tallies.{State, tally, tally_at, withdraws}
use Rattle.game_turns.specs.Checks.{fault_in}
use Rattle.game_turns.specs.Places.{AreAllowed}
use Rattle.game_turns.proofs.Allowed.{allowed_kind}
use Rattle.game_turns.proofs.TallyLaws.{made}
use Rattle.game_turns.proofs.PlaceLaws.{fault_here, copied_get}
use Rattle.deal_steps.specs.declared.steps.Step.{Step}
use Rattle.game_deal.specs.Recorded.{IsNamed, step_in, steps_after, steps_of}
use Rattle.game_deal.proofs.PlacedLaws.{no_text_fault}
use Rattle.game_deal.proofs.CheckLaws.{play_parts}

-- ---- the text of a play that is allowed

named_kind : (rules : Rules) (list : List (List ℕ)) (s : State) (line : ℕ) (player : Seat) (rack : Option (List ℕ)) (what : EventKind) (score total : ℤ)
    → fault_in rules list s (made line player rack what score total) ≡ None → IsNamed s.board what
named_kind rules list s line player rack (kind.Play at dir word) score total none =
    let e = made line player rack (kind.Play at dir word) score total in
    no_text_fault s.board dir at word (play_parts rules s e dir at word (allowed_kind rules list s e none)).0
named_kind rules list s line player rack kind.Pass score total none = tt
named_kind rules list s line player rack (kind.Exchange tiles) score total none = tt
named_kind rules list s line player rack (kind.ExchangeUnknown n) score total none = tt
named_kind rules list s line player rack kind.Withdraw score total none = tt
named_kind rules list s line player rack kind.Challenge score total none = tt
named_kind rules list s line player rack kind.Time score total none = tt
named_kind rules list s line player rack (kind.LastRack tiles) score total none = tt

pub named_at : (rules : Rules) (list : List (List ℕ)) (events : List Event) (place : ℕ) (e : Event) (s : State) → AreAllowed rules list events → slice_get events place ≡ Some e → s ≡ tally_at rules events place
    → IsNamed s.board e.kind
named_at rules list events place e s allowed is same =
    let here : fault_in rules list (tally_at rules events place) e ≡ None =
    sym (fault_here rules list events place e is) ∙ allowed place (slice_get_within events place e is) in
    named_kind rules list s e.line e.player e.rack e.kind e.score e.total (ap (λ t. fault_in rules list t e) same ∙ here)

-- ---- the step at a place

step_there : (rules : Rules) (past events : List Event) (place : ℕ) (e : Event) → slice_get events place ≡ Some e
    → slice_get (steps_after rules past events) place
    ≡ Some (step_in (tally rules (is_withdraw e.kind) (reverse_aux (take place events) past)) e (withdraws (slice_get events (place + 1))))
step_there rules past [] zero e is = cc
step_there rules past [] (suc place) e is = cc
step_there rules past (d ∷ events) zero e is =
    let same : d ≡ e = cc in ap (λ (x : Event). Some (step_in (tally rules (is_withdraw x.kind) past) x (withdraws (slice_get events 0)))) same
step_there rules past (d ∷ events) (suc place) e is =
    let step : suc (place + 1) ≡ suc place + 1 = omega arith in
    step_there rules (d ∷ past) events place e is
    ∙ ap (λ (k : ℕ). Some (step_in (tally rules (is_withdraw e.kind) (reverse_aux (take place events) (d ∷ past))) e (withdraws (slice_get (d ∷ events) k)))) step

pub step_is : (rules : Rules) (events : List Event) (place : ℕ) (e : Event) (s : State) (w : Bool) (step : Step) → slice_get events place ≡ Some e → s ≡ tally_at rules events place
    → w ≡ withdraws (slice_get events (place + 1)) → step ≡ step_in s e w → slice_get (steps_of rules events) place ≡ Some step
step_is rules events place e s w step is same_state same_next same_step =
    let state : s ≡ tally rules (is_withdraw e.kind) (reverse (take place events)) = same_state ∙ ap (λ o. tally rules (withdraws o) (reverse (take place events))) is in
    step_there rules [] events place e is
    ∙ ap (λ (t : State). Some (step_in t e (withdraws (slice_get events (place + 1))))) (sym state)
    ∙ ap (λ (b : Bool). Some (step_in s e b)) (sym same_next) ∙ ap Some (sym same_step)

-- the events as they are given, and what a look-up in them gives
pub given_named : (rules : Rules) (list : List (List ℕ)) (events given : List Event) (place : ℕ) (e : Event) (s : State) → AreAllowed rules list events → given ≡ events → place < length events
    → e ≡ get_or given place e → s ≡ tally_at rules events place → IsNamed s.board e.kind
given_named rules list events given place e s allowed same within there state =
    named_at rules list events place e s allowed
    (slice_get_read events (length events) place e refl within (there ∙ ap (λ (es : List Event). get_or es place e) same)) state

pub given_step : (rules : Rules) (events given : List Event) (place : ℕ) (e : Event) (s : State) (next : Option (Bor Event)) (w : Bool) (step : Step) → given ≡ events → place < length events
    → e ≡ get_or given place e → s ≡ tally_at rules events place → is_some next ≡ nat_lt (place + 1) (length given) → IfSome next (λ x. x.now ≡ get_or given (place + 1) x.now)
    → w ≡ withdraws (option_copied next) → step ≡ step_in s e w → slice_get (steps_of rules events) place ≡ Some step
given_step rules events given place e s next w step same within there state some following withdrawn is =
    step_is rules events place e s w step
    (slice_get_read events (length events) place e refl within (there ∙ ap (λ (es : List Event). get_or es place e) same)) state
    (withdrawn ∙ ap withdraws (copied_get given (place + 1) next some following ∙ ap (λ (es : List Event). slice_get es (place + 1)) same)) is

-- there are as many steps as events
pub length-steps : (rules : Rules) (past events : List Event) → length (steps_after rules past events) ≡ length events
length-steps rules past [] = refl
length-steps rules past (e ∷ events) = ap suc (length-steps rules (e ∷ past) events)
