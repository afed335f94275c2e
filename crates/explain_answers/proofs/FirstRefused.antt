-- Where the first event is that is refused, by the rows of a walk.
use Rattle.std.proofs.Common.{◌≡◌, ◌⊎◌, inl, inr, ℕ, zero, suc, ◌+◌, ◌<◌, ◌≤◌, nat_lt, Bool, true, false, List, [], ◌∷◌, length, slice_get, Option, Some, None, refl, sym, ap, ◌∙◌, subst, arith}
use Rattle.std.proofs.lemmas.Bool.{ltb-true, ltb-false}
use Rattle.std.proofs.lemmas.Option.{same_Some, slice_get_within}
use Rattle.first_faults.proofs.CheckLaws.{some_fault}
use Rattle.ref_tiles.specs.declared.rulebook.Rules.{Rules}
use Rattle.gcg_read.specs.declared.events.Event.{Event}
use Rattle.game_turns.specs.declared.faults.RuleFault.{RuleFault}
use Rattle.game_turns.specs.declared.faults.RuleFault.TheVariants as fault
use Rattle.game_turns.specs.declared.machine.Machine.{Machine}
use Rattle.game_turns.specs.Machines.{state_of}
use Rattle.game_turns.specs.Tallies.{State, tally_at}
use Rattle.game_turns.specs.Checks.{fault_in}
use Rattle.game_turns.specs.Places.{fault_at, AreAllowedTo, IsFirstRefusal, IsRefusedBefore}
use Rattle.game_turns.proofs.PlaceLaws.{fault_here}
use Rattle.game_corrections.proofs.Fronts.{fronts_agree, same_tally}
use Rattle.game_corrections.proofs.Numbers.{same_event, same_where_allowed}
use Rattle.game_walk.specs.declared.numbers.Numbers.{Numbers}
use Rattle.game_walk.specs.declared.refusals.Refusal.{Refusal}
use Rattle.game_walk.specs.declared.refusals.Stop.{Stop}
use Rattle.game_walk.specs.declared.rows.Row.{Row}
use Rattle.game_walk.specs.declared.walking.Walk.{Walk}
use Rattle.game_walk.specs.Numbers.{numbers_in}
use Rattle.game_walk.specs.Refusals.{IsReportedRefusal, StopsThere, EndsAt}
use Rattle.game_walk.specs.Walks.{IsWalk, IsWalkOf}
use Rattle.game_walk.proofs.Steps.{walk_renumbered}
use Rattle.explain_answers.specs.Judging.{AreRightTo}

-- ---- rows with the right numbers

record IsThere {X : Type 0} (xs : List X) (k : ℕ) : Type 0 where
  pub item : X
  pub is : slice_get xs k ≡ Some item

there : {X : Type 0} (xs : List X) (k : ℕ) → k < length xs → IsThere xs k
there [] k below = absurd (omega (arith, below))
there (x ∷ xs) zero below = record { item = x; is = refl }
there (x ∷ xs) (suc k) below = let rest = there xs k (omega (arith, below)) in record { item = rest.item; is = rest.is }

right_by : (rows : List Row) (place k : ℕ) (row r : Row) (b : Bool) → nat_lt k place ≡ b → k < place + 1 → ((j : ℕ) (x : Row) → j < place → slice_get rows j ≡ Some x → x.written ≡ x.right)
    → slice_get rows place ≡ Some row → row.written ≡ row.right → slice_get rows k ≡ Some r → r.written ≡ r.right
right_by rows place k row r true is below before at right here = before k r (ltb-true k place is) here
right_by rows place k row r false is below before at right here =
    let past = ltb-false k place is in
    let same : k ≡ place = omega (arith, below, past) in
    let one : r ≡ row = same_Some r row (sym here ∙ ap (slice_get rows) same ∙ at) in
    subst (λ (x : Row). x.written ≡ x.right) (sym one) right

-- one more row is right
pub right_more : (rows : List Row) (place : ℕ) (row : Row) → ((j : ℕ) (x : Row) → j < place → slice_get rows j ≡ Some x → x.written ≡ x.right) → slice_get rows place ≡ Some row
    → row.written ≡ row.right → (k : ℕ) (r : Row) → k < place + 1 → slice_get rows k ≡ Some r → r.written ≡ r.right
right_more rows place row before at right k r below here = right_by rows place k row r (nat_lt k place) refl below before at right here

-- ---- the events of a record of which one is refused

-- a walk over a record, and the first event of it that is refused
record IsRefusedWalk (rules : Rules) (list : List (List ℕ)) (written right : List Event) (walk : Walk) (refusal : Refusal) : Type 0 where
  pub is : IsWalk rules list written right walk
  pub first : IsFirstRefusal rules list written refusal.line refusal.why

-- up to that event the corrected events have the tallies of those that are written
state_at : (rules : Rules) (list : List (List ℕ)) (written right : List Event) (walk : Walk) (refusal : Refusal) (h : IsRefusedWalk rules list written right walk refusal) (k : ℕ)
    → k ≤ h.first.place → k ≤ h.is.end → tally_at rules right k ≡ tally_at rules written k
state_at rules list written right walk refusal h k before within =
    let first = h.first in
    let is = h.is in
    let like = walk_renumbered rules list written right walk is in
    let long = slice_get_within written first.place first.event first.stands in
    same_tally rules written right k like
    (fronts_agree rules list written right k like (omega (arith, before, long)) (λ j below. first.earlier j (omega (arith, below, before))) (λ j below. is.allowed j (omega (arith, below, within))))

-- an event that has the right numbers is allowed
own_right : (rules : Rules) (list : List (List ℕ)) (written right : List Event) (walk : Walk) (refusal : Refusal) (h : IsRefusedWalk rules list written right walk refusal) (k : ℕ) (row : Row)
    → k ≤ h.first.place → slice_get walk.rows.items k ≡ Some row → row.written ≡ row.right → fault_at rules list written k ≡ None
own_right rules list written right walk refusal h k row before here same_numbers =
    let is = h.is in
    let at = is.rows.each k row here in
    let long = slice_get_within walk.rows.items k row here in
    let many = is.rows.as_many in
    let renumbered = (walk_renumbered rules list written right walk is).each k at.own at.event at.stood at.stands in
    let numbers : numbers_in at.event ≡ numbers_in at.own = sym at.right_numbers ∙ sym same_numbers ∙ at.own_numbers in
    let same : at.event ≡ at.own = same_event at.own at.event renumbered (ap (λ (n : Numbers). n.score) numbers) (ap (λ (n : Numbers). n.total) numbers) in
    let state = state_at rules list written right walk refusal h k before (omega (arith, long, many)) in
    let allowed : fault_in rules list (tally_at rules right k) at.event ≡ None = sym (fault_here rules list right k at.event at.stands) ∙ is.allowed k (omega (arith, long, many)) in
    fault_here rules list written k at.own at.stood
    ∙ ap (λ (s : State). fault_in rules list s at.own) (sym state)
    ∙ ap (fault_in rules list (tally_at rules right k)) (sym same)
    ∙ allowed

-- and one that has others is refused
own_wrong : (rules : Rules) (list : List (List ℕ)) (written right : List Event) (walk : Walk) (refusal : Refusal) (h : IsRefusedWalk rules list written right walk refusal) (k : ℕ) (row : Row)
    → k ≤ h.first.place → slice_get walk.rows.items k ≡ Some row → (row.written ≡ row.right → ⊥) → fault_at rules list written k ≡ None → ⊥
own_wrong rules list written right walk refusal h k row before here wrong none =
    let is = h.is in
    let at = is.rows.each k row here in
    let long = slice_get_within walk.rows.items k row here in
    let many = is.rows.as_many in
    let renumbered = (walk_renumbered rules list written right walk is).each k at.own at.event at.stood at.stands in
    let state = state_at rules list written right walk refusal h k before (omega (arith, long, many)) in
    let allowed : fault_in rules list (tally_at rules right k) at.event ≡ None = sym (fault_here rules list right k at.event at.stands) ∙ is.allowed k (omega (arith, long, many)) in
    let own : fault_in rules list (tally_at rules right k) at.own ≡ None =
    ap (λ (s : State). fault_in rules list s at.own) state ∙ sym (fault_here rules list written k at.own at.stood) ∙ none in
    let same : at.event ≡ at.own = same_where_allowed rules list (tally_at rules right k) at.own at.event renumbered own allowed in
    wrong (at.own_numbers ∙ ap numbers_in (sym same) ∙ sym at.right_numbers)

refused_by : (rules : Rules) (list : List (List ℕ)) (s : State) (own event : Event) (why : RuleFault) (score : (event.score ≡ own.score) ⊎ (fault_in rules list s own ≡ Some (fault.WrongScore event.score)))
    → (event.score ≡ own.score → event ≡ own) → fault_in rules list s event ≡ Some why → fault_in rules list s own ≡ None → ⊥
refused_by rules list s own event why (inl score) same fails allowed = some_fault why (sym fails ∙ ap (fault_in rules list s) (same score) ∙ allowed)
refused_by rules list s own event why (inr wrong) same fails allowed = some_fault (fault.WrongScore event.score) (sym wrong ∙ allowed)

-- so is the one at which the correction stops
own_stopped : (rules : Rules) (list : List (List ℕ)) (written right : List Event) (walk : Walk) (refusal : Refusal) (h : IsRefusedWalk rules list written right walk refusal) (stop : Stop)
    → StopsThere rules list written right h.is.end stop → h.is.end ≤ h.first.place → fault_at rules list written h.is.end ≡ None → ⊥
own_stopped rules list written right walk refusal h stop there before none =
    let is = h.is in
    let stops = there.stops in
    let at = there.there in
    let renumbered = (walk_renumbered rules list written right walk is).each stops.place stops.own stops.event stops.stood stops.stands in
    let state = state_at rules list written right walk refusal h stops.place (omega (arith, at, before)) (omega (arith, at)) in
    let own : fault_in rules list (tally_at rules right stops.place) stops.own ≡ None =
    ap (λ (s : State). fault_in rules list s stops.own) state ∙ sym (fault_here rules list written stops.place stops.own stops.stood) ∙ ap (fault_at rules list written) at ∙ none in
    let fails : fault_in rules list (tally_at rules right stops.place) stops.event ≡ Some stop.refusal.why =
    sym (fault_here rules list right stops.place stops.event stops.stands) ∙ stops.fails in
    refused_by rules list (tally_at rules right stops.place) stops.own stops.event stop.refusal.why stops.numbers.score
    (λ score. same_event stops.own stops.event renumbered score stops.numbers.total) fails own

ends_by : (rules : Rules) (list : List (List ℕ)) (written right : List Event) (walk : Walk) (refusal : Refusal) (h : IsRefusedWalk rules list written right walk refusal) (stopped : Option Stop)
    → EndsAt rules list written right h.is.end stopped → h.is.end ≤ h.first.place → fault_at rules list written h.is.end ≡ None → ⊥
ends_by rules list written right walk refusal h None ends before none =
    let first = h.first in
    let long = slice_get_within written first.place first.event first.stands in
    let all = ends.0 in
    omega (arith, long, all, before)
ends_by rules list written right walk refusal h (Some stop) ends before none = own_stopped rules list written right walk refusal h stop ends before none

-- ---- where it is

past_by : (rules : Rules) (list : List (List ℕ)) (written right : List Event) (walk : Walk) (refusal : Refusal) (h : IsRefusedWalk rules list written right walk refusal) (many : ℕ)
    → AreRightTo walk.rows.items many → many < h.first.place → (b : Bool) → nat_lt many (length walk.rows.items) ≡ b → ⊥
past_by rules list written right walk refusal h many are below true is =
    let row = there walk.rows.items many (ltb-true many (length walk.rows.items) is) in
    own_wrong rules list written right walk refusal h many row.item (omega (arith, below)) row.is (are.wrong row.item row.is) (h.first.earlier many below)
past_by rules list written right walk refusal h many are below false is =
    let past = ltb-false many (length walk.rows.items) is in
    let within = are.within in
    let size = h.is.rows.as_many in
    let same : many ≡ h.is.end = omega (arith, past, within, size) in
    ends_by rules list written right walk refusal h walk.stopped h.is.ends (omega (arith, same, below)) (ap (fault_at rules list written) (sym same) ∙ h.first.earlier many below)

place_by : (rules : Rules) (list : List (List ℕ)) (written right : List Event) (walk : Walk) (refusal : Refusal) (h : IsRefusedWalk rules list written right walk refusal) (many : ℕ)
    → AreRightTo walk.rows.items many → (b c : Bool) → nat_lt h.first.place many ≡ b → nat_lt many h.first.place ≡ c → h.first.place ≡ many
place_by rules list written right walk refusal h many are true c is_b is_c =
    let first = h.first in
    let below = ltb-true first.place many is_b in
    let within = are.within in
    let row = there walk.rows.items first.place (omega (arith, below, within)) in
    absurd (some_fault refusal.why (sym first.fails ∙ own_right rules list written right walk refusal h first.place row.item (omega arith) row.is (are.right first.place row.item below row.is)))
place_by rules list written right walk refusal h many are false true is_b is_c =
    absurd (past_by rules list written right walk refusal h many are (ltb-true many h.first.place is_c) (nat_lt many (length walk.rows.items)) refl)
place_by rules list written right walk refusal h many are false false is_b is_c =
    let one = ltb-false h.first.place many is_b in
    let other = ltb-false many h.first.place is_c in
    omega (arith, one, other)

-- the first event that is refused is the first one whose numbers are not the right ones, or the one at which the correction stops
place_of : (rules : Rules) (list : List (List ℕ)) (written right : List Event) (walk : Walk) (refusal : Refusal) (h : IsRefusedWalk rules list written right walk refusal) (many : ℕ)
    → AreRightTo walk.rows.items many → h.first.place ≡ many
place_of rules list written right walk refusal h many are =
    place_by rules list written right walk refusal h many are (nat_lt h.first.place many) (nat_lt many h.first.place) refl refl

refused_walk : (rules : Rules) (list : List (List ℕ)) (written : List Event) (walk : Walk) (refusal : Refusal) (w : IsWalkOf rules list written walk) → walk.refused ≡ Some refusal
    → IsRefusedWalk rules list written w.right walk refusal
refused_walk rules list written walk refusal w is = record { is = w.is; first = subst (IsReportedRefusal rules list written) is w.is.refused }

-- ---- what is told of a place

-- The game before a place, by the corrected events.
abbrev pub IsGameAt : Rules → (list : List (List ℕ)) → (written : List Event) → Walk → (place : ℕ) → Machine → Type 0
IsGameAt rules list written walk place machine = (right : List Event) → IsWalk rules list written right walk → state_of machine ≡ tally_at rules right place

-- if no event is refused, each is allowed
pub whole_allowed : (rules : Rules) (list : List (List ℕ)) (written : List Event) (walk : Walk) (place : ℕ) (machine : Machine) → IsWalkOf rules list written walk → walk.refused ≡ None
    → place < length written → IsGameAt rules list written walk place machine
    → (state_of machine ≡ tally_at rules written place) × AreAllowedTo rules list written (place + 1)
whole_allowed rules list written walk place machine w none within game =
    let allowed : IsReportedRefusal rules list written None = subst (IsReportedRefusal rules list written) none w.is.refused in
    (game w.right w.is ∙ ap (λ (events : List Event). tally_at rules events place) (w.is.unchanged none).0, λ k below. allowed k (omega (arith, below, within)))

-- and each event has a row
pub rows_reach : (rules : Rules) (list : List (List ℕ)) (written : List Event) (walk : Walk) (place : ℕ) → IsWalkOf rules list written walk → walk.refused ≡ None
    → place < length written → length walk.rows.items < place → ⊥
rows_reach rules list written walk place w none within short =
    let is = w.is in
    let size = is.rows.as_many in
    let ends : EndsAt rules list written w.right is.end None = subst (EndsAt rules list written w.right is.end) (is.unchanged none).1 is.ends in
    let all = ends.0 in
    omega (arith, size, all, within, short)

-- an event before the first refused one
pub earlier_allowed : (rules : Rules) (list : List (List ℕ)) (written : List Event) (walk : Walk) (refusal : Refusal) (place many : ℕ) (machine : Machine) → IsWalkOf rules list written walk
    → walk.refused ≡ Some refusal → AreRightTo walk.rows.items many → place < many → IsGameAt rules list written walk place machine
    → (state_of machine ≡ tally_at rules written place) × AreAllowedTo rules list written (place + 1)
earlier_allowed rules list written walk refusal place many machine w is are below game =
    let h = refused_walk rules list written walk refusal w is in
    let at = place_of rules list written w.right walk refusal h many are in
    let within = are.within in
    let size = h.is.rows.as_many in
    (game w.right w.is ∙ state_at rules list written w.right walk refusal h place (omega (arith, at, below)) (omega (arith, within, size, below)), λ k before. h.first.earlier k (omega (arith, at, below, before)))

-- the first refused event
pub first_refused : (rules : Rules) (list : List (List ℕ)) (written : List Event) (walk : Walk) (refusal : Refusal) (place many : ℕ) (machine : Machine) → IsWalkOf rules list written walk
    → walk.refused ≡ Some refusal → AreRightTo walk.rows.items many → many ≡ place → IsGameAt rules list written walk place machine
    → (state_of machine ≡ tally_at rules written place) × (fault_at rules list written place ≡ Some refusal.why) × AreAllowedTo rules list written place
first_refused rules list written walk refusal place many machine w is are same game =
    let h = refused_walk rules list written walk refusal w is in
    let at = place_of rules list written w.right walk refusal h many are in
    let within = are.within in
    let size = h.is.rows.as_many in (
      game w.right w.is ∙ state_at rules list written w.right walk refusal h place (omega (arith, at, same)) (omega (arith, within, size, same)),
      ap (fault_at rules list written) (sym (at ∙ same)) ∙ h.first.fails,
      λ k below. h.first.earlier k (omega (arith, at, same, below)),
    )

-- an event after it
pub after_refused : (rules : Rules) (list : List (List ℕ)) (written : List Event) (walk : Walk) (refusal : Refusal) (place many : ℕ) → IsWalkOf rules list written walk
    → walk.refused ≡ Some refusal → AreRightTo walk.rows.items many → many < place → (why : RuleFault) × IsRefusedBefore rules list written place refusal.line why
after_refused rules list written walk refusal place many w is are below =
    let h = refused_walk rules list written walk refusal w is in
    let at = place_of rules list written w.right walk refusal h many are in
    (refusal.why, record { first = h.first; before = omega (arith, at, below) })
