-- A sheet that is corrected event by event.
use Rattle.std.proofs.Common.{◌≡◌, ℕ, zero, suc, ◌+◌, ◌<◌, ◌≤◌, List, [], ◌∷◌, length, take, get_or, slice_get, Option, Some, None, refl, sym, ap, ◌∙◌, subst, arith}
use Rattle.std.proofs.lemmas.Option.{slice_get-get_or, slice_get_read, same_Some}
use Rattle.ref_tiles.specs.declared.rulebook.Rules.{Rules}
use Rattle.gcg_read.specs.declared.events.Event.{Event}
use Rattle.game_turns.specs.declared.machine.Machine.{Machine}
use Rattle.game_turns.specs.Machines.{rules_of, state_of}
use Rattle.game_turns.specs.declared.faults.RuleFault.{RuleFault}
use Rattle.game_turns.specs.Laws.{NextTallyIsAfter}
use Rattle.game_turns.specs.Tallies.{State, tally_at, withdraws}
use Rattle.game_turns.specs.Changes.{after}
use Rattle.game_turns.specs.Places.{fault_of_event, fault_at, AreAllowedTo}
use Rattle.game_turns.proofs.PlaceLaws.{allowed_more}
use Rattle.game_corrections.specs.Corrections.{AreRenumbered, IsCorrection, HavePoints, IsRemaining, HasRefusedNumbers, StopsAt}
use Rattle.game_corrections.specs.Mending.{IsMendedAt, IsRefusedAt, after_event, state_after}
use Rattle.game_corrections.proofs.Fronts.{all_themselves, all_through, same_tally, no_correction}

-- ---- lists that agree up to a place

take_next : {X : Type 0} (xs ys : List X) (k : ℕ) → ((j : ℕ) → j < suc k → slice_get xs j ≡ slice_get ys j) → (j : ℕ) → j < k → slice_get xs (suc j) ≡ slice_get ys (suc j)
take_next xs ys k same j below = same (suc j) (omega arith)

same_take : {X : Type 0} (xs ys : List X) (k : ℕ) → ((j : ℕ) → j < k → slice_get xs j ≡ slice_get ys j) → take k xs ≡ take k ys
same_take xs ys zero same = refl
same_take [] [] (suc k) same = refl
same_take [] (y ∷ ys) (suc k) same = cc (same 0 (omega arith))
same_take (x ∷ xs) [] (suc k) same = cc (same 0 (omega arith))
same_take {X} (x ∷ xs) (y ∷ ys) (suc k) same =
    let head : x ≡ y = same_Some x y (same 0 (omega arith)) in
    let tail : take k xs ≡ take k ys = same_take xs ys k (λ j below. same (suc j) (omega arith)) in
    ap (λ (z : X). z ∷ take k xs) head ∙ ap (λ (zs : List X). y ∷ zs) tail

-- what is before a place is not changed there
front_kept : (a b : List Event) (place k : ℕ) → IsMendedAt a b place → k ≤ place → take k b ≡ take k a
front_kept a b place k is within = same_take b a k (λ j below. is.others j (λ same. absurd (omega (arith, same))))

-- and so is the tally up to it
pub tally_kept : (rules : Rules) (a b : List Event) (place k : ℕ) → IsMendedAt a b place → k ≤ place → tally_at rules b k ≡ tally_at rules a k
tally_kept rules a b place k is within = same_tally rules a b k is.renumbered (front_kept a b place k is within)

pub fault_kept : (rules : Rules) (list : List (List ℕ)) (a b : List Event) (place k : ℕ) → IsMendedAt a b place → k < place → fault_at rules list b k ≡ fault_at rules list a k
unfolding fault_at
fault_kept rules list a b place k is below =
    ap (λ s. fault_of_event rules list s (slice_get b k)) (tally_kept rules a b place k is (omega arith))
    ∙ ap (fault_of_event rules list (tally_at rules a k)) (is.others k (λ same. absurd (omega (arith, same))))

-- the fault of the event at the place, by the state there
pub fault_mended : (rules own : Rules) (list : List (List ℕ)) (a b : List Event) (place : ℕ) (s : State) (o : Option RuleFault) → IsMendedAt a b place
    → own ≡ rules → s ≡ tally_at rules a place → o ≡ fault_of_event own list s (slice_get b place) → fault_at rules list b place ≡ o
unfolding fault_at
fault_mended rules own list a b place s o is same_rules same_state reported =
    ap (λ t. fault_of_event rules list t (slice_get b place)) (tally_kept rules a b place place is (omega arith) ∙ sym same_state)
    ∙ ap (λ r. fault_of_event r list s (slice_get b place)) (sym same_rules) ∙ sym reported

-- ---- the sheet up to a place

-- The events before a place are corrected, and the others are as they were written.
pub record IsUpTo (rules : Rules) (list : List (List ℕ)) (written events : List Event) (place : ℕ) : Type 0 where
  pub renumbered : AreRenumbered written events
  pub allowed : AreAllowedTo rules list events place
  pub untouched : (k : ℕ) → place ≤ k → slice_get events k ≡ slice_get written k

pub at_start : (rules : Rules) (list : List (List ℕ)) (events : List Event) → IsUpTo rules list events events 0
at_start rules list events = record { renumbered = all_themselves events; allowed = λ place below. absurd (omega arith); untouched = λ k from. refl }

pub before_kept : (rules : Rules) (list : List (List ℕ)) (written a b : List Event) (place : ℕ) → IsUpTo rules list written a place → IsMendedAt a b place → AreAllowedTo rules list b place
before_kept rules list written a b place up is k below = fault_kept rules list a b place k is below ∙ up.allowed k below

pub one_more : (rules : Rules) (list : List (List ℕ)) (written a b : List Event) (place : ℕ) → IsUpTo rules list written a place → IsMendedAt a b place
    → fault_at rules list b place ≡ None → IsUpTo rules list written b (place + 1)
one_more rules list written a b place up is none =
    record {
      renumbered = all_through written a b up.renumbered is.renumbered;
      allowed = allowed_more rules list b place (before_kept rules list written a b place up is) none;
      untouched = λ k from. is.others k (λ same. absurd (omega (arith, same))) ∙ up.untouched k (omega arith);
    }

state_of_event : (rules : Rules) (s : State) (events : List Event) (place : ℕ) (e : Event) → slice_get events place ≡ Some e
    → state_after rules s events place ≡ after rules s e (withdraws (slice_get events (place + 1)))
state_of_event rules s events place e is = ap (λ o. after_event rules s o (slice_get events (place + 1))) is

pub state_more : NextTallyIsAfter → (rules own : Rules) (list : List (List ℕ)) (written a b : List Event) (place : ℕ) (s new : State) (e : Event) → IsUpTo rules list written a place
    → IsMendedAt a b place → slice_get b place ≡ Some e → fault_at rules list b place ≡ None → own ≡ rules → s ≡ tally_at rules a place → new ≡ state_after own s b place
    → new ≡ tally_at rules b (place + 1)
state_more law rules own list written a b place s new e up is stands none same_rules same_state remaining =
    remaining ∙ ap (λ r. state_after r s b place) same_rules
    ∙ ap (λ t. state_after rules t b place) (same_state ∙ sym (tally_kept rules a b place place is (omega arith)))
    ∙ state_of_event rules (tally_at rules b place) b place e stands
    ∙ law rules list b place e stands (allowed_more rules list b place (before_kept rules list written a b place up is) none)

-- ---- where it ends

pub whole : (rules : Rules) (list : List (List ℕ)) (written events : List Event) (end : ℕ) → IsUpTo rules list written events end → end ≡ length written → IsCorrection rules list written events
whole rules list written events end up all =
    record { renumbered = up.renumbered; allowed = λ k below. up.allowed k (subst (λ n. k < n) (up.renumbered.as_many ∙ sym all) below) }

pub stops : (rules : Rules) (list : List (List ℕ)) (written a b : List Event) (place : ℕ) (own e : Event) (why : RuleFault) → IsUpTo rules list written a place → IsMendedAt a b place
    → slice_get a place ≡ Some own → slice_get b place ≡ Some e → fault_at rules list b place ≡ Some why → IsRemaining why
    → HasRefusedNumbers rules list (tally_at rules b place) own e → StopsAt rules list written b e.line why
stops rules list written a b place own e why up is stood stands fails remaining numbers =
    record {
      place = place;
      event = e;
      own = own;
      stands = stands;
      stood = sym (up.untouched place (omega arith)) ∙ stood;
      on_line = refl;
      fails = fails;
      remaining = remaining;
      numbers = numbers;
      before = record {
        renumbered = all_through written a b up.renumbered is.renumbered;
        allowed = before_kept rules list written a b place up is;
        following = λ k following. is.others k (λ same. absurd (omega (arith, same))) ∙ up.untouched k (omega arith);
      };
    }

pub none_remaining : (rules : Rules) (list : List (List ℕ)) (written right : List Event) (line : ℕ) (why : RuleFault) → StopsAt rules list written right line why
    → (other : List Event) → HavePoints other → IsCorrection rules list written other → ⊥
none_remaining rules list written right line why at other points is =
    no_correction rules list written right other at.place at.event why at.before.renumbered at.before.allowed at.stands at.fails at.remaining points is

-- the event at a place
pub record IsThere (events : List Event) (place : ℕ) : Type 0 where
  pub event : Event
  pub stands : slice_get events place ≡ Some event

pub some_event : (events : List Event) (place : ℕ) → place < length events → IsThere events place
some_event [] place within = absurd (omega arith)
some_event (e ∷ rest) place within = record { event = get_or (e ∷ rest) place e; stands = slice_get-get_or (e ∷ rest) place e within }

pub event_there : (rules : Rules) (list : List (List ℕ)) (written a b : List Event) (place : ℕ) → IsUpTo rules list written a place → IsMendedAt a b place → place < length written
    → IsThere b place
event_there rules list written a b place up is within = some_event b place (subst (λ n. place < n) (sym (is.renumbered.as_many ∙ up.renumbered.as_many)) within)

pub item_there : (rules : Rules) (list : List (List ℕ)) (written a b items : List Event) (place : ℕ) (e : Event) → IsUpTo rules list written a place → IsMendedAt a b place
    → place < length written → items ≡ b → e ≡ get_or items place e → slice_get b place ≡ Some e
item_there rules list written a b items place e up is within same read =
    slice_get_read b (length b) place e refl (subst (λ n. place < n) (sym (is.renumbered.as_many ∙ up.renumbered.as_many)) within) (read ∙ ap (λ es. get_or es place e) same)

-- the numbers with which it is refused, by the tally there
pub numbers_there : (rules own_rules : Rules) (list : List (List ℕ)) (a b : List Event) (place : ℕ) (s : State) (own e : Event) → IsMendedAt a b place → own_rules ≡ rules
    → s ≡ tally_at rules a place → IsRefusedAt own_rules list s a b place → slice_get a place ≡ Some own → slice_get b place ≡ Some e
    → HasRefusedNumbers rules list (tally_at rules b place) own e
numbers_there rules own_rules list a b place s own e is same_rules same_state refused stood stands =
    subst (λ t. HasRefusedNumbers rules list t own e) (same_state ∙ sym (tally_kept rules a b place place is (omega arith)))
    (subst (λ r. HasRefusedNumbers r list s own e) same_rules (refused.numbers own e stood stands))

-- an event stays refused, whatever its numbers
pub stopped : (rules : Rules) (list : List (List ℕ)) (written a b items : List Event) (place : ℕ) (e : Event) (machine : Machine) (why : RuleFault) → IsUpTo rules list written a place
    → IsMendedAt a b place → place < length written → items ≡ b → e ≡ get_or items place e → rules_of machine ≡ rules → state_of machine ≡ tally_at rules a place
    → Some why ≡ fault_of_event (rules_of machine) list (state_of machine) (slice_get b place) → IsRemaining why
    → IsRefusedAt (rules_of machine) list (state_of machine) a b place → StopsAt rules list written b e.line why
stopped rules list written a b items place e machine why up is within same read same_rules same_state reported remaining refused =
    let stands = item_there rules list written a b items place e up is within same read in
    let was = some_event a place (subst (λ n. place < n) (sym up.renumbered.as_many) within) in
    stops rules list written a b place was.event e why up is was.stands stands
    (fault_mended rules (rules_of machine) list a b place (state_of machine) (Some why) is same_rules same_state reported) remaining
    (numbers_there rules (rules_of machine) list a b place (state_of machine) was.event e is same_rules same_state refused was.stands stands)
