-- The event at which a record is refused first.
use Rattle.std.proofs.Common.{◌≡◌, ℕ, ◌+◌, ◌<◌, nat_lt, get_or, length, Bool, true, false, List, [], ◌∷◌, ◌++◌, All, slice_get, Some, inl, refl, sym, ap, ◌∙◌, subst, arith}
use Rattle.std.proofs.lemmas.Bool.{ltb-true, ltb-false}
use Rattle.std.proofs.lemmas.List.Elements.{All-append, All-cons, All-nil, All-head, All-tail}
use Rattle.std.proofs.lemmas.Option.{slice_get_read}
use Rattle.first_faults.proofs.CheckLaws.{some_fault}
use Rattle.ref_tiles.specs.declared.rulebook.Rules.{Rules}
use Rattle.gcg_read.specs.declared.events.Event.{Event}
use Rattle.game_turns.specs.declared.faults.RuleFault.{RuleFault}
use Rattle.game_turns.specs.Tallies.{State, tally_at}
use Rattle.game_turns.specs.Checks.{fault_in}
use Rattle.game_turns.specs.Places.{fault_of_event, fault_at, AreAllowedTo, IsRefusedBefore}
use Rattle.explain_facts.specs.declared.facts.Fact.{Fact}
use Rattle.explain_facts.specs.Moments.{Moment, IsMomentAt}
use Rattle.explain_facts.specs.Facts.{IsTrue}
use Rattle.explain_answers.specs.Events.{IsTrueAt}

there_by : (rules : Rules) (list : List (List ℕ)) (events : List Event) (place p : ℕ) (why : RuleFault) (b : Bool) → nat_lt p place ≡ b → p < place + 1
    → AreAllowedTo rules list events place → fault_at rules list events p ≡ Some why → fault_at rules list events place ≡ Some why
there_by rules list events place p why true is below allowed fails = absurd (some_fault why (sym fails ∙ allowed p (ltb-true p place is)))
there_by rules list events place p why false is below allowed fails =
    let past = ltb-false p place is in
    let same : p ≡ place = omega (arith, below, past) in
    subst (λ n. fault_at rules list events n ≡ Some why) same fails

-- if the events before a place are allowed, and one is refused before the next, it is the one at the place
pub refused_there : (rules : Rules) (list : List (List ℕ)) (events : List Event) (place line : ℕ) (why : RuleFault) → AreAllowedTo rules list events place
    → IsRefusedBefore rules list events (place + 1) line why → fault_at rules list events place ≡ Some why
refused_there rules list events place line why allowed refused =
    there_by rules list events place refused.first.place why (nat_lt refused.first.place place) refl refused.before allowed refused.first.fails

pub fails_in : (rules : Rules) (list : List (List ℕ)) (events : List Event) (place : ℕ) (e : Event) (s : State) (why : RuleFault) → slice_get events place ≡ Some e
    → s ≡ tally_at rules events place → fault_at rules list events place ≡ Some why → fault_in rules list s e ≡ Some why
unfolding fault_at
fails_in rules list events place e s why stands is fails =
    ap (λ (t : State). fault_in rules list t e) is ∙ ap (fault_of_event rules list (tally_at rules events place)) (sym stands) ∙ fails

-- what is true of the event is true of its place
pub all_at : (rules : Rules) (list : List (List ℕ)) (events : List Event) (place : ℕ) (m : Moment) (facts : List Fact) → IsMomentAt rules list events place m → All (IsTrue m) facts
    → All (IsTrueAt rules list events place) facts
all_at rules list events place m [] at all = All-nil (IsTrueAt rules list events place)
all_at rules list events place m (f ∷ facts) at all =
    All-cons (IsTrueAt rules list events place) f facts (inl (m, at, All-head (IsTrue m) f facts all)) (all_at rules list events place m facts at (All-tail (IsTrue m) f facts all))

pub none_at : (P : Fact → Type 0) (facts : List Fact) → facts ≡ [] → All P facts
none_at P facts is = subst (All P) (sym is) (All-nil P)

pub one_at : (P : Fact → Type 0) (old new : List Fact) (f : Fact) → old ≡ [] → new ≡ old ++ f ∷ [] → P f → All P new
one_at P old new f none is holds = subst (All P) (sym (is ∙ ap (λ (fs : List Fact). fs ++ f ∷ []) none)) (All-cons P f [] holds (All-nil P))

-- a fact after others that are true
pub one_after : (P : Fact → Type 0) (old new : List Fact) (f : Fact) → new ≡ old ++ f ∷ [] → All P old → P f → All P new
one_after P old new f is before holds = subst (All P) (sym is) (All-append P old (f ∷ []) before (All-cons P f [] holds (All-nil P)))

-- what is read at a place within a list is there
pub read_at : {X : Type 0} (xs : List X) (place : ℕ) (x : X) → place < length xs → x ≡ get_or xs place x → slice_get xs place ≡ Some x
read_at xs place x below is = slice_get_read xs (length xs) place x refl below is
