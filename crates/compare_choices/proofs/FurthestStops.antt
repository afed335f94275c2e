-- The choice that goes furthest.
use Rattle.std.proofs.Common.{◌≡◌, ◌⊎◌, inl, inr, ℕ, ◌+◌, ◌<◌, ◌≤◌, Bool, true, false, nat_lt, List, Option, Some, None, refl, sym, subst, arith, if◌then◌else◌}
use Rattle.std.proofs.lemmas.Bool.{cases_lt, ltb-true, ltb-false}
use Rattle.ref_tiles.specs.declared.rulebook.Rules.{Rules}
use Rattle.gcg_read.specs.declared.events.Event.{Event}
use Rattle.compare_alignments.specs.declared.merging.NumbersOf.TheVariants.{Taken}
use Rattle.compare_choices.specs.declared.sheets.Sheets.{Sheets}
use Rattle.compare_choices.specs.declared.comparing.Stop.{Stop}
use Rattle.compare_choices.specs.declared.corrections.Corrected.{Corrected}
use Rattle.compare_choices.specs.Choices.{choice_events}
use Rattle.compare_choices.specs.Corrected.{Stops, IsCorrected}
use Rattle.compare_choices.specs.Comparisons.{IsAllowed, IsStopOf, IsNoFurther, IsFurthest, IsFurthestTo, further}

pub allowed_by : (rules : Rules) (list : List (List ℕ)) (s : Sheets) (choice : ℕ) (written : List Event) (c : Corrected) → written ≡ choice_events s Taken choice
    → IsCorrected rules list written c → IsAllowed rules list s choice
allowed_by rules list s choice written c same corrected =
    let here : IsCorrected rules list (choice_events s Taken choice) c = subst (λ (es : List Event). IsCorrected rules list es c) same corrected in
    record { right = c.right; is = here.is }

-- what holds for the choices before one, and for that one
up_to : (P : ℕ → Type 0) (end : ℕ) → ((choice : ℕ) → choice < end → P choice) → P end → (choice : ℕ) → choice < end + 1 → P choice
up_to P end before here choice below = by_case (cases_lt choice end)
  where
    by_case : (choice < end) ⊎ (end ≤ choice) → P choice
    by_case (inl less) = before choice less
    by_case (inr last) = subst P (omega (arith, below, last)) here

weaker : (rules : Rules) (list : List (List ℕ)) (s : Sheets) (choice place more : ℕ) → place ≤ more → IsNoFurther rules list s choice place → IsNoFurther rules list s choice more
weaker rules list s choice place more less (inl allowed) = inl allowed
weaker rules list s choice place more less (inr by) =
    let near = by.no_further in
    inr (record { stopped = by.stopped; stops = by.stops; no_further = omega (arith, less, near) })

own_stop : (rules : Rules) (list : List (List ℕ)) (s : Sheets) (end place : ℕ) (stop : Stop) → IsStopOf rules list s end (Some stop) → stop.stopped.place ≤ place
    → IsNoFurther rules list s end place
own_stop rules list s end place stop is near = inr (record { stopped = stop.stopped; stops = is.1; no_further = near })

stops_there : (rules : Rules) (list : List (List ℕ)) (s : Sheets) (end : ℕ) (stop : Stop) → IsStopOf rules list s end (Some stop) → Stops rules list (choice_events s Taken stop.choice) stop.stopped
stops_there rules list s end stop is = subst (λ (n : ℕ). Stops rules list (choice_events s Taken n) stop.stopped) (sym is.0) is.1

two_stops : (rules : Rules) (list : List (List ℕ)) (s : Sheets) (end : ℕ) (one other : Stop) (b : Bool) → nat_lt one.stopped.place other.stopped.place ≡ b → IsFurthest rules list s end one
    → IsStopOf rules list s end (Some other) → IsFurthestTo rules list s (end + 1) (if b then Some other else Some one)
two_stops rules list s end one other true more first second =
    let less = ltb-true one.stopped.place other.stopped.place more in
    let at = second.0 in
    record {
      before = omega (arith, at);
      stops = stops_there rules list s end other second;
      others = up_to (λ (n : ℕ). IsNoFurther rules list s n other.stopped.place) end
          (λ choice below. weaker rules list s choice one.stopped.place other.stopped.place (omega (arith, less)) (first.others choice below))
          (own_stop rules list s end other.stopped.place other second (omega arith));
    }
two_stops rules list s end one other false more first second =
    let less = ltb-false one.stopped.place other.stopped.place more in
    let at = first.before in
    record {
      before = omega (arith, at);
      stops = first.stops;
      others = up_to (λ (n : ℕ). IsNoFurther rules list s n one.stopped.place) end first.others (own_stop rules list s end one.stopped.place other second less);
    }

one_more : (rules : Rules) (list : List (List ℕ)) (s : Sheets) (end : ℕ) (found stop : Option Stop) → IsFurthestTo rules list s end found → IsStopOf rules list s end stop
    → IsFurthestTo rules list s (end + 1) (further found stop)
one_more rules list s end None None first second = up_to (IsAllowed rules list s) end first second
one_more rules list s end None (Some other) first second =
    let at = second.0 in
    record {
      before = omega (arith, at);
      stops = stops_there rules list s end other second;
      others = up_to (λ (n : ℕ). IsNoFurther rules list s n other.stopped.place) end (λ choice below. inl (first choice below))
          (own_stop rules list s end other.stopped.place other second (omega arith));
    }
one_more rules list s end (Some one) None first second =
    let at = first.before in
    record {
      before = omega (arith, at);
      stops = first.stops;
      others = up_to (λ (n : ℕ). IsNoFurther rules list s n one.stopped.place) end first.others (inl second);
    }
one_more rules list s end (Some one) (Some other) first second = two_stops rules list s end one other (nat_lt one.stopped.place other.stopped.place) refl first second

pub furthest_more : (rules : Rules) (list : List (List ℕ)) (s : Sheets) (end : ℕ) (found stop next : Option Stop) → IsFurthestTo rules list s end found → IsStopOf rules list s end stop
    → next ≡ further found stop → IsFurthestTo rules list s (end + 1) next
furthest_more rules list s end found stop next first second is = subst (IsFurthestTo rules list s (end + 1)) (sym is) (one_more rules list s end found stop first second)

pub furthest_start : (rules : Rules) (list : List (List ℕ)) (s : Sheets) → IsFurthestTo rules list s 0 None
furthest_start rules list s choice below = absurd (omega (arith, below))
