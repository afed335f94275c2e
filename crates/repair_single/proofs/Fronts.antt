-- What is said of a place of a record depends on the events up to it.
use Rattle.std.proofs.Common.{◌≡◌, ℕ, ◌+◌, ◌<◌, ◌≤◌, List, length, reverse, take, slice_get, Option, Some, sym, ap, ◌∙◌, arith}
use Rattle.std.specs.Prelude.{min}
use Rattle.std.proofs.lemmas.List.{length-take}
use Rattle.std.proofs.lemmas.Option.{slice_get_within}
use Rattle.ref_tiles.specs.declared.rulebook.Rules.{Rules}
use Rattle.gcg_read.specs.declared.events.Event.{Event}
use Rattle.game_turns.specs.Places.{fault_at, fault_of_event, AreAllowedTo}
use Rattle.game_turns.specs.Tallies.{tally, tally_at, withdraws}
use Rattle.game_corrections.specs.Corrections.{AreRenumbered, IsCorrection, HavePoints}
use Rattle.repair_single.proofs.Lists.{get_take, take_less}

get_same : (xs ys : List Event) (k : ℕ) → take (k + 1) ys ≡ take (k + 1) xs → slice_get ys k ≡ slice_get xs k
get_same xs ys k same =
    sym (get_take ys (k + 1) k (omega arith)) ∙ ap (λ (events : List Event). slice_get events k) same ∙ get_take xs (k + 1) k (omega arith)

take_same : (xs ys : List Event) (k : ℕ) → take (k + 1) ys ≡ take (k + 1) xs → take k ys ≡ take k xs
take_same xs ys k same =
    sym (take_less ys (k + 1) k (omega arith)) ∙ ap (λ (events : List Event). take k events) same ∙ take_less xs (k + 1) k (omega arith)

pub same_tally : (rules : Rules) (xs ys : List Event) (k : ℕ) → take (k + 1) ys ≡ take (k + 1) xs → tally_at rules ys k ≡ tally_at rules xs k
same_tally rules xs ys k same =
    ap (λ (o : Option Event). tally rules (withdraws o) (reverse (take k ys))) (get_same xs ys k same)
    ∙ ap (λ (past : List Event). tally rules (withdraws (slice_get xs k)) (reverse past)) (take_same xs ys k same)

pub same_fault : (rules : Rules) (list : List (List ℕ)) (xs ys : List Event) (k : ℕ) → take (k + 1) ys ≡ take (k + 1) xs → fault_at rules list ys k ≡ fault_at rules list xs k
unfolding fault_at
same_fault rules list xs ys k same =
    ap (λ s. fault_of_event rules list s (slice_get ys k)) (same_tally rules xs ys k same)
    ∙ ap (fault_of_event rules list (tally_at rules xs k)) (get_same xs ys k same)

-- a front has the faults of the whole
pub front_fault : (rules : Rules) (list : List (List ℕ)) (events : List Event) (n k : ℕ) → k < n → fault_at rules list (take n events) k ≡ fault_at rules list events k
front_fault rules list events n k below = same_fault rules list events (take n events) k (take_less events n (k + 1) (omega (arith, below)))

-- a place of a front is one of the whole
below_front : (events : List Event) (n k : ℕ) (e : Event) → slice_get (take n events) k ≡ Some e → k < n
below_front events n k e at =
    let within = slice_get_within (take n events) k e at in
    let long = length-take n events in
    omega arith

pub within_front : (events : List Event) (n k : ℕ) → k < length (take n events) → k < length events
within_front events n k within = let long = length-take n events in omega (arith, within)

pub below_length : (events : List Event) (n k : ℕ) → k < length (take n events) → k < n
below_length events n k within = let long = length-take n events in omega (arith, within)

pub front_renumbered : (a b : List Event) (n : ℕ) → AreRenumbered a b → AreRenumbered (take n a) (take n b)
front_renumbered a b n like =
    record {
      as_many = length-take n b ∙ ap (min n) like.as_many ∙ sym (length-take n a);
      each = λ place x y at_a at_b.
          let below = below_front a n place x at_a in
          like.each place x y (sym (get_take a n place below) ∙ at_a) (sym (get_take b n place below) ∙ at_b);
    }

pub front_points : (events : List Event) (n : ℕ) → HavePoints events → HavePoints (take n events)
front_points events n points = λ place e at. points place e (sym (get_take events n place (below_front events n place e at)) ∙ at)

pub front_correction : (rules : Rules) (list : List (List ℕ)) (a b : List Event) (n : ℕ) → IsCorrection rules list a b → IsCorrection rules list (take n a) (take n b)
front_correction rules list a b n is =
    record {
      renumbered = front_renumbered a b n is.renumbered;
      allowed = λ k within. front_fault rules list b n k (below_length b n k within) ∙ is.allowed k (within_front b n k within);
    }

pub front_allowed : (rules : Rules) (list : List (List ℕ)) (events : List Event) (n end : ℕ) → end ≤ n → AreAllowedTo rules list events end → AreAllowedTo rules list (take n events) end
front_allowed rules list events n end less allowed = λ k below. front_fault rules list events n k (omega (arith, less, below)) ∙ allowed k below
