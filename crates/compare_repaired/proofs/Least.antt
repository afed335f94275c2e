-- The cheapest of the first repairs before a place, with the one there.
use Rattle.std.proofs.Common.{◌≡◌, ◌⊎◌, inl, inr, ℕ, ◌+◌, ◌<◌, ◌≤◌, List, [], Option, Some, None, refl, sym, ◌∙◌, subst, arith}
use Rattle.std.proofs.lemmas.Bool.{cases_lt}
use Rattle.std.specs.Prelude.{◌↔◌, All, IsTrue, length, slice_get}
use Rattle.std.proofs.lemmas.Option.{same_Some, slice_get_within, get_or_from_slice_get}
use Rattle.ref_tiles.specs.declared.rulebook.Rules.{Rules}
use Rattle.game_turns.specs.Places.{is_finished}
use Rattle.repair_single.specs.declared.repair.Repair.{Repair}
use Rattle.repair_single.specs.Repairs.{IsRepair}
use Rattle.compare_choices.specs.declared.sheets.Sheets.{Sheets}
use Rattle.compare_repaired.specs.Repaired.{cost_at, cost_of, first_of, first_cost, AreAfter, IsSettled, IsRepairedChoice, AreGames, IsBest, HasBest}
use Rattle.compare_repaired.specs.declared.repaired.BestRepair.{BestRepair}
use Rattle.compare_repaired.specs.Least.{IsLeast, IsLeastTo}
use Rattle.compare_repaired.specs.declared.repaired.RepairedChoice.{RepairedChoice}
use Rattle.compare_repaired.specs.declared.best.Least.{Least}

pub none_before : (tried : List RepairedChoice) → IsLeastTo tried 0 None
none_before tried = λ place cost before at. absurd (omega (arith, before))

-- what holds for each cost before a place and for the one at the place holds for each before the next
one_more : (P : ℕ → Type 0) (tried : List RepairedChoice) (index place cost : ℕ) → ((k n : ℕ) → k < index → cost_at tried k ≡ Some n → P n) → ((n : ℕ) → cost_at tried index ≡ Some n → P n)
    → place < index + 1 → cost_at tried place ≡ Some cost → (place < index) ⊎ (index ≤ place) → P cost
one_more P tried index place cost old here before at (inl less) = old place cost less at
one_more P tried index place cost old here before at (inr following) =
    let same : place ≡ index = omega (arith, before, following) in
    here cost (subst (λ k. cost_at tried k ≡ Some cost) same at)

none_is_some : (cost : ℕ) (o : Option ℕ) → o ≡ None → o ≡ Some cost → ⊥
none_is_some cost o none some = cc (none, some)

pub none_here : (tried : List RepairedChoice) (index : ℕ) (o : Option Least) → IsLeastTo tried index o → cost_at tried index ≡ None → IsLeastTo tried (index + 1) o
none_here tried index None is none =
    λ place cost before at. one_more (λ n. ⊥) tried index place cost is (λ n some. none_is_some n (cost_at tried index) none some) before at (cases_lt place index)
none_here tried index (Some l) is none =
    record {
      there = is.there;
      least = λ place cost before at.
          one_more (λ n. l.cost ≤ n) tried index place cost is.least (λ n some. absurd (none_is_some n (cost_at tried index) none some)) before at (cases_lt place index);
    }

pub first_here : (tried : List RepairedChoice) (index cost : ℕ) → IsLeastTo tried index None → cost_at tried index ≡ Some cost → IsLeast tried (index + 1) (record { index = index; cost = cost })
first_here tried index cost is some =
    record {
      there = some;
      least = λ place other before at.
          one_more (λ n. cost ≤ n) tried index place other (λ k n less there. absurd (is k n less there))
          (λ n there. let same = same_Some cost n (sym some ∙ there) in omega (arith, same)) before at (cases_lt place index);
    }

pub dearer_here : (tried : List RepairedChoice) (index cost : ℕ) (l : Least) → IsLeast tried index l → cost_at tried index ≡ Some cost → l.cost ≤ cost → IsLeast tried (index + 1) l
dearer_here tried index cost l is some less =
    record {
      there = is.there;
      least = λ place other before at.
          one_more (λ n. l.cost ≤ n) tried index place other is.least (λ n there. let same = same_Some cost n (sym some ∙ there) in omega (arith, same, less)) before at (cases_lt place index);
    }

pub cheaper_here : (tried : List RepairedChoice) (index cost : ℕ) (l : Least) → IsLeast tried index l → cost_at tried index ≡ Some cost → cost < l.cost
    → IsLeast tried (index + 1) (record { index = index; cost = cost })
cheaper_here tried index cost l is some less =
    record {
      there = some;
      least = λ place other before at.
          one_more (λ n. cost ≤ n) tried index place other (λ k n early there. let more = is.least k n early there in omega (arith, more, less))
          (λ n there. let same = same_Some cost n (sym some ∙ there) in omega (arith, same)) before at (cases_lt place index);
    }

-- ---- the best of all

at_choice : (tried : List RepairedChoice) (place : ℕ) (o : Option RepairedChoice) (cost : ℕ) → slice_get tried place ≡ o → first_cost o ≡ Some cost → place < length tried
at_choice tried place None cost at some = absurd (none_is_some cost None refl some)
at_choice tried place (Some r) cost at some = slice_get_within tried place r at

pub none_best : (rules : Rules) (tried : List RepairedChoice) → IsLeastTo tried (length tried) None → HasBest rules tried None
none_best rules tried is = λ place cost at. is place cost (at_choice tried place (slice_get tried place) cost refl at) at

pub no_choice : (rules : Rules) (tried : List RepairedChoice) (end : ℕ) (l : Least) → IsLeast tried end l → slice_get tried l.index ≡ None → HasBest rules tried None
no_choice rules tried end l is none = absurd (none_is_some l.cost (first_cost None) refl (subst (λ (o : Option RepairedChoice). first_cost o ≡ Some l.cost) none is.there))

cost_there : (tried : List RepairedChoice) (index cost : ℕ) (choice : RepairedChoice) (o : Option Repair) → cost_at tried index ≡ Some cost → slice_get tried index ≡ Some choice → first_of choice ≡ o
    → cost_of o ≡ Some cost
cost_there tried index cost choice o there at first =
    subst (λ (r : Option Repair). cost_of r ≡ Some cost) first (subst (λ (r : Option RepairedChoice). first_cost r ≡ Some cost) at there)

pub no_repair : (rules : Rules) (tried : List RepairedChoice) (end : ℕ) (l : Least) (choice : RepairedChoice) → IsLeast tried end l → slice_get tried l.index ≡ Some choice → first_of choice ≡ None
    → HasBest rules tried None
no_repair rules tried end l choice is at first = absurd (none_is_some l.cost (cost_of None) refl (cost_there tried l.index l.cost choice None is.there at first))

pub best_is : (rules : Rules) (tried : List RepairedChoice) (l : Least) (choice : RepairedChoice) (repair : Repair) (b : BestRepair) → IsLeast tried (length tried) l → slice_get tried l.index ≡ Some choice
    → first_of choice ≡ Some repair → b.index ≡ l.index → b.complete ≡ is_finished rules repair.right → (IsTrue b.ahead ↔ All (AreAfter repair) tried) → (IsTrue b.settled ↔ All IsSettled tried)
    → IsBest rules tried b
best_is rules tried l choice repair b is at first index complete ahead settled =
    let costs = same_Some _ l.cost (cost_there tried l.index l.cost choice (Some repair) is.there at first) in
    record {
      choice = choice;
      there = subst (λ k. slice_get tried k ≡ Some choice) (sym index) at;
      repair = repair;
      first = first;
      least = λ place cost there.
          let less = is.least place cost (at_choice tried place (slice_get tried place) cost refl there) there in
          omega (arith, less, costs);
      complete = complete;
      ahead = ahead;
      settled = settled;
    }

game_of : (rules : Rules) (list : List (List ℕ)) (s : Sheets) (r : RepairedChoice) (repair : Repair) → IsRepairedChoice rules list s r → first_of r ≡ Some repair → IsRepair rules list r.written [] r.below repair
game_of rules list s r repair is first =
    let within = slice_get_within r.found.reported.items 0 repair first in
    subst (IsRepair rules list r.written [] r.below) (get_or_from_slice_get r.found.reported.items 0 repair repair first) (is.first.repairs 0 repair within)

pub games_of : (rules : Rules) (list : List (List ℕ)) (s : Sheets) (tried : List RepairedChoice) → All (IsRepairedChoice rules list s) tried → AreGames rules list tried
games_of rules list s tried each =
    λ place r repair at first.
    let within = slice_get_within tried place r at in
    let is = subst (IsRepairedChoice rules list s) (get_or_from_slice_get tried place r r at) (each place r within) in
    (game_of rules list s r repair is first).makes.game.allowed
