-- The first of some pairs, each record once: one pair after another.
use Rattle.std.proofs.Common.{◌≡◌, ℕ, zero, suc, ◌+◌, ◌<◌, ◌≤◌, List, [], ◌∷◌, ◌++◌, length, get_or, slice_get, Some, refl, sym, subst, arith}
use Rattle.std.specs.Prelude.{All, AllPairs, Contains}
use Rattle.std.proofs.lemmas.List.{length_push}
use Rattle.std.proofs.lemmas.List.Elements.{All-push}
use Rattle.std.proofs.lemmas.List.Quantifiers.{all_pairs_push}
use Rattle.std.proofs.lemmas.Option.{slice_get_read, slice_get_within, get_or_from_slice_get}
use Rattle.gcg_read.specs.declared.events.Event.{Event}
use Rattle.repair_single.specs.Repairs.{SameRecord}
use Rattle.repair_pairs.specs.Finding.{IsCheaper, IsMadeBy, AreFirstOf}
use Rattle.repair_pairs.specs.declared.found.Pair.{Pair}

-- what the list `reported` has of the pairs before an index
pub record AreSoFar (found : List Pair) (most index : ℕ) (reported : List Pair) : Type 0 where
  pub each : All (Contains found) reported
  pub few : length reported ≤ most
  pub ordered : AllPairs IsCheaper reported
  pub once : AllPairs (λ (a b : Pair). SameRecord a.then.right b.then.right → ⊥) reported
  pub ahead : All (λ (p : Pair). (k : ℕ) (q : Pair) → index ≤ k → slice_get found k ≡ Some q → p.cost ≤ q.cost) reported

pub none_so_far : (found : List Pair) (most : ℕ) → AreSoFar found most 0 []
none_so_far found most =
    record {
      each = λ k d within. absurd (omega (arith, within));
      few = omega arith;
      ordered = λ i j d less within. absurd (omega (arith, within));
      once = λ i j d less within. absurd (omega (arith, within));
      ahead = λ k d within. absurd (omega (arith, within));
    }

pair_at : (found : List Pair) (i k : ℕ) (p q : Pair) → AllPairs IsCheaper found → i < k → slice_get found i ≡ Some p → slice_get found k ≡ Some q → p.cost ≤ q.cost
pair_at found i k p q all less of_p of_q =
    subst (λ (x : Pair). x.cost ≤ q.cost) (get_or_from_slice_get found i p p of_p)
    (subst (λ (x : Pair). (get_or found i p).cost ≤ x.cost) (get_or_from_slice_get found k q p of_q) (all i k p less (slice_get_within found k q of_q)))

made_by_one : (reported : List Pair) (k : ℕ) (d : Pair) (right : List Event) → k < length reported → SameRecord (get_or reported k d).then.right right → IsMadeBy reported right
made_by_one reported k d right within same =
    let p : Pair = get_or reported k d in
    (k, p, within, get_or_again reported k d p within, same)
  where
    get_or_again : (xs : List Pair) (k : ℕ) (d e : Pair) → k < length xs → get_or xs k e ≡ get_or xs k d
    get_or_again [] k d e within = absurd (omega (arith, within))
    get_or_again (x ∷ xs) zero d e within = refl
    get_or_again (x ∷ xs) (suc k) d e within = get_or_again xs k d e (omega (arith, within))

pub reported_more : (found : List Pair) (most index : ℕ) (p : Pair) (reported : List Pair) → AllPairs IsCheaper found → AreSoFar found most index reported → index < length found
    → p ≡ get_or found index p → length reported < most → (IsMadeBy reported p.then.right → ⊥) → AreSoFar found most (index + 1) (reported ++ p ∷ [])
reported_more found most index p reported rises so within is room fresh =
    let at : slice_get found index ≡ Some p = slice_get_read found (length found) index p refl within is in
    let long = length_push reported p in
    record {
      each = All-push (Contains found) reported p so.each (index, within, sym is);
      few = omega (arith, long, room);
      ordered = all_pairs_push IsCheaper reported p so.ordered (λ k d inside. so.ahead k d inside index p (omega arith) at);
      once = all_pairs_push (λ (a b : Pair). SameRecord a.then.right b.then.right → ⊥) reported p so.once (λ k d inside same. fresh (made_by_one reported k d p.then.right inside same));
      ahead = All-push (λ (x : Pair). (k : ℕ) (q : Pair) → index + 1 ≤ k → slice_get found k ≡ Some q → x.cost ≤ q.cost) reported p
          (λ k d inside j q following of_q. so.ahead k d inside j q (omega (arith, following)) of_q)
          (λ j q following of_q. pair_at found index j p q rises (omega (arith, following)) at of_q);
    }

pub reported_before : (found : List Pair) (most index : ℕ) (reported : List Pair) → AreSoFar found most index reported → AreSoFar found most (index + 1) reported
reported_before found most index reported so =
    record {
      each = so.each;
      few = so.few;
      ordered = so.ordered;
      once = so.once;
      ahead = λ k d inside j q following of_q. so.ahead k d inside j q (omega (arith, following)) of_q;
    }

pub first_ones : (found : List Pair) (most index : ℕ) (reported : List Pair) → AreSoFar found most index reported → AreFirstOf found most reported
first_ones found most index reported so = record { each = so.each; few = so.few; ordered = so.ordered; once = so.once }
