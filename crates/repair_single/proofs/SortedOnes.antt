-- All candidates, sorted by what they cost.
use Rattle.std.proofs.Common.{◌≡◌, ◌⊎◌, inl, inr, ℕ, ◌<◌, Bool, true, false, ◌&&◌, ◌||◌, ◌==◌, nat_lt, List, get_or, Option, refl}
use Rattle.std.specs.List.Sorted.{IsNonDecreasingBy, IsPermutation, IsStableByKey}
use Rattle.std.specs.Ordering.{nat_cmp}
use Rattle.std.proofs.lemmas.Bool.{eq-eqb, lt-ltb}
use Rattle.std.proofs.lemmas.List.Elements.{All-weaker}
use Rattle.std.proofs.lemmas.List.Sorted.{All-permutation, Contains-permutation}
use Rattle.ref_tiles.specs.declared.rulebook.Rules.{Rules}
use Rattle.gcg_read.specs.declared.events.Event.{Event}
use Rattle.repair_changes.specs.declared.slips.Change.{Change}
use Rattle.repair_single.specs.Costs.{is_earlier, is_ahead}
use Rattle.repair_single.specs.Candidates.{rank_in, IsCandidate, MayBeReported, IsBetween, AreBetween, AreCandidates}
use Rattle.repair_single.specs.declared.listed.Listed.{Listed}
use Rattle.repair_single.specs.declared.candidate.Candidate.{Candidate}
use Rattle.repair_single.proofs.Sorting.{sorted_pairs}
use Rattle.repair_single.specs.Remaining.{Weighing}

or_left : (a b : Bool) → a ≡ true → (a || b) ≡ true
or_left true b is = refl
or_left false b is = cc

or_right : (a b d : Bool) → b ≡ true → d ≡ true → (a || b && d) ≡ true
or_right true b d of_b of_d = refl
or_right false true true of_b of_d = refl
or_right false true false of_b of_d = cc
or_right false false d of_b of_d = cc

ahead_by : (a b : Candidate) → (a.cost < b.cost) ⊎ ((a.cost ≡ b.cost) × (is_earlier (rank_in a) (rank_in b) ≡ true)) → is_ahead (rank_in a) (rank_in b) ≡ true
ahead_by a b (inl less) = or_left (nat_lt a.cost b.cost) (a.cost == b.cost && is_earlier (rank_in a) (rank_in b)) (lt-ltb a.cost b.cost less)
ahead_by a b (inr (same, earlier)) =
    or_right (nat_lt a.cost b.cost) (a.cost == b.cost) (is_earlier (rank_in a) (rank_in b)) (eq-eqb a.cost b.cost same) earlier

pub sorted_ones : (weigh : Weighing) (rules : Rules) (list : List (List ℕ)) (written : List Event) (plays : List Change) (below : Option ℕ) (from last : ℕ) (old new : List Candidate) → ((l : Listed) → MayBeReported weigh rules list written plays below l → l.change.place < last)
    → AreBetween weigh rules list written plays below from last old → IsPermutation old new → IsNonDecreasingBy (λ (c : Candidate). c.cost) new
    → IsStableByKey (λ (c : Candidate). c.cost) nat_cmp old new → AreCandidates weigh rules list written plays below from new
sorted_ones weigh rules list written plays below from last old new within are moved rises stable =
    record {
      each = All-weaker (λ (c : Candidate). IsCandidate weigh rules list written plays below c × IsBetween from last c.listed.change.place) (IsCandidate weigh rules list written plays below) (λ c both. both.0) new
          (All-permutation (λ (c : Candidate). IsCandidate weigh rules list written plays below c × IsBetween from last c.listed.change.place) old new moved are.each);
      ordered = λ i j d less inside.
          ahead_by (get_or new i d) (get_or new j d)
          (sorted_pairs (λ (a b : Candidate). is_earlier (rank_in a) (rank_in b) ≡ true) (λ (c : Candidate). c.cost) old new are.ordered rises stable i j d less inside);
      all = λ l late may.
          let there = are.all l (late, within l may) may in
          record { candidate = there.candidate; among = Contains-permutation old new there.candidate moved there.among; same = there.same };
    }
