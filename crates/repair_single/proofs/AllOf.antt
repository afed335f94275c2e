-- The candidates among some changes, and among more.
use Rattle.std.proofs.Common.{◌≡◌, ◌⊎◌, inl, inr, ℕ, zero, suc, ◌+◌, ◌-◌, ◌<◌, ◌≤◌, true, List, [], ◌∷◌, ◌++◌, length, get_or, Option, refl, sym, ap, ◌∙◌, subst, arith}
use Rattle.std.specs.Prelude.{AllPairs, Contains}
use Rattle.std.proofs.lemmas.Bool.{cases_lt}
use Rattle.std.proofs.lemmas.List.{length-append}
use Rattle.std.proofs.lemmas.List.Elements.{All-append, All-contains, Contains-append_left, Contains-append_right, Contains-get_or}
use Rattle.ref_tiles.specs.declared.rulebook.Rules.{Rules}
use Rattle.gcg_read.specs.declared.events.Event.{Event}
use Rattle.repair_changes.specs.declared.slips.Change.{Change}
use Rattle.repair_single.specs.Costs.{is_earlier}
use Rattle.repair_single.specs.Candidates.{rank_in, IsCandidate, MayBeReported, IsThere, AreAllOf}
use Rattle.repair_single.specs.declared.listed.Listed.{Listed}
use Rattle.repair_single.specs.declared.candidate.Candidate.{Candidate}
use Rattle.repair_single.specs.Remaining.{Weighing}

-- ---- pairs of a list that is joined from two

front_or : {X : Type 0} (xs ys : List X) (i : ℕ) (d : X) → i < length xs → get_or (xs ++ ys) i d ≡ get_or xs i d
front_or [] ys i d within = absurd (omega (arith, within))
front_or (x ∷ xs) ys zero d within = refl
front_or (x ∷ xs) ys (suc i) d within = front_or xs ys i d (omega (arith, within))

after_or : {X : Type 0} (xs ys : List X) (i : ℕ) (d : X) → length xs ≤ i → get_or (xs ++ ys) i d ≡ get_or ys (i - length xs) d
after_or [] ys i d following = ap (λ n. get_or ys n d) (omega arith)
after_or (x ∷ xs) ys zero d following = absurd (omega (arith, following))
after_or (x ∷ xs) ys (suc i) d following = after_or xs ys i d (omega (arith, following)) ∙ ap (λ n. get_or ys n d) (omega arith)

pair_by : {X : Type 0} (R : X → X → Type 0) (xs ys : List X) (i j : ℕ) (d : X) → AllPairs R xs → AllPairs R ys → ((a b : X) → Contains xs a → Contains ys b → R a b)
    → i < j → j < length xs + length ys → (i < length xs) ⊎ (length xs ≤ i) → (j < length xs) ⊎ (length xs ≤ j) → R (get_or (xs ++ ys) i d) (get_or (xs ++ ys) j d)
pair_by R xs ys i j d of_xs of_ys across less within (inl a) (inl b) =
    subst (λ x. R x (get_or (xs ++ ys) j d)) (sym (front_or xs ys i d a)) (subst (R (get_or xs i d)) (sym (front_or xs ys j d b)) (of_xs i j d less b))
pair_by R xs ys i j d of_xs of_ys across less within (inl a) (inr b) =
    let short : j - length xs < length ys = omega (arith, within, b) in
    subst (λ x. R x (get_or (xs ++ ys) j d)) (sym (front_or xs ys i d a))
    (subst (R (get_or xs i d)) (sym (after_or xs ys j d b)) (across (get_or xs i d) (get_or ys (j - length xs) d) (Contains-get_or xs i d a) (Contains-get_or ys (j - length xs) d short)))
pair_by R xs ys i j d of_xs of_ys across less within (inr a) (inl b) = absurd (omega (arith, a, b, less))
pair_by R xs ys i j d of_xs of_ys across less within (inr a) (inr b) =
    subst (λ x. R x (get_or (xs ++ ys) j d)) (sym (after_or xs ys i d a))
    (subst (R (get_or ys (i - length xs) d)) (sym (after_or xs ys j d b)) (of_ys (i - length xs) (j - length xs) d (omega (arith, a, b, less)) (omega (arith, a, b, within))))

pub pairs_joined : {X : Type 0} (R : X → X → Type 0) (xs ys : List X) → AllPairs R xs → AllPairs R ys → ((a b : X) → Contains xs a → Contains ys b → R a b) → AllPairs R (xs ++ ys)
pairs_joined R xs ys of_xs of_ys across =
    λ i j d less within.
    pair_by R xs ys i j d of_xs of_ys across less (subst (λ n. j < n) (length-append xs ys) within) (cases_lt i (length xs)) (cases_lt j (length xs))

-- ---- candidates among changes

there_remaining : (xs ys : List Candidate) (listed : Listed) → IsThere xs listed → IsThere (xs ++ ys) listed
there_remaining xs ys listed is = record { candidate = is.candidate; among = Contains-append_left xs ys is.candidate is.among; same = is.same }

there_right : (xs ys : List Candidate) (listed : Listed) → IsThere ys listed → IsThere (xs ++ ys) listed
there_right xs ys listed is = record { candidate = is.candidate; among = Contains-append_right xs ys is.candidate is.among; same = is.same }

there_either : (xs ys : List Candidate) (listed : Listed) → IsThere xs listed ⊎ IsThere ys listed → IsThere (xs ++ ys) listed
there_either xs ys listed (inl is) = there_remaining xs ys listed is
there_either xs ys listed (inr is) = there_right xs ys listed is

-- nothing is among none
pub none_of : (weigh : Weighing) (rules : Rules) (list : List (List ℕ)) (written : List Event) (plays : List Change) (below : Option ℕ) (W : Listed → Type 0) → ((l : Listed) → W l → MayBeReported weigh rules list written plays below l → ⊥)
    → AreAllOf weigh rules list written plays below W []
none_of weigh rules list written plays below W none =
    record {
      each = λ k d within. absurd (omega (arith, within));
      ordered = λ i j d less within. absurd (omega (arith, within));
      all = λ l of_l may. absurd (none l of_l may);
    }

-- one candidate among one change
pub one_of : (weigh : Weighing) (rules : Rules) (list : List (List ℕ)) (written : List Event) (plays : List Change) (below : Option ℕ) (c : Candidate) → IsCandidate weigh rules list written plays below c
    → AreAllOf weigh rules list written plays below (λ l. l ≡ c.listed) (c ∷ [])
one_of weigh rules list written plays below c is =
    record {
      each = only;
      ordered = λ i j d less within. absurd (omega (arith, less, within));
      all = λ l of_l may. record { candidate = c; among = (0, omega arith, refl); same = sym of_l };
    }
  where
    only : (k : ℕ) (d : Candidate) → k < 1 → IsCandidate weigh rules list written plays below (get_or (c ∷ []) k d) × (get_or (c ∷ []) k d).listed ≡ c.listed
    only zero d within = (is, refl)
    only (suc k) d within = absurd (omega (arith, within))

-- the candidates among other changes, which are the same as far as they may be repairs
pub among_others : (weigh : Weighing) (rules : Rules) (list : List (List ℕ)) (written : List Event) (plays : List Change) (below : Option ℕ) (W V : Listed → Type 0) (xs : List Candidate) → AreAllOf weigh rules list written plays below W xs
    → ((l : Listed) → W l → V l) → ((l : Listed) → V l → MayBeReported weigh rules list written plays below l → W l) → AreAllOf weigh rules list written plays below V xs
among_others weigh rules list written plays below W V xs are more less =
    record {
      each = λ k d within. let at = are.each k d within in (at.0, more (get_or xs k d).listed at.1);
      ordered = are.ordered;
      all = λ l of_l may. are.all l (less l of_l may) may;
    }

-- the candidates among some changes, and after them those among later ones
pub joined : (weigh : Weighing) (rules : Rules) (list : List (List ℕ)) (written : List Event) (plays : List Change) (below : Option ℕ) (W V U : Listed → Type 0) (xs ys : List Candidate) → AreAllOf weigh rules list written plays below W xs
    → AreAllOf weigh rules list written plays below V ys → ((l : Listed) → W l → U l) → ((l : Listed) → V l → U l)
    → ((l : Listed) → U l → MayBeReported weigh rules list written plays below l → W l ⊎ V l)
    → ((a b : Candidate) → W a.listed → V b.listed → is_earlier (rank_in a) (rank_in b) ≡ true)
    → AreAllOf weigh rules list written plays below U (xs ++ ys)
joined weigh rules list written plays below W V U xs ys of_xs of_ys from_w from_v split later =
    record {
      each = All-append (λ (c : Candidate). IsCandidate weigh rules list written plays below c × U c.listed) xs ys
          (λ k d within. let at = of_xs.each k d within in (at.0, from_w (get_or xs k d).listed at.1))
          (λ k d within. let at = of_ys.each k d within in (at.0, from_v (get_or ys k d).listed at.1));
      ordered = pairs_joined (λ (a b : Candidate). is_earlier (rank_in a) (rank_in b) ≡ true) xs ys of_xs.ordered of_ys.ordered
          (λ a b in_xs in_ys.
          later a b (All-contains (λ (c : Candidate). IsCandidate weigh rules list written plays below c × W c.listed) xs a of_xs.each in_xs).1
          (All-contains (λ (c : Candidate). IsCandidate weigh rules list written plays below c × V c.listed) ys b of_ys.each in_ys).1);
      all = λ l of_l may. there_either xs ys l (all_either l may (split l of_l may));
    }
  where
    all_either : (l : Listed) → MayBeReported weigh rules list written plays below l → W l ⊎ V l → IsThere xs l ⊎ IsThere ys l
    all_either l may (inl w) = inl (of_xs.all l w may)
    all_either l may (inr v) = inr (of_ys.all l v may)
