-- Values that are filled in one by one.
use Rattle.std.proofs.Common.{ℕ, ◌+◌, ◌<◌, ◌≢◌, List, length, get_or, sym, subst, ◌∙◌, arith, ⊎_elim, ◌≡◌, below_more}
use Rattle.std.specs.Prelude.{slice_set}
use Rattle.std.proofs.lemmas.Bool.{cases_eq}
use Rattle.std.proofs.lemmas.List.{get_or-set_same, get_or-set_other}

-- what holds for each value below a place, and for the one that is filled in there, holds for each below the next
pub values_more : {X : Type 0} (P : ℕ → X → Type 0) (xs : List X) (d v : X) (n : ℕ) → n < length xs → ((k : ℕ) → k < n → P k (get_or xs k d)) → P n v
    → (k : ℕ) → k < n + 1 → P k (get_or (slice_set xs n v) k d)
values_more P xs d v n within below here =
    below_more (λ k. P k (get_or (slice_set xs n v) k d)) n
    (λ k h. let ne : k ≢ n = omega arith in subst (P k) (sym (get_or-set_other xs n k v d ne)) (below k h))
    (subst (P n) (sym (get_or-set_same xs n v d within)) here)

-- what holds for a value that is written, and for each other one if it held before, holds for each
pub value_written : {X : Type 0} (P : ℕ → X → Type 0) (xs : List X) (d v : X) (n at : ℕ) → n ≡ at → n < length xs → P at v
    → (k : ℕ) → ((k ≡ at → ⊥) → P k (get_or xs k d)) → P k (get_or (slice_set xs n v) k d)
value_written P xs d v n at is within here k other =
    ⊎_elim
    (λ (e : k ≡ n). subst (λ i. P i (get_or (slice_set xs n v) i d)) (sym e) (subst (P n) (sym (get_or-set_same xs n v d within)) (subst (λ i. P i v) (sym is) here)))
    (λ (ne : k ≡ n → ⊥). subst (P k) (sym (get_or-set_other xs n k v d ne)) (other (λ e. ne (e ∙ sym is))))
    (cases_eq k n)
