-- What holds for each element of a list before a place, and for the one there, holds for each before the next place.
use Rattle.std.proofs.Common.{◌≡◌, ◌⊎◌, inl, inr, ℕ, ◌+◌, ◌<◌, ◌≤◌, List, length, get_or, sym, ◌∙◌, subst, arith}
use Rattle.std.proofs.lemmas.Bool.{cases_lt}
use Rattle.std.proofs.lemmas.Option.{same_Some, slice_get-get_or}

next_by : {X : Type 0} (P : X → Type 0) (xs : List X) (i k : ℕ) (it d : X) → ((k : ℕ) (d : X) → k < i → P (get_or xs k d)) → i < length xs → it ≡ get_or xs i it → P it → k < i + 1
    → (k < i) ⊎ (i ≤ k) → P (get_or xs k d)
next_by P xs i k it d old within is has before (inl less) = old k d less
next_by P xs i k it d old within is has before (inr following) =
    let same : i ≡ k = omega (arith, before, following) in
    let one : get_or xs i it ≡ get_or xs i d = same_Some (get_or xs i it) (get_or xs i d) (sym (slice_get-get_or xs i it within) ∙ slice_get-get_or xs i d within) in
    subst (λ n. P (get_or xs n d)) same (subst P (is ∙ one) has)

pub next_all : {X : Type 0} (P : X → Type 0) (xs : List X) (i : ℕ) (it : X) → ((k : ℕ) (d : X) → k < i → P (get_or xs k d)) → i < length xs → it ≡ get_or xs i it → P it
    → (k : ℕ) (d : X) → k < i + 1 → P (get_or xs k d)
next_all P xs i it old within is has = λ k d before. next_by P xs i k it d old within is has before (cases_lt k i)
