-- Facts that are true stay true when another true one comes after them.
use Rattle.std.proofs.Common.{◌≡◌, ℕ, ◌+◌, ◌*◌, add-one, ap, ◌∙◌, List, [], ◌∷◌, ◌++◌, All, sym, subst}
use Rattle.std.proofs.Math.Nat.{mul-suc}
use Rattle.std.proofs.lemmas.List.Elements.{All-append, All-cons, All-nil}

pub one_more : {X : Type 0} (P : X → Type 0) (old new : List X) (x : X) → new ≡ old ++ x ∷ [] → All P old → P x → All P new
one_more P old new x is before here =
    subst (All P) (sym is) (All-append P old (x ∷ []) before (All-cons P x [] here (All-nil P)))

pub more_after : {X : Type 0} (P : X → Type 0) (old new more : List X) → new ≡ old ++ more → All P old → All P more → All P new
more_after P old new more is before following = subst (All P) (sym is) (All-append P old more before following)

-- one more unit
pub one_unit_more : (unit k amount next : ℕ) → amount ≡ unit * k → next ≡ amount + unit → next ≡ unit * (k + 1)
one_unit_more unit k amount next before is = is ∙ ap (λ n. n + unit) before ∙ sym (mul-suc unit k) ∙ ap (λ n. unit * n) (sym (add-one k))
