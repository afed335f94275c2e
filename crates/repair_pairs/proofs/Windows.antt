-- A given number of elements of a list, from a place on.
use Rattle.std.proofs.Common.{◌≡◌, ℕ, ◌+◌, ◌-◌, ◌<◌, ◌≤◌, List, length, get_or, take, drop, slice_get, Some, sym, ◌∙◌, subst, arith}
use Rattle.std.specs.Prelude.{All}
use Rattle.std.proofs.lemmas.List.{length-drop, length-take, get_or-take, get_or-drop}
use Rattle.std.proofs.lemmas.Option.{slice_get-get_or}

pub window : {X : Type 0} (P : X → Type 0) (xs : List X) (p m : ℕ) → p + m ≤ length xs → ((k : ℕ) (x : X) → p ≤ k → k < p + m → slice_get xs k ≡ Some x → P x) → All P (take m (drop p xs))
window {X} P xs p m within each =
    λ k d inside.
    let following : length (drop p xs) ≡ length xs - p = length-drop p xs in
    let long = length-take m (drop p xs) in
    let few : k < m = omega (arith, inside, long, following, within) in
    let read : get_or (take m (drop p xs)) k d ≡ get_or xs (p + k) d = get_or-take m (drop p xs) k d few ∙ get_or-drop p xs k d in
    subst P (sym read) (each (p + k) (get_or xs (p + k) d) (omega arith) (omega (arith, few)) (slice_get-get_or xs (p + k) d (omega (arith, few, within))))
