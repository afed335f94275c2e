-- What a change leaves as it was.
use Rattle.std.proofs.Common.{◌≡◌, ℕ, zero, suc, ◌+◌, ◌<◌, ◌≤◌, Bool, true, false, nat_le, List, [], ◌∷◌, ◌++◌, length, take, drop, slice_get, refl, ap, ◌∙◌, arith, if◌then◌else◌}
use Rattle.std.proofs.lemmas.Bool.{leb-true}
use Rattle.std.proofs.lemmas.List.{append_assoc}
use Rattle.repair_changes.specs.Splices.{spliced}
use Rattle.repair_changes.specs.Applied.{wrong_events, right_events}
use Rattle.repair_changes.specs.Laws.{FrontStays}

front_there : {A : Type 0} (xs rest : List A) (many place : ℕ) → place < many → many ≤ length xs → slice_get (take many xs ++ rest) place ≡ slice_get xs place
front_there [] rest many place below within = absurd (omega (arith, below, within))
front_there (x ∷ xs) rest zero place below within = absurd (omega (arith, below))
front_there (x ∷ xs) rest (suc many) zero below within = refl
front_there (x ∷ xs) rest (suc many) (suc place) below within = front_there xs rest many place (omega (arith, below)) (omega (arith, within))

there_or : {A : Type 0} (place many : ℕ) (f : List A → List A) (xs : List A) (k : ℕ) (b : Bool) → nat_le (place + many) (length xs) ≡ b → k < place
    → slice_get (if b then take place xs ++ f (take many (drop place xs)) ++ drop (place + many) xs else xs) k ≡ slice_get xs k
there_or {A} place many f xs k true enough below =
    let within : place + many ≤ length xs = leb-true (place + many) (length xs) enough in
    let there = f (take many (drop place xs)) in
    let following = drop (place + many) xs in
    ap (λ (ys : List A). slice_get ys k) (append_assoc (take place xs) there following) ∙ front_there xs (there ++ following) place k below (omega (arith, within))
there_or place many f xs k false enough below = refl

spliced_front : {A : Type 0} (place many : ℕ) (f : List A → List A) (xs : List A) (k : ℕ) → k < place → slice_get (spliced place many f xs) k ≡ slice_get xs k
unfolding spliced
spliced_front place many f xs k below = there_or place many f xs k (nat_le (place + many) (length xs)) refl below

pub front_stays : FrontStays
front_stays change events place below = spliced_front change.place (wrong_events change.slip) (right_events change.slip) events place below
