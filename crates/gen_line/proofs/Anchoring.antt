-- What the walk from an anchor writes into an empty line is the line in the order of its places.
use Rattle.std.proofs.Common.{◌≡◌, ℕ, zero, suc, ◌+◌, ◌-◌, ◌<◌, ◌≤◌, List, [], ◌∷◌, ◌++◌, length, take, drop, slice_set, refl, sym, ap, ◌∙◌, append_assoc, length-append, arith}
use Rattle.std.proofs.lemmas.List.{length-take-le, length-drop}
use Rattle.gen_line.specs.Moves.{back}
use Rattle.gen_line.specs.Model.{zeros, unwalk}
use Rattle.gen_line.specs.Walk.{put, finish_right, finish_left}
use Rattle.gen_line.proofs.Walks.{put-some}

-- ---- an entry written on a free place

set-at : (xs : List ℕ) (p y e : ℕ) (ys : List ℕ) → p ≡ length xs → slice_set (xs ++ y ∷ ys) p e ≡ xs ++ e ∷ ys
set-at [] p y e ys at = ap (λ i. slice_set (y ∷ ys) i e) at
set-at (x ∷ xs) zero y e ys at = absurd (omega arith)
set-at (x ∷ xs) (suc p) y e ys at = ap (λ zs. x ∷ zs) (set-at xs p y e ys (omega arith))

put-at : (xs : List ℕ) (p e : ℕ) (ys : List ℕ) → p ≡ length xs → put (xs ++ 0 ∷ ys) p e ≡ xs ++ e ∷ ys
put-at xs p zero ys at = refl
put-at xs p (suc e) ys at = put-some (xs ++ 0 ∷ ys) p (suc e) (omega arith) ∙ set-at xs p 0 (suc e) ys at

length-zeros : (n : ℕ) → length (zeros n) ≡ n
length-zeros zero = refl
length-zeros (suc n) = ap suc (length-zeros n)

zeros-last : (n : ℕ) (ys : List ℕ) → zeros (suc n) ++ ys ≡ zeros n ++ 0 ∷ ys
zeros-last zero ys = refl
zeros-last (suc n) ys = ap (λ zs. 0 ∷ zs) (zeros-last n ys)

zeros-more : (m n : ℕ) → zeros (m + n) ≡ zeros m ++ zeros n
zeros-more zero n = let same : 0 + n ≡ n = omega arith in ap zeros same
zeros-more (suc m) n = let same : suc m + n ≡ suc (m + n) = omega arith in ap zeros same ∙ ap (λ zs. 0 ∷ zs) (zeros-more m n)

-- ---- to the right, after what is written

right-written : (xs : List ℕ) (place : ℕ) (os : List ℕ) → place ≡ length xs → finish_right place (xs ++ zeros (length os)) os ≡ xs ++ os
unfolding finish_right
right-written xs place [] at = refl
right-written xs place (e ∷ os) at =
    let next : place + 1 ≡ length (xs ++ e ∷ []) = omega (arith, length-append xs (e ∷ []), at) in
    ap (λ y. finish_right (place + 1) y os) (put-at xs place e (zeros (length os)) at ∙ sym (append_assoc xs (e ∷ []) (zeros (length os))))
    ∙ right-written (xs ++ e ∷ []) (place + 1) os next
    ∙ append_assoc xs (e ∷ []) os

-- ---- to the left, before what is written

back-append : (xs ys zs : List ℕ) → back xs (ys ++ zs) ≡ back xs ys ++ zs
back-append [] ys zs = refl
back-append (x ∷ xs) ys zs = back-append xs (x ∷ ys) zs

length-back : (xs ys : List ℕ) → length (back xs ys) ≡ length xs + length ys
length-back [] ys = omega arith
length-back (x ∷ xs) ys = omega (arith, length-back xs (x ∷ ys))

left-written : (h k : ℕ) (ys os : List ℕ) → k ≤ length os → finish_left h k (zeros k ++ ys) os ≡ finish_right (h + 1) (back (take k os) ys) (drop k os)
unfolding finish_left
left-written h zero ys os few = refl
left-written h (suc k) ys [] few = absurd (omega arith)
left-written h (suc k) ys (e ∷ os) few =
    ap (λ y. finish_left h k y os) (ap (λ zs. put zs k e) (zeros-last k ys) ∙ put-at (zeros k) k e ys (sym (length-zeros k)))
    ∙ left-written h k (e ∷ ys) os (omega arith)

-- the walk from an anchor over an empty line
pub walk_written : (h : ℕ) (x : List ℕ) → h < 15 → length x ≡ 15 → finish_left h (suc h) (zeros 15) x ≡ unwalk h x
unfolding finish_left
walk_written h [] inside size = absurd (omega arith)
walk_written h (e ∷ os) inside size =
    let following : length (drop h os) ≡ 14 - h = omega (arith, length-drop h os) in
    let before : length (take h os) ≡ h = length-take-le h os (omega arith) in
    let parts : 15 ≡ h + suc (14 - h) = omega arith in
    let front : List ℕ = back (take h os) (e ∷ []) in
    let at : h + 1 ≡ length front = omega (arith, length-back (take h os) (e ∷ []), before) in
    let empty : zeros 15 ≡ zeros h ++ 0 ∷ zeros (14 - h) = ap zeros parts ∙ zeros-more h (suc (14 - h)) in
    let started : put (zeros 15) h e ≡ zeros h ++ e ∷ zeros (14 - h) = ap (λ zs. put zs h e) empty ∙ put-at (zeros h) h e (zeros (14 - h)) (sym (length-zeros h)) in
    ap (λ y. finish_left h h y os) started
    ∙ left-written h h (e ∷ zeros (14 - h)) os (omega arith)
    ∙ ap (λ y. finish_right (h + 1) y (drop h os)) (back-append (take h os) (e ∷ []) (zeros (14 - h)) ∙ ap (λ n. front ++ zeros n) (sym following))
    ∙ right-written front (h + 1) (drop h os) at
    ∙ sym (back-append (take h os) (e ∷ []) (drop h os))
