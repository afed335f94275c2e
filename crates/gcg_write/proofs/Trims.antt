-- Blanks at the ends of a text, taken off twice.
use Rattle.std.proofs.Common.{◌≡◌, ℕ, zero, suc, ◌+◌, ◌-◌, ◌≤◌, Bool, true, false, cond, List, [], ◌∷◌, ◌++◌, length, take, drop, reverse, arith, sym, ap, refl, ◌∙◌}
use Rattle.std.specs.List.{prefix_len, suffix_len}
use Rattle.std.proofs.lemmas.List.{take_all, length-drop, length-reverse, reverse-append, take-append-drop}
use Rattle.gcg_write.proofs.Parts.{drop_front}
use Rattle.gcg_read.specs.Cutting.{is_blank}
use Rattle.gcg_read.specs.Pragmas.{front_trimmed, end_trimmed, trimmed}

-- after those at the front there are none left
front_step : (p : ℕ → Bool) (b : Bool) (x : ℕ) (xs : List ℕ) → p x ≡ b → prefix_len p (drop (prefix_len p xs) xs) ≡ 0
    → prefix_len p (drop (cond b (1 + prefix_len p xs) 0) (x ∷ xs)) ≡ 0
front_step p true x xs e h = ap (λ k. prefix_len p (drop k (x ∷ xs))) (let same : 1 + prefix_len p xs ≡ suc (prefix_len p xs) = omega arith in same) ∙ h
front_step p false x xs e h = rw e refl

front_same : (p : ℕ → Bool) (b : Bool) (x : ℕ) (xs ys : List ℕ) → p x ≡ b → cond b (1 + prefix_len p xs) 0 ≡ 0 → cond b (1 + prefix_len p ys) 0 ≡ 0
front_same p true x xs ys e h = absurd (omega arith)
front_same p false x xs ys e h = refl

prefix_step : (p : ℕ → Bool) (b : Bool) (xs : List ℕ) → prefix_len p xs ≤ length xs → cond b (1 + prefix_len p xs) 0 ≤ suc (length xs)
prefix_step p true xs h = omega arith
prefix_step p false xs h = omega arith

front_off : (p : ℕ → Bool) (xs : List ℕ) → prefix_len p (drop (prefix_len p xs) xs) ≡ 0
front_off p [] = refl
front_off p (x ∷ xs) = front_step p (p x) x xs refl (front_off p xs)

-- a front of a text has no more of them at its front
front_of_front : (p : ℕ → Bool) (n : ℕ) (xs : List ℕ) → prefix_len p xs ≡ 0 → prefix_len p (take n xs) ≡ 0
front_of_front p zero xs h = refl
front_of_front p (suc n) [] h = refl
front_of_front p (suc n) (x ∷ xs) h = front_same p (p x) x xs (take n xs) refl h

prefix_le : (p : ℕ → Bool) (xs : List ℕ) → prefix_len p xs ≤ length xs
prefix_le p [] = omega arith
prefix_le p (x ∷ xs) = let before = prefix_le p xs in prefix_step p (p x) xs before

-- reversed, a front is what is left after the rest
reverse_take : (n : ℕ) (xs : List ℕ) → n ≤ length xs → reverse (take (length xs - n) xs) ≡ drop n (reverse xs)
reverse_take n xs h =
    let front = take (length xs - n) xs in
    let back = drop (length xs - n) xs in
    let parts : reverse xs ≡ reverse back ++ reverse front = ap reverse (sym (take-append-drop (length xs - n) xs)) ∙ reverse-append front back in
    let size : length (reverse back) ≡ n = omega (arith, length-reverse back, length-drop (length xs - n) xs) in
    sym (ap (drop n) parts ∙ ap (λ k. drop k (reverse back ++ reverse front)) (sym size) ∙ drop_front (reverse back) (reverse front))

end_off : (p : ℕ → Bool) (xs : List ℕ) → suffix_len p (take (length xs - suffix_len p xs) xs) ≡ 0
end_off p xs =
    let few : suffix_len p xs ≤ length xs = omega (arith, prefix_le p (reverse xs), length-reverse xs) in
    ap (prefix_len p) (reverse_take (suffix_len p xs) xs few) ∙ front_off p (reverse xs)

front_done : (text : List ℕ) → prefix_len is_blank text ≡ 0 → front_trimmed text ≡ text
front_done text e = ap (λ k. drop k text) e

end_done : (text : List ℕ) → suffix_len is_blank text ≡ 0 → end_trimmed text ≡ text
end_done text e = ap (λ k. take (length text - k) text) e ∙ take_all (length text - 0) text (omega arith)

pub trimmed_twice : (text : List ℕ) → trimmed (trimmed text) ≡ trimmed text
trimmed_twice text =
    let front = front_trimmed text in
    let whole = end_trimmed front in
    ap end_trimmed (front_done whole (front_of_front is_blank (length front - suffix_len is_blank front) front (front_off is_blank text)))
    ∙ end_done whole (end_off is_blank front)
