-- A text that is cut at its first byte of a kind.
use Rattle.std.proofs.Common.{◌≡◌, ℕ, ◌+◌, ◌-◌, ◌<◌, ◌≤◌, Bool, true, false, cond, ltb, List, [], ◌∷◌, length, get_or, take, drop, Option, Some, None, arith, sym, refl}
use Rattle.std.specs.List.{position, position_or_len, slice_split}
use Rattle.std.proofs.lemmas.List.{take_all, length-drop}
use Rattle.std.proofs.lemmas.List.Sums.{position_or_len_is, fails_before_first}
use Rattle.std.proofs.lemmas.List.Splits.{slice_split_none, slice_split_first}
use Rattle.std.proofs.lemmas.Bool.Decides.{nat_tests}
use Rattle.bstr.specs.Find.{IsFirstByte}

pub fails : (b : Bool) → (b ≡ true → ⊥) → b ≡ false
fails true h = absurd (h refl)
fails false h = refl

-- the value of `&text[n..]`
pub rest_is : (n : ℕ) (xs : List ℕ) → take (length xs - n) (drop n xs) ≡ drop n xs
rest_is n xs = take_all (length xs - n) (drop n xs) (omega (arith, length-drop n xs))

cond_none : (b : Bool) (n : ℕ) → cond b (Some n) None ≡ None → b ≡ false
cond_none true n e = absurd cc
cond_none false n e = refl

cond_some : (b : Bool) (n i : ℕ) → cond b (Some n) None ≡ Some i → (b ≡ true) × (n ≡ i)
cond_some true n i e = (refl, cc)
cond_some false n i e = absurd cc

pub position_none : (p : ℕ → Bool) (text : List ℕ) → position p text ≡ None → length text ≤ position_or_len p text
position_none p text e =
    let past = cond_none (ltb (position_or_len p text) (length text)) (position_or_len p text) e in
    grind (arith, nat_tests)

pub position_some : (p : ℕ → Bool) (text : List ℕ) (i : ℕ) → position p text ≡ Some i → (position_or_len p text ≡ i) × (i < length text)
position_some p text i e =
    let there = cond_some (ltb (position_or_len p text) (length text)) (position_or_len p text) i e in
    let same = there.1 in
    let inside : position_or_len p text < length text = let t = there.0 in grind (arith, nat_tests) in
    (same, omega arith)

position_at : (p : ℕ → Bool) (text : List ℕ) (i : ℕ) → position_or_len p text ≡ i → i < length text → position p text ≡ Some i
position_at p text i e h =
    let t : ltb (position_or_len p text) (length text) ≡ true = grind (arith, nat_tests) in
    rw (t, e) refl

position_past : (p : ℕ → Bool) (text : List ℕ) → length text ≤ position_or_len p text → position p text ≡ None
position_past p text h =
    let t : ltb (position_or_len p text) (length text) ≡ false = grind (arith, nat_tests) in
    rw t refl

-- the answer of a search is the first place that passes
pub first_byte : (p : ℕ → Bool) (text : List ℕ) (r : Option ℕ) → IsFirstByte p text r → r ≡ position p text
first_byte p text None h =
    let whole = position_or_len_is p text (length text) 0 (omega arith) (λ k lt. fails (p (get_or text k 0)) (h k (omega arith) lt)) (λ lt. absurd (omega arith)) in
    sym (position_past p text (omega arith))
first_byte p text (Some i) h =
    let there = position_or_len_is p text i 0 (omega (arith, h.0.high)) (λ k lt. fails (p (get_or text k 0)) (h.0.before k (omega arith) lt)) (λ _. h.1) in
    sym (position_at p text i there h.0.high)

-- if nothing passes, the text is a single part
pub split_none : (p : ℕ → Bool) (text : List ℕ) → position p text ≡ None → slice_split p text ≡ text ∷ []
split_none p text e =
    let past = position_none p text e in
    slice_split_none p text (λ k d lt. fails_before_first p text k d (omega arith))

-- if something passes, the first part ends there
pub split_at : (p : ℕ → Bool) (text : List ℕ) (i : ℕ) → position p text ≡ Some i → slice_split p text ≡ take i text ∷ slice_split p (drop (i + 1) text)
split_at p text i e =
    let there = position_some p text i e in
    let same = there.0 in
    let inside = there.1 in
    rw same at (slice_split_first p text 0 (omega arith))
