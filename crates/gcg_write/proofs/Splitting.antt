-- Texts cut into parts.
use Rattle.std.proofs.Common.{◌≡◌, ℕ, ◌<◌, Bool, true, false, List, [], ◌∷◌, ◌++◌, length, arith, ap, refl, ◌∙◌}
use Rattle.std.specs.List.{position_or_len, slice_split, onto_first}
use Rattle.std.proofs.lemmas.List.Splits.{slice_split-cons_yes, slice_split-cons_no}
use Rattle.std.proofs.lemmas.Bool.Decides.{nat_tests}
use Rattle.gcg_read.specs.Cutting.{is_blank, is_filled, fields_of}
use Rattle.gcg_write.proofs.Each.{Each}

abbrev pub Fails : (ℕ → Bool) → ℕ → Type 0
Fails p x = p x ≡ false

-- if nothing passes, the text is a single part
pub split_one : (p : ℕ → Bool) (xs : List ℕ) → Each (Fails p) xs → slice_split p xs ≡ xs ∷ []
split_one p [] h = refl
split_one p (x ∷ xs) h = slice_split-cons_no p x xs h.0 ∙ ap (onto_first x) (split_one p xs h.1)

-- the first part ends where something passes
pub split_next : (p : ℕ → Bool) (xs : List ℕ) (y : ℕ) (ys : List ℕ) → Each (Fails p) xs → p y ≡ true → slice_split p (xs ++ y ∷ ys) ≡ xs ∷ slice_split p ys
split_next p [] y ys h e = slice_split-cons_yes p y ys e
split_next p (x ∷ xs) y ys h e = slice_split-cons_no p x (xs ++ y ∷ ys) h.0 ∙ ap (onto_first x) (split_next p xs y ys h.1 e)

-- the first place that passes
pub first_place : (p : ℕ → Bool) (xs : List ℕ) (y : ℕ) (ys : List ℕ) → Each (Fails p) xs → p y ≡ true → position_or_len p (xs ++ y ∷ ys) ≡ length xs
first_place p [] y ys h e = rw e refl
first_place p (x ∷ xs) y ys h e = rw (h.0, first_place p xs y ys h.1 e) (omega arith)

pub no_place : (p : ℕ → Bool) (xs : List ℕ) → Each (Fails p) xs → position_or_len p xs ≡ length xs
no_place p [] h = refl
no_place p (x ∷ xs) h = rw (h.0, no_place p xs h.1) (omega arith)

-- ---- fields

filled : (xs : List ℕ) → 0 < length xs → is_filled xs ≡ true
filled xs h = grind (arith, nat_tests)

-- a text without blanks is one field
pub field_one : (xs : List ℕ) → 0 < length xs → Each (Fails is_blank) xs → fields_of xs ≡ xs ∷ []
unfolding fields_of
field_one xs some h = rw (split_one is_blank xs h, filled xs some) refl

-- a field and those after the blank that ends it
pub field_more : (xs ys : List ℕ) → 0 < length xs → Each (Fails is_blank) xs → fields_of (xs ++ 32 ∷ ys) ≡ xs ∷ fields_of ys
unfolding fields_of
field_more xs ys some h = rw (split_next is_blank xs 32 ys h refl, filled xs some) refl

-- a blank at the front is ignored
pub field_after : (ys : List ℕ) → fields_of (32 ∷ ys) ≡ fields_of ys
unfolding fields_of
field_after ys = refl
