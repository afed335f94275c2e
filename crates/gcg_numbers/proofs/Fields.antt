-- The fields of a joined text.
use Rattle.std.proofs.Common.{◌≡◌, ℕ, ◌<◌, Bool, true, false, List, [], ◌∷◌, ◌++◌, length, arith, refl, sym, ap, ◌∙◌}
use Rattle.std.specs.List.{filter, slice_split, onto_first}
use Rattle.std.proofs.lemmas.List.{append-nil, append_assoc}
use Rattle.std.proofs.lemmas.List.Elements.{filter-append}
use Rattle.std.proofs.lemmas.List.Splits.{slice_split-cons_yes, slice_split-cons_no, length-slice_split}
use Rattle.text_lines.specs.Fields.{is_blank, is_filled, fields_of}
use Rattle.gcg_write.proofs.Each.{Each}
use Rattle.gcg_write.proofs.Splitting.{Fails, field_one}

abbrev pub IsBlank : ℕ → Type 0
IsBlank byte = is_blank byte ≡ true

onto_append : (x : ℕ) (parts more : List (List ℕ)) → 0 < length parts → onto_first x (parts ++ more) ≡ onto_first x parts ++ more
onto_append x [] more some = absurd (omega arith)
onto_append x (part ∷ parts) more some = refl

split_by : (p : ℕ → Bool) (x : ℕ) (xs : List ℕ) (y : ℕ) (ys : List ℕ) (b : Bool) → p x ≡ b
    → slice_split p (xs ++ y ∷ ys) ≡ slice_split p xs ++ slice_split p ys → slice_split p (x ∷ (xs ++ y ∷ ys)) ≡ slice_split p (x ∷ xs) ++ slice_split p ys
split_by p x xs y ys true e more =
    slice_split-cons_yes p x (xs ++ y ∷ ys) e ∙ ap (λ l. [] ∷ l) more ∙ ap (λ l. l ++ slice_split p ys) (sym (slice_split-cons_yes p x xs e))
split_by p x xs y ys false e more =
    slice_split-cons_no p x (xs ++ y ∷ ys) e ∙ ap (onto_first x) more
    ∙ onto_append x (slice_split p xs) (slice_split p ys) (omega (arith, length-slice_split p xs)) ∙ ap (λ l. l ++ slice_split p ys) (sym (slice_split-cons_no p x xs e))

pub split_append : (p : ℕ → Bool) (xs : List ℕ) (y : ℕ) (ys : List ℕ) → p y ≡ true → slice_split p (xs ++ y ∷ ys) ≡ slice_split p xs ++ slice_split p ys
split_append p [] y ys e = slice_split-cons_yes p y ys e
split_append p (x ∷ xs) y ys e = split_by p x xs y ys (p x) refl (split_append p xs y ys e)

-- a blank separates fields
fields_append : (xs : List ℕ) (b : ℕ) (ys : List ℕ) → IsBlank b → fields_of (xs ++ b ∷ ys) ≡ fields_of xs ++ fields_of ys
unfolding fields_of
fields_append xs b ys e = ap (filter is_filled) (split_append is_blank xs b ys e) ∙ filter-append is_filled (slice_split is_blank xs) (slice_split is_blank ys)

no_field : fields_of [] ≡ []
unfolding fields_of
no_field = refl

pub no_fields : (ys : List ℕ) → Each IsBlank ys → fields_of ys ≡ []
no_fields [] h = no_field
no_fields (b ∷ ys) h = fields_append [] b ys h.0 ∙ rw (no_field, no_fields ys h.1) refl

-- nothing, or a blank at the end
abbrev pub EndsBlank : List ℕ → Type 0
EndsBlank [] = Unit {0}
EndsBlank (b ∷ []) = IsBlank b
EndsBlank (a ∷ b ∷ rest) = EndsBlank (b ∷ rest)

pub ends_front : (xs ys : List ℕ) → 0 < length ys → EndsBlank ys → EndsBlank (xs ++ ys)
ends_front [] ys some h = h
ends_front (x ∷ []) [] some h = absurd (omega arith)
ends_front (x ∷ []) (y ∷ ys) some h = h
ends_front (x ∷ z ∷ xs) ys some h = ends_front (z ∷ xs) ys some h

pub ends_each : (ys : List ℕ) → Each IsBlank ys → EndsBlank ys
ends_each [] h = tt
ends_each (b ∷ []) h = h.0
ends_each (a ∷ b ∷ rest) h = ends_each (b ∷ rest) h.1

-- what ends in a byte that is not a blank
pub not_ends : (xs field : List ℕ) → 0 < length field → Each (Fails is_blank) field → EndsBlank (xs ++ field) → ⊥
not_ends [] [] some h e = absurd (omega arith)
not_ends [] (f ∷ []) some h e = let no = h.0 in absurd cc
not_ends [] (f ∷ g ∷ rest) some h e = not_ends [] (g ∷ rest) (omega arith) h.1 e
not_ends (x ∷ []) [] some h e = absurd (omega arith)
not_ends (x ∷ []) (f ∷ fs) some h e = not_ends [] (f ∷ fs) some h e
not_ends (x ∷ z ∷ xs) field some h e = not_ends (z ∷ xs) field some h e

-- a text that ends in a blank, without it
record Ended (xs : List ℕ) : Type 0 where
  front : List ℕ
  last : ℕ
  whole : xs ≡ front ++ last ∷ []
  blank : IsBlank last

ended : (x : ℕ) (xs : List ℕ) → EndsBlank (x ∷ xs) → Ended (x ∷ xs)
ended x [] h = record { front = []; last = x; whole = refl; blank = h }
ended x (y ∷ ys) h = let e = ended y ys h in record { front = x ∷ e.front; last = e.last; whole = ap (λ l. x ∷ l) e.whole; blank = e.blank }

fields_by : (xs ys front : List ℕ) (last : ℕ) → xs ≡ front ++ last ∷ [] → IsBlank last → fields_of (xs ++ ys) ≡ fields_of xs ++ fields_of ys
fields_by xs ys front last e h =
    let one : fields_of ((front ++ last ∷ []) ++ ys) ≡ fields_of front ++ fields_of ys = ap fields_of (append_assoc front (last ∷ []) ys) ∙ fields_append front last ys h in
    let two : fields_of (front ++ last ∷ []) ≡ fields_of front = fields_append front last [] h ∙ ap (λ l. fields_of front ++ l) (no_fields [] tt) ∙ append-nil (fields_of front) in
    rw (e, one, two) refl

-- what ends in a blank has no part in the field after it
pub fields_after : (xs ys : List ℕ) → EndsBlank xs → fields_of (xs ++ ys) ≡ fields_of xs ++ fields_of ys
fields_after [] ys h = ap (λ l. l ++ fields_of ys) (sym (no_fields [] tt))
fields_after (x ∷ xs) ys h = let e = ended x xs h in fields_by (x ∷ xs) ys e.front e.last e.whole e.blank

-- a field and blanks
pub field_back : (field back : List ℕ) → 0 < length field → Each (Fails is_blank) field → Each IsBlank back → fields_of (field ++ back) ≡ field ∷ []
field_back field [] some ink h = ap fields_of (append-nil field) ∙ field_one field some ink
field_back field (b ∷ back) some ink h = fields_append field b back h.0 ∙ rw (field_one field some ink, no_fields back h.1) refl
