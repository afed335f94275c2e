-- A line that is cut into fields.
use Rattle.std.proofs.Common.{◌≡◌, ℕ, zero, suc, ◌+◌, ◌-◌, ◌<◌, ◌≤◌, Bool, true, false, not, ◌||◌, ◌==◌, List, [], ◌∷◌, length, get_or, take, drop, Option, Some, None, arith, sym, ap, refl, ◌∙◌, inl, inr}
use Rattle.std.specs.List.{position, position_or_len}
use Rattle.std.proofs.lemmas.Bool.{cases_lt}
use Rattle.std.proofs.lemmas.List.{nil_from_length, length-drop, length-take, get_or-drop}
use Rattle.std.proofs.lemmas.List.Sums.{fails_before_first, passes_at_first}
use Rattle.std.proofs.lemmas.List.Splits.{slice_split-cons_yes}
use Rattle.std.proofs.lemmas.Bool.Decides.{nat_tests}
use Rattle.bstr.specs.Find.{IsFirstByte}
use Rattle.bstr.specs.Bytes.{is_in, not_in}
use Rattle.text_lines.specs.Fields.{is_blank, is_filled, fields_of}
use Rattle.text_lines.proofs.Cuts.{rest_is, position_none, position_some, first_byte, split_none, split_at}

-- ---- searches for blanks

abbrev pub not_blank : ℕ → Bool
not_blank byte = not (is_blank byte)

or_false : (b : Bool) → (b || false) ≡ b
or_false true = refl
or_false false = refl

pub blank_in : (byte : ℕ) → is_blank byte ≡ is_in (32 ∷ 9 ∷ []) byte
unfolding is_in
blank_in byte = ap (λ b. byte == 32 || b) (sym (or_false (byte == 9)))

like : (p q : ℕ → Bool) (text : List ℕ) (r : Option ℕ) → ((byte : ℕ) → q byte ≡ p byte) → IsFirstByte p text r → IsFirstByte q text r
like p q text None agree h = λ k low high here. h k low high (sym (agree (get_or text k 0)) ∙ here)
like p q text (Some i) agree h =
    (record { low = h.0.low; high = h.0.high; before = λ k low high here. h.0.before k low high (sym (agree (get_or text k 0)) ∙ here) }, agree (get_or text i 0) ∙ h.1)

pub first_blank : (text : List ℕ) (r : Option ℕ) → IsFirstByte (is_in (32 ∷ 9 ∷ [])) text r → r ≡ position is_blank text
first_blank text r h = first_byte is_blank text r (like (is_in (32 ∷ 9 ∷ [])) is_blank text r blank_in h)

pub first_filled : (text : List ℕ) (r : Option ℕ) → IsFirstByte (not_in (32 ∷ 9 ∷ [])) text r → r ≡ position (λ byte. not (is_blank byte)) text
first_filled text r h = first_byte not_blank text r (like (not_in (32 ∷ 9 ∷ [])) not_blank text r (λ byte. ap not (blank_in byte)) h)

-- ---- fields

elim_not : (b : Bool) → not b ≡ false → b ≡ true
elim_not true e = refl
elim_not false e = absurd cc

pub blank_from : (byte : ℕ) → not_blank byte ≡ false → is_blank byte ≡ true
blank_from byte e = elim_not (is_blank byte) e

pub skip_blanks : (text : List ℕ) (n : ℕ) → n ≤ length text → ((k : ℕ) → k < n → is_blank (get_or text k 0) ≡ true) → fields_of text ≡ fields_of (drop n text)
unfolding fields_of
skip_blanks text zero le h = refl
skip_blanks [] (suc n) le h = absurd (omega arith)
skip_blanks (byte ∷ text) (suc n) le h =
    rw (slice_split-cons_yes is_blank byte text (h 0 (omega arith))) (skip_blanks text n (omega arith) (λ k lt. h (suc k) (omega arith)))

blanks_before : (text : List ℕ) (k : ℕ) → k < position_or_len not_blank text → is_blank (get_or text k 0) ≡ true
blanks_before text k lt = blank_from (get_or text k 0) (fails_before_first not_blank text k 0 lt)

drop_past : (n : ℕ) (xs : List ℕ) → length xs ≤ n → drop n xs ≡ []
drop_past n xs le = nil_from_length (drop n xs) (omega (arith, length-drop n xs))

-- a text of blanks has no field
pub field_none : (text : List ℕ) → position not_blank text ≡ None → fields_of text ≡ []
unfolding fields_of
field_none text e =
    let past = position_none not_blank text e in
    let skipped : fields_of text ≡ fields_of (drop (length text) text) = skip_blanks text (length text) (omega arith) (λ k lt. blanks_before text k (omega arith)) in
    let over : fields_of (drop (length text) text) ≡ [] = rw (drop_past (length text) text (omega arith)) refl in
    skipped ∙ over

skip_to : (text : List ℕ) (s : ℕ) → position not_blank text ≡ Some s → fields_of text ≡ fields_of (drop s text)
skip_to text s e =
    let there = position_some not_blank text s e in
    skip_blanks text s (omega arith) (λ k lt. blanks_before text k (omega arith))

filled_true : (field : List ℕ) → 0 < length field → is_filled field ≡ true
filled_true field h = grind (arith, nat_tests)

-- the last field
pub field_last : (text : List ℕ) (s : ℕ) → position not_blank text ≡ Some s → position is_blank (drop s text) ≡ None → fields_of text ≡ drop s text ∷ []
unfolding fields_of
field_last text s e none =
    let there = position_some not_blank text s e in
    let some : 0 < length (drop s text) = omega (arith, length-drop s text) in
    let filled = filled_true (drop s text) some in
    let one : fields_of (drop s text) ≡ drop s text ∷ [] = rw (split_none is_blank (drop s text) none, filled) refl in
    skip_to text s e ∙ one

pub both_ways : (b : Bool) → not b ≡ true → b ≡ true → ⊥
both_ways true e f = cc
both_ways false e f = cc

-- a place that is not blank is not the first blank after it
apart : (text : List ℕ) (s i : ℕ) → not_blank (get_or text s 0) ≡ true → is_blank (get_or (drop s text) i 0) ≡ true → i ≡ 0 → ⊥
apart text s i here blank zero_is =
    let same : get_or (drop s text) i 0 ≡ get_or text s 0 = get_or-drop s text i 0 ∙ ap (λ n. get_or text n 0) (omega arith) in
    both_ways (is_blank (get_or text s 0)) here (rw same at blank)

-- a field and those after it
pub field_next : (text : List ℕ) (s i : ℕ) → position not_blank text ≡ Some s → position is_blank (drop s text) ≡ Some i
    → fields_of text ≡ take i (drop s text) ∷ fields_of (drop (i + 1) (drop s text))
unfolding fields_of
field_next text s i e some =
    let there = position_some not_blank text s e in
    let start = there.0 in
    let inside = there.1 in
    let end = position_some is_blank (drop s text) i some in
    let place = end.0 in
    let within = end.1 in
    let here : not_blank (get_or text s 0) ≡ true = rw start at (passes_at_first not_blank text 0 (omega arith)) in
    let blank : is_blank (get_or (drop s text) i 0) ≡ true = rw place at (passes_at_first is_blank (drop s text) 0 (omega arith)) in
    let long : 0 < i = elim (cases_lt 0 i) [ inl lt ↦ lt | inr le ↦ absurd (apart text s i here blank (omega arith)) ] in
    let filled = filled_true (take i (drop s text)) (omega (arith, length-take i (drop s text))) in
    let one : fields_of (drop s text) ≡ take i (drop s text) ∷ fields_of (drop (i + 1) (drop s text)) = rw (split_at is_blank (drop s text) i some, filled) refl in
    skip_to text s e ∙ one

-- ---- in the reader's own form

pub field_only : (text : List ℕ) (s : ℕ) → Some s ≡ position not_blank text → None ≡ position is_blank (take (length text - s) (drop s text))
    → fields_of text ≡ take (length text - s) (drop s text) ∷ fields_of []
unfolding fields_of
field_only text s e none =
    let last : position is_blank (drop s text) ≡ None = rw (rest_is s text) at (sym none) in
    rw (rest_is s text) (field_last text s (sym e) last)

pub field_first : (text : List ℕ) (s i : ℕ) → Some s ≡ position not_blank text → Some i ≡ position is_blank (take (length text - s) (drop s text))
    → fields_of text ≡ take i (take (length text - s) (drop s text))
    ∷ fields_of (take (length (take (length text - s) (drop s text)) - (i + 1)) (drop (i + 1) (take (length text - s) (drop s text))))
field_first text s i e some =
    let first : position is_blank (drop s text) ≡ Some i = rw (rest_is s text) at (sym some) in
    rw (rest_is s text, rest_is (i + 1) (drop s text)) (field_next text s i (sym e) first)
