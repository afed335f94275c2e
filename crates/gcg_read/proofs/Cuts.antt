-- Nicknames before a colon, and blanks at the end of a text.
use Rattle.std.proofs.Common.{◌≡◌, ℕ, ◌+◌, ◌-◌, true, false, not, List, [], ◌∷◌, length, get_or, take, drop, Option, Some, None, arith, sym, ap, refl, ◌∙◌}
use Rattle.std.specs.Prelude.{is_some}
use Rattle.std.specs.List.{position, suffix_len}
use Rattle.std.proofs.lemmas.List.Sums.{suffix_len_is}
use Rattle.bstr.specs.Find.{IsLastByte}
use Rattle.bstr.specs.Bytes.{not_in}
use Rattle.text_lines.specs.declared.fields.Field.{Field}
use Rattle.text_lines.proofs.Cuts.{fails, rest_is, position_some}
use Rattle.text_lines.proofs.FieldCuts.{not_blank, blank_in, blank_from, both_ways}
use Rattle.gcg_read.specs.Cutting.{is_blank, is_colon, fields_of, fields_from, head_of, named_by}
use Rattle.gcg_read.specs.Pragmas.{end_trimmed}

-- ---- nicknames

pub head_none : (text : List ℕ) → position is_colon text ≡ None → head_of text ≡ None
unfolding head_of
head_none text e = rw e refl

pub head_at : (text : List ℕ) (i : ℕ) → position is_colon text ≡ Some i → head_of text ≡ named_by (fields_of (take i text)) (drop (i + 1) text)
unfolding head_of
head_at text i e =
    let there = position_some is_colon text i e in
    let place = there.0 in
    rw (e, place) refl

pub head_no_colon : (text : List ℕ) → None ≡ position is_colon text → head_of text ≡ None
head_no_colon text e = head_none text (sym e)

pub head_no_field : (text : List ℕ) (i : ℕ) → Some i ≡ position is_colon text → fields_of (take i text) ≡ [] → head_of text ≡ None
head_no_field text i e none = head_at text i (sym e) ∙ rw none refl

pub head_fields : (text nick others : List ℕ) (i : ℕ) (r : Option Field) → Some i ≡ position is_colon text → fields_of (take i text) ≡ nick ∷ fields_of others
    → fields_of others ≡ fields_from r → is_some r ≡ true → head_of text ≡ None
head_fields text nick others i None e fields rest some = absurd cc
head_fields text nick others i (Some field) e fields rest some = head_at text i (sym e) ∙ rw (fields, rest) refl

pub head_one : (text nick others : List ℕ) (i : ℕ) (r : Option Field) → Some i ≡ position is_colon text → fields_of (take i text) ≡ nick ∷ fields_of others
    → fields_of others ≡ fields_from r → is_some r ≡ false
    → head_of text ≡ Some (record { nick = nick; after = take (length text - (i + 1)) (drop (i + 1) text) })
head_one text nick others i None e fields rest none = rw (rest_is (i + 1) text) (head_at text i (sym e) ∙ rw (fields, rest) refl)
head_one text nick others i (Some field) e fields rest none = absurd cc

-- ---- blanks at the end

blank_there : (byte : ℕ) → (not_in (32 ∷ 9 ∷ []) byte ≡ true → ⊥) → is_blank byte ≡ true
blank_there byte h = blank_from byte (fails (not_blank byte) (λ e. h (ap not (sym (blank_in byte)) ∙ e)))

filled_there : (byte : ℕ) → not_in (32 ∷ 9 ∷ []) byte ≡ true → is_blank byte ≡ false
filled_there byte h = fails (is_blank byte) (both_ways (is_blank byte) (ap not (blank_in byte) ∙ h))

-- a text of blanks
pub end_none : (text : List ℕ) → IsLastByte (not_in (32 ∷ 9 ∷ [])) text None → [] ≡ end_trimmed text
end_none text h =
    let all = suffix_len_is is_blank text 0 0 (omega arith) (λ k low high. blank_there (get_or text k 0) (h k low high)) (λ lt. absurd (omega arith)) in
    let none : length text - suffix_len is_blank text ≡ 0 = omega (arith, all) in
    rw none refl

-- the last byte that is not a blank is the last that is kept
pub end_some : (text : List ℕ) (i : ℕ) → IsLastByte (not_in (32 ∷ 9 ∷ [])) text (Some i) → take (i + 1) text ≡ end_trimmed text
end_some text i h =
    let here : is_blank (get_or text (i + 1 - 1) 0) ≡ false = ap (λ n. is_blank (get_or text n 0)) (omega arith) ∙ filled_there (get_or text i 0) h.1 in
    let back = suffix_len_is is_blank text (i + 1) 0 (omega (arith, h.0.high)) (λ k low high. blank_there (get_or text k 0) (h.0.after k low high)) (λ lt. here) in
    let kept : length text - suffix_len is_blank text ≡ i + 1 = omega (arith, back, h.0.high) in
    rw kept refl
