-- The nickname of a line with other numbers.
use Rattle.std.proofs.Common.{◌≡◌, ℕ, ◌<◌, ◌==◌, Bool, true, false, ltb, List, [], ◌∷◌, ◌++◌, length, Some, None, arith, refl, sym, ap, ◌∙◌, ◌⊎◌, inl, inr}
use Rattle.std.specs.List.{position, position_or_len}
use Rattle.std.proofs.lemmas.List.{length-append}
use Rattle.std.proofs.lemmas.Bool.Decides.{nat_tests}
use Rattle.gcg_read.specs.Cutting.{is_colon, Named, named_by, head_of, fields_of}
use Rattle.gcg_write.proofs.Each.{Each}
use Rattle.gcg_write.proofs.Parts.{take_front, drop_more}
use Rattle.gcg_write.proofs.Splitting.{Fails, first_place, no_place}
use Rattle.gcg_numbers.specs.Numbers.{after_colon}

-- a text that is cut at its first colon
pub record Colon (text : List ℕ) : Type 0 where
  pub before : List ℕ
  pub after : List ℕ
  pub whole : text ≡ before ++ 58 ∷ after
  pub first : Each (Fails is_colon) before

same_byte : (a b : ℕ) → (a == b) ≡ true → a ≡ b
same_byte a b e = grind (arith, nat_tests)

cut_by : (byte : ℕ) (text : List ℕ) (b : Bool) → is_colon byte ≡ b → Each (Fails is_colon) text ⊎ Colon text → Each (Fails is_colon) (byte ∷ text) ⊎ Colon (byte ∷ text)
cut_by byte text true e rest = inr (record { before = []; after = text; whole = ap (λ n. n ∷ text) (same_byte byte 58 e); first = tt })
cut_by byte text false e (inl none) = inl (e, none)
cut_by byte text false e (inr c) = inr (record { before = byte ∷ c.before; after = c.after; whole = ap (λ l. byte ∷ l) c.whole; first = (e, c.first) })

pub cut : (text : List ℕ) → Each (Fails is_colon) text ⊎ Colon text
cut [] = inl tt
cut (byte ∷ text) = cut_by byte text (is_colon byte) refl (cut text)

no_position : (text : List ℕ) → Each (Fails is_colon) text → position is_colon text ≡ None
no_position text none =
    let past = no_place is_colon text none in
    let outside : ltb (position_or_len is_colon text) (length text) ≡ false = grind (arith, nat_tests) in
    rw outside refl

position_first : (before after : List ℕ) → Each (Fails is_colon) before → position is_colon (before ++ 58 ∷ after) ≡ Some (length before)
position_first before after first =
    let place = first_place is_colon before 58 after first refl in
    let inside : length before < length (before ++ 58 ∷ after) = omega (arith, length-append before (58 ∷ after)) in
    let there : ltb (position_or_len is_colon (before ++ 58 ∷ after)) (length (before ++ 58 ∷ after)) ≡ true = grind (arith, nat_tests) in
    rw (there, place) refl

pub head_cut : (before after : List ℕ) → Each (Fails is_colon) before → head_of (before ++ 58 ∷ after) ≡ named_by (fields_of before) after
unfolding head_of
head_cut before after first =
    rw (position_first before after first, first_place is_colon before 58 after first refl, take_front before (58 ∷ after), drop_more before 58 after) refl

pub changed_cut : (change : List ℕ → List ℕ) (before after : List ℕ) → Each (Fails is_colon) before → after_colon change (before ++ 58 ∷ after) ≡ before ++ 58 ∷ change after
changed_cut change [] after first = refl
changed_cut change (byte ∷ before) after first = rw (first.0, changed_cut change before after first.1) refl

pub named_other : (fields : List (List ℕ)) (after other : List ℕ) (head : Named) → named_by fields after ≡ Some head → (head.after ≡ after) × (named_by fields other ≡ Some (record head { after = other }))
named_other [] after other head e = absurd cc
named_other (nick ∷ []) after other head e =
    let same : (let n : Named = record { nick = nick; after = after } in n) ≡ head = cc in
    (ap (λ (n : Named). n.after) (sym same), rw (sym same) refl)
named_other (nick ∷ field ∷ fields) after other head e = absurd cc

pub no_head : (text : List ℕ) (head : Named) → Each (Fails is_colon) text → head_of text ≡ Some head → ⊥
unfolding head_of
no_head text head none e =
    let nothing : head_of text ≡ None = rw (no_position text none) refl in
    absurd cc

head_by : (change : List ℕ → List ℕ) (text : List ℕ) (head : Named) → Each (Fails is_colon) text ⊎ Colon text → head_of text ≡ Some head
    → head_of (after_colon change text) ≡ Some (record head { after = change head.after })
head_by change text head (inl none) e = absurd (no_head text head none e)
head_by change text head (inr c) e =
    let there : named_by (fields_of c.before) c.after ≡ Some head = sym (head_cut c.before c.after c.first) ∙ ap head_of (sym c.whole) ∙ e in
    let two = named_other (fields_of c.before) c.after (change c.after) head there in
    let changed : head_of (after_colon change text) ≡ named_by (fields_of c.before) (change c.after) =
    ap (λ l. head_of (after_colon change l)) c.whole ∙ ap head_of (changed_cut change c.before c.after c.first) ∙ head_cut c.before (change c.after) c.first in
    changed ∙ two.1 ∙ ap (λ l. Some (record head { after = change l })) (sym two.0)

-- the nickname stays, and what follows its colon is changed
pub head_other : (change : List ℕ → List ℕ) (text : List ℕ) (head : Named) → head_of text ≡ Some head → head_of (after_colon change text) ≡ Some (record head { after = change head.after })
head_other change text head e = head_by change text head (cut text) e
