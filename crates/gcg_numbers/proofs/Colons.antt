-- A line that is changed after its first colon.
use Rattle.std.proofs.Common.{◌≡◌, ℕ, suc, ◌+◌, ◌-◌, ◌<◌, ◌≤◌, Bool, true, false, List, [], ◌∷◌, ◌++◌, length, take, drop, Some, None, arith, refl, sym, ap, ◌∙◌}
use Rattle.std.specs.List.{position, position_or_len}
use Rattle.std.proofs.lemmas.List.{append_assoc}
use Rattle.text_lines.proofs.Cuts.{rest_is, position_none, position_some}
use Rattle.gcg_numbers.specs.Lines.{is_colon}
use Rattle.gcg_numbers.specs.Numbers.{after_colon}

none_by : (change : List ℕ → List ℕ) (byte : ℕ) (text : List ℕ) (b : Bool) → is_colon byte ≡ b → length (byte ∷ text) ≤ position_or_len is_colon (byte ∷ text)
    → (length text ≤ position_or_len is_colon text → after_colon change text ≡ text) → after_colon change (byte ∷ text) ≡ byte ∷ text
none_by change byte text true e h go =
    let first : position_or_len is_colon (byte ∷ text) ≡ 0 = rw e refl in
    absurd (omega arith)
none_by change byte text false e h go =
    let more : position_or_len is_colon (byte ∷ text) ≡ position_or_len is_colon text + 1 = rw e (omega arith) in
    rw (e, go (omega arith)) refl

none_past : (change : List ℕ → List ℕ) (text : List ℕ) → length text ≤ position_or_len is_colon text → after_colon change text ≡ text
none_past change [] h = refl
none_past change (byte ∷ text) h = none_by change byte text (is_colon byte) refl h (λ k. none_past change text k)

pub none : (change : List ℕ → List ℕ) (out text : List ℕ) → None ≡ position is_colon text → out ++ text ≡ out ++ after_colon change text
none change out text e = ap (λ l. out ++ l) (sym (none_past change text (position_none is_colon text (sym e))))

there_by : (change : List ℕ → List ℕ) (byte : ℕ) (text : List ℕ) (b : Bool) → is_colon byte ≡ b
    → (position_or_len is_colon text < length text → after_colon change text ≡ take (position_or_len is_colon text + 1) text ++ change (drop (position_or_len is_colon text + 1) text))
    → position_or_len is_colon (byte ∷ text) < length (byte ∷ text)
    → after_colon change (byte ∷ text) ≡ take (position_or_len is_colon (byte ∷ text) + 1) (byte ∷ text) ++ change (drop (position_or_len is_colon (byte ∷ text) + 1) (byte ∷ text))
there_by change byte text true e go h = rw e refl
there_by change byte text false e go h =
    let more : position_or_len is_colon (byte ∷ text) + 1 ≡ suc (position_or_len is_colon text + 1) = rw e (omega arith) in
    let inside : position_or_len is_colon text < length text = omega (arith, more) in
    rw (more, e, go inside) refl

there_at : (change : List ℕ → List ℕ) (text : List ℕ) → position_or_len is_colon text < length text
    → after_colon change text ≡ take (position_or_len is_colon text + 1) text ++ change (drop (position_or_len is_colon text + 1) text)
there_at change [] h = absurd (omega arith)
there_at change (byte ∷ text) h = there_by change byte text (is_colon byte) refl (λ k. there_at change text k) h

place_is : (change : List ℕ → List ℕ) (text : List ℕ) (i : ℕ) → position_or_len is_colon text ≡ i → i < length text → after_colon change text ≡ take (i + 1) text ++ change (drop (i + 1) text)
place_is change text i e h = rw (sym e) (there_at change text (omega (arith, e)))

pub there : (change : List ℕ → List ℕ) (out text : List ℕ) (i : ℕ) → Some i ≡ position is_colon text
    → (out ++ take (i + 1) text) ++ change (take (length text - (i + 1)) (drop (i + 1) text)) ≡ out ++ after_colon change text
there change out text i e =
    let p = position_some is_colon text i (sym e) in
    append_assoc out (take (i + 1) text) _ ∙ ap (λ l. out ++ (take (i + 1) text ++ change l)) (rest_is (i + 1) text) ∙ ap (λ l. out ++ l) (sym (place_is change text i p.0 p.1))
