-- The last field of a text is unique.
use Rattle.std.proofs.Common.{◌≡◌, ℕ, zero, suc, ⊎_elim, ◌+◌, ◌-◌, ◌<◌, ◌≤◌, Bool, true, false, get_or, List, [], ◌∷◌, ◌++◌, length, take, drop, slice_index, Some, None, arith, refl, sym, ap, subst, ◌∙◌}
use Rattle.std.proofs.lemmas.List.{length-take, length-drop, take_more, get_or-take, take-append-drop, drop-take, drop-drop, take_rest}
use Rattle.std.proofs.lemmas.Bool.{cases_lt}
use Rattle.text_lines.specs.Fields.{is_blank}
use Rattle.gcg_numbers.specs.Fields.{AreOf}
use Rattle.gcg_numbers.specs.Numbers.{Last, last_field}
use Rattle.gcg_numbers.proofs.Fields.{EndsBlank, ends_front}

pub no_last : (text : List ℕ) → AreOf true text → last_field text ≡ None
no_last [] h = refl
no_last (byte ∷ text) h = rw (no_last text h.1, h.0) refl

first_of : (field back : List ℕ) → 0 < length field → AreOf false field → AreOf true back → last_field (field ++ back) ≡ Some (record { front = []; field = field; back = back })
first_of [] back some h k = absurd (omega arith)
first_of (f ∷ []) back some h k = rw (no_last back k, h.0) refl
first_of (f ∷ g ∷ field) back some h k = rw (first_of (g ∷ field) back (omega arith) h.1 k, h.0) refl

pub last_of : (front field back : List ℕ) → EndsBlank front → 0 < length field → AreOf false field → AreOf true back
    → last_field (front ++ (field ++ back)) ≡ Some (record { front = front; field = field; back = back })
last_of [] field back e some h k = first_of field back some h k
last_of (a ∷ []) field back e some h k = rw (first_of field back some h k, e) refl
last_of (a ∷ b ∷ front) field back e some h k = rw (last_of (b ∷ front) field back e some h k) refl

-- ---- by places

ends_at : (text : List ℕ) (start : ℕ) → start ≤ length text → (0 < start → is_blank (slice_index text (start - 1)) ≡ true) → EndsBlank (take start text)
ends_at text zero h stops = tt
ends_at text (suc start) h stops =
    let inside : start < length text = omega arith in
    let back : suc start - 1 ≡ start = omega arith in
    let blank : is_blank (get_or text start 0) ≡ true = ap (λ k. is_blank (get_or text k 0)) (sym back) ∙ stops (omega arith) in
    let cut : take (start + 1) text ≡ take start text ++ get_or text start 0 ∷ [] = take_more text start 0 inside in
    let more : start + 1 ≡ suc start = omega arith in
    subst (λ k. EndsBlank (take k text)) more (subst EndsBlank (sym cut) (ends_front (take start text) (get_or text start 0 ∷ []) (omega arith) blank))

not_both : (b : Bool) → b ≡ true → b ≡ false → ⊥
not_both true e f = absurd cc
not_both false e f = absurd cc

before_end : (text : List ℕ) (start end : ℕ) → 0 < end → end ≤ length text → is_blank (slice_index text (end - 1)) ≡ false
    → start ≤ length (take end text) → (0 < start → is_blank (slice_index (take end text) (start - 1)) ≡ true) → start < end
before_end text start end some bound ink low blank =
    let many : length (take end text) ≡ end = omega (arith, length-take end text) in
    ⊎_elim (λ (lt : start < end). lt)
    (λ (le : end ≤ start).
    let same : start ≡ end = omega arith in
    let there : slice_index (take end text) (start - 1) ≡ slice_index text (end - 1) =
    ap (λ k. slice_index (take end text) (k - 1)) same ∙ get_or-take end text (end - 1) 0 (omega arith) in
    absurd (not_both (is_blank (slice_index text (end - 1))) (ap is_blank (sym there) ∙ blank (omega arith)) ink))
    (cases_lt start end)

pub last_there : (text : List ℕ) (start end : ℕ) → 0 < end → end ≤ length text → AreOf true (drop end text) → (0 < end → is_blank (slice_index text (end - 1)) ≡ false)
    → start ≤ length (take end text) → AreOf false (drop start (take end text)) → (0 < start → is_blank (slice_index (take end text) (start - 1)) ≡ true)
    → last_field text ≡ Some (record { front = take start text; field = take (end - start) (drop start text); back = take (length text - end) (drop end text) })
last_there text start end some bound following ink low field blank =
    let inside : start < end = before_end text start end some bound (ink some) low blank in
    let cut : drop start (take end text) ≡ take (end - start) (drop start text) =
    ap (λ k. drop start (take k text)) (let n : end ≡ start + (end - start) = omega arith in n) ∙ drop-take start (end - start) text in
    let rest : take (length text - end) (drop end text) ≡ drop end text = take_rest text end in
    let whole : text ≡ take start text ++ (take (end - start) (drop start text) ++ drop end text) =
    sym (take-append-drop start text) ∙ ap (λ l. take start text ++ l) (sym (take-append-drop (end - start) (drop start text)))
    ∙ ap (λ l. take start text ++ (take (end - start) (drop start text) ++ l)) (drop-drop (end - start) start text ∙ ap (λ k. drop k text) (let n : start + (end - start) ≡ end = omega arith in n)) in
    let filled : AreOf false (take (end - start) (drop start text)) = subst (AreOf false) cut field in
    let long : 0 < length (take (end - start) (drop start text)) = omega (arith, length-take (end - start) (drop start text), length-drop start text) in
    let front : EndsBlank (take start text) =
    ends_at text start (omega arith) (λ k. ap is_blank (sym (get_or-take end text (start - 1) 0 (omega arith))) ∙ blank k) in
    ap last_field whole ∙ last_of (take start text) (take (end - start) (drop start text)) (drop end text) front long filled following
    ∙ ap (λ l. Some (let r : Last = record { front = take start text; field = take (end - start) (drop start text); back = l } in r)) (sym rest)

pub none_there : (text : List ℕ) (end : ℕ) → end ≡ 0 → AreOf true (drop end text) → last_field text ≡ None
none_there text end e h = no_last text (subst (λ k. AreOf true (drop k text)) e h)
