-- What neighbours of a list that are changed make of it.
use Rattle.std.proofs.Common.{◌≡◌, ◌⊎◌, inl, inr, ℕ, ◌+◌, ◌≤◌, Bool, true, false, nat_le, List, [], ◌∷◌, ◌++◌, length, take, drop, refl, sym, ap, ◌∙◌, arith, if◌then◌else◌}
use Rattle.std.proofs.lemmas.Bool.{leb-true, le-leb}
use Rattle.std.proofs.lemmas.List.{append_assoc, length-append, length-drop, length-take-le, take-append-drop, drop-drop, take_at, drop_at}
use Rattle.repair_changes.specs.Splices.{spliced}
use Rattle.repair_changes.specs.Differences.{IsReplacedAt, IsOmittedAt, IsPutInAt, AreExchangedAt, AreExchangedOver}

-- a list in three parts, the middle one of which is changed
record IsSplit {A : Type 0} (place many : ℕ) (f : List A → List A) (xs ys : List A) : Type 0 where
  front : List A
  mid : List A
  following : List A
  there : length front ≡ place
  long : length mid ≡ many
  is : xs ≡ front ++ (mid ++ following)
  becomes : ys ≡ front ++ (f mid ++ following)

-- ---- the parts are there

pub spliced_there : {A : Type 0} (front mid following : List A) (place many : ℕ) (f : List A → List A) → length front ≡ place → length mid ≡ many
    → spliced place many f (front ++ (mid ++ following)) ≡ front ++ (f mid ++ following)
unfolding spliced
spliced_there {A} front mid following place many f there long =
    let xs = front ++ (mid ++ following) in
    let all = length-append front (mid ++ following) in
    let rest = length-append mid following in
    let within : nat_le (place + many) (length xs) ≡ true = le-leb (place + many) (length xs) (omega (arith, there, long, all, rest)) in
    let last : drop (place + many) xs ≡ following = sym (drop-drop many place xs) ∙ ap (drop many) (drop_at front (mid ++ following) place there) ∙ drop_at mid following many long in
    ap (λ (b : Bool). if b then take place xs ++ f (take many (drop place xs)) ++ drop (place + many) xs else xs) within
    ∙ ap (λ (ys : List A). ys ++ f (take many (drop place xs)) ++ drop (place + many) xs) (take_at front (mid ++ following) place there)
    ∙ ap (λ (ys : List A). front ++ f (take many ys) ++ drop (place + many) xs) (drop_at front (mid ++ following) place there)
    ∙ ap (λ (ys : List A). front ++ f ys ++ drop (place + many) xs) (take_at mid following many long)
    ∙ ap (λ (ys : List A). front ++ f mid ++ ys) last
    ∙ append_assoc front (f mid) following

-- ---- any list is left as it is, or it has such parts

split_or : {A : Type 0} (place many : ℕ) (f : List A → List A) (xs : List A) (b : Bool) → nat_le (place + many) (length xs) ≡ b
    → ((if b then take place xs ++ f (take many (drop place xs)) ++ drop (place + many) xs else xs) ≡ xs)
    ⊎ IsSplit place many f xs (if b then take place xs ++ f (take many (drop place xs)) ++ drop (place + many) xs else xs)
split_or {A} place many f xs true enough =
    let within : place + many ≤ length xs = leb-true (place + many) (length xs) enough in
    let rest = length-drop place xs in
    let last : drop many (drop place xs) ≡ drop (place + many) xs = drop-drop many place xs in
    inr
    (record {
      front = take place xs;
      mid = take many (drop place xs);
      following = drop (place + many) xs;
      there = length-take-le place xs (omega (arith, within));
      long = length-take-le many (drop place xs) (omega (arith, within, rest));
      is = sym (take-append-drop place xs)
          ∙ ap (λ (ys : List A). take place xs ++ ys) (sym (take-append-drop many (drop place xs)) ∙ ap (λ (ys : List A). take many (drop place xs) ++ ys) last);
      becomes = append_assoc (take place xs) (f (take many (drop place xs))) (drop (place + many) xs);
    })
split_or place many f xs false enough = inl refl

split : {A : Type 0} (place many : ℕ) (f : List A → List A) (xs : List A) → (spliced place many f xs ≡ xs) ⊎ IsSplit place many f xs (spliced place many f xs)
unfolding spliced
split place many f xs = split_or place many f xs (nat_le (place + many) (length xs)) refl

-- ---- one element

one_replaced : {A : Type 0} (Which : A → A → Type 0) (place : ℕ) (f : List A → List A) (new : A → A) (xs ys front mid following : List A) → ((e : A) → f (e ∷ []) ≡ new e ∷ [])
    → ((e : A) → Which e (new e)) → length front ≡ place → length mid ≡ 1 → xs ≡ front ++ (mid ++ following) → ys ≡ front ++ (f mid ++ following) → IsReplacedAt Which place xs ys
one_replaced Which place f new xs ys front [] following by which there long is becomes = absurd (omega (arith, long))
one_replaced {A} Which place f new xs ys front (e ∷ []) following by which there long is becomes =
    record {
      front = front;
      one = e;
      other = new e;
      following = following;
      there = there;
      is = is;
      becomes = becomes ∙ ap (λ (zs : List A). front ++ (zs ++ following)) (by e);
      which = which e;
    }
one_replaced Which place f new xs ys front (e ∷ d ∷ mid) following by which there long is becomes = absurd (omega (arith, long))

pub replaced : {A : Type 0} (Which : A → A → Type 0) (place : ℕ) (f : List A → List A) (new : A → A) (xs : List A) → ((e : A) → f (e ∷ []) ≡ new e ∷ []) → ((e : A) → Which e (new e))
    → (spliced place 1 f xs ≡ xs) ⊎ IsReplacedAt Which place xs (spliced place 1 f xs)
replaced Which place f new xs by which =
    elim (split place 1 f xs) as (λ s. (spliced place 1 f xs ≡ xs) ⊎ IsReplacedAt Which place xs (spliced place 1 f xs)) [
      | inl same ↦ inl same
      | inr s ↦ inr (one_replaced Which place f new xs (spliced place 1 f xs) s.front s.mid s.following by which s.there s.long s.is s.becomes)
    ]

one_omitted : {A : Type 0} (place : ℕ) (f : List A → List A) (xs ys front mid following : List A) → ((e : A) → f (e ∷ []) ≡ []) → length front ≡ place → length mid ≡ 1
    → xs ≡ front ++ (mid ++ following) → ys ≡ front ++ (f mid ++ following) → IsOmittedAt place xs ys
one_omitted place f xs ys front [] following by there long is becomes = absurd (omega (arith, long))
one_omitted {A} place f xs ys front (e ∷ []) following by there long is becomes =
    record { front = front; one = e; following = following; there = there; is = is; becomes = becomes ∙ ap (λ (zs : List A). front ++ (zs ++ following)) (by e) }
one_omitted place f xs ys front (e ∷ d ∷ mid) following by there long is becomes = absurd (omega (arith, long))

pub omitted : {A : Type 0} (place : ℕ) (f : List A → List A) (xs : List A) → ((e : A) → f (e ∷ []) ≡ []) → (spliced place 1 f xs ≡ xs) ⊎ IsOmittedAt place xs (spliced place 1 f xs)
omitted place f xs by =
    elim (split place 1 f xs) as (λ s. (spliced place 1 f xs ≡ xs) ⊎ IsOmittedAt place xs (spliced place 1 f xs)) [
      | inl same ↦ inl same
      | inr s ↦ inr (one_omitted place f xs (spliced place 1 f xs) s.front s.mid s.following by s.there s.long s.is s.becomes)
    ]

one_put_in : {A : Type 0} (other : A) (place : ℕ) (f : List A → List A) (xs ys front mid following : List A) → f [] ≡ other ∷ [] → length front ≡ place → length mid ≡ 0
    → xs ≡ front ++ (mid ++ following) → ys ≡ front ++ (f mid ++ following) → IsPutInAt other place xs ys
one_put_in {A} other place f xs ys front [] following by there long is becomes =
    record { front = front; following = following; there = there; is = is; becomes = becomes ∙ ap (λ (zs : List A). front ++ (zs ++ following)) by }
one_put_in other place f xs ys front (e ∷ mid) following by there long is becomes = absurd (omega (arith, long))

pub put_in : {A : Type 0} (other : A) (place : ℕ) (f : List A → List A) (xs : List A) → f [] ≡ other ∷ [] → (spliced place 0 f xs ≡ xs) ⊎ IsPutInAt other place xs (spliced place 0 f xs)
put_in other place f xs by =
    elim (split place 0 f xs) as (λ s. (spliced place 0 f xs ≡ xs) ⊎ IsPutInAt other place xs (spliced place 0 f xs)) [
      | inl same ↦ inl same
      | inr s ↦ inr (one_put_in other place f xs (spliced place 0 f xs) s.front s.mid s.following by s.there s.long s.is s.becomes)
    ]

-- ---- two elements

two_exchanged : {A : Type 0} (place : ℕ) (f : List A → List A) (xs ys front mid following : List A) → ((d e : A) → f (d ∷ e ∷ []) ≡ e ∷ d ∷ []) → length front ≡ place → length mid ≡ 2
    → xs ≡ front ++ (mid ++ following) → ys ≡ front ++ (f mid ++ following) → AreExchangedAt place xs ys
two_exchanged place f xs ys front [] following by there long is becomes = absurd (omega (arith, long))
two_exchanged place f xs ys front (d ∷ []) following by there long is becomes = absurd (omega (arith, long))
two_exchanged {A} place f xs ys front (d ∷ e ∷ []) following by there long is becomes =
    record { front = front; first = d; second = e; following = following; there = there; is = is; becomes = becomes ∙ ap (λ (zs : List A). front ++ (zs ++ following)) (by d e) }
two_exchanged place f xs ys front (d ∷ e ∷ c ∷ mid) following by there long is becomes = absurd (omega (arith, long))

pub exchanged : {A : Type 0} (place : ℕ) (f : List A → List A) (xs : List A) → ((d e : A) → f (d ∷ e ∷ []) ≡ e ∷ d ∷ [])
    → (spliced place 2 f xs ≡ xs) ⊎ AreExchangedAt place xs (spliced place 2 f xs)
exchanged place f xs by =
    elim (split place 2 f xs) as (λ s. (spliced place 2 f xs ≡ xs) ⊎ AreExchangedAt place xs (spliced place 2 f xs)) [
      | inl same ↦ inl same
      | inr s ↦ inr (two_exchanged place f xs (spliced place 2 f xs) s.front s.mid s.following by s.there s.long s.is s.becomes)
    ]

three_exchanged : {A : Type 0} (place : ℕ) (f : List A → List A) (xs ys front mid following : List A) → ((c d e : A) → f (c ∷ d ∷ e ∷ []) ≡ e ∷ d ∷ c ∷ []) → length front ≡ place → length mid ≡ 3
    → xs ≡ front ++ (mid ++ following) → ys ≡ front ++ (f mid ++ following) → AreExchangedOver place xs ys
three_exchanged place f xs ys front [] following by there long is becomes = absurd (omega (arith, long))
three_exchanged place f xs ys front (c ∷ []) following by there long is becomes = absurd (omega (arith, long))
three_exchanged place f xs ys front (c ∷ d ∷ []) following by there long is becomes = absurd (omega (arith, long))
three_exchanged {A} place f xs ys front (c ∷ d ∷ e ∷ []) following by there long is becomes =
    record { front = front; first = c; middle = d; last = e; following = following; there = there; is = is; becomes = becomes ∙ ap (λ (zs : List A). front ++ (zs ++ following)) (by c d e) }
three_exchanged place f xs ys front (c ∷ d ∷ e ∷ b ∷ mid) following by there long is becomes = absurd (omega (arith, long))

pub exchanged_over : {A : Type 0} (place : ℕ) (f : List A → List A) (xs : List A) → ((c d e : A) → f (c ∷ d ∷ e ∷ []) ≡ e ∷ d ∷ c ∷ [])
    → (spliced place 3 f xs ≡ xs) ⊎ AreExchangedOver place xs (spliced place 3 f xs)
exchanged_over place f xs by =
    elim (split place 3 f xs) as (λ s. (spliced place 3 f xs ≡ xs) ⊎ AreExchangedOver place xs (spliced place 3 f xs)) [
      | inl same ↦ inl same
      | inr s ↦ inr (three_exchanged place f xs (spliced place 3 f xs) s.front s.mid s.following by s.there s.long s.is s.becomes)
    ]
