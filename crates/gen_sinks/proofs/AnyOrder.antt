-- Elements added one after another to a list that keeps the first `n`: in whatever order they come, and whatever was kept before,
-- the same are left.
use Rattle.std.proofs.Common.{◌≡◌, ◌≢◌, ℕ, zero, suc, Bool, true, false, List, [], ◌∷◌, ◌++◌, take, refl, sym, ap, ◌∙◌, subst, arith, ◌⊎◌, ⊎_elim}
use Rattle.std.specs.Prelude.{fold, Contains}
use Rattle.std.specs.List.{AllPairs}
use Rattle.std.proofs.lemmas.Bool.{cases_Bool, false≢true}
use Rattle.std.proofs.lemmas.List.Elements.{Contains-append_left, Contains-append_right, Contains-append_cases}
use Rattle.ref_play.proofs.RangeLaws.{Contains-cases, Contains-here, Contains-there}
use Rattle.gen_sinks.specs.Ranks.{put_in, add_top}

-- ---- the first elements of a list
take_less : {A : Type 0} (n : ℕ) (zs : List A) → take n (take (suc n) zs) ≡ take n zs
take_less zero zs = refl
take_less (suc n) [] = refl
take_less (suc n) (z ∷ zs) = ap (λ ys. z ∷ ys) (take_less n zs)

take_after : {A : Type 0} (n : ℕ) (z : A) (zs : List A) → take n (z ∷ take n zs) ≡ take n (z ∷ zs)
take_after zero z zs = refl
take_after (suc n) z zs = ap (λ ys. z ∷ ys) (take_less n zs)

-- ---- two elements, one of which comes before the other
module _ {A : Type 0} (before : A → A → Bool) where
  put_before : (x k : A) (ks : List A) → before x k ≡ true → put_in before x (k ∷ ks) ≡ x ∷ k ∷ ks
  put_before x k ks e = rw e refl

  put_after : (x k : A) (ks : List A) → before x k ≡ false → put_in before x (k ∷ ks) ≡ k ∷ put_in before x ks
  put_after x k ks e = rw e refl

  -- what is beyond the first `n` does not matter for them
  put_front : (n : ℕ) (x : A) (zs : List A) → take n (put_in before x (take n zs)) ≡ take n (put_in before x zs)
  put_front zero x zs = refl
  put_front (suc n) x [] = refl
  put_front (suc n) x (z ∷ zs) =
      ⊎_elim
      (λ (e : before x z ≡ true).
      ap (take (suc n)) (put_before x z (take n zs) e) ∙ ap (λ ys. x ∷ ys) (take_after n z zs) ∙ sym (ap (take (suc n)) (put_before x z zs e)))
      (λ (e : before x z ≡ false).
      ap (take (suc n)) (put_after x z (take n zs) e) ∙ ap (λ ys. z ∷ ys) (put_front n x zs) ∙ sym (ap (take (suc n)) (put_after x z zs e)))
      (cases_Bool (before x z))

module _ {A : Type 0} (before : A → A → Bool) (trans : (a b c : A) → before a b ≡ true → before b c ≡ true → before a c ≡ true) (never : (a : A) → before a a ≡ true → ⊥) where
  not_back : (x y : A) → before x y ≡ true → before y x ≡ false
  not_back x y e =
      ⊎_elim (λ (back : before y x ≡ true). absurd (never x (trans x y x e back))) (λ (no : before y x ≡ false). no) (cases_Bool (before y x))

  put_swap : (x y : A) → before x y ≡ true → (ks : List A) → put_in before y (put_in before x ks) ≡ put_in before x (put_in before y ks)
  put_swap x y e [] = put_after before y x [] (not_back x y e) ∙ sym (put_before before x y [] e)
  put_swap x y e (k ∷ ks) =
      ⊎_elim
      (λ (a : before x k ≡ true).
      ⊎_elim
      (λ (b : before y k ≡ true).
      ap (put_in before y) (put_before before x k ks a) ∙ put_after before y x (k ∷ ks) (not_back x y e) ∙ ap (λ zs. x ∷ zs) (put_before before y k ks b)
      ∙ sym (ap (put_in before x) (put_before before y k ks b) ∙ put_before before x y (k ∷ ks) e))
      (λ (b : before y k ≡ false).
      ap (put_in before y) (put_before before x k ks a) ∙ put_after before y x (k ∷ ks) (not_back x y e) ∙ ap (λ zs. x ∷ zs) (put_after before y k ks b)
      ∙ sym (ap (put_in before x) (put_after before y k ks b) ∙ put_before before x k (put_in before y ks) a))
      (cases_Bool (before y k)))
      (λ (a : before x k ≡ false).
      ⊎_elim
      (λ (b : before y k ≡ true). absurd (false≢true (sym a ∙ trans x y k e b)))
      (λ (b : before y k ≡ false).
      ap (put_in before y) (put_after before x k ks a) ∙ put_after before y k (put_in before x ks) b ∙ ap (λ zs. k ∷ zs) (put_swap x y e ks)
      ∙ sym (ap (put_in before x) (put_after before y k ks b) ∙ put_after before x k (put_in before y ks) a))
      (cases_Bool (before y k)))
      (cases_Bool (before x k))

  -- they may be added in either order
  pub add_swap : (n : ℕ) (kept : List A) (x y : A) → (before x y ≡ true) ⊎ (before y x ≡ true)
      → add_top n before (add_top n before kept x) y ≡ add_top n before (add_top n before kept y) x
  add_swap n kept x y either =
      put_front before n y (put_in before x kept)
      ∙ ap (take n) (⊎_elim (λ (e : before x y ≡ true). put_swap x y e kept) (λ (e : before y x ≡ true). sym (put_swap y x e kept)) either)
      ∙ sym (put_front before n x (put_in before y kept))

-- ---- lists with the same elements, each once
abbrev pub Apart : {A : Type 0} → List A → Type 0
Apart [] = Unit {0}
Apart (x ∷ xs) = ((y : _) → Contains xs y → x ≢ y) × Apart xs

pub apart : {A : Type 0} (xs : List A) → AllPairs (λ a b. a ≢ b) xs → Apart xs
apart [] once = tt
apart (x ∷ xs) once = (
  λ y c same. let lt = c.1 in once 0 (suc c.0) y (omega arith) (omega arith) (same ∙ sym c.2),
  apart xs (λ i j d less below. once (suc i) (suc j) d (omega arith) (omega arith)),
)

wider : {A : Type 0} (us vs : List A) (x y : A) → Contains (us ++ vs) y → Contains (us ++ x ∷ vs) y
wider us vs x y c =
    ⊎_elim
    (λ (l : Contains us y). Contains-append_left us (x ∷ vs) y l)
    (λ (r : Contains vs y). Contains-append_right us (x ∷ vs) y (Contains-there x vs y r))
    (Contains-append_cases us vs y c)

narrower : {A : Type 0} (us vs : List A) (x y : A) → Contains (us ++ x ∷ vs) y → x ≢ y → Contains (us ++ vs) y
narrower us vs x y c differ =
    ⊎_elim
    (λ (l : Contains us y). Contains-append_left us vs y l)
    (λ (r : Contains (x ∷ vs) y).
    ⊎_elim (λ (e : x ≡ y). absurd (differ e)) (λ (d : Contains vs y). Contains-append_right us vs y d) (Contains-cases x vs y r))
    (Contains-append_cases us (x ∷ vs) y c)

apart_from : {A : Type 0} (us vs : List A) (x : A) → Apart (us ++ x ∷ vs) → (y : A) → Contains (us ++ vs) y → x ≢ y
apart_from [] vs x a y c same = a.0 y c same
apart_from (u ∷ us) vs x a y c same =
    ⊎_elim
    (λ (e : u ≡ y). a.0 x (Contains-append_right us (x ∷ vs) x (Contains-here x vs)) (e ∙ sym same))
    (λ (d : Contains (us ++ vs) y). apart_from us vs x a.1 y d same)
    (Contains-cases u (us ++ vs) y c)

apart_without : {A : Type 0} (us vs : List A) (x : A) → Apart (us ++ x ∷ vs) → Apart (us ++ vs)
apart_without [] vs x a = a.1
apart_without (u ∷ us) vs x a = (λ y c. a.0 y (wider us vs x y c), apart_without us vs x a.1)

no_element : {A : Type 0} (x : A) → Contains [] x → ⊥
no_element x c = let lt = c.1 in omega arith

-- what is before an element and what is after it
split : {A : Type 0} (ys : List A) (x : A) → Contains ys x → (us : List A) × (vs : List A) × (ys ≡ us ++ x ∷ vs)
split [] x c = absurd (no_element x c)
split (y ∷ ys) x c =
    ⊎_elim
    (λ (e : y ≡ x). ([], ys, ap (λ z. z ∷ ys) e))
    (λ (d : Contains ys x). let s = split ys x d in (y ∷ s.0, s.1, ap (λ zs. y ∷ zs) s.2))
    (Contains-cases y ys x c)

-- ---- added one after another, if each two that differ may be added in either order
module _ {A B : Type 0} (f : B → A → B) (P : A → Type 0) (swaps : (b : B) (x y : A) → P x → P y → x ≢ y → f (f b x) y ≡ f (f b y) x) where
  to_front : (us vs : List A) (x : A) (b : B) → P x → ((u : A) → Contains us u → P u × (u ≢ x)) → fold f b (us ++ x ∷ vs) ≡ fold f (f b x) (us ++ vs)
  to_front [] vs x b is others = refl
  to_front (u ∷ us) vs x b is others =
      let here = others u (Contains-here u us) in
      to_front us vs x (f b u) is (λ w c. others w (Contains-there u us w c)) ∙ ap (λ z. fold f z (us ++ vs)) (swaps b u x here.0 is here.1)

  pub same_fold : (xs ys : List A) → Apart xs → Apart ys → ((z : A) → Contains xs z → P z) → ((z : A) → Contains xs z → Contains ys z)
      → ((z : A) → Contains ys z → Contains xs z) → (b : B) → fold f b xs ≡ fold f b ys
  same_fold [] [] once again are into back b = refl
  same_fold [] (y ∷ ys) once again are into back b = absurd (no_element y (back y (Contains-here y ys)))
  same_fold (x ∷ xs) ys once again are into back b =
      let s = split ys x (into x (Contains-here x xs)) in
      let us : List A = s.0 in
      let vs : List A = s.1 in
      let apart_here : Apart (us ++ x ∷ vs) = subst (λ (l : List A). Apart l) s.2 again in
      let differs : (z : A) → Contains (us ++ vs) z → x ≢ z = λ z c. apart_from us vs x apart_here z c in
      let inside : (z : A) → Contains (us ++ vs) z → Contains xs z = λ z c.
      ⊎_elim
      (λ (e : x ≡ z). absurd (differs z c e))
      (λ (d : Contains xs z). d)
      (Contains-cases x xs z (back z (subst (λ (l : List A). Contains l z) (sym s.2) (wider us vs x z c)))) in
      let outside : (z : A) → Contains xs z → Contains (us ++ vs) z = λ z c.
      narrower us vs x z (subst (λ (l : List A). Contains l z) s.2 (into z (Contains-there x xs z c))) (once.0 z c) in
      same_fold xs (us ++ vs) once.1 (apart_without us vs x apart_here) (λ z c. are z (Contains-there x xs z c)) outside inside (f b x)
      ∙ sym
      (ap (fold f b) s.2
      ∙ to_front us vs x b (are x (Contains-here x xs))
      (λ u c. let d = Contains-append_left us vs u c in (are u (Contains-there x xs u (inside u d)), λ e. differs u d (sym e))))
