-- The first `n` of some elements, kept as the elements come.
use Rattle.std.proofs.Common.{◌≡◌, ℕ, zero, suc, ◌+◌, ◌≤◌, Bool, true, false, List, [], ◌∷◌, ◌++◌, length, take, Contains, refl, sym, ap, subst, ◌∙◌, arith, length-append, length-take, length-take-le, ◌⊎◌, inl, inr, ⊎_elim, if◌then◌else◌}
use Rattle.std.proofs.lemmas.List.Elements.{Contains-append_left, Contains-push, Contains-push_cases}
use Rattle.ref_play.proofs.RangeLaws.{Contains-cases, Contains-here, Contains-there}
use Rattle.gen_sinks.specs.Ranks.{put_in, add_top, InOrder, AreFirst}

none : {A : Type 0} (z : A) → Contains [] z → ⊥
none z h = let lt = h.1 in absurd (omega arith)

-- elements of the front are elements
pub front_in : {A : Type 0} (n : ℕ) (xs : List A) (z : A) → Contains (take n xs) z → Contains xs z
front_in zero xs z h = absurd (none z h)
front_in (suc n) [] z h = absurd (none z h)
front_in (suc n) (x ∷ xs) z h =
    ⊎_elim
    (λ (e : x ≡ z). subst (λ (w : _). Contains (x ∷ xs) w) e (Contains-here x xs))
    (λ (rest : Contains (take n xs) z). Contains-there x xs z (front_in n xs z rest))
    (Contains-cases x (take n xs) z h)

module _ {A : Type 0} (before : A → A → Bool) where
  -- what is in a list with one more element
  put_cases : (x : A) (ys : List A) (z : A) → Contains (put_in before x ys) z → (x ≡ z) ⊎ Contains ys z
  put_cases x [] z h = Contains-cases x [] z h
  put_cases x (y ∷ ys) z h = by (before x y) h (put_cases x ys z) where
    by : (b : Bool) → Contains (if b then x ∷ y ∷ ys else y ∷ put_in before x ys) z → (Contains (put_in before x ys) z → (x ≡ z) ⊎ Contains ys z) → (x ≡ z) ⊎ Contains (y ∷ ys) z
    by true h more = Contains-cases x (y ∷ ys) z h
    by false h more =
        ⊎_elim
        (λ (e : y ≡ z). inr (subst (λ (w : A). Contains (y ∷ ys) w) e (Contains-here y ys)))
        (λ (rest : Contains (put_in before x ys) z).
        ⊎_elim (λ (e : x ≡ z). inl e) (λ (r : Contains ys z). inr (Contains-there y ys z r)) (more rest))
        (Contains-cases y (put_in before x ys) z h)

  put_new : (x : A) (ys : List A) → Contains (put_in before x ys) x
  put_new x [] = Contains-here x []
  put_new x (y ∷ ys) = by (before x y) (put_new x ys) where
    by : (b : Bool) → Contains (put_in before x ys) x → Contains (if b then x ∷ y ∷ ys else y ∷ put_in before x ys) x
    by true more = Contains-here x (y ∷ ys)
    by false more = Contains-there y (put_in before x ys) x more

  put_old : (x : A) (ys : List A) (z : A) → Contains ys z → Contains (put_in before x ys) z
  put_old x [] z h = absurd (none z h)
  put_old x (y ∷ ys) z h = by (before x y) (put_old x ys z) where
    by : (b : Bool) → (Contains ys z → Contains (put_in before x ys) z) → Contains (if b then x ∷ y ∷ ys else y ∷ put_in before x ys) z
    by true more = Contains-there x (y ∷ ys) z h
    by false more =
        ⊎_elim
        (λ (e : y ≡ z). subst (λ (w : A). Contains (y ∷ put_in before x ys) w) e (Contains-here y (put_in before x ys)))
        (λ (rest : Contains ys z). Contains-there y (put_in before x ys) z (more rest))
        (Contains-cases y ys z h)

  put_length : (x : A) (ys : List A) → length (put_in before x ys) ≡ length ys + 1
  put_length x [] = refl
  put_length x (y ∷ ys) = by (before x y) (put_length x ys) where
    by : (b : Bool) → length (put_in before x ys) ≡ length ys + 1 → length (if b then x ∷ y ∷ ys else y ∷ put_in before x ys) ≡ suc (length ys) + 1
    by true more = omega arith
    by false more = omega arith

  -- the front of a list in order is in order
  front_ordered : (n : ℕ) (xs : List A) → InOrder before xs → InOrder before (take n xs)
  front_ordered zero xs h = tt
  front_ordered (suc n) [] h = tt
  front_ordered (suc n) (x ∷ xs) h = (λ y c. h.0 y (front_in n xs y c), front_ordered n xs h.1)

  -- each element of a list in order is in the front, or comes after all of a full front
  front_or_after : (n : ℕ) (xs : List A) (z : A) → InOrder before xs → Contains xs z
      → Contains (take n xs) z ⊎ ((length (take n xs) ≡ n) × ((k : A) → Contains (take n xs) k → before k z ≡ true))
  front_or_after zero xs z o h = inr (refl, λ k c. absurd (none k c))
  front_or_after (suc n) [] z o h = absurd (none z h)
  front_or_after (suc n) (x ∷ xs) z o h =
      ⊎_elim
      (λ (e : x ≡ z). inl (subst (λ (w : A). Contains (x ∷ take n xs) w) e (Contains-here x (take n xs))))
      (λ (rest : Contains xs z).
      ⊎_elim
      (λ (c : Contains (take n xs) z). inl (Contains-there x (take n xs) z c))
      (λ (full : (length (take n xs) ≡ n) × ((k : A) → Contains (take n xs) k → before k z ≡ true)).
      inr (
        ap suc full.0,
        λ k c. ⊎_elim (λ (e : x ≡ k). subst (λ (w : A). before w z ≡ true) e (o.0 z rest)) (λ (r : Contains (take n xs) k). full.1 k r) (Contains-cases x (take n xs) k c),
      ))
      (front_or_after n xs z o.1 rest))
      (Contains-cases x xs z h)

  -- in a full front with one more element, it is an old one, or some old one comes after it
  pushes_out : (x : A) (ys : List A) (k : A) → Contains (take (length ys) (put_in before x ys)) k → Contains ys k ⊎ ((x ≡ k) × (y : A) × Contains ys y × (before x y ≡ true))
  pushes_out x [] k h = absurd (none k h)
  pushes_out x (y ∷ ys) k h = by (before x y) refl (pushes_out x ys k) h where
    by : (b : Bool) → before x y ≡ b → (Contains (take (length ys) (put_in before x ys)) k → Contains ys k ⊎ ((x ≡ k) × (z : A) × Contains ys z × (before x z ≡ true)))
        → Contains (take (suc (length ys)) (if b then x ∷ y ∷ ys else y ∷ put_in before x ys)) k
        → Contains (y ∷ ys) k ⊎ ((x ≡ k) × (z : A) × Contains (y ∷ ys) z × (before x z ≡ true))
    by true first more h =
        ⊎_elim
        (λ (e : x ≡ k). inr (e, y, Contains-here y ys, first))
        (λ (rest : Contains (take (length ys) (y ∷ ys)) k). inl (front_in (length ys) (y ∷ ys) k rest))
        (Contains-cases x (take (length ys) (y ∷ ys)) k h)
    by false last more h =
        ⊎_elim
        (λ (e : y ≡ k). inl (subst (λ (w : A). Contains (y ∷ ys) w) e (Contains-here y ys)))
        (λ (rest : Contains (take (length ys) (put_in before x ys)) k).
        ⊎_elim
        (λ (old : Contains ys k). inl (Contains-there y ys k old))
        (λ (new : (x ≡ k) × (z : A) × Contains ys z × (before x z ≡ true)). inr (new.0, new.1, Contains-there y ys new.1 new.2, new.3))
        (more rest))
        (Contains-cases y (take (length ys) (put_in before x ys)) k h)

  module _ (trans : (a b c : A) → before a b ≡ true → before b c ≡ true → before a c ≡ true) where
    put_ordered : (x : A) (ys : List A) → ((y : A) → Contains ys y → (before x y ≡ true) ⊎ (before y x ≡ true)) → InOrder before ys → InOrder before (put_in before x ys)
    put_ordered x [] total o = (λ y c. absurd (none y c), tt)
    put_ordered x (y ∷ ys) total o = by (before x y) refl (put_ordered x ys (λ z c. total z (Contains-there y ys z c)) o.1) where
      by : (b : Bool) → before x y ≡ b → InOrder before (put_in before x ys) → InOrder before (if b then x ∷ y ∷ ys else y ∷ put_in before x ys)
      by true first more =
          (λ z c. ⊎_elim (λ (e : y ≡ z). subst (λ (w : A). before x w ≡ true) e first) (λ (r : Contains ys z). trans x y z first (o.0 z r)) (Contains-cases y ys z c), o)
      by false last more =
          let after : before y x ≡ true = ⊎_elim (λ (e : before x y ≡ true). absurd (let h = sym last ∙ e in cc)) (λ (e : before y x ≡ true). e) (total y (Contains-here y ys)) in
          (λ z c. ⊎_elim (λ (e : x ≡ z). subst (λ (w : A). before y w ≡ true) e after) (λ (r : Contains ys z). o.0 z r) (put_cases x ys z c), more)

    -- all of a full front with one more element come before what all old ones come before
    still_after : (n : ℕ) (x : A) (kept : List A) (z : A) → length kept ≡ n → ((k : A) → Contains kept k → before k z ≡ true)
        → (k : A) → Contains (take n (put_in before x kept)) k → before k z ≡ true
    still_after n x kept z full following k h =
        let found : Contains (take (length kept) (put_in before x kept)) k = subst (λ (m : ℕ). Contains (take m (put_in before x kept)) k) (sym full) h in
        ⊎_elim
        (λ (old : Contains kept k). following k old)
        (λ (new : (x ≡ k) × (y : A) × Contains kept y × (before x y ≡ true)).
        subst (λ (w : A). before w z ≡ true) new.0 (trans x new.1 z new.3 (following new.1 new.2)))
        (pushes_out x kept k found)

    -- ---- one more element
    pub first_more : (n : ℕ) (all kept : List A) (x : A) → ((y : A) → Contains kept y → (before x y ≡ true) ⊎ (before y x ≡ true)) → AreFirst n before all kept
        → AreFirst n before (all ++ x ∷ []) (add_top n before kept x)
    first_more n all kept x total first =
        let put = put_in before x kept in
        let ordered = put_ordered x kept total first.ordered in
        record {
          ordered = front_ordered n put ordered;
          few = let long = length-take n put in omega arith;
          some = λ z c. ⊎_elim
              (λ (e : x ≡ z). subst (λ (w : A). Contains (all ++ x ∷ []) w) e (Contains-push all x))
              (λ (old : Contains kept z). Contains-append_left all (x ∷ []) z (first.some z old))
              (put_cases x kept z (front_in n put z c));
          others = λ z c. ⊎_elim
              (λ (there : Contains all z).
              ⊎_elim
              (λ (old : Contains kept z). front_or_after n put z ordered (put_old x kept z old))
              (λ (full : (length kept ≡ n) × ((k : A) → Contains kept k → before k z ≡ true)).
              inr (length-take-le n put (let long = put_length x kept in let few = full.0 in omega arith), still_after n x kept z full.0 full.1))
              (first.others z there))
              (λ (e : x ≡ z). front_or_after n put z ordered (subst (λ (w : A). Contains put w) e (put_new x kept)))
              (Contains-push_cases all x z c);
        }

  -- the first of the first are the first
  pub first_of_first : (many n : ℕ) (all kept : List A) → n ≤ many → AreFirst many before all kept → AreFirst n before all (take n kept)
  first_of_first many n all kept few first =
      record {
        ordered = front_ordered n kept first.ordered;
        few = let long = length-take n kept in omega arith;
        some = λ z c. first.some z (front_in n kept z c);
        others = λ z c.
            ⊎_elim
            (λ (has : Contains kept z). front_or_after n kept z first.ordered has)
            (λ (full : (length kept ≡ many) × ((k : A) → Contains kept k → before k z ≡ true)).
            inr (let long = full.0 in length-take-le n kept (omega arith), λ k front. full.1 k (front_in n kept k front)))
            (first.others z c);
      }

  pub first_none : (n : ℕ) → AreFirst n before [] []
  first_none n = record { ordered = tt; few = omega arith; some = λ z c. absurd (none z c); others = λ z c. absurd (none z c) }

  -- ---- what is kept does not depend on the order in which it came
  module _ (never : (a : A) → before a a ≡ true → ⊥) (trans : (a b c : A) → before a b ≡ true → before b c ≡ true → before a c ≡ true) where
    -- no two come before each other
    not_both : (a b : A) → before a b ≡ true → before b a ≡ true → ⊥
    not_both a b p q = never a (trans a b a p q)

    -- what is in a list after its first element, if it comes after some element of the list
    after_first : (x y : A) (ys : List A) → InOrder before (y ∷ ys) → Contains (y ∷ ys) x → (z : A) → before x z ≡ true → Contains (y ∷ ys) z → Contains ys z
    after_first x y ys o there z after h =
        ⊎_elim
        (λ (e : y ≡ z).
        let first : before x y ≡ true = subst (λ (w : A). before x w ≡ true) (sym e) after in
        ⊎_elim
        (λ (s : y ≡ x). absurd (never x (subst (λ (w : A). before x w ≡ true) s first)))
        (λ (r : Contains ys x). absurd (not_both x y first (o.0 x r)))
        (Contains-cases y ys x there))
        (λ (r : Contains ys z). r)
        (Contains-cases y ys z h)

    -- a list in order whose elements are all in another list in order is no longer than that
    no_longer : (xs ys : List A) → InOrder before xs → InOrder before ys → ((z : A) → Contains xs z → Contains ys z) → length xs ≤ length ys
    no_longer [] ys o p h = omega arith
    no_longer (x ∷ xs) [] o p h = absurd (none x (h x (Contains-here x xs)))
    no_longer (x ∷ xs) (y ∷ ys) o p h =
        let rest = no_longer xs ys o.1 p.1 (λ z c. after_first x y ys p (h x (Contains-here x xs)) z (o.0 z c) (h z (Contains-there x xs z c))) in
        omega arith

    -- two lists in order with the same elements are equal
    one_list : (xs ys : List A) → InOrder before xs → InOrder before ys → ((z : A) → Contains xs z → Contains ys z) → ((z : A) → Contains ys z → Contains xs z) → xs ≡ ys
    one_list [] [] o p h g = refl
    one_list [] (y ∷ ys) o p h g = absurd (none y (g y (Contains-here y ys)))
    one_list (x ∷ xs) [] o p h g = absurd (none x (h x (Contains-here x xs)))
    one_list (x ∷ xs) (y ∷ ys) o p h g =
        let same : x ≡ y =
        ⊎_elim
        (λ (e : y ≡ x). sym e)
        (λ (r : Contains ys x).
        ⊎_elim (λ (e : x ≡ y). e) (λ (s : Contains xs y). absurd (not_both x y (o.0 y s) (p.0 x r))) (Contains-cases x xs y (g y (Contains-here y ys))))
        (Contains-cases y ys x (h x (Contains-here x xs))) in
        let rest : xs ≡ ys =
        one_list xs ys o.1 p.1
        (λ z c. after_first x y ys p (h x (Contains-here x xs)) z (o.0 z c) (h z (Contains-there x xs z c)))
        (λ z c. after_first y x xs o (g y (Contains-here y ys)) z (p.0 z c) (g z (Contains-there y ys z c))) in
        λ i. same i ∷ rest i

    -- a list with one more element, after all of it, is in order
    push_ordered : (xs : List A) (x : A) → InOrder before xs → ((k : A) → Contains xs k → before k x ≡ true) → InOrder before (xs ++ x ∷ [])
    push_ordered [] x o h = (λ y c. absurd (none y c), tt)
    push_ordered (k ∷ xs) x o h = (
      λ y c. ⊎_elim (λ (r : Contains xs y). o.0 y r) (λ (e : x ≡ y). subst (λ (w : A). before k w ≡ true) e (h k (Contains-here k xs))) (Contains-push_cases xs x y c),
      push_ordered xs x o.1 (λ z c. h z (Contains-there k xs z c)),
    )

    -- each of the first `n` of some elements is among the first `n` of the same elements
    held_too : (n : ℕ) (all more kept held : List A) → ((z : A) → Contains all z → Contains more z) → ((z : A) → Contains more z → Contains all z)
        → AreFirst n before all kept → AreFirst n before more held → (z : A) → Contains kept z → Contains held z
    held_too n all more kept held to from first other z c =
        ⊎_elim
        (λ (there : Contains held z). there)
        (λ (full : (length held ≡ n) × ((k : A) → Contains held k → before k z ≡ true)).
        let kept_too : (k : A) → Contains held k → Contains kept k = λ k h.
        ⊎_elim
        (λ (there : Contains kept k). there)
        (λ (following : (length kept ≡ n) × ((j : A) → Contains kept j → before j k ≡ true)). absurd (not_both z k (following.1 z c) (full.1 k h)))
        (first.others k (from k (other.some k h))) in
        let long = length-append held (z ∷ []) in
        let few = first.few in
        let size = full.0 in
        let short = no_longer (held ++ z ∷ []) kept (push_ordered held z other.ordered full.1) first.ordered
        (λ k h. ⊎_elim (λ (r : Contains held k). kept_too k r) (λ (e : z ≡ k). subst (λ (w : A). Contains kept w) e c) (Contains-push_cases held z k h)) in
        absurd (omega arith))
        (other.others z (to z (first.some z c)))

    pub first_unique : (n : ℕ) (all more kept held : List A) → ((z : A) → Contains all z → Contains more z) → ((z : A) → Contains more z → Contains all z)
        → AreFirst n before all kept → AreFirst n before more held → kept ≡ held
    first_unique n all more kept held to from first other =
        one_list kept held first.ordered other.ordered (held_too n all more kept held to from first other) (held_too n more all held kept from to other first)
