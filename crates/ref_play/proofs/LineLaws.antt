-- The whole stretches of one line.
use Rattle.std.proofs.Common.{◌≡◌, ℕ, zero, suc, ◌+◌, ◌-◌, ◌<◌, ◌≤◌, Bool, true, false, not, ◌&&◌, ◌||◌, ◌==◌, nat_le, List, [], ◌∷◌, map, refl, sym, ap, ◌∙◌, arith, ◌⊎◌, ⊎_elim}
use Rattle.std.specs.Prelude.{filter}
use Rattle.std.specs.List.{flat_map, range_with_len, list_any, list_all}
use Rattle.std.proofs.lemmas.Bool.{cases_eq, cases_order, or_cases, and_parts, and_from, or_left, or_right, both_ways, leb-true, le-leb, eqb-true, eq-eqb, not-true, not_from_false, false_from_ne_true}
pub use Rattle.ref_board.proofs.LineLaws.{line_of-square_at, place_of-square_at, square_at-of, line_below, place_below, square_at_below, square_at_rises, same_square, place_rises}
use Rattle.ref_board.specs.Runs.{IsWhole}
use Rattle.ref_play.specs.Formed.{is_whole, is_formed, stretches_on}
use Rattle.ref_play.proofs.RangeLaws.{flat_map-only, flat_map-none, filter-only, filter-none}

-- what a test of all places, or of some place, of a stretch says
pub list_all_at : (p : ℕ → Bool) (a n k : ℕ) → list_all p (range_with_len a n) ≡ true → a ≤ k → k < a + n → p k ≡ true
list_all_at p a zero k e low high = absurd (omega arith)
list_all_at p a (suc n) k e low high =
    let parts = and_parts (p a) (list_all p (range_with_len (a + 1) n)) e in
    ⊎_elim
    (λ (s : a ≡ k). ap p (sym s) ∙ parts.0)
    (λ (ne : a ≡ k → ⊥). list_all_at p (a + 1) n k parts.1 (omega arith) (omega arith))
    (cases_eq a k)

pub list_all_from : (p : ℕ → Bool) (a n : ℕ) → ((k : ℕ) → a ≤ k → k < a + n → p k ≡ true) → list_all p (range_with_len a n) ≡ true
list_all_from p a zero h = refl
list_all_from p a (suc n) h =
    and_from (p a) (list_all p (range_with_len (a + 1) n)) (h a (omega arith) (omega arith))
    (list_all_from p (a + 1) n (λ k b c. h k (omega arith) (omega arith)))

pub list_any_at : (p : ℕ → Bool) (a n : ℕ) → list_any p (range_with_len a n) ≡ true → (k : ℕ) × (a ≤ k) × (k < a + n) × (p k ≡ true)
list_any_at p a zero e = cc
list_any_at p a (suc n) e =
    ⊎_elim
    (λ (s : p a ≡ true). (a, omega arith, omega arith, s))
    (λ (s : list_any p (range_with_len (a + 1) n) ≡ true).
    let found = list_any_at p (a + 1) n s in (found.0, omega arith, omega arith, found.3))
    (or_cases (p a) (list_any p (range_with_len (a + 1) n)) e)

pub list_any_from : (p : ℕ → Bool) (a n k : ℕ) → a ≤ k → k < a + n → p k ≡ true → list_any p (range_with_len a n) ≡ true
list_any_from p a zero k low high e = absurd (omega arith)
list_any_from p a (suc n) k low high e =
    ⊎_elim
    (λ (s : a ≡ k). or_left (p a) (list_any p (range_with_len (a + 1) n)) (ap p s ∙ e))
    (λ (ne : a ≡ k → ⊥). or_right (p a) (list_any p (range_with_len (a + 1) n)) (list_any_from p (a + 1) n k (omega arith) (omega arith) e))
    (cases_eq a k)

-- the test of a whole stretch and its meaning
pub IsWhole-from_is_whole : (occupied : ℕ → Bool) (first len : ℕ) → is_whole occupied first len ≡ true → IsWhole occupied first len
IsWhole-from_is_whole occupied first len e =
    let a = and_parts (nat_le (first + len) 15 && list_all occupied (range_with_len first len) && (first == 0 || not (occupied (first - 1)))) (first + len == 15 || not (occupied (first + len))) e in
    let b = and_parts (nat_le (first + len) 15 && list_all occupied (range_with_len first len)) (first == 0 || not (occupied (first - 1))) a.0 in
    let c = and_parts (nat_le (first + len) 15) (list_all occupied (range_with_len first len)) b.0 in
    record {
      inside = leb-true (first + len) 15 c.0;
      filled = λ place low high. list_all_at occupied first len place c.1 low high;
      before =
          λ h. ⊎_elim
          (λ (s : (first == 0) ≡ true). let z = eqb-true first 0 s in absurd (omega arith))
          (λ (s : not (occupied (first - 1)) ≡ true). not-true (occupied (first - 1)) s)
          (or_cases (first == 0) (not (occupied (first - 1))) b.1);
      after =
          λ h. ⊎_elim
          (λ (s : (first + len == 15) ≡ true). let z = eqb-true (first + len) 15 s in absurd (omega arith))
          (λ (s : not (occupied (first + len)) ≡ true). not-true (occupied (first + len)) s)
          (or_cases (first + len == 15) (not (occupied (first + len))) a.1);
    }

pub is_whole-from_IsWhole : (occupied : ℕ → Bool) (first len : ℕ) → IsWhole occupied first len → is_whole occupied first len ≡ true
is_whole-from_IsWhole occupied first len w =
    let within : nat_le (first + len) 15 ≡ true = le-leb (first + len) 15 w.inside in
    let full : list_all occupied (range_with_len first len) ≡ true = list_all_from occupied first len w.filled in
    let start : (first == 0 || not (occupied (first - 1))) ≡ true =
    ⊎_elim
    (λ (z : first ≡ 0). or_left (first == 0) (not (occupied (first - 1))) (eq-eqb first 0 z))
    (λ (ne : first ≡ 0 → ⊥). or_right (first == 0) (not (occupied (first - 1))) (not_from_false (occupied (first - 1)) (w.before (omega arith))))
    (cases_eq first 0) in
    let end : (first + len == 15 || not (occupied (first + len))) ≡ true =
    ⊎_elim
    (λ (z : first + len ≡ 15). or_left (first + len == 15) (not (occupied (first + len))) (eq-eqb (first + len) 15 z))
    (λ (ne : first + len ≡ 15 → ⊥).
    let bound = w.inside in
    or_right (first + len == 15) (not (occupied (first + len))) (not_from_false (occupied (first + len)) (w.after (omega arith))))
    (cases_eq (first + len) 15) in
    and_from _ _ (and_from _ _ (and_from _ _ within full) start) end

-- two whole stretches that share a place are equal
pub same_whole : (occupied : ℕ → Bool) (a m b n k : ℕ) → IsWhole occupied a m → IsWhole occupied b n
    → a ≤ k → k < a + m → b ≤ k → k < b + n → (a ≡ b) × (m ≡ n)
same_whole occupied a m b n k v w al ah bl bh =
    let starts : a ≡ b =
    ⊎_elim (λ (e : a ≡ b). e)
    (λ (o : (a < b) ⊎ (b < a)). ⊎_elim
    (λ (lt : a < b). absurd (both_ways (occupied (b - 1)) (w.before (omega arith)) (v.filled (b - 1) (omega arith) (omega arith))))
    (λ (lt : b < a). absurd (both_ways (occupied (a - 1)) (v.before (omega arith)) (w.filled (a - 1) (omega arith) (omega arith))))
    o)
    (cases_order a b) in
    let v_inside = v.inside in
    let w_inside = w.inside in
    let ends : a + m ≡ b + n =
    ⊎_elim (λ (e : a + m ≡ b + n). e)
    (λ (o : (a + m < b + n) ⊎ (b + n < a + m)). ⊎_elim
    (λ (lt : a + m < b + n). absurd (both_ways (occupied (a + m)) (v.after (omega arith)) (w.filled (a + m) (omega arith) (omega arith))))
    (λ (lt : b + n < a + m). absurd (both_ways (occupied (b + n)) (w.after (omega arith)) (v.filled (b + n) (omega arith) (omega arith))))
    o)
    (cases_order (a + m) (b + n)) in
    (starts, omega arith)

-- the stretches that a placement forms, with the given numbers of first places and of lengths
unfoldable pub stretches_within : (ℕ → Bool) → (ℕ → Bool) → ℕ → ℕ → List (ℕ × ℕ)
stretches_within occupied fresh n m =
    flat_map (λ first. map (λ len. (first, len)) (filter (is_formed occupied fresh first) (range_with_len 2 m))) (range_with_len 0 n)

pub stretches_on-is : (occupied fresh : ℕ → Bool) → stretches_on occupied fresh ≡ stretches_within occupied fresh 15 14
unfolding stretches_on stretches_within
stretches_on-is occupied fresh = refl

stretches_within-none : (occupied fresh : ℕ → Bool) (n m : ℕ)
    → ((k l : ℕ) → k < n → 2 ≤ l → l < 2 + m → is_formed occupied fresh k l ≡ false) → stretches_within occupied fresh n m ≡ []
unfolding stretches_within
stretches_within-none occupied fresh n m h =
    flat_map-none (λ first. map (λ len. (first, len)) (filter (is_formed occupied fresh first) (range_with_len 2 m))) 0 n
    (λ k b c. ap (map (λ (len : ℕ). (k, len))) (filter-none (is_formed occupied fresh k) 2 m (λ l low high. h k l (omega arith) low high)))

stretches_within-only : (occupied fresh : ℕ → Bool) (n m first len : ℕ) → first < n → 2 ≤ len → len < 2 + m → is_formed occupied fresh first len ≡ true
    → ((k l : ℕ) → is_formed occupied fresh k l ≡ true → (k ≡ first) × (l ≡ len)) → stretches_within occupied fresh n m ≡ (first, len) ∷ []
unfolding stretches_within
stretches_within-only occupied fresh n m first len fn low high e only =
    let f : ℕ → List (ℕ × ℕ) = λ k. map (λ l. (k, l)) (filter (is_formed occupied fresh k) (range_with_len 2 m)) in
    flat_map-only f 0 n first (omega arith) (omega arith)
    (λ k b c ne. ap (map (λ (l : ℕ). (k, l))) (filter-none (is_formed occupied fresh k) 2 m
    (λ l x y. false_from_ne_true (is_formed occupied fresh k l) (λ t. ne ((only k l t).0)))))
    ∙ ap (map (λ (l : ℕ). (first, l))) (filter-only (is_formed occupied fresh first) 2 m len low high e
    (λ l x y ne. false_from_ne_true (is_formed occupied fresh first l) (λ t. ne ((only first l t).1))))

-- what a stretch that a placement forms is
pub is_formed-parts : (occupied fresh : ℕ → Bool) (first len : ℕ) → is_formed occupied fresh first len ≡ true
    → IsWhole occupied first len × ((k : ℕ) × (first ≤ k) × (k < first + len) × (fresh k ≡ true))
is_formed-parts occupied fresh first len e =
    let parts = and_parts (is_whole occupied first len) (list_any fresh (range_with_len first len)) e in
    (IsWhole-from_is_whole occupied first len parts.0, list_any_at fresh first len parts.1)

pub is_formed-from : (occupied fresh : ℕ → Bool) (first len k : ℕ) → IsWhole occupied first len → first ≤ k → k < first + len → fresh k ≡ true
    → is_formed occupied fresh first len ≡ true
is_formed-from occupied fresh first len k w low high e =
    and_from (is_whole occupied first len) (list_any fresh (range_with_len first len)) (is_whole-from_IsWhole occupied first len w)
    (list_any_from fresh first len k low high e)

-- a line on which no place is new
pub stretches_on-none : (occupied fresh : ℕ → Bool) → ((k : ℕ) → k < 15 → fresh k ≡ false) → stretches_on occupied fresh ≡ []
stretches_on-none occupied fresh h =
    stretches_on-is occupied fresh
    ∙ stretches_within-none occupied fresh 15 14
    (λ k l a b c. false_from_ne_true (is_formed occupied fresh k l)
    (λ t. let parts = is_formed-parts occupied fresh k l t in
    let inside = parts.0.inside in
    both_ways (fresh parts.1.0) (h parts.1.0 (omega arith)) parts.1.3))

-- a line whose new places all lie in one tile without neighbours, or in an empty stretch
pub stretches_on-short : (occupied fresh : ℕ → Bool) (first len : ℕ) → IsWhole occupied first len → len < 2
    → ((k : ℕ) → k < 15 → fresh k ≡ true → (first ≤ k) × (k < first + len)) → stretches_on occupied fresh ≡ []
stretches_on-short occupied fresh first len w short h =
    stretches_on-is occupied fresh
    ∙ stretches_within-none occupied fresh 15 14
    (λ k l a b c. false_from_ne_true (is_formed occupied fresh k l)
    (λ t. let parts = is_formed-parts occupied fresh k l t in
    let inside = parts.0.inside in
    let place = parts.1.0 in
    let at = h place (omega arith) parts.1.3 in
    let same = same_whole occupied k l first len place parts.0 w parts.1.1 parts.1.2 at.0 at.1 in
    let e : l ≡ len = same.1 in
    omega arith))

-- a line whose new places all lie in one whole stretch
pub stretches_on-one : (occupied fresh : ℕ → Bool) (first len new : ℕ) → IsWhole occupied first len → 2 ≤ len
    → first ≤ new → new < first + len → fresh new ≡ true
    → ((k : ℕ) → k < 15 → fresh k ≡ true → (first ≤ k) × (k < first + len)) → stretches_on occupied fresh ≡ (first, len) ∷ []
stretches_on-one occupied fresh first len new w long low high e h =
    let inside = w.inside in
    stretches_on-is occupied fresh
    ∙ stretches_within-only occupied fresh 15 14 first len (omega arith) long (omega arith) (is_formed-from occupied fresh first len new w low high e)
    (λ k l t.
    let parts = is_formed-parts occupied fresh k l t in
    let k_inside = parts.0.inside in
    let place = parts.1.0 in
    let at = h place (omega arith) parts.1.3 in
    same_whole occupied k l first len place parts.0 w parts.1.1 parts.1.2 at.0 at.1)
