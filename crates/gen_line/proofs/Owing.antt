-- What the anchors of a line owe are the moves of the line.
use Rattle.std.proofs.Common.{◌≡◌, ◌≢◌, ℕ, zero, suc, ◌+◌, ◌-◌, ◌<◌, ◌≤◌, Bool, true, false, ◌&&◌, ◌==◌, not, nat_lt, List, ◌∷◌, ◌++◌, length, get_or, drop, refl, sym, ap, ◌∙◌, arith, length-drop, ◌⊎◌, inl, inr, ⊎_elim}
use Rattle.std.specs.Prelude.{All, slice_index_or}
use Rattle.std.proofs.lemmas.List.{get_or-drop, get_or_past}
use Rattle.std.proofs.lemmas.List.Elements.{All-cons}
use Rattle.std.proofs.lemmas.Bool.{cases_eq, cases_lt, cases_order, cases_Bool, eqb-true, eq-eqb, eqb-false, ne_eqb, ltb-true, lt-ltb, and_parts, and_from, not-true, not_from_false, false≢true, both_ways}
use Rattle.gen_line.specs.declared.cells.Cell.{Cell}
use Rattle.gen_line.specs.declared.cells.Cell.TheVariants.{Old, Free}
use Rattle.gen_line.specs.declared.cells.Open.{Open}
use Rattle.gen_line.specs.Entries.{letter_of_entry, label_of_entry, kind_of_entry}
use Rattle.gen_line.specs.Cells.{cell_at, is_full, cell_ok, is_anchor_cell, full_on, labels}
use Rattle.gen_line.specs.Moves.{IsMove, Labelled, after_mark, AreSplits}
use Rattle.gen_line.specs.Model.{after, may, less, left_of}
use Rattle.gen_line.proofs.Tests.{left_entries, walk, fits_left, cell_fits, owes}
use Rattle.gen_line.proofs.Meaning.{word, shape, rack_ok, rack_after, no_bar, at_anchor}
use Rattle.gen_line.proofs.Joins.{rack_ok-uses, uses-rack_ok}
use Rattle.gen_line.proofs.Means.{fits_left-means}
use Rattle.gen_line.proofs.Shaping.{spelt, Shaped, shape_from}
use Rattle.gen_line.proofs.Sides.{left_of-size, left_entries-size, left_of-at, left_entries-at, left_entries-past, left-at, right-at, whole_word, spelt-positive, rack_ok-append, uses-walk}

-- ---- what an anchor owes, in parts

-- what the walk from the anchor at h gives: a new tile on it, the squares and the entries of both sides, the rack, the path
pub record Owed (g : List ℕ → Bool) (line : List Cell) (rack : List ℕ) (h : ℕ) (y : List ℕ) : Type 0 where
  pub size : length y ≡ 15
  pub square : Open
  pub is : cell_at line h ≡ Free square
  pub anchor : square.anchor ≡ true
  pub some : get_or y h 0 ≢ 0
  pub low : get_or y h 0 < 53
  pub mask : slice_index_or square.mask (letter_of_entry (get_or y h 0)) false ≡ true
  pub left : shape at_anchor (left_of line h) (left_entries y h) ≡ true
  pub right : shape no_bar (drop (h + 1) line) (drop (h + 1) y) ≡ true
  pub taken : rack_ok rack (walk h y) ≡ true
  pub path : g (label_of_entry (get_or y h 0) ∷ (word (left_of line h) (left_entries y h) ++ after_mark (word (drop (h + 1) line) (drop (h + 1) y)))) ≡ true

sides_fit : (g : List ℕ → Bool) (line : List Cell) (rack : List ℕ) (h : ℕ) (y : List ℕ)
    → fits_left g (left_of line h) (drop (h + 1) line) rack (left_entries y h ++ drop (h + 1) y)
    ≡ ((shape at_anchor (left_of line h) (left_entries y h) && rack_ok rack (left_entries y h))
    && (g (word (left_of line h) (left_entries y h) ++ after_mark (word (drop (h + 1) line) (drop (h + 1) y)))
    && (shape no_bar (drop (h + 1) line) (drop (h + 1) y) && rack_ok (rack_after rack (left_entries y h)) (drop (h + 1) y))))
sides_fit g line rack h y =
    fits_left-means g (left_of line h) (drop (h + 1) line) rack (left_entries y h) (drop (h + 1) y) (left_entries-size y h ∙ sym (left_of-size line h))

-- the tests of the new tile on the anchor: the square takes its letter, and the rack has it
abbrev takes_letter : Open → ℕ → Bool
takes_letter m e = slice_index_or m.mask (letter_of_entry e) false

abbrev has_tile : List ℕ → ℕ → Bool
has_tile rack e = nat_lt 0 (get_or rack (kind_of_entry e) 0)

-- whether the lexicon has the path of the entries around the anchor
abbrev has_path : (List ℕ → Bool) → List Cell → ℕ → List ℕ → Bool
has_path g line h y =
    g (label_of_entry (get_or y h 0) ∷ (word (left_of line h) (left_entries y h) ++ after_mark (word (drop (h + 1) line) (drop (h + 1) y))))

owed_free : (g : List ℕ → Bool) (line : List Cell) (rack : List ℕ) (h : ℕ) (y : List ℕ) (m : Open) → length y ≡ 15 → cell_at line h ≡ Free m
    → cell_fits g line h rack (Free m) (walk h y) ≡ true → Owed g line rack h y
unfolding cell_fits may
owed_free g line rack h y m size is fit =
    let e = get_or y h 0 in
    let lefts = left_entries y h in
    let rights = drop (h + 1) y in
    let rest = less rack e in
    let left = shape at_anchor (left_of line h) lefts in
    let right = shape no_bar (drop (h + 1) line) rights in
    let left_rack = rack_ok rest lefts in
    let right_rack = rack_ok (rack_after rest lefts) rights in
    let parts = and_parts (m.anchor && (not (e == 0) && (nat_lt e 53 && (takes_letter m e && has_tile rack e)))) (fits_left (after g (label_of_entry e)) (left_of line h) (drop (h + 1) line) rest (lefts ++ rights)) fit in
    let here = and_parts m.anchor (not (e == 0) && (nat_lt e 53 && (takes_letter m e && has_tile rack e))) parts.0 in
    let new = and_parts (not (e == 0)) (nat_lt e 53 && (takes_letter m e && has_tile rack e)) here.1 in
    let entry = and_parts (nat_lt e 53) (takes_letter m e && has_tile rack e) new.1 in
    let allowed = and_parts (takes_letter m e) (has_tile rack e) entry.1 in
    let sides = and_parts (left && left_rack) (has_path g line h y && (right && right_rack)) (sym (sides_fit (after g (label_of_entry e)) line rest h y) ∙ parts.1) in
    let on_left = and_parts left left_rack sides.0 in
    let word_and_right = and_parts (has_path g line h y) (right && right_rack) sides.1 in
    let on_right = and_parts right right_rack word_and_right.1 in
    let not_zero = not-true (e == 0) new.0 in
    record {
      size = size;
      square = m;
      is = is;
      anchor = here.0;
      some = eqb-false e 0 not_zero;
      low = ltb-true e 53 entry.0;
      mask = allowed.0;
      left = on_left.0;
      right = on_right.0;
      taken = rw not_zero (and_from (has_tile rack e) (rack_ok rest (lefts ++ rights)) allowed.1 (rack_ok-append rest lefts rights ∙ and_from left_rack right_rack on_left.1 on_right.1));
      path = word_and_right.0;
    }

pub owed : (g : List ℕ → Bool) (line : List Cell) (rack : List ℕ) (h : ℕ) (y : List ℕ) → owes g line rack h y ≡ true → Owed g line rack h y
unfolding cell_fits
owed g line rack h y t =
    let parts = and_parts (length y == 15) (cell_fits g line h rack (cell_at line h) (walk h y)) t in
    by (cell_at line h) refl (eqb-true (length y) 15 parts.0) parts.1
  where
    by : (c : Cell) → cell_at line h ≡ c → length y ≡ 15 → cell_fits g line h rack c (walk h y) ≡ true → Owed g line rack h y
    by (Old a) is size fit = absurd (false≢true fit)
    by (Free m) is size fit = owed_free g line rack h y m size is fit

pub owes_from : (g : List ℕ → Bool) (line : List Cell) (rack : List ℕ) (h : ℕ) (y : List ℕ) → Owed g line rack h y → owes g line rack h y ≡ true
unfolding cell_fits may
owes_from g line rack h y o =
    let e = get_or y h 0 in
    let lefts = left_entries y h in
    let rights = drop (h + 1) y in
    let rest = less rack e in
    let m = o.square in
    let left = shape at_anchor (left_of line h) lefts in
    let right = shape no_bar (drop (h + 1) line) rights in
    let left_rack = rack_ok rest lefts in
    let right_rack = rack_ok (rack_after rest lefts) rights in
    let not_zero = ne_eqb e 0 o.some in
    let racks = and_parts (has_tile rack e) (rack_ok rest (lefts ++ rights)) (rw not_zero at o.taken) in
    let both = and_parts left_rack right_rack (sym (rack_ok-append rest lefts rights) ∙ racks.1) in
    let sides = sides_fit (after g (label_of_entry e)) line rest h y
    ∙ and_from (left && left_rack) (has_path g line h y && (right && right_rack)) (and_from left left_rack o.left both.0)
    (and_from (has_path g line h y) (right && right_rack) o.path (and_from right right_rack o.right both.1)) in
    let entry = and_from (nat_lt e 53) (takes_letter m e && has_tile rack e) (lt-ltb e 53 o.low) (and_from (takes_letter m e) (has_tile rack e) o.mask racks.0) in
    let here = and_from m.anchor (not (e == 0) && (nat_lt e 53 && (takes_letter m e && has_tile rack e))) o.anchor
    (and_from (not (e == 0)) (nat_lt e 53 && (takes_letter m e && has_tile rack e)) (not_from_false (e == 0) not_zero) entry) in
    and_from (length y == 15) (cell_fits g line h rack (cell_at line h) (walk h y)) (eq-eqb (length y) 15 o.size)
    (rw o.is
    (and_from (m.anchor && (not (e == 0) && (nat_lt e 53 && (takes_letter m e && has_tile rack e)))) (fits_left (after g (label_of_entry e)) (left_of line h) (drop (h + 1) line) rest (lefts ++ rights)) here sides))

-- ---- an anchor that owes a line makes it a move

cell_ok-zero : (c : Cell) (e : ℕ) → e ≡ 0 → cell_ok c e ≡ true
cell_ok-zero (Old a) e z = eq-eqb e 0 z
cell_ok-zero (Free m) e z = rw (eq-eqb e 0 z)

-- the stretch around an anchor that is owed: a places to its left, b to its right
pub record Around (line : List Cell) (y : List ℕ) (h first a b : ℕ) : Type 0 where
  pub left : first + a ≡ h
  pub right : h + 1 + b ≤ 15
  pub full : (j : ℕ) → first ≤ j → j < h + 1 + b → full_on line y j ≡ true
  pub ok : (j : ℕ) → first ≤ j → j < h + 1 + b → cell_ok (cell_at line j) (get_or y j 0) ≡ true
  pub before : 0 < first → full_on line y (first - 1) ≡ false
  pub following : h + 1 + b < 15 → full_on line y (h + 1 + b) ≡ false
  pub none_before : (j : ℕ) → j < first → get_or y j 0 ≡ 0
  pub none_after : (j : ℕ) → h + 1 + b ≤ j → get_or y j 0 ≡ 0

pub around : (line : List Cell) (y : List ℕ) (h a b : ℕ) → h < 15 → length line ≡ 15 → full_on line y h ≡ true → cell_ok (cell_at line h) (get_or y h 0) ≡ true
    → Shaped at_anchor (left_of line h) (left_entries y h) a → Shaped no_bar (drop (h + 1) line) (drop (h + 1) y) b → Around line y h (h - a) a b
around line y h a b below size here_full here_ok l r =
    let left_size = left_of-size line h in
    let right_size = length-drop (h + 1) line in
    let inside_left = l.inside in
    let inside_right = r.inside in record {
      left = omega arith;
      right = omega arith;
      full = λ j low high. at_place is_full l.full r.full here_full j low high;
      ok = λ j low high. at_place cell_ok l.ok r.ok here_ok j low high;
      before = λ some. sym (left-at is_full line y h a (h - a - 1) (omega arith)) ∙ l.ends (omega arith);
      following = λ more. sym (right-at is_full line y (h + 1) b (h + 1 + b) refl) ∙ r.ends (omega arith);
      none_before = λ j low. sym (left_entries-at y h (h - 1 - j) j (omega arith)) ∙ l.beyond (h - 1 - j) (omega arith);
      none_after = λ j low. ap (λ k. get_or y k 0) (let is : j ≡ h + 1 + (j - (h + 1)) = omega arith in is) ∙ sym (get_or-drop (h + 1) y (j - (h + 1)) 0) ∙ r.beyond (j - (h + 1)) (omega arith);
    }
  where
    at_place : (f : Cell → ℕ → Bool) → ((i : ℕ) → i < a → f (cell_at (left_of line h) i) (get_or (left_entries y h) i 0) ≡ true)
        → ((i : ℕ) → i < b → f (cell_at (drop (h + 1) line) i) (get_or (drop (h + 1) y) i 0) ≡ true)
        → f (cell_at line h) (get_or y h 0) ≡ true
        → (j : ℕ) → h - a ≤ j → j < h + 1 + b → f (cell_at line j) (get_or y j 0) ≡ true
    at_place f lefts rights here j low high =
        ⊎_elim
        (λ (e : j ≡ h). ap (λ k. f (cell_at line k) (get_or y k 0)) e ∙ here)
        (λ (o : (j < h) ⊎ (h < j)).
        ⊎_elim
        (λ (to_left : j < h). sym (left-at f line y h (h - 1 - j) j (omega arith)) ∙ lefts (h - 1 - j) (omega arith))
        (λ (to_right : h < j). sym (right-at f line y (h + 1) (j - (h + 1)) j (omega arith)) ∙ rights (j - (h + 1)) (omega arith))
        o)
        (cases_order j h)

-- new tiles lie only in the stretch
inside : (line : List Cell) (y : List ℕ) (h first a b i : ℕ) → Around line y h first a b → get_or y i 0 ≢ 0 → (first ≤ i) × (i < h + 1 + b)
inside line y h first a b i s some = (
  ⊎_elim (λ (low : i < first). absurd (some (s.none_before i low))) (λ (low : first ≤ i). low) (cases_lt i first),
  ⊎_elim (λ (high : i < h + 1 + b). high) (λ (high : h + 1 + b ≤ i). absurd (some (s.none_after i high))) (cases_lt i (h + 1 + b)),
)

-- and each of its places allows what lies there
allows : (line : List Cell) (y : List ℕ) (h first a b i : ℕ) → Around line y h first a b → cell_ok (cell_at line i) (get_or y i 0) ≡ true
allows line y h first a b i s =
    ⊎_elim
    (λ (none : get_or y i 0 ≡ 0). cell_ok-zero (cell_at line i) (get_or y i 0) none)
    (λ (some : get_or y i 0 ≡ 0 → ⊥). let within = inside line y h first a b i s some in s.ok i within.0 within.1)
    (cases_eq (get_or y i 0) 0)

pub move_around : (g listed : List ℕ → Bool) → AreSplits g listed → (line : List Cell) (rack y : List ℕ) (h first a b : ℕ) → Labelled line → h < 15
    → Owed g line rack h y → Around line y h first a b
    → word (left_of line h) (left_entries y h) ≡ spelt (left_of line h) (left_entries y h) a
    → word (drop (h + 1) line) (drop (h + 1) y) ≡ spelt (drop (h + 1) line) (drop (h + 1) y) b
    → IsMove listed line rack y first (a + suc b)
move_around g listed splits line rack y h first a b labelled below o s left_word right_word =
    let left_sum = s.left in
    let right_in = s.right in
    let line_size = labelled.size in
    let y_size = o.size in
    let front = label_of_entry (get_or y h 0) ∷ spelt (left_of line h) (left_entries y h) a in
    let rest = spelt (drop (h + 1) line) (drop (h + 1) y) b in
    let path : g (front ++ after_mark rest) ≡ true = rw (left_word, right_word) at o.path in
    let none_is_mark : All (λ k. 0 < k) front =
    All-cons (λ k. 0 < k) (label_of_entry (get_or y h 0)) (spelt (left_of line h) (left_entries y h) a) (omega arith) (spelt-positive line y h a labelled (omega arith)) in
    let end : first + (a + suc b) ≡ h + 1 + b = omega arith in
    record {
      size = o.size;
      whole = record {
        inside = omega arith;
        filled = λ j low high. s.full j low (omega arith);
        before = s.before;
        after = λ more. ap (full_on line y) end ∙ s.following (omega arith);
      };
      allowed = λ i high. allows line y h first a b i s;
      within = λ i high some. let both = inside line y h first a b i s some in (both.0, omega arith);
      anchored = (h, below, o.some, rw o.is o.anchor);
      word = ap listed (sym (whole_word line y o.square h first a b o.is s.left (omega arith) (omega arith))) ∙ sym (splits front rest (omega arith) none_is_mark) ∙ path;
      fits = λ k. let used = uses-walk k y h (omega arith) in let has = rack_ok-uses rack (walk h y) o.taken k in omega arith;
    }

-- ---- a move is owed by the first anchor that it covers

-- whether a new tile lies on an anchor
abbrev covers_anchor : List Cell → List ℕ → ℕ → Bool
covers_anchor line y i = not (get_or y i 0 == 0) && is_anchor_cell (cell_at line i)

-- none of the first k passes, or one of them is the first
abbrev FirstOf : (ℕ → Bool) → ℕ → Type 0
FirstOf p k = (h : ℕ) × (h < k) × (p h ≡ true) × ((i : ℕ) → i < h → p i ≡ false)

first_of : (p : ℕ → Bool) (k : ℕ) → ((i : ℕ) → i < k → p i ≡ false) ⊎ FirstOf p k
first_of p zero = inl (λ i h. absurd (omega arith))
first_of p (suc k) =
    ⊎_elim
    (λ (none : (i : ℕ) → i < k → p i ≡ false).
    ⊎_elim
    (λ (here : p k ≡ true). inr (k, omega arith, here, none))
    (λ (not_here : p k ≡ false). inl (λ i h.
    ⊎_elim (λ (e : i ≡ k). ap p e ∙ not_here) (λ (ne : i ≡ k → ⊥). none i (omega arith)) (cases_eq i k)))
    (cases_Bool (p k)))
    (λ (some : FirstOf p k). let below = some.1 in inr (some.0, omega arith, some.2, some.3))
    (first_of p k)

first_anchor : (listed : List ℕ → Bool) (line : List Cell) (rack y : List ℕ) (first len : ℕ) → IsMove listed line rack y first len → FirstOf (covers_anchor line y) 15
first_anchor listed line rack y first len m =
    let i = m.anchored.0 in
    let covered : covers_anchor line y i ≡ true =
    and_from (not (get_or y i 0 == 0)) (is_anchor_cell (cell_at line i)) (not_from_false (get_or y i 0 == 0) (ne_eqb (get_or y i 0) 0 m.anchored.2)) m.anchored.3 in
    ⊎_elim
    (λ (none : (j : ℕ) → j < 15 → covers_anchor line y j ≡ false). absurd (both_ways (covers_anchor line y i) (none i m.anchored.1) covered))
    (λ (some : FirstOf (covers_anchor line y) 15). some)
    (first_of (covers_anchor line y) 15)

-- the places of a move to the left of a place that it covers, with no anchor of its own among them
left_shape : (listed : List ℕ → Bool) (line : List Cell) (rack y : List ℕ) (first len h a : ℕ) → IsMove listed line rack y first len → first + a ≡ h → h < first + len
    → ((i : ℕ) → i < h → covers_anchor line y i ≡ false) → Shaped at_anchor (left_of line h) (left_entries y h) a
left_shape listed line rack y first len h a m sum high none =
    let cells = left_of-size line h in
    let entries = left_entries-size y h in
    let inside = m.whole.inside in record {
      size = omega arith;
      inside = omega arith;
      full = λ i low. left-at is_full line y h i (h - 1 - i) (omega arith) ∙ m.whole.filled (h - 1 - i) (omega arith) (omega arith);
      ends = λ low. left-at is_full line y h a (first - 1) (omega arith) ∙ m.whole.before (omega arith);
      ok = λ i low. left-at cell_ok line y h i (h - 1 - i) (omega arith) ∙ m.allowed (h - 1 - i) (omega arith);
      unbarred = λ i n low is some. unbarred i n (h - 1 - i) (omega arith) is some;
      beyond = λ i past. ⊎_elim
          (λ (low : i < h). left_entries-at y h i (h - 1 - i) (omega arith) ∙ empty (h - 1 - i) (omega arith))
          (λ (far : h ≤ i). left_entries-past y h i far)
          (cases_lt i h);
    }
  where
    unbarred : (i : ℕ) (n : Open) (j : ℕ) → i + j + 1 ≡ h → cell_at (left_of line h) i ≡ Free n → get_or (left_entries y h) i 0 ≢ 0 → n.anchor ≡ false
    unbarred i n j e is some =
        let cell = sym (left_of-at line h i j e) ∙ is in
        let not_zero = ne_eqb (get_or y j 0) 0 (λ z. some (left_entries-at y h i j e ∙ z)) in
        rw (cell, not_zero) at (none j (omega arith))

    empty : (j : ℕ) → j < first → get_or y j 0 ≡ 0
    empty j low =
        ⊎_elim (λ (z : get_or y j 0 ≡ 0). z)
        (λ (some : get_or y j 0 ≡ 0 → ⊥). let inside = m.whole.inside in let within = (m.within j (omega arith) some).0 in absurd (omega arith))
        (cases_eq (get_or y j 0) 0)

-- and to the right of it
right_shape : (listed : List ℕ → Bool) (line : List Cell) (rack y : List ℕ) (first len h b : ℕ) → length line ≡ 15 → IsMove listed line rack y first len → first ≤ h → h + 1 + b ≡ first + len
    → Shaped no_bar (drop (h + 1) line) (drop (h + 1) y) b
right_shape listed line rack y first len h b line_size m low sum =
    let cells = length-drop (h + 1) line in
    let entries = length-drop (h + 1) y in
    let size = m.size in
    let inside = m.whole.inside in record {
      size = omega arith;
      inside = omega arith;
      full = λ i below. right-at is_full line y (h + 1) i (h + 1 + i) refl ∙ m.whole.filled (h + 1 + i) (omega arith) (omega arith);
      ends = λ below. right-at is_full line y (h + 1) b (first + len) sum ∙ m.whole.after (omega arith);
      ok = λ i below. right-at cell_ok line y (h + 1) i (h + 1 + i) refl ∙ m.allowed (h + 1 + i) (omega arith);
      unbarred = λ i n below is some. refl;
      beyond = λ i past. get_or-drop (h + 1) y i 0 ∙ empty (h + 1 + i) (omega arith);
    }
  where
    empty : (j : ℕ) → first + len ≤ j → get_or y j 0 ≡ 0
    empty j high =
        ⊎_elim
        (λ (below : j < 15).
        ⊎_elim (λ (z : get_or y j 0 ≡ 0). z)
        (λ (some : get_or y j 0 ≡ 0 → ⊥). let within = (m.within j below some).1 in absurd (omega arith))
        (cases_eq (get_or y j 0) 0))
        (λ (past : 15 ≤ j). get_or_past y j 0 (let size = m.size in omega arith))
        (cases_lt j 15)

free_anchor : (c : Cell) → is_anchor_cell c ≡ true → (n : Open) × (c ≡ Free n) × (n.anchor ≡ true)
free_anchor (Old a) e = absurd (false≢true e)
free_anchor (Free n) e = (n, refl, e)

move_owed_at : (g listed : List ℕ → Bool) → AreSplits g listed → (line : List Cell) (rack y : List ℕ) (first len h a b : ℕ) (n : Open) → Labelled line → IsMove listed line rack y first len
    → h < 15 → cell_at line h ≡ Free n → n.anchor ≡ true → get_or y h 0 ≢ 0 → first + a ≡ h → h + 1 + b ≡ first + len
    → ((i : ℕ) → i < h → covers_anchor line y i ≡ false) → Owed g line rack h y
move_owed_at g listed splits line rack y first len h a b n labelled m below is anchor some left_sum right_sum none =
    let e = get_or y h 0 in
    let mask = slice_index_or n.mask (letter_of_entry e) false in
    let not_zero = ne_eqb e 0 some in
    let inside = m.whole.inside in
    let line_size = labelled.size in
    let y_size = m.size in
    let ok = and_parts (nat_lt e 53) mask (rw (is, not_zero) at (m.allowed h below)) in
    let left = shape_from at_anchor (left_of line h) (left_entries y h) a (left_shape listed line rack y first len h a m left_sum (omega arith) none) in
    let right = shape_from no_bar (drop (h + 1) line) (drop (h + 1) y) b (right_shape listed line rack y first len h b line_size m (omega arith) right_sum) in
    let front = label_of_entry e ∷ spelt (left_of line h) (left_entries y h) a in
    let rest = spelt (drop (h + 1) line) (drop (h + 1) y) b in
    let none_is_mark : All (λ k. 0 < k) front =
    All-cons (λ k. 0 < k) (label_of_entry e) (spelt (left_of line h) (left_entries y h) a) (omega arith) (spelt-positive line y h a labelled (omega arith)) in
    let stretch : a + suc b ≡ len = omega arith in
    let spells = whole_word line y n h first a b is left_sum (omega arith) (omega arith) ∙ ap (labels line y first) stretch in
    let path : g (front ++ after_mark rest) ≡ true = splits front rest (omega arith) none_is_mark ∙ ap listed spells ∙ m.word in
    record {
      size = m.size;
      square = n;
      is = is;
      anchor = anchor;
      some = some;
      low = ltb-true e 53 ok.0;
      mask = ok.1;
      left = left.0;
      right = right.0;
      taken = uses-rack_ok rack (walk h y) (λ k. let used = uses-walk k y h (omega arith) in let has = m.fits k in omega arith);
      path = rw (left.1, right.1) path;
    }

pub move_owed : (g listed : List ℕ → Bool) → AreSplits g listed → (line : List Cell) (rack y : List ℕ) (first len : ℕ) → Labelled line
    → IsMove listed line rack y first len → (h : ℕ) × (h < 15) × Owed g line rack h y
move_owed g listed splits line rack y first len labelled m =
    let found = first_anchor listed line rack y first len m in
    let h = found.0 in
    let below = found.1 in
    let covered = and_parts (not (get_or y h 0 == 0)) (is_anchor_cell (cell_at line h)) found.2 in
    let some = eqb-false (get_or y h 0) 0 (not-true (get_or y h 0 == 0) covered.0) in
    let free = free_anchor (cell_at line h) covered.1 in
    let within = m.within h below some in
    let low = within.0 in
    let high = within.1 in (
      h,
      below,
      move_owed_at g listed splits line rack y first len h (h - first) (first + len - (h + 1)) free.0 labelled m below free.1 free.2 some (omega arith) (omega arith) found.3,
    )
