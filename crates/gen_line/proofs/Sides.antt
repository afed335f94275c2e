-- Both sides of an anchor, place by place: the cells and the entries of a walk, the labels that they spell, and the tiles
-- that they take from the rack.
use Rattle.std.proofs.Common.{◌≡◌, ℕ, zero, suc, ◌+◌, ◌<◌, ◌≤◌, Bool, true, false, ◌&&◌, ◌==◌, nat_lt, if◌then◌else◌, List, [], ◌∷◌, ◌++◌, length, get_or, take, drop, refl, sym, ap, ◌∙◌, arith, append_assoc}
use Rattle.std.specs.Prelude.{All, slice_index}
use Rattle.std.proofs.lemmas.List.{get_or-drop, drop_more, take_more, take-append-drop, get_or_past}
use Rattle.std.proofs.lemmas.List.Elements.{All-nil, All-cons}
use Rattle.std.proofs.Math.Bool.{and_assoc}
use Rattle.gen_line.specs.declared.cells.Cell.{Cell}
use Rattle.gen_line.specs.declared.cells.Cell.TheVariants.{Old, Free}
use Rattle.gen_line.specs.declared.cells.Open.{Open}
use Rattle.gen_line.specs.Entries.{label_of_entry, kind_of_entry, uses}
use Rattle.gen_line.specs.Cells.{cell_at, label_at, labels}
use Rattle.gen_line.specs.Moves.{Labelled, back}
use Rattle.gen_line.specs.Model.{less, left_of}
use Rattle.gen_line.proofs.Tests.{left_entries, walk}
use Rattle.gen_line.proofs.Meaning.{rack_ok, rack_after}
use Rattle.gen_line.proofs.Shaping.{spelt}

-- ---- cells and entries

pub left_of-size : (line : List Cell) (h : ℕ) → length (left_of line h) ≡ h
unfolding left_of
left_of-size line zero = refl
left_of-size line (suc h) = ap suc (left_of-size line h)

pub left_entries-size : (y : List ℕ) (h : ℕ) → length (left_entries y h) ≡ h
unfolding left_entries
left_entries-size y zero = refl
left_entries-size y (suc h) = ap suc (left_entries-size y h)

pub left_of-at : (line : List Cell) (h i j : ℕ) → i + j + 1 ≡ h → cell_at (left_of line h) i ≡ cell_at line j
unfolding left_of
left_of-at line zero i j e = absurd (omega arith)
left_of-at line (suc h) zero j e = let is : h ≡ j = omega arith in ap (cell_at line) is
left_of-at line (suc h) (suc i) j e = left_of-at line h i j (omega arith)

pub left_entries-at : (y : List ℕ) (h i j : ℕ) → i + j + 1 ≡ h → get_or (left_entries y h) i 0 ≡ get_or y j 0
unfolding left_entries
left_entries-at y zero i j e = absurd (omega arith)
left_entries-at y (suc h) zero j e = let is : h ≡ j = omega arith in ap (λ k. get_or y k 0) is
left_entries-at y (suc h) (suc i) j e = left_entries-at y h i j (omega arith)

pub left_entries-past : (y : List ℕ) (h i : ℕ) → h ≤ i → get_or (left_entries y h) i 0 ≡ 0
left_entries-past y h i past = get_or_past (left_entries y h) i 0 (let size = left_entries-size y h in omega arith)

-- what holds for a place to the left, and to the right
pub left-at : (f : Cell → ℕ → Bool) (line : List Cell) (y : List ℕ) (h i j : ℕ) → i + j + 1 ≡ h
    → f (cell_at (left_of line h) i) (get_or (left_entries y h) i 0) ≡ f (cell_at line j) (get_or y j 0)
left-at f line y h i j e = rw (left_of-at line h i j e, left_entries-at y h i j e)

pub right-at : (f : Cell → ℕ → Bool) (line : List Cell) (y : List ℕ) (n i j : ℕ) → n + i ≡ j
    → f (cell_at (drop n line) i) (get_or (drop n y) i 0) ≡ f (cell_at line j) (get_or y j 0)
right-at f line y n i j e = rw (get_or-drop n line i (Old 0), get_or-drop n y i 0, e)

-- ---- labels

labels-append : (line : List Cell) (y : List ℕ) (p q n a b : ℕ) → n ≡ a + b → q ≡ p + a → labels line y p n ≡ labels line y p a ++ labels line y q b
labels-append line y p q n zero b e f =
    let is : n ≡ b = omega arith in
    let at : q ≡ p = omega arith in
    rw (is, at)
labels-append line y p q zero (suc a) b e f = absurd (omega arith)
labels-append line y p q (suc n) (suc a) b e f =
    ap (λ (l : List ℕ). label_at (cell_at line p) (get_or y p 0) ∷ l) (labels-append line y (p + 1) q n a b (omega arith) (omega arith))

back-labels : (line : List Cell) (y : List ℕ) (k first n : ℕ) (zs : List ℕ) → first + n ≡ k
    → back (spelt (left_of line k) (left_entries y k) n) zs ≡ labels line y first n ++ zs
unfolding left_of left_entries
back-labels line y zero first zero zs e = refl
back-labels line y zero first (suc n) zs e = absurd (omega arith)
back-labels line y (suc k) first zero zs e = refl
back-labels line y (suc k) first (suc n) zs e =
    back-labels line y k first n (label_at (cell_at line k) (get_or y k 0) ∷ zs) (omega arith)
    ∙ sym (append_assoc (labels line y first n) (label_at (cell_at line k) (get_or y k 0) ∷ []) zs)
    ∙ ap (λ (l : List ℕ). l ++ zs) (sym (labels-append line y first k (suc n) n 1 (omega arith) (omega arith)))

spelt-none : (cs : List Cell) (ys : List ℕ) → spelt cs ys 0 ≡ []
spelt-none [] ys = refl
spelt-none (c ∷ cs) [] = refl
spelt-none (c ∷ cs) (e ∷ ys) = refl

spelt-right : (line : List Cell) (y : List ℕ) (n p : ℕ) → p + n ≤ length line → length y ≡ length line → spelt (drop p line) (drop p y) n ≡ labels line y p n
spelt-right line y zero p fits size = spelt-none (drop p line) (drop p y)
spelt-right line y (suc n) p fits size =
    rw (drop_more line p (Old 0) (omega arith), drop_more y p 0 (omega arith))
    (ap (λ (l : List ℕ). label_at (cell_at line p) (get_or y p 0) ∷ l) (spelt-right line y n (p + 1) (omega arith) size))

-- the labels to the left of an anchor read backwards, its own and those to the right are those of the stretch
pub whole_word : (line : List Cell) (y : List ℕ) (m : Open) (h first a b : ℕ) → cell_at line h ≡ Free m → first + a ≡ h → h + 1 + b ≤ length line → length y ≡ length line
    → back (label_of_entry (get_or y h 0) ∷ spelt (left_of line h) (left_entries y h) a) (spelt (drop (h + 1) line) (drop (h + 1) y) b) ≡ labels line y first (a + suc b)
whole_word line y m h first a b is sum inside size =
    back-labels line y h first a (label_of_entry (get_or y h 0) ∷ spelt (drop (h + 1) line) (drop (h + 1) y) b) sum
    ∙ ap (λ (l : List ℕ). labels line y first a ++ (label_of_entry (get_or y h 0) ∷ l)) (spelt-right line y b (h + 1) inside size)
    ∙ ap (λ (c : Cell). labels line y first a ++ (label_at c (get_or y h 0) ∷ labels line y (h + 1) b)) (sym is)
    ∙ sym (labels-append line y first h (a + suc b) a (suc b) refl (sym sum))

-- none of the labels is the mark
label-positive : (line : List Cell) (y : List ℕ) (i : ℕ) → Labelled line → i < 15 → 0 < label_at (cell_at line i) (get_or y i 0)
label-positive line y i l below = by (cell_at line i) refl
  where
    by : (c : Cell) → cell_at line i ≡ c → 0 < label_at c (get_or y i 0)
    by (Old a) is = l.old i a below is
    by (Free m) is = omega arith

pub spelt-positive : (line : List Cell) (y : List ℕ) (k n : ℕ) → Labelled line → k ≤ 15 → All (λ l. 0 < l) (spelt (left_of line k) (left_entries y k) n)
unfolding left_of left_entries
spelt-positive line y zero n l below = All-nil (λ l. 0 < l)
spelt-positive line y (suc k) zero l below = All-nil (λ l. 0 < l)
spelt-positive line y (suc k) (suc n) l below =
    All-cons (λ l. 0 < l) (label_at (cell_at line k) (get_or y k 0)) (spelt (left_of line k) (left_entries y k) n)
    (label-positive line y k l (omega arith)) (spelt-positive line y k n l (omega arith))

-- ---- the rack

pub rack_ok-append : (rack xs ys : List ℕ) → rack_ok rack (xs ++ ys) ≡ (rack_ok rack xs && rack_ok (rack_after rack xs) ys)
rack_ok-append rack [] ys = refl
rack_ok-append rack (e ∷ xs) ys = by (e == 0) (rack_ok-append rack xs ys) (rack_ok-append (less rack e) xs ys)
  where
    by : (b : Bool) → rack_ok rack (xs ++ ys) ≡ (rack_ok rack xs && rack_ok (rack_after rack xs) ys)
        → rack_ok (less rack e) (xs ++ ys) ≡ (rack_ok (less rack e) xs && rack_ok (rack_after (less rack e) xs) ys)
        → (if b then rack_ok rack (xs ++ ys) else nat_lt 0 (slice_index rack (kind_of_entry e)) && rack_ok (less rack e) (xs ++ ys))
        ≡ ((if b then rack_ok rack xs else nat_lt 0 (slice_index rack (kind_of_entry e)) && rack_ok (less rack e) xs)
        && rack_ok (if b then rack_after rack xs else rack_after (less rack e) xs) ys)
    by true kept taken = kept
    by false kept taken =
        rw taken (sym (and_assoc (nat_lt 0 (slice_index rack (kind_of_entry e))) (rack_ok (less rack e) xs) (rack_ok (rack_after (less rack e) xs) ys)))

uses-append : (k : ℕ) (xs ys : List ℕ) → uses k (xs ++ ys) ≡ uses k xs + uses k ys
uses-append k [] ys = omega arith
uses-append k (e ∷ xs) ys = by (e == 0) (uses-append k xs ys)
  where
    by : (b : Bool) → uses k (xs ++ ys) ≡ uses k xs + uses k ys
        → (if b then uses k (xs ++ ys) else (if kind_of_entry e == k then 1 else 0) + uses k (xs ++ ys)) ≡ (if b then uses k xs else (if kind_of_entry e == k then 1 else 0) + uses k xs) + uses k ys
    by true h = h
    by false h = omega arith

uses-left : (k : ℕ) (y : List ℕ) (h : ℕ) → h ≤ length y → uses k (left_entries y h) ≡ uses k (take h y)
unfolding left_entries
uses-left k y zero inside = refl
uses-left k y (suc h) inside =
    let here = uses-append k (get_or y h 0 ∷ []) (left_entries y h) in
    let rest = uses-left k y h (omega arith) in
    let next : h + 1 ≡ suc h = omega arith in
    let taken = rw next at (take_more y h 0 (omega arith)) in
    let sum = ap (uses k) taken ∙ uses-append k (take h y) (get_or y h 0 ∷ []) in
    omega arith

-- a walk takes the tiles that the line's entries take
pub uses-walk : (k : ℕ) (y : List ℕ) (h : ℕ) → h < length y → uses k (walk h y) ≡ uses k y
uses-walk k y h below =
    let here = uses-append k (get_or y h 0 ∷ []) (left_entries y h ++ drop (h + 1) y) in
    let sides = uses-append k (left_entries y h) (drop (h + 1) y) in
    let left = uses-left k y h (omega arith) in
    let following = ap (uses k) (drop_more y h 0 below) ∙ uses-append k (get_or y h 0 ∷ []) (drop (h + 1) y) in
    let whole = sym (uses-append k (take h y) (drop h y)) ∙ ap (uses k) (take-append-drop h y) in
    omega arith
