-- Each move of a line is given by one anchor, once.
use Rattle.std.proofs.Common.{map, ◌≡◌, ℕ, zero, suc, ◌+◌, ◌-◌, ◌<◌, ◌≤◌, Bool, true, false, ◌&&◌, ◌==◌, not, nat_lt, if◌then◌else◌, List, [], ◌∷◌, ◌++◌, length, get_or, take, drop, refl, sym, ap, ◌∙◌, arith, append_assoc, length-drop, length-take, length-append, ◌⊎◌, ⊎_elim}
use Rattle.std.proofs.lemmas.List.{get_or-drop, drop_more, take_more, take-append-drop, drop-drop, drop_at, take_at}
use Rattle.std.proofs.lemmas.Bool.{cases_order, cases_lt, eqb-true, eq-eqb, and_parts, and_from, cond_both, both_ways, false≢true}
use Rattle.std.proofs.lemmas.Bool.Decides.{same_from_decides}
use Rattle.ref_tiles.proofs.Tallies.{tally, once}
use Rattle.gen_line.specs.declared.cells.Cell.{Cell}
use Rattle.gen_line.specs.declared.cells.Cell.TheVariants.{Old, Free}
use Rattle.gen_line.specs.Entries.{label_of_entry}
use Rattle.gen_line.specs.Cells.{cell_at}
use Rattle.gen_line.specs.Moves.{back}
use Rattle.gen_line.specs.Model.{after, may, less, tries, left_of, rest_of_anchor, cell_moves, unwalk, line_moves}
use Rattle.gen_line.proofs.Tests.{same, fits_turn, after_zeros, fits_left, Each, cell_fits, left_entries, walk, owes}
use Rattle.gen_line.proofs.Meaning.{shape, rack_ok, no_bar, at_anchor}
use Rattle.gen_line.proofs.Counts.{tries-nil, tries-each, each-left, same-true}
use Rattle.gen_line.proofs.Joins.{same-self, any_of, each-join, each-map}
use Rattle.gen_line.proofs.Means.{fits_turn-is}
use Rattle.gen_line.proofs.Shaping.{shaped}
use Rattle.gen_line.proofs.Sides.{left_of-size, left_entries-size, left_of-at, left_entries-at}
use Rattle.gen_line.proofs.Owing.{Owed, owed}

-- ---- from the order of the walk to that of the places, and back

back-left : (y : List ℕ) (h : ℕ) (zs : List ℕ) → h ≤ length y → back (left_entries y h) zs ≡ take h y ++ zs
unfolding left_entries
back-left y zero zs inside = refl
back-left y (suc h) zs inside =
    let next : h + 1 ≡ suc h = omega arith in
    let taken = rw next at (take_more y h 0 (omega arith)) in
    back-left y h (get_or y h 0 ∷ zs) (omega arith)
    ∙ sym (append_assoc (take h y) (get_or y h 0 ∷ []) zs)
    ∙ ap (λ (l : List ℕ). l ++ zs) (sym taken)

-- a line is that of its walk
unwalk-walk : (h : ℕ) (y : List ℕ) → h < length y → unwalk h (walk h y) ≡ y
unwalk-walk h y below =
    let size = left_entries-size y h in
    rw (take_at (left_entries y h) (drop (h + 1) y) h size, drop_at (left_entries y h) (drop (h + 1) y) h size)
    (back-left y h (get_or y h 0 ∷ drop (h + 1) y) (omega arith)
    ∙ ap (λ (l : List ℕ). take h y ++ l) (sym (drop_more y h 0 below))
    ∙ take-append-drop h y)

drop-back : (ls zs : List ℕ) → drop (length ls) (back ls zs) ≡ zs
drop-back [] zs = refl
drop-back (x ∷ ls) zs =
    let next : length ls + 1 ≡ suc (length ls) = omega arith in
    ap (λ n. drop n (back ls (x ∷ zs))) (sym next) ∙ sym (drop-drop 1 (length ls) (back ls (x ∷ zs))) ∙ ap (drop 1) (drop-back ls (x ∷ zs))

back-at : (ls : List ℕ) (z : ℕ) (zs : List ℕ) → get_or (back ls (z ∷ zs)) (length ls) 0 ≡ z
back-at ls z zs =
    let here : length ls + 0 ≡ length ls = omega arith in
    ap (λ n. get_or (back ls (z ∷ zs)) n 0) (sym here) ∙ sym (get_or-drop (length ls) (back ls (z ∷ zs)) 0 0) ∙ ap (λ l. get_or l 0 0) (drop-back ls (z ∷ zs))

left-back : (ls zs : List ℕ) → left_entries (back ls zs) (length ls) ≡ ls
unfolding left_entries
left-back [] zs = refl
left-back (x ∷ ls) zs =
    let first = back-at ls x zs in
    let rest = left-back ls (x ∷ zs) in cc

pub back-size : (ls zs : List ℕ) → length (back ls zs) ≡ length ls + length zs
back-size [] zs = omega arith
back-size (x ∷ ls) zs = let rest = back-size ls (x ∷ zs) in omega arith

-- a walk is that of its line
walk-back : (h e : ℕ) (ls zs : List ℕ) → length ls ≡ h → walk h (back ls (e ∷ zs)) ≡ e ∷ (ls ++ zs)
walk-back h e ls zs size =
    let here : get_or (back ls (e ∷ zs)) h 0 ≡ e = rw (sym size) (back-at ls e zs) in
    let left : left_entries (back ls (e ∷ zs)) h ≡ ls = rw (sym size) (left-back ls (e ∷ zs)) in
    let right : drop (h + 1) (back ls (e ∷ zs)) ≡ zs =
    sym (drop-drop 1 h (back ls (e ∷ zs))) ∙ ap (drop 1) (ap (λ n. drop n (back ls (e ∷ zs))) (sym size) ∙ drop-back ls (e ∷ zs)) in
    rw (here, left, right)

walk-unwalk : (h : ℕ) (x : List ℕ) → h < length x → walk h (unwalk h x) ≡ x
walk-unwalk h [] below = absurd (omega arith)
walk-unwalk h (e ∷ os) below =
    walk-back h e (take h os) (drop h os) (omega (arith, length-take h os)) ∙ ap (λ (l : List ℕ). e ∷ l) (take-append-drop h os)

unwalk-size : (h : ℕ) (x : List ℕ) → length (unwalk h x) ≡ length x
unwalk-size h [] = refl
unwalk-size h (e ∷ os) =
    let size = back-size (take h os) (e ∷ drop h os) in
    let parts = length-append (take h os) (drop h os) in
    let whole = ap (length {A = ℕ}) (take-append-drop h os) in
    omega arith

pub undo : (h : ℕ) (x y : List ℕ) → h < 15 → length x ≡ 15 → same y (unwalk h x) ≡ ((length y == 15) && same (walk h y) x)
undo h x y below size =
    same_from_decides {P = ((length y == 15) && same (walk h y) x) ≡ true} (same y (unwalk h x)) ((length y == 15) && same (walk h y) x)
    ((
      λ t.
          let is = same-true y (unwalk h x) t in
          let sizes = ap (length {A = ℕ}) is ∙ unwalk-size h x ∙ size in
          let walked = ap (walk h) is ∙ walk-unwalk h x (omega arith) in
          and_from (length y == 15) (same (walk h y) x) (eq-eqb (length y) 15 sizes) (ap (λ z. same z x) walked ∙ same-self x),
      λ t.
          let parts = and_parts (length y == 15) (same (walk h y) x) t in
          let sizes = eqb-true (length y) 15 parts.0 in
          let is = ap (unwalk h) (sym (same-true (walk h y) x parts.1)) ∙ unwalk-walk h y (omega arith) in
          ap (same y) is ∙ same-self y,
    ))
    (λ t. t, λ t. t)

-- ---- the number of entries of a walk

after_zeros-size : (n : ℕ) (f : List ℕ → Bool) (size : ℕ) → ((t : List ℕ) → f t ≡ true → length t ≡ size)
    → (os : List ℕ) → after_zeros n f os ≡ true → length os ≡ n + size
after_zeros-size zero f size h os e = h os e ∙ omega arith
after_zeros-size (suc n) f size h [] e = absurd (false≢true e)
after_zeros-size (suc n) f size h (d ∷ os) e =
    let rest = after_zeros-size n f size h os (and_parts (d == 0) (after_zeros n f os) e).1 in omega arith

fits_turn-size : (g : List ℕ → Bool) (cs : List Cell) (rack os : List ℕ) → fits_turn g cs rack os ≡ true → length os ≡ length cs
fits_turn-size g cs rack os e =
    let parts = and_parts (g _) (shape no_bar cs os && rack_ok rack os) (sym (fits_turn-is g cs rack os) ∙ e) in
    (shaped no_bar cs os (and_parts (shape no_bar cs os) (rack_ok rack os) parts.1).0).1.size

fits_left-size : (g : List ℕ → Bool) (ls cs : List Cell) (rack os : List ℕ) → fits_left g ls cs rack os ≡ true → length os ≡ length ls + length cs
unfolding fits_left
fits_left-size g [] cs rack os e = fits_turn-size g cs rack os e ∙ omega arith
fits_left-size g (Old a ∷ ls) cs rack [] e = absurd (false≢true e)
fits_left-size g (Old a ∷ ls) cs rack (d ∷ os) e =
    let rest = fits_left-size (after g a) ls cs rack os (and_parts (d == 0) (fits_left (after g a) ls cs rack os) e).1 in omega arith
fits_left-size g (Free m ∷ ls) cs rack [] e = absurd (false≢true e)
fits_left-size g (Free m ∷ ls) cs rack (d ∷ os) e = by (d == 0) e (fits_left-size (after g (label_of_entry d)) ls cs (less rack d) os)
  where
    by : (b : Bool)
        → (if b then after_zeros (length ls) (fits_turn g cs rack) os else (not m.anchor && (nat_lt d 53 && may m rack d)) && fits_left (after g (label_of_entry d)) ls cs (less rack d) os) ≡ true
        → (fits_left (after g (label_of_entry d)) ls cs (less rack d) os ≡ true → length os ≡ length ls + length cs)
        → suc (length os) ≡ suc (length ls) + length cs
    by true t h = let rest = after_zeros-size (length ls) (fits_turn g cs rack) (length cs) (fits_turn-size g cs rack) os t in omega arith
    by false t h =
        let rest = h (and_parts (not m.anchor && (nat_lt d 53 && may m rack d)) (fits_left (after g (label_of_entry d)) ls cs (less rack d) os) t).1 in omega arith

cell_fits-size : (g : List ℕ → Bool) (line : List Cell) (h : ℕ) (rack : List ℕ) (c : Cell) (x : List ℕ) → h < length line → cell_fits g line h rack c x ≡ true → length x ≡ length line
unfolding cell_fits
cell_fits-size g line h rack (Old a) x below e = absurd (false≢true e)
cell_fits-size g line h rack (Free m) [] below e = absurd (false≢true e)
cell_fits-size g line h rack (Free m) (d ∷ os) below e =
    let parts = and_parts (m.anchor && (not (d == 0) && (nat_lt d 53 && may m rack d))) (fits_left (after g (label_of_entry d)) (left_of line h) (drop (h + 1) line) (less rack d) os) e in
    let sides = fits_left-size (after g (label_of_entry d)) (left_of line h) (drop (h + 1) line) (less rack d) os parts.1 in
    let left = left_of-size line h in
    let right = length-drop (h + 1) line in
    omega arith

-- ---- the moves of one anchor

one_anchor : (anchor new low fit : Bool) → (if anchor then once (new && (low && fit)) else 0) ≡ once ((anchor && (new && low)) && fit)
one_anchor true true low fit = refl
one_anchor true false low fit = refl
one_anchor false new low fit = refl

each-cell : (g : List ℕ → Bool) (line : List Cell) (h : ℕ) (rack : List ℕ) (c : Cell) → Each (cell_fits g line h rack c) (cell_moves g line h rack c)
unfolding cell_fits
each-cell g line h rack (Old a) x = refl
each-cell g line h rack (Free m) [] =
    cond_both m.anchor (tries m rack (rest_of_anchor g line h rack)) [] (λ l. tally (same []) l ≡ 0) (λ y. tries-nil m rack (rest_of_anchor g line h rack)) (λ n. refl)
each-cell g line h rack (Free m) (e ∷ os) =
    of_anchor m.anchor
    ∙ one_anchor m.anchor (not (e == 0)) (nat_lt e 53 && may m rack e) (fits_left (after g (label_of_entry e)) (left_of line h) (drop (h + 1) line) (less rack e) os)
  where
    of_anchor : (b : Bool) → tally (same (e ∷ os)) (if b then tries m rack (rest_of_anchor g line h rack) else [])
        ≡ (if b then once (not (e == 0) && ((nat_lt e 53 && may m rack e) && fits_left (after g (label_of_entry e)) (left_of line h) (drop (h + 1) line) (less rack e) os)) else 0)
    of_anchor true =
        tries-each m rack (rest_of_anchor g line h rack) e os (fits_left (after g (label_of_entry e)) (left_of line h) (drop (h + 1) line) (less rack e) os)
        (each-left (after g (label_of_entry e)) (left_of line h) (drop (h + 1) line) (less rack e) os)
    of_anchor false = refl

-- ---- two anchors do not owe one line: the second finds the first to its left

no_earlier : (g : List ℕ → Bool) (line : List Cell) (rack y : List ℕ) (i j : ℕ) → i < j → Owed g line rack i y → Owed g line rack j y → ⊥
no_earlier g line rack y i j before first second =
    let left = shaped at_anchor (left_of line j) (left_entries y j) second.left in
    let place = j - 1 - i in
    let entry = left_entries-at y j place i (omega arith) in
    ⊎_elim
    (λ (within : place < left.0).
    both_ways first.square.anchor
    (left.1.unbarred place first.square within (left_of-at line j place i (omega arith) ∙ first.is) (λ z. first.some (sym entry ∙ z)))
    first.anchor)
    (λ (beyond : left.0 ≤ place). first.some (sym entry ∙ left.1.beyond place beyond))
    (cases_lt place left.0)

one_owes : (g : List ℕ → Bool) (line : List Cell) (rack : List ℕ) (i j : ℕ) (y : List ℕ) → owes g line rack i y ≡ true → owes g line rack j y ≡ true → i ≡ j
one_owes g line rack i j y a b =
    let first = owed g line rack i y a in
    let second = owed g line rack j y b in
    ⊎_elim
    (λ (e : i ≡ j). e)
    (λ (o : (i < j) ⊎ (j < i)).
    ⊎_elim
    (λ (l : i < j). absurd (no_earlier g line rack y i j l first second))
    (λ (l : j < i). absurd (no_earlier g line rack y j i l second first))
    o)
    (cases_order i j)

-- the moves of an anchor are those that it owes, each once
pub each-anchor : (g : List ℕ → Bool) (line : List Cell) (rack : List ℕ) (h : ℕ) → length line ≡ 15 → h < 15 → Each (owes g line rack h) (map (unwalk h) (cell_moves g line h rack (cell_at line h)))
each-anchor g line rack h size high =
    each-map (cell_fits g line h rack (cell_at line h)) (cell_moves g line h rack (cell_at line h)) (unwalk h) (walk h) (λ y. length y == 15)
    (λ x y fit. undo h x y high (cell_fits-size g line h rack (cell_at line h) x (omega arith) fit ∙ size))
    (each-cell g line h rack (cell_at line h))

-- the moves of a line are those that some anchor owes, each once
pub each-line : (g : List ℕ → Bool) (line : List Cell) (rack : List ℕ) → length line ≡ 15 → Each (λ y. any_of (λ h. owes g line rack h y) 0 15) (line_moves g line rack)
unfolding line_moves
each-line g line rack size =
    each-join (λ h y. owes g line rack h y) _ 0 15
    (λ h low high. each-anchor g line rack h size high)
    (one_owes g line rack)
