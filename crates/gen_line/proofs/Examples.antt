-- The walk over small lines with the paths of one word, computed. A is letter 0 and T is letter 19, so their entries are 1 and 39,
-- or 2 and 40 if a blank shows them; their labels are 1 and 20.
use Rattle.std.proofs.Common.{◌≡◌, ℕ, ◌==◌, ◌<◌, length, nat_lt, Bool, true, false, ◌||◌, ◌&&◌, List, [], ◌∷◌, ◌++◌, replicate, get_or, refl, sym, ◌∙◌, arith, ⊎_elim}
use Rattle.std.proofs.lemmas.Bool.{agree_below_at, or_cases, eqb-true, le-ltb, ne_eqb, false≢true, and_right}
use Rattle.gen_line.specs.declared.cells.Cell.{Cell}
use Rattle.gen_line.specs.declared.cells.Cell.TheVariants.{Old, Free}
use Rattle.gen_line.specs.Cells.{cell_at, cell_ok, full_on}
use Rattle.gen_line.specs.Moves.{IsMove, AreSplits, back, after_mark}
use Rattle.gen_line.specs.Model.{right, turn, left, tries, may, less, left_of, line_moves}
use Rattle.gen_line.specs.Walk.{after_moves, gives_after, gives_tries_left, gives_one_left, finish_left, finish_right}
use Rattle.gen_line.proofs.Tests.{same}
use Rattle.gen_line.proofs.Joins.{rack_ok-uses}
use Rattle.gen_line.proofs.Lines.{back-size}

-- the paths of the word AT: A, the mark and T; T and A, read from the right
abbrev paths_of_at : List ℕ → Bool
paths_of_at string = same string (1 ∷ 0 ∷ 20 ∷ []) || same string (20 ∷ 1 ∷ [])

-- free squares that allow every letter, and those that are anchors
abbrev free : Cell
free = Free (record { mask = replicate 26 true; anchor = false })

abbrev anchor : Cell
anchor = Free (record { mask = replicate 26 true; anchor = true })

-- a square that is an anchor, but allows no letter
abbrev closed : Cell
closed = Free (record { mask = replicate 26 false; anchor = true })

abbrev many : ℕ → List Cell
many n = replicate n free

-- an empty line with an anchor in the middle
abbrev empty_line : List Cell
empty_line = many 7 ++ anchor ∷ many 7

-- racks of a few tiles: one A and one T; one A; one blank
abbrev rack_at : List ℕ
rack_at = 1 ∷ replicate 18 0 ++ 1 ∷ replicate 7 0

abbrev rack_a : List ℕ
rack_a = 1 ∷ replicate 26 0

abbrev rack_blank : List ℕ
rack_blank = replicate 26 0 ++ 1 ∷ []

-- both ways to lay the word on the anchor
both_ways : line_moves paths_of_at empty_line rack_at
    ≡ (replicate 7 0 ++ 1 ∷ 39 ∷ replicate 6 0) ∷ (replicate 6 0 ++ 1 ∷ 39 ∷ replicate 7 0) ∷ []
unfolding line_moves left right turn tries may less left_of
both_ways = refl

-- two anchors side by side: what covers both is given once
two_anchors : line_moves paths_of_at (many 7 ++ anchor ∷ anchor ∷ many 6) rack_at
    ≡ (replicate 7 0 ++ 1 ∷ 39 ∷ replicate 6 0) ∷ (replicate 6 0 ++ 1 ∷ 39 ∷ replicate 7 0) ∷ (replicate 8 0 ++ 1 ∷ 39 ∷ replicate 5 0) ∷ []
unfolding line_moves left right turn tries may less left_of
two_anchors = refl

-- a T that lies there, with an anchor on both sides: A goes before it
abbrev old_t : List Cell
old_t = many 6 ++ anchor ∷ Old 20 ∷ anchor ∷ many 6

abbrev a_before : List ℕ
a_before = replicate 6 0 ++ 1 ∷ replicate 8 0

front_hook : line_moves paths_of_at old_t rack_a ≡ a_before ∷ []
unfolding line_moves left right turn tries may less left_of
front_hook = refl

-- .. by the walk that begins with the T after that anchor, which is the first letter of what is read from the right, and finds
-- nothing if no string begins with it
after_hook : after_moves (λ string. paths_of_at (20 ∷ string)) old_t 7 rack_a 6 ≡ a_before ∷ []
unfolding gives_after gives_tries_left gives_one_left left right turn tries may less left_of finish_left finish_right
after_hook = refl

after_other : after_moves (λ string. paths_of_at (24 ∷ string)) old_t 7 rack_a 6 ≡ []
unfolding gives_after gives_tries_left gives_one_left left right turn tries may less left_of finish_left finish_right
after_other = refl

-- .. and so does a blank
blank_hook : line_moves paths_of_at old_t rack_blank ≡ (replicate 6 0 ++ 2 ∷ replicate 8 0) ∷ []
unfolding line_moves left right turn tries may less left_of
blank_hook = refl

-- an A at the edge of the board: T goes after it
edge_hook : line_moves paths_of_at (Old 1 ∷ anchor ∷ many 13) rack_at ≡ (0 ∷ 39 ∷ replicate 13 0) ∷ []
unfolding line_moves left right turn tries may less left_of
edge_hook = refl

-- no move if another tile would be in front of the word, if the cross-set has no letter, or with an empty rack
no_third_letter : line_moves paths_of_at (many 5 ++ Old 24 ∷ anchor ∷ Old 20 ∷ many 7) rack_at ≡ []
unfolding line_moves left right turn tries may less left_of
no_third_letter = refl

no_letter_allowed : line_moves paths_of_at (many 6 ++ closed ∷ Old 20 ∷ closed ∷ many 6) rack_at ≡ []
unfolding line_moves left right turn tries may less left_of
no_letter_allowed = refl

no_tile : line_moves paths_of_at old_t (replicate 27 0) ≡ []
unfolding line_moves left right turn tries may less left_of
no_tile = refl

-- ---- the same, from the definition of a move

abbrev is_at : List ℕ → Bool
is_at labels = same labels (1 ∷ 20 ∷ [])

-- A before the T is a move: its stretch is the places 6 and 7
hook_is_a_move : IsMove is_at old_t rack_a a_before 6 2
unfolding less
hook_is_a_move = record {
  size = refl;
  whole = record {
    inside = omega arith;
    filled = λ place low high. or_right_of (nat_lt place 6) (full_on old_t a_before place) (agree_below_at (λ i. nat_lt i 6 || full_on old_t a_before i) (λ i. true) 8 place refl high) (le-ltb place 6 low);
    before = λ some. refl;
    after = λ more. refl;
  };
  allowed = λ i below. agree_below_at (λ i. cell_ok (cell_at old_t i) (get_or a_before i 0)) (λ i. true) 15 i refl below;
  within = λ i below some.
      ⊎_elim
      (λ (none : (get_or a_before i 0 == 0) ≡ true). absurd (some (eqb-true (get_or a_before i 0) 0 none)))
      (λ (here : (i == 6) ≡ true). let is = eqb-true i 6 here in (omega arith, omega arith))
      (or_cases (get_or a_before i 0 == 0) (i == 6) (agree_below_at (λ i. (get_or a_before i 0 == 0) || (i == 6)) (λ i. true) 15 i refl below));
  anchored = (6, omega arith, λ e. absurd (omega arith), refl);
  word = refl;
  fits = rack_ok-uses rack_a a_before refl;
}
  where
    or_right_of : (a b : Bool) → (a || b) ≡ true → a ≡ false → b ≡ true
    or_right_of true b e n = absurd (false≢true (sym n))
    or_right_of false b e n = e

-- ---- the paths of the word are those of its splits

no_other : (p z : Bool) → (p || (z && false)) ≡ p
no_other true z = refl
no_other false z = and_right z false refl

no_mark : (a b : ℕ) (t : List ℕ) → 0 < b → paths_of_at (a ∷ b ∷ t) ≡ ((b == 1) && ((a == 20) && same t []))
no_mark a b t some = rw (ne_eqb b 0 (λ z. omega arith)) (by (a == 1) (a == 20) (b == 1))
  where
    by : (w x y : Bool) → ((w && false) || (x && (y && same t []))) ≡ (y && (x && same t []))
    by true true y = refl
    by true false y = sym (and_right y false refl)
    by false true y = refl
    by false false y = sym (and_right y false refl)

too_long : (word : List ℕ) → 2 < length word → is_at word ≡ false
too_long [] more = absurd (omega arith)
too_long (a ∷ []) more = absurd (omega arith)
too_long (a ∷ b ∷ []) more = absurd (omega arith)
too_long (a ∷ b ∷ c ∷ word) more = and_right (a == 1) ((b == 20) && false) (and_right (b == 20) false refl)

paths_are_splits : AreSplits paths_of_at is_at
paths_are_splits [] rest some all = absurd (omega arith)
paths_are_splits (a ∷ []) [] some all = no_other ((a == 1) && false) (a == 20)
paths_are_splits (a ∷ []) (b ∷ rest) some all = no_other ((a == 1) && ((b == 20) && same rest [])) (a == 20)
paths_are_splits (a ∷ b ∷ []) [] some all = no_mark a b [] (all 1 0 (omega arith))
paths_are_splits (a ∷ b ∷ []) (c ∷ rest) some all = no_mark a b (0 ∷ c ∷ rest) (all 1 0 (omega arith))
paths_are_splits (a ∷ b ∷ c ∷ ls) rest some all =
    no_mark a b (c ∷ (ls ++ after_mark rest)) (all 1 0 (omega arith))
    ∙ and_right (b == 1) ((a == 20) && false) (and_right (a == 20) false refl)
    ∙ sym (too_long (back ls (c ∷ b ∷ a ∷ rest)) (omega (arith, back-size ls (c ∷ b ∷ a ∷ rest))))
