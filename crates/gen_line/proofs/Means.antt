-- The tests of the walk are those of the word, the squares and the rack.
use Rattle.std.proofs.Common.{◌≡◌, ℕ, zero, suc, Bool, true, false, ◌&&◌, ◌||◌, ◌==◌, not, nat_lt, if◌then◌else◌, List, [], ◌∷◌, ◌++◌, length, slice_index, slice_index_or, refl, sym, ap, ◌∙◌, arith, ⊎_elim}
use Rattle.std.proofs.lemmas.Bool.{cases_Bool, and_parts, and_right, false≢true}
use Rattle.std.proofs.Math.Bool.{and-true, and_assoc}
use Rattle.gen_line.specs.declared.cells.Cell.{Cell}
use Rattle.gen_line.specs.declared.cells.Cell.TheVariants.{Old, Free}
use Rattle.gen_line.specs.Entries.{letter_of_entry, label_of_entry, kind_of_entry}
use Rattle.gen_line.specs.Moves.{after_mark}
use Rattle.gen_line.specs.Model.{zeros, after, longer, may, less, starts_free}
use Rattle.gen_line.proofs.Tests.{same, fits_right, fits_turn, after_zeros, fits_left}
use Rattle.gen_line.proofs.Meaning.{word, shape, rack_ok, rack_after, no_bar, at_anchor}

-- entries of 0 take no tile: the rack has them, and stays
rack-zeros : (n : ℕ) (rack os : List ℕ) → same os (zeros n) ≡ true → (rack_ok rack os ≡ true) × (rack_after rack os ≡ rack)
rack-zeros n rack [] e = (refl, refl)
rack-zeros zero rack (d ∷ os) e = absurd (false≢true e)
rack-zeros (suc n) rack (d ∷ os) e =
    let parts = and_parts (d == 0) (same os (zeros n)) e in
    rw parts.0 (rack-zeros n rack os parts.1)

rack_ok-zeros : (n : ℕ) (rack os : List ℕ) → same os (zeros n) ≡ true → rack_ok rack os ≡ true
rack_ok-zeros n rack os e = (rack-zeros n rack os e).0

-- ---- to the right

-- the tests of the string, the squares and the rack, in another order
shuffle : (low may_be has goes fits some : Bool) → ((low && (may_be && has)) && (goes && (fits && some))) ≡ (goes && (((low && may_be) && fits) && (has && some)))
shuffle true true true goes fits some = refl
shuffle true true false goes true some = sym (and_right goes false refl)
shuffle true true false goes false some = sym (and_right goes false refl)
shuffle true false has goes fits some = sym (and_right goes false refl)
shuffle false may_be has goes fits some = sym (and_right goes false refl)

and_none : (g a : Bool) → false ≡ (g && (false && a))
and_none g a = sym (and_right g false refl)

-- one test follows from another
implied : (g a b : Bool) → (a ≡ true → b ≡ true) → (g && a) ≡ (g && (a && b))
implied g true b h = ap (λ x. g && x) (sym (h refl))
implied g false b h = refl

pub fits_right-is : (g : List ℕ → Bool) (cs : List Cell) (rack os : List ℕ) → fits_right g cs rack os ≡ (g (word cs os) && (shape no_bar cs os && rack_ok rack os))
unfolding fits_right may
fits_right-is g [] rack [] = sym (and-true (g []))
fits_right-is g [] rack (e ∷ os) = and_none (g []) (rack_ok rack (e ∷ os))
fits_right-is g (Old a ∷ cs) rack [] = and_none (g []) true
fits_right-is g (Old a ∷ cs) rack (e ∷ os) = by (e == 0) (fits_right-is (after g a) cs rack os)
  where
    by : (b : Bool) → fits_right (after g a) cs rack os ≡ (g (a ∷ word cs os) && (shape no_bar cs os && rack_ok rack os))
        → (b && fits_right (after g a) cs rack os)
        ≡ (g (a ∷ word cs os) && ((b && shape no_bar cs os) && (if b then rack_ok rack os else nat_lt 0 (slice_index rack (kind_of_entry e)) && rack_ok (less rack e) os)))
    by true h = h
    by false h = and_none (g (a ∷ word cs os)) (nat_lt 0 (slice_index rack (kind_of_entry e)) && rack_ok (less rack e) os)
fits_right-is g (Free m ∷ cs) rack [] = and_none (g []) true
fits_right-is g (Free m ∷ cs) rack (e ∷ os) = by (e == 0) (fits_right-is (after g (label_of_entry e)) cs (less rack e) os)
  where
    by : (b : Bool) → fits_right (after g (label_of_entry e)) cs (less rack e) os ≡ (g (label_of_entry e ∷ word cs os) && (shape no_bar cs os && rack_ok (less rack e) os))
        → (if b then g [] && same os (zeros (length cs))
        else (nat_lt e 53 && (slice_index_or m.mask (letter_of_entry e) false && nat_lt 0 (slice_index rack (kind_of_entry e)))) && fits_right (after g (label_of_entry e)) cs (less rack e) os)
        ≡ (g (if b then [] else label_of_entry e ∷ word cs os)
        && ((if b then same os (zeros (length cs)) else (nat_lt e 53 && slice_index_or m.mask (letter_of_entry e) false) && shape no_bar cs os)
        && (if b then rack_ok rack os else nat_lt 0 (slice_index rack (kind_of_entry e)) && rack_ok (less rack e) os)))
    by true h = implied (g []) (same os (zeros (length cs))) (rack_ok rack os) (rack_ok-zeros (length cs) rack os)
    by false h =
        rw h
        (shuffle (nat_lt e 53) (slice_index_or m.mask (letter_of_entry e) false) (nat_lt 0 (slice_index rack (kind_of_entry e)))
        (g (label_of_entry e ∷ word cs os)) (shape no_bar cs os) (rack_ok (less rack e) os))

-- ---- the turn

or_none : (a b : Bool) → a ≡ false → (a || b) ≡ b
or_none true b e = absurd (false≢true (sym e))
or_none false b e = refl

none_or : (a b : Bool) → b ≡ false → (a || b) ≡ a
none_or true b e = refl
none_or false b e = e

pub fits_turn-is : (g : List ℕ → Bool) (cs : List Cell) (rack ys : List ℕ) → fits_turn g cs rack ys ≡ (g (after_mark (word cs ys)) && (shape no_bar cs ys && rack_ok rack ys))
unfolding fits_turn
fits_turn-is g cs rack ys =
    rw (fits_right-is (longer (after g 0)) cs rack ys) (by cs ys)
  where
    by : (cs : List Cell) (ys : List ℕ) → (((starts_free cs && g []) && same ys (zeros (length cs))) || (longer (after g 0) (word cs ys) && (shape no_bar cs ys && rack_ok rack ys)))
        ≡ (g (after_mark (word cs ys)) && (shape no_bar cs ys && rack_ok rack ys))
    by [] [] = none_or (g [] && true) false refl
    by [] (e ∷ ys) = none_or (g [] && false) false refl
    by (Old a ∷ cs) [] = and_none (g []) true
    by (Old a ∷ cs) (e ∷ ys) = refl
    by (Free m ∷ cs) [] = none_or (g [] && false) false refl
    by (Free m ∷ cs) (e ∷ ys) = at (e == 0)
      where
        at : (b : Bool) → ((g [] && (b && same ys (zeros (length cs)))) || (longer (after g 0) (if b then [] else label_of_entry e ∷ word cs ys)
            && ((if b then same ys (zeros (length cs)) else (nat_lt e 53 && slice_index_or m.mask (letter_of_entry e) false) && shape no_bar cs ys)
            && (if b then rack_ok rack ys else nat_lt 0 (slice_index rack (kind_of_entry e)) && rack_ok (less rack e) ys))))
            ≡ (g (after_mark (if b then [] else label_of_entry e ∷ word cs ys))
            && ((if b then same ys (zeros (length cs)) else (nat_lt e 53 && slice_index_or m.mask (letter_of_entry e) false) && shape no_bar cs ys)
            && (if b then rack_ok rack ys else nat_lt 0 (slice_index rack (kind_of_entry e)) && rack_ok (less rack e) ys)))
        at true =
            none_or (g [] && same ys (zeros (length cs))) false refl
            ∙ implied (g []) (same ys (zeros (length cs))) (rack_ok rack ys) (rack_ok-zeros (length cs) rack ys)
        at false = or_none (g [] && false) _ (and_right (g []) false refl)

-- ---- to the left

after_zeros-append : (n : ℕ) (f : List ℕ → Bool) (xs ys : List ℕ) → length xs ≡ n → after_zeros n f (xs ++ ys) ≡ (same xs (zeros n) && f ys)
after_zeros-append zero f [] ys e = refl
after_zeros-append zero f (x ∷ xs) ys e = absurd (omega arith)
after_zeros-append (suc n) f [] ys e = absurd (omega arith)
after_zeros-append (suc n) f (x ∷ xs) ys e = rw (after_zeros-append n f xs ys (omega arith)) (sym (and_assoc (x == 0) (same xs (zeros n)) (f ys)))

shuffle_left : (open' low may_be has fits some goes : Bool)
    → ((open' && (low && (may_be && has))) && ((fits && some) && goes)) ≡ ((((open' && (low && may_be)) && fits) && (has && some)) && goes)
shuffle_left true true true true fits some goes = refl
shuffle_left true true true false true some goes = refl
shuffle_left true true true false false some goes = refl
shuffle_left true true false has fits some goes = refl
shuffle_left true false may_be has fits some goes = refl
shuffle_left false low may_be has fits some goes = refl

pub fits_left-is : (g : List ℕ → Bool) (ls cs : List Cell) (rack xs ys : List ℕ) → length xs ≡ length ls
    → fits_left g ls cs rack (xs ++ ys) ≡ ((shape at_anchor ls xs && rack_ok rack xs) && fits_turn (λ t. g (word ls xs ++ t)) cs (rack_after rack xs) ys)
unfolding fits_left may
fits_left-is g [] cs rack [] ys size = refl
fits_left-is g [] cs rack (x ∷ xs) ys size = absurd (omega arith)
fits_left-is g (Old a ∷ ls) cs rack [] ys size = absurd (omega arith)
fits_left-is g (Old a ∷ ls) cs rack (e ∷ xs) ys size = by (e == 0) (fits_left-is (after g a) ls cs rack xs ys (omega arith))
  where
    by : (b : Bool) → fits_left (after g a) ls cs rack (xs ++ ys) ≡ ((shape at_anchor ls xs && rack_ok rack xs) && fits_turn (λ t. g (a ∷ (word ls xs ++ t))) cs (rack_after rack xs) ys)
        → (b && fits_left (after g a) ls cs rack (xs ++ ys))
        ≡ (((b && shape at_anchor ls xs) && (if b then rack_ok rack xs else nat_lt 0 (slice_index rack (kind_of_entry e)) && rack_ok (less rack e) xs))
        && fits_turn (λ t. g (a ∷ (word ls xs ++ t))) cs (if b then rack_after rack xs else rack_after (less rack e) xs) ys)
    by true h = h
    by false h = refl
fits_left-is g (Free m ∷ ls) cs rack [] ys size = absurd (omega arith)
fits_left-is g (Free m ∷ ls) cs rack (e ∷ xs) ys size = by (e == 0) (omega arith) (fits_left-is (after g (label_of_entry e)) ls cs (less rack e) xs ys (omega arith))
  where
    by : (b : Bool) → length xs ≡ length ls
        → fits_left (after g (label_of_entry e)) ls cs (less rack e) (xs ++ ys)
        ≡ ((shape at_anchor ls xs && rack_ok (less rack e) xs) && fits_turn (λ t. g (label_of_entry e ∷ (word ls xs ++ t))) cs (rack_after (less rack e) xs) ys)
        → (if b then after_zeros (length ls) (fits_turn g cs rack) (xs ++ ys)
        else (not m.anchor && (nat_lt e 53 && (slice_index_or m.mask (letter_of_entry e) false && nat_lt 0 (slice_index rack (kind_of_entry e))))) && fits_left (after g (label_of_entry e)) ls cs (less rack e) (xs ++ ys))
        ≡ (((if b then same xs (zeros (length ls)) else (not m.anchor && (nat_lt e 53 && slice_index_or m.mask (letter_of_entry e) false)) && shape at_anchor ls xs)
        && (if b then rack_ok rack xs else nat_lt 0 (slice_index rack (kind_of_entry e)) && rack_ok (less rack e) xs))
        && fits_turn (λ t. g ((if b then [] else label_of_entry e ∷ word ls xs) ++ t)) cs (if b then rack_after rack xs else rack_after (less rack e) xs) ys)
    by true same_size h =
        after_zeros-append (length ls) (fits_turn g cs rack) xs ys same_size
        ∙ ⊎_elim
        (λ (z : same xs (zeros (length ls)) ≡ true).
        rw (z, rack_ok-zeros (length ls) rack xs z, (rack-zeros (length ls) rack xs z).1))
        (λ (z : same xs (zeros (length ls)) ≡ false). rw z)
        (cases_Bool (same xs (zeros (length ls))))
    by false same_size h =
        rw h
        (shuffle_left (not m.anchor) (nat_lt e 53) (slice_index_or m.mask (letter_of_entry e) false) (nat_lt 0 (slice_index rack (kind_of_entry e)))
        (shape at_anchor ls xs) (rack_ok (less rack e) xs) (fits_turn (λ t. g (label_of_entry e ∷ (word ls xs ++ t))) cs (rack_after (less rack e) xs) ys))

-- the whole: one path, the squares, the rack
pub fits_left-means : (g : List ℕ → Bool) (ls cs : List Cell) (rack xs ys : List ℕ) → length xs ≡ length ls
    → fits_left g ls cs rack (xs ++ ys)
    ≡ ((shape at_anchor ls xs && rack_ok rack xs) && (g (word ls xs ++ after_mark (word cs ys)) && (shape no_bar cs ys && rack_ok (rack_after rack xs) ys)))
fits_left-means g ls cs rack xs ys size =
    fits_left-is g ls cs rack xs ys size
    ∙ ap (λ b. (shape at_anchor ls xs && rack_ok rack xs) && b) (fits_turn-is (λ t. g (word ls xs ++ t)) cs (rack_after rack xs) ys)
