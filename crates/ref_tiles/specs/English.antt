-- The English game, by the tables of the rules.
use Rattle.std.specs.Prelude.{ℕ, ◌+◌, ◌/◌, ◌%◌, ◌==◌, ◌&&◌, ◌||◌, Bool, List, [], ◌∷◌, map, if◌then◌else◌, refl}
use Rattle.std.specs.List.{list_any, range_with_len}
use Rattle.ref_tiles.specs.declared.premiums.Premium.{Premium}
use Rattle.ref_tiles.specs.declared.premiums.Premium.TheVariants as premium
use Rattle.ref_tiles.specs.declared.rulebook.Rules.{Rules}
use Rattle.ref_tiles.specs.Limits.{most_tiles}

-- the number of tiles of A to Z, and of blanks
abbrev pub english_counts : List ℕ
english_counts = 9 ∷ 2 ∷ 2 ∷ 4 ∷ 12 ∷ 2 ∷ 3 ∷ 2 ∷ 9 ∷ 1 ∷ 1 ∷ 4 ∷ 2 ∷ 6 ∷ 8 ∷ 2 ∷ 1 ∷ 6 ∷ 4 ∷ 6 ∷ 4 ∷ 2 ∷ 2 ∷ 1 ∷ 2 ∷ 1 ∷ 2 ∷ []

-- the points of A to Z
abbrev pub english_points : List ℕ
english_points = 1 ∷ 3 ∷ 3 ∷ 2 ∷ 1 ∷ 4 ∷ 2 ∷ 4 ∷ 1 ∷ 8 ∷ 5 ∷ 1 ∷ 3 ∷ 1 ∷ 1 ∷ 3 ∷ 10 ∷ 1 ∷ 1 ∷ 1 ∷ 1 ∷ 4 ∷ 4 ∷ 8 ∷ 4 ∷ 10 ∷ []

abbrev is_in : List ℕ → ℕ → Bool
is_in xs x = list_any (λ y. y == x) xs

-- Rows and columns are counted from 1: column 1 is A, 8 is H, 15 is O.
abbrev is_triple_word : ℕ → ℕ → Bool
is_triple_word row column =
    (is_in (1 ∷ 15 ∷ []) row && is_in (1 ∷ 8 ∷ 15 ∷ []) column) || (row == 8 && is_in (1 ∷ 15 ∷ []) column)

abbrev is_double_word : ℕ → ℕ → Bool
is_double_word row column =
    (is_in (2 ∷ 14 ∷ []) row && is_in (2 ∷ 14 ∷ []) column) || (is_in (3 ∷ 13 ∷ []) row && is_in (3 ∷ 13 ∷ []) column)
    || (is_in (4 ∷ 12 ∷ []) row && is_in (4 ∷ 12 ∷ []) column) || (is_in (5 ∷ 11 ∷ []) row && is_in (5 ∷ 11 ∷ []) column)
    || (row == 8 && column == 8)

abbrev is_triple_letter : ℕ → ℕ → Bool
is_triple_letter row column =
    (is_in (2 ∷ 14 ∷ []) row && is_in (6 ∷ 10 ∷ []) column) || (is_in (6 ∷ 10 ∷ []) row && is_in (2 ∷ 6 ∷ 10 ∷ 14 ∷ []) column)

abbrev is_double_letter : ℕ → ℕ → Bool
is_double_letter row column =
    (is_in (1 ∷ 15 ∷ []) row && is_in (4 ∷ 12 ∷ []) column) || (is_in (3 ∷ 13 ∷ []) row && is_in (7 ∷ 9 ∷ []) column)
    || (is_in (4 ∷ 12 ∷ []) row && is_in (1 ∷ 8 ∷ 15 ∷ []) column) || (is_in (7 ∷ 9 ∷ []) row && is_in (3 ∷ 7 ∷ 9 ∷ 13 ∷ []) column)
    || (row == 8 && is_in (4 ∷ 12 ∷ []) column)

abbrev premium_of : ℕ → ℕ → Premium
premium_of row column =
    if is_triple_word row column then premium.TripleWord
    else (if is_double_word row column then premium.DoubleWord
    else (if is_triple_letter row column then premium.TripleLetter
    else (if is_double_letter row column then premium.DoubleLetter else premium.Plain)))

-- the premiums of the 225 squares, row by row
unfoldable pub english_premiums : List Premium
english_premiums = map (λ square. premium_of (square / 15 + 1) (square % 15 + 1)) (range_with_len 0 225)

-- the English game as one value
unfoldable pub english : Rules
unfolding most_tiles
english = record {
  counts = english_counts;
  points = english_points;
  premiums = english_premiums;
  bonus = 50;
  exchange_min = 7;
  zero_limit = 6;
  challenge_unit = 5;
  time_step = 5;
  tiles_in_limits = refl;
  points_in_limits = refl;
  bonus_in_limits = refl;
  exchange_in_limits = refl;
  zero_in_limits = refl;
  challenge_in_limits = refl;
  time_in_limits = refl;
}
