-- Cross values as the definitions give them, computed: an A on 8G and an A on 8I of an empty board, and the words AT, TA, ABAS,
-- TABA. Squares are numbered row by row from 1A, which is 0: 8F is 110, 8H is 112 and 8J is 114.
use Rattle.std.proofs.Common.{◌≡◌, ℕ, Bool, true, false, List, [], ◌∷◌, map, Option, Some, refl, lit<}
use Rattle.std.specs.Prelude.{codes}
use Rattle.std.specs.List.{list_all}
use Rattle.first_faults.proofs.Rows.{Agree}
use Rattle.ref_tiles.specs.declared.tiles.Tile.{Tile}
use Rattle.ref_tiles.specs.declared.letters.Letter.{Letter}
use Rattle.ref_tiles.specs.English.{english}
use Rattle.ref_tiles.specs.Faces.{letter_tile, blank_tile, letter_a}
use Rattle.ref_board.specs.declared.directions.Dir.TheVariants.{Across, Down}
use Rattle.ref_board.specs.Cells.{empty_board, with_tile}
use Rattle.lex_list.specs.Words.{is_listed}
use Rattle.ref_play.specs.Formed.{stretches_on}
use Rattle.ref_play.specs.Words.{letters_of}
use Rattle.ref_play.specs.Crosses.{cross_words}
use Rattle.gen_cross.specs.Values.{side_points}

abbrev two_tiles : List (Option Tile)
two_tiles = with_tile (with_tile empty_board 111 (Some (letter_tile letter_a))) 113 (Some (letter_tile letter_a))

abbrev four_words : List (List ℕ)
four_words = codes "AT" ∷ codes "TA" ∷ codes "ABAS" ∷ codes "TABA" ∷ []

abbrev letter_b : Letter
letter_b = record { index = 1; in_range = lit< tt }

abbrev letter_t : Letter
letter_t = record { index = 19; in_range = lit< tt }

-- whether the cross words of some letters, in a play down, are listed
abbrev allowed : ℕ → List Bool
allowed square = map (λ l. list_all (is_listed four_words) (cross_words Across two_tiles square (letter_tile l))) (letter_a ∷ letter_b ∷ letter_t ∷ [])

-- before, between and after the tiles, and in the row below, if no tile lies beside: any letter
letters_allowed : Agree (
    (allowed 110, false ∷ false ∷ true ∷ [])
    ∷ (allowed 112, false ∷ false ∷ false ∷ [])
    ∷ (allowed 114, false ∷ false ∷ true ∷ [])
    ∷ (allowed 127, true ∷ true ∷ true ∷ [])
    ∷ [])
unfolding is_listed empty_board stretches_on letters_of
letters_allowed = refl

-- the points beside, in a play down, and in a play across
sides : Agree (
    (map (side_points english Down two_tiles) (110 ∷ 112 ∷ 114 ∷ 127 ∷ []), 1 ∷ 2 ∷ 1 ∷ 0 ∷ [])
    ∷ (map (side_points english Across two_tiles) (110 ∷ 112 ∷ 114 ∷ 127 ∷ []), 0 ∷ 0 ∷ 0 ∷ 0 ∷ [])
    ∷ [])
unfolding english empty_board stretches_on
sides = refl

-- blanks count 0
blanks_beside : side_points english Down (with_tile empty_board 111 (Some (blank_tile letter_b))) 112 ≡ 0
unfolding english empty_board stretches_on
blanks_beside = refl
