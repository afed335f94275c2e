-- Plays, their faults, words and scores as the definitions give them, computed. Squares are numbered row by row from
-- 1A, which is 0: 8E is 109 and 9G is 126.
use Rattle.std.proofs.Common.{◌≡◌, ℕ, List, [], ◌∷◌, map, Option, Some, None, inr, refl, lit<}
use Rattle.std.specs.Prelude.{codes}
use Rattle.std.specs.List.{flat_map}
use Rattle.first_faults.proofs.Rows.{Agree}
use Rattle.ref_tiles.specs.declared.tiles.Tile.{Tile}
use Rattle.ref_tiles.specs.declared.symbols.Symbol.{Symbol}
use Rattle.ref_tiles.specs.declared.letters.Letter.{Letter}
use Rattle.ref_tiles.specs.English.{english, english_premiums}
use Rattle.ref_tiles.specs.Letters.{letter_at}
use Rattle.ref_tiles.specs.Faces.{letter_tile, blank_tile}
use Rattle.ref_tiles.specs.Symbols.{symbol_of}
use Rattle.ref_board.specs.declared.directions.Dir.{Dir}
use Rattle.ref_board.specs.declared.directions.Dir.TheVariants.{Across, Down}
use Rattle.ref_board.specs.Cells.{empty_board}
use Rattle.ref_board.specs.Anchors.{IsAnchor}
use Rattle.ref_play.specs.declared.placed.Placed.{Placed}
use Rattle.ref_play.specs.declared.faults.PlayFault.{PlayFault}
use Rattle.ref_play.specs.declared.faults.PlayFault.TheVariants as fault
use Rattle.ref_play.specs.Placements.{with_tiles}
use Rattle.ref_play.specs.Formed.{stretches_on, runs_along}
use Rattle.ref_play.specs.Words.{words_formed, letters_of}
use Rattle.ref_play.specs.Legality.{fault_of, overlaps, has_gap, has_no_tile, misses_centre, is_too_short, is_apart}
use Rattle.ref_play.specs.Texts.{text_cells, placement_of, text_fault, mismatches, is_open_ended}
use Rattle.ref_play.specs.Scores.{score_of, letters_score, words_factor}
use Rattle.ref_play.specs.Notations.{Written, notation_of}
use Rattle.ref_play.specs.Crosses.{old_points, cross_runs, cross_words, cross_score}

abbrev listed : Option Symbol → List Symbol
listed None = []
listed (Some s) = s ∷ []

-- the symbols that bytes write
abbrev text : List ℕ → List Symbol
text bytes = flat_map (λ byte. listed (symbol_of byte)) bytes

-- the new tiles of a text
abbrev tiles_of : List (Option Tile) → Dir → ℕ → List ℕ → List Placed
tiles_of board d at bytes = placement_of board d at (text bytes)

-- the first fault of the text, and that of its tiles
abbrev text_fails : List (Option Tile) → Dir → ℕ → List ℕ → Option PlayFault
text_fails board d at bytes = text_fault board d at (text bytes)

abbrev play_fails : List (Option Tile) → Dir → ℕ → List ℕ → Option PlayFault
play_fails board d at bytes = fault_of d board (tiles_of board d at bytes)

-- the boards after 8E WORD, and after 9G AT below it
abbrev after_word : List (Option Tile)
after_word = with_tiles empty_board (tiles_of empty_board Across 109 (codes "WORD"))

abbrev after_at : List (Option Tile)
after_at = with_tiles after_word (tiles_of after_word Across 126 (codes "AT"))

-- what the text scores
abbrev scores : List (Option Tile) → Dir → ℕ → List ℕ → ℕ
scores board d at bytes = score_of english board (tiles_of board d at bytes)

-- a text with its place, and the notation of the tiles that a text puts down
abbrev written : Dir → ℕ → List ℕ → Written
written d at bytes = record { dir = d; at = at; word = text bytes }

abbrev notates : List (Option Tile) → Dir → ℕ → List ℕ → Written
notates board d at bytes = notation_of board (tiles_of board d at bytes)

-- the faults of texts
texts_fail : Agree (
    (text_fails empty_board Across 109 (codes "WORD"), None)
    ∷ (text_fails empty_board Across 118 (codes "ABC"), Some fault.OffBoard)
    ∷ (text_fails after_word Across 108 (codes "QUA"), Some fault.Mismatch)
    ∷ (text_fails after_word Across 109 (codes "...."), Some fault.NoNewTile)
    ∷ (text_fails after_word Across 0 (codes "ABCDEFGH"), Some fault.TooManyTiles)
    ∷ (text_fails after_word Across 108 (codes "S"), Some fault.NotWhole)
    ∷ (text_fails after_word Across 113 (codes "S"), Some fault.NotWhole)
    ∷ [])
unfolding text_fault empty_board mismatches text_cells placement_of is_open_ended letter_at
texts_fail = refl

-- the faults of plays
plays_fail : Agree (
    (play_fails empty_board Across 109 (codes "WORD"), None)
    ∷ (play_fails empty_board Across 108 (codes "WORD"), Some fault.MissesCentre)
    ∷ (play_fails empty_board Across 224 (codes "A"), Some fault.MissesCentre)
    ∷ (play_fails empty_board Across 112 (codes "A"), Some fault.TooShort)
    ∷ (play_fails after_word Across 0 (codes "AT"), Some fault.Apart)
    ∷ (play_fails after_word Across 126 (codes "AT"), None)
    ∷ [])
unfolding fault_of empty_board overlaps has_gap has_no_tile misses_centre is_too_short is_apart runs_along stretches_on text_cells placement_of letter_at
plays_fail = refl

-- the words, that of the direction first
plays_form : Agree (
    (words_formed Across empty_board (tiles_of empty_board Across 109 (codes "WOrD")), codes "WORD" ∷ [])
    ∷ (words_formed Across after_word (tiles_of after_word Across 126 (codes "AT")), codes "AT" ∷ codes "RA" ∷ codes "DT" ∷ [])
    ∷ (words_formed Across after_at (tiles_of after_at Across 125 (codes "E..")), codes "EAT" ∷ codes "OE" ∷ [])
    ∷ (words_formed Down after_at (tiles_of after_at Down 110 (codes ".E")), codes "OE" ∷ codes "EAT" ∷ [])
    ∷ [])
unfolding words_formed letters_of empty_board runs_along stretches_on text_cells placement_of letter_at
plays_form = refl

-- the scores
plays_score : Agree (
    (scores empty_board Across 109 (codes "WORD"), 16)
    ∷ (scores empty_board Across 109 (codes "WOrD"), 14)
    ∷ (scores empty_board Across 106 (codes "RETAINS"), 66)
    ∷ (scores empty_board Across 108 (codes "RETAIN"), 14)
    ∷ (scores after_word Across 126 (codes "AT"), 9)
    ∷ (scores after_at Across 125 (codes "E.."), 5)
    ∷ (scores after_at Down 110 (codes ".E"), 5)
    ∷ [])
unfolding score_of letters_score words_factor english english_premiums empty_board runs_along stretches_on text_cells placement_of letter_at
plays_score = refl

-- The notations: a blank is a small letter, an old tile is a dot. A lone tile is written across if its run across has
-- two tiles, whichever text put it down, and otherwise down: what F8 `.E` puts down is 9F `E..`, and an A below the W of 8E
-- WORD, alone in its row, is E8 `.A`.
plays_are_written : Agree (
    (notates empty_board Across 109 (codes "WOrD"), written Across 109 (codes "WOrD"))
    ∷ (notates after_at Across 125 (codes "E.."), written Across 125 (codes "E.."))
    ∷ (notates after_at Down 110 (codes ".E"), written Across 125 (codes "E.."))
    ∷ (notates after_word Across 124 (codes "A"), written Down 109 (codes ".A"))
    ∷ [])
unfolding notation_of empty_board runs_along stretches_on text_cells placement_of letter_at
plays_are_written = refl

-- A new tile on 8H between an A on 8G and an A on 8I: across it makes one run of three tiles, two points of them old, and
-- an S there scores three points on the double word score of the centre. Down it makes no run.
abbrev between_two : List (Option Tile)
between_two = with_tiles (with_tiles empty_board (tiles_of empty_board Across 111 (codes "A"))) (tiles_of empty_board Across 113 (codes "A"))

abbrev letter_s : Letter
letter_s = record { index = 18; in_range = lit< tt }

s_crosses : Agree (
    (cross_words Across between_two 112 (letter_tile letter_s), codes "ASA" ∷ [])
    ∷ (cross_words Across between_two 112 (blank_tile letter_s), codes "ASA" ∷ [])
    ∷ (cross_words Down between_two 112 (letter_tile letter_s), [])
    ∷ [])
unfolding letters_of empty_board stretches_on text_cells placement_of letter_at
s_crosses = refl

two_points_are_old : map (old_points english between_two) (cross_runs Across between_two 112 (letter_tile letter_s)) ≡ 2 ∷ []
unfolding english english_premiums empty_board stretches_on text_cells placement_of letter_at
two_points_are_old = refl

s_scores_across : cross_score english Across between_two 112 (letter_tile letter_s) ≡ 6
unfolding english english_premiums empty_board stretches_on text_cells placement_of letter_at
s_scores_across = refl

-- 8H is an anchor of that board
between_is_an_anchor : IsAnchor between_two 112
unfolding empty_board text_cells placement_of letter_at
between_is_an_anchor = record { free = refl; near = inr (111, (Across, refl, inr refl), refl) }
