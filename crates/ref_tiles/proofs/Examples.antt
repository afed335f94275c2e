-- Rules texts as the definitions give them, computed: the English game, and the first fault of others.
use Rattle.std.proofs.Common.{◌≡◌, ℕ, List, [], ◌∷◌, ◌++◌, drop, refl}
use Rattle.std.specs.Prelude.{Ok, Err, codes}
use Rattle.first_faults.proofs.Rows.{Agree}
use Rattle.text_lines.specs.Lines.{lines_in}
use Rattle.text_lines.specs.Fields.{fields_of}
use Rattle.ref_tiles.specs.declared.rules_faults.RulesWhy.TheVariants as why
use Rattle.ref_tiles.specs.Codes.{premium_of}
use Rattle.ref_tiles.specs.English.{english, english_counts, english_premiums}
use Rattle.ref_tiles.specs.Letters.{letter_at}
use Rattle.ref_tiles.specs.Limits.{most_tiles}
use Rattle.ref_tiles.specs.Parts.{parts_of}
use Rattle.ref_tiles.specs.RulesFaults.{at_line}
use Rattle.ref_tiles.specs.Statements.{parameter_in, tile_of, tile_in, row_of, number_in, statement_in, statement_of}
use Rattle.ref_tiles.specs.RulesTexts.{entry_in, entries_in, fault_after, first_bad_line, counts_with, points_with, premiums_with, whole_fault, parts_in, meaning_of}

-- ---- the English game

abbrev tiles_from_b : List ℕ
tiles_from_b =
    codes "tile B 2 3" ++ 10 ∷ codes "tile C 2 3" ++ 10 ∷ codes "tile D 4 2" ++ 10 ∷ codes "tile E 12 1" ++ 10 ∷
    codes "tile F 2 4" ++ 10 ∷ codes "tile G 3 2" ++ 10 ∷ codes "tile H 2 4" ++ 10 ∷ codes "tile I 9 1" ++ 10 ∷
    codes "tile J 1 8" ++ 10 ∷ codes "tile K 1 5" ++ 10 ∷ codes "tile L 4 1" ++ 10 ∷ codes "tile M 2 3" ++ 10 ∷
    codes "tile N 6 1" ++ 10 ∷ codes "tile O 8 1" ++ 10 ∷ codes "tile P 2 3" ++ 10 ∷ codes "tile Q 1 10" ++ 10 ∷
    codes "tile R 6 1" ++ 10 ∷ codes "tile S 4 1" ++ 10 ∷ codes "tile T 6 1" ++ 10 ∷ codes "tile U 4 1" ++ 10 ∷
    codes "tile V 2 4" ++ 10 ∷ codes "tile W 2 4" ++ 10 ∷ codes "tile X 1 8" ++ 10 ∷ codes "tile Y 2 4" ++ 10 ∷
    codes "tile Z 1 10" ++ 10 ∷ codes "tile ? 2 0" ++ 10 ∷ []

abbrev row_8 : List ℕ
row_8 = codes "row 8 T..d...D...d..T" ++ 10 ∷ []

abbrev other_rows : List ℕ
other_rows =
    codes "row 1 T..d...T...d..T" ++ 10 ∷ codes "row 2 .D...t...t...D." ++ 10 ∷ codes "row 3 ..D...d.d...D.." ++ 10 ∷
    codes "row 4 d..D...d...D..d" ++ 10 ∷ codes "row 5 ....D.....D...." ++ 10 ∷ codes "row 6 .t...t...t...t." ++ 10 ∷
    codes "row 7 ..d...d.d...d.." ++ 10 ∷ codes "row 9 ..d...d.d...d.." ++ 10 ∷ codes "row 10 .t...t...t...t." ++ 10 ∷
    codes "row 11 ....D.....D...." ++ 10 ∷ codes "row 12 d..D...d...D..d" ++ 10 ∷ codes "row 13 ..D...d.d...D.." ++ 10 ∷
    codes "row 14 .D...t...t...D." ++ 10 ∷ codes "row 15 T..d...T...d..T" ++ 10 ∷ []

abbrev parameters : List ℕ
parameters =
    codes "bonus 50" ++ 10 ∷ codes "exchange_min 7" ++ 10 ∷ codes "zero_limit 6" ++ 10 ∷ codes "challenge_unit 5" ++ 10 ∷
    codes "time_step 5" ++ 10 ∷ []

-- the text of the English game, with another line of the tile A
abbrev text_with : List ℕ → List ℕ
text_with a = a ++ tiles_from_b ++ row_8 ++ other_rows ++ parameters

abbrev english_text : List ℕ
english_text = text_with (codes "tile A 9 1" ++ 10 ∷ [])

english_meaning : meaning_of english_text ≡ Ok (parts_of english)
unfolding meaning_of parts_in first_bad_line fault_after whole_fault entries_in entry_in counts_with points_with premiums_with statement_of statement_in tile_in tile_of row_of number_in parameter_in lines_in fields_of premium_of letter_at most_tiles english english_premiums
english_meaning = refl

-- 200 tiles
all_tiles : meaning_of (text_with (codes "tile A 109 1" ++ 10 ∷ [])) ≡ Ok (record (parts_of english) { counts = 109 ∷ drop 1 english_counts })
unfolding meaning_of parts_in first_bad_line fault_after whole_fault entries_in entry_in counts_with points_with premiums_with statement_of statement_in tile_in tile_of row_of number_in parameter_in lines_in fields_of premium_of letter_at most_tiles english english_premiums
all_tiles = refl

tile_more : meaning_of (text_with (codes "tile A 110 1" ++ 10 ∷ [])) ≡ Err (at_line 0 why.Limits)
unfolding meaning_of parts_in first_bad_line fault_after whole_fault entries_in entry_in counts_with points_with premiums_with statement_of statement_in tile_in tile_of row_of number_in parameter_in lines_in fields_of premium_of letter_at most_tiles
tile_more = refl

no_row_8 : meaning_of (codes "tile A 9 1" ++ 10 ∷ tiles_from_b ++ other_rows ++ parameters) ≡ Err (at_line 0 why.Missing)
unfolding meaning_of parts_in first_bad_line fault_after whole_fault entries_in entry_in counts_with points_with premiums_with statement_of statement_in tile_in tile_of row_of number_in parameter_in lines_in fields_of premium_of letter_at most_tiles
no_row_8 = refl

-- an extra line after the 47 lines
bonus_again : meaning_of (english_text ++ codes "bonus 50") ≡ Err (at_line 48 why.Twice)
unfolding meaning_of parts_in first_bad_line fault_after entry_in statement_of statement_in tile_in tile_of row_of number_in parameter_in lines_in fields_of premium_of letter_at
bonus_again = refl

-- an extra line before them
blank_first : meaning_of (codes "tile ? 2 1" ++ 10 ∷ english_text) ≡ Err (at_line 1 why.Number)
unfolding meaning_of parts_in first_bad_line fault_after entry_in statement_of statement_in tile_in tile_of row_of number_in parameter_in lines_in fields_of premium_of letter_at
blank_first = refl

-- ---- short texts

-- the first fault of each text: empty lines, lines of blanks and lines that begin with # are ignored, and counted; and a line that
-- has a fault of its own and is about the item of an earlier line has its own fault
first_faults : Agree (
    (meaning_of (codes "tiles A 9 1"), Err (at_line 1 why.Unknown))
    ∷ (meaning_of (codes "# tiles" ++ 10 ∷ 13 ∷ 10 ∷ 32 ∷ 9 ∷ 10 ∷ codes "Tile A 9 1"), Err (at_line 4 why.Unknown))
    ∷ (meaning_of (codes "tile A 9"), Err (at_line 1 why.Fields))
    ∷ (meaning_of (codes "bonus 50 50"), Err (at_line 1 why.Fields))
    ∷ (meaning_of (codes "tile a 9 1"), Err (at_line 1 why.Name))
    ∷ (meaning_of (codes "row 16 T..d...T...d..T"), Err (at_line 1 why.Name))
    ∷ (meaning_of (codes "row 1 T..d...T...d.."), Err (at_line 1 why.Name))
    ∷ (meaning_of (codes "row 1 T..d...T...d..X"), Err (at_line 1 why.Name))
    ∷ (meaning_of (codes "tile A 0009 1"), Err (at_line 1 why.Number))
    ∷ (meaning_of (codes "tile ? 2 1"), Err (at_line 1 why.Number))
    ∷ (meaning_of (codes "bonus 50" ++ 10 ∷ codes "bonus 50"), Err (at_line 2 why.Twice))
    ∷ (meaning_of (codes "bonus 50" ++ 10 ∷ codes "bonus x"), Err (at_line 2 why.Number))
    ∷ (meaning_of [], Err (at_line 0 why.Missing))
    ∷ (meaning_of (codes "bonus 50"), Err (at_line 0 why.Missing))
    ∷ [])
unfolding meaning_of parts_in first_bad_line fault_after statement_of statement_in parameter_in lines_in fields_of tile_in number_in tile_of letter_at row_of premium_of entry_in whole_fault entries_in
first_faults = refl
