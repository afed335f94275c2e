-- A lexicon for the paths of a list of words, together with the lines of a board, is a setting of the law of a whole board; and
-- what the moves of its lines put down.
use Rattle.std.proofs.Common.{◌≡◌, ℕ, ◌<◌, Bool, List, [], ◌∷◌, ◌++◌, map, length, refl, sym, ap, ◌∙◌, append_assoc, Option}
use Rattle.std.specs.Prelude.{reverse, slice_index_or}
use Rattle.std.proofs.lemmas.List.{reverse-append}
use Rattle.lex_list.specs.RotatedPaths.{letter_of, StandsFor}
use Rattle.lex_list.specs.RotatedPaths as paths
use Rattle.lex_list.specs.Words.{is_listed}
use Rattle.lex_list.proofs.Orders.{listed_from_member, member_from_listed}
use Rattle.lex_list.proofs.Splitting.{split}
use Rattle.ref_tiles.specs.declared.tiles.Tile.{Tile}
use Rattle.ref_tiles.specs.declared.rulebook.Rules.{Rules}
use Rattle.ref_board.specs.declared.directions.Dir.{Dir}
use Rattle.ref_board.specs.declared.directions.Dir.TheVariants.{Across, Down}
use Rattle.gen_cross.specs.declared.crosses.Cross.{Cross}
use Rattle.gen_cross.specs.Values.{HasMasks, IsRight}
use Rattle.gen_line.specs.declared.cells.Cell.{Cell}
use Rattle.gen_line.specs.Moves.{back, after_mark, AreSplits}
use Rattle.gen_moves.specs.BoardLines.{IsLineOf}
use Rattle.gen_moves.specs.Laws.{AreLong, Setting}
use Rattle.gen_moves.specs.Reporting.{both_cells}

-- ---- the test of paths has the splits of each word
abbrev pub lists : List (List ℕ) → List ℕ → Bool
lists words ls = is_listed words (map letter_of ls)

after_is : (rest : List ℕ) → after_mark rest ≡ paths.after_mark rest
after_is [] = refl
after_is (l ∷ ls) = refl

back_is : (ls rest : List ℕ) → back ls rest ≡ reverse ls ++ rest
back_is [] rest = refl
back_is (l ∷ ls) rest =
    back_is ls (l ∷ rest) ∙ sym (append_assoc (reverse ls) (l ∷ []) rest) ∙ ap (λ (xs : List ℕ). xs ++ rest) (sym (reverse-append (l ∷ []) ls))

splits_of : (words : List (List ℕ)) (g : List ℕ → Bool) → StandsFor g words → AreSplits g (lists words)
splits_of words g stands ls rest some above =
    ap (λ (following : List ℕ). g (ls ++ following)) (after_is rest) ∙ split words g stands ls rest some above ∙ ap (lists words) (sym (back_is ls rest))

pub set_up : (words : List (List ℕ)) (board : List (Option Tile)) (g : List ℕ → Bool) (a b : List (List Cell)) → length board ≡ 225 → StandsFor g words → AreLong words
    → ((line : ℕ) → line < 15 → IsLineOf words Across board line (slice_index_or a line [])) → ((line : ℕ) → line < 15 → IsLineOf words Down board line (slice_index_or b line []))
    → Setting words board g (lists words) (both_cells a b)
set_up words board g a b size stands long across down =
    record {
      size = size;
      lines = lines;
      splits = splits_of words g stands;
      reported = λ ls. (member_from_listed words (map letter_of ls), listed_from_member words (map letter_of ls));
      long = long;
    }
  where
    lines : (d : Dir) (line : ℕ) → line < 15 → IsLineOf words d board line (both_cells a b d line)
    lines Across line low = across line low
    lines Down line low = down line low

-- the cells of all lines, made with cross-sets that are those of the board
pub setting_of : (rules : Rules) (words : List (List ℕ)) (board : List (Option Tile)) (cross : Cross) (g : List ℕ → Bool) (a b : List (List Cell)) → length board ≡ 225 → StandsFor g words → AreLong words
    → IsRight rules words board cross
    → (HasMasks words board cross → (line : ℕ) → line < 15 → IsLineOf words Across board line (slice_index_or a line []))
    → (HasMasks words board cross → (line : ℕ) → line < 15 → IsLineOf words Down board line (slice_index_or b line [])) → Setting words board g (lists words) (both_cells a b)
setting_of rules words board cross g a b size stands long right across down =
    let masks : HasMasks words board cross = λ d square on free. (right d square on).mask free in
    set_up words board g a b size stands long (across masks) (down masks)
