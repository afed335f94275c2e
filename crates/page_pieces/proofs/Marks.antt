-- The marks of a page are those of its markup.
use Rattle.std.proofs.Common.{◌≡◌, ℕ, Bool, true, false, not, List, [], ◌∷◌, ◌++◌, refl, sym, ap, ◌∙◌}
use Rattle.std.specs.Prelude.{if◌then◌else◌}
use Rattle.std.specs.List.{flat_map, list_all}
use Rattle.std.proofs.lemmas.Bool.{and_parts}
use Rattle.page_pieces.specs.Laws.{is_mark}
use Rattle.page_pieces.proofs.Safe.{safe}
use Rattle.page_pieces.specs.declared.pieces.Piece.{Piece}
use Rattle.page_pieces.specs.declared.pieces.Piece.TheVariants as piece
use Rattle.page_pieces.specs.Pieces.{written, text_of, shape, marks, marks_by, AreOfMarkup, DependOnShape}

marked : (is : Bool) (byte : ℕ) (xs ys : List ℕ) → (if is then byte ∷ (xs ++ ys) else (xs ++ ys)) ≡ (if is then byte ∷ xs else xs) ++ ys
marked true byte xs ys = refl
marked false byte xs ys = refl

marks_both : (xs ys : List ℕ) → marks (xs ++ ys) ≡ marks xs ++ marks ys
unfolding marks
marks_both [] ys = refl
marks_both (byte ∷ xs) ys = ap (λ zs. if is_mark byte then byte ∷ zs else zs) (marks_both xs ys) ∙ marked (is_mark byte) byte (marks xs) (marks ys)

unmarked_first : (is : Bool) (byte : ℕ) (xs : List ℕ) → not is ≡ true → (if is then byte ∷ xs else xs) ≡ xs
unmarked_first true byte xs none = cc
unmarked_first false byte xs none = refl

unmarked : (xs : List ℕ) → list_all (λ byte. not (is_mark byte)) xs ≡ true → marks xs ≡ []
unfolding marks
unmarked [] none = refl
unmarked (byte ∷ xs) none =
    let parts = and_parts (not (is_mark byte)) (list_all (λ b. not (is_mark b)) xs) none in
    unmarked_first (is_mark byte) byte (marks xs) parts.0 ∙ unmarked xs parts.1

by_shape : (p : Piece) → marks (written p) ≡ marks_by (shape p)
by_shape (piece.Markup markup) = refl
by_shape (piece.Text text) = unmarked _ (safe _)
by_shape (piece.Recorded text encoding) = unmarked _ (safe _)
by_shape (piece.Number n) = unmarked _ (safe _)
by_shape (piece.Many n) = unmarked _ (safe _)
by_shape (piece.Tiles tiles) = unmarked _ (safe _)
by_shape (piece.Play at dir word) = unmarked _ (safe _)

pub of_markup : AreOfMarkup
unfolding marks
of_markup [] = refl
of_markup (p ∷ pieces) =
    marks_both (written p) (text_of pieces) ∙ ap (λ xs. xs ++ marks (text_of pieces)) (by_shape p) ∙ ap (λ ys. marks_by (shape p) ++ ys) (of_markup pieces)

pub by_shape_alone : DependOnShape
by_shape_alone pieces others same = of_markup pieces ∙ ap (flat_map marks_by) same ∙ sym (of_markup others)
