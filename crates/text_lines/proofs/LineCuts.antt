-- A text that is cut at its first LF.
use Rattle.std.proofs.Common.{◌≡◌, ℕ, ◌+◌, ◌-◌, ◌≤◌, List, [], ◌∷◌, length, take, drop, Some, None, arith, sym, refl}
use Rattle.std.specs.List.{position, slice_split}
use Rattle.std.proofs.lemmas.List.{length-map}
use Rattle.std.proofs.lemmas.List.Splits.{length-slice_split}
use Rattle.std.proofs.lemmas.List.Sums.{count_by-le-length}
use Rattle.text_lines.specs.Lines.{is_feed, lines_in, without_return}
use Rattle.text_lines.proofs.Cuts.{rest_is, split_none, split_at}

pub line_last : (text : List ℕ) → position is_feed text ≡ None → lines_in text ≡ without_return text ∷ []
unfolding lines_in
line_last text e = rw (split_none is_feed text e) refl

pub line_next : (text : List ℕ) (i : ℕ) → position is_feed text ≡ Some i → lines_in text ≡ without_return (take i text) ∷ lines_in (drop (i + 1) text)
unfolding lines_in
line_next text i e = rw (split_at is_feed text i e) refl

-- ---- in the reader's own form

pub lines_cut : (text line : List ℕ) (i : ℕ) → Some i ≡ position is_feed text → line ≡ without_return (take i text)
    → lines_in text ≡ line ∷ lines_in (take (length text - (i + 1)) (drop (i + 1) text))
lines_cut text line i e cut =
    rw (rest_is (i + 1) text, cut) (line_next text i (sym e))

pub lines_end : (text line : List ℕ) → None ≡ position is_feed text → line ≡ without_return text → lines_in text ≡ line ∷ []
lines_end text line e cut = rw cut (line_last text (sym e))

-- a text has at most one more line than bytes
pub few_lines : (text : List ℕ) → length (lines_in text) ≤ length text + 1
unfolding lines_in
few_lines text =
    omega (arith, length-map (slice_split is_feed text) without_return, length-slice_split is_feed text, count_by-le-length is_feed text)
