-- A text that is cut at its first LF.
use Rattle.std.proofs.Common.{◌≡◌, ℕ, ◌+◌, ◌-◌, List, [], ◌∷◌, length, take, drop, Some, None, sym}
use Rattle.std.specs.List.{position, slice_split}
use Rattle.text_lines.specs.Lines.{is_feed}
use Rattle.text_lines.proofs.Cuts.{rest_is, split_none, split_at}

pub lines_end : (text : List ℕ) → None ≡ position is_feed text → slice_split is_feed text ≡ text ∷ []
lines_end text e = split_none is_feed text (sym e)

pub lines_cut : (text : List ℕ) (i : ℕ) → Some i ≡ position is_feed text → slice_split is_feed text ≡ take i text ∷ slice_split is_feed (take (length text - (i + 1)) (drop (i + 1) text))
lines_cut text i e = rw (rest_is (i + 1) text) (split_at is_feed text i (sym e))
