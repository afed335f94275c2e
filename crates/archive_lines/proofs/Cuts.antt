-- A line that is cut at its first tab.
use Rattle.std.proofs.Common.{◌≡◌, ℕ, ◌+◌, ◌-◌, List, [], ◌∷◌, ◌++◌, length, take, drop, map, Some, None, sym}
use Rattle.std.specs.List.{position, slice_split}
use Rattle.std.proofs.lemmas.List.{append_assoc}
use Rattle.text_lines.proofs.Cuts.{rest_is, split_none, split_at}
use Rattle.archive_lines.specs.TabLines.{is_tab, unescaped}

pub fields_end : (line : List ℕ) → None ≡ position is_tab line → slice_split is_tab line ≡ line ∷ []
fields_end line e = split_none is_tab line (sym e)

pub fields_cut : (line : List ℕ) (i : ℕ) → Some i ≡ position is_tab line
    → slice_split is_tab line ≡ take i line ∷ slice_split is_tab (take (length line - (i + 1)) (drop (i + 1) line))
fields_cut line i e = rw (rest_is (i + 1) line) (split_at is_tab line i (sym e))

-- one more field, and the fields after its tab
pub one_field_more : (read next : List (List ℕ)) (field : List ℕ) → (read ++ unescaped field ∷ []) ++ map unescaped next ≡ read ++ map unescaped (field ∷ next)
one_field_more read next field = append_assoc read (unescaped field ∷ []) (map unescaped next)
