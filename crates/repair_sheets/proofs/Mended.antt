-- The lines of a sheet, one after another.
use Rattle.std.proofs.Common.{◌≡◌, ℕ, ◌+◌, ◌≤◌, List, [], ◌∷◌, ◌++◌, length, arith, sym, ap, ◌∙◌}
use Rattle.std.specs.List.{slice_split, join_with_byte}
use Rattle.std.proofs.lemmas.List.{append_assoc}
use Rattle.std.proofs.lemmas.List.Splits.{length-slice_split}
use Rattle.std.proofs.lemmas.List.Sums.{count_by-le-length}
use Rattle.text_lines.specs.Lines.{is_feed}
use Rattle.repair_sheets.specs.declared.slips.SheetSlip.{SheetSlip}
use Rattle.repair_sheets.specs.Mending.{mended_line, mended_lines}

-- one more line, after which another one comes
pub one_line_more : (out line next : List ℕ) (s : SheetSlip) (number : ℕ) (lines more : List (List ℕ)) → lines ≡ next ∷ more
    → ((out ++ mended_line s number line) ++ 10 ∷ []) ++ join_with_byte 10 (mended_lines s (number + 1) (next ∷ more))
    ≡ out ++ join_with_byte 10 (mended_lines s number (line ∷ lines))
one_line_more out line next s number lines more same =
    let rest : List ℕ = join_with_byte 10 (mended_lines s (number + 1) (next ∷ more)) in
    append_assoc (out ++ mended_line s number line) (10 ∷ []) rest ∙ append_assoc out (mended_line s number line) (10 ∷ rest)
    ∙ ap (λ (ls : List (List ℕ)). out ++ join_with_byte 10 (mended_lines s number (line ∷ ls))) (sym same)

-- a text has at most one more line than bytes
pub few_parts : (text : List ℕ) → length (slice_split is_feed text) ≤ length text + 1
few_parts text = omega (arith, length-slice_split is_feed text, count_by-le-length is_feed text)
