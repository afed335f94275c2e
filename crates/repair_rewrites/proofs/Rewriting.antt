-- A sheet without a slip that runs through it, line by line.
use Rattle.std.proofs.Common.{◌≡◌, ℕ, ◌+◌, ◌≤◌, List, [], ◌∷◌, ◌++◌, length, arith, sym, ap, ◌∙◌}
use Rattle.std.specs.List.{slice_split, join_with_byte}
use Rattle.std.proofs.lemmas.List.{append_assoc}
use Rattle.std.proofs.lemmas.List.Splits.{length-slice_split}
use Rattle.std.proofs.lemmas.List.Sums.{count_by-le-length}
use Rattle.text_lines.specs.Lines.{is_feed}
use Rattle.gcg_read.specs.declared.events.Event.{Event}
use Rattle.gcg_read.specs.declared.players.Players.{Players}
use Rattle.repair_sheets.specs.declared.slips.RunningSlip.{RunningSlip}
use Rattle.repair_rewrites.specs.EventLines.{raw_lines}
use Rattle.repair_rewrites.specs.Running.{line_without, lines_without}
use Rattle.repair_rewrites.specs.Texts.{number_after}

-- one more line, after which another one comes
pub one_line_more : (out line next : List ℕ) (s : RunningSlip) (place : ℕ) (players : Players) (right : List Event) (number : ℕ) (lines more : List (List ℕ)) → lines ≡ next ∷ more
    → ((out ++ line_without s place players right number line) ++ 10 ∷ []) ++ join_with_byte 10 (lines_without s place players right (number_after line number) (next ∷ more))
    ≡ out ++ join_with_byte 10 (lines_without s place players right number (line ∷ lines))
one_line_more out line next s place players right number lines more same =
    let first : List ℕ = line_without s place players right number line in
    let rest : List ℕ = join_with_byte 10 (lines_without s place players right (number_after line number) (next ∷ more)) in
    append_assoc (out ++ first) (10 ∷ []) rest ∙ append_assoc out first (10 ∷ rest)
    ∙ ap (λ (ls : List (List ℕ)). out ++ join_with_byte 10 (lines_without s place players right number (line ∷ ls))) (sym same)

-- a text has at most one more line than bytes
pub few_parts : (text : List ℕ) → length (raw_lines text) ≤ length text + 1
few_parts text = omega (arith, length-slice_split is_feed text, count_by-le-length is_feed text)
