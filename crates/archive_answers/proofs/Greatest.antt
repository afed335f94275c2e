-- The greatest of some statuses, and of one more.
use Rattle.std.proofs.Common.{◌≡◌, ◌∙◌, ℕ, max, List, [], ◌∷◌, ◌++◌, map, ap, sym, arith}
use Rattle.game_exits.specs.Exits.{status_of}
use Rattle.archive_lines.specs.declared.fields.Fields.{Fields}
use Rattle.archive_answers.specs.declared.runs.RunLines.{RunLines}
use Rattle.archive_answers.specs.Exits.{status_of_line, greatest, EndsAfter}

of_three : (a b c : ℕ) → max a (max b c) ≡ max (max a b) c
of_three a b c = omega arith

of_none : (a : ℕ) → max a 0 ≡ max 0 a
of_none a = omega arith

more_lines : (lines : List Fields) (line : Fields) → greatest (map status_of_line (lines ++ line ∷ [])) ≡ max (greatest (map status_of_line lines)) (status_of_line line)
more_lines [] line = of_none (status_of_line line)
more_lines (first ∷ rest) line =
    ap (λ (n : ℕ). max (status_of_line first) n) (more_lines rest line) ∙ of_three (status_of_line first) (greatest (map status_of_line rest)) (status_of_line line)

pub one_more : (lines : List Fields) (line : Fields) (old new : RunLines) → status_of new.worst ≡ max (status_of old.worst) (status_of_line line) → EndsAfter lines old
    → EndsAfter (lines ++ line ∷ []) new
one_more lines line old new is ends = is ∙ ap (λ (n : ℕ). max n (status_of_line line)) ends ∙ sym (more_lines lines line)
