-- A completed text, line by line.
use Rattle.std.proofs.Common.{◌≡◌, ℕ, List, [], ◌∷◌, ◌++◌, map, refl, sym, ap, ◌∙◌}
use Rattle.std.specs.List.{join_with_byte}
use Rattle.std.proofs.lemmas.List.{append_assoc}
use Rattle.gcg_drafts.specs.Texts.{completed_line}

pub one_line_more : (out line next : List ℕ) (lines more : List (List ℕ)) → lines ≡ next ∷ more
    → ((out ++ completed_line line) ++ 10 ∷ []) ++ join_with_byte 10 (completed_line next ∷ map completed_line more)
    ≡ out ++ join_with_byte 10 (completed_line line ∷ map completed_line lines)
one_line_more out line next lines more same =
    append_assoc (out ++ completed_line line) (10 ∷ []) (join_with_byte 10 (completed_line next ∷ map completed_line more))
    ∙ append_assoc out (completed_line line) (10 ∷ join_with_byte 10 (completed_line next ∷ map completed_line more))
    ∙ ap (λ l. out ++ join_with_byte 10 (completed_line line ∷ map completed_line l)) (sym same)

pub at_the_end : (out line : List ℕ) → out ++ completed_line line ≡ out ++ join_with_byte 10 (completed_line line ∷ [])
at_the_end out line = refl
