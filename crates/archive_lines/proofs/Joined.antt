-- A line is written field after field.
use Rattle.std.proofs.Common.{◌≡◌, ℕ, List, [], ◌∷◌, ◌++◌, refl, ap, sym, ◌∙◌}
use Rattle.std.proofs.lemmas.List.{append_assoc, append-nil}
use Rattle.archive_lines.specs.TabLines.{escaped, joined, line_text}
use Rattle.archive_lines.specs.Tabs.{following}

joined_is : (field : List ℕ) (fields : List (List ℕ)) → joined (field ∷ fields) ≡ escaped field ++ following fields
joined_is field [] = sym (append-nil (escaped field))
joined_is field (next ∷ fields) = ap (λ l. escaped field ++ 9 ∷ l) (joined_is next fields)

after_both : (one two : List (List ℕ)) → following (one ++ two) ≡ following one ++ following two
after_both [] two = refl
after_both (field ∷ one) two =
    ap (λ l. 9 ∷ escaped field ++ l) (after_both one two) ∙ ap (λ l. 9 ∷ l) (sym (append_assoc (escaped field) (following one) (following two)))

-- two parts, one after the other
pub two_parts : (old : List ℕ) (one two : List (List ℕ)) → (old ++ following one) ++ following two ≡ old ++ following (one ++ two)
two_parts old one two = append_assoc old (following one) (following two) ∙ ap (λ l. old ++ l) (sym (after_both one two))

-- the first field, three parts of those after it, and the LF
pub line_is : (old name : List ℕ) (one two three : List (List ℕ))
    → ((((old ++ escaped name) ++ following one) ++ following two) ++ following three) ++ 10 ∷ [] ≡ old ++ line_text (name ∷ (one ++ (two ++ three)))
line_is old name one two three =
    append_assoc (((old ++ escaped name) ++ following one) ++ following two) (following three) (10 ∷ [])
    ∙ append_assoc ((old ++ escaped name) ++ following one) (following two) (following three ++ 10 ∷ [])
    ∙ append_assoc (old ++ escaped name) (following one) (following two ++ (following three ++ 10 ∷ []))
    ∙ append_assoc old (escaped name) (following one ++ (following two ++ (following three ++ 10 ∷ [])))
    ∙ ap (λ l. old ++ l) (sym (parts name one two three))
  where
    parts : (name : List ℕ) (one two three : List (List ℕ)) → line_text (name ∷ (one ++ (two ++ three))) ≡ escaped name ++ (following one ++ (following two ++ (following three ++ 10 ∷ [])))
    parts name one two three =
        ap (λ l. l ++ 10 ∷ []) (joined_is name (one ++ (two ++ three)) ∙ ap (λ l. escaped name ++ l) (after_both one (two ++ three) ∙ ap (λ l. following one ++ l) (after_both two three)))
        ∙ append_assoc (escaped name) (following one ++ (following two ++ following three)) (10 ∷ [])
        ∙ ap (λ l. escaped name ++ l) (append_assoc (following one) (following two ++ following three) (10 ∷ []) ∙ ap (λ l. following one ++ l) (append_assoc (following two) (following three) (10 ∷ [])))
