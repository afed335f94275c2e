-- The event lines of a text, line by line.
use Rattle.std.proofs.Common.{◌≡◌, ℕ, List, [], ◌∷◌, ◌++◌, filter, sym, ap, ◌∙◌}
use Rattle.std.proofs.lemmas.List.{append_assoc}
use Rattle.std.proofs.lemmas.List.Elements.{filter-append}
use Rattle.gcg_numbers.specs.Numbers.{is_event_line}

pub one_line_more : (had : List (List ℕ)) (line next : List ℕ) (lines more : List (List ℕ)) → lines ≡ next ∷ more
    → (had ++ filter is_event_line (line ∷ [])) ++ filter is_event_line (next ∷ more) ≡ had ++ filter is_event_line (line ∷ lines)
one_line_more had line next lines more same =
    append_assoc had (filter is_event_line (line ∷ [])) (filter is_event_line (next ∷ more))
    ∙ ap (λ l. had ++ l) (sym (filter-append is_event_line (line ∷ []) (next ∷ more)))
    ∙ ap (λ l. had ++ filter is_event_line (line ∷ l)) (sym same)
