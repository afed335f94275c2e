-- A sheet with a change, line by line.
use Rattle.std.proofs.Common.{◌≡◌, ℕ, ◌+◌, ◌<◌, Bool, true, false, List, [], ◌∷◌, ◌++◌, length, filter, arith, refl, sym, ap, ◌∙◌}
use Rattle.std.proofs.lemmas.List.{append_assoc, append-nil}
use Rattle.std.proofs.lemmas.List.Concat.{flat_map-append}
use Rattle.gcg_read.specs.declared.events.Event.{Event}
use Rattle.gcg_read.specs.declared.players.Players.{Players}
use Rattle.gcg_numbers.specs.Numbers.{is_event_line}
use Rattle.gcg_write.specs.Normal.{text_of_lines}
use Rattle.repair_changes.specs.declared.slips.Change.{Change}
use Rattle.repair_rewrites.specs.Texts.{for_line, number_after, repaired_lines}

-- ---- the text of lines

both : (xs ys : List (List ℕ)) → text_of_lines (xs ++ ys) ≡ text_of_lines xs ++ text_of_lines ys
both xs ys = flat_map-append (λ (line : List ℕ). line ++ 10 ∷ []) xs ys

pub three_parts : (out : List ℕ) (xs ys zs : List (List ℕ)) → ((out ++ text_of_lines xs) ++ text_of_lines ys) ++ text_of_lines zs ≡ out ++ text_of_lines (xs ++ (ys ++ zs))
three_parts out xs ys zs =
    append_assoc (out ++ text_of_lines xs) (text_of_lines ys) (text_of_lines zs)
    ∙ append_assoc out (text_of_lines xs) (text_of_lines ys ++ text_of_lines zs)
    ∙ ap (λ l. out ++ (text_of_lines xs ++ l)) (sym (both ys zs)) ∙ ap (λ l. out ++ l) (sym (both xs (ys ++ zs)))

-- ---- a line, and those after it

pub one_line_more : (change : Change) (players : Players) (events : List (List ℕ)) (right : List Event) (number : ℕ) (out line next : List ℕ) (lines more : List (List ℕ)) → lines ≡ next ∷ more
    → (out ++ text_of_lines (for_line change players events right line number)) ++ text_of_lines (repaired_lines change players events right (number_after line number) (next ∷ more))
    ≡ out ++ text_of_lines (repaired_lines change players events right number (line ∷ lines))
one_line_more change players events right number out line next lines more same =
    let first = for_line change players events right line number in
    let rest = repaired_lines change players events right (number_after line number) (next ∷ more) in
    append_assoc out (text_of_lines first) (text_of_lines rest) ∙ ap (λ l. out ++ l) (sym (both first rest))
    ∙ ap (λ l. out ++ text_of_lines (repaired_lines change players events right number (line ∷ l))) (sym same)

pub last_line : (change : Change) (players : Players) (events : List (List ℕ)) (right : List Event) (number : ℕ) (out line : List ℕ)
    → out ++ text_of_lines (for_line change players events right line number) ≡ out ++ text_of_lines (repaired_lines change players events right number (line ∷ []))
last_line change players events right number out line = ap (λ l. out ++ text_of_lines l) (sym (append-nil (for_line change players events right line number)))

-- ---- the number of event lines that are left

remaining_by : (line : List ℕ) (lines : List (List ℕ)) (number : ℕ) (b : Bool) → is_event_line line ≡ b
    → number_after line number + length (filter is_event_line lines) ≡ number + length (filter is_event_line (line ∷ lines))
remaining_by line lines number true e = rw e (omega arith)
remaining_by line lines number false e = rw e refl

pub fewer_remaining : (line next : List ℕ) (lines more : List (List ℕ)) (number : ℕ) → lines ≡ next ∷ more
    → number_after line number + length (filter is_event_line (next ∷ more)) ≡ number + length (filter is_event_line (line ∷ lines))
fewer_remaining line next lines more number same =
    remaining_by line (next ∷ more) number (is_event_line line) refl ∙ ap (λ l. number + length (filter is_event_line (line ∷ l))) (sym same)

some_by : (line : List ℕ) (lines : List (List ℕ)) → is_event_line line ≡ true → 0 < length (filter is_event_line (line ∷ lines))
some_by line lines e = rw e (omega arith)

pub one_remaining : (line : List ℕ) (lines : List (List ℕ)) (number many : ℕ) → number + length (filter is_event_line (line ∷ lines)) ≡ many → is_event_line line ≡ true → number < many
one_remaining line lines number many all e = let some = some_by line lines e in omega arith
