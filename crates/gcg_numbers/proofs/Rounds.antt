-- A sheet with other numbers, line by line.
use Rattle.std.proofs.Common.{◌≡◌, ℕ, Bool, true, false, List, [], ◌∷◌, ◌++◌, drop, slice_get, None, if◌then◌else◌, refl, sym, ap, ◌∙◌}
use Rattle.std.specs.List.{join_with_byte}
use Rattle.std.proofs.lemmas.List.{append_assoc}
use Rattle.gcg_read.specs.declared.events.Event.{Event}
use Rattle.gcg_numbers.specs.Lines.{first_with}
use Rattle.gcg_numbers.specs.Numbers.{is_event_line, lines_with}

-- ---- one line

lines_by : (event : Event) (events : List Event) (line : List ℕ) (lines : List (List ℕ)) (b : Bool) → is_event_line line ≡ b
    → lines_with (event ∷ events) (line ∷ lines) ≡ first_with (event ∷ events) line ∷ lines_with (drop (if b then 1 else 0) (event ∷ events)) lines
lines_by event events line lines true e = rw e refl
lines_by event events line lines false e = rw e refl

pub of_event : (event : Event) (events : List Event) (line : List ℕ) → is_event_line line ≡ true → (lines : List (List ℕ))
    → lines_with (event ∷ events) (line ∷ lines) ≡ first_with (event ∷ events) line ∷ lines_with (drop 1 (event ∷ events)) lines
of_event event events line e lines = lines_by event events line lines true e

pub of_other : (event : Event) (events : List Event) (line : List ℕ) → is_event_line line ≡ false → (lines : List (List ℕ))
    → lines_with (event ∷ events) (line ∷ lines) ≡ first_with (event ∷ events) line ∷ lines_with (event ∷ events) lines
of_other event events line e lines = lines_by event events line lines false e

none_remaining : (lines : List (List ℕ)) → lines_with [] lines ≡ lines
none_remaining [] = refl
none_remaining (line ∷ lines) = refl

pub of_none : (line : List ℕ) (lines : List (List ℕ)) → lines_with [] (line ∷ lines) ≡ first_with [] line ∷ lines_with [] lines
of_none line lines = ap (λ l. line ∷ l) (sym (none_remaining lines))

-- ---- the lines after it

joined_of : (first : List ℕ) (event : Event) (events : List Event) (next : List ℕ) (lines : List (List ℕ)) (b : Bool) → is_event_line next ≡ b
    → join_with_byte 10 (first ∷ lines_with (event ∷ events) (next ∷ lines)) ≡ first ++ 10 ∷ join_with_byte 10 (lines_with (event ∷ events) (next ∷ lines))
joined_of first event events next lines true e = rw e refl
joined_of first event events next lines false e = rw e refl

-- there are as many lines with numbers as lines, so an LF comes after the first
joined : (first : List ℕ) (events : List Event) (next : List ℕ) (lines : List (List ℕ))
    → join_with_byte 10 (first ∷ lines_with events (next ∷ lines)) ≡ first ++ 10 ∷ join_with_byte 10 (lines_with events (next ∷ lines))
joined first [] next lines = refl
joined first (event ∷ events) next lines = joined_of first event events next lines (is_event_line next) refl

pub one_line_more : (out line next : List ℕ) (events remaining : List Event) (lines more : List (List ℕ)) → lines ≡ next ∷ more
    → ((all : List (List ℕ)) → lines_with events (line ∷ all) ≡ first_with events line ∷ lines_with remaining all)
    → ((out ++ first_with events line) ++ 10 ∷ []) ++ join_with_byte 10 (lines_with remaining (next ∷ more)) ≡ out ++ join_with_byte 10 (lines_with events (line ∷ lines))
one_line_more out line next events remaining lines more same each =
    append_assoc (out ++ first_with events line) (10 ∷ []) (join_with_byte 10 (lines_with remaining (next ∷ more)))
    ∙ append_assoc out (first_with events line) (10 ∷ join_with_byte 10 (lines_with remaining (next ∷ more)))
    ∙ ap (λ l. out ++ l) (sym (joined (first_with events line) remaining next more))
    ∙ ap (λ l. out ++ join_with_byte 10 l) (sym (each (next ∷ more))) ∙ ap (λ l. out ++ join_with_byte 10 (lines_with events (line ∷ l))) (sym same)

pub at_the_end : (out line : List ℕ) (events remaining : List Event) → ((all : List (List ℕ)) → lines_with events (line ∷ all) ≡ first_with events line ∷ lines_with remaining all)
    → out ++ first_with events line ≡ out ++ join_with_byte 10 (lines_with events (line ∷ []))
at_the_end out line events remaining each = ap (λ l. out ++ join_with_byte 10 l) (sym (each []))

-- there is no event left
pub of_nothing : (events : List Event) (line : List ℕ) → None ≡ slice_get events 0 → (lines : List (List ℕ)) → lines_with events (line ∷ lines) ≡ first_with events line ∷ lines_with events lines
of_nothing [] line h lines = of_none line lines
of_nothing (event ∷ events) line h lines = absurd cc
