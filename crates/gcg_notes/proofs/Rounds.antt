-- A sheet with notes, line by line.
use Rattle.std.proofs.Common.{◌≡◌, ℕ, Bool, true, false, List, [], ◌∷◌, ◌++◌, Option, Some, None, if◌then◌else◌, refl, sym, ap, subst, ◌∙◌}
use Rattle.std.specs.Borrow.{Bor}
use Rattle.std.specs.List.{join_with_byte}
use Rattle.std.proofs.lemmas.List.{append_assoc, append-nil}
use Rattle.gcg_numbers.specs.Lines.{parts_after}
use Rattle.gcg_numbers.specs.Numbers.{is_event_line}
use Rattle.gcg_notes.specs.Notes.{noted, first_noted, with_notes, raw_lines}
use Rattle.gcg_notes.specs.Writing.{note_after}
use Rattle.gcg_notes.proofs.Feeds.{Begins, first_stays}

-- ---- one line

none_remaining : (lines : List (List ℕ)) → with_notes [] lines ≡ lines
none_remaining [] = refl
none_remaining (line ∷ lines) = refl

pub of_none : (line : List ℕ) (lines : List (List ℕ)) → with_notes [] (line ∷ lines) ≡ first_noted [] line ++ with_notes [] lines
of_none line lines = ap (λ l. line ∷ l) (sym (none_remaining lines))

pub of_other : (notes : List (List ℕ)) (line : List ℕ) → is_event_line line ≡ false → (lines : List (List ℕ)) → with_notes notes (line ∷ lines) ≡ first_noted notes line ++ with_notes notes lines
of_other [] line e lines = of_none line lines
of_other (note ∷ notes) line e lines = rw e refl

pub of_event : (all : List (List ℕ)) (note : List ℕ) (notes : List (List ℕ)) (line : List ℕ) → all ≡ note ∷ notes → is_event_line line ≡ true → (lines : List (List ℕ))
    → with_notes all (line ∷ lines) ≡ first_noted all line ++ with_notes notes lines
of_event all note notes line same e lines = rw same (rw e refl)

-- the notes that are left, if there are none, or if the line is not that of an event
pub none_remaining_of : (o : Option (Bor (List ℕ))) (line : List ℕ) → o ≡ None → (lines : List (List ℕ)) → with_notes (parts_after o) (line ∷ lines) ≡ first_noted (parts_after o) line ++ with_notes [] lines
none_remaining_of o line none lines =
    subst (λ p. with_notes (parts_after p) (line ∷ lines) ≡ first_noted (parts_after p) line ++ with_notes [] lines) (sym none) (of_none line lines)

pub some_remaining_of : (o : Option (Bor (List ℕ))) (remaining : Bor (List ℕ)) (line : List ℕ) → o ≡ Some remaining → is_event_line line ≡ false → (lines : List (List ℕ))
    → with_notes (parts_after o) (line ∷ lines) ≡ first_noted (parts_after o) line ++ with_notes (raw_lines remaining.now) lines
some_remaining_of o remaining line some e lines =
    subst (λ p. with_notes (parts_after p) (line ∷ lines) ≡ first_noted (parts_after p) line ++ with_notes (raw_lines remaining.now) lines) (sym some) (of_other (raw_lines remaining.now) line e lines)

-- ---- what is written

pub written_alone : (out line : List ℕ) → out ++ line ≡ out ++ join_with_byte 10 (first_noted [] line)
written_alone out line = refl

pub written_other : (out : List ℕ) (notes : List (List ℕ)) (line : List ℕ) → is_event_line line ≡ false → out ++ line ≡ out ++ join_with_byte 10 (first_noted notes line)
written_other out [] line e = refl
written_other out (note ∷ notes) line e = rw e refl

joined_note : (line note : List ℕ) → line ++ note_after line note ≡ join_with_byte 10 (noted line note)
joined_note line [] = append-nil line
joined_note line (byte ∷ note) = refl

pub written_event : (out : List ℕ) (all : List (List ℕ)) (note : List ℕ) (notes : List (List ℕ)) (line : List ℕ) → all ≡ note ∷ notes → is_event_line line ≡ true
    → (out ++ line) ++ note_after line note ≡ out ++ join_with_byte 10 (first_noted all line)
written_event out all note notes line same e =
    append_assoc out line (note_after line note) ∙ ap (λ l. out ++ l) (joined_note line note ∙ rw same (rw e refl))

-- ---- the lines after it

joined : (x : List ℕ) (xs : List (List ℕ)) (y : List ℕ) (ys : List (List ℕ)) → join_with_byte 10 ((x ∷ xs) ++ y ∷ ys) ≡ join_with_byte 10 (x ∷ xs) ++ 10 ∷ join_with_byte 10 (y ∷ ys)
joined x [] y ys = refl
joined x (z ∷ zs) y ys = ap (λ l. x ++ 10 ∷ l) (joined z zs y ys) ∙ sym (append_assoc x (10 ∷ join_with_byte 10 (z ∷ zs)) (10 ∷ join_with_byte 10 (y ∷ ys)))

alone_begins : (line : List ℕ) → Begins line (line ∷ [])
alone_begins line = record { rest = []; whole = refl }

noted_begins : (line note : List ℕ) → Begins line (noted line note)
noted_begins line [] = alone_begins line
noted_begins line (byte ∷ note) = record { rest = _; whole = refl }

begins_by : (line note : List ℕ) (b : Bool) → Begins line (if b then noted line note else line ∷ [])
begins_by line note true = noted_begins line note
begins_by line note false = alone_begins line

first_begins : (notes : List (List ℕ)) (line : List ℕ) → Begins line (first_noted notes line)
first_begins [] line = alone_begins line
first_begins (note ∷ notes) line = begins_by line note (is_event_line line)

both_joined : (x y : List ℕ) (front back : List (List ℕ)) → Begins x front → Begins y back → join_with_byte 10 (front ++ back) ≡ join_with_byte 10 front ++ 10 ∷ join_with_byte 10 back
both_joined x y front back f b = rw (f.whole, b.whole) (joined x f.rest y b.rest)

pub one_line_more : (out line next : List ℕ) (notes remaining : List (List ℕ)) (lines more : List (List ℕ)) → lines ≡ next ∷ more
    → ((all : List (List ℕ)) → with_notes notes (line ∷ all) ≡ first_noted notes line ++ with_notes remaining all)
    → ((out ++ join_with_byte 10 (first_noted notes line)) ++ 10 ∷ []) ++ join_with_byte 10 (with_notes remaining (next ∷ more)) ≡ out ++ join_with_byte 10 (with_notes notes (line ∷ lines))
one_line_more out line next notes remaining lines more same each =
    let first = join_with_byte 10 (first_noted notes line) in
    let rest = join_with_byte 10 (with_notes remaining (next ∷ more)) in
    append_assoc (out ++ first) (10 ∷ []) rest ∙ append_assoc out first (10 ∷ rest)
    ∙ ap (λ l. out ++ l) (sym (both_joined line next (first_noted notes line) (with_notes remaining (next ∷ more)) (first_begins notes line) (first_stays remaining next more)))
    ∙ ap (λ l. out ++ join_with_byte 10 l) (sym (each (next ∷ more)))
    ∙ ap (λ l. out ++ join_with_byte 10 (with_notes notes (line ∷ l))) (sym same)

pub at_the_end : (out line : List ℕ) (notes remaining : List (List ℕ)) → ((all : List (List ℕ)) → with_notes notes (line ∷ all) ≡ first_noted notes line ++ with_notes remaining all)
    → out ++ join_with_byte 10 (first_noted notes line) ≡ out ++ join_with_byte 10 (with_notes notes (line ∷ []))
at_the_end out line notes remaining each = ap (λ l. out ++ join_with_byte 10 l) (sym (each [] ∙ append-nil (first_noted notes line)))
