-- Lines gone through one after the other.
use Rattle.std.proofs.Common.{append-nil, subst, ◌≡◌, ℕ, ◌+◌, ◌≤◌, arith, List, [], ◌∷◌, ◌++◌, length, Some, None, sym, ap, ◌∙◌, refl}
use Rattle.std.proofs.lemmas.List.{append_assoc}
use Rattle.gcg_about.specs.Pragmas.{said, first_said}
use Rattle.gcg_about.specs.Notes.{NoteText, note_on, following, notes_from}

-- ---- what the first line says

-- a line that says nothing
pub said_later : (word : List ℕ) (remaining : List (List ℕ)) (line : List ℕ) (others : List (List ℕ)) → remaining ≡ line ∷ others → said word line ≡ None → first_said word others ≡ first_said word remaining
unfolding first_said
said_later word remaining line others cut none =
    let one : first_said word remaining ≡ first_said word others = rw (cut, none) refl in
    sym one

-- a line that says something
pub said_here : (word : List ℕ) (remaining : List (List ℕ)) (line : List ℕ) (others : List (List ℕ)) (text : List ℕ) → remaining ≡ line ∷ others → said word line ≡ Some text → first_said word remaining ≡ Some text
unfolding first_said
said_here word remaining line others text cut some = rw (cut, some) refl

-- no line
pub said_nowhere : (word : List ℕ) (remaining : List (List ℕ)) → remaining ≡ [] → first_said word remaining ≡ None
unfolding first_said
said_nowhere word remaining none = rw none refl

-- ---- notes

-- one more line
pub notes_more : (after next : ℕ) (remaining : List (List ℕ)) (line : List ℕ) (others : List (List ℕ)) (had have all : List NoteText) → remaining ≡ line ∷ others → have ≡ had ++ note_on after line
    → next ≡ following after line → had ++ notes_from after remaining ≡ all → have ++ notes_from next others ≡ all
unfolding notes_from
notes_more after next remaining line others had have all cut pushed goes before =
    subst (λ n. have ++ notes_from n others ≡ all) (sym goes)
    (let one : had ++ notes_from after remaining ≡ had ++ (note_on after line ++ notes_from (following after line) others) = rw cut refl in
    ap (λ notes. notes ++ notes_from (following after line) others) pushed ∙ append_assoc had (note_on after line) (notes_from (following after line) others) ∙ sym one ∙ before)

-- the lines that were read and those that are left
pub notes_counted : (after next total : ℕ) (remaining : List (List ℕ)) (line : List ℕ) (others : List (List ℕ)) → remaining ≡ line ∷ others → next ≤ after + 1 → after + length remaining ≤ total → next + length others ≤ total
notes_counted after next total remaining line others cut step before = omega (arith, ap length cut, step, before)

-- no more lines
pub notes_done : (after : ℕ) (remaining : List (List ℕ)) (had all : List NoteText) → remaining ≡ [] → had ++ notes_from after remaining ≡ all → had ≡ all
unfolding notes_from
notes_done after remaining had all none before =
    let one : had ++ notes_from after remaining ≡ had ++ [] = rw none refl in
    sym (append-nil had) ∙ sym one ∙ before
