-- Lines read one after another.
use Rattle.std.proofs.Common.{◌≡◌, ℕ, ◌+◌, ◌<◌, arith, List, [], ◌∷◌, length, Result, Ok, Err, sym, ap, ◌∙◌, refl, ◌⊎◌, inl, inr}
use Rattle.gcg_read.specs.declared.faults.ReadFault.{ReadFault}
use Rattle.gcg_read.specs.declared.records.Record.{Record}
use Rattle.gcg_read.specs.Faults.{no_memory}
use Rattle.gcg_read.specs.Records.{with_line, record_from}

-- one more line
pub line_more : (so_far next : Record) (n : ℕ) (following : List (List ℕ)) (line : List ℕ) (others : List (List ℕ)) (total : Result Record ReadFault)
    → following ≡ line ∷ others → with_line so_far n line ≡ Ok next → record_from so_far n following ≡ total → record_from next (n + 1) others ≡ total
unfolding record_from
line_more so_far next n following line others total cut step before =
    let one : record_from so_far n following ≡ record_from next (n + 1) others = rw (cut, step) refl in
    sym one ∙ before

-- a line with a fault, or no memory for it
pub line_fails : (so_far : Record) (n : ℕ) (following : List (List ℕ)) (line : List ℕ) (others : List (List ℕ)) (total : Result Record ReadFault) (fault : ReadFault)
    → following ≡ line ∷ others → (fault ≡ no_memory) ⊎ (with_line so_far n line ≡ Err fault)
    → record_from so_far n following ≡ total → (fault ≡ no_memory) ⊎ (total ≡ Err fault)
unfolding record_from
line_fails so_far n following line others total fault cut (inl memory) before = inl memory
line_fails so_far n following line others total fault cut (inr step) before =
    let one : record_from so_far n following ≡ Err fault = rw (cut, step) refl in
    inr (sym before ∙ one)

-- no more lines
pub lines_done : (so_far : Record) (n : ℕ) (following : List (List ℕ)) (total : Result Record ReadFault) → following ≡ [] → record_from so_far n following ≡ total
    → total ≡ Ok so_far
unfolding record_from
lines_done so_far n following total none before =
    let one : record_from so_far n following ≡ Ok so_far = rw none refl in
    sym before ∙ one

-- the lines that were read and those that are left are all lines
pub line_counted : (n total : ℕ) (following : List (List ℕ)) (line : List ℕ) (others : List (List ℕ)) → following ≡ line ∷ others → n + length following ≡ total → n + 1 + length others ≡ total
line_counted n total following line others cut before = omega (arith, ap length cut, before)

pub line_room : (n total : ℕ) (following : List (List ℕ)) (line : List ℕ) (others : List (List ℕ)) → following ≡ line ∷ others → n + length following ≡ total → n < total
line_room n total following line others cut before = omega (arith, ap length cut, before)

-- what a loop over the lines of a text needs
pub ruleset steps = (line_more, line_fails, lines_done, line_counted, line_room)
