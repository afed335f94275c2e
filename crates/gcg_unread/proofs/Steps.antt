-- Lines and fields gone through one after another.
use Rattle.std.proofs.Common.{◌≡◌, ℕ, ◌+◌, ◌<◌, Bool, true, false, ◌||◌, arith, List, [], ◌∷◌, ◌++◌, length, sym, ap, ◌∙◌}
use Rattle.std.proofs.lemmas.List.{append_assoc, append-nil}
use Rattle.gcg_unread.specs.declared.lines.UnreadLine.{UnreadLine}
use Rattle.gcg_read.specs.declared.faults.ReadFault.{ReadFault}
use Rattle.gcg_unread.specs.Lines.{note_after, why_unread, listed, unread_from}
use Rattle.gcg_unread.specs.Moves.{is_move, has_move}
use Rattle.gcg_unread.specs.Faulty.{fault_alone, faults_listed, faulty_from}

-- one more line
pub line_more : (found : List UnreadLine) (in_note : Bool) (n : ℕ) (following : List (List ℕ)) (line : List ℕ) (others : List (List ℕ)) (total : List UnreadLine)
    → following ≡ line ∷ others → found ++ unread_from in_note n following ≡ total
    → (found ++ listed n (why_unread in_note line)) ++ unread_from (note_after in_note line) (n + 1) others ≡ total
unfolding unread_from
line_more found in_note n following line others total cut before =
    append_assoc found (listed n (why_unread in_note line)) (unread_from (note_after in_note line) (n + 1) others)
    ∙ (ap (λ rest. found ++ unread_from in_note n rest) (sym cut) ∙ before)

-- no more lines
pub lines_done : (found : List UnreadLine) (in_note : Bool) (n : ℕ) (following : List (List ℕ)) (total : List UnreadLine)
    → following ≡ [] → found ++ unread_from in_note n following ≡ total → found ≡ total
unfolding unread_from
lines_done found in_note n following total none before =
    sym (append-nil found) ∙ (ap (λ rest. found ++ unread_from in_note n rest) (sym none) ∙ before)

-- the lines that were gone through and those that are left are all lines
pub line_counted : (n total : ℕ) (following : List (List ℕ)) (line : List ℕ) (others : List (List ℕ)) → following ≡ line ∷ others → n + length following ≡ total → n + 1 + length others ≡ total
line_counted n total following line others cut before = omega (arith, ap length cut, before)

pub line_room : (n total : ℕ) (following : List (List ℕ)) (line : List ℕ) (others : List (List ℕ)) → following ≡ line ∷ others → n + length following ≡ total → n < total
line_room n total following line others cut before = omega (arith, ap length cut, before)

pub ruleset steps = (line_more, lines_done, line_counted, line_room)

-- one more line
pub fault_more : (found : List ReadFault) (n : ℕ) (following : List (List ℕ)) (line : List ℕ) (others : List (List ℕ)) (total : List ReadFault)
    → following ≡ line ∷ others → found ++ faulty_from n following ≡ total
    → (found ++ faults_listed n (fault_alone line)) ++ faulty_from (n + 1) others ≡ total
unfolding faulty_from
fault_more found n following line others total cut before =
    append_assoc found (faults_listed n (fault_alone line)) (faulty_from (n + 1) others)
    ∙ (ap (λ rest. found ++ faulty_from n rest) (sym cut) ∙ before)

-- no more lines
pub faults_done : (found : List ReadFault) (n : ℕ) (following : List (List ℕ)) (total : List ReadFault) → following ≡ [] → found ++ faulty_from n following ≡ total → found ≡ total
unfolding faulty_from
faults_done found n following total none before =
    sym (append-nil found) ∙ (ap (λ rest. found ++ faulty_from n rest) (sym none) ∙ before)

pub ruleset faulty_steps = (fault_more, faults_done, line_counted, line_room)

-- ---- fields

-- one more field that does not begin what is looked for
pub field_more : (following : List (List ℕ)) (first : List ℕ) (rest : List (List ℕ)) (total : Bool) → following ≡ first ∷ rest → is_move first rest ≡ false → has_move following ≡ total
    → has_move rest ≡ total
field_more following first rest total cut fails before =
    let one : has_move following ≡ (is_move first rest || has_move rest) = ap has_move cut in
    let two : (is_move first rest || has_move rest) ≡ has_move rest = ap (λ b. b || has_move rest) fails in
    sym two ∙ (sym one ∙ before)

-- one that does
pub field_found : (following : List (List ℕ)) (first : List ℕ) (rest : List (List ℕ)) (total : Bool) → following ≡ first ∷ rest → is_move first rest ≡ true → has_move following ≡ total
    → true ≡ total
field_found following first rest total cut passes before =
    let one : has_move following ≡ (is_move first rest || has_move rest) = ap has_move cut in
    let two : (is_move first rest || has_move rest) ≡ true = ap (λ b. b || has_move rest) passes in
    sym two ∙ (sym one ∙ before)

pub ruleset fields_more = (field_more, field_found)
