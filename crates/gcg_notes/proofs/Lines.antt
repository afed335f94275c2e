-- The record of lines with notes.
use Rattle.std.proofs.Common.{◌≡◌, ℕ, ◌+◌, ◌<◌, Bool, true, false, List, [], ◌∷◌, ◌++◌, length, map, Ok, arith, refl, sym, ap, subst, ◌∙◌}
use Rattle.std.proofs.lemmas.List.{length-append}
use Rattle.text_lines.specs.Lines.{without_return}
use Rattle.gcg_read.specs.declared.events.Event.{Event}
use Rattle.gcg_read.specs.declared.players.Players.{Players}
use Rattle.gcg_read.specs.declared.records.Record.{Record}
use Rattle.gcg_read.specs.Records.{with_line, record_from}
use Rattle.gcg_write.proofs.Inversions.{stepped, ok_same}
use Rattle.gcg_numbers.specs.Numbers.{is_event_line}
use Rattle.gcg_numbers.proofs.Lines.{begins, go_on}
use Rattle.gcg_numbers.proofs.Walks.{so_far, passed}
use Rattle.gcg_notes.specs.Laws.{AreMoved}
use Rattle.gcg_notes.specs.Notes.{note_line, noted, with_notes}
use Rattle.gcg_notes.proofs.Events.{at_line}
use Rattle.gcg_notes.proofs.Walks.{moved_length, moved_more, moved_event, note_skipped}

-- the lines give the same record as this one, except for the numbers of lines
pub record Reads (lines : List (List ℕ)) (before : Players) (other : List Event) (m : ℕ) (r : Record) : Type 0 where
  pub new : Record
  pub read : record_from (so_far before other) m lines ≡ Ok new
  pub players : new.players ≡ r.players
  pub events : AreMoved r.events new.events

one_more : (players : Players) (other : List Event) (m : ℕ) (line : List ℕ) (lines : List (List ℕ)) (next r : Record) → with_line (so_far players other) m line ≡ Ok next
    → Reads lines next.players next.events (m + 1) r → Reads (line ∷ lines) players other m r
one_more players other m line lines next r h k = record { new = k.new; read = go_on players m line lines other next k.new h k.read; players = k.players; events = k.events }

-- what is shown about the lines after one
abbrev Goes : (lines : List (List ℕ)) → (n : ℕ) → Record → Type 0
Goes lines n r =
    (players : Players) (done other : List Event) (notes : List (List ℕ)) (m : ℕ) → record_from (so_far players done) n (map without_return lines) ≡ Ok r → AreMoved done other
    → Reads (map without_return (with_notes notes lines)) players other m r

none_remaining : (lines : List (List ℕ)) → with_notes [] lines ≡ lines
none_remaining [] = refl
none_remaining (line ∷ lines) = refl

-- a line that is not an event gets no note
stays : (line : List ℕ) (lines notes : List (List ℕ)) → is_event_line line ≡ false → with_notes notes (line ∷ lines) ≡ line ∷ with_notes notes lines
stays line lines [] e = ap (λ l. line ∷ l) (sym (none_remaining lines))
stays line lines (note ∷ notes) e = rw e refl

takes : (line : List ℕ) (lines : List (List ℕ)) (note : List ℕ) (notes : List (List ℕ)) → is_event_line line ≡ true → with_notes (note ∷ notes) (line ∷ lines) ≡ noted line note ++ with_notes notes lines
takes line lines note notes e = rw e refl

step_passed : (line : List ℕ) (lines : List (List ℕ)) (n : ℕ) (r next : Record) → Goes lines (n + 1) r → (players : Players) (done other : List Event) (notes : List (List ℕ)) (m : ℕ)
    → is_event_line line ≡ false → with_line (so_far players done) n (without_return line) ≡ Ok next → record_from next (n + 1) (map without_return lines) ≡ Ok r
    → AreMoved done other → Reads (map without_return (with_notes notes (line ∷ lines))) players other m r
step_passed line lines n r next go players done other notes m e one rest moved =
    let p = passed players done other n m (without_return line) next (begins line ∙ e) (moved_length done other moved) one in
    let more = go next.players next.events other notes (m + 1) rest (subst (λ l. AreMoved l other) (sym p.0) moved) in
    subst (λ l. Reads (map without_return l) players other m r) (sym (stays line lines notes e))
    (one_more players other m (without_return line) (map without_return (with_notes notes lines)) (so_far next.players other) r p.1 more)

-- what is shown after an event
abbrev After : (lines : List (List ℕ)) → (next r : Record) → (other : List Event) → Type 0
After lines next r other = (notes : List (List ℕ)) (m : ℕ) → Reads (map without_return (with_notes notes lines)) next.players other m r

step_noted : (line : List ℕ) (lines : List (List ℕ)) (next r : Record) (players : Players) (other more : List Event) (m : ℕ) (notes : List (List ℕ)) (note : List ℕ) → 0 < length more
    → with_line (so_far players other) m (without_return line) ≡ Ok (so_far next.players more) → After lines next r more
    → Reads (map without_return (noted line note ++ with_notes notes lines)) players other m r
step_noted line lines next r players other more m notes [] some one following =
    one_more players other m (without_return line) (map without_return (with_notes notes lines)) (so_far next.players more) r one (following notes (m + 1))
step_noted line lines next r players other more m notes (byte ∷ note) some one following =
    let rest = map without_return (with_notes notes lines) in
    let skipped = note_skipped next.players more (m + 1) line (byte ∷ note) some in
    one_more players other m (without_return line) (without_return (note_line line (byte ∷ note)) ∷ rest) (so_far next.players more) r one
    (one_more next.players more (m + 1) (without_return (note_line line (byte ∷ note))) rest (so_far next.players more) r skipped (following notes (m + 1 + 1)))

step_taken : (line : List ℕ) (lines : List (List ℕ)) (next r : Record) (players : Players) (other more : List Event) (m : ℕ) (notes : List (List ℕ)) → 0 < length more
    → is_event_line line ≡ true → with_line (so_far players other) m (without_return line) ≡ Ok (so_far next.players more) → After lines next r more
    → Reads (map without_return (with_notes notes (line ∷ lines))) players other m r
step_taken line lines next r players other more m [] some e one following =
    subst (λ l. Reads (without_return line ∷ map without_return l) players other m r) (none_remaining lines)
    (one_more players other m (without_return line) (map without_return (with_notes [] lines)) (so_far next.players more) r one (following [] (m + 1)))
step_taken line lines next r players other more m (note ∷ notes) some e one following =
    subst (λ l. Reads (map without_return l) players other m r) (sym (takes line lines note notes e)) (step_noted line lines next r players other more m notes note some one following)

step_event : (line : List ℕ) (lines : List (List ℕ)) (n : ℕ) (r next : Record) → Goes lines (n + 1) r → (players : Players) (done other : List Event) (notes : List (List ℕ)) (m : ℕ)
    → is_event_line line ≡ true → with_line (so_far players done) n (without_return line) ≡ Ok next → record_from next (n + 1) (map without_return lines) ≡ Ok r
    → AreMoved done other → Reads (map without_return (with_notes notes (line ∷ lines))) players other m r
step_event line lines n r next go players done other notes m e one rest moved =
    let a = moved_event players done other n m line next e (moved_length done other moved) one in
    let more : List Event = other ++ at_line m a.event ∷ [] in
    let both : AreMoved next.events more = subst (λ l. AreMoved l more) (sym a.old) (moved_more done other a.event m moved) in
    let some : 0 < length more = omega (arith, length-append other (at_line m a.event ∷ [])) in
    step_taken line lines next r players other more m notes some e a.new (λ notes m. go next.players next.events more notes m rest both)

step_by : (line : List ℕ) (lines : List (List ℕ)) (n : ℕ) (r next : Record) → Goes lines (n + 1) r → (players : Players) (done other : List Event) (notes : List (List ℕ)) (m : ℕ) (b : Bool)
    → is_event_line line ≡ b → with_line (so_far players done) n (without_return line) ≡ Ok next → record_from next (n + 1) (map without_return lines) ≡ Ok r
    → AreMoved done other → Reads (map without_return (with_notes notes (line ∷ lines))) players other m r
step_by line lines n r next go players done other notes m true e one rest moved = step_event line lines n r next go players done other notes m e one rest moved
step_by line lines n r next go players done other notes m false e one rest moved = step_passed line lines n r next go players done other notes m e one rest moved

first_step : (line : List ℕ) (lines : List (List ℕ)) (n : ℕ) (r : Record) → Goes lines (n + 1) r → Goes (line ∷ lines) n r
unfolding record_from
first_step line lines n r go players done other notes m h moved =
    let a = stepped (with_line (so_far players done) n (without_return line)) _ r h in
    step_by line lines n r a.0 go players done other notes m (is_event_line line) refl a.1.0 a.1.1 moved

at_end : (n : ℕ) (r : Record) → Goes [] n r
unfolding record_from
at_end n r players done other notes m h moved =
    let same = ok_same (so_far players done) r h in
    record { new = so_far players other; read = refl; players = ap (λ (x : Record). x.players) same; events = subst (λ (x : Record). AreMoved x.events other) same moved }

pub walked : (lines : List (List ℕ)) (n : ℕ) (r : Record) → Goes lines n r
walked [] n r players done other notes m h moved = at_end n r players done other notes m h moved
walked (line ∷ lines) n r players done other notes m h moved = first_step line lines n r (walked lines (n + 1) r) players done other notes m h moved
