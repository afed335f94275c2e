-- One line of a sheet at another place.
use Rattle.std.proofs.Common.{◌≡◌, ℕ, suc, ◌-◌, ◌<◌, ◌==◌, Bool, true, false, List, [], ◌∷◌, ◌++◌, length, take, Ok, if◌then◌else◌, arith, refl, sym, ap, ◌∙◌}
use Rattle.std.proofs.lemmas.Bool.Decides.{nat_tests}
use Rattle.text_lines.specs.Lines.{without_return}
use Rattle.gcg_read.specs.declared.events.Event.{Event}
use Rattle.gcg_read.specs.declared.players.Players.{Players}
use Rattle.gcg_read.specs.declared.records.Record.{Record}
use Rattle.gcg_read.specs.Records.{with_event, with_pragma, with_line}
use Rattle.gcg_write.proofs.LineCuts.{returns}
use Rattle.gcg_numbers.specs.Numbers.{is_event_line}
use Rattle.gcg_numbers.proofs.Lines.{begins, cons}
use Rattle.gcg_numbers.proofs.Walks.{so_far, Added, add_with, added, eventful, as_event}
use Rattle.gcg_notes.specs.Laws.{AreMoved}
use Rattle.gcg_notes.specs.Notes.{return_of, note_line}
use Rattle.gcg_notes.proofs.Events.{at_line, entry_moved}

-- ---- events that may be on other lines

pub moved_length : (olds news : List Event) → AreMoved olds news → length news ≡ length olds
moved_length [] [] h = refl
moved_length [] (new ∷ news) h = absurd h
moved_length (old ∷ olds) [] h = absurd h
moved_length (old ∷ olds) (new ∷ news) h = ap suc (moved_length olds news h.1)

pub moved_more : (olds news : List Event) (e : Event) (m : ℕ) → AreMoved olds news → AreMoved (olds ++ e ∷ []) (news ++ at_line m e ∷ [])
moved_more [] [] e m h = (refl, tt)
moved_more [] (new ∷ news) e m h = absurd h
moved_more (old ∷ olds) [] e m h = absurd h
moved_more (old ∷ olds) (new ∷ news) e m h = (h.0, moved_more olds news e m h.1)

-- ---- the line of an event

added_moved : (players : Players) (done other : List Event) (n m : ℕ) (text : List ℕ) (next : Record) (a : Added players done n text next) → length other ≡ length done
    → with_event (so_far players other) m text ≡ Ok (so_far next.players (other ++ at_line m a.entry.event ∷ []))
added_moved players done other n m text next a many =
    let read = entry_moved (so_far players done) (so_far players other) n m text a.entry refl many a.read in
    add_with players other m text (record { nick = a.entry.nick; event = at_line m a.entry.event }) read
    ∙ ap (λ p. Ok (so_far p (other ++ at_line m a.entry.event ∷ []))) (sym a.after)

-- what the line of an event adds at another place
pub record Moved (players : Players) (done other : List Event) (m : ℕ) (line : List ℕ) (next : Record) : Type 0 where
  pub event : Event
  pub old : next.events ≡ done ++ event ∷ []
  pub new : with_line (so_far players other) m (without_return line) ≡ Ok (so_far next.players (other ++ at_line m event ∷ []))

pub moved_event : (players : Players) (done other : List Event) (n m : ℕ) (line : List ℕ) (next : Record) → is_event_line line ≡ true → length other ≡ length done
    → with_line (so_far players done) n (without_return line) ≡ Ok next → Moved players done other m line next
moved_event players done other n m line next e many one =
    let c = cons (without_return line) (begins line ∙ e) in
    let read : with_line (so_far players done) n (c.byte ∷ c.text) ≡ Ok next = ap (with_line (so_far players done) n) (sym c.whole) ∙ one in
    let a = added players done n c.text next (eventful players done n c.byte c.text next c.event read) in
    record {
      event = a.entry.event;
      old = a.events;
      new =
          ap (with_line (so_far players other) m) c.whole ∙ as_event players other m c.byte c.text c.event
          ∙ added_moved players done other n m c.text next a many;
    }

-- ---- the line of a note

record Hash (line : List ℕ) : Type 0 where
  rest : List ℕ
  whole : line ≡ 35 ∷ rest

hash_by : (a : ℕ) (rest : List ℕ) (b : Bool) → Hash (if b then take (length (35 ∷ a ∷ rest) - 1) (35 ∷ a ∷ rest) else 35 ∷ a ∷ rest)
hash_by a rest true =
    let many : length (35 ∷ a ∷ rest) - 1 ≡ suc (length rest) = omega arith in
    record { rest = take (length rest) (a ∷ rest); whole = ap (λ k. take k (35 ∷ a ∷ rest)) many }
hash_by a rest false = record { rest = a ∷ rest; whole = refl }

hash : (a : ℕ) (rest : List ℕ) → Hash (without_return (35 ∷ a ∷ rest))
hash a rest = hash_by a rest (returns (35 ∷ a ∷ rest))

pragma_skipped : (players : Players) (other : List Event) (m : ℕ) (text : List ℕ) → 0 < length other → with_pragma (so_far players other) m text ≡ Ok (so_far players other)
unfolding with_pragma
pragma_skipped players other m text some =
    let late : (length other == 0) ≡ false = grind (arith, nat_tests) in
    rw late refl

hash_skipped : (players : Players) (other : List Event) (m : ℕ) (text : List ℕ) → 0 < length other → with_line (so_far players other) m (35 ∷ text) ≡ Ok (so_far players other)
unfolding with_line
hash_skipped players other m text some = pragma_skipped players other m text some

pub note_skipped : (players : Players) (other : List Event) (m : ℕ) (line note : List ℕ) → 0 < length other
    → with_line (so_far players other) m (without_return (note_line line note)) ≡ Ok (so_far players other)
note_skipped players other m line note some =
    let h = hash 110 (111 ∷ 116 ∷ 101 ∷ 32 ∷ (note ++ return_of line)) in
    ap (with_line (so_far players other) m) h.whole ∙ hash_skipped players other m h.rest some
