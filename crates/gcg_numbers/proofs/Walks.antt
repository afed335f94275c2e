-- The record of lines with other numbers.
use Rattle.std.proofs.Common.{◌≡◌, ℕ, ◌==◌, Bool, true, false, List, [], ◌∷◌, ◌++◌, length, Option, Some, None, Ok, if◌then◌else◌, arith, refl, sym, ap, ◌∙◌, ◌⊎◌, inl, inr}
use Rattle.std.proofs.lemmas.Bool.Decides.{nat_tests}
use Rattle.gcg_read.specs.declared.events.Event.{Event}
use Rattle.gcg_read.specs.declared.players.Players.{Players}
use Rattle.gcg_read.specs.declared.records.Record.{Record}
use Rattle.gcg_read.specs.Cutting.{Named, head_of}
use Rattle.gcg_read.specs.Faults.{on_line}
use Rattle.gcg_read.specs.Players.{seated}
use Rattle.gcg_read.specs.Pragmas.{Naming, naming_of}
use Rattle.gcg_read.specs.Records.{NamedEvent, entry_of, with_event, players_with, with_naming, with_pragma, with_line}
use Rattle.gcg_write.proofs.Inversions.{stepped, on_its_line, ok_same}
use Rattle.gcg_write.proofs.Each.{Each}
use Rattle.gcg_write.proofs.Splitting.{Fails}
use Rattle.gcg_numbers.specs.Numbers.{after_colon, with_numbers, is_event_line}
use Rattle.gcg_numbers.specs.Laws.{IsOther}
use Rattle.gcg_numbers.proofs.Heads.{Colon, cut, head_cut, named_other, no_head}
use Rattle.gcg_numbers.proofs.Entries.{entered, entry_other, Two, two_of}
use Rattle.gcg_numbers.proofs.Returns.{IsNumbered}

abbrev pub so_far : Players → List Event → Record
so_far players events = record { players = players; events = events }

-- ---- one line

-- what the line of an event adds
pub record Added (players : Players) (done : List Event) (n : ℕ) (text : List ℕ) (next : Record) : Type 0 where
  pub entry : NamedEvent
  pub read : entry_of (so_far players done) n text ≡ Ok entry
  pub events : next.events ≡ done ++ entry.event ∷ []
  pub after : next.players ≡ seated players entry.event.player entry.nick

pub added : (players : Players) (done : List Event) (n : ℕ) (text : List ℕ) (next : Record) → with_event (so_far players done) n text ≡ Ok next → Added players done n text next
unfolding with_event
added players done n text next h =
    let a = stepped (on_line n (entry_of (so_far players done) n text)) _ next h in
    let same = ok_same _ next a.1.1 in
    record {
      entry = a.0;
      read = on_its_line n (entry_of (so_far players done) n text) a.0 a.1.0;
      events = ap (λ (r : Record). r.events) (sym same);
      after = ap (λ (r : Record). r.players) (sym same);
    }

pub add_with : (players : Players) (other : List Event) (n : ℕ) (text : List ℕ) (ne : NamedEvent) → entry_of (so_far players other) n text ≡ Ok ne
    → with_event (so_far players other) n text ≡ Ok (so_far (seated players ne.event.player ne.nick) (other ++ ne.event ∷ []))
unfolding with_event
add_with players other n text ne read = rw read refl

same_player : (e new : Event) → IsOther e new → new.player ≡ e.player
same_player e new is = ap (λ (x : Event). x.player) is.same

pub add_other : (players : Players) (done other : List Event) (n : ℕ) (text : List ℕ) (next : Record) (new : Event) (a : Added players done n text next) → length other ≡ length done
    → IsOther a.entry.event new
    → with_event (so_far players other) n (after_colon (with_numbers new) text) ≡ Ok (so_far next.players (other ++ new ∷ []))
add_other players done other n text next new a many is =
    let read = entry_other (so_far players done) (so_far players other) n text a.entry new refl many is a.read in
    add_with players other n (after_colon (with_numbers new) text) (record { nick = a.entry.nick; event = new }) read
    ∙ ap (λ p. Ok (so_far p (other ++ new ∷ []))) (ap (λ seat. seated players seat a.entry.nick) (same_player a.entry.event new is) ∙ sym a.after)

-- a line that is not an event adds no event, whatever its number is
naming_by : (players : Players) (done other : List Event) (n m : ℕ) (o : Option Naming) (next : Record) → with_naming (so_far players done) n o ≡ Ok next
    → (next.events ≡ done) × (with_naming (so_far players other) m o ≡ Ok (so_far next.players other))
naming_by players done other n m None next h =
    let same = ok_same (so_far players done) next h in
    (ap (λ (r : Record). r.events) (sym same), ap (λ p. Ok (so_far p other)) (ap (λ (r : Record). r.players) same))
naming_by players done other n m (Some naming) next h =
    let a = stepped (on_line n (players_with players naming)) _ next h in
    let same = ok_same (so_far a.0 done) next a.1.1 in
    let there : on_line m (players_with players naming) ≡ Ok a.0 = ap (on_line m) (on_its_line n (players_with players naming) a.0 a.1.0) in
    (ap (λ (r : Record). r.events) (sym same), rw there (ap (λ p. Ok (so_far p other)) (ap (λ (r : Record). r.players) same)))

pragma_by : (players : Players) (done other : List Event) (n m : ℕ) (text : List ℕ) (next : Record) (first : Bool)
    → (if first then with_naming (so_far players done) n (naming_of text) else Ok (so_far players done)) ≡ Ok next
    → (next.events ≡ done) × ((if first then with_naming (so_far players other) m (naming_of text) else Ok (so_far players other)) ≡ Ok (so_far next.players other))
pragma_by players done other n m text next true h = naming_by players done other n m (naming_of text) next h
pragma_by players done other n m text next false h =
    let same = ok_same (so_far players done) next h in
    (ap (λ (r : Record). r.events) (sym same), ap (λ p. Ok (so_far p other)) (ap (λ (r : Record). r.players) same))

pragma_other : (players : Players) (done other : List Event) (n m : ℕ) (text : List ℕ) (next : Record) → length other ≡ length done → with_pragma (so_far players done) n text ≡ Ok next
    → (next.events ≡ done) × (with_pragma (so_far players other) m text ≡ Ok (so_far next.players other))
unfolding with_pragma
pragma_other players done other n m text next many h =
    let both = pragma_by players done other n m text next (length done == 0) h in
    (both.0, ap (λ k. if k == 0 then with_naming (so_far players other) m (naming_of text) else Ok (so_far players other)) many ∙ both.1)

line_by : (players : Players) (done other : List Event) (n m : ℕ) (text : List ℕ) (next : Record) (pragma : Bool) → length other ≡ length done
    → (if pragma then with_pragma (so_far players done) n text else Ok (so_far players done)) ≡ Ok next
    → (next.events ≡ done) × ((if pragma then with_pragma (so_far players other) m text else Ok (so_far players other)) ≡ Ok (so_far next.players other))
line_by players done other n m text next true many h = pragma_other players done other n m text next many h
line_by players done other n m text next false many h =
    let same = ok_same (so_far players done) next h in
    (ap (λ (r : Record). r.events) (sym same), ap (λ p. Ok (so_far p other)) (ap (λ (r : Record). r.players) same))

pub passed : (players : Players) (done other : List Event) (n m : ℕ) (line : List ℕ) (next : Record) → is_event_line line ≡ false → length other ≡ length done
    → with_line (so_far players done) n line ≡ Ok next → (next.events ≡ done) × (with_line (so_far players other) m line ≡ Ok (so_far next.players other))
unfolding with_line
passed players done other n m [] next nonene many h =
    let same = ok_same (so_far players done) next h in
    (ap (λ (r : Record). r.events) (sym same), ap (λ p. Ok (so_far p other)) (ap (λ (r : Record). r.players) same))
passed players done other n m (byte ∷ text) next none many h =
    let skip : with_line (so_far players done) n (byte ∷ text) ≡ (if byte == 35 then with_pragma (so_far players done) n text else Ok (so_far players done)) = rw none refl in
    let both = line_by players done other n m text next (byte == 35) many (sym skip ∙ h) in
    (both.0, rw none both.1)

-- the line of an event
pub eventful : (players : Players) (done : List Event) (n : ℕ) (byte : ℕ) (text : List ℕ) (next : Record) → (byte == 62) ≡ true → with_line (so_far players done) n (byte ∷ text) ≡ Ok next
    → with_event (so_far players done) n text ≡ Ok next
unfolding with_line
eventful players done n byte text next is_event h =
    let skip : with_line (so_far players done) n (byte ∷ text) ≡ with_event (so_far players done) n text = rw is_event refl in
    sym skip ∙ h

pub as_event : (players : Players) (other : List Event) (n : ℕ) (byte : ℕ) (text : List ℕ) → (byte == 62) ≡ true → with_line (so_far players other) n (byte ∷ text) ≡ with_event (so_far players other) n text
unfolding with_line
as_event players other n byte text is_event = rw is_event refl

same_byte : (a b : ℕ) → (a == b) ≡ true → a ≡ b
same_byte a b e = grind (arith, nat_tests)

pub no_colon : (byte : ℕ) → (byte == 62) ≡ true → (byte == 58) ≡ false
no_colon byte is_event = rw (same_byte byte 62 is_event) refl

-- the line of an event has at least two fields after its colon
numbered_by : (byte : ℕ) (text : List ℕ) (head : Named) → (byte == 62) ≡ true → head_of text ≡ Some head → Two head.after → Each (Fails (λ b. b == 58)) text ⊎ Colon text → IsNumbered (byte ∷ text)
numbered_by byte text head is_event headed two (inl none) = absurd (no_head text head none headed)
numbered_by byte text head is_event headed two (inr c) =
    let there = named_other _ c.after c.after head (sym (head_cut c.before c.after c.first) ∙ ap head_of (sym c.whole) ∙ headed) in
    record {
      before = byte ∷ c.before;
      after = head.after;
      t = two.t;
      s = two.s;
      whole = ap (λ l. byte ∷ l) (c.whole ∙ ap (λ l. c.before ++ 58 ∷ l) (sym there.0));
      first = (no_colon byte is_event, c.first);
      two = two.both;
    }

pub numbered : (players : Players) (done : List Event) (n : ℕ) (byte : ℕ) (text : List ℕ) (next : Record) → (byte == 62) ≡ true → Added players done n text next → IsNumbered (byte ∷ text)
numbered players done n byte text next is_event a =
    let h = entered (so_far players done) n text a.entry a.read in
    numbered_by byte text h.head is_event h.headed (two_of (record { line = n; player = h.seat }) h.head.after a.entry.event h.event) (cut text)
