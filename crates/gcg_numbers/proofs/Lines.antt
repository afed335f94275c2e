-- The record of all lines with other numbers.
use Rattle.std.proofs.Common.{◌≡◌, ℕ, suc, ◌+◌, ◌-◌, ◌==◌, ◌&&◌, Bool, true, false, eqb, List, [], ◌∷◌, ◌++◌, length, take, map, Ok, if◌then◌else◌, arith, refl, sym, ap, subst, ◌∙◌}
use Rattle.std.proofs.lemmas.List.{append-nil, append_assoc, append_cancel_left, length-append}
use Rattle.std.proofs.lemmas.Bool.Decides.{nat_tests}
use Rattle.text_lines.specs.Lines.{without_return}
use Rattle.gcg_read.specs.declared.events.Event.{Event}
use Rattle.gcg_read.specs.declared.players.Players.{Players}
use Rattle.gcg_read.specs.declared.records.Record.{Record}
use Rattle.gcg_read.specs.Records.{with_line, record_from}
use Rattle.gcg_write.proofs.Inversions.{stepped, ok_same}
use Rattle.gcg_write.proofs.LineCuts.{returns}
use Rattle.gcg_numbers.specs.Numbers.{after_colon, with_numbers, line_with, is_event_line, lines_with}
use Rattle.gcg_numbers.specs.Laws.{IsOther, AreOther}
use Rattle.gcg_numbers.proofs.Returns.{IsNumbered, return_other}
use Rattle.gcg_numbers.proofs.Walks.{so_far, Added, added, add_other, passed, eventful, as_event, no_colon, numbered}

-- ---- a record keeps the events that it has

record Front (done events : List Event) : Type 0 where
  more : List Event
  whole : events ≡ done ++ more

pub record Cons (line : List ℕ) : Type 0 where
  pub byte : ℕ
  pub text : List ℕ
  pub whole : line ≡ byte ∷ text
  pub event : (byte == 62) ≡ true

pub cons : (line : List ℕ) → is_event_line line ≡ true → Cons line
cons [] e = absurd cc
cons (byte ∷ text) e = record { byte = byte; text = text; whole = refl; event = e }

line_by : (n : ℕ) (players : Players) (done : List Event) (line : List ℕ) (next : Record) (b : Bool) → is_event_line line ≡ b → with_line (so_far players done) n line ≡ Ok next → Front done next.events
line_by n players done line next true e h =
    let c = cons line e in
    let a = added players done n c.text next (eventful players done n c.byte c.text next c.event (subst (λ l. with_line (so_far players done) n l ≡ Ok next) c.whole h)) in
    record { more = a.entry.event ∷ []; whole = a.events }
line_by n players done line next false e h =
    let p = passed players done done n n line next e refl h in
    record { more = []; whole = p.0 ∙ sym (append-nil done) }

kept : (lines : List (List ℕ)) (n : ℕ) (players : Players) (done : List Event) (r : Record) → record_from (so_far players done) n lines ≡ Ok r → Front done r.events
unfolding record_from
kept [] n players done r h =
    let same = ok_same (so_far players done) r h in
    record { more = []; whole = ap (λ (x : Record). x.events) (sym same) ∙ sym (append-nil done) }
kept (line ∷ lines) n players done r h =
    let a = stepped (with_line (so_far players done) n line) _ r h in
    let one = line_by n players done line a.0 (is_event_line line) refl a.1.0 in
    let rest = kept lines (n + 1) a.0.players a.0.events r a.1.1 in
    record { more = one.more ++ rest.more; whole = rest.whole ∙ ap (λ l. l ++ rest.more) one.whole ∙ append_assoc done one.more rest.more }

-- ---- an event line begins as it does without its CR

same_byte : (a b : ℕ) → (a == b) ≡ true → a ≡ b
same_byte a b e = grind (arith, nat_tests)

first_byte : (a b : Bool) → (a && b) ≡ true → a ≡ true
first_byte true b e = refl
first_byte false b e = absurd cc

only_by : (a : ℕ) (b : Bool) → returns (a ∷ []) ≡ b → is_event_line (if b then take (length (a ∷ []) - 1) (a ∷ []) else a ∷ []) ≡ is_event_line (a ∷ [])
only_by a true e =
    let thirteen : eqb 13 a ≡ true = first_byte (eqb 13 a) true e in
    let same : 13 ≡ a = same_byte 13 a thirteen in
    rw (sym same) refl
only_by a false e = refl

more_by : (a c : ℕ) (rest : List ℕ) (b : Bool) → is_event_line (if b then take (length (a ∷ c ∷ rest) - 1) (a ∷ c ∷ rest) else a ∷ c ∷ rest) ≡ is_event_line (a ∷ c ∷ rest)
more_by a c rest true =
    let many : length (a ∷ c ∷ rest) - 1 ≡ suc (length rest) = omega arith in
    ap (λ k. is_event_line (take k (a ∷ c ∷ rest))) many
more_by a c rest false = refl

pub begins : (line : List ℕ) → is_event_line (without_return line) ≡ is_event_line line
begins [] = refl
begins (a ∷ []) = only_by a (returns (a ∷ [])) refl
begins (a ∷ c ∷ rest) = more_by a c rest (returns (a ∷ c ∷ rest))

-- ---- the lines

nothing_remaining : (news : List Event) → AreOther [] news → news ≡ []
nothing_remaining [] h = refl
nothing_remaining (new ∷ news) h = absurd h

lines_remaining : (lines : List (List ℕ)) → lines_with [] lines ≡ lines
lines_remaining [] = refl
lines_remaining (line ∷ lines) = refl

-- what is shown about the lines after one
abbrev Goes : (lines : List (List ℕ)) → (n : ℕ) → Record → Type 0
Goes lines n r =
    (players : Players) (done other more news : List Event) → record_from (so_far players done) n (map without_return lines) ≡ Ok r → length other ≡ length done
    → r.events ≡ done ++ more → AreOther more news → record_from (so_far players other) n (map without_return (lines_with news lines)) ≡ Ok (so_far r.players (other ++ news))

-- a line that is not an event stays
stays : (line : List ℕ) (lines : List (List ℕ)) (news : List Event) → is_event_line line ≡ false → lines_with news (line ∷ lines) ≡ line ∷ lines_with news lines
stays line lines [] e = ap (λ l. line ∷ l) (sym (lines_remaining lines))
stays line lines (new ∷ news) e = rw e refl

pub go_on : (players : Players) (n : ℕ) (line : List ℕ) (lines : List (List ℕ)) (other : List Event) (next r : Record) → with_line (so_far players other) n line ≡ Ok next
    → record_from next (n + 1) lines ≡ Ok r → record_from (so_far players other) n (line ∷ lines) ≡ Ok r
unfolding record_from
go_on players n line lines other next r h k = rw h k

step_passed : (line : List ℕ) (lines : List (List ℕ)) (n : ℕ) (r next : Record) → Goes lines (n + 1) r → (players : Players) (done other more news : List Event)
    → is_event_line line ≡ false → with_line (so_far players done) n (without_return line) ≡ Ok next → record_from next (n + 1) (map without_return lines) ≡ Ok r
    → length other ≡ length done → r.events ≡ done ++ more → AreOther more news
    → record_from (so_far players other) n (map without_return (lines_with news (line ∷ lines))) ≡ Ok (so_far r.players (other ++ news))
step_passed line lines n r next go players done other more news e one rest many whole is =
    let p = passed players done other n n (without_return line) next (begins line ∙ e) many one in
    ap (λ l. record_from (so_far players other) n (map without_return l)) (stays line lines news e)
    ∙ go_on players n (without_return line) (map without_return (lines_with news lines)) other (so_far next.players other) (so_far r.players (other ++ news)) p.1
    (go next.players next.events other more news rest (many ∙ ap length (sym p.0)) (whole ∙ ap (λ l. l ++ more) (sym p.0)) is)

-- an event line with its numbers
line_other : (players : Players) (done other : List Event) (n : ℕ) (line : List ℕ) (byte : ℕ) (text : List ℕ) (next : Record) (new : Event) → without_return line ≡ byte ∷ text
    → (byte == 62) ≡ true → (a : Added players done n text next) → length other ≡ length done → IsOther a.entry.event new
    → with_line (so_far players other) n (without_return (line_with new line)) ≡ Ok (so_far next.players (other ++ new ∷ []))
line_other players done other n line byte text next new whole event a many is =
    let changed : without_return (line_with new line) ≡ after_colon (with_numbers new) (without_return line) =
    return_other new line (subst IsNumbered (sym whole) (numbered players done n byte text next event a)) is.total in
    let cut : after_colon (with_numbers new) (byte ∷ text) ≡ byte ∷ after_colon (with_numbers new) text = rw (no_colon byte event) refl in
    ap (with_line (so_far players other) n) (changed ∙ ap (after_colon (with_numbers new)) whole ∙ cut)
    ∙ as_event players other n byte (after_colon (with_numbers new) text) event ∙ add_other players done other n text next new a many is

takes : (line : List ℕ) (lines : List (List ℕ)) (new : Event) (news : List Event) → is_event_line line ≡ true → lines_with (new ∷ news) (line ∷ lines) ≡ line_with new line ∷ lines_with news lines
takes line lines new news e = rw e refl

step_event_by : (line : List ℕ) (lines : List (List ℕ)) (n : ℕ) (r next : Record) → Goes lines (n + 1) r → (players : Players) (done other rest news : List Event) (byte : ℕ) (text : List ℕ)
    → is_event_line line ≡ true → without_return line ≡ byte ∷ text → (byte == 62) ≡ true → (a : Added players done n text next)
    → record_from next (n + 1) (map without_return lines) ≡ Ok r → r.events ≡ next.events ++ rest → length other ≡ length done → AreOther (a.entry.event ∷ rest) news
    → record_from (so_far players other) n (map without_return (lines_with news (line ∷ lines))) ≡ Ok (so_far r.players (other ++ news))
step_event_by line lines n r next go players done other rest [] byte text e whole event a read front many is = absurd is
step_event_by line lines n r next go players done other rest (new ∷ news) byte text e whole event a read front many is =
    let one = line_other players done other n line byte text next new whole event a many is.0 in
    let longer : length (other ++ new ∷ []) ≡ length next.events =
    omega (arith, length-append other (new ∷ []), length-append done (a.entry.event ∷ []), ap length a.events) in
    ap (λ l. record_from (so_far players other) n (map without_return l)) (takes line lines new news e)
    ∙ go_on players n (without_return (line_with new line)) (map without_return (lines_with news lines)) other (so_far next.players (other ++ new ∷ [])) (so_far r.players ((other ++ new ∷ []) ++ news)) one
    (go next.players next.events (other ++ new ∷ []) rest news read longer front is.1)
    ∙ ap (λ l. Ok (so_far r.players l)) (append_assoc other (new ∷ []) news)

step_event : (line : List ℕ) (lines : List (List ℕ)) (n : ℕ) (r next : Record) → Goes lines (n + 1) r → (players : Players) (done other more news : List Event)
    → is_event_line line ≡ true → with_line (so_far players done) n (without_return line) ≡ Ok next → record_from next (n + 1) (map without_return lines) ≡ Ok r
    → length other ≡ length done → r.events ≡ done ++ more → AreOther more news
    → record_from (so_far players other) n (map without_return (lines_with news (line ∷ lines))) ≡ Ok (so_far r.players (other ++ news))
step_event line lines n r next go players done other more news e one read many whole is =
    let c = cons (without_return line) (begins line ∙ e) in
    let a = added players done n c.text next (eventful players done n c.byte c.text next c.event (subst (λ l. with_line (so_far players done) n l ≡ Ok next) c.whole one)) in
    let front = kept (map without_return lines) (n + 1) next.players next.events r read in
    let same : more ≡ a.entry.event ∷ front.more =
    append_cancel_left done more (a.entry.event ∷ front.more)
    (sym whole ∙ front.whole ∙ ap (λ l. l ++ front.more) a.events ∙ append_assoc done (a.entry.event ∷ []) front.more) in
    step_event_by line lines n r next go players done other front.more news c.byte c.text e c.whole c.event a read front.whole many (subst (λ l. AreOther l news) same is)

step_by : (line : List ℕ) (lines : List (List ℕ)) (n : ℕ) (r next : Record) → Goes lines (n + 1) r → (players : Players) (done other more news : List Event) (b : Bool)
    → is_event_line line ≡ b → with_line (so_far players done) n (without_return line) ≡ Ok next → record_from next (n + 1) (map without_return lines) ≡ Ok r
    → length other ≡ length done → r.events ≡ done ++ more → AreOther more news
    → record_from (so_far players other) n (map without_return (lines_with news (line ∷ lines))) ≡ Ok (so_far r.players (other ++ news))
step_by line lines n r next go players done other more news true e one read many whole is = step_event line lines n r next go players done other more news e one read many whole is
step_by line lines n r next go players done other more news false e one read many whole is = step_passed line lines n r next go players done other more news e one read many whole is

at_end : (n : ℕ) (players : Players) (done other more news : List Event) (r : Record) → record_from (so_far players done) n [] ≡ Ok r → r.events ≡ done ++ more → AreOther more news
    → record_from (so_far players other) n [] ≡ Ok (so_far r.players (other ++ news))
unfolding record_from
at_end n players done other more news r h whole is =
    let same = ok_same (so_far players done) r h in
    let none : more ≡ [] = append_cancel_left done more [] (sym whole ∙ ap (λ (x : Record). x.events) (sym same) ∙ sym (append-nil done)) in
    let remaining : news ≡ [] = nothing_remaining news (subst (λ l. AreOther l news) none is) in
    ap (λ p. Ok (so_far p other)) (ap (λ (x : Record). x.players) same) ∙ ap (λ l. Ok (so_far r.players l)) (sym (append-nil other)) ∙ ap (λ l. Ok (so_far r.players (other ++ l))) (sym remaining)

first_step : (line : List ℕ) (lines : List (List ℕ)) (n : ℕ) (r : Record) → Goes lines (n + 1) r → Goes (line ∷ lines) n r
unfolding record_from
first_step line lines n r go players done other more news h many whole is =
    let a = stepped (with_line (so_far players done) n (without_return line)) _ r h in
    step_by line lines n r a.0 go players done other more news (is_event_line line) refl a.1.0 a.1.1 many whole is

pub walked : (lines : List (List ℕ)) (n : ℕ) (r : Record) → Goes lines n r
walked [] n r players done other more news h many whole is = at_end n players done other more news r h whole is
walked (line ∷ lines) n r players done other more news h many whole is = first_step line lines n r (walked lines (n + 1) r) players done other more news h many whole is
