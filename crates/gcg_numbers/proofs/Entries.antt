-- The entry of a line with other numbers.
use Rattle.std.proofs.Common.{◌≡◌, ℕ, false, List, [], ◌∷◌, ◌++◌, length, nat_le, Option, Some, None, Ok, refl, sym, ap, subst, ◌∙◌}
use Rattle.std.specs.Option.{ok_or}
use Rattle.gcg_read.specs.declared.faults.Why.TheVariants as why
use Rattle.gcg_read.specs.declared.events.Event.{Event}
use Rattle.gcg_read.specs.declared.events.Seat.{Seat}
use Rattle.gcg_read.specs.declared.event_lines.Heading.{Heading}
use Rattle.gcg_read.specs.declared.records.Record.{Record}
use Rattle.gcg_read.specs.Cutting.{Named, head_of, fields_of}
use Rattle.gcg_read.specs.EventLines.{event_of}
use Rattle.gcg_read.specs.Players.{seat_for}
use Rattle.gcg_read.specs.Records.{NamedEvent, most_events, entry_of}
use Rattle.gcg_write.proofs.Digits.{points_total, points_score}
use Rattle.gcg_write.proofs.Inversions.{stepped, given, passed, ok_same}
use Rattle.gcg_write.specs.Fields.{score_text}
use Rattle.std.specs.Fmt.{signed_decimal}
use Rattle.gcg_numbers.specs.Numbers.{Last, last_field, after_colon, with_numbers}
use Rattle.gcg_numbers.specs.Laws.{IsOther}
use Rattle.gcg_numbers.proofs.Fields.{no_fields}
use Rattle.gcg_numbers.proofs.Lasts.{IsCut, IsLastOf, last_is, fields_cut}
use Rattle.gcg_numbers.proofs.Scored.{HasTwo, score_of, total_of, fields_two, fields_numbers, number_says}
use Rattle.gcg_numbers.proofs.Events.{event_other}
use Rattle.gcg_numbers.proofs.Heads.{head_other}

-- ---- an event has at least two fields

pub record Two (text : List ℕ) : Type 0 where
  pub t : Last
  pub s : Last
  pub both : HasTwo text t s

short_none : (heading : Heading) (fields : List (List ℕ)) (e : Event) → fields ≡ [] → event_of heading fields ≡ Ok e → ⊥
unfolding event_of
short_none heading fields e same read = let r : event_of heading [] ≡ Ok e = subst (λ l. event_of heading l ≡ Ok e) same read in absurd cc

short_one : (heading : Heading) (fields : List (List ℕ)) (field : List ℕ) (e : Event) → fields ≡ field ∷ [] → event_of heading fields ≡ Ok e → ⊥
unfolding event_of
short_one heading fields field e same read = let r : event_of heading (field ∷ []) ≡ Ok e = subst (λ l. event_of heading l ≡ Ok e) same read in absurd cc

before_by : (heading : Heading) (text : List ℕ) (e : Event) (t : Last) (o : Option Last) → event_of heading (fields_of text) ≡ Ok e → last_field text ≡ Some t → IsCut text t
    → last_field t.front ≡ o → IsLastOf t.front o → Two text
before_by heading text e t None read last cut before is =
    let one : fields_of text ≡ t.field ∷ [] = fields_cut text t cut ∙ ap (λ l. l ++ t.field ∷ []) (no_fields t.front is) in
    absurd (short_one heading (fields_of text) t.field e one read)
before_by heading text e t (Some s) read last cut before is = record { t = t; s = s; both = record { last = last; before = before } }

last_by : (heading : Heading) (text : List ℕ) (e : Event) (o : Option Last) → event_of heading (fields_of text) ≡ Ok e → last_field text ≡ o → IsLastOf text o → Two text
last_by heading text e None read last is = absurd (short_none heading (fields_of text) e (no_fields text is) read)
last_by heading text e (Some t) read last is = before_by heading text e t (last_field t.front) read last is refl (last_is t.front)

pub two_of : (heading : Heading) (text : List ℕ) (e : Event) → event_of heading (fields_of text) ≡ Ok e → Two text
two_of heading text e read = last_by heading text e (last_field text) read refl (last_is text)

-- ---- the event

event_by : (heading : Heading) (text : List ℕ) (e new : Event) (t s : Last) → HasTwo text t s → IsOther e new → event_of heading (fields_of text) ≡ Ok e
    → event_of heading (fields_of (with_numbers new text)) ≡ Ok new
event_by heading text e new t s two other read =
    let old : event_of heading ((fields_of s.front ++ s.field ∷ []) ++ t.field ∷ []) ≡ Ok e = subst (λ l. event_of heading l ≡ Ok e) (fields_two text t s two) read in
    let score = number_says s.field new.score (score_text new.score) (points_score new.score other.score) in
    let total = number_says t.field new.total (signed_decimal new.total) (points_total new.total other.total) in
    ap (event_of heading) (fields_numbers new text t s two other.score other.total)
    ∙ event_other heading (fields_of s.front) s.field t.field (score_of s new) (total_of t new) e new.score new.total old score total
    ∙ ap (λ x. Ok x) (sym other.same)

event_with : (heading : Heading) (text : List ℕ) (e new : Event) → IsOther e new → event_of heading (fields_of text) ≡ Ok e → event_of heading (fields_of (with_numbers new text)) ≡ Ok new
event_with heading text e new other read = let two = two_of heading text e read in event_by heading text e new two.t two.s two.both other read

-- ---- the entry

-- where an entry comes from
pub record Entered (so_far : Record) (line : ℕ) (text : List ℕ) (ne : NamedEvent) : Type 0 where
  pub head : Named
  pub seat : Seat
  pub few : nat_le most_events (length so_far.events) ≡ false
  pub headed : head_of text ≡ Some head
  pub seated : seat_for so_far.players head.nick ≡ Some seat
  pub event : event_of (record { line = line; player = seat }) (fields_of head.after) ≡ Ok ne.event
  pub nick : head.nick ≡ ne.nick

pub entered : (so_far : Record) (line : ℕ) (text : List ℕ) (ne : NamedEvent) → entry_of so_far line text ≡ Ok ne → Entered so_far line text ne
unfolding entry_of
entered so_far line text ne read =
    let a = passed (nat_le most_events (length so_far.events)) why.TooManyEvents _ ne read in
    let b = stepped (ok_or (head_of text) why.NoColon) _ ne a.1 in
    let c = stepped (ok_or (seat_for so_far.players b.0.nick) why.ThirdPlayer) _ ne b.1.1 in
    let d = stepped (event_of (record { line = line; player = c.0 }) (fields_of b.0.after)) _ ne c.1.1 in
    let same : (let n : NamedEvent = record { nick = b.0.nick; event = d.0 } in n) ≡ ne = ok_same _ ne d.1.1 in
    record {
      head = b.0;
      seat = c.0;
      few = a.0;
      headed = given (head_of text) why.NoColon b.0 b.1.0;
      seated = given (seat_for so_far.players b.0.nick) why.ThirdPlayer c.0 c.1.0;
      event = d.1.0 ∙ ap (λ (n : NamedEvent). Ok n.event) same;
      nick = ap (λ (n : NamedEvent). n.nick) same;
    }

pub made : (so_far : Record) (line : ℕ) (text : List ℕ) (head : Named) (seat : Seat) (e : Event) → nat_le most_events (length so_far.events) ≡ false → head_of text ≡ Some head
    → seat_for so_far.players head.nick ≡ Some seat → event_of (record { line = line; player = seat }) (fields_of head.after) ≡ Ok e
    → entry_of so_far line text ≡ Ok (record { nick = head.nick; event = e })
unfolding entry_of
made so_far line text head seat e few headed seated event = rw (few, headed, seated, event) refl

pub entry_other : (so_far other : Record) (line : ℕ) (text : List ℕ) (ne : NamedEvent) (new : Event) → other.players ≡ so_far.players → length other.events ≡ length so_far.events
    → IsOther ne.event new → entry_of so_far line text ≡ Ok ne → entry_of other line (after_colon (with_numbers new) text) ≡ Ok (record { nick = ne.nick; event = new })
entry_other so_far other line text ne new players many is read =
    let h = entered so_far line text ne read in
    made other line (after_colon (with_numbers new) text) (record h.head { after = with_numbers new h.head.after }) h.seat new
    (ap (nat_le most_events) many ∙ h.few) (head_other (with_numbers new) text h.head h.headed) (ap (λ p. seat_for p h.head.nick) players ∙ h.seated)
    (event_with (record { line = line; player = h.seat }) h.head.after ne.event new is h.event)
    ∙ ap (λ n. Ok (let e : NamedEvent = record { nick = n; event = new } in e)) h.nick
