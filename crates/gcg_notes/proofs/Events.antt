-- The same event on another line.
use Rattle.std.proofs.Common.{◌≡◌, ℕ, Bool, true, false, List, [], ◌∷◌, length, nat_le, Option, Some, None, Ok, if◌then◌else◌, ap, ◌∙◌}
use Rattle.std.specs.Option.{ok_or}
use Rattle.gcg_read.specs.declared.faults.Why.TheVariants as why
use Rattle.gcg_read.specs.declared.events.Event.{Event}
use Rattle.gcg_read.specs.declared.events.EventKind.{EventKind}
use Rattle.gcg_read.specs.declared.events.EventKind.TheVariants as kind
use Rattle.gcg_read.specs.declared.events.Seat.{Seat}
use Rattle.gcg_read.specs.declared.event_lines.Heading.{Heading}
use Rattle.gcg_read.specs.declared.records.Record.{Record}
use Rattle.gcg_read.specs.Codes.{code_of}
use Rattle.gcg_read.specs.Cutting.{fields_of}
use Rattle.gcg_read.specs.EventLines.{scored_of, played_of, coded_of, has_digit, event_of}
use Rattle.gcg_read.specs.Faults.{◌>>=◌}
use Rattle.gcg_read.specs.Numerals.{points_of}
use Rattle.gcg_read.specs.Players.{seat_for}
use Rattle.gcg_read.specs.Positions.{position_of}
use Rattle.gcg_read.specs.Racks.{rack_of}
use Rattle.gcg_read.specs.Records.{NamedEvent, most_events, entry_of}
use Rattle.gcg_read.specs.Texts.{text_of}
use Rattle.gcg_write.proofs.Inversions.{stepped, ok_same}
use Rattle.gcg_numbers.proofs.Entries.{entered, made}
use Rattle.gcg_numbers.proofs.Events.{two_steps}

abbrev pub at_line : ℕ → Event → Event
at_line m e = record e { line = m }

abbrev heading : ℕ → Seat → Heading
heading line seat = record { line = line; player = seat }

scored_moved : (n m : ℕ) (seat : Seat) (rack : Option (List ℕ)) (what : EventKind) (s t : List ℕ) (e : Event) → scored_of (heading n seat) rack what s t ≡ Ok e → scored_of (heading m seat) rack what s t ≡ Ok (at_line m e)
unfolding scored_of
scored_moved n m seat rack what s t e read =
    two_steps (ok_or (points_of s) why.Number) (ok_or (points_of t) why.Number)
    (λ points after. Ok (record { line = n; player = seat; rack = rack; kind = what; score = points; total = after }))
    (λ points after. Ok (record { line = m; player = seat; rack = rack; kind = what; score = points; total = after }))
    e (at_line m e) (λ points after r. ap (λ (x : Event). Ok (at_line m x)) (ok_same _ e r)) read

coded_moved : (n m : ℕ) (seat : Seat) (rack : Option (List ℕ)) (code s t : List ℕ) (e : Event) → coded_of (heading n seat) rack code s t ≡ Ok e → coded_of (heading m seat) rack code s t ≡ Ok (at_line m e)
unfolding coded_of
coded_moved n m seat rack code s t e read =
    let a = stepped (ok_or (code_of code) why.Code) _ e read in
    rw a.1.0 (scored_moved n m seat rack a.0 s t e a.1.1)

played_moved : (n m : ℕ) (seat : Seat) (rack : Option (List ℕ)) (position word s t : List ℕ) (e : Event) → played_of (heading n seat) rack position word s t ≡ Ok e
    → played_of (heading m seat) rack position word s t ≡ Ok (at_line m e)
unfolding played_of
played_moved n m seat rack position word s t e read =
    two_steps (ok_or (position_of position) why.Position) (ok_or (text_of word) why.Word)
    (λ place text. scored_of (heading n seat) rack (kind.Play place.at place.dir text) s t) (λ place text. scored_of (heading m seat) rack (kind.Play place.at place.dir text) s t)
    e (at_line m e) (λ place text r. scored_moved n m seat rack (kind.Play place.at place.dir text) s t e r) read

racked_moved : (n m : ℕ) (seat : Seat) (a b s t : List ℕ) (e : Event) → (ok_or (rack_of a) why.Rack >>= λ rack. coded_of (heading n seat) (Some rack) b s t) ≡ Ok e
    → (ok_or (rack_of a) why.Rack >>= λ rack. coded_of (heading m seat) (Some rack) b s t) ≡ Ok (at_line m e)
racked_moved n m seat a b s t e read =
    let r = stepped (ok_or (rack_of a) why.Rack) _ e read in
    rw r.1.0 (coded_moved n m seat (Some r.0) b s t e r.1.1)

four_by : (n m : ℕ) (seat : Seat) (a b s t : List ℕ) (e : Event) (digit : Bool)
    → (if digit then played_of (heading n seat) None a b s t else (ok_or (rack_of a) why.Rack >>= λ rack. coded_of (heading n seat) (Some rack) b s t)) ≡ Ok e
    → (if digit then played_of (heading m seat) None a b s t else (ok_or (rack_of a) why.Rack >>= λ rack. coded_of (heading m seat) (Some rack) b s t)) ≡ Ok (at_line m e)
four_by n m seat a b s t e true read = played_moved n m seat None a b s t e read
four_by n m seat a b s t e false read = racked_moved n m seat a b s t e read

five_moved : (n m : ℕ) (seat : Seat) (a b c s t : List ℕ) (e : Event) → (ok_or (rack_of a) why.Rack >>= λ rack. played_of (heading n seat) (Some rack) b c s t) ≡ Ok e
    → (ok_or (rack_of a) why.Rack >>= λ rack. played_of (heading m seat) (Some rack) b c s t) ≡ Ok (at_line m e)
five_moved n m seat a b c s t e read =
    let r = stepped (ok_or (rack_of a) why.Rack) _ e read in
    rw r.1.0 (played_moved n m seat (Some r.0) b c s t e r.1.1)

event_moved : (n m : ℕ) (seat : Seat) (fields : List (List ℕ)) (e : Event) → event_of (heading n seat) fields ≡ Ok e → event_of (heading m seat) fields ≡ Ok (at_line m e)
unfolding event_of
event_moved n m seat [] e read = absurd cc
event_moved n m seat (a ∷ []) e read = absurd cc
event_moved n m seat (a ∷ b ∷ []) e read = absurd cc
event_moved n m seat (a ∷ b ∷ c ∷ []) e read = coded_moved n m seat None a b c e read
event_moved n m seat (a ∷ b ∷ c ∷ d ∷ []) e read = four_by n m seat a b c d e (has_digit a) read
event_moved n m seat (a ∷ b ∷ c ∷ d ∷ f ∷ []) e read = five_moved n m seat a b c d f e read
event_moved n m seat (a ∷ b ∷ c ∷ d ∷ f ∷ g ∷ fields) e read = absurd cc

pub entry_moved : (so_far other : Record) (n m : ℕ) (text : List ℕ) (ne : NamedEvent) → other.players ≡ so_far.players → length other.events ≡ length so_far.events
    → entry_of so_far n text ≡ Ok ne → entry_of other m text ≡ Ok (record { nick = ne.nick; event = at_line m ne.event })
entry_moved so_far other n m text ne players many read =
    let h = entered so_far n text ne read in
    made other m text h.head h.seat (at_line m ne.event)
    (ap (nat_le most_events) many ∙ h.few) h.headed (ap (λ p. seat_for p h.head.nick) players ∙ h.seated)
    (event_moved n m h.seat (fields_of h.head.after) ne.event h.event)
    ∙ ap (λ nick. Ok (let e : NamedEvent = record { nick = nick; event = at_line m ne.event } in e)) h.nick
