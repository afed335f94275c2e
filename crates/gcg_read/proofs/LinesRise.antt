-- The lines of the events of a record rise.
use Rattle.std.proofs.Common.{◌≡◌, ℕ, zero, suc, ◌+◌, ◌<◌, ◌==◌, Bool, true, false, nat_lt, nat_le, List, [], ◌∷◌, ◌++◌, length, get_or, AllPairs, Option, Some, None, Result, Ok, Err, IfOk, ok_or, if◌then◌else◌, refl, arith}
use Rattle.std.proofs.lemmas.List.Quantifiers.{all_pairs_push}
use Rattle.std.proofs.lemmas.Result.{IfOk-at_ok}
use Rattle.gcg_read.specs.declared.faults.Why.{Why}
use Rattle.gcg_read.specs.declared.faults.Why.TheVariants as why
use Rattle.gcg_read.specs.declared.events.Event.{Event}
use Rattle.gcg_read.specs.declared.events.EventKind.{EventKind}
use Rattle.gcg_read.specs.declared.events.EventKind.TheVariants as kind
use Rattle.gcg_read.specs.declared.event_lines.Heading.{Heading}
use Rattle.gcg_read.specs.declared.records.Record.{Record}
use Rattle.gcg_read.specs.Faults.{◌>>=◌, on_line}
use Rattle.gcg_read.specs.Numerals.{points_of}
use Rattle.gcg_read.specs.Positions.{position_of}
use Rattle.gcg_read.specs.Texts.{text_of}
use Rattle.gcg_read.specs.Racks.{rack_of}
use Rattle.gcg_read.specs.Codes.{code_of}
use Rattle.gcg_read.specs.Cutting.{lines_of, fields_of, head_of}
use Rattle.gcg_read.specs.Players.{seat_for}
use Rattle.gcg_read.specs.Pragmas.{Naming, naming_of}
use Rattle.gcg_read.specs.EventLines.{scored_of, played_of, coded_of, event_of, has_digit}
use Rattle.gcg_read.specs.Records.{most_bytes, most_events, no_record, NamedEvent, entry_of, with_event, players_with, with_naming, with_pragma, with_line, record_from, record_of}

-- ---- steps of a reading

module _ {A B E : Type 0} where
  -- one step and then another
  after : (Q : A → Type 0) (P : B → Type 0) (r : Result A E) (f : A → Result B E) → IfOk r Q → ((x : A) → Q x → IfOk (f x) P) → IfOk (r >>= f) P
  after Q P (Ok x) f h g = g x h
  after Q P (Err w) f h g = tt

  -- the same if what the first step gives does not matter
  following : (P : B → Type 0) (r : Result A E) (f : A → Result B E) → ((x : A) → IfOk (f x) P) → IfOk (r >>= f) P
  following P (Ok x) f g = g x
  following P (Err w) f g = tt

-- one of two
either : {A E : Type 0} (P : A → Type 0) (b : Bool) (x y : Result A E) → IfOk x P → IfOk y P → IfOk (if b then x else y) P
either P true x y f g = f
either P false x y f g = g

-- a fault is put on its line, and what is read stays
placed : {A : Type 0} (P : A → Type 0) (line : ℕ) (r : Result A Why) → IfOk r P → IfOk (on_line line r) P
placed P line (Ok x) h = h
placed P line (Err w) h = tt

-- ---- an event has the line of its heading

abbrev IsOn : ℕ → Event → Type 0
IsOn line event = event.line ≡ line

scored_line : (heading : Heading) (rack : Option (List ℕ)) (what : EventKind) (score total : List ℕ) → IfOk (scored_of heading rack what score total) (IsOn heading.line)
unfolding scored_of
scored_line heading rack what score total =
    following (IsOn heading.line) (ok_or (points_of score) why.Number) _ (λ points. following (IsOn heading.line) (ok_or (points_of total) why.Number) _ (λ total. refl))

played_line : (heading : Heading) (rack : Option (List ℕ)) (position word score total : List ℕ) → IfOk (played_of heading rack position word score total) (IsOn heading.line)
unfolding played_of
played_line heading rack position word score total =
    following (IsOn heading.line) (ok_or (position_of position) why.Position) _
    (λ place. following (IsOn heading.line) (ok_or (text_of word) why.Word) _ (λ text. scored_line heading rack (kind.Play place.at place.dir text) score total))

coded_line : (heading : Heading) (rack : Option (List ℕ)) (code score total : List ℕ) → IfOk (coded_of heading rack code score total) (IsOn heading.line)
unfolding coded_of
coded_line heading rack code score total = following (IsOn heading.line) (ok_or (code_of code) why.Code) _ (λ what. scored_line heading rack what score total)

event_line : (heading : Heading) (fields : List (List ℕ)) → IfOk (event_of heading fields) (IsOn heading.line)
unfolding event_of
event_line heading [] = tt
event_line heading (a ∷ []) = tt
event_line heading (a ∷ b ∷ []) = tt
event_line heading (a ∷ b ∷ c ∷ []) = coded_line heading None a b c
event_line heading (a ∷ b ∷ c ∷ d ∷ []) =
    either (IsOn heading.line) (has_digit a) (played_of heading None a b c d) (ok_or (rack_of a) why.Rack >>= λ rack. coded_of heading (Some rack) b c d) (played_line heading None a b c d)
    (following (IsOn heading.line) (ok_or (rack_of a) why.Rack) _ (λ rack. coded_line heading (Some rack) b c d))
event_line heading (a ∷ b ∷ c ∷ d ∷ e ∷ []) = following (IsOn heading.line) (ok_or (rack_of a) why.Rack) _ (λ rack. played_line heading (Some rack) b c d e)
event_line heading (a ∷ b ∷ c ∷ d ∷ e ∷ f ∷ rest) = tt

abbrev HasEventOn : ℕ → NamedEvent → Type 0
HasEventOn line entry = entry.event.line ≡ line

entry_line : (so_far : Record) (line : ℕ) (text : List ℕ) → IfOk (entry_of so_far line text) (HasEventOn line)
unfolding entry_of
entry_line so_far line text =
    either (HasEventOn line) (nat_le most_events (length so_far.events)) (Err why.TooManyEvents) _ tt
    (following (HasEventOn line) (ok_or (head_of text) why.NoColon) _
    (λ head. following (HasEventOn line) (ok_or (seat_for so_far.players head.nick) why.ThirdPlayer) _
    (λ player. after (IsOn line) (HasEventOn line) (event_of (record { line = line; player = player }) (fields_of head.after)) _
    (event_line (record { line = line; player = player }) (fields_of head.after)) (λ event on. on))))

-- ---- one more line

abbrev Rises : Record → Type 0
Rises r = AllPairs (λ a b. a.line < b.line) r.events

-- the lines of the events rise, and all are below this one
abbrev RiseBelow : ℕ → Record → Type 0
RiseBelow n r = Rises r × ((k : ℕ) (d : Event) → k < length r.events → (get_or r.events k d).line < n)

below_push : (xs : List Event) (y : Event) (n : ℕ) → ((k : ℕ) (d : Event) → k < length xs → (get_or xs k d).line < n) → y.line ≡ n
    → (k : ℕ) (d : Event) → k < length (xs ++ y ∷ []) → (get_or (xs ++ y ∷ []) k d).line < n + 1
below_push [] y n h e zero d lt = omega (arith, e)
below_push [] y n h e (suc k) d lt = absurd (omega arith)
below_push (x ∷ xs) y n h e zero d lt = let first = h 0 d (omega arith) in omega (arith, first)
below_push (x ∷ xs) y n h e (suc k) d lt = below_push xs y n (λ j b within. h (suc j) b (omega arith)) e k d (omega arith)

push_rises : (xs : List Event) (y : Event) (n : ℕ) → AllPairs (λ a b. a.line < b.line) xs → ((k : ℕ) (d : Event) → k < length xs → (get_or xs k d).line < n) → y.line ≡ n
    → AllPairs (λ a b. a.line < b.line) (xs ++ y ∷ [])
push_rises xs y n rise below e = all_pairs_push (λ a b. a.line < b.line) xs y rise (λ k d within. let small = below k d within in omega (arith, small, e))

-- a line that adds no event
later : (r : Record) (n : ℕ) → RiseBelow n r → RiseBelow (n + 1) r
later r n h = (h.0, λ k d within. let small = h.1 k d within in omega (arith, small))

event_rises : (so_far : Record) (n : ℕ) (text : List ℕ) → RiseBelow n so_far → IfOk (with_event so_far n text) (RiseBelow (n + 1))
unfolding with_event
event_rises so_far n text h =
    after (HasEventOn n) (RiseBelow (n + 1)) (on_line n (entry_of so_far n text)) _ (placed (HasEventOn n) n (entry_of so_far n text) (entry_line so_far n text))
    (λ entry on. (push_rises so_far.events entry.event n h.0 h.1 on, below_push so_far.events entry.event n h.1 on))

naming_rises : (so_far : Record) (n : ℕ) (naming : Option Naming) → RiseBelow n so_far → IfOk (with_naming so_far n naming) (RiseBelow (n + 1))
naming_rises so_far n None h = later so_far n h
naming_rises so_far n (Some naming) h = following (RiseBelow (n + 1)) (on_line n (players_with so_far.players naming)) _ (λ players. later so_far n h)

pragma_rises : (so_far : Record) (n : ℕ) (text : List ℕ) → RiseBelow n so_far → IfOk (with_pragma so_far n text) (RiseBelow (n + 1))
unfolding with_pragma
pragma_rises so_far n text h =
    either (RiseBelow (n + 1)) (length so_far.events == 0) (with_naming so_far n (naming_of text)) (Ok so_far) (naming_rises so_far n (naming_of text) h) (later so_far n h)

line_rises : (so_far : Record) (n : ℕ) (line : List ℕ) → RiseBelow n so_far → IfOk (with_line so_far n line) (RiseBelow (n + 1))
unfolding with_line
line_rises so_far n [] h = later so_far n h
line_rises so_far n (byte ∷ text) h =
    either (RiseBelow (n + 1)) (byte == 62) (with_event so_far n text) (if byte == 35 then with_pragma so_far n text else Ok so_far) (event_rises so_far n text h)
    (either (RiseBelow (n + 1)) (byte == 35) (with_pragma so_far n text) (Ok so_far) (pragma_rises so_far n text h) (later so_far n h))

-- ---- all lines

rest_rises : (so_far : Record) (n : ℕ) (lines : List (List ℕ)) → RiseBelow n so_far → IfOk (record_from so_far n lines) Rises
unfolding record_from
rest_rises so_far n [] h = h.0
rest_rises so_far n (line ∷ rest) h =
    after (RiseBelow (n + 1)) Rises (with_line so_far n line) _ (line_rises so_far n line h) (λ next g. rest_rises next (n + 1) rest g)

text_rises : (text : List ℕ) → IfOk (record_of text) Rises
unfolding record_of
text_rises text =
    either Rises (nat_lt most_bytes (length text)) (Err (record { line = 0; why = why.TooLong })) (record_from no_record 1 (lines_of text)) tt
    (rest_rises no_record 1 (lines_of text) (λ i j d lt within. absurd (omega arith), λ k d within. absurd (omega arith)))

pub lines_rise : (text : List ℕ) (r : Record) → record_of text ≡ Ok r → Rises r
lines_rise text r e = IfOk-at_ok Rises e (text_rises text)
