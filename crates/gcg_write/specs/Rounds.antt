-- What a second reading gives.
use Rattle.std.specs.Prelude.{◌≡◌, ◌≤◌, ℕ, ◌+◌, false, eqb, List, [], ◌∷◌, length, slice_get, codes, Some, Ok}
use Rattle.std.specs.List.{ends_with}
use Rattle.gcg_read.specs.declared.events.Event.{Event}
use Rattle.gcg_read.specs.declared.players.Player.{Player}
use Rattle.gcg_read.specs.declared.records.Record.{Record}
use Rattle.gcg_read.specs.Numerals.{IsPoints}
use Rattle.gcg_read.specs.Records.{record_of}
use Rattle.gcg_write.specs.Normal.{player_lines, normal_of}

-- the same events on successive lines, the first of which has this number
abbrev pub renumbered : ℕ → List Event → List Event
renumbered line [] = []
renumbered line (event ∷ events) = record event { line = line } ∷ renumbered (line + 1) events

-- the line of the first event in the normal form: those of the players come before it
abbrev pub first_line : Record → ℕ
first_line r = 1 + length (player_lines (codes "#player1 ") r.players.first) + length (player_lines (codes "#player2 ") r.players.second)

-- the same players and events, with the lines of the normal form
abbrev pub normal_record : Record → Record
normal_record r = record r { events = renumbered (first_line r) r.events }

-- no name ends in CR (13)
abbrev pub EndsInNoReturn : Player → Type 0
EndsInNoReturn player = (ends_with eqb player.nick (13 ∷ []) ≡ false) × (ends_with eqb player.full (13 ∷ []) ≡ false)

-- The normal form of a record that was read gives the same record except for the numbers of its lines, which are those of the
-- normal form, if it is short enough to be read and no name ends in CR.
abbrev pub IsReadAgain : Type 0
IsReadAgain =
    (text : List ℕ) (r : Record) → record_of text ≡ Ok r → EndsInNoReturn r.players.first → EndsInNoReturn r.players.second
    → length (normal_of r) ≤ 1048576 → record_of (normal_of r) ≡ Ok (normal_record r)

-- ---- with other scores and totals

-- the same player, rack and kind, with a score and a total that a record can write
pub record IsRescored (old new : Event) : Type 0 where
  pub player : new.player ≡ old.player
  pub rack : new.rack ≡ old.rack
  pub kind : new.kind ≡ old.kind
  pub score : IsPoints new.score
  pub total : IsPoints new.total

-- the same players, and the same events except for their lines, scores and totals
pub record HasOtherPoints (old new : Record) : Type 0 where
  pub players : new.players ≡ old.players
  pub as_many : length new.events ≡ length old.events
  pub events : (place : ℕ) (a b : Event) → slice_get old.events place ≡ Some a → slice_get new.events place ≡ Some b → IsRescored a b

-- each event of a record that was read has a score and a total that a record can write
abbrev pub IsReadWithPoints : Type 0
IsReadWithPoints =
    (text : List ℕ) (r : Record) → record_of text ≡ Ok r → (place : ℕ) (e : Event) → slice_get r.events place ≡ Some e → IsPoints e.score × IsPoints e.total

-- The normal form of a record that was read and then got other scores and totals gives that record, in the same way.
abbrev pub IsRescoredReadAgain : Type 0
IsRescoredReadAgain =
    (text : List ℕ) (old new : Record) → record_of text ≡ Ok old → HasOtherPoints old new → EndsInNoReturn new.players.first
    → EndsInNoReturn new.players.second → length (normal_of new) ≤ 1048576 → record_of (normal_of new) ≡ Ok (normal_record new)
