-- What the line of an event says of the best play.
use Rattle.std.specs.Prelude.{◌≡◌, ℕ, ◌==◌, Bool, true, false, List, [], ◌∷◌, ◌++◌, sum, codes, Option, Some, None, is_none, slice_get, if◌then◌else◌}
use Rattle.std.specs.Fmt.{signed_decimal}
use Rattle.ref_tiles.specs.declared.tiles.Tile.{Tile}
use Rattle.ref_tiles.specs.declared.rulebook.Rules.{Rules}
use Rattle.ref_play.specs.Notations.{Written, notation_of}
use Rattle.ref_play.specs.Best.{Given, IsAnnotation}
use Rattle.gcg_read.specs.declared.events.Seat.{Seat}
use Rattle.gcg_read.specs.declared.events.Event.{Event}
use Rattle.gcg_read.specs.declared.events.EventKind.{EventKind}
use Rattle.gcg_read.specs.declared.events.EventKind.TheVariants as kind
use Rattle.gcg_write.specs.Fields.{play_text}
use Rattle.game_turns.specs.Seats.{side_of}
use Rattle.game_turns.specs.Tallies.{State, tally_at}

-- Whether the line of an event shows the rack of a turn: that of a play, also of one that is taken back, of an exchange, or
-- of a pass. The pass after a player is out is not a turn, and the line of a withdrawal shows no rack of its own.
abbrev pub is_judged : (out : Option Seat) → EventKind → Bool
is_judged out (kind.Play at dir word) = true
is_judged out kind.Pass = is_none out
is_judged out (kind.Exchange tiles) = true
is_judged out (kind.ExchangeUnknown n) = true
is_judged out other = false

-- a stated rack, if it has this many tiles
abbrev pub whole_rack : (size : ℕ) → Option (List ℕ) → Option (List ℕ)
whole_rack size None = None
whole_rack size (Some rack) = if sum rack == size then Some rack else None

-- the rack that a line states, if it is full: if it has as many tiles as the player holds
abbrev pub full_rack : State → Event → Option (List ℕ)
full_rack s e = whole_rack (side_of s.sides e.player).rack e.rack

-- a notation as event lines have it: position and word
abbrev pub notation_text : Written → List ℕ
notation_text w = play_text w.at w.dir w.word

-- the text of the best play, or of none
abbrev pub best_text : List (Option Tile) → Option Given → List ℕ
best_text board None = codes " best none"
best_text board (Some given) = codes " best " ++ notation_text (notation_of board given.tiles) ++ 32 ∷ signed_decimal given.score

-- a full rack gives the best play on the board, or that there is none; ' best -' says that the rack is not full
abbrev pub ReportsByRack : Rules → (list : List (List ℕ)) → (board : List (Option Tile)) → Option (List ℕ) → List ℕ → Type 0
ReportsByRack rules list board None reported = reported ≡ codes " best -"
ReportsByRack rules list board (Some rack) reported = (answer : Option Given) × IsAnnotation rules list board rack answer × (reported ≡ best_text board answer)

-- what the line of an event says of the best play, by the state before the event
pub record ReportsBest (rules : Rules) (list : List (List ℕ)) (s : State) (e : Event) (reported : List ℕ) : Type 0 where
  pub judged : is_judged s.out e.kind ≡ true → ReportsByRack rules list s.board (full_rack s e) reported
  pub silent : is_judged s.out e.kind ≡ false → reported ≡ []

-- the same for the event at a place of a record, counted from 0
abbrev pub ReportsBestAt : Rules → (list : List (List ℕ)) → List Event → ℕ → List ℕ → Type 0
ReportsBestAt rules list events place reported = (e : Event) → slice_get events place ≡ Some e → ReportsBest rules list (tally_at rules events place) e reported

-- the text is appended
pub record Appends (IsReported : List ℕ → Type 0) (old new : List ℕ) : Type 0 where
  pub reported : List ℕ
  pub is_reported : IsReported reported
  pub following : new ≡ old ++ reported
