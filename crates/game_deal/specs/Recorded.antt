-- The steps of a record, by the tally at each place.
use Rattle.std.specs.Prelude.{◌≡◌, ℕ, ◌==◌, min, Bool, true, false, List, [], ◌∷◌, length, count_by, Option, Some, None, is_some, slice_get, if◌then◌else◌}
use Rattle.ref_tiles.specs.Kinds.{number_of}
use Rattle.ref_tiles.specs.Counting.{no_tiles}
use Rattle.ref_tiles.specs.declared.tiles.Tile.{Tile}
use Rattle.ref_tiles.specs.declared.rulebook.Rules.{Rules}
use Rattle.ref_play.specs.declared.placed.Placed.{Placed}
use Rattle.ref_play.specs.Texts.{placement_of, text_fault}
use Rattle.gcg_read.specs.Players.{other_seat}
use Rattle.gcg_read.specs.declared.events.Seat.{Seat}
use Rattle.gcg_read.specs.declared.events.Event.{Event}
use Rattle.gcg_read.specs.declared.events.EventKind.{EventKind}
use Rattle.gcg_read.specs.declared.events.EventKind.TheVariants as kind
use Rattle.game_turns.specs.Standing.{is_withdraw}
use Rattle.game_turns.specs.LatestEvents.{latest_tiles}
use Rattle.game_turns.specs.Tallies.{State, is_turn, tally, withdraws}
use Rattle.deal_steps.specs.Piles.{table}
use Rattle.deal_steps.specs.declared.steps.Motion.{Motion}
use Rattle.deal_steps.specs.declared.steps.Motion.TheVariants as motion
use Rattle.deal_steps.specs.declared.steps.Act.{Act}
use Rattle.deal_steps.specs.declared.steps.Act.TheVariants as act
use Rattle.deal_steps.specs.declared.steps.Step.{Step}

-- whether a square has a tile of this kind
abbrev pub has_kind : ℕ → Option Tile → Bool
has_kind k None = false
has_kind k (Some tile) = number_of tile.kind == k

-- the tiles on a board
unfoldable pub on_board : List (Option Tile) → List ℕ
on_board board = table (λ k. count_by (has_kind k) board)

-- the tiles of a placement
unfoldable pub placed_tiles : List Placed → List ℕ
placed_tiles placed = table (λ k. count_by (λ p. number_of p.tile.kind == k) placed)

abbrev pub play_motion : (bag : ℕ) → List Placed → (withdrawn : Bool) → Motion
play_motion bag placed true = motion.Tries (placed_tiles placed)
play_motion bag placed false = motion.Lays (placed_tiles placed) (min (length placed) bag)

-- the tiles that a line states
abbrev pub stated : Option (List ℕ) → List ℕ
stated None = no_tiles
stated (Some tiles) = tiles

abbrev pub turn_of : Event → Motion → Act
turn_of e what = act.Turns (stated e.rack) what

abbrev pub taken_back_act : Option (List Placed) → Act
taken_back_act None = act.Rests
taken_back_act (Some tiles) = act.TakesBack (placed_tiles tiles)

-- whose rack a last rack is: the other player's once the player is out, otherwise the player's own
abbrev pub last_holder : (out : Option Seat) → Seat → Seat
last_holder None player = player
last_holder (Some out) player = other_seat out

-- What an event means for the racks. The pass after a player is out says nothing, nor do challenges and time penalties.
abbrev pub act_of : State → Event → EventKind → (withdrawn : Bool) → Act
act_of s e (kind.Play at dir word) withdrawn = turn_of e (play_motion s.bag (placement_of s.board dir at word) withdrawn)
act_of s e kind.Pass withdrawn = if is_some s.out then act.Rests else turn_of e motion.Keeps
act_of s e (kind.Exchange tiles) withdrawn = turn_of e (motion.Throws tiles)
act_of s e (kind.ExchangeUnknown n) withdrawn = turn_of e (motion.ThrowsUnknown n)
act_of s e kind.Withdraw withdrawn = taken_back_act (latest_tiles s.latest)
act_of s e kind.Challenge withdrawn = act.Rests
act_of s e kind.Time withdrawn = act.Rests
act_of s e (kind.LastRack tiles) withdrawn = act.Ends (last_holder s.out e.player) tiles

-- the step of an event from the state before it
unfoldable pub step_in : State → Event → (withdrawn : Bool) → Step
step_in s e withdrawn =
    record {
      line = e.line;
      player = e.player;
      counted = is_turn withdrawn s.out e.kind;
      act = act_of s e e.kind withdrawn;
      board = on_board s.board;
      first = s.sides.first.rack;
      second = s.sides.second.rack;
      bag = s.bag;
    }

-- the steps of the events after a past, whose latest event comes first
abbrev pub steps_after : Rules → (past : List Event) → List Event → List Step
steps_after rules past [] = []
steps_after rules past (e ∷ events) =
    step_in (tally rules (is_withdraw e.kind) past) e (withdraws (slice_get events 0)) ∷ steps_after rules (e ∷ past) events

-- the steps of the events of a record
abbrev pub steps_of : Rules → List Event → List Step
steps_of rules events = steps_after rules [] events

-- if the event is a play, its text names a placement
abbrev pub IsNamed : List (Option Tile) → EventKind → Type 0
IsNamed board (kind.Play at dir word) = text_fault board dir at word ≡ None
IsNamed board kind.Pass = Unit {0}
IsNamed board (kind.Exchange tiles) = Unit {0}
IsNamed board (kind.ExchangeUnknown n) = Unit {0}
IsNamed board kind.Withdraw = Unit {0}
IsNamed board kind.Challenge = Unit {0}
IsNamed board kind.Time = Unit {0}
IsNamed board (kind.LastRack tiles) = Unit {0}
