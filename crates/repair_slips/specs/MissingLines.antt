-- Lines that may be missing before a place of a record.
use Rattle.std.specs.Prelude.{ℕ, Bool, false, nat_lt, List, [], ◌∷◌, ◌++◌, take, drop, Option, Some, None}
use Rattle.std.specs.List.{list_any}
use Rattle.ref_tiles.specs.declared.rulebook.Rules.{Rules}
use Rattle.gcg_read.specs.declared.events.Event.{Event}
use Rattle.gcg_read.specs.declared.events.EventKind.{EventKind}
use Rattle.gcg_read.specs.declared.events.EventKind.TheVariants as kind
use Rattle.gcg_read.specs.declared.events.Seat.{Seat}
use Rattle.gcg_read.specs.declared.events.Seat.TheVariants.{First, Second}
use Rattle.game_turns.specs.Tallies.{State, is_turn}
use Rattle.repair_changes.specs.declared.slips.Slip.{Slip}
use Rattle.repair_changes.specs.declared.slips.Slip.TheVariants as slip
use Rattle.repair_changes.specs.declared.slips.MissingLine.TheVariants as line
use Rattle.repair_slips.specs.Each.{lists_to}
use Rattle.repair_slips.specs.Amounts.{bonus_for, penalty_of}
use Rattle.repair_slips.specs.Lines.{event_before}
use Rattle.repair_slips.specs.Rests.{rest_tiles, missing_rest}

abbrev pub missing_exchange : Seat → (tiles : ℕ) → List Slip
missing_exchange player tiles = slip.Missing (line.Exchange player tiles) ∷ []

-- an exchange of 1 to 7 tiles
unfoldable pub missing_exchanges : Seat → List Slip
missing_exchanges player = lists_to (missing_exchange player) 7

abbrev pub missing_penalty : Rules → (early : Bool) → Seat → (steps : ℕ) → List Slip
missing_penalty rules early player steps = slip.Missing (line.Time player (penalty_of rules steps) early) ∷ []

-- a penalty of 1 to 20 steps
unfoldable pub missing_penalties : Rules → (early : Bool) → Seat → List Slip
missing_penalties rules early player = lists_to (missing_penalty rules early player) 20

-- the lines of a player that may be missing
abbrev pub missing_of : Rules → (early : Bool) → Seat → List Slip
missing_of rules early player = slip.Missing (line.Pass player) ∷ missing_exchanges player ++ missing_penalties rules early player

abbrev pub missing_bonus : Rules → Seat → (words : ℕ) → List Slip
missing_bonus rules player words = slip.Missing (line.Challenge player (bonus_for rules words) (nat_lt 1 words)) ∷ []

-- the bonus for 1 to 8 words
unfoldable pub missing_bonuses : Rules → Seat → List Slip
missing_bonuses rules player = lists_to (missing_bonus rules player) 8

-- the lines that may follow a play: a withdrawal or a challenge
abbrev pub missing_of_play : Rules → Seat → List Slip
missing_of_play rules player = slip.Missing (line.Withdrawal player) ∷ missing_bonuses rules player

-- the same, if the event before is a play
abbrev pub missing_after : Rules → Seat → EventKind → List Slip
missing_after rules player (kind.Play at dir word) = missing_of_play rules player
missing_after rules player other = []

abbrev pub missing_following : Rules → Option Event → List Slip
missing_following rules None = []
missing_following rules (Some e) = missing_after rules e.player e.kind

-- whether an event is a turn
abbrev pub is_played : Event → Bool
is_played e = is_turn false None e.kind

-- All lines that may be missing before a place, by the state there: those of the first player and of the second; after a play, the
-- lines that may follow it; and the last rack of the rest.
unfoldable pub missing_slips : Rules → State → (events : List Event) → (place : ℕ) → List Slip
missing_slips rules s events place =
    missing_of rules (list_any is_played (drop place events)) First
    ++ missing_of rules (list_any is_played (drop place events)) Second
    ++ missing_following rules (event_before events place)
    ++ missing_rest s.complete s.out (rest_tiles rules s.board (take place events) (drop place events))
