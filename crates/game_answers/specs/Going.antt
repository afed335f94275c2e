-- How far a machine went through a record.
use Rattle.std.specs.Prelude.{◌≡◌, ℕ, List}
use Rattle.ref_tiles.specs.declared.rulebook.Rules.{Rules}
use Rattle.gcg_read.specs.declared.events.Event.{Event}
use Rattle.game_turns.specs.declared.machine.Machine.{Machine}
use Rattle.game_turns.specs.Machines.{rules_of, state_of}
use Rattle.game_turns.specs.Tallies.{tally_at}

-- A machine by these rules took the events before a place of a record, from 0.
pub record HasTaken (rules : Rules) (events : List Event) (place : ℕ) (machine : Machine) : Type 0 where
  pub own : rules_of machine ≡ rules
  pub state : state_of machine ≡ tally_at rules events place
