-- Where a machine is that goes through a record that passed.
use Rattle.std.specs.Prelude.{◌≡◌, ℕ}
use Rattle.game_turns.specs.declared.machine.Machine.{Machine}
use Rattle.game_turns.specs.declared.passed.Passed.{Passed}
use Rattle.game_turns.specs.Machines.{rules_of, state_of}
use Rattle.game_turns.specs.Passing.{rules_in, record_in}
use Rattle.game_turns.specs.Tallies.{tally_at}

-- The machine judges by the rules of the record, and took the events before a place, counted from 0.
pub record IsAtPlace (passed : Passed) (place : ℕ) (machine : Machine) : Type 0 where
  pub rules : rules_of machine ≡ rules_in passed
  pub state : state_of machine ≡ tally_at (rules_in passed) (record_in passed).events place
