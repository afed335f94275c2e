-- What contracts see of a machine: its rules, and the state of the game.
use Rattle.std.specs.Prelude.{◌≡◌}
use Rattle.ref_tiles.specs.declared.rulebook.Rules.{Rules}
use Rattle.game_turns.specs.declared.machine.Machine.{Machine}
use Rattle.game_turns.specs.Tallies.{State}
use Rattle.game_turns.specs.LatestEvents.{latest_of}

-- the rules by which the game is judged
abbrev pub rules_of : Machine → Rules
rules_of machine = machine.rules

-- the state of the game
abbrev pub state_of : Machine → State
state_of machine =
    record {
      board = machine.board;
      sides = machine.sides;
      bag = machine.bag;
      mover = machine.mover;
      zero_run = machine.zero_run;
      out = machine.out;
      idle_pass = machine.idle_pass;
      complete = machine.complete;
      latest = latest_of machine.latest;
    }

-- a machine with the same rules is now in this state
pub record Becomes (old new : Machine) (after : State) : Type 0 where
  pub state : state_of new ≡ after
  pub rules : rules_of new ≡ rules_of old
