-- How an answer gives a fault, and what becomes of the machine that gives it.
use Rattle.std.specs.Prelude.{◌≡◌, Option, Some, None, Result, Ok, Err, OnOk, OnErr}
use Rattle.game_turns.specs.declared.faults.RuleFault.{RuleFault}
use Rattle.game_turns.specs.declared.machine.Machine.{Machine}
use Rattle.game_turns.specs.Machines.{rules_of, state_of}
use Rattle.game_turns.specs.Tallies.{State}

-- an answer gives this fault, or none
abbrev pub Reports : {A : Type 0} → Result A RuleFault → Option RuleFault → Type 0
Reports (Ok _) fault = fault ≡ None
Reports (Err why) fault = fault ≡ Some why

-- If there is no fault, the machine takes the event and is then in this state. With a fault it is as it was.
pub record Takes {A : Type 0} (result : Result A RuleFault) (old new : Machine) (fault : Option RuleFault) (after : State) : Type 0 where
  pub reported : Reports result fault
  pub state : OnOk result (state_of new ≡ after)
  pub rules : rules_of new ≡ rules_of old
  pub refused : OnErr result (new ≡ old)
