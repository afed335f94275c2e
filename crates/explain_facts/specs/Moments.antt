-- An event in its place, with the game before it.
use Rattle.std.specs.Prelude.{◌≡◌, ℕ, ◌+◌, ◌-◌, List, length, take, drop, slice_get, Option, Some}
use Rattle.ref_tiles.specs.declared.rulebook.Rules.{Rules}
use Rattle.gcg_read.specs.declared.events.Event.{Event}
use Rattle.game_turns.specs.declared.faults.RuleFault.{RuleFault}
use Rattle.game_turns.specs.Checks.{fault_in}
use Rattle.game_turns.specs.Machines.{state_of}
use Rattle.game_turns.specs.Tallies.{State, tally_at}
use Rattle.explain_facts.specs.declared.scenes.Scene.{Scene}

-- the rules and the word list, the events before it, the event, those after it, and the state of the game before it
pub record Moment : Type 0 where
  pub rules : Rules
  pub list : List (List ℕ)
  pub past : List Event
  pub event : Event
  pub later : List Event
  pub before : State

-- the last of some events
abbrev pub last_event : List Event → Option Event
last_event events = slice_get events (length events - 1)

-- what contracts see of a scene
abbrev pub moment_of : Scene → Moment
moment_of scene =
    record { rules = scene.rules.now; list = scene.list.now; past = scene.past.now; event = scene.event.now; later = scene.later.now; before = state_of scene.machine.now }

-- the rules refuse the event for this
abbrev pub IsRefusedFor : Moment → RuleFault → Type 0
IsRefusedFor m why = fault_in m.rules m.list m.before m.event ≡ Some why

-- the moment of the event at a place of a record, counted from 0: the state is the tally there
pub record IsMomentAt (rules : Rules) (list : List (List ℕ)) (events : List Event) (place : ℕ) (m : Moment) : Type 0 where
  pub by : m.rules ≡ rules
  pub listed : m.list ≡ list
  pub past : m.past ≡ take place events
  pub stands : slice_get events place ≡ Some m.event
  pub later : m.later ≡ drop (place + 1) events
  pub before : m.before ≡ tally_at rules events place
