use Rattle.std.proofs.Common.{◌≤◌, List}
use Rattle.gcg_read.specs.declared.events.Event.{Event}
use Rattle.game_turns.specs.Machines.{rules_of}
use Rattle.repair_single.specs.FirstSteps.{AreFirstSteps}
use Rattle.repair_single.specs.Sums.{IsSheetBut}
use Rattle.repair_single.proofs.Counted.{Counts}
use Rattle.repair_single.proofs.Trials.{GoesTo}
use Rattle.repair_single.proofs.WrongSums.{KnowsBoth}
use Rattle.repair_single.proofs.trying.goes_on.Given as goal

abbrev pub invariant-loop-place : goal.invariant-loop-place
invariant-loop-place l =
    record {
      so_far : GoesTo (rules_of l.game) l.list l.initial.events l.events l.start l.place l.machine;
      following : l.start ≤ l.place;
      first : AreFirstSteps (rules_of l.game) l.list l.initial.events l.first.steps.items;
      had : (sheet : List Event) → IsSheetBut l.initial.events l.missing sheet → KnowsBoth sheet l.place l.had.first l.had.second;
      counts : Counts (rules_of l.game) l.list l.initial.events l.start l.place l.missing l.initial.room l.room;
    }
