-- Laws: what the best choice is worth, and what two equal sheets say.
use Rattle.std.specs.Prelude.{◌≡◌, ℕ, ◌<◌, List, [], Option, Some}
use Rattle.ref_tiles.specs.declared.rulebook.Rules.{Rules}
use Rattle.gcg_read.specs.declared.events.Event.{Event}
use Rattle.gcg_read.specs.declared.records.Record.{Record}
use Rattle.compare_alignments.specs.declared.lacking.Lacks.{Lacks}
use Rattle.compare_alignments.specs.declared.merging.NumbersOf.TheVariants.{Taken}
use Rattle.compare_choices.specs.declared.sheets.Sheets.{Sheets}
use Rattle.compare_choices.specs.declared.best.Best.{Best}
use Rattle.compare_choices.specs.declared.finds.Find.{Find}
use Rattle.compare_choices.specs.Sheets.{AreSheets}
use Rattle.compare_choices.specs.Choices.{choice_events, MakesGame, cost_of}
use Rattle.compare_choices.specs.Finds.{IsFoundTo}

-- If the best has no rivals and nothing is left open, each other choice that makes a game costs more.
abbrev pub IsAheadAlone : Type 0
IsAheadAlone =
    (rules : Rules) (list : List (List ℕ)) (s : Sheets) (end : ℕ) (f : Find) (b : Best) → IsFoundTo rules list s end f → f.best ≡ Some b → f.rivals.items ≡ [] → f.remaining.items ≡ []
    → (choice : ℕ) (right : List Event) → choice < end → (choice ≡ b.choice → ⊥) → MakesGame rules list s choice right → b.cost < cost_of rules list s choice right

-- Any choice between a sheet and itself has the events of the sheet, whatever numbers it lacks.
abbrev pub HasItsEvents : Type 0
HasItsEvents = (sheet : Record) (lacks : Option Lacks) (s : Sheets) (choice : ℕ) → AreSheets sheet sheet lacks s → choice_events s Taken choice ≡ sheet.events
