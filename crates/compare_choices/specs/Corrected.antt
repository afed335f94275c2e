-- The result of correcting the numbers of some events.
use Rattle.std.specs.Prelude.{◌≡◌, ℕ, List}
use Rattle.ref_tiles.specs.declared.rulebook.Rules.{Rules}
use Rattle.gcg_read.specs.declared.events.Event.{Event}
use Rattle.game_corrections.specs.Corrections.{StopsAt}
use Rattle.game_case.specs.Archiving.{unlisted_plays}
use Rattle.compare_choices.specs.Choices.{IsRight}
use Rattle.compare_choices.specs.declared.corrections.Corrected.{Corrected}
use Rattle.compare_choices.specs.declared.corrections.Stopped.{Stopped}
use Rattle.compare_choices.specs.declared.corrections.Correction.{Correction}
use Rattle.compare_choices.specs.declared.corrections.Correction.TheVariants as correction

-- The event at a place is refused whatever its numbers are, and no numbers that a record can write make the rules allow each event.
pub record Stops (rules : Rules) (list : List (List ℕ)) (written : List Event) (s : Stopped) : Type 0 where
  pub right : List Event
  pub at : StopsAt rules list written right s.refusal.line s.refusal.why
  pub there : at.place ≡ s.place
  pub none : (other : List Event) → IsRight rules list written other → ⊥

-- the right numbers, and how many plays stand with a word that is not in the list
pub record IsCorrected (rules : Rules) (list : List (List ℕ)) (written : List Event) (c : Corrected) : Type 0 where
  pub is : IsRight rules list written c.right
  pub unlisted : c.unlisted ≡ unlisted_plays rules list c.right

abbrev pub IsCorrectionOf : Rules → (list : List (List ℕ)) → (written : List Event) → Correction → Type 0
IsCorrectionOf rules list written (correction.Stops s) = Stops rules list written s
IsCorrectionOf rules list written (correction.Right c) = IsCorrected rules list written c
