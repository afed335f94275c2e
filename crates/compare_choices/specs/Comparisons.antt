-- The comparison of two sheets.
use Rattle.std.specs.Prelude.{◌≡◌, ◌⊎◌, ℕ, ◌^◌, ◌<◌, ◌≤◌, nat_lt, bit_xor, List, [], length, slice_get, Option, Some, None, if◌then◌else◌}
use Rattle.ref_tiles.specs.declared.rulebook.Rules.{Rules}
use Rattle.gcg_read.specs.declared.events.Event.{Event}
use Rattle.compare_alignments.specs.declared.merging.NumbersOf.TheVariants.{Taken}
use Rattle.compare_alignments.specs.Merging.{count_varied, count_choices, count_with_own_racks}
use Rattle.compare_choices.specs.declared.sheets.Sheets.{Sheets}
use Rattle.compare_choices.specs.declared.best.Best.{Best}
use Rattle.compare_choices.specs.declared.trials.Trial.{Trial}
use Rattle.compare_choices.specs.declared.corrections.Stopped.{Stopped}
use Rattle.compare_choices.specs.declared.comparing.Stop.{Stop}
use Rattle.compare_choices.specs.declared.comparing.Comparison.{Comparison}
use Rattle.compare_choices.specs.Choices.{choice_events, IsRight}
use Rattle.compare_choices.specs.Corrected.{Stops}
use Rattle.compare_choices.specs.Finds.{IsFoundTo}
use Rattle.compare_choices.specs.Trials.{IsTrial}

-- a choice with the other line, or the other rack, of the item with a number
abbrev pub flipped : (choice number : ℕ) → ℕ
flipped choice number = bit_xor choice (2 ^ number)

-- the results of a choice with the other line or the other rack of one item, for `many` items
pub record AreFlipsTo (rules : Rules) (list : List (List ℕ)) (s : Sheets) (choice many : ℕ) (flips : List Trial) : Type 0 where
  pub as_many : length flips ≡ many
  pub each : (number : ℕ) (t : Trial) → slice_get flips number ≡ Some t → IsTrial rules list s (flipped choice number) t

-- the same for each item that is varied
abbrev pub AreFlips : Rules → (list : List (List ℕ)) → Sheets → (choice : ℕ) → List Trial → Type 0
AreFlips rules list s choice flips = AreFlipsTo rules list s choice (count_varied s.pairs.items) flips

-- the same for the best choice, if there is one
abbrev pub FlipsOf : Rules → (list : List (List ℕ)) → Sheets → Option Best → List Trial → Type 0
FlipsOf rules list s None flips = flips ≡ []
FlipsOf rules list s (Some b) flips = AreFlips rules list s b.choice flips

-- ---- where a choice stops

-- the rules allow each event of a choice with its right numbers
pub record IsAllowed (rules : Rules) (list : List (List ℕ)) (s : Sheets) (choice : ℕ) : Type 0 where
  pub right : List Event
  pub is : IsRight rules list (choice_events s Taken choice) right

-- where the correction of a choice stops; none if the rules allow each of its events
abbrev pub IsStopOf : Rules → (list : List (List ℕ)) → Sheets → (choice : ℕ) → Option Stop → Type 0
IsStopOf rules list s choice None = IsAllowed rules list s choice
IsStopOf rules list s choice (Some stop) = (stop.choice ≡ choice) × Stops rules list (choice_events s Taken choice) stop.stopped

-- the correction of a choice stops at a place or before it
pub record StopsBy (rules : Rules) (list : List (List ℕ)) (s : Sheets) (choice place : ℕ) : Type 0 where
  pub stopped : Stopped
  pub stops : Stops rules list (choice_events s Taken choice) stopped
  pub no_further : stopped.place ≤ place

-- A choice goes no further than to a place, or the rules allow all of it.
abbrev pub IsNoFurther : Rules → (list : List (List ℕ)) → Sheets → (choice place : ℕ) → Type 0
IsNoFurther rules list s choice place = IsAllowed rules list s choice ⊎ StopsBy rules list s choice place

-- The stop of one of the choices before one, and none of them that the rules refuse goes further.
pub record IsFurthest (rules : Rules) (list : List (List ℕ)) (s : Sheets) (end : ℕ) (stop : Stop) : Type 0 where
  pub before : stop.choice < end
  pub stops : Stops rules list (choice_events s Taken stop.choice) stop.stopped
  pub others : (choice : ℕ) → choice < end → IsNoFurther rules list s choice stop.stopped.place

-- the same, or none if the rules allow each of these choices
abbrev pub IsFurthestTo : Rules → (list : List (List ℕ)) → Sheets → (end : ℕ) → Option Stop → Type 0
IsFurthestTo rules list s end None = (choice : ℕ) → choice < end → IsAllowed rules list s choice
IsFurthestTo rules list s end (Some stop) = IsFurthest rules list s end stop

-- The furthest stop of the choices that take each rack from the player's own sheet, since the rules do not look at stated racks; none is reported if a choice
-- is known to make a game.
abbrev pub IsFurthestBy : Rules → (list : List (List ℕ)) → Sheets → Option Best → Option Stop → Type 0
IsFurthestBy rules list s None stop = IsFurthestTo rules list s (count_with_own_racks s.pairs.items) stop
IsFurthestBy rules list s (Some b) stop = stop ≡ None

-- the stop of two that is further, or the first
abbrev pub further : Option Stop → Option Stop → Option Stop
further None second = second
further (Some one) None = Some one
further (Some one) (Some other) = if nat_lt one.stopped.place other.stopped.place then Some other else Some one

-- ---- all of it

-- The best of all choices, its results with the other line or the other rack of each item, and where the choice that goes furthest stops if none is known to
-- make a game.
pub record IsComparison (rules : Rules) (list : List (List ℕ)) (s : Sheets) (c : Comparison) : Type 0 where
  pub found : IsFoundTo rules list s (count_choices s.pairs.items) c.find
  pub flips : FlipsOf rules list s c.find.best c.flips.items
  pub furthest : IsFurthestBy rules list s c.find.best c.furthest
