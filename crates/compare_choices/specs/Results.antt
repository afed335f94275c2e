-- What two sheets say of the end of a game, and which racks they say differently.
use Rattle.std.specs.Prelude.{◌≡◌, ◌⊎◌, ◌↔◌, ℕ, ℤ, List, Option, Some, None, is_some, IsTrue}
use Rattle.gcg_read.specs.declared.events.Event.{Event}
use Rattle.gcg_read.specs.declared.events.Seat.{Seat}
use Rattle.gcg_read.specs.declared.events.Seat.TheVariants.{First, Second}
use Rattle.game_corrections.specs.LastTotals.{last_total}
use Rattle.game_corrections.specs.Standings.{IsStandingIn}
use Rattle.compare_alignments.specs.declared.pairs.Pair.{Pair}
use Rattle.compare_alignments.specs.Merging.{line_at}
use Rattle.compare_choices.specs.declared.results.LastTotals.{LastTotals}
use Rattle.compare_choices.specs.declared.results.Results.{Results}
use Rattle.compare_alignments.specs.declared.pairs.Side.TheVariants as sheet
use Rattle.compare_choices.specs.declared.sheets.Sheets.{Sheets}
use Rattle.compare_choices.specs.Known.{total_on, IsStandingOn}

-- a last total is the right one, or a draft lacks it
abbrev pub Agrees : Sheets → (total right : Option ℤ) → Type 0
Agrees s total right = (total ≡ right) ⊎ (IsTrue (is_some s.lacks) × (total ≡ None))

-- the last totals of a player on both sheets, and in the merged record, and whether those of the sheets are right
pub record AreTotals (s : Sheets) (right : List Event) (player : Seat) (t : LastTotals) : Type 0 where
  pub first : t.first ≡ total_on s sheet.First player
  pub second : t.second ≡ total_on s sheet.Second player
  pub merged : t.right ≡ last_total player right
  pub agree : IsTrue t.agree ↔ (Agrees s t.first t.right × Agrees s t.second t.right)

-- the last totals of both players, and who is ahead by each sheet and by the merged record
pub record AreResults (s : Sheets) (right : List Event) (r : Results) : Type 0 where
  pub of_first : AreTotals s right First r.of_first
  pub of_second : AreTotals s right Second r.of_second
  pub by_first : IsStandingOn s sheet.First r.first
  pub by_second : IsStandingOn s sheet.Second r.second
  pub merged : IsStandingIn right r.right

-- two lines with a rack each, and not the same
abbrev pub DifferAs : Option (List ℕ) → Option (List ℕ) → Type 0
DifferAs (Some tiles) (Some others) = tiles ≡ others → ⊥
DifferAs tiles others = ⊥

abbrev pub OtherRacks : Event → Event → Type 0
OtherRacks e other = DifferAs e.rack other.rack

abbrev pub OtherRacksOf : Option Event → Option Event → Type 0
OtherRacksOf (Some e) (Some other) = OtherRacks e other
OtherRacksOf e other = ⊥

-- the lines of a pair state a rack each, and not the same
abbrev pub HaveOtherRacks : Sheets → Pair → Type 0
HaveOtherRacks s p = OtherRacksOf (line_at s.first.events p.first) (line_at s.second.events p.second)
