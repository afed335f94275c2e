-- Choices of two sheets' lines that do not make a game, and the single changes with which they do.
use Rattle.std.specs.Prelude.{◌≡◌, ◌⊎◌, ◌↔◌, ℕ, ◌<◌, ◌≤◌, List, [], length, All, IsTrue, slice_get, Option, Some, None}
use Rattle.ref_tiles.specs.declared.rulebook.Rules.{Rules}
use Rattle.game_turns.specs.Places.{AreAllowed, is_finished}
use Rattle.repair_single.specs.Costs.{rank_of}
use Rattle.repair_single.specs.Repairs.{AreFirstRepairs}
use Rattle.repair_single.specs.declared.repair.Repair.{Repair}
use Rattle.compare_alignments.specs.declared.merging.NumbersOf.TheVariants.{Taken}
use Rattle.compare_choices.specs.declared.sheets.Sheets.{Sheets}
use Rattle.compare_choices.specs.declared.best.Best.{Best}
use Rattle.compare_choices.specs.declared.finds.Find.{Find}
use Rattle.compare_choices.specs.Choices.{choice_events}
use Rattle.compare_repaired.specs.Same.{SameGame}
use Rattle.compare_repaired.specs.declared.repaired.RepairedChoice.{RepairedChoice}
use Rattle.compare_repaired.specs.declared.repaired.RepairedChoices.{RepairedChoices}
use Rattle.compare_repaired.specs.declared.repaired.BestRepair.{BestRepair}

-- a choice that was tried, with its events and the first two of their repairs: single changes after which they are a game, once their numbers are corrected.
-- The changes at the first places may not have been tried.
pub record IsRepairedChoice (rules : Rules) (list : List (List ℕ)) (s : Sheets) (r : RepairedChoice) : Type 0 where
  pub written : r.written ≡ choice_events s Taken r.choice
  pub first : AreFirstRepairs rules list r.written [] r.below r.found.from 2 r.found.reported.items r.found.remaining.items

-- The choices that were tried: none if one makes a game, or is left open.
pub record AreTried (rules : Rules) (list : List (List ℕ)) (s : Sheets) (f : Find) (tried : List RepairedChoice) : Type 0 where
  pub each : All (IsRepairedChoice rules list s) tried
  pub no_best : (b : Best) → f.best ≡ Some b → tried ≡ []
  pub none_remaining : (length f.remaining.items ≡ 0) ⊎ (tried ≡ [])

-- the first repair of a choice
abbrev pub first_of : RepairedChoice → Option Repair
first_of r = slice_get r.found.reported.items 0

-- what the first repair of a choice costs, if it has one
abbrev pub cost_of : Option Repair → Option ℕ
cost_of None = None
cost_of (Some repair) = Some (rank_of repair).cost

abbrev pub first_cost : Option RepairedChoice → Option ℕ
first_cost None = None
first_cost (Some r) = cost_of (first_of r)

-- the same for the choice with a number
abbrev pub cost_at : (tried : List RepairedChoice) → (index : ℕ) → Option ℕ
cost_at tried index = first_cost (slice_get tried index)

-- a repair costs more than another one, or makes a record of the same game
abbrev pub IsAfter : (best other : Repair) → Type 0
IsAfter best other = ((rank_of best).cost < (rank_of other).cost) ⊎ SameGame best.right other.right

-- so does each repair of a choice
abbrev pub AreAfter : (best : Repair) → RepairedChoice → Type 0
AreAfter best r = All (IsAfter best) r.found.reported.items

-- the rules allow each event with the first repair of a choice
abbrev pub AreGames : Rules → (list : List (List ℕ)) → (tried : List RepairedChoice) → Type 0
AreGames rules list tried = (place : ℕ) (r : RepairedChoice) (repair : Repair) → slice_get tried place ≡ Some r → first_of r ≡ Some repair → AreAllowed rules list repair.right

-- each change of a choice was tried, and none is left open
abbrev pub IsSettled : RepairedChoice → Type 0
IsSettled r = (length r.found.remaining.items ≡ 0) × (r.found.from ≡ 0)

-- The choice whose first repair costs the least of all first repairs, and whether that repair is ahead of all others.
pub record IsBest (rules : Rules) (tried : List RepairedChoice) (b : BestRepair) : Type 0 where
  pub choice : RepairedChoice
  pub there : slice_get tried b.index ≡ Some choice
  pub repair : Repair
  pub first : first_of choice ≡ Some repair
  pub least : (place cost : ℕ) → cost_at tried place ≡ Some cost → (rank_of repair).cost ≤ cost
  pub complete : b.complete ≡ is_finished rules repair.right
  pub ahead : IsTrue b.ahead ↔ All (AreAfter repair) tried
  pub settled : IsTrue b.settled ↔ All IsSettled tried

abbrev pub HasBest : Rules → (tried : List RepairedChoice) → Option BestRepair → Type 0
HasBest rules tried None = (place cost : ℕ) → cost_at tried place ≡ Some cost → ⊥
HasBest rules tried (Some b) = IsBest rules tried b

-- What repairs choices of two sheets that do not make a game.
pub record AreRepaired (rules : Rules) (list : List (List ℕ)) (s : Sheets) (f : Find) (r : RepairedChoices) : Type 0 where
  pub tried : AreTried rules list s f r.tried.items
  pub best : HasBest rules r.tried.items r.best

abbrev pub choice_of : (tried : List RepairedChoice) → Option BestRepair → Option RepairedChoice
choice_of tried None = None
choice_of tried (Some b) = slice_get tried b.index

-- the choice with the cheapest repair, if there is one
abbrev pub best_choice : RepairedChoices → Option RepairedChoice
best_choice r = choice_of r.tried.items r.best

abbrev pub repair_of : Option RepairedChoice → Option Repair
repair_of None = None
repair_of (Some r) = first_of r

-- the cheapest repair, if there is one
abbrev pub best_repair : RepairedChoices → Option Repair
best_repair r = repair_of (best_choice r)
