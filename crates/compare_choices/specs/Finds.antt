-- The best of the choices before one.
use Rattle.std.specs.Prelude.{⊤, ◌≡◌, ◌⊎◌, ℕ, ◌<◌, List, All, Contains, Option, Some, None}
use Rattle.ref_tiles.specs.declared.rulebook.Rules.{Rules}
use Rattle.gcg_read.specs.declared.events.Event.{Event}
use Rattle.game_turns.specs.Places.{is_finished}
use Rattle.game_case.specs.Archiving.{unlisted_plays}
use Rattle.game_deal.specs.Verdicts.{IsGame, IsUnsettled}
use Rattle.compare_alignments.specs.declared.merging.NumbersOf.TheVariants.{Taken}
use Rattle.compare_choices.specs.declared.sheets.Sheets.{Sheets}
use Rattle.compare_choices.specs.declared.best.Best.{Best}
use Rattle.compare_choices.specs.declared.finds.Find.{Find}
use Rattle.compare_choices.specs.Choices.{choice_events, IsRight, MakesGame, cost_of}

-- a choice that makes a game, and what is kept of it
pub record IsGameOf (rules : Rules) (list : List (List ℕ)) (s : Sheets) (b : Best) : Type 0 where
  pub makes : MakesGame rules list s b.choice b.right
  pub costs : b.cost ≡ cost_of rules list s b.choice b.right
  pub unlisted : b.unlisted ≡ unlisted_plays rules list b.right
  pub complete : b.complete ≡ is_finished rules b.right

-- the best is one of the choices before this one
pub record IsBest (rules : Rules) (list : List (List ℕ)) (s : Sheets) (end : ℕ) (b : Best) : Type 0 where
  pub is : IsGameOf rules list s b
  pub before : b.choice < end

abbrev pub HasBest : Rules → (list : List (List ℕ)) → Sheets → (end : ℕ) → Option Best → Type 0
HasBest rules list s end None = ⊤
HasBest rules list s end (Some b) = IsBest rules list s end b

-- another choice that makes a game, and costs as little as the best
pub record IsRival (rules : Rules) (list : List (List ℕ)) (s : Sheets) (b : Best) (choice : ℕ) : Type 0 where
  pub right : List Event
  pub makes : MakesGame rules list s choice right
  pub costs : cost_of rules list s choice right ≡ b.cost

abbrev pub IsRivalOf : Rules → (list : List (List ℕ)) → Sheets → Option Best → (choice : ℕ) → Type 0
IsRivalOf rules list s None choice = ⊥
IsRivalOf rules list s (Some b) choice = IsRival rules list s b choice

-- there is a best, and it costs less
abbrev pub IsAfter : Option Best → (cost : ℕ) → Type 0
IsAfter None cost = ⊥
IsAfter (Some b) cost = b.cost < cost

-- there is a best, and it costs as much
abbrev pub IsAsGood : Option Best → (cost : ℕ) → Type 0
IsAsGood None cost = ⊥
IsAsGood (Some b) cost = b.cost ≡ cost

-- there is a best, and a choice is it, or costs more, or is among the rivals
abbrev pub IsReported : Option Best → (rivals : List ℕ) → (choice cost : ℕ) → Type 0
IsReported None rivals choice cost = ⊥
IsReported (Some b) rivals choice cost = (choice ≡ b.choice) ⊎ (b.cost < cost) ⊎ Contains rivals choice

-- A choice for whose racks neither a deal nor a proof that there is none was found.
pub record IsOpen (rules : Rules) (list : List (List ℕ)) (s : Sheets) (choice : ℕ) : Type 0 where
  pub right : List Event
  pub is : IsRight rules list (choice_events s Taken choice) right
  pub unsettled : IsUnsettled rules list right

-- A choice makes no game, or it is left open, or it is among those that are given.
abbrev pub IsAccounted : Rules → (list : List (List ℕ)) → (right : List Event) → Option Best → (rivals remaining : List ℕ) → (choice cost : ℕ) → Type 0
IsAccounted rules list right best rivals remaining choice cost = (IsGame rules list right → ⊥) ⊎ Contains remaining choice ⊎ IsReported best rivals choice cost

-- The best of the choices before one: one of those that make a game and cost the least, the others that cost as little, and those that are left open,
-- except some that cost more than the best.
pub record IsFoundTo (rules : Rules) (list : List (List ℕ)) (s : Sheets) (end : ℕ) (f : Find) : Type 0 where
  pub best : HasBest rules list s end f.best
  pub rivals : All (IsRivalOf rules list s f.best) f.rivals.items
  pub remaining : All (IsOpen rules list s) f.remaining.items
  pub others : (choice : ℕ) (right : List Event) → choice < end → IsRight rules list (choice_events s Taken choice) right
      → IsAccounted rules list right f.best f.rivals.items f.remaining.items choice (cost_of rules list s choice right)
