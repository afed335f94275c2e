-- What holds between two steps of a deal under way, and for a whole deal.
use Rattle.std.proofs.Common.{◌≡◌, ℕ, ◌+◌, ◌<◌, List, ◌++◌, length, get_or, Some}
use Rattle.std.specs.Option.{option_map}
use Rattle.ref_tiles.specs.declared.rulebook.Rules.{Rules}
use Rattle.deal_steps.specs.Fitting.{Fits}
use Rattle.deal_steps.specs.Runs.{Course, IsRunFrom}
use Rattle.deal_steps.specs.declared.steps.Step.{Step}
use Rattle.deal_steps.specs.declared.deals.Held.{Held}
use Rattle.deal_completion.specs.declared.hands.Hands.{Hands}
use Rattle.deal_completion.specs.Completion.{dealt_from, dealt}

-- nothing is lost: for each kind the game has what is on the board, on the racks and in the bag
pub record IsWhole (rules : Rules) (c : Course) (h : Hands) : Type 0 where
  pub whole : (k : ℕ) → k < 27
      → get_or c.laid k 0 + get_or c.waiting.first k 0 + get_or c.waiting.second k 0 + get_or h.racks.first k 0 + get_or h.racks.second k 0
      + get_or h.bag k 0 ≡ get_or rules.counts k 0
  pub first_long : length h.racks.first ≡ 27
  pub second_long : length h.racks.second ≡ 27
  pub bag_long : length h.bag ≡ 27

-- A deal under way: the steps that are left are on a course, nothing is lost, and what is held so far begins the deal.
pub record IsDealing (rules : Rules) (all rest : List Step) (h : Hands) (so_far : List Held) : Type 0 where
  pub course : Course
  pub run : IsRunFrom course rest
  pub whole : IsWhole rules course h
  pub goes_on : option_map (λ more. so_far ++ more) (dealt_from rest h) ≡ dealt rules all

-- The rule deals the game, and the deal fits.
pub record IsDealtFitting (rules : Rules) (steps : List Step) : Type 0 where
  pub deal : List Held
  pub is : dealt rules steps ≡ Some deal
  pub fits : Fits rules steps deal
