-- Laws of the definitions that contracts cite.
use Rattle.std.specs.Prelude.{◌≡◌, ◌⊎◌, ℕ, ◌<◌, ◌≤◌, List, [], ◌∷◌, ◌++◌, slice_index, Some, None, if◌then◌else◌}
use Rattle.std.specs.List.{sum_by}
use Rattle.ref_tiles.specs.declared.rulebook.Rules.{Rules}
use Rattle.gcg_read.specs.declared.events.Seat.{Seat}
use Rattle.deal_steps.specs.declared.deals.Held.{Held}
use Rattle.deal_steps.specs.declared.steps.Step.{Step}
use Rattle.deal_steps.specs.Piles.{joined}
use Rattle.deal_steps.specs.Steps.{remaining_in, ends_epoch, needed}
use Rattle.deal_steps.specs.Fitting.{Fits}
use Rattle.deal_steps.specs.Bounds.{gone, low, first_bound}
use Rattle.deal_steps.specs.Runs.{IsRun}

-- if some racks fit the steps of a game, no bound is exceeded
abbrev pub FittingIsBounded : Type 0
FittingIsBounded = (rules : Rules) (steps : List Step) (deal : List Held) → IsRun rules steps → Fits rules steps deal → first_bound rules steps ≡ None

-- the steps of a player's present epoch, the latest first: those after the player's latest exchange of unknown tiles
abbrev pub since : Seat → (past : List Step) → List Step
since seat [] = []
since seat (s ∷ past) = if ends_epoch seat s then [] else s ∷ since seat past

-- A moment of the present epoch shows this: what left the rack before it, plus what the rack must then have.
pub record Shows (seat : Seat) (past : List Step) (shown : List ℕ) : Type 0 where
  pub later : List Step
  pub moment : Step
  pub earlier : List Step
  pub tiles : List ℕ
  pub splits : since seat past ≡ later ++ moment ∷ earlier
  pub needs : needed seat moment ≡ Some tiles
  pub is : shown ≡ joined (gone seat earlier) tiles

-- for each kind, what left a rack is the sum of what left it at each step of the present epoch
abbrev pub GoneIsSum : Type 0
GoneIsSum =
    (seat : Seat) (past : List Step) (k : ℕ) → k < 27
    → slice_index (gone seat past) k ≡ sum_by (λ s. slice_index (remaining_in seat s) k) (since seat past)

-- for each kind, no moment of the present epoch shows more
abbrev pub LowIsMost : Type 0
LowIsMost =
    (seat : Seat) (past : List Step) (k : ℕ) → k < 27 → (shown : List ℕ) → Shows seat past shown
    → slice_index shown k ≤ slice_index (low seat past) k

-- and if the number is not 0, some moment shows that many
abbrev pub LowIsReached : Type 0
LowIsReached =
    (seat : Seat) (past : List Step) (k : ℕ) → k < 27
    → (slice_index (low seat past) k ≡ 0)
    ⊎ ((shown : List ℕ) × Shows seat past shown × (slice_index shown k ≡ slice_index (low seat past) k))
