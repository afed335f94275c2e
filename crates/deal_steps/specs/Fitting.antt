-- When racks fit a record.
use Rattle.std.specs.Prelude.{◌≡◌, ℕ, ◌+◌, ◌<◌, ◌≤◌, List, [], ◌∷◌, sum, length, slice_index}
use Rattle.ref_tiles.specs.declared.rulebook.Rules.{Rules}
use Rattle.ref_tiles.specs.Counting.{no_tiles, IsContainedIn}
use Rattle.gcg_read.specs.Players.{other_seat}
use Rattle.gcg_read.specs.declared.events.Seat.{Seat}
use Rattle.gcg_read.specs.declared.events.Seat.TheVariants.{First, Second}
use Rattle.deal_steps.specs.declared.steps.Motion.{Motion}
use Rattle.deal_steps.specs.declared.steps.Motion.TheVariants as motion
use Rattle.deal_steps.specs.declared.steps.Act.{Act}
use Rattle.deal_steps.specs.declared.steps.Act.TheVariants as act
use Rattle.deal_steps.specs.declared.steps.Step.{Step}
use Rattle.deal_steps.specs.declared.deals.Racks.{Racks}
use Rattle.deal_steps.specs.declared.deals.Held.{Held}
use Rattle.deal_steps.specs.Piles.{without}
use Rattle.deal_steps.specs.Steps.{used_by, of_seat}

-- the rack of a player
abbrev pub rack_of : Racks → Seat → List ℕ
rack_of racks seat = of_seat seat racks.first racks.second

-- the racks with another rack for a player
abbrev pub with_rack : Racks → Seat → List ℕ → Racks
with_rack racks First rack = record racks { first = rack }
with_rack racks Second rack = record racks { second = rack }

-- the tiles in the bag: all that are neither on the board nor on a rack
abbrev pub in_bag : Rules → Step → Racks → List ℕ
in_bag rules s racks = without (without (without rules.counts s.board) racks.first) racks.second

-- the game has the tiles on the board and on both racks
abbrev pub IsWithinSet : Rules → (board : List ℕ) → Racks → Type 0
IsWithinSet rules board racks =
    (k : ℕ) → k < 27 → slice_index board k + slice_index racks.first k + slice_index racks.second k ≤ slice_index rules.counts k

-- For each kind the game has the tiles on the board and on both racks; the racks and the bag have the sizes of the tally.
pub record AddsUp (rules : Rules) (s : Step) (racks : Racks) : Type 0 where
  pub within : IsWithinSet rules s.board racks
  pub first_kinds : length racks.first ≡ 27
  pub second_kinds : length racks.second ≡ 27
  pub first : sum racks.first ≡ s.first
  pub second : sum racks.second ≡ s.second
  pub bag : sum rules.counts ≡ sum s.board + sum racks.first + sum racks.second + s.bag

-- an exchange throws its tiles, or the number that it states; nothing else throws
abbrev pub IsThrownBy : Motion → List ℕ → Type 0
IsThrownBy motion.Keeps thrown = thrown ≡ no_tiles
IsThrownBy (motion.Lays used drawn) thrown = thrown ≡ no_tiles
IsThrownBy (motion.Tries used) thrown = thrown ≡ no_tiles
IsThrownBy (motion.Throws tiles) thrown = thrown ≡ tiles
IsThrownBy (motion.ThrowsUnknown n) thrown = sum thrown ≡ n

-- The tiles that a turn's line states, those that it uses and those that it throws are on the rack.
pub record HasTurn (shown : List ℕ) (what : Motion) (thrown rack : List ℕ) : Type 0 where
  pub has_shown : IsContainedIn shown rack
  pub has_used : IsContainedIn (used_by what) rack
  pub has_thrown : IsContainedIn thrown rack
  pub throws : IsThrownBy what thrown

-- what an act requires of the racks before it, and of what is thrown
abbrev pub AllowsAct : (player : Seat) → Act → Held → Type 0
AllowsAct player (act.Turns shown what) held = HasTurn shown what held.thrown (rack_of held.racks player)
AllowsAct player (act.TakesBack used) held = held.thrown ≡ no_tiles
AllowsAct player (act.Ends holder tiles) held = (held.thrown ≡ no_tiles) × (rack_of held.racks holder ≡ tiles)
AllowsAct player act.Rests held = held.thrown ≡ no_tiles

-- before a step
pub record FitsAt (rules : Rules) (s : Step) (held : Held) : Type 0 where
  pub adds_up : AddsUp rules s held.racks
  pub allows : AllowsAct s.player s.act held

-- Tiles leave a rack, and `number` tiles are drawn to it from the bag: the tiles that left and those on the new rack are the tiles
-- that were on the rack plus those that were drawn.
pub record IsRefilled (bag : List ℕ) (number : ℕ) (off rack new : List ℕ) : Type 0 where
  pub drawn : List ℕ
  pub kinds : length drawn ≡ 27
  pub from_bag : IsContainedIn drawn bag
  pub as_asked : sum drawn ≡ number
  pub makes : (k : ℕ) → k < 27 → slice_index new k + slice_index off k ≡ slice_index rack k + slice_index drawn k

-- these tiles leave, and all others stay
abbrev pub IsLess : (off rack new : List ℕ) → Type 0
IsLess off rack new = (k : ℕ) → k < 27 → slice_index new k + slice_index off k ≡ slice_index rack k

-- what a turn does to its player's rack
abbrev pub TurnsTo : (bag : List ℕ) → Motion → (thrown rack new : List ℕ) → Type 0
TurnsTo bag motion.Keeps thrown rack new = new ≡ rack
TurnsTo bag (motion.Lays used drawn) thrown rack new = IsRefilled bag drawn used rack new
TurnsTo bag (motion.Tries used) thrown rack new = IsLess used rack new
TurnsTo bag (motion.Throws tiles) thrown rack new = IsRefilled bag (sum thrown) thrown rack new
TurnsTo bag (motion.ThrowsUnknown n) thrown rack new = IsRefilled bag (sum thrown) thrown rack new

-- what an act does to its player's rack
abbrev pub ActsTo : (bag : List ℕ) → Act → (thrown rack new : List ℕ) → Type 0
ActsTo bag (act.Turns shown what) thrown rack new = TurnsTo bag what thrown rack new
ActsTo bag (act.TakesBack used) thrown rack new = IsLess used new rack
ActsTo bag (act.Ends holder tiles) thrown rack new = new ≡ rack
ActsTo bag act.Rests thrown rack new = new ≡ rack

-- from before a step to before the next
pub record Follows (rules : Rules) (s : Step) (held : Held) (next : Racks) : Type 0 where
  pub acts : ActsTo (in_bag rules s held.racks) s.act held.thrown (rack_of held.racks s.player) (rack_of next s.player)
  pub stays : rack_of next (other_seat s.player) ≡ rack_of held.racks (other_seat s.player)

abbrev pub FollowsTo : Rules → Step → Held → List Held → Type 0
FollowsTo rules s held [] = Unit {0}
FollowsTo rules s held (next ∷ rest) = Follows rules s held next.racks

-- The racks fit the steps: one by one, and each to the next.
abbrev pub Fits : Rules → List Step → List Held → Type 0
Fits rules [] [] = Unit {0}
Fits rules [] (held ∷ rest) = ⊥
Fits rules (s ∷ steps) [] = ⊥
Fits rules (s ∷ steps) (held ∷ rest) = FitsAt rules s held × FollowsTo rules s held rest × Fits rules steps rest
