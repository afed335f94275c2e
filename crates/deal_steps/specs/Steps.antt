-- What the steps of a record say.
use Rattle.std.specs.Prelude.{ℕ, ◌&&◌, Bool, true, false, List, [], ◌∷◌, Option, Some, None, if◌then◌else◌}
use Rattle.ref_tiles.specs.Counting.{no_tiles}
use Rattle.gcg_read.specs.Players.{same_seat}
use Rattle.gcg_read.specs.declared.events.Seat.{Seat}
use Rattle.gcg_read.specs.declared.events.Seat.TheVariants.{First, Second}
use Rattle.deal_steps.specs.declared.steps.Motion.{Motion}
use Rattle.deal_steps.specs.declared.steps.Motion.TheVariants as motion
use Rattle.deal_steps.specs.declared.steps.Act.{Act}
use Rattle.deal_steps.specs.declared.steps.Act.TheVariants as act
use Rattle.deal_steps.specs.declared.steps.Step.{Step}
use Rattle.deal_steps.specs.Piles.{greater}

-- the tiles that a turn uses, if they are known
abbrev pub used_by : Motion → List ℕ
used_by (motion.Lays used drawn) = used
used_by (motion.Tries used) = used
used_by (motion.Throws tiles) = tiles
used_by other = no_tiles

-- the tiles of a play that stands
abbrev pub laid_by : Motion → List ℕ
laid_by (motion.Lays used drawn) = used
laid_by other = no_tiles

-- the tiles of an exchange, if they are known
abbrev pub thrown_by : Motion → List ℕ
thrown_by (motion.Throws tiles) = tiles
thrown_by other = no_tiles

-- the known tiles that leave a rack for good: those of a play that stands, and of an exchange
abbrev pub remaining_by : Motion → List ℕ
remaining_by (motion.Lays used drawn) = used
remaining_by (motion.Throws tiles) = tiles
remaining_by other = no_tiles

-- whether a turn is an exchange
abbrev pub swaps_by : Motion → Bool
swaps_by motion.Keeps = false
swaps_by (motion.Lays used drawn) = false
swaps_by (motion.Tries used) = false
swaps_by (motion.Throws tiles) = true
swaps_by (motion.ThrowsUnknown n) = true

-- whether a turn is an exchange of tiles that are not known
abbrev pub is_unknown : Motion → Bool
is_unknown (motion.ThrowsUnknown n) = true
is_unknown other = false

-- the value of a turn; any other act has the value `nothing`
abbrev pub of_turn : {A : Type 0} → (nothing : A) → (Motion → A) → Act → A
of_turn nothing f (act.Turns shown what) = f what
of_turn nothing f (act.TakesBack used) = nothing
of_turn nothing f (act.Ends holder tiles) = nothing
of_turn nothing f act.Rests = nothing

-- the tiles of an act
abbrev pub of_act : (Motion → List ℕ) → Act → List ℕ
of_act f what = of_turn no_tiles f what

abbrev pub swaps : Act → Bool
swaps what = of_turn false swaps_by what

abbrev pub throws_unknown : Act → Bool
throws_unknown what = of_turn false is_unknown what

-- whether the step is a player's
abbrev pub is_by : Seat → Step → Bool
is_by seat s = same_seat s.player seat

-- the tiles of a player that a step lays, throws, or takes off the rack for good
abbrev pub laid_in : Seat → Step → List ℕ
laid_in seat s = if is_by seat s then of_act laid_by s.act else no_tiles

abbrev pub thrown_in : Seat → Step → List ℕ
thrown_in seat s = if is_by seat s then of_act thrown_by s.act else no_tiles

abbrev pub remaining_in : Seat → Step → List ℕ
remaining_in seat s = if is_by seat s then of_act remaining_by s.act else no_tiles

-- a player's epoch ends with each exchange of unknown tiles by that player
abbrev pub ends_epoch : Seat → Step → Bool
ends_epoch seat s = is_by seat s && throws_unknown s.act

-- What a moment shows about a rack: for each kind the greater of the stated number and the used one, or the last rack.
abbrev pub needed_of : Seat → (player : Seat) → Act → Option (List ℕ)
needed_of seat player (act.Turns shown what) = if same_seat player seat then Some (greater shown (used_by what)) else None
needed_of seat player (act.TakesBack used) = None
needed_of seat player (act.Ends holder tiles) = if same_seat holder seat then Some tiles else None
needed_of seat player act.Rests = None

-- what a player's rack must have at a step, if it is a moment of that player
abbrev pub needed : Seat → Step → Option (List ℕ)
needed seat s = needed_of seat s.player s.act

-- the first or the second of two values, by the player
abbrev pub of_seat : {A : Type 0} → Seat → (first second : A) → A
of_seat First first second = first
of_seat Second first second = second

-- the number of tiles that a player has before a step
abbrev pub size_of : Step → Seat → ℕ
size_of s seat = of_seat seat s.first s.second

-- who draws first: the player of the first turn, otherwise the first player
abbrev pub opener : List Step → Seat
opener [] = First
opener (s ∷ steps) = if s.counted then s.player else opener steps
