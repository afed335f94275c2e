-- The bounds of a deal: what the lines have shown about the racks so far. A past is the list of the steps before a place, the latest first.
use Rattle.std.specs.Prelude.{ℕ, ◌+◌, nat_lt, Bool, List, [], ◌∷◌, sum, slice_index, Option, Some, None, if◌then◌else◌}
use Rattle.std.specs.List.{find}
use Rattle.std.specs.Option.{option_map, option_or}
use Rattle.ref_tiles.specs.Kinds.{kind_at}
use Rattle.ref_tiles.specs.declared.rulebook.Rules.{Rules}
use Rattle.ref_tiles.specs.Counting.{no_tiles}
use Rattle.gcg_read.specs.Players.{other_seat}
use Rattle.gcg_read.specs.declared.events.Seat.{Seat}
use Rattle.deal_steps.specs.declared.steps.Act.{Act}
use Rattle.deal_steps.specs.declared.steps.Act.TheVariants as act
use Rattle.deal_steps.specs.declared.steps.Step.{Step}
use Rattle.deal_steps.specs.declared.faults.DealBound.{DealBound}
use Rattle.deal_steps.specs.declared.faults.DealBound.TheVariants as fault
use Rattle.deal_steps.specs.Piles.{kinds, joined, without, greater}
use Rattle.deal_steps.specs.Steps.{laid_in, thrown_in, remaining_in, ends_epoch, needed, size_of}

-- the tiles that left a player's rack in the present epoch, by plays that stand and by exchanges of known tiles
abbrev pub gone : Seat → (past : List Step) → List ℕ
gone seat [] = no_tiles
gone seat (s ∷ past) =
    if ends_epoch seat s then no_tiles else joined (gone seat past) (remaining_in seat s)

-- what a moment shows, plus what left the rack before it
abbrev pub raised : (gone low : List ℕ) → Option (List ℕ) → List ℕ
raised gone low None = low
raised gone low (Some tiles) = greater low (joined gone tiles)

-- The greatest number of each kind that a moment of the present epoch shows: what left the rack before it, plus what the rack must
-- then have.
abbrev pub low : Seat → (past : List Step) → List ℕ
low seat [] = no_tiles
low seat (s ∷ past) = if ends_epoch seat s then no_tiles else raised (gone seat past) (low seat past) (needed seat s)

-- the same, up to the moment of a step itself
abbrev pub low_at : Seat → Step → (past : List Step) → List ℕ
low_at seat s past = raised (gone seat past) (low seat past) (needed seat s)

-- the tiles of a player's plays that stand
abbrev pub laid : Seat → (past : List Step) → List ℕ
laid seat [] = no_tiles
laid seat (s ∷ past) = joined (laid seat past) (laid_in seat s)

-- those of earlier epochs
abbrev pub laid_earlier : Seat → (past : List Step) → List ℕ
laid_earlier seat [] = no_tiles
laid_earlier seat (s ∷ past) = if ends_epoch seat s then laid seat past else laid_earlier seat past

-- the known tiles that a player threw in the present epoch
abbrev pub thrown : Seat → (past : List Step) → List ℕ
thrown seat [] = no_tiles
thrown seat (s ∷ past) =
    if ends_epoch seat s then no_tiles else joined (thrown seat past) (thrown_in seat s)

-- what a player has at least, on the board and on the rack, at a step
abbrev pub held : Seat → Step → (past : List Step) → List ℕ
held seat s past = without (joined (laid_earlier seat past) (low_at seat s past)) (thrown seat past)

-- a player has shown more tiles than came to the rack
abbrev pub is_too_big : Seat → Step → (past : List Step) → Bool
is_too_big seat s past = nat_lt (sum (gone seat past) + size_of s seat) (sum (low_at seat s past))

-- the first kind of which the players have shown more tiles than the game has
abbrev pub short_kind : Rules → Seat → Step → (past : List Step) → Option ℕ
short_kind rules seat s past =
    find (λ k. nat_lt (slice_index rules.counts k) (slice_index (held seat s past) k + slice_index (held (other_seat seat) s past) k)) kinds

-- the first bound that a moment of this player exceeds
abbrev pub bound_of : Rules → Seat → Step → (past : List Step) → Option DealBound
bound_of rules seat s past =
    if is_too_big seat s past then Some (fault.RackTooBig s.line)
    else option_map (λ k. fault.TilesShort s.line (kind_at k)) (short_kind rules seat s past)

abbrev pub bound_for : Rules → Step → (past : List Step) → Act → Option DealBound
bound_for rules s past (act.Turns shown what) = bound_of rules s.player s past
bound_for rules s past (act.TakesBack used) = None
bound_for rules s past (act.Ends holder tiles) = bound_of rules holder s past
bound_for rules s past act.Rests = None

-- the first bound that a step exceeds, if it is a moment
unfoldable pub bound_at : Rules → Step → (past : List Step) → Option DealBound
bound_at rules s past = bound_for rules s past s.act

-- the first bound that the steps after a past exceed
abbrev pub first_bound_after : Rules → (past : List Step) → List Step → Option DealBound
first_bound_after rules past [] = None
first_bound_after rules past (s ∷ steps) = option_or (bound_at rules s past) (first_bound_after rules (s ∷ past) steps)

abbrev pub first_bound : Rules → List Step → Option DealBound
first_bound rules steps = first_bound_after rules [] steps
