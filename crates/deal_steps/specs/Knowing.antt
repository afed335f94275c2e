-- The bounds by what must be on the racks now. A player must have the tiles that the moments of the present epoch show, minus those
-- that left since.
use Rattle.std.specs.Prelude.{◌≡◌, ℕ, ◌+◌, ◌<◌, nat_lt, List, sum, length, reverse, take, slice_get, slice_index, Option, Some, None, if◌then◌else◌}
use Rattle.std.specs.List.{find}
use Rattle.std.specs.Option.{option_map}
use Rattle.ref_tiles.specs.declared.rulebook.Rules.{Rules}
use Rattle.ref_tiles.specs.Counting.{no_tiles}
use Rattle.gcg_read.specs.declared.events.Seat.{Seat}
use Rattle.gcg_read.specs.declared.events.Seat.TheVariants.{First, Second}
use Rattle.deal_steps.specs.declared.steps.Motion.{Motion}
use Rattle.deal_steps.specs.declared.steps.Motion.TheVariants as motion
use Rattle.deal_steps.specs.declared.steps.Act.{Act}
use Rattle.deal_steps.specs.declared.steps.Act.TheVariants as act
use Rattle.deal_steps.specs.declared.steps.Step.{Step}
use Rattle.deal_steps.specs.declared.faults.DealBound.{DealBound}
use Rattle.deal_steps.specs.declared.faults.DealBound.TheVariants as fault
use Rattle.deal_steps.specs.declared.known.Known.{Known}
use Rattle.deal_steps.specs.Piles.{kinds, joined, without, greater}
use Rattle.deal_steps.specs.Steps.{used_by, of_seat, size_of}
use Rattle.ref_tiles.specs.Kinds.{kind_at}
use Rattle.deal_steps.specs.Bounds.{low, low_at, gone, laid}

abbrev pub known_of : Known → Seat → List ℕ
known_of known seat = of_seat seat known.first known.second

abbrev pub with_known : Known → Seat → List ℕ → Known
with_known known First tiles = record known { first = tiles }
with_known known Second tiles = record known { second = tiles }

abbrev pub raised_by : Seat → List ℕ → Known → Known
raised_by seat tiles known = with_known known seat (greater (known_of known seat) tiles)

-- What is known after a past.
pub record IsKnown (past : List Step) (known : Known) : Type 0 where
  pub first : low First past ≡ joined known.first (gone First past)
  pub second : low Second past ≡ joined known.second (gone Second past)
  pub laid_is : known.laid ≡ joined (laid First past) (laid Second past)
  pub first_long : length known.first ≡ 27
  pub second_long : length known.second ≡ 27

-- What is shown at a step after a past: what left the racks before, plus what the moments show up to that of the step itself.
pub record IsShown (s : Step) (past : List Step) (known : Known) : Type 0 where
  pub first : low_at First s past ≡ joined known.first (gone First past)
  pub second : low_at Second s past ≡ joined known.second (gone Second past)
  pub laid_is : known.laid ≡ joined (laid First past) (laid Second past)
  pub first_long : length known.first ≡ 27
  pub second_long : length known.second ≡ 27

-- what is shown at a place of some steps
pub record IsShownAt (steps : List Step) (place : ℕ) (known : Known) : Type 0 where
  pub step : Step
  pub there : slice_get steps place ≡ Some step
  pub shown : IsShown step (reverse (take place steps)) known

-- the first kind of which more is known than the game has
abbrev pub short_of : Rules → Known → Option ℕ
short_of rules known =
    find (λ k. nat_lt (slice_index rules.counts k) (slice_index known.laid k + slice_index known.first k + slice_index known.second k)) kinds

-- the bound that what is known about a player exceeds
unfoldable pub excess_of : Rules → Seat → Step → Known → Option DealBound
excess_of rules seat s known =
    if nat_lt (size_of s seat) (sum (known_of known seat)) then Some (fault.RackTooBig s.line)
    else option_map (λ k. fault.TilesShort s.line (kind_at k)) (short_of rules known)

-- what is known with a moment's tiles
abbrev pub shown_by : Seat → Act → Known → Known
shown_by player (act.Turns shown what) known = raised_by player (greater shown (used_by what)) known
shown_by player (act.TakesBack used) known = known
shown_by player (act.Ends holder tiles) known = raised_by holder tiles known
shown_by player act.Rests known = known

abbrev pub excess : Rules → Step → Act → Known → Option DealBound
excess rules s (act.Turns shown what) known = excess_of rules s.player s known
excess rules s (act.TakesBack used) known = None
excess rules s (act.Ends holder tiles) known = excess_of rules holder s known
excess rules s act.Rests known = None

-- what is known after a turn
abbrev pub turned_by : Seat → Motion → Known → Known
turned_by seat motion.Keeps known = known
turned_by seat (motion.Lays used drawn) known =
    record (with_known known seat (without (known_of known seat) used)) { laid = joined known.laid used }
turned_by seat (motion.Tries used) known = known
turned_by seat (motion.Throws tiles) known = with_known known seat (without (known_of known seat) tiles)
turned_by seat (motion.ThrowsUnknown n) known = with_known known seat no_tiles

abbrev pub moved_by : Seat → Act → Known → Known
moved_by seat (act.Turns shown what) known = turned_by seat what known
moved_by seat (act.TakesBack used) known = known
moved_by seat (act.Ends holder tiles) known = known
moved_by seat act.Rests known = known

-- the tiles of a play that stands can be counted on the board
abbrev pub HasRoomFor : Motion → (laid : List ℕ) → Type 0
HasRoomFor motion.Keeps laid = Unit {0}
HasRoomFor (motion.Lays used drawn) laid = (k : ℕ) → k < 27 → slice_index laid k + slice_index used k < 256
HasRoomFor (motion.Tries used) laid = Unit {0}
HasRoomFor (motion.Throws tiles) laid = Unit {0}
HasRoomFor (motion.ThrowsUnknown n) laid = Unit {0}

abbrev pub HasRoom : Act → (laid : List ℕ) → Type 0
HasRoom (act.Turns shown what) laid = HasRoomFor what laid
HasRoom (act.TakesBack used) laid = Unit {0}
HasRoom (act.Ends holder tiles) laid = Unit {0}
HasRoom act.Rests laid = Unit {0}
