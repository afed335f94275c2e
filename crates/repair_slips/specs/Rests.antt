-- The tiles that are not on any line: not on the board, and not on a last rack.
use Rattle.std.specs.Prelude.{ℕ, ◌-◌, ◌==◌, ◌&&◌, not, Bool, true, false, nat_lt, List, [], ◌∷◌, ◌++◌, sum, sum_by, count_by, slice_index, Option, Some, None, if◌then◌else◌}
use Rattle.std.specs.Str.{bytes_eq}
use Rattle.ref_tiles.specs.Kinds.{number_of}
use Rattle.ref_tiles.specs.Counting.{no_tiles}
use Rattle.ref_tiles.specs.declared.tiles.Tile.{Tile}
use Rattle.ref_tiles.specs.declared.rulebook.Rules.{Rules}
use Rattle.gcg_read.specs.declared.events.Event.{Event}
use Rattle.gcg_read.specs.declared.events.EventKind.{EventKind}
use Rattle.gcg_read.specs.declared.events.EventKind.TheVariants as kind
use Rattle.gcg_read.specs.declared.events.Seat.{Seat}
use Rattle.deal_steps.specs.Piles.{table}
use Rattle.repair_changes.specs.declared.slips.Slip.{Slip}
use Rattle.repair_changes.specs.declared.slips.Slip.TheVariants as slip
use Rattle.repair_changes.specs.declared.slips.MissingLine.TheVariants as line

-- whether a square has a tile of the kind with this number
abbrev pub has_kind : (k : ℕ) → Option Tile → Bool
has_kind k None = false
has_kind k (Some tile) = number_of tile.kind == k

-- the tiles that an event names as a last rack
abbrev pub last_rack : EventKind → List ℕ
last_rack (kind.LastRack tiles) = tiles
last_rack other = no_tiles

-- the number of these tiles of the kind with this number
abbrev pub remaining_at : (k : ℕ) → Event → ℕ
remaining_at k e = slice_index (last_rack e.kind) k

-- tiles without those on a board, or none if there are fewer
unfoldable pub off_board : (counts : List ℕ) → List (Option Tile) → List ℕ
off_board counts board = table (λ k. slice_index counts k - count_by (has_kind k) board)

-- tiles without those of last racks, or none if there are fewer
unfoldable pub off_racks : (counts : List ℕ) → List Event → List ℕ
off_racks counts events = table (λ k. slice_index counts k - sum_by (remaining_at k) events)

-- The tiles that are not on any line: those of the game without those on the board and those of the last racks before and after.
unfoldable pub rest_tiles : Rules → List (Option Tile) → (before following : List Event) → List ℕ
rest_tiles rules board before following = off_racks (off_board rules.counts board) (before ++ following)

-- whether these tiles can be a rack, by their number
abbrev pub is_rack : (tiles : List ℕ) → Bool
is_rack tiles = nat_lt 0 (sum tiles) && nat_lt (sum tiles) 8

-- the rest in place of other tiles, if it is a rack
abbrev pub rest_for : (written rest : List ℕ) → List Slip
rest_for written rest = if is_rack rest && not (bytes_eq rest written) then slip.Rest rest ∷ [] else []

abbrev pub rest_of_player : (out : Option Seat) → (rest : List ℕ) → List Slip
rest_of_player None rest = []
rest_of_player (Some player) rest = if is_rack rest then slip.Missing (line.Rest player rest) ∷ [] else []

-- the last rack of the rest, if a player is out and the game is not complete
abbrev pub missing_rest : (complete : Bool) → (out : Option Seat) → (rest : List ℕ) → List Slip
missing_rest true out rest = []
missing_rest false out rest = rest_of_player out rest
