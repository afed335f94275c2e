-- How the code takes tiles and moves them: by how often each kind is reserved, and with room for the numbers.
use Rattle.std.specs.Prelude.{ℕ, zero, suc, ◌+◌, ◌<◌, ◌≤◌, ◌==◌, nat_lt, List, count_by, find, slice_index, Option}
use Rattle.std.specs.Option.{option_or}
use Rattle.gcg_read.specs.declared.events.Seat.{Seat}
use Rattle.deal_steps.specs.Piles.{kinds, table}
use Rattle.deal_steps.specs.Fitting.{rack_of}
use Rattle.deal_steps.specs.declared.steps.Act.{Act}
use Rattle.deal_steps.specs.declared.steps.Act.TheVariants as act
use Rattle.deal_completion.specs.declared.picking.Pick.{Pick}
use Rattle.deal_completion.specs.declared.hands.Hands.{Hands}
use Rattle.deal_completion.specs.Completion.{with_next}

-- how often each kind is in a list
unfoldable pub times_of : List ℕ → List ℕ
times_of list = table (λ k. count_by (λ j. j == k) list)

-- the first kind of which more are left than are reserved, otherwise the first kind that is left
abbrev pub next_spare : (times remaining : List ℕ) → Option ℕ
next_spare times remaining =
    option_or (find (λ k. nat_lt (slice_index times k) (slice_index remaining k)) kinds) (find (λ k. nat_lt 0 (slice_index remaining k)) kinds)

-- `more` further tiles
abbrev pub pick_spare : (times : List ℕ) (more : ℕ) → Pick → Pick
pick_spare times zero p = p
pick_spare times (suc more) p = pick_spare times more (with_next p (next_spare times p.remaining))

-- there is room for all tiles of each kind
abbrev pub HasRoomIn : Pick → Type 0
HasRoomIn p = (k : ℕ) → k < 27 → slice_index p.taken k + slice_index p.remaining k < 256

-- for each kind there is room for a player's tiles and those of the bag together
abbrev pub HasRoomToDraw : Seat → Hands → Type 0
HasRoomToDraw seat h = (k : ℕ) → k < 27 → slice_index (rack_of h.racks seat) k + slice_index h.bag k < 256

-- a player may throw these tiles: they are on the rack, and there is room to draw
abbrev pub MayThrow : Seat → (thrown : List ℕ) → Hands → Type 0
MayThrow seat thrown h = HasRoomToDraw seat h × ((k : ℕ) → k < 27 → slice_index thrown k ≤ slice_index (rack_of h.racks seat) k)

-- the tiles that a step moves can be counted
abbrev pub MayMove : Seat → Act → (thrown : List ℕ) → Hands → Type 0
MayMove seat (act.Turns shown what) thrown h = MayThrow seat thrown h
MayMove seat (act.TakesBack used) thrown h = (k : ℕ) → k < 27 → slice_index (rack_of h.racks seat) k + slice_index used k < 256
MayMove seat (act.Ends holder tiles) thrown h = Unit {0}
MayMove seat act.Rests thrown h = Unit {0}
