-- What a change costs: what stays wrong with it, and the weight of its slip. What costs less is likelier.
use Rattle.std.specs.Prelude.{ℕ, ◌+◌, ◌*◌, Bool, true, false}
use Rattle.repair_changes.specs.declared.slips.Slip.{Slip}
use Rattle.repair_changes.specs.declared.slips.Slip.TheVariants as slip
use Rattle.repair_changes.specs.declared.slips.PositionSlip.{PositionSlip}
use Rattle.repair_changes.specs.declared.slips.PositionSlip.TheVariants as position
use Rattle.repair_changes.specs.declared.slips.SpellingSlip.{SpellingSlip}
use Rattle.repair_changes.specs.declared.slips.SpellingSlip.TheVariants as spelling
use Rattle.repair_changes.specs.declared.slips.TilesOf.{TilesOf}
use Rattle.repair_changes.specs.declared.slips.TilesOf.TheVariants as tiles_of
use Rattle.repair_changes.specs.declared.slips.TileSlip.{TileSlip}
use Rattle.repair_changes.specs.declared.slips.TileSlip.TheVariants as tile
use Rattle.repair_changes.specs.declared.slips.MissingLine.{MissingLine}
use Rattle.repair_changes.specs.declared.slips.MissingLine.TheVariants as line

-- A wrong number costs 5, and a word that is not in the list 3.
abbrev pub remaining_cost : (wrong unlisted : ℕ) → ℕ
remaining_cost wrong unlisted = 5 * wrong + 3 * unlisted

-- ---- the weight of a slip

abbrev pub position_weight : PositionSlip → ℕ
position_weight position.OtherDirection = 2
position_weight (position.OneOff right) = 2
position_weight (position.Further right) = 3
position_weight position.Interchanged = 4

abbrev pub spelling_weight : SpellingSlip → ℕ
spelling_weight (spelling.OtherTile place right) = 2
spelling_weight (spelling.Dot place) = 2
spelling_weight (spelling.Letter place right) = 2
spelling_weight (spelling.OtherLetter place right) = 3
spelling_weight (spelling.Extra place) = 3
spelling_weight (spelling.MissingDot place) = 2
spelling_weight (spelling.MissingLetter place right) = 4
spelling_weight (spelling.Twisted place) = 2
spelling_weight (spelling.Laid word) = 2

-- one tile for another weighs less on a last rack, which both players see
abbrev pub other_weight : TilesOf → ℕ
other_weight tiles_of.Rack = 3
other_weight tiles_of.Exchange = 3
other_weight tiles_of.LastRack = 2

-- a tile too many or too few weighs less on a stated rack, of which any part may be written, and still less in an exchange, of
-- which nothing is seen on the board
abbrev pub number_weight : TilesOf → ℕ
number_weight tiles_of.Rack = 3
number_weight tiles_of.Exchange = 2
number_weight tiles_of.LastRack = 4

abbrev pub tile_weight : TilesOf → TileSlip → ℕ
tile_weight of (tile.Other written right) = other_weight of
tile_weight of (tile.Extra written) = number_weight of
tile_weight of (tile.Missing right) = number_weight of

-- A penalty before a turn weighs more than two wrong numbers, since penalties are written down when the game has ended.
abbrev pub early_weight : (early : Bool) → ℕ
early_weight true = 11
early_weight false = 3

-- a challenge of more than one word
abbrev pub several_weight : (several : Bool) → ℕ
several_weight true = 5
several_weight false = 3

abbrev pub missing_weight : MissingLine → ℕ
missing_weight (line.Play player play) = 4
missing_weight (line.Pass player) = 2
missing_weight (line.Exchange player n) = 2
missing_weight (line.Time player score early) = early_weight early
missing_weight (line.Withdrawal player) = 2
missing_weight (line.Challenge player score several) = several_weight several
missing_weight (line.Rest player counts) = 2

abbrev pub weight_of : Slip → ℕ
weight_of (slip.Position s) = position_weight s
weight_of (slip.Spelling s) = spelling_weight s
weight_of (slip.Replayed play) = 6
weight_of (slip.Tile of s) = tile_weight of s
weight_of (slip.Misread m) = 4
weight_of slip.NoRack = 5
weight_of (slip.Number n) = 4
weight_of (slip.Code s) = 2
weight_of (slip.Rest counts) = 3
weight_of (slip.Amount right) = 2
weight_of slip.OtherPlayer = 2
weight_of slip.Repeated = 1
weight_of slip.ExtraPass = 2
weight_of slip.Extra = 7
weight_of slip.Swapped = 2
weight_of slip.SwappedOver = 3
weight_of (slip.Missing m) = missing_weight m
