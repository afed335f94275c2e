-- Repairs that share a line: those of one kind and one cost at one place, which differ in a letter or in how many tiles are exchanged.
use Rattle.std.specs.Prelude.{ℕ, ◌==◌, ◌&&◌, Bool, true, false, length}
use Rattle.ref_tiles.specs.declared.kinds.Kind.{Kind}
use Rattle.ref_tiles.specs.Kinds.{kind_byte}
use Rattle.gcg_read.specs.Players.{same_seat}
use Rattle.repair_changes.specs.declared.slips.Slip.{Slip}
use Rattle.repair_changes.specs.declared.slips.Slip.TheVariants as slip
use Rattle.repair_changes.specs.declared.slips.SpellingSlip.{SpellingSlip}
use Rattle.repair_changes.specs.declared.slips.SpellingSlip.TheVariants as spelling
use Rattle.repair_changes.specs.declared.slips.TileSlip.{TileSlip}
use Rattle.repair_changes.specs.declared.slips.TileSlip.TheVariants as tile
use Rattle.repair_changes.specs.declared.slips.TilesOf.{TilesOf}
use Rattle.repair_changes.specs.declared.slips.TilesOf.TheVariants as tiles
use Rattle.repair_changes.specs.declared.slips.Misread.{Misread}
use Rattle.repair_changes.specs.declared.slips.Misread.TheVariants as misread
use Rattle.repair_changes.specs.declared.slips.CodeSlip.{CodeSlip}
use Rattle.repair_changes.specs.declared.slips.CodeSlip.TheVariants as code
use Rattle.repair_changes.specs.declared.slips.MissingLine.{MissingLine}
use Rattle.repair_changes.specs.declared.slips.MissingLine.TheVariants as missing
use Rattle.repair_single.specs.Costs.{costs}
use Rattle.repair_single.specs.declared.repair.Repair.{Repair}
use Rattle.repair_pairs.specs.declared.found.Pair.{Pair}

-- one kind of tile
abbrev pub same_tile : Kind → Kind → Bool
same_tile kind other = kind_byte kind == kind_byte other

-- tiles of the same field of a line
abbrev pub same_use : TilesOf → TilesOf → Bool
same_use tiles.Rack tiles.Rack = true
same_use tiles.Exchange tiles.Exchange = true
same_use tiles.LastRack tiles.LastRack = true
same_use of other = false

-- the same symbol of a text is another letter, or a letter is missing at the same place
abbrev pub like_spelling : SpellingSlip → SpellingSlip → Bool
like_spelling (spelling.OtherTile place right) (spelling.OtherTile at other) = place == at
like_spelling (spelling.Letter place right) (spelling.Letter at other) = place == at
like_spelling (spelling.OtherLetter place right) (spelling.OtherLetter at other) = place == at
like_spelling (spelling.MissingLetter place right) (spelling.MissingLetter at other) = place == at
like_spelling one other = false

-- the same tile is another one; or a tile too many, or one too few, in both
abbrev pub like_tile : TileSlip → TileSlip → Bool
like_tile (tile.Other written right) (tile.Other one other) = same_tile written one
like_tile (tile.Extra one) (tile.Extra other) = true
like_tile (tile.Missing one) (tile.Missing other) = true
like_tile one other = false

-- the same tile is misread twice
abbrev pub like_misread : Misread → Misread → Bool
like_misread (misread.Played place written right) (misread.Played at one other) = place == at
like_misread (misread.Exchanged written right) (misread.Exchanged one other) = same_tile written one
like_misread one other = false

abbrev pub like_code : CodeSlip → CodeSlip → Bool
like_code (code.Exchange many) (code.Exchange others) = true
like_code one other = false

abbrev pub like_missing : MissingLine → MissingLine → Bool
like_missing (missing.Exchange player many) (missing.Exchange other others) = same_seat player other
like_missing one other = false

-- slips of one kind, which differ in a letter or in how many tiles are exchanged
abbrev pub like_slip : Slip → Slip → Bool
like_slip (slip.Spelling one) (slip.Spelling other) = like_spelling one other
like_slip (slip.Tile of one) (slip.Tile whose other) = same_use of whose && like_tile one other
like_slip (slip.Misread one) (slip.Misread other) = like_misread one other
like_slip (slip.Number many) (slip.Number others) = true
like_slip (slip.Code one) (slip.Code other) = like_code one other
like_slip (slip.Missing line) (slip.Missing other) = like_missing line other
like_slip one other = false

abbrev pub cost_in : Repair → ℕ
cost_in r = costs (length r.remains.wrong.items) (length r.remains.unlisted.items) r.listed.change.slip

-- of one kind and one cost at one place
abbrev pub is_like : Repair → Repair → Bool
is_like one other = one.listed.change.place == other.listed.change.place && (cost_in one == cost_in other && like_slip one.listed.change.slip other.listed.change.slip)

-- pairs with the same first change, whose second ones are alike
abbrev pub are_like_pairs : Pair → Pair → Bool
are_like_pairs one other = one.head == other.head && is_like one.then other.then
