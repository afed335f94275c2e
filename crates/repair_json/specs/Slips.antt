-- Slips by their names.
use Rattle.std.specs.Prelude.{ℕ, List, codes}
use Rattle.repair_changes.specs.declared.slips.PositionSlip.{PositionSlip}
use Rattle.repair_changes.specs.declared.slips.PositionSlip.TheVariants as position
use Rattle.repair_changes.specs.declared.slips.SpellingSlip.{SpellingSlip}
use Rattle.repair_changes.specs.declared.slips.SpellingSlip.TheVariants as spelling
use Rattle.repair_changes.specs.declared.slips.TileSlip.{TileSlip}
use Rattle.repair_changes.specs.declared.slips.TileSlip.TheVariants as tile
use Rattle.repair_changes.specs.declared.slips.TilesOf.{TilesOf}
use Rattle.repair_changes.specs.declared.slips.TilesOf.TheVariants as tiles
use Rattle.repair_changes.specs.declared.slips.Misread.{Misread}
use Rattle.repair_changes.specs.declared.slips.Misread.TheVariants as misread
use Rattle.repair_changes.specs.declared.slips.CodeSlip.{CodeSlip}
use Rattle.repair_changes.specs.declared.slips.CodeSlip.TheVariants as code
use Rattle.repair_changes.specs.declared.slips.MissingLine.{MissingLine}
use Rattle.repair_changes.specs.declared.slips.MissingLine.TheVariants as missing
use Rattle.repair_changes.specs.declared.slips.Slip.{Slip}
use Rattle.repair_changes.specs.declared.slips.Slip.TheVariants as slip
use Rattle.repair_sheets.specs.declared.slips.Way.{Way}
use Rattle.repair_sheets.specs.declared.slips.Way.TheVariants as way
use Rattle.repair_sheets.specs.declared.slips.RunningSlip.{RunningSlip}
use Rattle.repair_sheets.specs.declared.slips.RunningSlip.TheVariants as running
use Rattle.repair_sheets.specs.declared.slips.SheetSlip.{SheetSlip}
use Rattle.repair_sheets.specs.declared.slips.SheetSlip.TheVariants as sheet

-- ---- slips of one line

abbrev pub position_name : PositionSlip → List ℕ
position_name position.OtherDirection = codes "other direction"
position_name (position.OneOff right) = codes "one square off"
position_name (position.Further right) = codes "other square"
position_name position.Interchanged = codes "row and column interchanged"

abbrev pub spelling_name : SpellingSlip → List ℕ
spelling_name (spelling.OtherTile place right) = codes "letter or blank"
spelling_name (spelling.Dot place) = codes "letter in place of dot"
spelling_name (spelling.Letter place right) = codes "dot in place of letter"
spelling_name (spelling.OtherLetter place right) = codes "other letter"
spelling_name (spelling.Extra place) = codes "symbol too many"
spelling_name (spelling.MissingDot place) = codes "dot missing"
spelling_name (spelling.MissingLetter place right) = codes "letter missing"
spelling_name (spelling.Twisted place) = codes "symbols interchanged"
spelling_name (spelling.Laid word) = codes "dots too many or too few"

abbrev pub rack_name : TileSlip → List ℕ
rack_name (tile.Other written right) = codes "other tile on rack"
rack_name (tile.Extra written) = codes "tile too many on rack"
rack_name (tile.Missing right) = codes "tile missing on rack"

abbrev pub exchange_name : TileSlip → List ℕ
exchange_name (tile.Other written right) = codes "other tile exchanged"
exchange_name (tile.Extra written) = codes "tile too many exchanged"
exchange_name (tile.Missing right) = codes "tile missing in exchange"

abbrev pub last_rack_name : TileSlip → List ℕ
last_rack_name (tile.Other written right) = codes "other tile on last rack"
last_rack_name (tile.Extra written) = codes "tile too many on last rack"
last_rack_name (tile.Missing right) = codes "tile missing on last rack"

abbrev pub tile_name : TilesOf → TileSlip → List ℕ
tile_name tiles.Rack what = rack_name what
tile_name tiles.Exchange what = exchange_name what
tile_name tiles.LastRack what = last_rack_name what

abbrev pub misread_name : Misread → List ℕ
misread_name (misread.Played place written right) = codes "other tile on rack and in word"
misread_name (misread.Exchanged written right) = codes "other tile on rack and exchanged"

abbrev pub code_name : CodeSlip → List ℕ
code_name code.Pass = codes "pass"
code_name (code.Exchange many) = codes "exchange"
code_name code.Withdrawal = codes "withdrawal"

abbrev pub missing_name : MissingLine → List ℕ
missing_name (missing.Play player play) = codes "play missing"
missing_name (missing.Pass player) = codes "pass missing"
missing_name (missing.Exchange player many) = codes "exchange missing"
missing_name (missing.Time player score early) = codes "penalty missing"
missing_name (missing.Withdrawal player) = codes "withdrawal missing"
missing_name (missing.Challenge player score several) = codes "bonus missing"
missing_name (missing.Rest player counts) = codes "last rack missing"

abbrev pub slip_name : Slip → List ℕ
slip_name (slip.Position what) = position_name what
slip_name (slip.Spelling what) = spelling_name what
slip_name (slip.Replayed play) = codes "another play"
slip_name (slip.Tile of what) = tile_name of what
slip_name (slip.Misread what) = misread_name what
slip_name slip.NoRack = codes "other rack"
slip_name (slip.Number many) = codes "other number of tiles"
slip_name (slip.Code what) = code_name what
slip_name (slip.Rest counts) = codes "other last rack"
slip_name (slip.Amount right) = codes "other amount"
slip_name slip.OtherPlayer = codes "other player"
slip_name slip.Repeated = codes "line repeated"
slip_name slip.ExtraPass = codes "pass too many"
slip_name slip.Extra = codes "line too many"
slip_name slip.Swapped = codes "lines interchanged"
slip_name slip.SwappedOver = codes "lines interchanged over another"
slip_name (slip.Missing what) = missing_name what

-- ---- slips of the whole sheet

-- places that are one square off, by where the right ones are, seen from them
abbrev pub off_name : Way → List ℕ
off_name way.Left = codes "places one column too far right"
off_name way.Right = codes "places one column too far left"
off_name way.Up = codes "places one row too far down"
off_name way.Down = codes "places one row too far up"

abbrev pub running_name : RunningSlip → List ℕ
running_name running.Interchanged = codes "rows and columns interchanged"
running_name (running.OneOff where_right) = off_name where_right
running_name running.OtherCase = codes "small letters and capitals interchanged"
running_name running.CapitalBlanks = codes "blanks as capitals"
running_name running.OtherPlayer = codes "players interchanged"

abbrev pub sheet_slip_name : SheetSlip → List ℕ
sheet_slip_name (sheet.Unread line) = codes "line not read"
sheet_slip_name (sheet.ExtraMark number) = codes "> too many"
sheet_slip_name (sheet.NoPlace number at dir) = codes "no place"
sheet_slip_name (sheet.Running place what) = running_name what
