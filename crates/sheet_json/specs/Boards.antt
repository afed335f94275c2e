-- The board of a record as an object.
use Rattle.std.specs.Prelude.{ℕ, ℤ, List, [], ◌∷◌, codes, map, slice_get, Option, Some, None, option_map}
use Rattle.std.specs.List.{filter_map, range_with_len}
use Rattle.json.specs.Json.{Json, null, string}
use Rattle.json_trees.specs.Values.{Field, array_of, count, integer, object_of, or_null, text}
use Rattle.arrayvec.specs.ArrayVec.{ArrayVec}
use Rattle.ref_tiles.specs.Kinds.{kind_at}
use Rattle.ref_play.specs.declared.faults.PlayFault.{PlayFault}
use Rattle.ref_play.specs.Faults.{name_of}
use Rattle.gcg_read.specs.declared.players.Player.{Player}
use Rattle.engine_stages.specs.declared.verdicts.Verdict.TheVariants as verdict
use Rattle.game_answers.specs.declared.boards.ShownBoard.{ShownBoard}
use Rattle.gcg_unread.specs.declared.lines.UnreadLine.{UnreadLine}
use Rattle.json_base.specs.Faults.{bare_fault_object, tile_value}
use Rattle.json_base.specs.Values.{given_text, rack_value, unread_value}
use Rattle.json_base.specs.Verdicts.{verdict_object}

-- of a play that cannot be laid its fault, and the line of its event
abbrev pub laid_fault : Option PlayFault → Json
laid_fault None = null
laid_fault (Some fault) = bare_fault_object (name_of fault)

abbrev pub laid_line : Option PlayFault → (line : Option ℕ) → Json
laid_line None line = null
laid_line (Some fault) line = or_null (option_map count line)

-- a row: the marks of its squares
abbrev pub row_value : ArrayVec ℕ → Json
row_value row = text row.items

-- a player, with the last total that is written
abbrev pub player_fields : Player → (total : ℤ) → List Field
player_fields player total =
    (codes "nick", given_text player.nick)
    ∷ (codes "name", given_text player.full)
    ∷ (codes "total", integer total)
    ∷ []

abbrev pub player_object : Player → (total : ℤ) → Json
player_object player total = object_of (player_fields player total)

-- how many tiles of a kind are not on the board
abbrev pub kind_fields : (kind number : ℕ) → List Field
kind_fields kind number = (codes "tile", tile_value (kind_at kind)) ∷ (codes "number", count number) ∷ []

abbrev pub kind_object : (kind number : ℕ) → Json
kind_object kind number = object_of (kind_fields kind number)

abbrev pub off_at : (off : List ℕ) → (kind : ℕ) → Option Json
off_at off kind = option_map (kind_object kind) (slice_get off kind)

-- of the first kinds, A to Z and then blanks
unfoldable pub kinds_to : (off : List ℕ) → (many : ℕ) → List Json
kinds_to off many = filter_map (off_at off) (range_with_len 0 many)

-- the tiles that are not on the board: how many, and how many of each of the 27 kinds
abbrev pub off_fields : (number : ℕ) → (off : List ℕ) → List Field
off_fields number off = (codes "number", count number) ∷ (codes "kinds", array_of (kinds_to off 27)) ∷ []

abbrev pub off_object : (number : ℕ) → (off : List ℕ) → Json
off_object number off = object_of (off_fields number off)

-- the line of the event before which the board is, the 15 rows, the players, the rack of the event, the tiles that are not on the board, and the lines that
-- are not read
abbrev pub board_fields : ShownBoard → List UnreadLine → List Field
board_fields board unread =
    (codes "verdict", string (codes "ok"))
    ∷ (codes "line", laid_line board.fault board.line)
    ∷ (codes "fault", laid_fault board.fault)
    ∷ (codes "before", or_null (option_map count board.line))
    ∷ (codes "rows", array_of (map row_value board.rows.items))
    ∷ (codes "players", array_of (player_object board.players.first board.first ∷ player_object board.players.second board.second ∷ []))
    ∷ (codes "rack", rack_value board.rack)
    ∷ (codes "off_board", off_object board.off_in_all board.off.items)
    ∷ (codes "unread_lines", unread_value unread)
    ∷ []

-- or no event is on the line
abbrev pub board_object : Option ShownBoard → List UnreadLine → Json
board_object None unread = verdict_object verdict.BadLine
board_object (Some board) unread = object_of (board_fields board unread)
