-- The boards of a record, as far as its plays can be laid.
use Rattle.std.specs.Prelude.{◌≡◌, ℕ, ◌+◌, ◌<◌, ◌≤◌, List, length, slice_get, Option, Some, None}
use Rattle.ref_play.specs.declared.faults.PlayFault.{PlayFault}
use Rattle.gcg_read.specs.declared.events.Event.{Event}
use Rattle.game_board.specs.Laying.{board_before, laying_fault, AreLaid}
use Rattle.sheet_scores.specs.declared.pictures.Picture.{Picture}
use Rattle.sheet_scores.specs.Pictures.{is_new, covered, IsPicture}

-- each play before a place can be laid
abbrev pub CanBeLaid : List Event → (end : ℕ) → Type 0
CanBeLaid events end = (place : ℕ) → place < end → laying_fault events place ≡ None

-- A board is the one after the event at a place, counted from 0, and exactly its new tiles are marked: the squares that have a tile after
-- the event and had none before it. It is the board before the next event, so it has a play that the next event takes back.
abbrev pub IsBoardAfter : List Event → (place : ℕ) → Picture → Type 0
IsBoardAfter events place p = IsPicture (board_before events (place + 1)) (is_new (board_before events place) (board_before events (place + 1))) p

-- there is a board after each event, up to the first whose play cannot be laid
pub record ArePictures (events : List Event) (pictures : List Picture) : Type 0 where
  pub laid : CanBeLaid events (length pictures)
  pub within : length pictures ≤ length events
  pub ended : length pictures < length events → laying_fault events (length pictures) ≡ None → ⊥
  pub each : (place : ℕ) (p : Picture) → slice_get pictures place ≡ Some p → IsBoardAfter events place p

-- the board as far as the plays before a place can be laid, with the squares marked that the play at the place covers
pub record IsBoardBefore (events : List Event) (place : ℕ) (p : Picture) : Type 0 where
  pub end : ℕ
  pub why : Option PlayFault
  pub laid : AreLaid events place end why
  pub shows : IsPicture (board_before events end) (covered (slice_get events place)) p

-- the board at a place: after its event, if the plays up to it can be laid, and otherwise before it
pub record IsShownAt (events : List Event) (place : ℕ) (p : Picture) : Type 0 where
  pub following : place < length events → CanBeLaid events (place + 1) → IsBoardAfter events place p
  pub before : (place < length events → CanBeLaid events (place + 1) → ⊥) → IsBoardBefore events place p
