-- The best play of a turn, as a value.
use Rattle.std.specs.Prelude.{◌≡◌, ℕ, ℤ, ◌+ℤ◌, true, false, List, Option, Some, None}
use Rattle.ref_tiles.specs.declared.tiles.Tile.{Tile}
use Rattle.ref_tiles.specs.declared.rulebook.Rules.{Rules}
use Rattle.ref_play.specs.Notations.{written, notation_of}
use Rattle.ref_play.specs.Best.{Given, IsAnnotation}
use Rattle.gcg_read.specs.declared.events.Event.{Event}
use Rattle.game_turns.specs.Tallies.{State}
use Rattle.game_report.specs.BestPlays.{is_judged, full_rack}
use Rattle.game_bests.specs.declared.bests.BestPlay.{BestPlay}
use Rattle.game_bests.specs.declared.bests.TurnBest.{TurnBest}
use Rattle.game_bests.specs.declared.bests.TurnBest.TheVariants as best

-- A play on a board, as it is written, with its score, and how many points more it gives than the turn gave.
pub record IsBestPlay (board : List (Option Tile)) (gave : ℤ) (given : Given) (b : BestPlay) : Type 0 where
  pub notation : written b.written ≡ notation_of board given.tiles
  pub score : b.score ≡ given.score
  pub more : gave +ℤ b.more ≡ given.score

-- the best candidate by a rack on a board, or that there is none
abbrev pub IsBestBy : Rules → (list : List (List ℕ)) → (board : List (Option Tile)) → (rack : List ℕ) → (gave : ℤ) → TurnBest → Type 0
IsBestBy rules list board rack gave best.NoTurn = ⊥
IsBestBy rules list board rack gave best.NotShown = ⊥
IsBestBy rules list board rack gave best.NoPlay = IsAnnotation rules list board rack None
IsBestBy rules list board rack gave (best.Best b) = (given : Given) × IsAnnotation rules list board rack (Some given) × IsBestPlay board gave given b

-- the same by the whole rack, if it is shown
abbrev pub IsBestByRack : Rules → (list : List (List ℕ)) → (board : List (Option Tile)) → (gave : ℤ) → Option (List ℕ) → TurnBest → Type 0
IsBestByRack rules list board gave None b = b ≡ best.NotShown
IsBestByRack rules list board gave (Some rack) b = IsBestBy rules list board rack gave b

-- What is said of the best play of an event that gave `gave` points, by the state before it: for a turn the best play by its rack, if that is
-- shown, and how many points more it would have given; and nothing if the event is not a turn.
pub record IsTurnBest (rules : Rules) (list : List (List ℕ)) (s : State) (e : Event) (gave : ℤ) (b : TurnBest) : Type 0 where
  pub turn : is_judged s.out e.kind ≡ true → IsBestByRack rules list s.board gave (full_rack s e) b
  pub idle : is_judged s.out e.kind ≡ false → b ≡ best.NoTurn
