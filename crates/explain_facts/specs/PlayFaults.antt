-- What is wrong with the text or the placement of a play.
use Rattle.std.specs.Prelude.{◌≡◌, ℕ, ◌+◌, ◌-◌, ◌<◌, true, List, length, slice_get, Some, None, is_some}
use Rattle.ref_tiles.specs.declared.symbols.Symbol.{Symbol}
use Rattle.ref_tiles.specs.declared.symbols.Symbol.TheVariants as symbol
use Rattle.ref_tiles.specs.Symbols.{byte_of}
use Rattle.ref_board.specs.declared.directions.Dir.{Dir}
use Rattle.ref_board.specs.Lines.{line_of, place_of, square_at}
use Rattle.ref_board.specs.Cells.{tile_at}
use Rattle.ref_play.specs.declared.faults.PlayFault.TheVariants as play
use Rattle.ref_play.specs.Formed.{along}
use Rattle.ref_play.specs.Words.{capital_shown}
use Rattle.game_turns.specs.Checks.{play_fault}
use Rattle.explain_clues.specs.Texts.{new_tiles, IsFirstMisfit}
use Rattle.explain_facts.specs.declared.facts.plays.PlayFact.{PlayFact}
use Rattle.explain_facts.specs.declared.facts.plays.PlayFact.TheVariants as play_fact
use Rattle.explain_facts.specs.Moments.{Moment}
use Rattle.explain_facts.specs.Kinds.{OfPlay}

-- the tile on a square shows a letter, as a capital
abbrev pub Shows : Moment → (square letter : ℕ) → Type 0
Shows m square letter = (is_some (tile_at m.before.board square) ≡ true) × (letter ≡ capital_shown (tile_at m.before.board square))

-- a symbol of a play's text does not agree with its square, and is the first that does not
pub record IsMisfit (m : Moment) (at : ℕ) (dir : Dir) (word : List Symbol) (square : ℕ) (written : Symbol) : Type 0 where
  pub place : ℕ
  pub first : IsFirstMisfit m.before.board dir at word (Some place)
  pub stands : slice_get word place ≡ Some written
  pub on_square : square ≡ along dir at place

-- a square of a play's text has a dot, and no tile
abbrev pub IsBareDot : Moment → (at : ℕ) → Dir → List Symbol → (square : ℕ) → Type 0
IsBareDot m at dir word square = IsMisfit m at dir word square symbol.Dot × (tile_at m.before.board square ≡ None)

-- a square of a play's text has a symbol, and the tile there shows another letter
abbrev pub IsOtherLetter : Moment → (at : ℕ) → Dir → List Symbol → (square byte shown : ℕ) → Type 0
IsOtherLetter m at dir word square byte shown =
    (written : Symbol) × IsMisfit m at dir word square written × (byte ≡ byte_of written) × Shows m square shown

-- what each fact about the text or the placement of the play says is true at the moment
abbrev pub IsPlayTrue : Moment → PlayFact → Type 0
IsPlayTrue m (play_fact.LeavesBoard at dir squares room) =
    OfPlay m.event.kind (λ a d word. (at ≡ a) × (dir ≡ d) × (squares ≡ length word) × (place_of dir at + room ≡ 15) × (room < squares))
IsPlayTrue m (play_fact.DotOnEmpty square) = OfPlay m.event.kind (λ at dir word. IsBareDot m at dir word square)
IsPlayTrue m (play_fact.OtherLetter square written shown) = OfPlay m.event.kind (λ at dir word. IsOtherLetter m at dir word square written shown)
IsPlayTrue m play_fact.NoNewTile = OfPlay m.event.kind (λ at dir word. play_fault m.before.board dir at word ≡ Some play.NoNewTile)
IsPlayTrue m (play_fact.ManyTiles tiles) = OfPlay m.event.kind (λ at dir word. (new_tiles m.before.board dir at word ≡ Some tiles) × (7 < tiles))
IsPlayTrue m (play_fact.TileBefore square letter) =
    OfPlay m.event.kind (λ at dir word. (0 < place_of dir at) × (square ≡ square_at dir (line_of dir at) (place_of dir at - 1)) × Shows m square letter)
IsPlayTrue m (play_fact.TileAfter square letter) =
    OfPlay m.event.kind (λ at dir word. (place_of dir at + length word < 15) × (square ≡ square_at dir (line_of dir at) (place_of dir at + length word)) × Shows m square letter)
IsPlayTrue m play_fact.NotWhole = OfPlay m.event.kind (λ at dir word. play_fault m.before.board dir at word ≡ Some play.NotWhole)
IsPlayTrue m play_fact.MissesCentre = OfPlay m.event.kind (λ at dir word. play_fault m.before.board dir at word ≡ Some play.MissesCentre)
IsPlayTrue m play_fact.TooShort = OfPlay m.event.kind (λ at dir word. play_fault m.before.board dir at word ≡ Some play.TooShort)
IsPlayTrue m play_fact.Apart = OfPlay m.event.kind (λ at dir word. play_fault m.before.board dir at word ≡ Some play.Apart)
