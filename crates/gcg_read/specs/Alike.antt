-- When two events are alike.
use Rattle.std.specs.Prelude.{◌≡◌, ◌⊎◌, ℕ, List, length, slice_get, Some}
use Rattle.ref_tiles.specs.declared.symbols.Symbol.{Symbol}
use Rattle.ref_tiles.specs.declared.symbols.Symbol.TheVariants as symbol
use Rattle.ref_board.specs.declared.squares.Square.{Square}
use Rattle.ref_board.specs.declared.directions.Dir.{Dir}
use Rattle.gcg_read.specs.declared.events.Event.{Event}
use Rattle.gcg_read.specs.declared.events.EventKind.{EventKind}
use Rattle.gcg_read.specs.declared.events.EventKind.TheVariants as kind

-- The same symbol, or a dot in one of the texts. A dot stands for the tile on its square.
abbrev pub AgreeSymbols : Symbol → Symbol → Type 0
AgreeSymbols a b = (a ≡ symbol.Dot) ⊎ (b ≡ symbol.Dot) ⊎ (a ≡ b)

-- two texts of one play, in which a tile that was on the board is a letter or a dot
pub record AgreeTexts (text other : List Symbol) : Type 0 where
  pub as_many : length text ≡ length other
  pub each : (place : ℕ) (a b : Symbol) → slice_get text place ≡ Some a → slice_get other place ≡ Some b → AgreeSymbols a b

-- a play of this text from this square in this direction
abbrev pub IsPlayOf : EventKind → Square → Dir → List Symbol → Type 0
IsPlayOf (kind.Play at dir word) square way text = (at ≡ square) × (dir ≡ way) × AgreeTexts word text
IsPlayOf other square way text = ⊥

-- The lines of two events say the same, whichever lines of a record they are and whichever player they name: the stated rack, what happened, the score and
-- the total.
pub record SayTheSame (e other : Event) : Type 0 where
  pub rack : e.rack ≡ other.rack
  pub kind : e.kind ≡ other.kind
  pub score : e.score ≡ other.score
  pub total : e.total ≡ other.total
