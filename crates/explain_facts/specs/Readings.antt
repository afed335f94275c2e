-- The same play with another tile in one place: what was played if a tile was read or written wrongly.
use Rattle.std.specs.Prelude.{◌≡◌, ◌≢◌, ℕ, ℤ, ◌<◌, ◌≤◌, Bool, true, false, List, slice_get, slice_index, slice_set, Some, None}
use Rattle.std.specs.List.{list_all}
use Rattle.ref_tiles.specs.declared.kinds.Kind.{Kind}
use Rattle.ref_tiles.specs.declared.symbols.Symbol.{Symbol}
use Rattle.ref_tiles.specs.declared.symbols.Symbol.TheVariants as symbol
use Rattle.ref_tiles.specs.Counting.{count_of}
use Rattle.ref_tiles.specs.Kinds.{number_of}
use Rattle.ref_tiles.specs.Symbols.{byte_of}
use Rattle.ref_board.specs.declared.directions.Dir.{Dir}
use Rattle.ref_play.specs.declared.placed.Placed.{Placed}
use Rattle.ref_play.specs.Candidates.{used}
use Rattle.ref_play.specs.Formed.{along}
use Rattle.ref_play.specs.Texts.{placement_of}
use Rattle.ref_play.specs.Words.{words_formed}
use Rattle.lex_list.specs.Words.{is_listed}
use Rattle.game_turns.specs.Checks.{play_fault, text_score}
use Rattle.explain_facts.specs.declared.facts.readings.ReadingFact.{ReadingFact}
use Rattle.explain_facts.specs.declared.facts.readings.ReadingFact.TheVariants as reading_fact
use Rattle.explain_facts.specs.Moments.{Moment}
use Rattle.explain_facts.specs.Kinds.{OfPlay}
use Rattle.game_turns.specs.Unlisted.{letters_in}

-- a blank in place of a letter tile, and a letter tile in place of a blank; both show the same letter
abbrev pub swapped : Symbol → Symbol
swapped symbol.Dot = symbol.Dot
swapped (symbol.Letter l) = symbol.Blank l
swapped (symbol.Blank l) = symbol.Letter l

abbrev pub is_dot : Symbol → Bool
is_dot symbol.Dot = true
is_dot other = false

-- two symbols that differ, of which neither is a dot
pub record AreTwoTiles (symbol other : Symbol) : Type 0 where
  pub one : is_dot symbol ≡ false
  pub another : is_dot other ≡ false
  pub differ : symbol ≢ other

-- a text with another symbol at a place, counted from 0
abbrev pub with_symbol : List Symbol → (place : ℕ) → Symbol → List Symbol
with_symbol word place other = slice_set word place other

-- the tiles of a placement are on a rack
abbrev pub IsOnRack : (rack : List ℕ) → List Placed → Type 0
IsOnRack rack ps = (k : ℕ) → k < 27 → used ps k ≤ slice_index rack k

-- A play uses more tiles of a kind than the line shows on the rack.
pub record IsNotOnRack (m : Moment) (at : ℕ) (dir : Dir) (word : List Symbol) (which : Kind) (many has : ℕ) (rack : List ℕ) : Type 0 where
  pub shown : m.event.rack ≡ Some rack
  pub uses : many ≡ used (placement_of m.before.board dir at word) (number_of which)
  pub counts : has ≡ count_of rack which
  pub more : has < many

-- The text of a play with another tile at a place, which is on this square, is a legal play there, with this score; what is
-- written there, and what it is read as, are named by the bytes that write them, and neither is a dot.
pub record IsReadAs (m : Moment) (at : ℕ) (dir : Dir) (word : List Symbol) (place : ℕ) (symbol other : Symbol) (square stood read : ℕ) (score : ℤ) : Type 0 where
  pub stands : slice_get word place ≡ Some symbol
  pub on_square : square ≡ along dir at place
  pub was : stood ≡ byte_of symbol
  pub reads : read ≡ byte_of other
  pub legal : play_fault m.before.board dir at (with_symbol word place other) ≡ None
  pub scores : score ≡ text_score m.rules m.before.board dir at (with_symbol word place other)
  pub tiles : AreTwoTiles symbol other

-- With the letter on a square as a blank, or the blank there as a letter, the play has the written score.
pub record IsSwapped (m : Moment) (at : ℕ) (dir : Dir) (word : List Symbol) (square stood read : ℕ) (score : ℤ) : Type 0 where
  pub place : ℕ
  pub symbol : Symbol
  pub is : IsReadAs m at dir word place symbol (swapped symbol) square stood read score
  pub written : score ≡ m.event.score

-- With another tile on a square the play uses only tiles that the line shows on the rack, and each word that it forms is in the list.
pub record IsMisread (m : Moment) (at : ℕ) (dir : Dir) (word : List Symbol) (square stood read : ℕ) (words : List (List ℕ)) (score written : ℤ) : Type 0 where
  pub place : ℕ
  pub symbol : Symbol
  pub other : Symbol
  pub rack : List ℕ
  pub is : IsReadAs m at dir word place symbol other square stood read score
  pub shown : m.event.rack ≡ Some rack
  pub on_rack : IsOnRack rack (placement_of m.before.board dir at (with_symbol word place other))
  pub forms : words ≡ words_formed dir m.before.board (placement_of m.before.board dir at (with_symbol word place other))
  pub listed : list_all (is_listed m.list) words ≡ true
  pub noted : written ≡ m.event.score

-- what each fact about the play with another tile in one place says is true at the moment
abbrev pub IsReadingTrue : Moment → ReadingFact → Type 0
IsReadingTrue m (reading_fact.AsBlank square letter read score) = OfPlay m.event.kind (λ at dir word. IsSwapped m at dir word square letter read score)
IsReadingTrue m (reading_fact.NotOnRack which many has rack) = OfPlay m.event.kind (λ at dir word. IsNotOnRack m at dir word which many has rack)
IsReadingTrue m (reading_fact.Misread square letter read words score written) =
    OfPlay m.event.kind (λ at dir word. IsMisread m at dir word square letter read (letters_in words.items) score written)
