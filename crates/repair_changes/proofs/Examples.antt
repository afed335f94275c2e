-- Records after a change, as the definitions give them, computed. Squares are numbered row by row from 1A, which is 0: 8E is 109,
-- 10F is 140, and F10, with row and column interchanged, would be 6J, which is 84.
use Rattle.std.proofs.Common.{ℕ, ℤ, pos, negsuc, true, false, List, [], ◌∷◌, get_or, Option, Some, None, refl, arith}
use Rattle.std.specs.Prelude.{codes}
use Rattle.std.specs.List.{filter_map}
use Rattle.first_faults.proofs.Rows.{Agree}
use Rattle.ref_tiles.specs.declared.letters.Letter.{Letter}
use Rattle.ref_tiles.specs.declared.kinds.Kind.TheVariants as kind_of_tile
use Rattle.ref_tiles.specs.declared.symbols.Symbol.{Symbol}
use Rattle.ref_tiles.specs.declared.symbols.Symbol.TheVariants as symbol
use Rattle.ref_tiles.specs.Letters.{letter_at}
use Rattle.ref_tiles.specs.Kinds.{kind_of}
use Rattle.ref_tiles.specs.Counting.{counted}
use Rattle.ref_board.specs.declared.directions.Dir.TheVariants.{Across, Down}
use Rattle.gcg_read.specs.declared.events.Event.{Event}
use Rattle.gcg_read.specs.declared.events.EventKind.{EventKind}
use Rattle.gcg_read.specs.declared.events.EventKind.TheVariants as kind
use Rattle.gcg_read.specs.declared.events.Seat.{Seat}
use Rattle.gcg_read.specs.declared.events.Seat.TheVariants.{First, Second}
use Rattle.gcg_read.specs.Texts.{symbols_of}
use Rattle.repair_changes.specs.declared.slips.Slip.{Slip}
use Rattle.repair_changes.specs.declared.slips.Slip.TheVariants as slip
use Rattle.repair_changes.specs.declared.slips.PositionSlip.TheVariants as position
use Rattle.repair_changes.specs.declared.slips.SpellingSlip.TheVariants as spelling
use Rattle.repair_changes.specs.declared.slips.CodeSlip.TheVariants as code
use Rattle.repair_changes.specs.declared.slips.TilesOf.TheVariants as tiles_of
use Rattle.repair_changes.specs.declared.slips.TileSlip.TheVariants as tile
use Rattle.repair_changes.specs.declared.slips.Misread.TheVariants as misread
use Rattle.repair_changes.specs.declared.slips.MissingLine.TheVariants as line
use Rattle.repair_changes.specs.Splices.{spliced}
use Rattle.repair_changes.specs.Applied.{applied}
use Rattle.repair_changes.specs.Weights.{weight_of}

abbrev word : List ℕ → List Symbol
word letters = symbols_of letters

-- an event on a line: its player, what happened, its score and the total
abbrev event_on : ℕ → Seat → EventKind → ℤ → ℤ → Event
event_on at player what score total = record { line = at; player = player; rack = None; kind = what; score = score; total = total }

-- 8E WORD by the first player, 10F AT by the second, and a pass
abbrev word_play : Event
word_play = event_on 1 First (kind.Play 109 Across (word (codes "WORD"))) (pos 16) (pos 16)

abbrev at_play : Event
at_play = event_on 2 Second (kind.Play 140 Across (word (codes "AT"))) (pos 2) (pos 2)

abbrev pass : Event
pass = event_on 3 First kind.Pass (pos 0) (pos 16)

abbrev game : List Event
game = word_play ∷ at_play ∷ pass ∷ []

abbrev with : ℕ → Slip → List Event
with place what = applied (record { place = place; slip = what }) game

-- ---- records after a change

-- a play in another place, direction or spelling
moved : Agree (
    (with 1 (slip.Position position.OtherDirection), word_play ∷ record at_play { kind = kind.Play 140 Down (word (codes "AT")) } ∷ pass ∷ [])
    ∷ (with 1 (slip.Position (position.OneOff 141)), word_play ∷ record at_play { kind = kind.Play 141 Across (word (codes "AT")) } ∷ pass ∷ [])
    ∷ (with 1 (slip.Position position.Interchanged), word_play ∷ record at_play { kind = kind.Play 84 Across (word (codes "AT")) } ∷ pass ∷ [])
    ∷ (with 2 (slip.Position position.Interchanged), game)
    ∷ [])
unfolding spliced letter_at
moved = refl

-- the first play with another text
abbrev texted : List ℕ → List Event
texted letters = record word_play { kind = kind.Play 109 Across (word letters) } ∷ at_play ∷ pass ∷ []

abbrev letter_a : Symbol
letter_a = get_or (word (codes "A")) 0 symbol.Dot

respelled : Agree (
    (with 0 (slip.Spelling (spelling.Dot 1)), texted (codes "W.RD"))
    ∷ (with 0 (slip.Spelling (spelling.OtherLetter 1 letter_a)), texted (codes "WARD"))
    ∷ (with 0 (slip.Spelling (spelling.Extra 3)), texted (codes "WOR"))
    ∷ (with 0 (slip.Spelling (spelling.MissingDot 4)), texted (codes "WORD."))
    ∷ (with 0 (slip.Spelling (spelling.Twisted 1)), texted (codes "WROD"))
    ∷ (with 0 (slip.Spelling (spelling.Twisted 3)), game)
    ∷ (with 0 (slip.Spelling (spelling.Laid (word (codes "WO.RD")))), texted (codes "WO.RD"))
    ∷ [])
unfolding spliced letter_at
respelled = refl

-- A8 AB in place of each line: one that is not a play stays
abbrev ab_play : EventKind
ab_play = kind.Play 105 Down (word (codes "AB"))

replayed : Agree (
    (with 0 (slip.Replayed (record { at = 105; dir = Down; word = word (codes "AB") })), record word_play { kind = ab_play } ∷ at_play ∷ pass ∷ [])
    ∷ (with 1 (slip.Replayed (record { at = 105; dir = Down; word = word (codes "AB") })), word_play ∷ record at_play { kind = ab_play } ∷ pass ∷ [])
    ∷ (with 2 (slip.Replayed (record { at = 105; dir = Down; word = word (codes "AB") })), game)
    ∷ [])
unfolding spliced letter_at
replayed = refl

-- a line that is a different one, that should not be there, that is missing, or that is in the place of another
other_lines : Agree (
    (with 2 slip.OtherPlayer, word_play ∷ at_play ∷ record pass { player = Second } ∷ [])
    ∷ (with 2 (slip.Code (code.Exchange 3)), word_play ∷ at_play ∷ record pass { kind = kind.ExchangeUnknown 3 } ∷ [])
    ∷ (with 1 slip.Extra, word_play ∷ pass ∷ [])
    ∷ (with 2 slip.ExtraPass, word_play ∷ at_play ∷ [])
    ∷ (with 0 slip.Swapped, at_play ∷ word_play ∷ pass ∷ [])
    ∷ (with 0 slip.SwappedOver, pass ∷ at_play ∷ word_play ∷ [])
    ∷ (with 1 slip.SwappedOver, game)
    ∷ (with 2 (slip.Missing (line.Play First (record { at = 105; dir = Down; word = word (codes "AB") }))), word_play ∷ at_play ∷ event_on 0 First ab_play (pos 0) (pos 0) ∷ pass ∷ [])
    ∷ (with 1 (slip.Missing (line.Withdrawal First)), word_play ∷ event_on 0 First kind.Withdraw (pos 0) (pos 0) ∷ at_play ∷ pass ∷ [])
    ∷ (with 3 (slip.Missing (line.Time Second (negsuc 9) false)), word_play ∷ at_play ∷ pass ∷ event_on 0 Second kind.Time (negsuc 9) (pos 0) ∷ [])
    ∷ [])
unfolding spliced letter_at
other_lines = refl

-- the number of tiles of each kind among some letters
abbrev tiles : List ℕ → List ℕ
tiles letters = counted (filter_map kind_of letters)

-- a letter by its number; A if there is none
abbrev letter_or_a : Option Letter → Letter
letter_or_a None = record { index = 0; in_range = omega arith }
letter_or_a (Some l) = l

abbrev letter_h : Letter
letter_h = letter_or_a (letter_at 7)

abbrev letter_t : Letter
letter_t = letter_or_a (letter_at 19)

-- a line of the second player that states a rack
abbrev racked : List ℕ → EventKind → Event
racked letters what = record at_play { rack = Some (tiles letters); kind = what }

abbrev with_tiles : Slip → Event → List Event
with_tiles what e = applied (record { place = 0; slip = what }) (e ∷ [])

-- One tile is misread twice: the rack and the word have another one, or the rack and the exchange. A tile that is not there stays as it is, and so does
-- a line without a rack, or one that is not a play or an exchange.
misread_twice : Agree (
    (with_tiles (slip.Misread (misread.Played 1 letter_t letter_h)) (racked (codes "ABT") (kind.Play 140 Across (word (codes "AT")))), racked (codes "ABH") (kind.Play 140 Across (word (codes "AH"))) ∷ [])
    ∷ (with_tiles (slip.Misread (misread.Played 0 letter_t letter_h)) (racked (codes "TTB") (kind.Play 140 Across (word (codes "TT")))), racked (codes "HTB") (kind.Play 140 Across (word (codes "HT"))) ∷ [])
    ∷ (with_tiles (slip.Misread (misread.Exchanged kind_of_tile.Blank (kind_of_tile.Letter letter_h))) (racked (codes "AB?") (kind.Exchange (tiles (codes "A?")))), racked (codes "ABH") (kind.Exchange (tiles (codes "AH"))) ∷ [])
    ∷ (with_tiles (slip.Misread (misread.Exchanged (kind_of_tile.Letter letter_t) kind_of_tile.Blank)) (racked (codes "ABT") kind.Pass), racked (codes "AB?") kind.Pass ∷ [])
    ∷ (with_tiles (slip.Misread (misread.Played 1 letter_t letter_h)) at_play, record at_play { kind = kind.Play 140 Across (word (codes "AH")) } ∷ [])
    ∷ [])
unfolding spliced letter_at counted
misread_twice = refl

-- ---- weights
weights : Agree (
    (weight_of slip.Repeated, 1)
    ∷ (weight_of (slip.Position (position.Further 0)), 3)
    ∷ (weight_of (slip.Tile tiles_of.Exchange (tile.Other kind_of_tile.Blank kind_of_tile.Blank)), 3)
    ∷ (weight_of (slip.Tile tiles_of.Exchange (tile.Extra kind_of_tile.Blank)), 2)
    ∷ (weight_of (slip.Tile tiles_of.Exchange (tile.Missing kind_of_tile.Blank)), 2)
    ∷ (weight_of (slip.Tile tiles_of.LastRack (tile.Extra kind_of_tile.Blank)), 4)
    ∷ (weight_of (slip.Misread (misread.Played 1 letter_t letter_h)), 4)
    ∷ (weight_of (slip.Misread (misread.Exchanged kind_of_tile.Blank (kind_of_tile.Letter letter_h))), 4)
    ∷ (weight_of (slip.Missing (line.Time First (negsuc 9) true)), 11)
    ∷ (weight_of (slip.Missing (line.Challenge First (pos 10) true)), 5)
    ∷ (weight_of (slip.Missing (line.Play First (record { at = 105; dir = Down; word = word (codes "AB") }))), 4)
    ∷ (weight_of (slip.Replayed (record { at = 105; dir = Down; word = word (codes "AB") })), 6)
    ∷ (weight_of slip.ExtraPass, 2)
    ∷ (weight_of slip.Extra, 7)
    ∷ [])
weights = refl
