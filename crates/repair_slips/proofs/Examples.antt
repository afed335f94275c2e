-- Lists of slips as the definitions give them, computed. Squares are numbered row by row from 1A, which is 0: 8E is 109, and 8H,
-- whose row and column are the same number, is 112.
use Rattle.std.proofs.Common.{◌≡◌, ℕ, ℤ, pos, negsuc, true, false, List, [], ◌∷◌, length, Some, None, refl}
use Rattle.std.specs.Prelude.{codes}
use Rattle.std.specs.List.{filter_map}
use Rattle.first_faults.proofs.Rows.{Agree}
use Rattle.ref_tiles.specs.declared.symbols.Symbol.{Symbol}
use Rattle.ref_tiles.specs.English.{english, english_premiums}
use Rattle.ref_tiles.specs.Counting.{counted}
use Rattle.ref_tiles.specs.Kinds.{kind_of}
use Rattle.ref_tiles.specs.Letters.{letter_at}
use Rattle.ref_tiles.specs.Limits.{most_tiles}
use Rattle.ref_board.specs.declared.directions.Dir.TheVariants.{Across, Down}
use Rattle.ref_board.specs.Cells.{empty_board}
use Rattle.gcg_read.specs.declared.events.Event.{Event}
use Rattle.gcg_read.specs.declared.events.EventKind.{EventKind}
use Rattle.gcg_read.specs.declared.events.EventKind.TheVariants as kind
use Rattle.gcg_read.specs.declared.events.Seat.{Seat}
use Rattle.gcg_read.specs.declared.events.Seat.TheVariants.{First}
use Rattle.gcg_read.specs.Texts.{symbols_of}
use Rattle.game_turns.specs.Tallies.{tally}
use Rattle.repair_changes.specs.declared.slips.Slip.TheVariants as slip
use Rattle.repair_changes.specs.declared.slips.PositionSlip.TheVariants as position
use Rattle.repair_changes.specs.declared.slips.SpellingSlip.TheVariants as spelling
use Rattle.repair_changes.specs.declared.slips.TilesOf.TheVariants as tiles_of
use Rattle.repair_slips.specs.Each.{lists_below}
use Rattle.repair_slips.specs.Positions.{elsewhere, on_line, interchanged, position_slips}
use Rattle.repair_slips.specs.Spellings.{symbol_slips, twisted_pair, other_symbols, extra_symbols, missing_symbols, twisted_symbols, spelling_slips}
use Rattle.repair_slips.specs.Tiles.{other_tiles, extra_tiles, missing_tiles, tile_slips}
use Rattle.repair_slips.specs.Amounts.{other_bonuses, other_penalties, other_numbers, exchanges}
use Rattle.repair_slips.specs.Laying.{laid_over}
use Rattle.repair_slips.specs.Misreadings.{misread_word, misread_exchange, misread_slips}
use Rattle.repair_slips.specs.Lines.{extra_line, swapped_lines, event_slips}
use Rattle.repair_slips.specs.MissingLines.{missing_exchanges, missing_penalties, missing_slips}
use Rattle.repair_slips.specs.Rests.{rest_tiles}
use Rattle.repair_slips.specs.Changes.{slips_by, changes}

-- the number of tiles of each kind among some letters
abbrev tiles : List ℕ → List ℕ
tiles letters = counted (filter_map kind_of letters)

abbrev word : List ℕ → List Symbol
word letters = symbols_of letters

-- an event on a line: its player, what happened, its score and the total
abbrev event_on : ℕ → Seat → EventKind → ℤ → ℤ → Event
event_on at player what score total = record { line = at; player = player; rack = None; kind = what; score = score; total = total }

abbrev pass : Event
pass = event_on 1 First kind.Pass (pos 0) (pos 0)

-- ---- lists of slips

-- a play that begins on 8E, one row and one column off: 7E, 9E, 8D and 8F
beside : Agree (
    (elsewhere Across 109 3, slip.Position (position.OneOff 108) ∷ [])
    ∷ (elsewhere Across 109 4, [])
    ∷ (elsewhere Across 109 14, slip.Position (position.Further 119) ∷ [])
    ∷ (elsewhere Down 109 6, slip.Position (position.OneOff 94) ∷ [])
    ∷ (interchanged 109, slip.Position position.Interchanged ∷ [])
    ∷ (interchanged 112, [])
    ∷ [])
unfolding elsewhere interchanged
beside = refl

-- the number of slips in a position, in a text, in tiles
many : Agree (
    (length (position_slips 109), 30)
    ∷ (length (position_slips 112), 29)
    ∷ (length (spelling_slips (word (codes "AT"))), 138)
    ∷ (length (spelling_slips (word (codes "A"))), 81)
    ∷ (length (spelling_slips (word (codes ".a"))), 137)
    ∷ (length (tile_slips tiles_of.Exchange (tiles (codes "A?"))), 81)
    ∷ (length (tile_slips tiles_of.LastRack (tiles (codes "ABCDEFG"))), 189)
    ∷ (length (other_bonuses english (pos 5)), 7)
    ∷ (length (other_penalties english (pos 5)), 20)
    ∷ (length (other_penalties english (negsuc 9)), 19)
    ∷ (length (other_numbers 3), 6)
    ∷ [])
unfolding position_slips on_line elsewhere interchanged lists_below spelling_slips other_symbols extra_symbols missing_symbols twisted_symbols twisted_pair symbol_slips letter_at tile_slips other_tiles extra_tiles missing_tiles counted other_bonuses other_penalties other_numbers english english_premiums most_tiles
many = refl

twisted : Agree (
    (twisted_symbols (word (codes "AT")), slip.Spelling (spelling.Twisted 0) ∷ [])
    ∷ (twisted_symbols (word (codes "AA")), [])
    ∷ (twisted_symbols (word (codes "Aa.")), slip.Spelling (spelling.Twisted 0) ∷ slip.Spelling (spelling.Twisted 1) ∷ [])
    ∷ [])
unfolding twisted_symbols twisted_pair lists_below letter_at
twisted = refl

-- the number of tiles that may be misread twice: 25 letters for each letter of the word that the rack has too, and not for a dot or a blank; 26 tiles for each
-- kind on the rack that is exchanged; none on a line that states no rack
misread_twice : Agree (
    (length (misread_word (tiles (codes "AENNTUV")) (word (codes "TANNEV"))), 150)
    ∷ (length (misread_word (tiles (codes "AT?")) (word (codes ".aTS"))), 25)
    ∷ (length (misread_word (tiles (codes "AT?")) (word (codes "t.a"))), 0)
    ∷ (length (misread_exchange (tiles (codes "AABT?")) (tiles (codes "AA?Z"))), 52)
    ∷ (length (misread_slips (record pass { rack = Some (tiles (codes "AB")); kind = kind.Exchange (tiles (codes "A")) })), 26)
    ∷ (length (misread_slips (record pass { kind = kind.Exchange (tiles (codes "A")) })), 0)
    ∷ (length (misread_slips (record pass { rack = Some (tiles (codes "AB")); kind = kind.ExchangeUnknown 1 })), 0)
    ∷ [])
unfolding misread_word misread_exchange lists_below letter_at counted
misread_twice = refl

-- tiles laid over a line whose second and third squares have a tile
laid : Agree (
    (laid_over (false ∷ true ∷ true ∷ false ∷ false ∷ []) (word (codes "AB")), word (codes "A..B"))
    ∷ (laid_over (true ∷ false ∷ true ∷ []) (word (codes "A")), word (codes ".A."))
    ∷ (laid_over (true ∷ false ∷ []) (word (codes "AB")), word (codes ".A"))
    ∷ [])
unfolding laid_over letter_at
laid = refl

-- a line that should not be there: a pass that repeats the line before it is named so, and only a different pass is distinguished
-- from other lines
too_many : Agree (
    (extra_line pass None, slip.ExtraPass ∷ [])
    ∷ (extra_line pass (Some (record pass { total = pos 5 })), slip.ExtraPass ∷ [])
    ∷ (extra_line pass (Some pass), slip.Repeated ∷ [])
    ∷ (extra_line (record pass { kind = kind.ExchangeUnknown 3 }) None, slip.Extra ∷ [])
    ∷ (extra_line (record pass { kind = kind.ExchangeUnknown 3 }) (Some pass), slip.Repeated ∷ [])
    ∷ [])
too_many = refl

-- a record of one pass: 8 other codes, 2 slips of any line, and 56 lines that may be missing before it and after it
of_a_pass : length (changes english (pass ∷ [])) ≡ 122
unfolding changes lists_below slips_by event_slips swapped_lines missing_slips missing_exchanges missing_penalties exchanges other_numbers rest_tiles english english_premiums most_tiles tally empty_board
of_a_pass = refl
