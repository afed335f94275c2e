-- A record after a change.
use Rattle.std.specs.Prelude.{ℕ, ℤ, pos, nat_le, ◌&&◌, List, [], ◌∷◌, map, reverse, length, Option, None, if◌then◌else◌}
use Rattle.std.specs.Option.{option_map}
use Rattle.ref_tiles.specs.declared.kinds.Kind.TheVariants as kind_of_tile
use Rattle.ref_tiles.specs.declared.symbols.Symbol.{Symbol}
use Rattle.ref_tiles.specs.declared.symbols.Symbol.TheVariants as symbol
use Rattle.ref_board.specs.declared.directions.Dir.{Dir}
use Rattle.ref_board.specs.Lines.{other_dir}
use Rattle.ref_board.specs.Cells.{mirrored}
use Rattle.gcg_read.specs.Players.{other_seat}
use Rattle.gcg_read.specs.declared.events.Event.{Event}
use Rattle.gcg_read.specs.declared.events.EventKind.{EventKind}
use Rattle.gcg_read.specs.declared.events.EventKind.TheVariants as kind
use Rattle.gcg_read.specs.declared.events.Seat.{Seat}
use Rattle.repair_changes.specs.declared.slips.Change.{Change}
use Rattle.repair_changes.specs.declared.slips.Slip.{Slip}
use Rattle.repair_changes.specs.declared.slips.Slip.TheVariants as slip
use Rattle.repair_changes.specs.declared.slips.PositionSlip.{PositionSlip}
use Rattle.repair_changes.specs.declared.slips.PositionSlip.TheVariants as position
use Rattle.repair_changes.specs.declared.slips.SpellingSlip.{SpellingSlip}
use Rattle.repair_changes.specs.declared.slips.SpellingSlip.TheVariants as spelling
use Rattle.repair_changes.specs.declared.slips.TilesOf.{TilesOf}
use Rattle.repair_changes.specs.declared.slips.TilesOf.TheVariants as tiles_of
use Rattle.repair_changes.specs.declared.slips.TileSlip.{TileSlip}
use Rattle.repair_changes.specs.declared.slips.TileSlip.TheVariants as tile
use Rattle.repair_changes.specs.declared.slips.Misread.{Misread}
use Rattle.repair_changes.specs.declared.slips.Misread.TheVariants as misread
use Rattle.repair_changes.specs.declared.slips.CodeSlip.{CodeSlip}
use Rattle.repair_changes.specs.declared.slips.CodeSlip.TheVariants as code
use Rattle.repair_changes.specs.declared.slips.RightPlay.{RightPlay}
use Rattle.repair_changes.specs.declared.slips.MissingLine.{MissingLine}
use Rattle.repair_changes.specs.declared.slips.MissingLine.TheVariants as line
use Rattle.repair_changes.specs.Splices.{spliced}
use Rattle.repair_changes.specs.TileCounts.{one_less, one_more}

-- ---- a play

-- the square on which it begins
abbrev pub right_square : PositionSlip → ℕ → ℕ
right_square position.OtherDirection at = at
right_square (position.OneOff right) at = right
right_square (position.Further right) at = right
right_square position.Interchanged at = mirrored at

-- its direction
abbrev pub right_dir : PositionSlip → Dir → Dir
right_dir position.OtherDirection d = other_dir d
right_dir other d = d

-- the place of a text at which it is wrong, and the number of wrong symbols from there on
abbrev pub wrong_place : SpellingSlip → ℕ
wrong_place (spelling.OtherTile place right) = place
wrong_place (spelling.Dot place) = place
wrong_place (spelling.Letter place right) = place
wrong_place (spelling.OtherLetter place right) = place
wrong_place (spelling.Extra place) = place
wrong_place (spelling.MissingDot place) = place
wrong_place (spelling.MissingLetter place right) = place
wrong_place (spelling.Twisted place) = place
wrong_place (spelling.Laid word) = 0

abbrev pub wrong_symbols : SpellingSlip → ℕ
wrong_symbols (spelling.MissingDot place) = 0
wrong_symbols (spelling.MissingLetter place right) = 0
wrong_symbols (spelling.Twisted place) = 2
wrong_symbols (spelling.Laid word) = 0
wrong_symbols other = 1

-- what should be in place of these symbols
abbrev pub right_symbols : SpellingSlip → List Symbol → List Symbol
right_symbols (spelling.OtherTile place right) there = right ∷ []
right_symbols (spelling.Dot place) there = symbol.Dot ∷ []
right_symbols (spelling.Letter place right) there = symbol.Letter right ∷ []
right_symbols (spelling.OtherLetter place right) there = right ∷ []
right_symbols (spelling.Extra place) there = []
right_symbols (spelling.MissingDot place) there = symbol.Dot ∷ []
right_symbols (spelling.MissingLetter place right) there = symbol.Letter right ∷ []
right_symbols (spelling.Twisted place) there = reverse there
right_symbols (spelling.Laid word) there = []

-- a text has 1 to 15 symbols; other symbols do not make one, and the text stays
abbrev pub text_or : List Symbol → List Symbol → List Symbol
text_or right word = if nat_le 1 (length right) && nat_le (length right) 15 then right else word

-- the right text
abbrev pub right_word : SpellingSlip → List Symbol → List Symbol
right_word (spelling.Laid laid) word = laid
right_word s word = text_or (spliced (wrong_place s) (wrong_symbols s) (right_symbols s) word) word

-- ---- tiles

abbrev pub right_tiles : TileSlip → List ℕ → List ℕ
right_tiles (tile.Other written right) counts = one_more (one_less counts written) right
right_tiles (tile.Extra written) counts = one_less counts written
right_tiles (tile.Missing right) counts = one_more counts right

-- ---- an event

abbrev pub code_kind : CodeSlip → EventKind
code_kind code.Pass = kind.Pass
code_kind (code.Exchange n) = kind.ExchangeUnknown n
code_kind code.Withdrawal = kind.Withdraw

abbrev pub right_position : PositionSlip → EventKind → EventKind
right_position s (kind.Play at d word) = kind.Play (right_square s at) (right_dir s d) word
right_position s other = other

abbrev pub right_spelling : SpellingSlip → EventKind → EventKind
right_spelling s (kind.Play at d word) = kind.Play at d (right_word s word)
right_spelling s other = other

-- a play that is a different one altogether
abbrev pub right_play : RightPlay → EventKind → EventKind
right_play right (kind.Play at d word) = kind.Play right.at right.dir right.word
right_play right other = other

-- the right tiles of an exchange or of a last rack
abbrev pub right_lot : TilesOf → TileSlip → EventKind → EventKind
right_lot tiles_of.Exchange s (kind.Exchange counts) = kind.Exchange (right_tiles s counts)
right_lot tiles_of.LastRack s (kind.LastRack counts) = kind.LastRack (right_tiles s counts)
right_lot of s other = other

-- one tile that is misread twice, on the stated rack
abbrev pub misread_on_rack : Misread → TileSlip
misread_on_rack (misread.Played place written right) = tile.Other (kind_of_tile.Letter written) (kind_of_tile.Letter right)
misread_on_rack (misread.Exchanged written right) = tile.Other written right

-- and in the word of the play, or among the exchanged tiles
abbrev pub right_misread : Misread → EventKind → EventKind
right_misread (misread.Played place written right) what = right_spelling (spelling.OtherLetter place (symbol.Letter right)) what
right_misread (misread.Exchanged written right) what = right_lot tiles_of.Exchange (tile.Other written right) what

-- what happened
abbrev pub right_kind : Slip → EventKind → EventKind
right_kind (slip.Position s) what = right_position s what
right_kind (slip.Spelling s) what = right_spelling s what
right_kind (slip.Replayed right) what = right_play right what
right_kind (slip.Tile of s) what = right_lot of s what
right_kind (slip.Misread m) what = right_misread m what
right_kind (slip.Number n) what = kind.ExchangeUnknown n
right_kind (slip.Code s) what = code_kind s
right_kind (slip.Rest counts) what = kind.LastRack counts
right_kind other what = what

-- the stated rack
abbrev pub right_rack : Slip → Option (List ℕ) → Option (List ℕ)
right_rack (slip.Tile tiles_of.Rack s) rack = option_map (right_tiles s) rack
right_rack (slip.Misread m) rack = option_map (right_tiles (misread_on_rack m)) rack
right_rack slip.NoRack rack = None
right_rack other rack = rack

-- the player whose line it is
abbrev pub right_player : Slip → Seat → Seat
right_player slip.OtherPlayer player = other_seat player
right_player other player = player

-- the score, if it is one that the rules do not give
abbrev pub right_amount : Slip → ℤ → ℤ
right_amount (slip.Amount right) score = right
right_amount other score = score

-- the event without the slip
abbrev pub right_event : Slip → Event → Event
right_event s e =
    record {
      line = e.line;
      player = right_player s e.player;
      rack = right_rack s e.rack;
      kind = right_kind s e.kind;
      score = right_amount s e.score;
      total = e.total;
    }

-- ---- a missing line

abbrev pub missing_player : MissingLine → Seat
missing_player (line.Play player play) = player
missing_player (line.Pass player) = player
missing_player (line.Exchange player n) = player
missing_player (line.Time player score early) = player
missing_player (line.Withdrawal player) = player
missing_player (line.Challenge player score several) = player
missing_player (line.Rest player counts) = player

abbrev pub missing_kind : MissingLine → EventKind
missing_kind (line.Play player play) = kind.Play play.at play.dir play.word
missing_kind (line.Pass player) = kind.Pass
missing_kind (line.Exchange player n) = kind.ExchangeUnknown n
missing_kind (line.Time player score early) = kind.Time
missing_kind (line.Withdrawal player) = kind.Withdraw
missing_kind (line.Challenge player score several) = kind.Challenge
missing_kind (line.Rest player counts) = kind.LastRack counts

abbrev pub missing_score : MissingLine → ℤ
missing_score (line.Time player score early) = score
missing_score (line.Challenge player score several) = score
missing_score other = pos 0

-- The event of a missing line. It is not on a line of the record, which is line 0, and no number of it is written except an amount
-- that the rules do not give.
abbrev pub missing_event : MissingLine → Event
missing_event m = record { line = 0; player = missing_player m; rack = None; kind = missing_kind m; score = missing_score m; total = pos 0 }

-- ---- the record

-- the number of events that a slip concerns, from its place on
abbrev pub wrong_events : Slip → ℕ
wrong_events slip.Swapped = 2
wrong_events slip.SwappedOver = 3
wrong_events (slip.Missing m) = 0
wrong_events other = 1

-- what should be in place of these events
abbrev pub right_events : Slip → List Event → List Event
right_events slip.Repeated there = []
right_events slip.ExtraPass there = []
right_events slip.Extra there = []
right_events slip.Swapped there = reverse there
right_events slip.SwappedOver there = reverse there
right_events (slip.Missing m) there = missing_event m ∷ []
right_events s there = map (right_event s) there

-- how many these are
abbrev pub lines_there : Slip → ℕ
lines_there slip.Repeated = 0
lines_there slip.ExtraPass = 0
lines_there slip.Extra = 0
lines_there (slip.Missing m) = 1
lines_there other = wrong_events other

-- The events of a record after a change. Those before and after it stay as they are.
abbrev pub applied : Change → List Event → List Event
applied change events = spliced change.place (wrong_events change.slip) (right_events change.slip) events
