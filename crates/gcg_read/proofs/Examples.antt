-- Records and faults as the definitions give them, computed.
use Rattle.std.proofs.Common.{◌≡◌, ℕ, ℤ, pos, negsuc, List, [], ◌∷◌, ◌++◌, map, Option, Some, None, Result, Ok, Err, refl, replicate}
use Rattle.std.specs.Prelude.{codes}
use Rattle.std.specs.List.{filter_map}
use Rattle.first_faults.proofs.Rows.{Agree}
use Rattle.ref_tiles.specs.declared.kinds.Kind.{Kind}
use Rattle.ref_tiles.specs.Counting.{counted}
use Rattle.ref_tiles.specs.Letters.{letter_at}
use Rattle.ref_tiles.specs.Symbols.{byte_of}
use Rattle.ref_board.specs.declared.directions.Dir.TheVariants.{Across, Down}
use Rattle.gcg_read.specs.declared.faults.Why.{Why}
use Rattle.gcg_read.specs.declared.faults.Why.TheVariants as why
use Rattle.gcg_read.specs.declared.faults.ReadFault.{ReadFault}
use Rattle.gcg_read.specs.declared.events.Event.{Event}
use Rattle.gcg_read.specs.declared.events.EventKind.{EventKind}
use Rattle.gcg_read.specs.declared.events.EventKind.TheVariants as kind
use Rattle.gcg_read.specs.declared.events.Seat.{Seat}
use Rattle.gcg_read.specs.declared.events.Seat.TheVariants.{First, Second}
use Rattle.gcg_read.specs.declared.players.Players.{Players}
use Rattle.gcg_read.specs.declared.records.Record.{Record}
use Rattle.gcg_read.specs.Cutting.{lines_in, fields_of, head_of}
use Rattle.gcg_read.specs.Codes.{code_of, dashed_of, bracketed_of}
use Rattle.gcg_read.specs.EventLines.{scored_of, played_of, coded_of, event_of}
use Rattle.gcg_read.specs.Players.{no_player}
use Rattle.gcg_read.specs.Racks.{kind_of}
use Rattle.gcg_read.specs.Records.{no_record, entry_of, with_event, with_pragma, players_with, with_line, record_from, record_of}
use Rattle.gcg_read.specs.Pragmas.{names_of, naming_of}
use Rattle.gcg_read.specs.Texts.{symbols_of}

-- an event line, as its line, its player, its rack, what happened, its score and its total
abbrev event_on : ℕ → Seat → Option (List ℕ) → EventKind → ℤ → ℤ → Event
event_on line player rack what score total = record { line = line; player = player; rack = rack; kind = what; score = score; total = total }

abbrev only_a : Players
only_a = record { first = record { nick = codes "A"; full = [] }; second = no_player }

-- a play with a rack
word_play : record_of (codes ">A: DORWAAE 8E WORD +16 16")
    ≡ Ok (record {
      players = only_a;
      events =
          event_on 1 First (Some (2 ∷ 0 ∷ 0 ∷ 1 ∷ 1 ∷ 0 ∷ 0 ∷ 0 ∷ 0 ∷ 0 ∷ 0 ∷ 0 ∷ 0 ∷ 0 ∷ 1 ∷ 0 ∷ 0 ∷ 1 ∷ 0 ∷ 0 ∷ 0 ∷ 0 ∷ 1 ∷ 0 ∷ 0 ∷ 0 ∷ 0 ∷ []))
          (kind.Play 109 Across (symbols_of (codes "WORD"))) (pos 16) (pos 16)
          ∷ [];
    })
unfolding record_of record_from with_line with_event with_pragma naming_of names_of players_with entry_of head_of fields_of lines_in event_of played_of scored_of coded_of dashed_of bracketed_of counted letter_at
word_play = refl

abbrev fails_as : ℕ → Why → Result Record ReadFault
fails_as line w = Err (record { line = line; why = w })

-- the bytes of a text's symbols are those that were read
text_bytes : map byte_of (symbols_of (codes "WOrD.z")) ≡ codes "WOrD.z"
unfolding letter_at
text_bytes = refl

-- an empty record
nothing : record_of [] ≡ Ok no_record
unfolding record_of record_from with_line lines_in
nothing = refl

-- the first fault of each line: the first colon ends the nickname
first_faults : Agree (
    (record_of (codes ">A B: 8E WORD +16 16"), fails_as 1 why.NoColon)
    ∷ (record_of (codes ">A: 8E"), fails_as 1 why.Fields)
    ∷ (record_of (codes ">A: 8E WORD +16"), fails_as 1 why.Code)
    ∷ (record_of (codes ">A: AAAAAAAA - +0 0"), fails_as 1 why.Rack)
    ∷ (record_of (codes ">A: 16A AT +4 4"), fails_as 1 why.Position)
    ∷ (record_of (codes ">A: 8E W0RD +16 16"), fails_as 1 why.Word)
    ∷ (record_of (codes ">A: 8E WORD +x 16"), fails_as 1 why.Number)
    ∷ (record_of (codes ">A: - +1234567 0"), fails_as 1 why.Number)
    ∷ (record_of (codes ">A 8E WORD +16 16"), fails_as 1 why.NoColon)
    ∷ (record_of (codes ">A: A 8A AT +4 4 4"), fails_as 1 why.Fields)
    ∷ (record_of (codes ">A: 8E WORD +16 1000000"), fails_as 1 why.Number)
    ∷ (record_of (codes ">A: a 16A A- x 0"), fails_as 1 why.Rack)
    ∷ (record_of (codes ">A: 8A ABCDEFGHIJKLMNOP +4 4"), fails_as 1 why.Word)
    ∷ (record_of (codes ">A: 8A () +4 4"), fails_as 1 why.Word)
    ∷ (record_of (codes ">B:: 8E WORD +16 16"), fails_as 1 why.Rack)
    ∷ [])
unfolding record_of record_from with_line with_event entry_of head_of fields_of lines_in with_pragma naming_of names_of players_with event_of played_of scored_of coded_of dashed_of bracketed_of counted letter_at
first_faults = refl

-- A mark at the front, lines that are ignored and are counted, a CR at each end, tabs, a column before its row,
-- brackets, a minus sign and leading zeros; and then a third nickname.
abbrev good_lines : List ℕ
good_lines = (0xef ∷ 0xbb ∷ 0xbf ∷ codes "#player1 X") ++ (13 ∷ 10 ∷ 10 ∷ codes "> X : 08E WORD 16 16") ++ (13 ∷ 10 ∷ codes ">B:") ++ (9 ∷ codes "? a15")
    ++ (9 ∷ 32 ∷ codes "(W)o.(rd) -007 -0 ") ++ (13 ∷ [])

two_lines : record_of good_lines
    ≡ Ok (record {
      players = record { first = record { nick = codes "X"; full = [] }; second = record { nick = codes "B"; full = [] } };
      events =
          event_on 3 First None (kind.Play 109 Across (symbols_of (codes "WORD"))) (pos 16) (pos 16)
          ∷ event_on 4 Second (Some (0 ∷ 0 ∷ 0 ∷ 0 ∷ 0 ∷ 0 ∷ 0 ∷ 0 ∷ 0 ∷ 0 ∷ 0 ∷ 0 ∷ 0 ∷ 0 ∷ 0 ∷ 0 ∷ 0 ∷ 0 ∷ 0 ∷ 0 ∷ 0 ∷ 0 ∷ 0 ∷ 0 ∷ 0 ∷ 0 ∷ 1 ∷ []))
          (kind.Play 210 Down (symbols_of (codes "Wo.rd"))) (negsuc 6) (pos 0)
          ∷ [];
    })
unfolding record_of record_from with_line with_event with_pragma naming_of names_of players_with entry_of head_of fields_of lines_in event_of played_of scored_of coded_of dashed_of bracketed_of counted letter_at
two_lines = refl

third_player : record_of (good_lines ++ (10 ∷ codes ">C: x")) ≡ fails_as 5 why.ThirdPlayer
unfolding record_of record_from with_line with_event with_pragma naming_of names_of players_with entry_of head_of fields_of lines_in event_of played_of scored_of coded_of dashed_of bracketed_of counted letter_at
third_player = refl

-- an event after the last one that a record may have
too_many : (r : Record) (line : ℕ) (text : List ℕ) (e : Event) → entry_of (record r { events = replicate 1000 e }) line text ≡ Err why.TooManyEvents
unfolding entry_of
too_many r line text e = refl

-- ---- codes

abbrev kinds_of : List ℕ → List Kind
kinds_of bytes = filter_map kind_of bytes

a_pass : code_of (codes "-") ≡ Some kind.Pass
unfolding dashed_of
a_pass = refl

a_withdrawal : code_of (codes "--") ≡ Some kind.Withdraw
unfolding dashed_of
a_withdrawal = refl

unknown_tiles : code_of (codes "-7") ≡ Some (kind.ExchangeUnknown 7)
unfolding dashed_of
unknown_tiles = refl

eight_unknown : code_of (codes "-8") ≡ None
unfolding dashed_of
eight_unknown = refl

known_tiles : code_of (codes "-?A") ≡ Some (kind.Exchange (counted (kinds_of (codes "A?"))))
unfolding dashed_of counted letter_at
known_tiles = refl

a_challenge : code_of (codes "(challenge)") ≡ Some kind.Challenge
unfolding bracketed_of
a_challenge = refl

a_penalty : code_of (codes "(time)") ≡ Some kind.Time
unfolding bracketed_of letter_at
a_penalty = refl

last_tiles : code_of (codes "(AB?)") ≡ Some (kind.LastRack (counted (kinds_of (codes "AB?"))))
unfolding bracketed_of counted letter_at
last_tiles = refl

no_last_tiles : code_of (codes "()") ≡ None
unfolding bracketed_of
no_last_tiles = refl

open_bracket : code_of (codes "(AB") ≡ None
open_bracket = refl

-- ---- pragmas

abbrev first_named : List ℕ → List ℕ → Record
first_named nick full = record { players = record { first = record { nick = nick; full = full }; second = no_player }; events = [] }

full_name : record_of (codes "#player1 A  Ann  Lee ") ≡ Ok (first_named (codes "A") (codes "Ann  Lee"))
unfolding record_of record_from with_line with_event with_pragma naming_of names_of players_with entry_of head_of fields_of lines_in event_of played_of scored_of coded_of dashed_of bracketed_of counted letter_at
full_name = refl

no_full_name : record_of (codes "#player1   A") ≡ Ok (first_named (codes "A") [])
unfolding record_of record_from with_line with_event with_pragma naming_of names_of players_with entry_of head_of fields_of lines_in event_of played_of scored_of coded_of dashed_of bracketed_of counted letter_at
no_full_name = refl

second_pragma : record_of (codes "#player1 A Ann" ++ 10 ∷ codes "#player1 B Bo") ≡ Ok (first_named (codes "A") (codes "Ann"))
unfolding record_of record_from with_line with_event with_pragma naming_of names_of players_with entry_of head_of fields_of lines_in event_of played_of scored_of coded_of dashed_of bracketed_of counted letter_at
second_pragma = refl

other_nickname : record_of (codes "#player2 A" ++ 10 ∷ codes "#player1 A") ≡ fails_as 2 why.ThirdPlayer
unfolding record_of record_from with_line with_event with_pragma naming_of names_of players_with entry_of head_of fields_of lines_in event_of played_of scored_of coded_of dashed_of bracketed_of counted letter_at
other_nickname = refl

colon_in_nickname : record_of (codes "#player1 A:B C") ≡ Ok no_record
unfolding record_of record_from with_line with_event with_pragma naming_of names_of players_with entry_of head_of fields_of lines_in event_of played_of scored_of coded_of dashed_of bracketed_of counted letter_at
colon_in_nickname = refl

no_blank : record_of (codes "#player1X A") ≡ Ok no_record
unfolding record_of record_from with_line with_event with_pragma naming_of names_of players_with entry_of head_of fields_of lines_in event_of played_of scored_of coded_of dashed_of bracketed_of counted letter_at
no_blank = refl

bare_pragma : record_of (codes "#player1") ≡ Ok no_record
unfolding record_of record_from with_line with_event with_pragma naming_of names_of players_with entry_of head_of fields_of lines_in event_of played_of scored_of coded_of dashed_of bracketed_of counted letter_at
bare_pragma = refl
