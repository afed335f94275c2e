-- Normal forms worked out by hand.
use Rattle.std.proofs.Common.{◌≡◌, ℕ, List, [], ◌∷◌, Some, None, pos, negsuc, refl}
use Rattle.std.specs.Prelude.{codes}
use Rattle.std.specs.Fmt.{digits}
use Rattle.ref_board.specs.declared.directions.Dir.TheVariants.{Across, Down}
use Rattle.ref_tiles.specs.Letters.{letter_at}
use Rattle.gcg_read.specs.declared.events.Event.{Event}
use Rattle.gcg_read.specs.declared.events.EventKind.TheVariants as kind
use Rattle.gcg_read.specs.declared.events.Seat.TheVariants.{First, Second}
use Rattle.gcg_read.specs.declared.players.Players.{Players}
use Rattle.gcg_read.specs.Texts.{symbols_of}
use Rattle.gcg_write.specs.Fields.{letters_to, kind_text}
use Rattle.gcg_write.specs.Normal.{event_text_of, event_line, player_lines, normal_of}

-- A, A, D, E, O, R and W
abbrev rack : List ℕ
rack = 2 ∷ 0 ∷ 0 ∷ 1 ∷ 1 ∷ 0 ∷ 0 ∷ 0 ∷ 0 ∷ 0 ∷ 0 ∷ 0 ∷ 0 ∷ 0 ∷ 1 ∷ 0 ∷ 0 ∷ 1 ∷ 0 ∷ 0 ∷ 0 ∷ 0 ∷ 1 ∷ 0 ∷ 0 ∷ 0 ∷ 0 ∷ []

-- Z and two blanks
abbrev blanks : List ℕ
blanks = 0 ∷ 0 ∷ 0 ∷ 0 ∷ 0 ∷ 0 ∷ 0 ∷ 0 ∷ 0 ∷ 0 ∷ 0 ∷ 0 ∷ 0 ∷ 0 ∷ 0 ∷ 0 ∷ 0 ∷ 0 ∷ 0 ∷ 0 ∷ 0 ∷ 0 ∷ 0 ∷ 0 ∷ 0 ∷ 1 ∷ 2 ∷ []

abbrev players : Players
players = record { first = record { nick = codes "A"; full = codes "Ann Lee" }; second = record { nick = codes "Bo"; full = [] } }

abbrev play : Event
play = record { line = 7; player = First; rack = Some rack; kind = kind.Play 109 Across (symbols_of (codes "WORD")); score = pos 16; total = pos 16 }

abbrev last : Event
last = record { line = 9; player = Second; rack = None; kind = kind.LastRack blanks; score = negsuc 9; total = negsuc 9 }

play_line : event_line players play ≡ codes ">A: AADEORW 8E WORD +16 16"
unfolding event_line event_text_of kind_text letters_to letter_at digits
play_line = refl

last_line : event_line players last ≡ codes ">Bo: (Z??) -10 -10"
unfolding event_line event_text_of kind_text letters_to digits
last_line = refl

down_text : event_text_of (record play { kind = kind.Play 224 Down (symbols_of (codes ".rD")); score = pos 0; total = pos 0 }) ≡ codes "O15 .rD +0 0"
unfolding event_text_of kind_text letter_at digits
down_text = refl

whole : normal_of (record { players = players; events = play ∷ last ∷ [] })
    ≡ codes "#player1 A Ann Lee\n#player2 Bo\n>A: AADEORW 8E WORD +16 16\n>Bo: (Z??) -10 -10\n"
unfolding normal_of player_lines event_line event_text_of kind_text letters_to letter_at digits
whole = refl
