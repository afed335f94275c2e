-- Event lines as they are written, read again.
use Rattle.std.proofs.Common.{◌≡◌, ℕ, ◌+◌, ◌<◌, ◌≤◌, Bool, true, false, ltb, List, [], ◌∷◌, ◌++◌, length, map, nat_le, Some, Result, Ok, if◌then◌else◌, arith, sym, ap, refl, ◌∙◌}
use Rattle.std.specs.List.{position, position_or_len}
use Rattle.std.specs.Str.{bytes_eq}
use Rattle.std.proofs.lemmas.List.{append-nil, append_assoc, length-append}
use Rattle.std.proofs.lemmas.Slice.Eq.{bytes_eq-Decides}
use Rattle.std.proofs.lemmas.Bool.Decides.{nat_tests}
use Rattle.gcg_read.specs.declared.faults.ReadFault.{ReadFault}
use Rattle.gcg_read.specs.declared.events.Event.{Event}
use Rattle.gcg_read.specs.declared.events.Seat.{Seat}
use Rattle.gcg_read.specs.declared.events.Seat.TheVariants.{First, Second}
use Rattle.gcg_read.specs.declared.players.Player.{Player}
use Rattle.gcg_read.specs.declared.players.Players.{Players}
use Rattle.gcg_read.specs.declared.records.Record.{Record}
use Rattle.gcg_read.specs.Cutting.{is_colon, head_of}
use Rattle.gcg_read.specs.Players.{player_of, is_unnamed, with_nick, seat_for, seated}
use Rattle.gcg_read.specs.Records.{entry_of, with_event, with_line, record_from}
use Rattle.gcg_write.specs.Normal.{rack_text, event_text_of, event_line}
use Rattle.gcg_write.specs.Rounds.{renumbered}
use Rattle.gcg_write.proofs.Each.{Each}
use Rattle.gcg_write.proofs.Splitting.{first_place, field_one}
use Rattle.gcg_write.proofs.Parts.{take_front, drop_more}
use Rattle.gcg_write.proofs.Entries.{IsEvent, event_again}
use Rattle.gcg_write.proofs.Names.{IsNickByte, nick_no_blank, nick_no_colon, ArePlayers, line_read}

-- ---- the nickname

position_first : (p : ℕ → Bool) (text : List ℕ) (i : ℕ) → position_or_len p text ≡ i → i < length text → position p text ≡ Some i
position_first p text i e h =
    let inside : ltb (position_or_len p text) (length text) ≡ true = grind (arith, nat_tests) in
    rw (inside, e) refl

pub head_again : (nick after : List ℕ) → 0 < length nick → Each IsNickByte nick → head_of (nick ++ 58 ∷ after) ≡ Some (record { nick = nick; after = after })
unfolding head_of
head_again nick after some h =
    let text = nick ++ 58 ∷ after in
    let place = first_place is_colon nick 58 after (nick_no_colon nick h) refl in
    let inside : length nick < length text = omega (arith, length-append nick (58 ∷ after)) in
    let found = position_first is_colon text (length nick) place inside in
    rw (found, place, take_front nick (58 ∷ after), drop_more nick 58 after, field_one nick some (nick_no_blank nick h)) refl

-- ---- the seat

pub same_bytes : (xs : List ℕ) → bytes_eq xs xs ≡ true
same_bytes xs = let decides = bytes_eq-Decides xs xs in decides.1 refl

pub seat_again : (players : Players) (seat : Seat) → ArePlayers players → 0 < length (player_of players seat).nick
    → seat_for players (player_of players seat).nick ≡ Some seat
seat_again players First h some = rw (same_bytes players.first.nick) refl
seat_again players Second h some = rw (h.apart some, same_bytes players.second.nick) refl

kept : (p : Player) (nick : List ℕ) → 0 < length p.nick → with_nick p nick ≡ p
kept p nick some =
    let named : is_unnamed p ≡ false = grind (arith, nat_tests) in
    ap (λ (b : Bool). if b then record p { nick = nick } else p) named

pub seated_again : (players : Players) (seat : Seat) (nick : List ℕ) → 0 < length (player_of players seat).nick → seated players seat nick ≡ players
seated_again players First nick some = ap (λ (p : Player). record players { first = p }) (kept players.first nick some)
seated_again players Second nick some = ap (λ (p : Player). record players { second = p }) (kept players.second nick some)

-- ---- the line of an event

-- an event of a player who has a nickname
abbrev pub IsOf : Players → Event → Type 0
IsOf players e = IsEvent e × (0 < length (player_of players e.player).nick)

pub tail_is : (nick rack text : List ℕ) → nick ++ 58 ∷ 32 ∷ [] ++ rack ++ text ≡ nick ++ 58 ∷ (32 ∷ (rack ++ text))
tail_is nick rack text = append_assoc (nick ++ 58 ∷ 32 ∷ []) rack text ∙ append_assoc nick (58 ∷ 32 ∷ []) (rack ++ text)

pub nick_in : (players : Players) (seat : Seat) → ArePlayers players → Each IsNickByte (player_of players seat).nick
nick_in players First h = h.first.nick
nick_in players Second h = h.second.nick

entry_again : (players : Players) (done : List Event) (n : ℕ) (e : Event) → ArePlayers players → IsOf players e → length done < 1000
    → entry_of (record { players = players; events = done }) n ((player_of players e.player).nick ++ 58 ∷ (32 ∷ (rack_text e.rack ++ event_text_of e)))
    ≡ Ok (record { nick = (player_of players e.player).nick; event = record e { line = n } })
unfolding entry_of
entry_again players done n e h own room =
    let nick = (player_of players e.player).nick in
    let rest = 32 ∷ (rack_text e.rack ++ event_text_of e) in
    let few : nat_le 1000 (length done) ≡ false = grind (arith, nat_tests) in
    rw (
      few,
      head_again nick rest own.1 (nick_in players e.player h),
      seat_again players e.player h own.1,
      event_again (record { line = n; player = e.player }) e own.0,
    )
    refl

event_line_again : (players : Players) (done : List Event) (n : ℕ) (e : Event) → ArePlayers players → IsOf players e → length done < 1000
    → with_line (record { players = players; events = done }) n (event_line players e)
    ≡ Ok (record { players = players; events = done ++ record e { line = n } ∷ [] })
unfolding with_line with_event event_line
event_line_again players done n e h own room =
    let nick = (player_of players e.player).nick in
    let so_far : Record = record { players = players; events = done } in
    ap (with_event so_far n) (tail_is nick (rack_text e.rack) (event_text_of e))
    ∙ rw (entry_again players done n e h own room, seated_again players e.player nick own.1) refl

-- the lines of events, and an empty one after them
pub events_again : (players : Players) (done events : List Event) (n : ℕ) → ArePlayers players → Each (IsOf players) events
    → length done + length events ≤ 1000
    → record_from (record { players = players; events = done }) n (map (event_line players) events ++ [] ∷ [])
    ≡ Ok (record { players = players; events = done ++ renumbered n events })
unfolding record_from with_line
events_again players done [] n h own room = ap (λ (events : List Event). let r : Result Record ReadFault = Ok (record { players = players; events = events }) in r) (sym (append-nil done))
events_again players done (e ∷ events) n h own room =
    let here : Event = record e { line = n } in
    line_read (record { players = players; events = done }) (record { players = players; events = done ++ here ∷ [] }) n (event_line players e)
    (map (event_line players) events ++ [] ∷ []) (event_line_again players done n e h own.0 (omega arith))
    ∙ events_again players (done ++ here ∷ []) events (n + 1) h own.1 (omega (arith, length-append done (here ∷ [])))
    ∙ ap (λ (all : List Event). let r : Result Record ReadFault = Ok (record { players = players; events = all }) in r) (append_assoc done (here ∷ []) (renumbered (n + 1) events))
