-- What may be read as a record.
use Rattle.std.proofs.Common.{◌≡◌, ℕ, suc, ◌+◌, ◌-◌, ◌<◌, ◌≤◌, Bool, true, false, not, cond, ◌==◌, eqb, List, [], ◌∷◌, ◌++◌, length, take, map, nat_lt, nat_le, Option, Some, None, is_some, Ok, Err, if◌then◌else◌, arith, sym, ap, subst, refl, ◌∙◌, inl, inr}
use Rattle.std.specs.List.{position, position_or_len, slice_split, onto_first, filter, list_any, ends_with, before_first, after_first}
use Rattle.std.specs.Option.{ok_or}
use Rattle.std.specs.Str.{bytes_eq}
use Rattle.std.proofs.lemmas.List.{length-append}
use Rattle.std.proofs.lemmas.Slice.Eq.{bytes_eq-Decides}
use Rattle.std.proofs.lemmas.Bool.Decides.{nat_tests}
use Rattle.gcg_read.specs.declared.faults.Why.TheVariants as why
use Rattle.gcg_read.specs.declared.events.Event.{Event}
use Rattle.gcg_read.specs.declared.events.Seat.{Seat}
use Rattle.gcg_read.specs.declared.events.Seat.TheVariants.{First, Second}
use Rattle.gcg_read.specs.declared.event_lines.Heading.{Heading}
use Rattle.gcg_read.specs.declared.players.Player.{Player}
use Rattle.gcg_read.specs.declared.players.Players.{Players}
use Rattle.gcg_read.specs.declared.records.Record.{Record}
use Rattle.gcg_read.specs.Faults.{◌>>=◌, on_line}
use Rattle.gcg_read.specs.Cutting.{Named, is_blank, is_feed, is_colon, is_filled, without_mark, without_return, lines_in, lines_of, fields_of, named_by, head_of}
use Rattle.gcg_read.specs.Players.{player_of, other_seat, with_player, is_unnamed, seat_for, with_nick, seated}
use Rattle.gcg_read.specs.Pragmas.{Naming, front_trimmed, trimmed, is_nick, seat_named, names_of, naming_of}
use Rattle.gcg_read.specs.EventLines.{event_of}
use Rattle.gcg_read.specs.Records.{no_record, NamedEvent, entry_of, with_event, players_with, with_naming, with_pragma, with_line, record_from, record_of}
use Rattle.gcg_write.proofs.Inversions.{both, first_of_two, second_of_two, neither, not_true, chosen, chosen_else, one_of, some_same, passed, chained, stepped, given, on_its_line, either_of, ok_same}
use Rattle.gcg_write.proofs.Each.{Each, each_append, each_weaken, each_take, each_drop}
use Rattle.gcg_write.proofs.Splitting.{Fails}
use Rattle.gcg_write.proofs.Entries.{IsEvent, event_read}
use Rattle.gcg_write.proofs.Trims.{trimmed_twice}
use Rattle.gcg_write.proofs.Names.{IsNickByte, IsPlayer, ArePlayers, two}
use Rattle.gcg_write.proofs.EventReadings.{IsOf}
use Rattle.gcg_write.proofs.Records.{IsRecord}

-- ---- parts of a text

onto_each : (P : ℕ → Type 0) (x : ℕ) (parts : List (List ℕ)) → P x → Each (Each P) parts → Each (Each P) (onto_first x parts)
onto_each P x [] h k = ((h, tt), tt)
onto_each P x (part ∷ parts) h k = ((h, k.0), k.1)

split_step : (P : ℕ → Type 0) (p : ℕ → Bool) (b : Bool) (x : ℕ) (xs : List ℕ) → P x → Each (Each P) (slice_split p xs)
    → Each (Each P) (cond b ([] ∷ slice_split p xs) (onto_first x (slice_split p xs)))
split_step P p true x xs h k = (tt, k)
split_step P p false x xs h k = onto_each P x (slice_split p xs) h k

-- what holds for each byte holds for each byte of each part
split_each : (P : ℕ → Type 0) (p : ℕ → Bool) (xs : List ℕ) → Each P xs → Each (Each P) (slice_split p xs)
split_each P p [] h = (tt, tt)
split_each P p (x ∷ xs) h = split_step P p (p x) x xs h.0 (split_each P p xs h.1)

apart_step : (p : ℕ → Bool) (b : Bool) (x : ℕ) (xs : List ℕ) → p x ≡ b → Each (Each (Fails p)) (slice_split p xs)
    → Each (Each (Fails p)) (cond b ([] ∷ slice_split p xs) (onto_first x (slice_split p xs)))
apart_step p true x xs e k = (tt, k)
apart_step p false x xs e k = onto_each (Fails p) x (slice_split p xs) e k

-- no part has a byte at which the text is cut
split_apart : (p : ℕ → Bool) (xs : List ℕ) → Each (Each (Fails p)) (slice_split p xs)
split_apart p [] = (tt, tt)
split_apart p (x ∷ xs) = apart_step p (p x) x xs refl (split_apart p xs)

before_step : (p : ℕ → Bool) (b : Bool) (x : ℕ) (xs : List ℕ) → p x ≡ b → Each (Fails p) (take (position_or_len p xs) xs)
    → Each (Fails p) (take (cond (not b) (1 + position_or_len p xs) 0) (x ∷ xs))
before_step p true x xs e h = tt
before_step p false x xs e h =
    let same : suc (position_or_len p xs) ≡ 1 + position_or_len p xs = omega arith in
    let P : ℕ → Type 0 = λ k. Each (Fails p) (take k (x ∷ xs)) in
    subst P same (e, h)

-- no byte before the first that passes the test passes it
before_each : (p : ℕ → Bool) (xs : List ℕ) → Each (Fails p) (before_first p xs)
before_each p [] = tt
before_each p (x ∷ xs) = before_step p (p x) x xs refl (before_each p xs)

-- ---- fields

-- a field has a byte and no blank, and what holds for each byte of the text holds for its own bytes
abbrev IsField : (ℕ → Type 0) → List ℕ → Type 0
IsField P field = (0 < length field) × Each (Fails is_blank) field × Each P field

filled_some : (field : List ℕ) → is_filled field ≡ true → 0 < length field
filled_some field h = grind (arith, nat_tests)

filter_step : (P : ℕ → Type 0) (b : Bool) (part : List ℕ) (parts : List (List ℕ)) → is_filled part ≡ b → Each (Fails is_blank) part → Each P part
    → Each (IsField P) (filter is_filled parts) → Each (IsField P) (cond b (part ∷ filter is_filled parts) (filter is_filled parts))
filter_step P true part parts e h k rest = ((filled_some part e, h, k), rest)
filter_step P false part parts e h k rest = rest

filter_each : (P : ℕ → Type 0) (parts : List (List ℕ)) → Each (Each (Fails is_blank)) parts → Each (Each P) parts → Each (IsField P) (filter is_filled parts)
filter_each P [] h k = tt
filter_each P (part ∷ parts) h k = filter_step P (is_filled part) part parts refl h.0 k.0 (filter_each P parts h.1 k.1)

fields_each : (P : ℕ → Type 0) (text : List ℕ) → Each P text → Each (IsField P) (fields_of text)
unfolding fields_of
fields_each P text h = filter_each P (slice_split is_blank text) (split_apart is_blank text) (split_each P is_blank text h)

-- ---- nicknames of event lines

abbrev pub IsNick : List ℕ → Type 0
IsNick nick = (0 < length nick) × Each IsNickByte nick

abbrev IsInLine : ℕ → Type 0
IsInLine byte = Fails is_feed byte × Fails is_colon byte

each_both : (P Q : ℕ → Type 0) (xs : List ℕ) → Each P xs → Each Q xs → Each (λ x. P x × Q x) xs
each_both P Q [] h k = tt
each_both P Q (x ∷ xs) h k = ((h.0, k.0), each_both P Q xs h.1 k.1)

nick_bytes : (xs : List ℕ) → Each (Fails is_blank) xs → Each IsInLine xs → Each IsNickByte xs
nick_bytes [] h k = tt
nick_bytes (x ∷ xs) h k = ((h.0, k.0.0, k.0.1), nick_bytes xs h.1 k.1)

named_read : (fields : List (List ℕ)) (after : List ℕ) (head : Named) → Each (IsField IsInLine) fields → named_by fields after ≡ Some head → IsNick head.nick
named_read [] after head h e = absurd cc
named_read (nick ∷ []) after head h e =
    let own : IsNick nick = (h.0.0, nick_bytes nick h.0.1 h.0.2) in
    let same : nick ≡ head.nick = ap (λ (named : Named). named.nick) (some_same (record { nick = nick; after = after }) head e) in
    subst IsNick same own
named_read (nick ∷ field ∷ fields) after head h e = absurd cc

head_read : (text : List ℕ) (head : Named) → Each (Fails is_feed) text → head_of text ≡ Some head → IsNick head.nick
unfolding head_of
head_read text head h e =
    let front = before_first is_colon text in
    let bytes = each_both (Fails is_feed) (Fails is_colon) front (each_take (Fails is_feed) (position_or_len is_colon text) text h) (before_each is_colon text) in
    elim (one_of (is_some (position is_colon text)) (named_by (fields_of front) (after_first is_colon text)) None head e) [
      | inl named ↦ named_read (fields_of front) (after_first is_colon text) head (fields_each IsInLine front bytes) named
      | inr none ↦ absurd cc
    ]

-- ---- names of pragmas

none_passes : (p : ℕ → Bool) (xs : List ℕ) → list_any p xs ≡ false → Each (Fails p) xs
none_passes p [] h = tt
none_passes p (x ∷ xs) h = let parts = neither (p x) (list_any p xs) h in (parts.0, none_passes p xs parts.1)

-- the names of a player who has a nickname
abbrev AreNames : List ℕ → List ℕ → Type 0
AreNames nick full = IsNick nick × IsPlayer nick full

trimmed_each : (P : ℕ → Type 0) (text : List ℕ) → Each P text → Each P (trimmed text)
trimmed_each P text h = each_take P _ (front_trimmed text) (each_drop P _ text h)

names_read : (text : List ℕ) (seat : Seat) (naming : Naming) → Each (Fails is_feed) text → names_of text seat ≡ Some naming → AreNames naming.nick naming.full
unfolding names_of
names_read text seat naming h e =
    let nick = before_first is_blank text in
    let full = trimmed (after_first is_blank text) in
    let taken = chosen (is_nick nick) (record { seat = seat; nick = nick; full = full }) naming e in
    let tests = both (not (length nick == 0)) (not (list_any is_colon nick)) taken.0 in
    let some : 0 < length nick = let filled = tests.0 in filled_some nick filled in
    let no_feed = each_take (Fails is_feed) (position_or_len is_blank text) text h in
    let no_colon = none_passes is_colon nick (not_true (list_any is_colon nick) tests.1) in
    let bytes = nick_bytes nick (before_each is_blank text) (each_both (Fails is_feed) (Fails is_colon) nick no_feed no_colon) in
    let player : IsPlayer nick full = record {
      nick = bytes;
      full = trimmed_each (Fails is_feed) (after_first is_blank text) (each_drop (Fails is_feed) (position_or_len is_blank text + 1) text h);
      bare = trimmed_twice (after_first is_blank text);
      alone = λ none. absurd (omega arith);
    } in
    let P : Naming → Type 0 = λ n. AreNames n.nick n.full in
    subst P taken.1 ((some, bytes), player)

naming_read : (text : List ℕ) (naming : Naming) → Each (Fails is_feed) text → naming_of text ≡ Some naming → AreNames naming.nick naming.full
unfolding naming_of
naming_read text naming h e =
    let rest = front_trimmed (after_first is_blank text) in
    let parts = chained (names_of rest) (seat_named (before_first is_blank text)) naming e in
    let following = each_drop (Fails is_feed) (position_or_len is_blank text + 1) text h in
    names_read rest parts.0 naming (each_drop (Fails is_feed) _ (after_first is_blank text) following) parts.1.1

-- ---- players

differ : (a b : List ℕ) → bytes_eq a b ≡ false → bytes_eq b a ≡ false
differ a b e =
    elim (two (bytes_eq b a)) [
      | inl same ↦
          let one = bytes_eq-Decides b a in
          let other = bytes_eq-Decides a b in
          let both_are = other.1 (sym (one.0 same)) in
          absurd cc
      | inr apart ↦ apart
    ]

equal : (a b : List ℕ) → bytes_eq a b ≡ true → a ≡ b
equal a b e = let decides = bytes_eq-Decides a b in decides.0 e

named : (p : Player) → 0 < length p.nick → is_unnamed p ≡ false
named p some = grind (arith, nat_tests)

kept : (p : Player) (nick : List ℕ) → is_unnamed p ≡ false → with_nick p nick ≡ p
kept p nick e = ap (λ (b : Bool). if b then record p { nick = nick } else p) e

taken_nick : (p : Player) (nick : List ℕ) → is_unnamed p ≡ true → with_nick p nick ≡ record p { nick = nick }
taken_nick p nick e = ap (λ (b : Bool). if b then record p { nick = nick } else p) e

-- a player has a nickname from then on
nick_stays : (p : Player) (nick : List ℕ) → 0 < length nick → 0 < length (with_nick p nick).nick
nick_stays p nick some =
    elim (two (is_unnamed p)) [
      | inl none ↦ rw (taken_nick p nick none) some
      | inr own ↦ rw (kept p nick own) (let filled = own in grind (arith, nat_tests))
    ]

seat_named_now : (players : Players) (seat : Seat) (nick : List ℕ) → 0 < length nick → 0 < length (player_of (seated players seat nick) seat).nick
seat_named_now players First nick some = nick_stays players.first nick some
seat_named_now players Second nick some = nick_stays players.second nick some

seat_still_named : (players : Players) (seat other : Seat) (nick : List ℕ) → 0 < length nick → 0 < length (player_of players other).nick
    → 0 < length (player_of (seated players seat nick) other).nick
seat_still_named players First First nick some h = nick_stays players.first nick some
seat_still_named players First Second nick some h = h
seat_still_named players Second First nick some h = h
seat_still_named players Second Second nick some h = nick_stays players.second nick some

new_player : (nick full : List ℕ) (old : List ℕ) → IsNick nick → IsPlayer old full → IsPlayer nick full
new_player nick full old own h = record { nick = own.1; full = h.full; bare = h.bare; alone = λ none. let some = own.0 in absurd (omega arith) }

stay_first : (players : Players) (nick : List ℕ) → is_unnamed players.first ≡ false → seated players First nick ≡ players
stay_first players nick e = ap (λ (p : Player). record players { first = p }) (kept players.first nick e)

stay_second : (players : Players) (nick : List ℕ) → is_unnamed players.second ≡ false → seated players Second nick ≡ players
stay_second players nick e = ap (λ (p : Player). record players { second = p }) (kept players.second nick e)

seated_read : (players : Players) (nick : List ℕ) (seat : Seat) → ArePlayers players → IsNick nick → seat_for players nick ≡ Some seat → ArePlayers (seated players seat nick)
seated_read players nick seat h own e =
    let P : Seat → Type 0 = λ s. ArePlayers (seated players s nick) in
    let fourth = if is_unnamed players.second then Some Second else None in
    let third = if is_unnamed players.first then Some First else fourth in
    let second = if bytes_eq players.second.nick nick then Some Second else third in
    elim (chosen_else (bytes_eq players.first.nick nick) First seat second e) [
      | inl same ↦
          let some : 0 < length players.first.nick = subst (λ (n : List ℕ). 0 < length n) (sym (equal players.first.nick nick same.0)) own.0 in
          subst P same.1 (subst ArePlayers (sym (stay_first players nick (named players.first some))) h)
      | inr not_first ↦ elim (chosen_else (bytes_eq players.second.nick nick) Second seat third not_first.1) [
        | inl same ↦
            let some : 0 < length players.second.nick = subst (λ (n : List ℕ). 0 < length n) (sym (equal players.second.nick nick same.0)) own.0 in
            subst P same.1 (subst ArePlayers (sym (stay_second players nick (named players.second some))) h)
        | inr not_second ↦ elim (chosen_else (is_unnamed players.first) First seat fourth not_second.1) [
          | inl free ↦
              subst P free.1
              (subst (λ (p : Player). ArePlayers (record players { first = p })) (sym (taken_nick players.first nick free.0))
              (record {
                first = new_player nick players.first.full players.first.nick own h.first;
                second = h.second;
                apart = λ some. differ players.second.nick nick not_second.0;
              }))
          | inr not_free ↦
              let last = chosen (is_unnamed players.second) Second seat not_free.1 in
              subst P last.1
              (subst (λ (p : Player). ArePlayers (record players { second = p })) (sym (taken_nick players.second nick last.0))
              (record {
                first = h.first;
                second = new_player nick players.second.full players.second.nick own h.second;
                apart = λ some. not_first.0;
              }))
        ]
      ]
    ]

new_players : (players : Players) (seat : Seat) (nick full : List ℕ) → ArePlayers players → AreNames nick full
    → bytes_eq (player_of players (other_seat seat)).nick nick ≡ false → ArePlayers (with_player players seat (record { nick = nick; full = full }))
new_players players First nick full h names apart = record { first = names.1; second = h.second; apart = λ some. differ players.second.nick nick apart }
new_players players Second nick full h names apart = record { first = h.first; second = names.1; apart = λ some. apart }

players_named : (players : Players) (naming : Naming) (next : Players) → ArePlayers players → AreNames naming.nick naming.full
    → players_with players naming ≡ Ok next → ArePlayers next
unfolding players_with
players_named players naming next h names e =
    let given_player : Player = record { nick = naming.nick; full = naming.full } in
    let other = (player_of players (other_seat naming.seat)).nick in
    elim (either_of (not (is_unnamed (player_of players naming.seat))) (Ok players)
    (if bytes_eq other naming.nick then Err why.ThirdPlayer else Ok (with_player players naming.seat given_player)) next e) [
      | inl same ↦ subst ArePlayers (ok_same players next same) h
      | inr changed ↦
          let apart = passed (bytes_eq other naming.nick) why.ThirdPlayer (Ok (with_player players naming.seat given_player)) next changed in
          subst ArePlayers (ok_same (with_player players naming.seat given_player) next apart.1)
          (new_players players naming.seat naming.nick naming.full h names apart.0)
    ]

-- ---- one more line

empty_events : (events : List Event) → (length events == 0) ≡ true → events ≡ []
empty_events [] e = refl
empty_events (event ∷ events) e = absurd (grind (arith, nat_tests))

new_names : (so_far : Record) (players : Players) → ArePlayers players → (length so_far.events == 0) ≡ true → IsRecord (record so_far { players = players })
new_names so_far players h none =
    let empty = empty_events so_far.events none in
    record {
      players = h;
      events = subst (λ (events : List Event). Each (IsOf players) events) (sym empty) tt;
      few = subst (λ (events : List Event). length events ≤ 1000) (sym empty) (omega arith);
    }

naming_taken : (so_far next : Record) (line : ℕ) (naming : Option Naming) → IsRecord so_far → (length so_far.events == 0) ≡ true
    → ((one : Naming) → naming ≡ Some one → AreNames one.nick one.full) → with_naming so_far line naming ≡ Ok next → IsRecord next
naming_taken so_far next line None h none names e = subst IsRecord (ok_same so_far next e) h
naming_taken so_far next line (Some one) h none names e =
    let step = stepped (on_line line (players_with so_far.players one)) (λ players. Ok (record so_far { players = players })) next e in
    let players = players_named so_far.players one step.0 h.players (names one refl) (on_its_line line (players_with so_far.players one) step.0 step.1.0) in
    subst IsRecord (ok_same (record so_far { players = step.0 }) next step.1.1) (new_names so_far step.0 players none)

pragma_taken : (so_far next : Record) (line : ℕ) (text : List ℕ) → IsRecord so_far → Each (Fails is_feed) text → with_pragma so_far line text ≡ Ok next → IsRecord next
unfolding with_pragma
pragma_taken so_far next line text h one e =
    elim (two (length so_far.events == 0)) [
      | inl none ↦ naming_taken so_far next line (naming_of text) h none (λ naming is. naming_read text naming one is)
          (first_of_two (length so_far.events == 0) (with_naming so_far line (naming_of text)) (Ok so_far) next none e)
      | inr some ↦ subst IsRecord (ok_same so_far next (second_of_two (length so_far.events == 0) (with_naming so_far line (naming_of text)) (Ok so_far) next some e)) h
    ]

-- an entry: a nickname, the seat that it has, and the event
record IsEntry (so_far : Record) (entry : NamedEvent) : Type 0 where
  room : length so_far.events < 1000
  nick : IsNick entry.nick
  seat : seat_for so_far.players entry.nick ≡ Some entry.event.player
  event : IsEvent entry.event

entry_read : (so_far : Record) (line : ℕ) (text : List ℕ) (entry : NamedEvent) → Each (Fails is_feed) text → entry_of so_far line text ≡ Ok entry → IsEntry so_far entry
unfolding entry_of
entry_read so_far line text entry one e =
    let with_event : Named → Seat → Event → NamedEvent = λ head seat event. record { nick = head.nick; event = event } in
    let heading : Seat → Heading = λ seat. record { line = line; player = seat } in
    let room = passed (nat_le 1000 (length so_far.events)) why.TooManyEvents
    (ok_or (head_of text) why.NoColon >>= λ head. ok_or (seat_for so_far.players head.nick) why.ThirdPlayer >>= λ player.
    event_of (record { line = line; player = player }) (fields_of head.after) >>= λ event. Ok (record { nick = head.nick; event = event })) entry e in
    let first = stepped (ok_or (head_of text) why.NoColon)
    (λ head. ok_or (seat_for so_far.players head.nick) why.ThirdPlayer >>= λ player.
    event_of (record { line = line; player = player }) (fields_of head.after) >>= λ event. Ok (record { nick = head.nick; event = event })) entry room.1 in
    let head = first.0 in
    let second = stepped (ok_or (seat_for so_far.players head.nick) why.ThirdPlayer)
    (λ player. event_of (record { line = line; player = player }) (fields_of head.after) >>= λ event. Ok (record { nick = head.nick; event = event })) entry first.1.1 in
    let third = stepped (event_of (heading second.0) (fields_of head.after)) (λ event. Ok (record { nick = head.nick; event = event })) entry second.1.1 in
    let event = event_read (heading second.0) (fields_of head.after) third.0 third.1.0 in
    let seat = given (seat_for so_far.players head.nick) why.ThirdPlayer second.0 second.1.0 in
    let free = room.0 in
    subst (IsEntry so_far) (ok_same (record { nick = head.nick; event = third.0 }) entry third.1.1)
    (record {
      room = grind (arith, nat_tests);
      nick = head_read text head one (given (head_of text) why.NoColon head first.1.0);
      seat = seat ∙ ap (λ (s : Seat). Some s) (sym event.1);
      event = event.0;
    })

still_of : (players : Players) (seat : Seat) (nick : List ℕ) (events : List Event) → 0 < length nick → Each (IsOf players) events → Each (IsOf (seated players seat nick)) events
still_of players seat nick events some h =
    each_weaken (IsOf players) (IsOf (seated players seat nick)) events (λ e own. (own.0, seat_still_named players seat e.player nick some own.1)) h

event_taken : (so_far next : Record) (line : ℕ) (text : List ℕ) → IsRecord so_far → Each (Fails is_feed) text → with_event so_far line text ≡ Ok next → IsRecord next
unfolding with_event
event_taken so_far next line text h one e =
    let step = stepped (on_line line (entry_of so_far line text))
    (λ entry. Ok (record { players = seated so_far.players entry.event.player entry.nick; events = so_far.events ++ entry.event ∷ [] })) next e in
    let entry = step.0 in
    let facts = entry_read so_far line text entry one (on_its_line line (entry_of so_far line text) entry step.1.0) in
    let players = seated so_far.players entry.event.player entry.nick in
    let made : Record = record { players = players; events = so_far.events ++ entry.event ∷ [] } in
    subst IsRecord (ok_same made next step.1.1)
    (record {
      players = seated_read so_far.players entry.nick entry.event.player h.players facts.nick facts.seat;
      events = each_append (IsOf players) so_far.events (entry.event ∷ []) (still_of so_far.players entry.event.player entry.nick so_far.events facts.nick.0 h.events)
          ((facts.event, seat_named_now so_far.players entry.event.player entry.nick facts.nick.0), tt);
      few = omega (arith, facts.room, length-append so_far.events (entry.event ∷ []));
    })

line_taken : (so_far next : Record) (n : ℕ) (line : List ℕ) → IsRecord so_far → Each (Fails is_feed) line → with_line so_far n line ≡ Ok next → IsRecord next
unfolding with_line
line_taken so_far next n [] h one e = subst IsRecord (ok_same so_far next e) h
line_taken so_far next n (byte ∷ text) h one e =
    elim (either_of (byte == 62) (with_event so_far n text) (if byte == 35 then with_pragma so_far n text else Ok so_far) next e) [
      | inl event ↦ event_taken so_far next n text h one.1 event
      | inr other ↦ elim (either_of (byte == 35) (with_pragma so_far n text) (Ok so_far) next other) [
        | inl pragma ↦ pragma_taken so_far next n text h one.1 pragma
        | inr over ↦ subst IsRecord (ok_same so_far next over) h
      ]
    ]

lines_taken : (so_far r : Record) (n : ℕ) (lines : List (List ℕ)) → IsRecord so_far → Each (Each (Fails is_feed)) lines → record_from so_far n lines ≡ Ok r → IsRecord r
unfolding record_from
lines_taken so_far r n [] h one e = subst IsRecord (ok_same so_far r e) h
lines_taken so_far r n (line ∷ lines) h one e =
    let step = stepped (with_line so_far n line) (λ next. record_from next (n + 1) lines) r e in
    lines_taken step.0 r (n + 1) lines (line_taken so_far step.0 n line h one.0 step.1.0) one.1 step.1.1

-- ---- the whole

cut_each : (b : Bool) (line : List ℕ) → Each (Fails is_feed) line → Each (Fails is_feed) (if b then take (length line - 1) line else line)
cut_each true line h = each_take (Fails is_feed) (length line - 1) line h
cut_each false line h = h

cuts_each : (lines : List (List ℕ)) → Each (Each (Fails is_feed)) lines → Each (Each (Fails is_feed)) (map without_return lines)
cuts_each [] h = tt
cuts_each (line ∷ lines) h = (cut_each (ends_with eqb line (13 ∷ [])) line h.0, cuts_each lines h.1)

lines_each : (text : List ℕ) → Each (Each (Fails is_feed)) (lines_in text)
unfolding lines_in
lines_each text = cuts_each (slice_split is_feed text) (split_apart is_feed text)

nobody : IsPlayer [] []
nobody = record { nick = tt; full = tt; bare = refl; alone = λ none. refl }

nothing : IsRecord no_record
nothing = record { players = record { first = nobody; second = nobody; apart = λ some. absurd (omega arith) }; events = tt; few = omega arith }

pub record_read : (text : List ℕ) (r : Record) → record_of text ≡ Ok r → IsRecord r
unfolding record_of
record_read text r e =
    let fits = passed (nat_lt 1048576 (length text)) (record { line = 0; why = why.TooLong }) (record_from no_record 1 (lines_of text)) r e in
    lines_taken no_record r 1 (lines_of text) nothing (lines_each (without_mark text)) fits.1
