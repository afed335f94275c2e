-- Records as they are written, read again.
use Rattle.std.proofs.Common.{◌≡◌, ℕ, ◌<◌, ◌≤◌, Bool, true, false, List, [], ◌∷◌, ◌++◌, length, map, nat_lt, Ok, Err, if◌then◌else◌, arith, ap, refl, ◌∙◌, inl, inr}
use Rattle.std.specs.Prelude.{codes}
use Rattle.std.specs.Fmt.{signed_decimal}
use Rattle.std.proofs.lemmas.List.{append-nil, append_assoc, length-append}
use Rattle.std.proofs.lemmas.Bool.Decides.{nat_tests}
use Rattle.gcg_read.specs.declared.faults.Why.TheVariants as why
use Rattle.gcg_read.specs.declared.events.Event.{Event}
use Rattle.gcg_read.specs.declared.players.Player.{Player}
use Rattle.gcg_read.specs.declared.players.Players.{Players}
use Rattle.gcg_read.specs.declared.records.Record.{Record}
use Rattle.gcg_read.specs.Cutting.{is_feed, lines_of}
use Rattle.gcg_read.specs.Players.{player_of, is_unnamed}
use Rattle.gcg_read.specs.Records.{no_record, record_from, record_of}
use Rattle.gcg_write.specs.Fields.{score_text, points_text, kind_text}
use Rattle.gcg_write.specs.Normal.{event_text_of, rack_text, event_line, full_text, player_lines, normal_lines, text_of_lines, normal_of}
use Rattle.gcg_write.specs.Rounds.{first_line, normal_record, EndsInNoReturn}
use Rattle.gcg_write.proofs.Each.{Each, each_append, each_weaken}
use Rattle.gcg_write.proofs.Splitting.{Fails}
use Rattle.gcg_write.proofs.Entries.{IsInk, IsEvent, ink_event, ink_stated, ink_total, some_total}
use Rattle.gcg_write.proofs.LineCuts.{IsLine, returns, ends_after, ends_in_ink, lines_again}
use Rattle.gcg_write.proofs.Names.{IsPlayer, nick_no_feed, full_there, two, is_named, unnamed_lines, named_lines, ArePlayers, players_read}
use Rattle.gcg_write.proofs.EventReadings.{IsOf, nick_in, events_again}

-- what may be read as a record
pub record IsRecord (r : Record) : Type 0 where
  pub players : ArePlayers r.players
  pub events : Each (IsOf r.players) r.events
  pub few : length r.events ≤ 1000

-- ---- the lines

ink_no_feed : (bytes : List ℕ) → Each IsInk bytes → Each (Fails is_feed) bytes
ink_no_feed bytes h = each_weaken IsInk (Fails is_feed) bytes (λ byte ink. grind (arith, nat_tests)) h

full_no_feed : (full : List ℕ) → Each (Fails is_feed) full → Each (Fails is_feed) (full_text full)
full_no_feed [] h = tt
full_no_feed (c ∷ cs) h = rw (full_there c cs) (refl, h)

full_ends : (nick full : List ℕ) → returns nick ≡ false → returns full ≡ false → returns (nick ++ full_text full) ≡ false
full_ends nick [] h k = rw (append-nil nick) h
full_ends nick (c ∷ cs) h k = rw (full_there c cs) (ends_after nick (32 ∷ c ∷ cs) (omega arith) ∙ ends_after (32 ∷ []) (c ∷ cs) (omega arith) ∙ k)

some_named : (nick rest : List ℕ) → 0 < length nick → 0 < length (nick ++ rest)
some_named [] rest h = absurd (omega arith)
some_named (b ∷ bs) rest h = omega arith

player_line : (front nick full : List ℕ) → Each (Fails is_feed) (35 ∷ front) → 0 < length nick → IsPlayer nick full → returns nick ≡ false → returns full ≡ false
    → IsLine ((35 ∷ front) ++ nick ++ full_text full)
player_line front nick full lead some h a b =
    record {
      one = each_append (Fails is_feed) ((35 ∷ front) ++ nick) (full_text full)
          (each_append (Fails is_feed) (35 ∷ front) nick lead (nick_no_feed nick h.nick)) (full_no_feed full h.full);
      ends = ap returns (append_assoc (35 ∷ front) nick (full_text full))
          ∙ ends_after (35 ∷ front) (nick ++ full_text full) (some_named nick (full_text full) some) ∙ full_ends nick full a b;
      leads = inl refl;
    }

lines_of_player : (front : List ℕ) → Each (Fails is_feed) (35 ∷ front) → (p : Player) → IsPlayer p.nick p.full → EndsInNoReturn p → Each IsLine (player_lines (35 ∷ front) p)
lines_of_player front lead p h calm =
    elim (two (is_unnamed p)) [
      | inl none ↦ rw (unnamed_lines (35 ∷ front) p none) tt
      | inr some ↦ rw (named_lines (35 ∷ front) p some) (player_line front p.nick p.full lead (is_named p some) h calm.0 calm.1, tt)
    ]

first_lines : (p : Player) → IsPlayer p.nick p.full → EndsInNoReturn p → Each IsLine (player_lines (codes "#player1 ") p)
first_lines p h calm = lines_of_player (codes "player1 ") (refl, (refl, (refl, (refl, (refl, (refl, (refl, (refl, (refl, tt))))))))) p h calm

second_lines : (p : Player) → IsPlayer p.nick p.full → EndsInNoReturn p → Each IsLine (player_lines (codes "#player2 ") p)
second_lines p h calm = lines_of_player (codes "player2 ") (refl, (refl, (refl, (refl, (refl, (refl, (refl, (refl, (refl, tt))))))))) p h calm

rack_no_feed : (e : Event) → IsEvent e → Each (Fails is_feed) (rack_text e.rack)
rack_no_feed e h = ink_stated is_feed refl (λ byte ink. grind (arith, nat_tests)) e.rack

event_no_feed : (e : Event) → IsEvent e → Each (Fails is_feed) (event_text_of e)
event_no_feed e h = ink_event is_feed refl (λ byte ink. grind (arith, nat_tests)) e h

event_ends : (e : Event) → IsEvent e → returns (event_text_of e) ≡ false
unfolding event_text_of
event_ends e h =
    let total = signed_decimal e.total in
    let some = some_total e.total h.total in
    ends_after (kind_text e.kind) (32 ∷ points_text e.score e.total) (omega arith)
    ∙ ends_after (32 ∷ score_text e.score) (32 ∷ total) (omega arith)
    ∙ ends_after (32 ∷ []) total some
    ∙ ends_in_ink total (ink_total e.total h.total)

event_some : (e : Event) → 0 < length (event_text_of e)
unfolding event_text_of
event_some e = omega (arith, length-append (kind_text e.kind) (32 ∷ points_text e.score e.total))

event_lined : (players : Players) (e : Event) → ArePlayers players → IsOf players e → IsLine (event_line players e)
unfolding event_line
event_lined players e h own =
    let nick = (player_of players e.player).nick in
    let front = 62 ∷ (nick ++ 58 ∷ 32 ∷ []) in
    let nick_one = nick_no_feed nick (nick_in players e.player h) in
    let front_one : Each (Fails is_feed) front = (refl, each_append (Fails is_feed) nick (58 ∷ 32 ∷ []) nick_one (refl, (refl, tt))) in
    record {
      one = each_append (Fails is_feed) (front ++ rack_text e.rack) (event_text_of e)
          (each_append (Fails is_feed) front (rack_text e.rack) front_one (rack_no_feed e own.0)) (event_no_feed e own.0);
      ends = ends_after (front ++ rack_text e.rack) (event_text_of e) (event_some e) ∙ event_ends e own.0;
      leads = inr refl;
    }

event_lines : (players : Players) (events : List Event) → ArePlayers players → Each (IsOf players) events → Each IsLine (map (event_line players) events)
event_lines players [] h own = tt
event_lines players (e ∷ events) h own = (event_lined players e h own.0, event_lines players events h own.1)

all_lines : (r : Record) → IsRecord r → EndsInNoReturn r.players.first → EndsInNoReturn r.players.second → Each IsLine (normal_lines r)
all_lines r h one other =
    each_append IsLine (player_lines (codes "#player1 ") r.players.first ++ player_lines (codes "#player2 ") r.players.second) (map (event_line r.players) r.events)
    (each_append IsLine (player_lines (codes "#player1 ") r.players.first) (player_lines (codes "#player2 ") r.players.second)
    (first_lines r.players.first h.players.first one) (second_lines r.players.second h.players.second other))
    (event_lines r.players r.events h.players h.events)

-- ---- the whole

within : {X : Type 0} (b : Bool) (x y : X) → b ≡ false → (if b then x else y) ≡ y
within true x y e = absurd cc
within false x y e = refl

pub record_again : (r : Record) → IsRecord r → EndsInNoReturn r.players.first → EndsInNoReturn r.players.second → length (normal_of r) ≤ 1048576
    → record_of (normal_of r) ≡ Ok (normal_record r)
unfolding record_of normal_of
record_again r h one other short =
    let ones = player_lines (codes "#player1 ") r.players.first in
    let twos = player_lines (codes "#player2 ") r.players.second in
    let events = map (event_line r.players) r.events in
    let fits : nat_lt 1048576 (length (text_of_lines (normal_lines r))) ≡ false = grind (arith, nat_tests) in
    within (nat_lt 1048576 (length (text_of_lines (normal_lines r)))) (Err (record { line = 0; why = why.TooLong })) (record_from no_record 1 (lines_of (text_of_lines (normal_lines r)))) fits
    ∙ ap (record_from no_record 1) (lines_again (normal_lines r) (all_lines r h one other) ∙ append_assoc (ones ++ twos) events ([] ∷ []))
    ∙ players_read r.players (events ++ [] ∷ []) h.players
    ∙ events_again r.players [] r.events (first_line r) h.players h.events (omega (arith, h.few))
