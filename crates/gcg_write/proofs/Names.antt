-- Players as they are written, read again.
use Rattle.std.proofs.Common.{◌≡◌, ℕ, ◌+◌, ◌<◌, ◌⊎◌, Bool, true, false, ◌==◌, List, [], ◌∷◌, ◌++◌, length, drop, Some, Ok, if◌then◌else◌, arith, ap, refl, ◌∙◌, inl, inr}
use Rattle.std.specs.Prelude.{codes}
use Rattle.std.specs.List.{before_first, after_first, list_any, prefix_len}
use Rattle.std.specs.Str.{bytes_eq}
use Rattle.std.proofs.lemmas.List.{append-nil, append_assoc, drop_all, take_all}
use Rattle.std.proofs.lemmas.Bool.Decides.{nat_tests}
use Rattle.gcg_read.specs.declared.events.Seat.{Seat}
use Rattle.gcg_read.specs.declared.events.Seat.TheVariants.{First, Second}
use Rattle.gcg_read.specs.declared.players.Player.{Player}
use Rattle.gcg_read.specs.declared.players.Players.{Players}
use Rattle.gcg_read.specs.declared.records.Record.{Record}
use Rattle.gcg_read.specs.Cutting.{is_blank, is_feed, is_colon}
use Rattle.gcg_read.specs.Players.{no_player, no_players, is_unnamed}
use Rattle.gcg_read.specs.Pragmas.{is_nick, trimmed, front_trimmed, names_of, naming_of}
use Rattle.gcg_read.specs.Records.{no_record, players_with, with_naming, with_pragma, with_line, record_from}
use Rattle.gcg_write.specs.Normal.{full_text, player_lines}
use Rattle.gcg_write.proofs.Each.{Each, each_weaken}
use Rattle.gcg_write.proofs.Splitting.{Fails, first_place, no_place}
use Rattle.gcg_write.proofs.Parts.{take_front, drop_more}

-- a byte of a nickname: not a blank, an LF or a colon
abbrev pub IsNickByte : ℕ → Type 0
IsNickByte byte = Fails is_blank byte × Fails is_feed byte × Fails is_colon byte

-- the names of a player; one without a nickname has no full name
pub record IsPlayer (short long : List ℕ) : Type 0 where
  pub nick : Each IsNickByte short
  pub full : Each (Fails is_feed) long
  pub bare : trimmed long ≡ long
  pub alone : length short ≡ 0 → long ≡ []

pub nick_no_blank : (nick : List ℕ) → Each IsNickByte nick → Each (Fails is_blank) nick
nick_no_blank nick h = each_weaken IsNickByte (Fails is_blank) nick (λ byte b. b.0) h

pub nick_no_feed : (nick : List ℕ) → Each IsNickByte nick → Each (Fails is_feed) nick
nick_no_feed nick h = each_weaken IsNickByte (Fails is_feed) nick (λ byte b. b.1) h

pub nick_no_colon : (nick : List ℕ) → Each IsNickByte nick → Each (Fails is_colon) nick
nick_no_colon nick h = each_weaken IsNickByte (Fails is_colon) nick (λ byte b. b.2) h

none_passes : (p : ℕ → Bool) (bytes : List ℕ) → Each (Fails p) bytes → list_any p bytes ≡ false
none_passes p [] h = refl
none_passes p (byte ∷ bytes) h = rw (h.0, none_passes p bytes h.1) refl

nick_there : (nick : List ℕ) → 0 < length nick → Each IsNickByte nick → is_nick nick ≡ true
nick_there nick some h =
    let named : (length nick == 0) ≡ false = grind (arith, nat_tests) in
    rw (named, none_passes is_colon nick (nick_no_colon nick h)) refl

-- ---- the names of a pragma

before : (nick rest : List ℕ) → Each (Fails is_blank) nick → before_first is_blank (nick ++ 32 ∷ rest) ≡ nick
before nick rest h = rw (first_place is_blank nick 32 rest h refl) (take_front nick (32 ∷ rest))

following : (nick rest : List ℕ) → Each (Fails is_blank) nick → after_first is_blank (nick ++ 32 ∷ rest) ≡ rest
following nick rest h = rw (first_place is_blank nick 32 rest h refl) (drop_more nick 32 rest)

before_alone : (nick : List ℕ) → Each (Fails is_blank) nick → before_first is_blank nick ≡ nick
before_alone nick h = rw (no_place is_blank nick h) (take_all (length nick) nick (omega arith))

after_alone : (nick : List ℕ) → Each (Fails is_blank) nick → after_first is_blank nick ≡ []
after_alone nick h = rw (no_place is_blank nick h) (drop_all (length nick + 1) nick (omega arith))

-- a nickname and a full name, from the text that has them
names_from : (text nick full : List ℕ) (seat : Seat) → before_first is_blank text ≡ nick → trimmed (after_first is_blank text) ≡ full → is_nick nick ≡ true
    → names_of text seat ≡ Some (record { seat = seat; nick = nick; full = full })
unfolding names_of
names_from text nick full seat front back there = rw (front, back, there) refl

no_fault : {X : Type 0} (b : Bool) (x y : X) → b ≡ false → (if b then x else y) ≡ y
no_fault true x y e = absurd cc
no_fault false x y e = refl

pub full_there : (c : ℕ) (cs : List ℕ) → full_text (c ∷ cs) ≡ 32 ∷ c ∷ cs
full_there c cs = no_fault (length (c ∷ cs) == 0) [] (32 ∷ c ∷ cs) (grind (arith, nat_tests))

names_again : (nick full : List ℕ) (seat : Seat) → 0 < length nick → IsPlayer nick full
    → names_of (nick ++ full_text full) seat ≡ Some (record { seat = seat; nick = nick; full = full })
names_again nick [] seat some h =
    let blanks = nick_no_blank nick h.nick in
    ap (λ (text : List ℕ). names_of text seat) (append-nil nick)
    ∙ names_from nick nick [] seat (before_alone nick blanks) (ap trimmed (after_alone nick blanks)) (nick_there nick some h.nick)
names_again nick (c ∷ cs) seat some h =
    let blanks = nick_no_blank nick h.nick in
    ap (λ (text : List ℕ). names_of (nick ++ text) seat) (full_there c cs)
    ∙ names_from (nick ++ 32 ∷ c ∷ cs) nick (c ∷ cs) seat (before nick (c ∷ cs) blanks) (ap trimmed (following nick (c ∷ cs) blanks) ∙ h.bare)
    (nick_there nick some h.nick)

front_kept : (nick rest : List ℕ) → 0 < length nick → Each IsNickByte nick → front_trimmed (nick ++ rest) ≡ nick ++ rest
front_kept [] rest some h = absurd (omega arith)
front_kept (b ∷ bs) rest some h = let blank = h.0.0 in ap (λ k. drop k (b ∷ (bs ++ rest))) (ap (λ (t : Bool). if t then 1 + prefix_len is_blank (bs ++ rest) else 0) blank)

first_naming : (rest : List ℕ) → naming_of (codes "player1 " ++ rest) ≡ names_of (front_trimmed rest) First
unfolding naming_of
first_naming rest = refl

second_naming : (rest : List ℕ) → naming_of (codes "player2 " ++ rest) ≡ names_of (front_trimmed rest) Second
unfolding naming_of
second_naming rest = refl

-- ---- the line of a player

named_first : (short long : List ℕ) (line : ℕ) → 0 < length short → IsPlayer short long
    → with_line no_record line ((codes "#player1 " ++ short) ++ full_text long)
    ≡ Ok (record { players = record no_players { first = record { nick = short; full = long } }; events = [] })
unfolding with_line with_pragma players_with
named_first [] long line some h = absurd (omega arith)
named_first (b ∷ bs) long line some h =
    let naming = first_naming ((b ∷ bs) ++ full_text long) ∙ ap (λ (text : List ℕ). names_of text First) (front_kept (b ∷ bs) (full_text long) some h.nick)
    ∙ names_again (b ∷ bs) long First some h in
    ap (with_naming no_record line) naming

named_second : (one : Player) (short long : List ℕ) (line : ℕ) → 0 < length short → IsPlayer short long → bytes_eq one.nick short ≡ false
    → with_line (record { players = record no_players { first = one }; events = [] }) line ((codes "#player2 " ++ short) ++ full_text long)
    ≡ Ok (record { players = record { first = one; second = record { nick = short; full = long } }; events = [] })
unfolding with_line with_pragma players_with
named_second one short long line some h apart =
    let naming = second_naming (short ++ full_text long) ∙ ap (λ (text : List ℕ). names_of text Second) (front_kept short (full_text long) some h.nick)
    ∙ names_again short long Second some h in
    ap (with_naming (record { players = record no_players { first = one }; events = [] }) line) naming ∙ rw apart refl

-- ---- the lines of the players

alone : (short long : List ℕ) → IsPlayer short long → is_unnamed (record { nick = short; full = long }) ≡ true
    → let p : Player = record { nick = short; full = long } in p ≡ no_player
alone [] long h e = ap (λ (full : List ℕ). let p : Player = record { nick = []; full = full } in p) (h.alone refl)
alone (b ∷ bs) long h e = absurd (grind (arith, nat_tests))

pub unnamed_lines : (pragma : List ℕ) (p : Player) → is_unnamed p ≡ true → player_lines pragma p ≡ []
unfolding player_lines
unnamed_lines pragma p e = rw e refl

pub named_lines : (pragma : List ℕ) (p : Player) → is_unnamed p ≡ false → player_lines pragma p ≡ (pragma ++ p.nick ++ full_text p.full) ∷ []
unfolding player_lines
named_lines pragma p e = rw e refl

pub is_named : (p : Player) → is_unnamed p ≡ false → 0 < length p.nick
is_named p e = grind (arith, nat_tests)

-- one more line
pub line_read : (so_far next : Record) (n : ℕ) (line : List ℕ) (rest : List (List ℕ)) → with_line so_far n line ≡ Ok next
    → record_from so_far n (line ∷ rest) ≡ record_from next (n + 1) rest
unfolding record_from
line_read so_far next n line rest e = rw e refl

pub two : (b : Bool) → (b ≡ true) ⊎ (b ≡ false)
two true = inl refl
two false = inr refl

first_read : (p : Player) (rest : List (List ℕ)) → IsPlayer p.nick p.full
    → record_from no_record 1 (player_lines (codes "#player1 ") p ++ rest)
    ≡ record_from (record { players = record no_players { first = p }; events = [] }) (1 + length (player_lines (codes "#player1 ") p)) rest
first_read p rest h =
    elim (two (is_unnamed p)) [
      | inl none ↦ rw (unnamed_lines (codes "#player1 ") p none, alone p.nick p.full h none) refl
      | inr some ↦
          rw (named_lines (codes "#player1 ") p some)
          (line_read no_record (record { players = record no_players { first = p }; events = [] }) 1 (codes "#player1 " ++ p.nick ++ full_text p.full) rest
          (named_first p.nick p.full 1 (is_named p some) h))
    ]

second_read : (one p : Player) (n : ℕ) (rest : List (List ℕ)) → IsPlayer p.nick p.full → (0 < length p.nick → bytes_eq one.nick p.nick ≡ false)
    → record_from (record { players = record no_players { first = one }; events = [] }) n (player_lines (codes "#player2 ") p ++ rest)
    ≡ record_from (record { players = record { first = one; second = p }; events = [] }) (n + length (player_lines (codes "#player2 ") p)) rest
second_read one p n rest h apart =
    elim (two (is_unnamed p)) [
      | inl none ↦ rw (unnamed_lines (codes "#player2 ") p none, alone p.nick p.full h none)
          (ap (λ k. record_from (record { players = record no_players { first = one }; events = [] }) k rest) (let e : n ≡ n + 0 = omega arith in e))
      | inr some ↦
          rw (named_lines (codes "#player2 ") p some)
          (line_read (record { players = record no_players { first = one }; events = [] }) (record { players = record { first = one; second = p }; events = [] }) n
          (codes "#player2 " ++ p.nick ++ full_text p.full) rest (named_second one p.nick p.full n (is_named p some) h (apart (is_named p some))))
    ]

-- the players of a record: their nicknames differ
pub record ArePlayers (players : Players) : Type 0 where
  pub first : IsPlayer players.first.nick players.first.full
  pub second : IsPlayer players.second.nick players.second.full
  pub apart : 0 < length players.second.nick → bytes_eq players.first.nick players.second.nick ≡ false

-- the lines of the players give the players
pub players_read : (players : Players) (rest : List (List ℕ)) → ArePlayers players
    → record_from no_record 1 (player_lines (codes "#player1 ") players.first ++ player_lines (codes "#player2 ") players.second ++ rest)
    ≡ record_from (record { players = players; events = [] })
    (1 + length (player_lines (codes "#player1 ") players.first) + length (player_lines (codes "#player2 ") players.second)) rest
players_read players rest h =
    let one = player_lines (codes "#player1 ") players.first in
    let two = player_lines (codes "#player2 ") players.second in
    ap (record_from no_record 1) (append_assoc one two rest) ∙ first_read players.first (two ++ rest) h.first
    ∙ second_read players.first players.second (1 + length one) rest h.second h.apart
