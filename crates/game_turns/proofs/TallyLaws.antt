-- The state after an event that the rules allow is the tally at the next place.
use Rattle.std.proofs.Common.{◌≡◌, ℕ, ℤ, ◌+◌, ◌-◌, ◌==◌, ◌&&◌, Bool, true, false, min, List, ◌∷◌, Option, Some, None, refl, sym, ap, ◌∙◌, arith, ◌||◌, ◌≤◌, length, sum, is_some, is_none}
use Rattle.std.specs.Prelude.{if◌then◌else◌}
use Rattle.ref_tiles.specs.declared.rulebook.Rules.{Rules}
use Rattle.ref_tiles.specs.declared.symbols.Symbol.{Symbol}
use Rattle.ref_tiles.specs.declared.tiles.Tile.{Tile}
use Rattle.ref_board.specs.declared.directions.Dir.{Dir}
use Rattle.ref_play.specs.declared.placed.Placed.{Placed}
use Rattle.ref_play.specs.Placements.{with_tiles, without_tiles}
use Rattle.ref_play.specs.Texts.{placement_of}
use Rattle.ref_play.specs.Legality.{overlaps}
use Rattle.ref_play.specs.Laws.{TakingBackRestores}
use Rattle.game_turns.specs.declared.sides.Sides.{Sides}
use Rattle.gcg_read.specs.Players.{other_seat}
use Rattle.gcg_read.specs.declared.events.Seat.{Seat}
use Rattle.gcg_read.specs.declared.events.Seat.TheVariants.{First, Second}
use Rattle.gcg_read.specs.declared.events.Event.{Event}
use Rattle.gcg_read.specs.declared.events.EventKind.{EventKind}
use Rattle.gcg_read.specs.declared.events.EventKind.TheVariants as kind
use Rattle.game_turns.specs.Standing.{standing, board_at, tiles_laid, laid_by, drawn_by, rack_after, rack_at, out_after}
use Rattle.game_turns.specs.Tallies.{State, tally, out_at, idle_turns, mover_at, has_idle_pass}
use Rattle.game_turns.specs.Seats.{with_rack}
use Rattle.game_turns.specs.Changes.{after, after_pass, after_standing, after_waiting, after_withdraw, after_idle, after_idle_pass, after_challenge, after_time, after_last_rack}

-- counting one by one up to a limit
run_more : (limit n : ℕ) → min limit (min limit n + 1) ≡ min limit (n + 1)
run_more limit n = omega arith

run_none : (limit : ℕ) → 0 ≡ min limit 0
run_none limit = omega arith

-- the same state with one more turn in its run, as the change counts it and as it is counted in the events
one_idle : (rules : Rules) (past : List Event) (s : State)
    → record s { zero_run = min rules.zero_limit (min rules.zero_limit (idle_turns rules false past) + 1) } ≡ record s { zero_run = min rules.zero_limit (idle_turns rules false past + 1) }
one_idle rules past s = ap (λ (z : ℕ). record s { zero_run = z }) (run_more rules.zero_limit (idle_turns rules false past))

-- an event with these parts
abbrev pub made : ℕ → Seat → Option (List ℕ) → EventKind → ℤ → ℤ → Event
made line player rack what score total = record { line = line; player = player; rack = rack; kind = what; score = score; total = total }

-- the state after an event is the tally with the event
abbrev IsMore : Rules → List Event → Event → (withdrawn : Bool) → Type 0
IsMore rules past e w = after rules (tally rules false past) e w ≡ tally rules w (e ∷ past)

-- this holds for each player, whether or not a withdrawal comes after the event
each_way : (rules : Rules) (past : List Event) (e : Seat → Event) → IsMore rules past (e First) true → IsMore rules past (e First) false
    → IsMore rules past (e Second) true → IsMore rules past (e Second) false → (player : Seat) (w : Bool) → IsMore rules past (e player) w
each_way rules past e a b c d First true = a
each_way rules past e a b c d First false = b
each_way rules past e a b c d Second true = c
each_way rules past e a b c d Second false = d

pub challenge_more : (rules : Rules) (past : List Event) (line : ℕ) (player : Seat) (rack : Option (List ℕ)) (score total : ℤ) (w : Bool)
    → IsMore rules past (made line player rack kind.Challenge score total) w
unfolding tally after after_challenge
challenge_more rules past line player rack score total w = each_way rules past (λ p. made line p rack kind.Challenge score total) refl refl refl refl player w

pub time_more : (rules : Rules) (past : List Event) (line : ℕ) (player : Seat) (rack : Option (List ℕ)) (score total : ℤ) (w : Bool)
    → IsMore rules past (made line player rack kind.Time score total) w
unfolding tally after after_time
time_more rules past line player rack score total w = each_way rules past (λ p. made line p rack kind.Time score total) refl refl refl refl player w

pub last_rack_more : (rules : Rules) (past : List Event) (line : ℕ) (player : Seat) (rack : Option (List ℕ)) (tiles : List ℕ) (score total : ℤ) (w : Bool)
    → IsMore rules past (made line player rack (kind.LastRack tiles) score total) w
unfolding tally after after_last_rack
last_rack_more rules past line player rack tiles score total w =
    each_way rules past (λ p. made line p rack (kind.LastRack tiles) score total) refl refl refl refl player w

pub exchange_more : (rules : Rules) (past : List Event) (line : ℕ) (player : Seat) (rack : Option (List ℕ)) (tiles : List ℕ) (score total : ℤ) (w : Bool)
    → IsMore rules past (made line player rack (kind.Exchange tiles) score total) w
unfolding tally after after_idle
exchange_more rules past line player rack tiles score total w =
    let one = λ (p : Seat) (v : Bool). one_idle rules past (tally rules v (made line p rack (kind.Exchange tiles) score total ∷ past)) in
    each_way rules past (λ p. made line p rack (kind.Exchange tiles) score total) (one First true) (one First false) (one Second true) (one Second false) player w

pub unknown_more : (rules : Rules) (past : List Event) (line : ℕ) (player : Seat) (rack : Option (List ℕ)) (n : ℕ) (score total : ℤ) (w : Bool)
    → IsMore rules past (made line player rack (kind.ExchangeUnknown n) score total) w
unfolding tally after after_idle
unknown_more rules past line player rack n score total w =
    let one = λ (p : Seat) (v : Bool). one_idle rules past (tally rules v (made line p rack (kind.ExchangeUnknown n) score total ∷ past)) in
    each_way rules past (λ p. made line p rack (kind.ExchangeUnknown n) score total) (one First true) (one First false) (one Second true) (one Second false) player w

-- a state with what a pass does to the mover, to the run and to the pass after a player is out, by who is out before it
abbrev passed_with : State → Rules → List Event → Seat → Option Seat → State
passed_with t rules past player o =
    record t {
      mover = if is_none o then Some (other_seat player) else mover_at rules false past;
      zero_run = min rules.zero_limit (if is_none o then idle_turns rules false past + 1 else idle_turns rules false past);
      idle_pass = is_some o || has_idle_pass rules past;
    }

-- a pass that is a turn: the run is counted up to its limit
turn_passed : (t : State) (rules : Rules) (past : List Event) (player : Seat) → out_at rules false past ≡ None
    → record (passed_with t rules past player None) { zero_run = min rules.zero_limit (min rules.zero_limit (idle_turns rules false past) + 1) }
    ≡ passed_with t rules past player (out_at rules false past)
turn_passed t rules past player none = one_idle rules past (passed_with t rules past player None) ∙ ap (passed_with t rules past player) (sym none)

pub pass_more : (rules : Rules) (past : List Event) (line : ℕ) (player : Seat) (rack : Option (List ℕ)) (score total : ℤ) (w : Bool) (o : Option Seat) → out_at rules false past ≡ o
    → after_pass rules (tally rules false past) (made line player rack kind.Pass score total) o ≡ tally rules w (made line player rack kind.Pass score total ∷ past)
unfolding tally after_idle after_idle_pass
pass_more rules past line First rack score total true None e = turn_passed (tally rules true (made line First rack kind.Pass score total ∷ past)) rules past First e
pass_more rules past line First rack score total true (Some x) e = ap (passed_with (tally rules true (made line First rack kind.Pass score total ∷ past)) rules past First) (sym e)
pass_more rules past line First rack score total false None e = turn_passed (tally rules false (made line First rack kind.Pass score total ∷ past)) rules past First e
pass_more rules past line First rack score total false (Some x) e = ap (passed_with (tally rules false (made line First rack kind.Pass score total ∷ past)) rules past First) (sym e)
pass_more rules past line Second rack score total true None e = turn_passed (tally rules true (made line Second rack kind.Pass score total ∷ past)) rules past Second e
pass_more rules past line Second rack score total true (Some x) e = ap (passed_with (tally rules true (made line Second rack kind.Pass score total ∷ past)) rules past Second) (sym e)
pass_more rules past line Second rack score total false None e = turn_passed (tally rules false (made line Second rack kind.Pass score total ∷ past)) rules past Second e
pass_more rules past line Second rack score total false (Some x) e = ap (passed_with (tally rules false (made line Second rack kind.Pass score total ∷ past)) rules past Second) (sym e)

-- ---- plays

-- the bag after a number of tiles are drawn from it, or all if it has fewer
bag_falls : (whole laid n : ℕ) → whole - laid - min n (whole - laid) ≡ whole - (n + laid)
bag_falls whole laid n = omega arith

-- the rack after a number of tiles were laid and drawn
rack_refills : (whole laid drawn own n : ℕ) → n ≤ 7 + drawn - own
    → 7 + drawn - own - 0 - n + min n (whole - laid) ≡ 7 + ((whole - laid - (whole - (n + laid))) + drawn) - (n + own)
rack_refills whole laid drawn own n fits = omega arith

rack_refilled_at : (whole laid drawn own n : ℕ) → n ≤ 7 + drawn - own
    → 7 + drawn - own - 0 - n + min n (whole - laid) ≡ 7 + ((whole - laid - (whole - (n + laid))) + drawn) - (n + own) - 0
rack_refilled_at whole laid drawn own n fits = omega arith

rack_waits : (rack n : ℕ) → rack - 0 - n ≡ rack - (n + 0)
rack_waits rack n = omega arith

rack_restored : (rack n : ℕ) → n ≤ rack → rack - (n + 0) + n ≡ rack - 0
rack_restored rack n fits = omega arith

-- who is out after a play by a player, if these are the bag and the rack
abbrev out_with : Seat → Option Seat → ℕ → ℕ → Option Seat
out_with player before bag rack = if bag == 0 && rack == 0 then Some player else before

-- two states that differ in what a play changes
played_alike : (t : State) (x y : Sides) (a b : ℕ) (m n : Option Seat) (u v : ℕ) → x ≡ y → a ≡ b → m ≡ n → u ≡ v
    → record t { sides = x; bag = a; out = m; zero_run = u } ≡ record t { sides = y; bag = b; out = n; zero_run = v }
played_alike t x y a b m n u v sides bags outs runs =
    ap (λ (s : Sides). record t { sides = s; bag = a; out = m; zero_run = u }) sides
    ∙ ap (λ (k : ℕ). record t { sides = y; bag = k; out = m; zero_run = u }) bags
    ∙ ap (λ (o : Option Seat). record t { sides = y; bag = b; out = o; zero_run = u }) outs
    ∙ ap (λ (k : ℕ). record t { sides = y; bag = b; out = n; zero_run = k }) runs

-- the new tiles of a text
abbrev pub laid_at : List Event → Dir → ℕ → List Symbol → List Placed
laid_at past dir at word = placement_of (board_at false past) dir at word

abbrev pub play_made : ℕ → Seat → Option (List ℕ) → Dir → ℕ → List Symbol → ℤ → ℤ → Event
play_made line player rack dir at word score total = made line player rack (kind.Play at dir word) score total

-- a state after a play that stands, as the change makes it and as it is read from the events
played_from : (seat : Seat) (before : Option Seat) (whole laid own drawn n limit : ℕ) (t : State) → n ≤ 7 + drawn - own
    → record t {
      sides = with_rack t.sides seat (7 + drawn - own - 0 - n + min n (whole - laid));
      bag = whole - laid - min n (whole - laid);
      out = out_with seat before (whole - laid - min n (whole - laid)) (7 + drawn - own - 0 - n + min n (whole - laid));
      zero_run = 0;
    }
    ≡ record t {
      sides = with_rack t.sides seat (7 + ((whole - laid - (whole - (n + laid))) + drawn) - (n + own) - 0);
      bag = whole - (n + laid);
      out = out_with seat before (whole - (n + laid)) (7 + ((whole - laid - (whole - (n + laid))) + drawn) - (n + own));
      zero_run = min limit 0;
    }
played_from seat before whole laid own drawn n limit t within =
    let bags = bag_falls whole laid n in
    let racks = rack_refills whole laid drawn own n within in
    played_alike t
    (with_rack t.sides seat (7 + drawn - own - 0 - n + min n (whole - laid)))
    (with_rack t.sides seat (7 + ((whole - laid - (whole - (n + laid))) + drawn) - (n + own) - 0))
    (whole - laid - min n (whole - laid)) (whole - (n + laid))
    (out_with seat before (whole - laid - min n (whole - laid)) (7 + drawn - own - 0 - n + min n (whole - laid)))
    (out_with seat before (whole - (n + laid)) (7 + ((whole - laid - (whole - (n + laid))) + drawn) - (n + own)))
    0 (min limit 0)
    (ap (λ (r : ℕ). with_rack t.sides seat r) (rack_refilled_at whole laid drawn own n within))
    bags
    (ap (λ (b : ℕ). out_with seat before b (7 + drawn - own - 0 - n + min n (whole - laid))) bags
    ∙ ap (out_with seat before (whole - (n + laid))) racks)
    (run_none limit)

pub play_stands : (rules : Rules) (past : List Event) (line : ℕ) (player : Seat) (rack : Option (List ℕ)) (dir : Dir) (at : ℕ) (word : List Symbol) (score total : ℤ)
    → length (laid_at past dir at word) ≤ rack_at rules player false past
    → after rules (tally rules false past) (play_made line player rack dir at word score total) false ≡ tally rules false ((play_made line player rack dir at word score total) ∷ past)
unfolding tally after after_standing
play_stands rules past line First rack dir at word score total fits =
    let plays = standing false past in
    played_from First (out_after rules plays) (sum rules.counts - 14) (tiles_laid plays) (laid_by First plays) (drawn_by rules First plays) (length (laid_at past dir at word)) rules.zero_limit
    (tally rules false ((play_made line First rack dir at word score total) ∷ past)) (omega arith)
play_stands rules past line Second rack dir at word score total fits =
    let plays = standing false past in
    played_from Second (out_after rules plays) (sum rules.counts - 14) (tiles_laid plays) (laid_by Second plays) (drawn_by rules Second plays) (length (laid_at past dir at word)) rules.zero_limit
    (tally rules false ((play_made line Second rack dir at word score total) ∷ past)) (omega arith)

-- a state after a play that awaits its withdrawal, as the change makes it and as it is read from the events
waits_from : (seat : Seat) (rack n : ℕ) (t : State) → record t { sides = with_rack t.sides seat (rack - 0 - n) } ≡ record t { sides = with_rack t.sides seat (rack - (n + 0)) }
waits_from seat rack n t = ap (λ (r : ℕ). record t { sides = with_rack t.sides seat r }) (rack_waits rack n)

pub play_waits : (rules : Rules) (past : List Event) (line : ℕ) (player : Seat) (rack : Option (List ℕ)) (dir : Dir) (at : ℕ) (word : List Symbol) (score total : ℤ)
    → after rules (tally rules false past) (play_made line player rack dir at word score total) true ≡ tally rules true ((play_made line player rack dir at word score total) ∷ past)
unfolding tally after after_waiting
play_waits rules past line First rack dir at word score total =
    waits_from First (rack_after rules First (standing false past)) (length (laid_at past dir at word)) (tally rules true ((play_made line First rack dir at word score total) ∷ past))
play_waits rules past line Second rack dir at word score total =
    waits_from Second (rack_after rules Second (standing false past)) (length (laid_at past dir at word)) (tally rules true ((play_made line Second rack dir at word score total) ∷ past))

-- ---- withdrawals

-- two states that differ in what a withdrawal changes
withdrawn_alike : (t : State) (a b : List (Option Tile)) (x y : Sides) (u v : ℕ) → a ≡ b → x ≡ y → u ≡ v
    → record t { board = a; sides = x; zero_run = u } ≡ record t { board = b; sides = y; zero_run = v }
withdrawn_alike t a b x y u v boards sides runs =
    ap (λ (c : List (Option Tile)). record t { board = c; sides = x; zero_run = u }) boards
    ∙ ap (λ (s : Sides). record t { board = b; sides = s; zero_run = u }) sides
    ∙ ap (λ (k : ℕ). record t { board = b; sides = y; zero_run = k }) runs

abbrev pub withdraw_made : ℕ → Seat → Option (List ℕ) → ℤ → ℤ → Event
withdraw_made line player rack score total = made line player rack kind.Withdraw score total

-- a state after a withdrawal, as the change makes it and as it is read from the events
withdrawn_from : TakingBackRestores → (rules : Rules) (past : List Event) (seat : Seat) (dir : Dir) (at : ℕ) (word : List Symbol) (t : State)
    → length (laid_at past dir at word) ≤ rack_after rules seat (standing false past)
    → overlaps (board_at false past) (laid_at past dir at word) ≡ false
    → record t {
      board = without_tiles (with_tiles (board_at false past) (laid_at past dir at word)) (laid_at past dir at word);
      sides = with_rack t.sides seat (rack_after rules seat (standing false past) - (length (laid_at past dir at word) + 0) + length (laid_at past dir at word));
      zero_run = min rules.zero_limit (min rules.zero_limit (idle_turns rules false past) + 1);
    }
    ≡ record t {
      board = board_at false past;
      sides = with_rack t.sides seat (rack_after rules seat (standing false past) - 0);
      zero_run = min rules.zero_limit (idle_turns rules false past + 1);
    }
withdrawn_from restores rules past seat dir at word t within free =
    let ps = laid_at past dir at word in
    let whole = rack_after rules seat (standing false past) in
    withdrawn_alike t
    (without_tiles (with_tiles (board_at false past) ps) ps) (board_at false past)
    (with_rack t.sides seat (whole - (length ps + 0) + length ps)) (with_rack t.sides seat (whole - 0))
    (min rules.zero_limit (min rules.zero_limit (idle_turns rules false past) + 1)) (min rules.zero_limit (idle_turns rules false past + 1))
    (restores (board_at false past) ps free)
    (ap (λ (r : ℕ). with_rack t.sides seat r) (rack_restored whole (length ps) within))
    (run_more rules.zero_limit (idle_turns rules false past))

pub play_withdraws : TakingBackRestores → (rules : Rules) (past : List Event) (line : ℕ) (player : Seat) (rack : Option (List ℕ)) (dir : Dir) (at : ℕ) (word : List Symbol) (score total : ℤ)
    (line2 : ℕ) (rack2 : Option (List ℕ)) (score2 total2 : ℤ) (w : Bool)
    → length (laid_at past dir at word) ≤ rack_at rules player false past
    → overlaps (board_at false past) (laid_at past dir at word) ≡ false
    → after rules (tally rules true ((play_made line player rack dir at word score total) ∷ past)) (withdraw_made line2 player rack2 score2 total2) w ≡ tally rules w ((withdraw_made line2 player rack2 score2 total2) ∷ (play_made line player rack dir at word score total) ∷ past)
unfolding tally after after_withdraw
play_withdraws restores rules past line First rack dir at word score total line2 rack2 score2 total2 true fits free =
    withdrawn_from restores rules past First dir at word (tally rules true ((withdraw_made line2 First rack2 score2 total2) ∷ (play_made line First rack dir at word score total) ∷ past)) (omega arith) free
play_withdraws restores rules past line First rack dir at word score total line2 rack2 score2 total2 false fits free =
    withdrawn_from restores rules past First dir at word (tally rules false ((withdraw_made line2 First rack2 score2 total2) ∷ (play_made line First rack dir at word score total) ∷ past)) (omega arith) free
play_withdraws restores rules past line Second rack dir at word score total line2 rack2 score2 total2 true fits free =
    withdrawn_from restores rules past Second dir at word (tally rules true ((withdraw_made line2 Second rack2 score2 total2) ∷ (play_made line Second rack dir at word score total) ∷ past)) (omega arith) free
play_withdraws restores rules past line Second rack dir at word score total line2 rack2 score2 total2 false fits free =
    withdrawn_from restores rules past Second dir at word (tally rules false ((withdraw_made line2 Second rack2 score2 total2) ∷ (play_made line Second rack dir at word score total) ∷ past)) (omega arith) free
