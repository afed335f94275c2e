-- If every event of a record is allowed, its steps are a run.
use Rattle.std.proofs.Common.{◌≡◌, ℕ, ℤ, ◌+◌, ◌-◌, ◌<◌, ◌≤◌, min, Bool, true, false, List, [], ◌∷◌, ◌++◌, length, take, reverse, get_or, slice_get, refl, sym, ap, ◌∙◌, subst, arith, Option, Some, None, is_some, sum}
use Rattle.std.specs.Prelude.{if◌then◌else◌}
use Rattle.std.proofs.lemmas.Grind.{reverse_onto}
use Rattle.std.proofs.lemmas.List.{length-append, reverse-reverse}
use Rattle.std.proofs.lemmas.Option.{slice_get-get_or}
use Rattle.std.proofs.Math.Seq.{take-append_seam, get_or-append_seam}
use mathlib.Core.List.{reverse_aux}
use Rattle.ref_tiles.specs.declared.rulebook.Rules.{Rules}
use Rattle.ref_tiles.specs.declared.symbols.Symbol.{Symbol}
use Rattle.ref_board.specs.declared.directions.Dir.{Dir}
use Rattle.ref_play.specs.declared.placed.Placed.{Placed}
use Rattle.gcg_read.specs.Players.{same_seat}
use Rattle.gcg_read.specs.declared.events.Seat.{Seat}
use Rattle.gcg_read.specs.declared.events.Seat.TheVariants.{First, Second}
use Rattle.gcg_read.specs.declared.events.Event.{Event}
use Rattle.gcg_read.specs.declared.events.EventKind.{EventKind}
use Rattle.gcg_read.specs.declared.events.EventKind.TheVariants as kind
use Rattle.game_turns.specs.Seats.{side_of}
use Rattle.game_turns.specs.Standing.{is_withdraw, standing, board_at, tiles_laid, laid_by, drawn_by, bag_after, rack_after, rack_at}
use Rattle.game_turns.specs.Tallies.{tally, latest_at, latest_play, out_at, tally_at, withdraws}
use Rattle.game_turns.specs.LatestEvents.{latest_tiles}
use Rattle.game_turns.specs.Checks.{check_withdraw, fault_in}
use Rattle.game_turns.specs.Places.{AreAllowed}
use Rattle.game_turns.proofs.Allowed.{allowed_kind, withdraws_own, withdraws_no_tiles, withdraws_nothing}
use Rattle.game_turns.proofs.TallyLaws.{made, laid_at}
use Rattle.game_turns.proofs.NextTallies.{IsNext}
use Rattle.game_turns.proofs.PlaceLaws.{fault_here}
use Rattle.deal_steps.specs.declared.steps.Motion.TheVariants as motion
use Rattle.deal_steps.specs.declared.steps.Act.{Act}
use Rattle.deal_steps.specs.declared.steps.Act.TheVariants as act
use Rattle.deal_steps.specs.Runs.{Course, size_in, MayAct, act_course, IsOnCourse, IsRunFrom, first_course, IsRun}
use Rattle.game_deal.specs.Recorded.{placed_tiles, last_holder, stated, taken_back_act, act_of, step_in, steps_after, steps_of}
use Rattle.game_deal.proofs.PlacedLaws.{sum-placed}
use Rattle.game_deal.proofs.CheckLaws.{exchange_parts, last_rack_parts}
use Rattle.game_deal.proofs.CourseLaws.{course_at, ArePast, play_next, board_is}

-- ---- what each event may do, and what it does to the course

-- an act that the course allows, and that leads to the next course
abbrev Goes : Rules → (before : Bool) → (past : List Event) → Act → Event → (w : Bool) → Type 0
Goes rules before past what e w =
    MayAct (course_at rules before past) e.player what × (act_course (course_at rules before past) e.player what ≡ course_at rules w (e ∷ past))

-- the size of a rack in the tally and on the course
size_is : (rules : Rules) (past : List Event) (seat : Seat) → (side_of (tally rules false past).sides seat).rack ≡ size_in (course_at rules false past) seat
unfolding tally
size_is rules past First = refl
size_is rules past Second = refl

bag_is : (rules : Rules) (past : List Event) → (tally rules false past).bag ≡ (course_at rules false past).bag
unfolding tally
bag_is rules past = refl

-- a challenge, and a time penalty
challenge_goes : (rules : Rules) (past : List Event) (line : ℕ) (player : Seat) (rack : Option (List ℕ)) (score total : ℤ) (w : Bool)
    → Goes rules false past act.Rests (made line player rack kind.Challenge score total) w
challenge_goes rules past line player rack score total true = (refl, refl)
challenge_goes rules past line player rack score total false = (refl, refl)

time_goes : (rules : Rules) (past : List Event) (line : ℕ) (player : Seat) (rack : Option (List ℕ)) (score total : ℤ) (w : Bool)
    → Goes rules false past act.Rests (made line player rack kind.Time score total) w
time_goes rules past line player rack score total true = (refl, refl)
time_goes rules past line player rack score total false = (refl, refl)

-- a pass, if a player is out or none is
pass_goes : (rules : Rules) (past : List Event) (line : ℕ) (player : Seat) (rack : Option (List ℕ)) (score total : ℤ) (w out : Bool)
    → Goes rules false past (if out then act.Rests else act.Turns (stated rack) motion.Keeps) (made line player rack kind.Pass score total) w
pass_goes rules past line player rack score total true true = (refl, refl)
pass_goes rules past line player rack score total true false = ((refl, tt), refl)
pass_goes rules past line player rack score total false true = (refl, refl)
pass_goes rules past line player rack score total false false = ((refl, tt), refl)

-- an exchange
exchange_goes : (rules : Rules) (past : List Event) (line : ℕ) (player : Seat) (rack : Option (List ℕ)) (tiles : List ℕ) (score total : ℤ) (w : Bool)
    → sum tiles ≤ (side_of (tally rules false past).sides player).rack → sum tiles ≤ (tally rules false past).bag
    → Goes rules false past (act.Turns (stated rack) (motion.Throws tiles)) (made line player rack (kind.Exchange tiles) score total) w
exchange_goes rules past line player rack tiles score total true in_rack in_bag =
    let size = size_is rules past player in let bag = bag_is rules past in ((refl, (omega arith, omega arith)), refl)
exchange_goes rules past line player rack tiles score total false in_rack in_bag =
    let size = size_is rules past player in let bag = bag_is rules past in ((refl, (omega arith, omega arith)), refl)

unknown_goes : (rules : Rules) (past : List Event) (line : ℕ) (player : Seat) (rack : Option (List ℕ)) (n : ℕ) (score total : ℤ) (w : Bool)
    → n ≤ (side_of (tally rules false past).sides player).rack → n ≤ (tally rules false past).bag
    → Goes rules false past (act.Turns (stated rack) (motion.ThrowsUnknown n)) (made line player rack (kind.ExchangeUnknown n) score total) w
unknown_goes rules past line player rack n score total true in_rack in_bag =
    let size = size_is rules past player in let bag = bag_is rules past in ((refl, (omega arith, omega arith)), refl)
unknown_goes rules past line player rack n score total false in_rack in_bag =
    let size = size_is rules past player in let bag = bag_is rules past in ((refl, (omega arith, omega arith)), refl)

-- a last rack
last_rack_goes : (rules : Rules) (past : List Event) (line : ℕ) (player : Seat) (rack : Option (List ℕ)) (tiles : List ℕ) (score total : ℤ) (w : Bool) (holder : Seat)
    → sum tiles ≡ (side_of (tally rules false past).sides holder).rack
    → Goes rules false past (act.Ends holder tiles) (made line player rack (kind.LastRack tiles) score total) w
last_rack_goes rules past line player rack tiles score total true holder whole = ((refl, whole ∙ size_is rules past holder), refl)
last_rack_goes rules past line player rack tiles score total false holder whole = ((refl, whole ∙ size_is rules past holder), refl)

-- ---- plays

-- a rack without the tiles of a play that does not stand
waits_size : (rack n used : ℕ) → used ≡ n → rack - 0 - used ≡ rack - (n + 0)
waits_size rack n used e = omega arith

used_fits : (rules : Rules) (past : List Event) (seat : Seat) (dir : Dir) (at : ℕ) (word : List Symbol) → length (laid_at past dir at word) ≤ rack_at rules seat false past
    → sum (placed_tiles (laid_at past dir at word)) ≤ rack_at rules seat false past
used_fits rules past seat dir at word fits = let used = sum-placed (laid_at past dir at word) in omega arith

tries_goes : (rules : Rules) (past : List Event) (line : ℕ) (player : Seat) (rack : Option (List ℕ)) (dir : Dir) (at : ℕ) (word : List Symbol) (score total : ℤ)
    → length (laid_at past dir at word) ≤ rack_at rules player false past
    → Goes rules false past (act.Turns (stated rack) (motion.Tries (placed_tiles (laid_at past dir at word)))) (made line player rack (kind.Play at dir word) score total) true
tries_goes rules past line First rack dir at word score total fits =
    let e = made line First rack (kind.Play at dir word) score total in (
      (refl, used_fits rules past First dir at word fits),
      ap (λ (n : ℕ). record (course_at rules true (e ∷ past)) { first = n }) (waits_size (rack_after rules First (standing false past)) _ _ (sum-placed (laid_at past dir at word))),
    )
tries_goes rules past line Second rack dir at word score total fits =
    let e = made line Second rack (kind.Play at dir word) score total in (
      (refl, used_fits rules past Second dir at word fits),
      ap (λ (n : ℕ). record (course_at rules true (e ∷ past)) { second = n }) (waits_size (rack_after rules Second (standing false past)) _ _ (sum-placed (laid_at past dir at word))),
    )

-- a rack and the bag after a play that stands
refilled : (whole laid drawn own n used : ℕ) → used ≡ n → n ≤ 7 + drawn - own - 0
    → 7 + drawn - own - 0 - used + min n (whole - laid) ≡ 7 + ((whole - laid - (whole - (n + laid))) + drawn) - (n + own) - 0
refilled whole laid drawn own n used e fits = omega arith

bag_remaining : (whole laid n : ℕ) → whole - laid - min n (whole - laid) ≡ whole - (n + laid)
bag_remaining whole laid n = omega arith

drawn_is : (n used bag : ℕ) → used ≡ n → min n bag ≡ min used bag
drawn_is n used bag e = ap (λ (k : ℕ). min k bag) (sym e)

-- the course after a play that stands, by the rack of its player and the bag
laid_course : (course : (rack bag : ℕ) → Course) (whole laid drawn own n used : ℕ) → used ≡ n → n ≤ 7 + drawn - own - 0
    → course (7 + drawn - own - 0 - used + min n (whole - laid)) (whole - laid - min n (whole - laid))
    ≡ course (7 + ((whole - laid - (whole - (n + laid))) + drawn) - (n + own) - 0) (whole - (n + laid))
laid_course course whole laid drawn own n used e fits =
    ap (λ (k : ℕ). course k (whole - laid - min n (whole - laid))) (refilled whole laid drawn own n used e fits)
    ∙ ap (course (7 + ((whole - laid - (whole - (n + laid))) + drawn) - (n + own) - 0)) (bag_remaining whole laid n)

lays_goes : (rules : Rules) (past : List Event) (line : ℕ) (player : Seat) (rack : Option (List ℕ)) (dir : Dir) (at : ℕ) (word : List Symbol) (score total : ℤ)
    → length (laid_at past dir at word) ≤ rack_at rules player false past
    → Goes rules false past
    (act.Turns (stated rack) (motion.Lays (placed_tiles (laid_at past dir at word)) (min (length (laid_at past dir at word)) (bag_after rules (standing false past)))))
    (made line player rack (kind.Play at dir word) score total) false
lays_goes rules past line First rack dir at word score total fits =
    let next = course_at rules false (made line First rack (kind.Play at dir word) score total ∷ past) in (
      (refl, (drawn_is _ _ (bag_after rules (standing false past)) (sum-placed (laid_at past dir at word)), used_fits rules past First dir at word fits)),
      laid_course (λ (k bag : ℕ). record next { first = k; bag = bag }) (sum rules.counts - 14) (tiles_laid (standing false past)) (drawn_by rules First (standing false past))
          (laid_by First (standing false past)) (length (laid_at past dir at word)) (sum (placed_tiles (laid_at past dir at word))) (sum-placed (laid_at past dir at word)) fits,
    )
lays_goes rules past line Second rack dir at word score total fits =
    let next = course_at rules false (made line Second rack (kind.Play at dir word) score total ∷ past) in (
      (refl, (drawn_is _ _ (bag_after rules (standing false past)) (sum-placed (laid_at past dir at word)), used_fits rules past Second dir at word fits)),
      laid_course (λ (k bag : ℕ). record next { second = k; bag = bag }) (sum rules.counts - 14) (tiles_laid (standing false past)) (drawn_by rules Second (standing false past))
          (laid_by Second (standing false past)) (length (laid_at past dir at word)) (sum (placed_tiles (laid_at past dir at word))) (sum-placed (laid_at past dir at word)) fits,
    )

-- ---- withdrawals

-- a rack with the tiles of a play that is taken back
restored : (rack n used : ℕ) → used ≡ n → n ≤ rack - 0 → rack - (n + 0) + used ≡ rack - 0
restored rack n used e fits = omega arith

-- what is made from the size of the rack, if it has the tiles of the play again
with_restored : {A : Type 0} (make : ℕ → A) (rack : ℕ) (ps : List Placed) → length ps ≤ rack - 0
    → make (rack - (length ps + 0) + sum (placed_tiles ps)) ≡ make (rack - 0)
with_restored make rack ps fits = ap make (restored rack (length ps) (sum (placed_tiles ps)) (sum-placed ps) fits)

takes_back : (rules : Rules) (past : List Event) (line : ℕ) (player : Seat) (rack : Option (List ℕ)) (dir : Dir) (at : ℕ) (word : List Symbol) (score total : ℤ)
    (line2 : ℕ) (player2 : Seat) (rack2 : Option (List ℕ)) (score2 total2 : ℤ) (w : Bool)
    → same_seat player player2 ≡ true → length (laid_at past dir at word) ≤ rack_at rules player false past
    → Goes rules true (made line player rack (kind.Play at dir word) score total ∷ past) (act.TakesBack (placed_tiles (laid_at past dir at word)))
    (made line2 player2 rack2 kind.Withdraw score2 total2) w
takes_back rules past line First rack dir at word score total line2 First rack2 score2 total2 true same fits =
    (refl, with_restored (λ (n : ℕ). record (course_at rules false past) { first = n }) (rack_after rules First (standing false past)) (laid_at past dir at word) fits)
takes_back rules past line First rack dir at word score total line2 First rack2 score2 total2 false same fits =
    (refl, with_restored (λ (n : ℕ). record (course_at rules false past) { first = n }) (rack_after rules First (standing false past)) (laid_at past dir at word) fits)
takes_back rules past line First rack dir at word score total line2 Second rack2 score2 total2 w same fits = cc
takes_back rules past line Second rack dir at word score total line2 First rack2 score2 total2 w same fits = cc
takes_back rules past line Second rack dir at word score total line2 Second rack2 score2 total2 true same fits =
    (refl, with_restored (λ (n : ℕ). record (course_at rules false past) { second = n }) (rack_after rules Second (standing false past)) (laid_at past dir at word) fits)
takes_back rules past line Second rack dir at word score total line2 Second rack2 score2 total2 false same fits =
    (refl, with_restored (λ (n : ℕ). record (course_at rules false past) { second = n }) (rack_after rules Second (standing false past)) (laid_at past dir at word) fits)

-- the latest event, by its kind
withdraw_goes_kind : (rules : Rules) (list : List (List ℕ)) (past : List Event) (line : ℕ) (player : Seat) (rack : Option (List ℕ)) (what : EventKind) (score total : ℤ)
    (line2 : ℕ) (player2 : Seat) (rack2 : Option (List ℕ)) (score2 total2 : ℤ) (w : Bool)
    → IsNext rules list past (made line player rack what score total)
    → check_withdraw list (tally rules true (made line player rack what score total ∷ past)) (made line2 player2 rack2 kind.Withdraw score2 total2)
    (latest_at rules true (made line player rack what score total ∷ past)) ≡ None
    → Goes rules true (made line player rack what score total ∷ past) (taken_back_act (latest_tiles (latest_at rules true (made line player rack what score total ∷ past))))
    (made line2 player2 rack2 kind.Withdraw score2 total2) w
withdraw_goes_kind rules list past line player rack (kind.Play at dir word) score total line2 player2 rack2 score2 total2 w before here =
    let s = tally rules true (made line player rack (kind.Play at dir word) score total ∷ past) in
    let own = withdraws_own list s (made line2 player2 rack2 kind.Withdraw score2 total2) (latest_play rules (board_at false past) player dir at word false) here in
    takes_back rules past line player rack dir at word score total line2 player2 rack2 score2 total2 w own (play_next rules list past line player rack dir at word score total before).1
withdraw_goes_kind rules list past line player rack kind.Pass score total line2 player2 rack2 score2 total2 w before here = absurd (withdraws_nothing list _ _ here)
withdraw_goes_kind rules list past line player rack (kind.Exchange tiles) score total line2 player2 rack2 score2 total2 w before here = absurd (withdraws_nothing list _ _ here)
withdraw_goes_kind rules list past line player rack (kind.ExchangeUnknown n) score total line2 player2 rack2 score2 total2 w before here = absurd (withdraws_nothing list _ _ here)
withdraw_goes_kind rules list past line player rack kind.Withdraw score total line2 player2 rack2 score2 total2 w before here = absurd (withdraws_no_tiles list _ _ _ here)
withdraw_goes_kind rules list past line player rack kind.Challenge score total line2 player2 rack2 score2 total2 w before here = absurd (withdraws_nothing list _ _ here)
withdraw_goes_kind rules list past line player rack kind.Time score total line2 player2 rack2 score2 total2 w before here = absurd (withdraws_nothing list _ _ here)
withdraw_goes_kind rules list past line player rack (kind.LastRack tiles) score total line2 player2 rack2 score2 total2 w before here = absurd (withdraws_nothing list _ _ here)

withdraw_goes : (rules : Rules) (list : List (List ℕ)) (past : List Event) (line2 : ℕ) (player2 : Seat) (rack2 : Option (List ℕ)) (score2 total2 : ℤ) (w : Bool)
    → ArePast rules list past → check_withdraw list (tally rules true past) (made line2 player2 rack2 kind.Withdraw score2 total2) (latest_at rules true past) ≡ None
    → Goes rules true past (taken_back_act (latest_tiles (latest_at rules true past))) (made line2 player2 rack2 kind.Withdraw score2 total2) w
withdraw_goes rules list [] line2 player2 rack2 score2 total2 w before here = absurd (withdraws_nothing list _ _ here)
withdraw_goes rules list (e ∷ past) line2 player2 rack2 score2 total2 w before here =
    withdraw_goes_kind rules list past e.line e.player e.rack e.kind e.score e.total line2 player2 rack2 score2 total2 w before.0 here

-- ---- an event of any kind

latest_is : (rules : Rules) (w : Bool) (past : List Event) → (tally rules w past).latest ≡ latest_at rules w past
unfolding tally
latest_is rules w past = refl

kind_goes : (rules : Rules) (list : List (List ℕ)) (past : List Event) (line : ℕ) (player : Seat) (rack : Option (List ℕ)) (what : EventKind) (score total : ℤ) (w : Bool)
    → ArePast rules list past → IsNext rules list past (made line player rack what score total)
    → Goes rules (is_withdraw what) past (act_of (tally rules (is_withdraw what) past) (made line player rack what score total) what w) (made line player rack what score total) w
unfolding tally
kind_goes rules list past line player rack (kind.Play at dir word) score total true before here =
    tries_goes rules past line player rack dir at word score total (play_next rules list past line player rack dir at word score total here).1
kind_goes rules list past line player rack (kind.Play at dir word) score total false before here =
    lays_goes rules past line player rack dir at word score total (play_next rules list past line player rack dir at word score total here).1
kind_goes rules list past line player rack kind.Pass score total w before here =
    pass_goes rules past line player rack score total w (is_some (out_at rules false past))
kind_goes rules list past line player rack (kind.Exchange tiles) score total w before here =
    let e = made line player rack (kind.Exchange tiles) score total in
    let s = tally rules false past in
    let parts = exchange_parts rules s e (sum tiles) (allowed_kind rules list s e here) in
    exchange_goes rules past line player rack tiles score total w parts.0 parts.1
kind_goes rules list past line player rack (kind.ExchangeUnknown n) score total w before here =
    let e = made line player rack (kind.ExchangeUnknown n) score total in
    let s = tally rules false past in
    let parts = exchange_parts rules s e n (allowed_kind rules list s e here) in
    unknown_goes rules past line player rack n score total w parts.0 parts.1
kind_goes rules list past line player rack kind.Withdraw score total w before here =
    let e = made line player rack kind.Withdraw score total in
    withdraw_goes rules list past line player rack score total w before
    (ap (check_withdraw list (tally rules true past) e) (sym (latest_is rules true past)) ∙ allowed_kind rules list (tally rules true past) e here)
kind_goes rules list past line player rack kind.Challenge score total w before here = challenge_goes rules past line player rack score total w
kind_goes rules list past line player rack kind.Time score total w before here = time_goes rules past line player rack score total w
kind_goes rules list past line player rack (kind.LastRack tiles) score total w before here =
    let e = made line player rack (kind.LastRack tiles) score total in
    let s = tally rules false past in
    last_rack_goes rules past line player rack tiles score total w (last_holder (out_at rules false past) player)
    (last_rack_parts rules s e tiles (allowed_kind rules list s e here))

goes : (rules : Rules) (list : List (List ℕ)) (past : List Event) (e : Event) (w : Bool) → ArePast rules list past → IsNext rules list past e
    → Goes rules (is_withdraw e.kind) past (act_of (tally rules (is_withdraw e.kind) past) e e.kind w) e w
goes rules list past e w before here = kind_goes rules list past e.line e.player e.rack e.kind e.score e.total w before here

-- a step on the course of its record
on_course : (rules : Rules) (list : List (List ℕ)) (past : List Event) (e : Event) (w : Bool) → ArePast rules list past → IsNext rules list past e
    → IsOnCourse (course_at rules (is_withdraw e.kind) past) (step_in (tally rules (is_withdraw e.kind) past) e w)
unfolding step_in tally
on_course rules list past e w before here =
    record {
      first = refl;
      second = refl;
      bag = refl;
      board = board_is rules list (is_withdraw e.kind) past before;
      may = (goes rules list past e w before here).0;
    }

-- and the course after it
course_after : (rules : Rules) (list : List (List ℕ)) (past : List Event) (e : Event) (w : Bool) → ArePast rules list past → IsNext rules list past e
    → act_course (course_at rules (is_withdraw e.kind) past) (step_in (tally rules (is_withdraw e.kind) past) e w).player (step_in (tally rules (is_withdraw e.kind) past) e w).act
    ≡ course_at rules w (e ∷ past)
unfolding step_in
course_after rules list past e w before here = (goes rules list past e w before here).1

-- ---- all events

-- each event is allowed after a past and those between
abbrev pub AreNext : Rules → (list : List (List ℕ)) → (past events : List Event) → Type 0
AreNext rules list past [] = Unit {0}
AreNext rules list past (e ∷ events) = IsNext rules list past e × AreNext rules list (e ∷ past) events

runs_from : (rules : Rules) (list : List (List ℕ)) (past events : List Event) → ArePast rules list past → AreNext rules list past events
    → IsRunFrom (course_at rules (withdraws (slice_get events 0)) past) (steps_after rules past events)
runs_from rules list past [] before here = tt
runs_from rules list past (e ∷ events) before here =
    let w = withdraws (slice_get events 0) in (
      on_course rules list past e w before here.0,
      subst (λ c. IsRunFrom c (steps_after rules (e ∷ past) events)) (sym (course_after rules list past e w before here.0))
          (runs_from rules list (e ∷ past) events (here.0, before) here.1),
    )

start_is : (rules : Rules) (w : Bool) → course_at rules w [] ≡ first_course rules
start_is rules true = let same : sum rules.counts - 14 - 0 ≡ sum rules.counts - 14 = omega arith in ap (λ (n : ℕ). record (first_course rules) { bag = n }) same
start_is rules false = let same : sum rules.counts - 14 - 0 ≡ sum rules.counts - 14 = omega arith in ap (λ (n : ℕ). record (first_course rules) { bag = n }) same

-- the event after a past is the one at its place
next_here : (rules : Rules) (list : List (List ℕ)) (past events : List Event) (e : Event) → AreAllowed rules list (reverse_aux past (e ∷ events)) → IsNext rules list past e
next_here rules list past events e allowed =
    let all = reverse_aux past (e ∷ events) in
    let front = reverse past in
    let place = length front in
    let parts : all ≡ front ++ e ∷ events = reverse_onto past e events in
    let size : place < length all = subst (λ (xs : List Event). place < length xs) (sym parts) (omega (arith, length-append front (e ∷ events))) in
    let is : slice_get all place ≡ Some e =
    slice_get-get_or all place e size ∙ ap Some (ap (λ (xs : List Event). get_or xs place e) parts ∙ get_or-append_seam front e events e) in
    let back : reverse (take place all) ≡ past = ap (λ (xs : List Event). reverse (take place xs)) parts ∙ ap reverse (take-append_seam front (e ∷ events)) ∙ reverse-reverse past in
    let fault : fault_in rules list (tally_at rules all place) e ≡ None = sym (fault_here rules list all place e is) ∙ allowed place size in
    let here : fault_in rules list (tally rules (is_withdraw e.kind) (reverse (take place all))) e ≡ None =
    subst (λ o. fault_in rules list (tally rules (withdraws o) (reverse (take place all))) e ≡ None) is fault in
    subst (λ xs. fault_in rules list (tally rules (is_withdraw e.kind) xs) e ≡ None) back here

next_all : (rules : Rules) (list : List (List ℕ)) (past events : List Event) → AreAllowed rules list (reverse_aux past events) → AreNext rules list past events
next_all rules list past [] allowed = tt
next_all rules list past (e ∷ events) allowed = (next_here rules list past events e allowed, next_all rules list (e ∷ past) events allowed)

-- if every event of a record is allowed, its steps are a run
pub allowed_runs : (rules : Rules) (list : List (List ℕ)) (events : List Event) → AreAllowed rules list events → IsRun rules (steps_of rules events)
allowed_runs rules list events allowed =
    subst (λ c. IsRunFrom c (steps_of rules events)) (start_is rules (withdraws (slice_get events 0)))
    (runs_from rules list [] events tt (next_all rules list [] events allowed))
