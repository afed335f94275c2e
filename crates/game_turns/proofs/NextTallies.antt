-- The state after an event that the rules allow is the tally at the next place.
use Rattle.std.proofs.Common.{◌≡◌, ℕ, ℤ, Bool, true, false, List, [], ◌∷◌, Option, None, refl, sym, ap, ◌∙◌}
use Rattle.ref_tiles.specs.declared.symbols.Symbol.{Symbol}
use Rattle.ref_tiles.specs.declared.rulebook.Rules.{Rules}
use Rattle.ref_play.specs.Laws.{TakingBackRestores}
use Rattle.ref_board.specs.declared.directions.Dir.{Dir}
use Rattle.gcg_read.specs.declared.events.Seat.{Seat}
use Rattle.gcg_read.specs.declared.events.Seat.TheVariants.{First, Second}
use Rattle.gcg_read.specs.declared.events.Event.{Event}
use Rattle.gcg_read.specs.declared.events.EventKind.{EventKind}
use Rattle.gcg_read.specs.declared.events.EventKind.TheVariants as kind
use Rattle.game_turns.specs.Seats.{same_seat}
use Rattle.game_turns.specs.Standing.{is_withdraw, board_at}
use Rattle.game_turns.specs.Tallies.{tally, out_at, latest_at, latest_play}
use Rattle.game_turns.specs.Checks.{check_withdraw, fault_in}
use Rattle.game_turns.specs.Changes.{after}
use Rattle.game_turns.proofs.TallyLaws.{made, play_made, challenge_more, time_more, last_rack_more, exchange_more, unknown_more, pass_more, play_stands, play_waits, play_withdraws}
use Rattle.game_turns.proofs.Allowed.{IsAllowedPlay, allowed_play, allowed_kind, withdraws_own, withdraws_no_tiles, withdraws_nothing}

-- the event is allowed after this past
abbrev pub IsNext : Rules → (list : List (List ℕ)) → (past : List Event) → Event → Type 0
IsNext rules list past e = fault_in rules list (tally rules (is_withdraw e.kind) past) e ≡ None

-- and so is the latest event of the past
abbrev pub IsLatest : Rules → (list : List (List ℕ)) → (past : List Event) → Type 0
IsLatest rules list [] = Unit {0}
IsLatest rules list (e ∷ past) = IsNext rules list past e

play_after : (rules : Rules) (past : List Event) (line : ℕ) (player : Seat) (rack : Option (List ℕ)) (dir : Dir) (at : ℕ) (word : List Symbol) (score total : ℤ) (w : Bool)
    → IsAllowedPlay (tally rules false past) player dir at word
    → after rules (tally rules false past) (play_made line player rack dir at word score total) w ≡ tally rules w (play_made line player rack dir at word score total ∷ past)
unfolding tally
play_after rules past line First rack dir at word score total true allowed = play_waits rules past line First rack dir at word score total
play_after rules past line First rack dir at word score total false allowed = play_stands rules past line First rack dir at word score total allowed.fits
play_after rules past line Second rack dir at word score total true allowed = play_waits rules past line Second rack dir at word score total
play_after rules past line Second rack dir at word score total false allowed = play_stands rules past line Second rack dir at word score total allowed.fits

pass_after : (rules : Rules) (past : List Event) (line : ℕ) (player : Seat) (rack : Option (List ℕ)) (score total : ℤ) (w : Bool)
    → after rules (tally rules false past) (made line player rack kind.Pass score total) w ≡ tally rules w (made line player rack kind.Pass score total ∷ past)
unfolding tally after
pass_after rules past line player rack score total w = pass_more rules past line player rack score total w (out_at rules false past) refl

taken_after : TakingBackRestores → (rules : Rules) (past : List Event) (line : ℕ) (player : Seat) (rack : Option (List ℕ)) (dir : Dir) (at : ℕ) (word : List Symbol) (score total : ℤ)
    (line2 : ℕ) (player2 : Seat) (rack2 : Option (List ℕ)) (score2 total2 : ℤ) (w : Bool)
    → same_seat player player2 ≡ true → IsAllowedPlay (tally rules false past) player dir at word
    → after rules (tally rules true (play_made line player rack dir at word score total ∷ past)) (made line2 player2 rack2 kind.Withdraw score2 total2) w
    ≡ tally rules w (made line2 player2 rack2 kind.Withdraw score2 total2 ∷ play_made line player rack dir at word score total ∷ past)
unfolding tally
taken_after restores rules past line First rack dir at word score total line2 First rack2 score2 total2 w same allowed =
    play_withdraws restores rules past line First rack dir at word score total line2 rack2 score2 total2 w allowed.fits allowed.free
taken_after restores rules past line First rack dir at word score total line2 Second rack2 score2 total2 w same allowed = cc
taken_after restores rules past line Second rack dir at word score total line2 First rack2 score2 total2 w same allowed = cc
taken_after restores rules past line Second rack dir at word score total line2 Second rack2 score2 total2 w same allowed =
    play_withdraws restores rules past line Second rack dir at word score total line2 rack2 score2 total2 w allowed.fits allowed.free

-- the latest event, by its kind
withdraw_after_kind : TakingBackRestores → (rules : Rules) (list : List (List ℕ)) (past : List Event) (line : ℕ) (player : Seat) (rack : Option (List ℕ)) (what : EventKind) (score total : ℤ)
    (line2 : ℕ) (player2 : Seat) (rack2 : Option (List ℕ)) (score2 total2 : ℤ) (w : Bool)
    → IsNext rules list past (made line player rack what score total)
    → check_withdraw list (tally rules true (made line player rack what score total ∷ past)) (made line2 player2 rack2 kind.Withdraw score2 total2)
    (latest_at rules true (made line player rack what score total ∷ past)) ≡ None
    → after rules (tally rules true (made line player rack what score total ∷ past)) (made line2 player2 rack2 kind.Withdraw score2 total2) w
    ≡ tally rules w (made line2 player2 rack2 kind.Withdraw score2 total2 ∷ made line player rack what score total ∷ past)
withdraw_after_kind restores rules list past line player rack (kind.Play at dir word) score total line2 player2 rack2 score2 total2 w before here =
    let e = play_made line player rack dir at word score total in
    let s = tally rules true (e ∷ past) in
    let own = withdraws_own list s (made line2 player2 rack2 kind.Withdraw score2 total2) (latest_play rules (board_at false past) player dir at word false) here in
    let allowed = allowed_play rules (tally rules false past) e dir at word (allowed_kind rules list (tally rules false past) e before) in
    taken_after restores rules past line player rack dir at word score total line2 player2 rack2 score2 total2 w own allowed
withdraw_after_kind restores rules list past line player rack kind.Pass score total line2 player2 rack2 score2 total2 w before here =
    absurd (withdraws_nothing list _ _ here)
withdraw_after_kind restores rules list past line player rack (kind.Exchange tiles) score total line2 player2 rack2 score2 total2 w before here =
    absurd (withdraws_nothing list _ _ here)
withdraw_after_kind restores rules list past line player rack (kind.ExchangeUnknown n) score total line2 player2 rack2 score2 total2 w before here =
    absurd (withdraws_nothing list _ _ here)
withdraw_after_kind restores rules list past line player rack kind.Withdraw score total line2 player2 rack2 score2 total2 w before here =
    absurd (withdraws_no_tiles list _ _ _ here)
withdraw_after_kind restores rules list past line player rack kind.Challenge score total line2 player2 rack2 score2 total2 w before here =
    absurd (withdraws_nothing list _ _ here)
withdraw_after_kind restores rules list past line player rack kind.Time score total line2 player2 rack2 score2 total2 w before here =
    absurd (withdraws_nothing list _ _ here)
withdraw_after_kind restores rules list past line player rack (kind.LastRack tiles) score total line2 player2 rack2 score2 total2 w before here =
    absurd (withdraws_nothing list _ _ here)

latest_is : (rules : Rules) (w : Bool) (past : List Event) → (tally rules w past).latest ≡ latest_at rules w past
unfolding tally
latest_is rules w past = refl

withdraw_after : TakingBackRestores → (rules : Rules) (list : List (List ℕ)) (past : List Event) (line2 : ℕ) (player2 : Seat) (rack2 : Option (List ℕ)) (score2 total2 : ℤ) (w : Bool)
    → IsLatest rules list past
    → check_withdraw list (tally rules true past) (made line2 player2 rack2 kind.Withdraw score2 total2) (latest_at rules true past) ≡ None
    → after rules (tally rules true past) (made line2 player2 rack2 kind.Withdraw score2 total2) w ≡ tally rules w (made line2 player2 rack2 kind.Withdraw score2 total2 ∷ past)
withdraw_after restores rules list [] line2 player2 rack2 score2 total2 w before here = absurd (withdraws_nothing list _ _ here)
withdraw_after restores rules list (e ∷ past) line2 player2 rack2 score2 total2 w before here =
    withdraw_after_kind restores rules list past e.line e.player e.rack e.kind e.score e.total line2 player2 rack2 score2 total2 w before here

-- by its kind
kind_after : TakingBackRestores → (rules : Rules) (list : List (List ℕ)) (past : List Event) (line : ℕ) (player : Seat) (rack : Option (List ℕ)) (what : EventKind) (score total : ℤ) (w : Bool)
    → IsLatest rules list past → IsNext rules list past (made line player rack what score total)
    → after rules (tally rules (is_withdraw what) past) (made line player rack what score total) w ≡ tally rules w (made line player rack what score total ∷ past)
kind_after restores rules list past line player rack (kind.Play at dir word) score total w before here =
    let e = play_made line player rack dir at word score total in
    play_after rules past line player rack dir at word score total w
    (allowed_play rules (tally rules false past) e dir at word (allowed_kind rules list (tally rules false past) e here))
kind_after restores rules list past line player rack kind.Pass score total w before here = pass_after rules past line player rack score total w
kind_after restores rules list past line player rack (kind.Exchange tiles) score total w before here = exchange_more rules past line player rack tiles score total w
kind_after restores rules list past line player rack (kind.ExchangeUnknown n) score total w before here = unknown_more rules past line player rack n score total w
kind_after restores rules list past line player rack kind.Withdraw score total w before here =
    let e = made line player rack kind.Withdraw score total in
    withdraw_after restores rules list past line player rack score total w before
    (ap (check_withdraw list (tally rules true past) e) (sym (latest_is rules true past)) ∙ allowed_kind rules list (tally rules true past) e here)
kind_after restores rules list past line player rack kind.Challenge score total w before here = challenge_more rules past line player rack score total w
kind_after restores rules list past line player rack kind.Time score total w before here = time_more rules past line player rack score total w
kind_after restores rules list past line player rack (kind.LastRack tiles) score total w before here = last_rack_more rules past line player rack tiles score total w

pub tally_after : TakingBackRestores → (rules : Rules) (list : List (List ℕ)) (past : List Event) (e : Event) (w : Bool)
    → IsLatest rules list past → IsNext rules list past e → after rules (tally rules (is_withdraw e.kind) past) e w ≡ tally rules w (e ∷ past)
tally_after restores rules list past e w before here = kind_after restores rules list past e.line e.player e.rack e.kind e.score e.total w before here
