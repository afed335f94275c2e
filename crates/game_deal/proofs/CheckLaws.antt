-- What the checks of an event that the rules allow leave.
use Rattle.std.proofs.Common.{◌≡◌, ℕ, ◌*◌, ◌≤◌, ◌==◌, Bool, true, false, not, ◌||◌, nat_lt, List, [], ◌∷◌, length, Option, Some, None, sum}
use Rattle.std.specs.Prelude.{option_map, pos, neg_ℤ}
use Rattle.std.proofs.lemmas.Bool.{ltb-false, eqb-true, or_parts, not-false}
use Rattle.first_faults.specs.Checks.{fails}
use Rattle.first_faults.proofs.CheckLaws.{some_fault, none_first, test_fails}
use Rattle.ref_tiles.specs.declared.symbols.Symbol.{Symbol}
use Rattle.ref_tiles.specs.declared.rulebook.Rules.{Rules}
use Rattle.ref_board.specs.declared.directions.Dir.{Dir}
use Rattle.ref_play.specs.Texts.{placement_of}
use Rattle.gcg_read.specs.Players.{other_seat}
use Rattle.gcg_read.specs.declared.events.Seat.{Seat}
use Rattle.gcg_read.specs.declared.events.Event.{Event}
use Rattle.game_turns.specs.declared.faults.RuleFault.TheVariants as fault
use Rattle.game_turns.specs.Seats.{same_seat, side_of}
use Rattle.game_turns.specs.Tallies.{State}
use Rattle.game_turns.specs.Checks.{is_over, points_in, text_score, check_score, check_total, check_turn, play_fault, check_play, check_exchange, check_other_rack, check_own_rack, check_due_rack, is_stale, check_last_rack}
use Rattle.game_turns.proofs.Allowed.{no_play_fault}
use Rattle.game_deal.specs.Recorded.{last_holder}

-- a play has no fault, and its tiles are on the rack
pub play_parts : (rules : Rules) (s : State) (e : Event) (dir : Dir) (at : ℕ) (word : List Symbol) → check_play rules s e dir at word ≡ None
    → (play_fault s.board dir at word ≡ None) × (length (placement_of s.board dir at word) ≤ (side_of s.sides e.player).rack)
unfolding check_play
play_parts rules s e dir at word none =
    let size = length (placement_of s.board dir at word) in
    let rack = (side_of s.sides e.player).rack in
    let ending = check_score e.score (text_score rules s.board dir at word) ∷ check_total s e ∷ [] in
    let used = fails (nat_lt rack size) fault.TooManyUsed in
    let played = option_map fault.Play (play_fault s.board dir at word) in
    let over = none_first (fails (is_over s) fault.GameOver) (check_turn s e ∷ played ∷ used ∷ ending) none in
    let turn = none_first (check_turn s e) (played ∷ used ∷ ending) over.1 in
    let play = none_first played (used ∷ ending) turn.1 in
    let few = none_first used ending play.1 in
    (no_play_fault (play_fault s.board dir at word) play.0, ltb-false rack size (test_fails (nat_lt rack size) fault.TooManyUsed few.0))

-- an exchange is no larger than the rack and the bag
pub exchange_parts : (rules : Rules) (s : State) (e : Event) (size : ℕ) → check_exchange rules s e size ≡ None → (size ≤ (side_of s.sides e.player).rack) × (size ≤ s.bag)
unfolding check_exchange
exchange_parts rules s e size none =
    let rack = (side_of s.sides e.player).rack in
    let ending = check_score e.score (pos 0) ∷ check_total s e ∷ [] in
    let few = fails (nat_lt rack size || nat_lt s.bag size) fault.ExchangeSize in
    let refused = fails (nat_lt s.bag rules.exchange_min) fault.ExchangeRefused in
    let over = none_first (fails (is_over s) fault.GameOver) (check_turn s e ∷ refused ∷ few ∷ ending) none in
    let turn = none_first (check_turn s e) (refused ∷ few ∷ ending) over.1 in
    let enough = none_first refused (few ∷ ending) turn.1 in
    let fits = none_first few ending enough.1 in
    let parts = or_parts (nat_lt rack size) (nat_lt s.bag size) (test_fails (nat_lt rack size || nat_lt s.bag size) fault.ExchangeSize fits.0) in
    (ltb-false rack size parts.0, ltb-false s.bag size parts.1)

-- the last rack of the other player, if one is out
other_rack_parts : (rules : Rules) (s : State) (e : Event) (tiles : List ℕ) (out : Seat) → check_other_rack rules s e tiles out ≡ None
    → sum tiles ≡ (side_of s.sides (other_seat out)).rack
unfolding check_other_rack
other_rack_parts rules s e tiles out none =
    let rack = (side_of s.sides (other_seat out)).rack in
    let size = fails (not (sum tiles == rack)) fault.LastRackSize in
    let ending = check_score e.score (pos (2 * points_in rules tiles)) ∷ check_total s e ∷ [] in
    let turn = none_first (fails (not (same_seat out e.player)) fault.NotYourTurn) (size ∷ ending) none in
    let whole = none_first size ending turn.1 in
    eqb-true (sum tiles) rack (not-false (sum tiles == rack) (test_fails (not (sum tiles == rack)) fault.LastRackSize whole.0))

-- the player's own last rack, after the zero run
own_rack_parts : (rules : Rules) (s : State) (e : Event) (tiles : List ℕ) → check_own_rack rules s e tiles ≡ None → sum tiles ≡ (side_of s.sides e.player).rack
unfolding check_own_rack
own_rack_parts rules s e tiles none =
    let rack = (side_of s.sides e.player).rack in
    let size = fails (not (sum tiles == rack)) fault.LastRackSize in
    let ending = check_score e.score (neg_ℤ (pos (points_in rules tiles))) ∷ check_total s e ∷ [] in
    let first = none_first (fails (side_of s.sides e.player).ended fault.GameOver) (size ∷ ending) none in
    let whole = none_first size ending first.1 in
    eqb-true (sum tiles) rack (not-false (sum tiles == rack) (test_fails (not (sum tiles == rack)) fault.LastRackSize whole.0))

due_rack_parts : (rules : Rules) (s : State) (e : Event) (tiles : List ℕ) (out : Option Seat) (stale : Bool) → check_due_rack rules s e tiles out stale ≡ None
    → sum tiles ≡ (side_of s.sides (last_holder out e.player)).rack
due_rack_parts rules s e tiles (Some out) stale none = other_rack_parts rules s e tiles out none
due_rack_parts rules s e tiles None true none = own_rack_parts rules s e tiles none
due_rack_parts rules s e tiles None false none = absurd (some_fault fault.NotOver none)

-- a last rack is all that its holder has
pub last_rack_parts : (rules : Rules) (s : State) (e : Event) (tiles : List ℕ) → check_last_rack rules s e tiles ≡ None → sum tiles ≡ (side_of s.sides (last_holder s.out e.player)).rack
unfolding check_last_rack
last_rack_parts rules s e tiles none =
    let due = check_due_rack rules s e tiles s.out (is_stale rules s) in
    let over = none_first (fails s.complete fault.GameOver) (due ∷ []) none in
    due_rack_parts rules s e tiles s.out (is_stale rules s) (none_first due [] over.1).0
