-- What is known about an event that the rules allow, and that the state after it is the tally at the next place.
use Rattle.std.proofs.Common.{◌≡◌, ℕ, ◌≤◌, Bool, true, false, not, ◌||◌, nat_lt, List, [], ◌∷◌, length, Option, Some, None, refl}
use Rattle.std.specs.Prelude.{option_map, neg_ℤ}
use Rattle.std.specs.List.{list_all}
use Rattle.lex_list.specs.Words.{is_listed}
use Rattle.std.proofs.lemmas.Bool.{ltb-false}
use Rattle.first_faults.specs.Checks.{fails}
use Rattle.first_faults.proofs.CheckLaws.{some_fault, none_first, test_fails, check-none, or_none}
use Rattle.ref_tiles.specs.declared.symbols.Symbol.{Symbol}
use Rattle.ref_tiles.specs.declared.tiles.Tile.{Tile}
use Rattle.ref_tiles.specs.declared.rulebook.Rules.{Rules}
use Rattle.ref_board.specs.declared.directions.Dir.{Dir}
use Rattle.ref_play.specs.declared.faults.PlayFault.{PlayFault}
use Rattle.ref_play.specs.declared.placed.Placed.{Placed}
use Rattle.ref_play.specs.Legality.{fault_of, overlaps}
use Rattle.ref_play.specs.Texts.{text_fault, placement_of}
use Rattle.gcg_read.specs.declared.events.Seat.{Seat}
use Rattle.gcg_read.specs.declared.events.Event.{Event}
use Rattle.game_turns.specs.declared.faults.RuleFault.TheVariants as fault
use Rattle.game_turns.specs.Seats.{same_seat, side_of}
use Rattle.game_turns.specs.Tallies.{State, LatestPlay, played, taken_back, other}
use Rattle.game_turns.specs.Checks.{is_over, text_score, check_score, check_total, check_turn, play_fault, check_play, check_withdraw, check_kind, interrupts, fault_in}

-- the fault of a play
pub no_play_fault : (o : Option PlayFault) → option_map fault.Play o ≡ None → o ≡ None
no_play_fault None e = refl
no_play_fault (Some why) e = absurd (some_fault (fault.Play why) e)

-- a play without a fault is put on empty squares
pub play_is_free : (board : List (Option Tile)) (dir : Dir) (at : ℕ) (word : List Symbol) → play_fault board dir at word ≡ None → overlaps board (placement_of board dir at word) ≡ false
unfolding play_fault fault_of
play_is_free board dir at word e =
    (check-none (overlaps board (placement_of board dir at word)) _ _ (or_none (text_fault board dir at word) _ e).1).0

-- a play that the rules allow: its tiles are on the rack, and its squares are empty
pub record IsAllowedPlay (s : State) (player : Seat) (dir : Dir) (at : ℕ) (word : List Symbol) : Type 0 where
  pub fits : length (placement_of s.board dir at word) ≤ (side_of s.sides player).rack
  pub free : overlaps s.board (placement_of s.board dir at word) ≡ false

pub allowed_play : (rules : Rules) (s : State) (e : Event) (dir : Dir) (at : ℕ) (word : List Symbol) → check_play rules s e dir at word ≡ None → IsAllowedPlay s e.player dir at word
unfolding check_play
allowed_play rules s e dir at word none =
    let size = length (placement_of s.board dir at word) in
    let score = text_score rules s.board dir at word in
    let ending = check_score e.score score ∷ check_total s e ∷ [] in
    let used = fails (nat_lt (side_of s.sides e.player).rack size) fault.TooManyUsed in
    let played = option_map fault.Play (play_fault s.board dir at word) in
    let over = none_first (fails (is_over s) fault.GameOver) (check_turn s e ∷ played ∷ used ∷ ending) none in
    let turn = none_first (check_turn s e) (played ∷ used ∷ ending) over.1 in
    let play = none_first played (used ∷ ending) turn.1 in
    let few = none_first used ending play.1 in
    record {
      fits = ltb-false (side_of s.sides e.player).rack size (test_fails (nat_lt (side_of s.sides e.player).rack size) fault.TooManyUsed few.0);
      free = play_is_free s.board dir at word (no_play_fault (play_fault s.board dir at word) play.0);
    }

-- an event that no rule forbids, by its kind
pub allowed_kind : (rules : Rules) (list : List (List ℕ)) (s : State) (e : Event) → fault_in rules list s e ≡ None → check_kind rules list s e e.kind ≡ None
unfolding fault_in
allowed_kind rules list s e none =
    let parts = none_first (fails (interrupts s.latest e.player e.kind) fault.NothingToWithdraw) (check_kind rules list s e e.kind ∷ []) none in
    (none_first (check_kind rules list s e e.kind) [] parts.1).0

-- a withdrawal that the rules allow takes back the latest play, of the same player
same_player : (a b : Bool) → a || not b ≡ false → b ≡ true
same_player true true e = refl
same_player true false e = cc
same_player false true e = refl
same_player false false e = cc

pub withdraws_own : (list : List (List ℕ)) (s : State) (e : Event) (p : LatestPlay) → check_withdraw list s e (played p) ≡ None → same_seat p.player e.player ≡ true
unfolding check_withdraw
withdraws_own list s e p none =
    let test = p.stands || not (same_seat p.player e.player) in
    let ending = check_score e.score (neg_ℤ p.score) ∷ check_total s e ∷ [] in
    let parts = none_first (fails test fault.NothingToWithdraw) (fails (list_all (is_listed list) p.words) fault.WithdrawnValid ∷ ending) none in
    same_player p.stands (same_seat p.player e.player) (test_fails test fault.NothingToWithdraw parts.0)

pub withdraws_no_tiles : (list : List (List ℕ)) (s : State) (e : Event) (tiles : List Placed) → check_withdraw list s e (taken_back tiles) ≡ None → ⊥
unfolding check_withdraw
withdraws_no_tiles list s e tiles none = some_fault fault.NothingToWithdraw none

pub withdraws_nothing : (list : List (List ℕ)) (s : State) (e : Event) → check_withdraw list s e other ≡ None → ⊥
unfolding check_withdraw
withdraws_nothing list s e none = some_fault fault.NothingToWithdraw none
