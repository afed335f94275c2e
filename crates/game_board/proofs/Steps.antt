-- One more event is laid.
use Rattle.std.proofs.Common.{◌≡◌, ℕ, ◌+◌, ◌<◌, Bool, true, false, List, [], ◌∷◌, ◌++◌, reverse, take, get_or, slice_get, Option, Some, None, refl, sym, ap, ◌∙◌, arith, ⊎_elim}
use Rattle.std.proofs.lemmas.List.{take_more, reverse-append}
use Rattle.std.proofs.lemmas.Bool.{cases_eq}
use Rattle.std.proofs.lemmas.Option.{slice_get_within, get_or_from_slice_get}
use Rattle.std.specs.Prelude.{if◌then◌else◌}
use Rattle.ref_tiles.specs.declared.tiles.Tile.{Tile}
use Rattle.ref_play.specs.declared.faults.PlayFault.{PlayFault}
use Rattle.gcg_read.specs.declared.events.Event.{Event}
use Rattle.gcg_read.specs.declared.events.EventKind.{EventKind}
use Rattle.gcg_read.specs.declared.events.EventKind.TheVariants as kind
use Rattle.gcg_read.specs.declared.events.Seat.{Seat}
use Rattle.ref_board.specs.Cells.{empty_board}
use Rattle.game_turns.specs.Standing.{Stood, is_withdraw, board_with, played_on, standing, board_at}
use Rattle.game_turns.specs.Tallies.{withdraws}
use Rattle.game_board.specs.Laying.{board_before, kind_fault, fault_on, laying_fault, laid_on, AreLaid}

-- the past after one more event
pub past_more : (events : List Event) (place : ℕ) (e : Event) → slice_get events place ≡ Some e → reverse (take (place + 1) events) ≡ e ∷ reverse (take place events)
past_more events place e is =
    let within = slice_get_within events place e is in
    ap reverse (take_more events place e within) ∙ reverse-append (take place events) (get_or events place e ∷ [])
    ∙ ap (λ x. x ∷ reverse (take place events)) (get_or_from_slice_get events place e e is)

-- the board with the tiles of the plays before a place that stand
unfoldable pub standing_before : List Event → (place : ℕ) → List (Option Tile)
standing_before events place = board_with (standing (withdraws (slice_get events place)) (reverse (take place events)))

-- ---- before the first event

start_standing : (w : Bool) → board_with (standing w []) ≡ empty_board
start_standing true = refl
start_standing false = refl

start_board : (w : Bool) → board_at w [] ≡ empty_board
start_board true = refl
start_board false = refl

pub first_standing : (events : List Event) → empty_board ≡ standing_before events 0
unfolding standing_before
first_standing events = sym (start_standing (withdraws (slice_get events 0)))

pub first_board : (events : List Event) → empty_board ≡ board_before events 0
unfolding board_before
first_board events = sym (start_board (withdraws (slice_get events 0)))

-- ---- one more event

with_one : (board : List (Option Tile)) (plays : List Stood) (player : Seat) (what : EventKind) → board_with plays ≡ board → board_with (played_on (board_with plays) player what ++ plays) ≡ laid_on board what
with_one board plays player (kind.Play at dir word) same = ap (λ b. laid_on b (kind.Play at dir word)) same
with_one board plays player kind.Pass same = same
with_one board plays player (kind.Exchange tiles) same = same
with_one board plays player (kind.ExchangeUnknown n) same = same
with_one board plays player kind.Withdraw same = same
with_one board plays player kind.Challenge same = same
with_one board plays player kind.Time same = same
with_one board plays player (kind.LastRack tiles) same = same

-- the board after an event, whether or not a withdrawal comes next
board_more : (w : Bool) (e : Event) (past : List Event) → board_at w (e ∷ past) ≡ laid_on (board_with (standing (is_withdraw e.kind) past)) e.kind
board_more true e past = with_one (board_with (standing (is_withdraw e.kind) past)) (standing (is_withdraw e.kind) past) e.player e.kind refl
board_more false e past = with_one (board_with (standing (is_withdraw e.kind) past)) (standing (is_withdraw e.kind) past) e.player e.kind refl

standing_more : (w : Bool) (e : Event) (past : List Event)
    → board_with (standing w (e ∷ past)) ≡ (if w then board_with (standing (is_withdraw e.kind) past) else laid_on (board_with (standing (is_withdraw e.kind) past)) e.kind)
standing_more true e past = refl
standing_more false e past = with_one (board_with (standing (is_withdraw e.kind) past)) (standing (is_withdraw e.kind) past) e.player e.kind refl

same_standing : (events : List Event) (place : ℕ) (e : Event) → slice_get events place ≡ Some e → standing_before events place ≡ board_with (standing (is_withdraw e.kind) (reverse (take place events)))
unfolding standing_before
same_standing events place e is = ap (λ o. board_with (standing (withdraws o) (reverse (take place events)))) is

pub next_board : (events : List Event) (place : ℕ) (e : Event) (old laid : List (Option Tile)) → slice_get events place ≡ Some e → old ≡ standing_before events place → laid ≡ laid_on old e.kind → laid ≡ board_before events (place + 1)
unfolding board_before
next_board events place e old laid is before made =
    let w = withdraws (slice_get events (place + 1)) in
    made ∙ ap (λ b. laid_on b e.kind) (before ∙ same_standing events place e is) ∙ sym (board_more w e (reverse (take place events))) ∙ ap (board_at w) (sym (past_more events place e is))

next_by : (events : List Event) (place : ℕ) (e : Event) → slice_get events place ≡ Some e → (w : Bool) → withdraws (slice_get events (place + 1)) ≡ w
    → standing_before events (place + 1) ≡ (if w then standing_before events place else laid_on (standing_before events place) e.kind)
unfolding standing_before
next_by events place e is w known =
    let past = reverse (take place events) in
    let same = same_standing events place e is in
    ap (λ t. board_with (standing (withdraws (slice_get events (place + 1))) t)) (past_more events place e is)
    ∙ ap (λ v. board_with (standing v (e ∷ past))) known
    ∙ standing_more w e past
    ∙ ap (λ b. if w then b else laid_on b e.kind) (sym same)

-- the play stands, or it is taken back
pub next_standing : (events : List Event) (place : ℕ) (e : Event) (old laid kept : List (Option Tile)) (w : Bool) → slice_get events place ≡ Some e → old ≡ standing_before events place
    → laid ≡ laid_on old e.kind → w ≡ withdraws (slice_get events (place + 1)) → kept ≡ (if w then old else laid) → kept ≡ standing_before events (place + 1)
next_standing events place e old laid kept w is before made known chosen =
    chosen ∙ ap (λ l. if w then old else l) made ∙ ap (λ b. if w then b else laid_on b e.kind) before ∙ sym (next_by events place e is w (sym known))

-- ---- faults

before_play : (past : List Event) (what : EventKind) → kind_fault (board_at (is_withdraw what) past) what ≡ kind_fault (board_with (standing (is_withdraw what) past)) what
before_play past (kind.Play at dir word) = refl
before_play past kind.Pass = refl
before_play past (kind.Exchange tiles) = refl
before_play past (kind.ExchangeUnknown n) = refl
before_play past kind.Withdraw = refl
before_play past kind.Challenge = refl
before_play past kind.Time = refl
before_play past (kind.LastRack tiles) = refl

-- the fault of the event at a place, on the board of the plays that stand
pub fault_here : (events : List Event) (place : ℕ) (e : Event) (fault : Option PlayFault) → slice_get events place ≡ Some e → kind_fault (standing_before events place) e.kind ≡ fault → laying_fault events place ≡ fault
unfolding laying_fault board_before
fault_here events place e fault is known =
    ap (λ o. fault_on (board_at (withdraws o) (reverse (take place events))) o) is
    ∙ before_play (reverse (take place events)) e.kind
    ∙ ap (λ b. kind_fault b e.kind) (sym (same_standing events place e is)) ∙ known

-- no play before a place has a fault
abbrev pub HaveNoFault : List Event → (end : ℕ) → Type 0
HaveNoFault events end = (place : ℕ) → place < end → laying_fault events place ≡ None

pub none_first : (events : List Event) → HaveNoFault events 0
none_first events place below = absurd (omega (arith, below))

pub none_more : (events : List Event) (end : ℕ) (e : Event) → HaveNoFault events end → slice_get events end ≡ Some e → kind_fault (standing_before events end) e.kind ≡ None → HaveNoFault events (end + 1)
none_more events end e earlier is here place below =
    ⊎_elim
    (λ (same : place ≡ end). ap (laying_fault events) same ∙ fault_here events end e None is here)
    (λ (ne : place ≡ end → ⊥). earlier place (omega arith))
    (cases_eq place end)

-- ---- the end

pub laid_all : (events : List Event) (asked : ℕ) → HaveNoFault events asked → AreLaid events asked asked None
laid_all events asked none = record { laid = none; ended = refl }

pub laid_front : (events : List Event) (asked end : ℕ) (e : Event) (why : PlayFault) → HaveNoFault events end → end < asked → slice_get events end ≡ Some e
    → kind_fault (standing_before events end) e.kind ≡ Some why → AreLaid events asked end (Some why)
laid_front events asked end e why none below is here = record { laid = none; ended = (below, fault_here events end e (Some why) is here) }
