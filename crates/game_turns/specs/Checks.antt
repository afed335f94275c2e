-- The checks of each kind of event, in order, over the state of a game. The first that fails is the fault.
use Rattle.std.specs.Prelude.{ℕ, ℤ, pos, negsuc, neg_ℤ, ◌+◌, ◌*◌, ◌%◌, ◌+ℤ◌, ◌==◌, ◌&&◌, ◌||◌, nat_lt, nat_le, not, Bool, true, false, List, [], ◌∷◌, length, sum, sum_by, count_by, Option, Some, None, option_map, is_some, slice_index}
use Rattle.std.specs.List.{list_all, list_any, range_with_len}
use Rattle.std.specs.Option.{option_or}
use Rattle.std.specs.Ordering.{int_eq}
use Rattle.first_faults.specs.Checks.{fails, first_fault}
use Rattle.ref_tiles.specs.declared.tiles.Tile.{Tile}
use Rattle.ref_tiles.specs.declared.symbols.Symbol.{Symbol}
use Rattle.ref_tiles.specs.declared.rulebook.Rules.{Rules}
use Rattle.ref_board.specs.declared.directions.Dir.{Dir}
use Rattle.ref_play.specs.declared.faults.PlayFault.{PlayFault}
use Rattle.ref_play.specs.Texts.{placement_of, text_fault}
use Rattle.ref_play.specs.Legality.{fault_of}
use Rattle.ref_play.specs.Scores.{score_of}
use Rattle.lex_list.specs.Words.{is_listed}
use Rattle.gcg_read.specs.Players.{other_seat}
use Rattle.gcg_read.specs.declared.events.Seat.{Seat}
use Rattle.gcg_read.specs.declared.events.Event.{Event}
use Rattle.gcg_read.specs.declared.events.EventKind.{EventKind}
use Rattle.gcg_read.specs.declared.events.EventKind.TheVariants as kind
use Rattle.game_turns.specs.declared.faults.RuleFault.{RuleFault}
use Rattle.game_turns.specs.declared.faults.RuleFault.TheVariants as fault
use Rattle.game_turns.specs.Seats.{same_seat, may_move, side_of}
use Rattle.game_turns.specs.Standing.{is_withdraw}
use Rattle.game_turns.specs.Tallies.{State, Latest, played, taken_back, other}

-- ---- what the checks need

-- Turns are over once a player is out, a penalty of the zero run stands, or the game is complete.
abbrev pub is_over : State → Bool
is_over s = is_some s.out || s.sides.first.ended || s.sides.second.ended || s.complete

-- whether a pass by this player is the one that is accepted after the other player is out
abbrev pub may_idle_after : Option Seat → Seat → Bool
may_idle_after None player = false
may_idle_after (Some out) player = not (same_seat out player)

abbrev pub may_idle : State → Seat → Bool
may_idle s player = may_idle_after s.out player && not s.idle_pass && not s.complete

-- the fault of a text, and if it has none, that of the placement that it names
unfoldable pub play_fault : List (Option Tile) → Dir → ℕ → List Symbol → Option PlayFault
play_fault board dir at word = option_or (text_fault board dir at word) (fault_of dir board (placement_of board dir at word))

-- what the play of a text scores
unfoldable pub text_score : Rules → List (Option Tile) → Dir → ℕ → List Symbol → ℤ
text_score rules board dir at word = pos (score_of rules board (placement_of board dir at word))

-- the points of tiles; blanks have none
unfoldable pub points_in : Rules → List ℕ → ℕ
points_in rules tiles = sum_by (λ k. slice_index tiles k * slice_index rules.points k) (range_with_len 0 26)

-- the most points that tiles can have: 26 letters, 255 tiles of each, 99 points for each tile
abbrev pub most_points : ℕ
most_points = 656370

-- whether an amount is the bonus for 1, 2 or more words, up to a number of them
abbrev pub is_bonus_for : ℕ → ℕ → ℕ → Bool
is_bonus_for unit words amount = list_any (λ n. amount == unit * n) (range_with_len 1 words)

unfoldable pub is_bonus : ℕ → ℕ → ℤ → Bool
is_bonus unit words (pos amount) = is_bonus_for unit words amount
is_bonus unit words (negsuc k) = false

-- whether an amount is a negative multiple of the step; negsuc k is the number -(k + 1)
unfoldable pub is_penalty : ℕ → ℤ → Bool
is_penalty step (pos n) = false
is_penalty step (negsuc k) = (k + 1) % step == 0

-- the number of the words that are listed
abbrev pub listed_in : List (List ℕ) → List (List ℕ) → ℕ
listed_in list words = count_by (is_listed list) words

-- ---- checks of several kinds

-- the score is the expected one
abbrev pub check_score : ℤ → ℤ → Option RuleFault
check_score score expected = fails (not (int_eq score expected)) (fault.WrongScore expected)

-- the total after the event: what its player had, plus its score
abbrev pub total_after : State → Event → ℤ
total_after s e = (side_of s.sides e.player).total +ℤ e.score

abbrev pub check_total : State → Event → Option RuleFault
check_total s e = fails (not (int_eq e.total (total_after s e))) (fault.WrongTotal (total_after s e))

abbrev pub check_turn : State → Event → Option RuleFault
check_turn s e = fails (not (may_move s.mover e.player)) fault.NotYourTurn

-- ---- the checks of each kind

unfoldable pub check_play : Rules → State → Event → Dir → ℕ → List Symbol → Option RuleFault
check_play rules s e dir at word =
    first_fault (
    fails (is_over s) fault.GameOver
    ∷ check_turn s e
    ∷ option_map fault.Play (play_fault s.board dir at word)
    ∷ fails (nat_lt (side_of s.sides e.player).rack (length (placement_of s.board dir at word))) fault.TooManyUsed
    ∷ check_score e.score (text_score rules s.board dir at word)
    ∷ check_total s e ∷ [])

unfoldable pub check_pass : State → Event → Option RuleFault
check_pass s e =
    first_fault (
    fails (is_over s && not (may_idle s e.player)) fault.GameOver
    ∷ check_turn s e
    ∷ check_score e.score (pos 0)
    ∷ check_total s e ∷ [])

-- an exchange of this number of tiles
unfoldable pub check_exchange : Rules → State → Event → ℕ → Option RuleFault
check_exchange rules s e size =
    first_fault (
    fails (is_over s) fault.GameOver
    ∷ check_turn s e
    ∷ fails (nat_lt s.bag rules.exchange_min) fault.ExchangeRefused
    ∷ fails (nat_lt (side_of s.sides e.player).rack size || nat_lt s.bag size) fault.ExchangeSize
    ∷ check_score e.score (pos 0)
    ∷ check_total s e ∷ [])

-- the withdrawal of the latest event: a play of this player that awaits it, with a word that is not listed
unfoldable pub check_withdraw : (list : List (List ℕ)) → State → Event → Latest → Option RuleFault
check_withdraw list s e (played p) =
    first_fault (
    fails (p.stands || not (same_seat p.player e.player)) fault.NothingToWithdraw
    ∷ fails (list_all (is_listed list) p.words) fault.WithdrawnValid
    ∷ check_score e.score (neg_ℤ p.score)
    ∷ check_total s e ∷ [])
check_withdraw list s e (taken_back tiles) = Some fault.NothingToWithdraw
check_withdraw list s e other = Some fault.NothingToWithdraw

-- the unsuccessful challenge of the latest event: a play of this player that stands
unfoldable pub check_challenge : Rules → (list : List (List ℕ)) → State → Event → Latest → Option RuleFault
check_challenge rules list s e (played p) =
    first_fault (
    fails (not p.stands || not (same_seat p.player e.player)) fault.BadBonus
    ∷ fails (not (list_any (is_listed list) p.words)) fault.BonusOnPhony
    ∷ fails (not (is_bonus rules.challenge_unit (listed_in list p.words) e.score)) fault.BadBonus
    ∷ check_total s e ∷ [])
check_challenge rules list s e (taken_back tiles) = Some fault.BadBonus
check_challenge rules list s e other = Some fault.BadBonus

unfoldable pub check_time : Rules → State → Event → Option RuleFault
check_time rules s e =
    first_fault (
    fails (not (is_penalty rules.time_step e.score) || (side_of s.sides e.player).timed) fault.BadTime
    ∷ check_total s e ∷ [])

-- The last rack of the other player, if this one is out: its points are doubled.
unfoldable pub check_other_rack : Rules → State → Event → (tiles : List ℕ) → (out : Seat) → Option RuleFault
check_other_rack rules s e tiles out =
    first_fault (
    fails (not (same_seat out e.player)) fault.NotYourTurn
    ∷ fails (not (sum tiles == (side_of s.sides (other_seat out)).rack)) fault.LastRackSize
    ∷ check_score e.score (pos (2 * points_in rules tiles))
    ∷ check_total s e ∷ [])

-- The player's own last rack, after the zero run: its points are lost.
unfoldable pub check_own_rack : Rules → State → Event → (tiles : List ℕ) → Option RuleFault
check_own_rack rules s e tiles =
    first_fault (
    fails (side_of s.sides e.player).ended fault.GameOver
    ∷ fails (not (sum tiles == (side_of s.sides e.player).rack)) fault.LastRackSize
    ∷ check_score e.score (neg_ℤ (pos (points_in rules tiles)))
    ∷ check_total s e ∷ [])

-- whether the zero run has reached its limit, or a penalty of it stands
abbrev pub is_stale : Rules → State → Bool
is_stale rules s = nat_le rules.zero_limit s.zero_run || s.sides.first.ended || s.sides.second.ended

-- a last rack of a game that is not complete: if a player is out, if none is and the zero run is reached, and otherwise
abbrev pub check_due_rack : Rules → State → Event → (tiles : List ℕ) → (out : Option Seat) → (stale : Bool) → Option RuleFault
check_due_rack rules s e tiles (Some out) stale = check_other_rack rules s e tiles out
check_due_rack rules s e tiles None true = check_own_rack rules s e tiles
check_due_rack rules s e tiles None false = Some fault.NotOver

unfoldable pub check_last_rack : Rules → State → Event → (tiles : List ℕ) → Option RuleFault
check_last_rack rules s e tiles = first_fault (fails s.complete fault.GameOver ∷ check_due_rack rules s e tiles s.out (is_stale rules s) ∷ [])

-- ---- all of them

abbrev pub check_kind : Rules → (list : List (List ℕ)) → State → Event → EventKind → Option RuleFault
check_kind rules list s e (kind.Play at dir word) = check_play rules s e dir at word
check_kind rules list s e kind.Pass = check_pass s e
check_kind rules list s e (kind.Exchange tiles) = check_exchange rules s e (sum tiles)
check_kind rules list s e (kind.ExchangeUnknown n) = check_exchange rules s e n
check_kind rules list s e kind.Withdraw = check_withdraw list s e s.latest
check_kind rules list s e kind.Challenge = check_challenge rules list s e s.latest
check_kind rules list s e kind.Time = check_time rules s e
check_kind rules list s e (kind.LastRack tiles) = check_last_rack rules s e tiles

-- whether the latest event is a play that awaits its withdrawal, and this event is not that withdrawal
abbrev pub interrupts : Latest → Seat → EventKind → Bool
interrupts (played p) player what = not p.stands && not (is_withdraw what && same_seat p.player player)
interrupts (taken_back tiles) player what = false
interrupts other player what = false

-- The first check of an event that fails in a state; none if the rules allow the event.
unfoldable pub fault_in : Rules → (list : List (List ℕ)) → State → Event → Option RuleFault
fault_in rules list s e =
    first_fault (fails (interrupts s.latest e.player e.kind) fault.NothingToWithdraw ∷ check_kind rules list s e e.kind ∷ [])
