-- If every event of a record is allowed, its steps are a run.
use Rattle.std.proofs.Common.{◌≡◌, ℕ, ℤ, ◌+◌, ◌<◌, ◌≤◌, Bool, true, false, List, [], ◌∷◌, ◌++◌, length, get_or, refl, ap, ◌∙◌, arith, Option, Some, None}
use Rattle.std.proofs.lemmas.List.{length-set}
use Rattle.ref_tiles.specs.declared.rulebook.Rules.{Rules}
use Rattle.ref_tiles.specs.declared.symbols.Symbol.{Symbol}
use Rattle.ref_tiles.specs.declared.tiles.Tile.{Tile}
use Rattle.ref_tiles.specs.Counting.{no_tiles}
use Rattle.ref_board.specs.declared.directions.Dir.{Dir}
use Rattle.ref_board.specs.Cells.{empty_board, with_tile}
use Rattle.ref_play.specs.declared.placed.Placed.{Placed}
use Rattle.ref_play.specs.Placements.{with_tiles}
use Rattle.ref_play.specs.Texts.{placement_of}
use Rattle.gcg_read.specs.declared.events.Seat.{Seat}
use Rattle.gcg_read.specs.declared.events.Seat.TheVariants.{First, Second}
use Rattle.gcg_read.specs.declared.events.Event.{Event}
use Rattle.gcg_read.specs.declared.events.EventKind.{EventKind}
use Rattle.gcg_read.specs.declared.events.EventKind.TheVariants as kind
use Rattle.game_turns.specs.Standing.{Stood, is_withdraw, board_with, played_on, with_play, standing, waiting, board_at, bag_after, rack_at}
use Rattle.game_turns.specs.Tallies.{tally}
use Rattle.game_turns.specs.Checks.{play_fault}
use Rattle.game_turns.proofs.Allowed.{allowed_kind}
use Rattle.game_turns.proofs.TallyLaws.{made, laid_at}
use Rattle.game_turns.proofs.NextTallies.{IsNext}
use Rattle.deal_steps.specs.declared.deals.Racks.{Racks}
use Rattle.deal_steps.specs.Piles.{joined}
use Rattle.deal_steps.specs.Runs.{Course, none_waiting, waits}
use Rattle.deal_steps.proofs.PileLaws.{length-table, length-joined, get-joined, length-no_tiles, get-no_tiles, same_numbers}
use Rattle.game_deal.specs.Recorded.{on_board, placed_tiles}
use Rattle.game_deal.proofs.BoardLaws.{on_board_more, on_board-empty}
use Rattle.game_deal.proofs.PlacedLaws.{put_free}
use Rattle.game_deal.proofs.CheckLaws.{play_parts}

-- ---- the course of a record

-- the tiles of plays that stand
abbrev pub tiles_standing : List Stood → List ℕ
tiles_standing [] = no_tiles
tiles_standing (play ∷ plays) = joined (tiles_standing plays) (placed_tiles play.tiles)

-- those of a play that is about to be taken back
abbrev pub tiles_waiting : List Stood → Racks
tiles_waiting [] = none_waiting
tiles_waiting (play ∷ plays) = waits play.player (placed_tiles play.tiles)

-- between two events of a record
abbrev pub course_at : Rules → (withdrawn : Bool) (past : List Event) → Course
course_at rules w past =
    record {
      first = rack_at rules First w past;
      second = rack_at rules Second w past;
      bag = bag_after rules (standing w past);
      laid = tiles_standing (standing w past);
      waiting = tiles_waiting (waiting w past);
    }

-- each event of a past is allowed after those before it
abbrev pub ArePast : Rules → (list : List (List ℕ)) → (past : List Event) → Type 0
ArePast rules list [] = Unit {0}
ArePast rules list (e ∷ past) = IsNext rules list past e × ArePast rules list past

-- ---- what is known about an allowed play

-- it has no fault, and its tiles are on the rack
pub play_next : (rules : Rules) (list : List (List ℕ)) (past : List Event) (line : ℕ) (player : Seat) (rack : Option (List ℕ)) (dir : Dir) (at : ℕ) (word : List Symbol) (score total : ℤ)
    → IsNext rules list past (made line player rack (kind.Play at dir word) score total)
    → (play_fault (board_at false past) dir at word ≡ None) × (length (laid_at past dir at word) ≤ rack_at rules player false past)
unfolding tally
play_next rules list past line First rack dir at word score total next =
    let e = made line First rack (kind.Play at dir word) score total in
    play_parts rules (tally rules false past) e dir at word (allowed_kind rules list (tally rules false past) e next)
play_next rules list past line Second rack dir at word score total next =
    let e = made line Second rack (kind.Play at dir word) score total in
    play_parts rules (tally rules false past) e dir at word (allowed_kind rules list (tally rules false past) e next)

-- ---- the board

length-empty : length empty_board ≡ 225
unfolding empty_board
length-empty = refl

length-with_tiles : (ps : List Placed) (board : List (Option Tile)) → length (with_tiles board ps) ≡ length board
length-with_tiles [] board = refl
length-with_tiles (p ∷ ps) board = length-with_tiles ps (with_tile board p.square (Some p.tile)) ∙ length-set board p.square (Some p.tile)

pub length-board_with : (plays : List Stood) → length (board_with plays) ≡ 225
length-board_with [] = length-empty
length-board_with (play ∷ plays) = length-with_tiles play.tiles (board_with plays) ∙ length-board_with plays

length-placed : (ps : List Placed) → length (placed_tiles ps) ≡ 27
unfolding placed_tiles
length-placed ps = length-table _

length-standing : (plays : List Stood) → length (tiles_standing plays) ≡ 27
length-standing [] = length-no_tiles
length-standing (play ∷ plays) = length-joined _ _

-- the tiles of a play that is put on the board of others
play_on_board : (plays : List Stood) (dir : Dir) (at : ℕ) (word : List Symbol) → play_fault (board_with plays) dir at word ≡ None → on_board (board_with plays) ≡ tiles_standing plays
    → on_board (with_tiles (board_with plays) (placement_of (board_with plays) dir at word)) ≡ joined (tiles_standing plays) (placed_tiles (placement_of (board_with plays) dir at word))
play_on_board plays dir at word none old =
    let ps = placement_of (board_with plays) dir at word in
    on_board_more (board_with plays) ps (put_free (board_with plays) dir at word (length-board_with plays) none) ∙ ap (λ tiles. joined tiles (placed_tiles ps)) old

-- the plays that stand
with_play_on_board : (rules : Rules) (list : List (List ℕ)) (past : List Event) (line : ℕ) (player : Seat) (rack : Option (List ℕ)) (what : EventKind) (score total : ℤ)
    → IsNext rules list past (made line player rack what score total)
    → on_board (board_with (standing (is_withdraw what) past)) ≡ tiles_standing (standing (is_withdraw what) past)
    → on_board (board_with (with_play player what (standing (is_withdraw what) past))) ≡ tiles_standing (with_play player what (standing (is_withdraw what) past))
with_play_on_board rules list past line player rack (kind.Play at dir word) score total next old =
    play_on_board (standing false past) dir at word (play_next rules list past line player rack dir at word score total next).0 old
with_play_on_board rules list past line player rack kind.Pass score total next old = old
with_play_on_board rules list past line player rack (kind.Exchange tiles) score total next old = old
with_play_on_board rules list past line player rack (kind.ExchangeUnknown n) score total next old = old
with_play_on_board rules list past line player rack kind.Withdraw score total next old = old
with_play_on_board rules list past line player rack kind.Challenge score total next old = old
with_play_on_board rules list past line player rack kind.Time score total next old = old
with_play_on_board rules list past line player rack (kind.LastRack tiles) score total next old = old

standing_on_board : (rules : Rules) (list : List (List ℕ)) (w : Bool) (past : List Event) → ArePast rules list past
    → on_board (board_with (standing w past)) ≡ tiles_standing (standing w past)
standing_on_board rules list w [] allowed = on_board-empty
standing_on_board rules list true (e ∷ past) allowed = standing_on_board rules list (is_withdraw e.kind) past allowed.1
standing_on_board rules list false (e ∷ past) allowed =
    with_play_on_board rules list past e.line e.player e.rack e.kind e.score e.total allowed.0 (standing_on_board rules list (is_withdraw e.kind) past allowed.1)

-- those that wait, together with the others
abbrev whole_board : (laid : List ℕ) → Racks → List ℕ
whole_board laid waiting = joined laid (joined waiting.first waiting.second)

none_joined : (laid : List ℕ) → length laid ≡ 27 → laid ≡ whole_board laid none_waiting
none_joined laid long =
    same_numbers laid (whole_board laid none_waiting) long (length-joined _ _)
    (λ k below.
    let a = get-joined laid (joined no_tiles no_tiles) k below in
    let b = get-joined no_tiles no_tiles k below in
    let c = get-no_tiles k below in
    omega arith)

get-waits : (seat : Seat) (tiles : List ℕ) (k : ℕ) → k < 27 → get_or (waits seat tiles).first k 0 + get_or (waits seat tiles).second k 0 ≡ get_or tiles k 0
get-waits First tiles k below = let none = get-no_tiles k below in omega arith
get-waits Second tiles k below = let none = get-no_tiles k below in omega arith

waits_joined : (laid tiles : List ℕ) (seat : Seat) → length laid ≡ 27 → joined laid tiles ≡ whole_board laid (waits seat tiles)
waits_joined laid tiles seat long =
    same_numbers (joined laid tiles) (whole_board laid (waits seat tiles)) (length-joined _ _) (length-joined _ _)
    (λ k below.
    let a = get-joined laid (joined (waits seat tiles).first (waits seat tiles).second) k below in
    let b = get-joined (waits seat tiles).first (waits seat tiles).second k below in
    let c = get-waits seat tiles k below in
    let d = get-joined laid tiles k below in
    omega arith)

-- with the play of the latest event
waiting_on_board : (rules : Rules) (list : List (List ℕ)) (past : List Event) (line : ℕ) (player : Seat) (rack : Option (List ℕ)) (what : EventKind) (score total : ℤ)
    → IsNext rules list past (made line player rack what score total)
    → on_board (board_with (standing (is_withdraw what) past)) ≡ tiles_standing (standing (is_withdraw what) past)
    → on_board (board_with (played_on (board_with (standing (is_withdraw what) past)) player what ++ standing (is_withdraw what) past))
    ≡ whole_board (tiles_standing (standing (is_withdraw what) past)) (tiles_waiting (played_on (board_with (standing (is_withdraw what) past)) player what))
waiting_on_board rules list past line player rack (kind.Play at dir word) score total next old =
    let plays = standing false past in
    play_on_board plays dir at word (play_next rules list past line player rack dir at word score total next).0 old
    ∙ waits_joined (tiles_standing plays) (placed_tiles (placement_of (board_with plays) dir at word)) player (length-standing plays)
waiting_on_board rules list past line player rack kind.Pass score total next old = old ∙ none_joined _ (length-standing (standing false past))
waiting_on_board rules list past line player rack (kind.Exchange tiles) score total next old = old ∙ none_joined _ (length-standing (standing false past))
waiting_on_board rules list past line player rack (kind.ExchangeUnknown n) score total next old = old ∙ none_joined _ (length-standing (standing false past))
waiting_on_board rules list past line player rack kind.Withdraw score total next old = old ∙ none_joined _ (length-standing (standing true past))
waiting_on_board rules list past line player rack kind.Challenge score total next old = old ∙ none_joined _ (length-standing (standing false past))
waiting_on_board rules list past line player rack kind.Time score total next old = old ∙ none_joined _ (length-standing (standing false past))
waiting_on_board rules list past line player rack (kind.LastRack tiles) score total next old = old ∙ none_joined _ (length-standing (standing false past))

-- the board at a place has the tiles of the course
pub board_is : (rules : Rules) (list : List (List ℕ)) (w : Bool) (past : List Event) → ArePast rules list past
    → on_board (board_at w past) ≡ joined (course_at rules w past).laid (joined (course_at rules w past).waiting.first (course_at rules w past).waiting.second)
board_is rules list false past allowed = standing_on_board rules list false past allowed ∙ none_joined _ (length-standing (standing false past))
board_is rules list true [] allowed = on_board-empty ∙ none_joined _ length-no_tiles
board_is rules list true (e ∷ past) allowed =
    waiting_on_board rules list past e.line e.player e.rack e.kind e.score e.total allowed.0 (standing_on_board rules list (is_withdraw e.kind) past allowed.1)
