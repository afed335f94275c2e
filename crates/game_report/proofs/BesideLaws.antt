-- A board that follows a record is that of the state of its game at each place.
use Rattle.std.proofs.Common.{◌≡◌, ℕ, ◌+◌, ◌<◌, Bool, true, false, List, [], length, Some, None, sym, ap, ◌∙◌, subst, get_or}
use Rattle.ref_tiles.specs.declared.rulebook.Rules.{Rules}
use Rattle.ref_board.specs.declared.directions.Dir.{Dir}
use Rattle.ref_board.specs.Cells.{empty_board}
use Rattle.ref_play.specs.declared.placed.Placed.{Placed}
use Rattle.ref_play.specs.Placements.{is_play, with_tiles, without_tiles, HasTiles}
use Rattle.ref_play.specs.Legality.{IsLegal}
use Rattle.gcg_read.specs.declared.events.Event.{Event}
use Rattle.game_turns.specs.declared.machine.Machine.{Machine}
use Rattle.game_turns.specs.Machines.{rules_of, state_of}
use Rattle.game_turns.specs.Standing.{is_withdraw}
use Rattle.game_turns.specs.Tallies.{State, LatestPlay, Latest, played, taken_back, other, tally, tally_at}
use Rattle.game_turns.specs.LatestEvents.{latest_tiles}
use Rattle.game_turns.specs.Places.{AreAllowed}
use Rattle.game_notes.specs.declared.following.Follow.{Follow}
use Rattle.game_notes.specs.Following.{board_of, Follows}
use Rattle.game_report.specs.Beside.{StandsBeside, StandAt}
use Rattle.game_report.proofs.ReportLines.{start_of_game, read_there}
use Rattle.game_report.proofs.BoardSteps.{PutDown, TookOff, Moves, moves_at}

-- before the first event, on a machine and a board by the same rules
start_beside : (rules own other_own : Rules) (words : List (List ℕ)) (s : State) (follow : Follow) → own ≡ rules → other_own ≡ rules → s ≡ tally own false [] → board_of follow ≡ empty_board
    → Follows other_own words follow → StandsBeside rules words s follow
unfolding tally
start_beside rules own other_own words s follow same same_too start none follows =
    record {
      board = none ∙ sym (ap (λ (x : State). x.board) start);
      follows = subst (λ r. Follows r words follow) same_too follows;
      latest = λ p is. let no : other ≡ played p = sym (ap (λ (x : State). x.latest) start) ∙ is in cc;
    }

start_tally : (rules own : Rules) (events : List Event) (s : State) → own ≡ rules → s ≡ tally own false [] → s ≡ tally_at rules events 0
start_tally rules own events s same start = start_of_game rules events s (start ∙ ap (λ r. tally r false []) same)

pub start_together : (rules own other_own : Rules) (words : List (List ℕ)) (events : List Event) (machine : Machine) (follow : Follow) → own ≡ rules → other_own ≡ rules → rules_of machine ≡ own
    → state_of machine ≡ tally own false [] → board_of follow ≡ empty_board → Follows other_own words follow → StandAt rules words events 0 machine follow
start_together rules own other_own words events machine follow same same_too by start none follows =
    record {
      own = by ∙ same;
      state = start_tally rules own events (state_of machine) same start;
      beside = start_beside rules own other_own words (state_of machine) follow same same_too start none follows;
    }

-- and after the last
pub board_at_the_end : (rules : Rules) (words : List (List ℕ)) (events : List Event) (place : ℕ) (machine : Machine) (follow : Follow) → StandAt rules words events place machine follow
    → place ≡ length events → board_of follow ≡ (tally_at rules events (length events)).board
board_at_the_end rules words events place machine follow stand last =
    stand.beside.board ∙ ap (λ (x : State). x.board) stand.state ∙ ap (λ k. (tally_at rules events k).board) last

pub follows_at : (rules : Rules) (words : List (List ℕ)) (events : List Event) (place : ℕ) (machine : Machine) (follow : Follow) → StandAt rules words events place machine follow → Follows rules words follow
follows_at rules words events place machine follow stand = stand.beside.follows

-- what an event did, if the board is that of the state before it
pub record Step (rules : Rules) (words : List (List ℕ)) (s t : State) (follow : Follow) (withdraw : Bool) : Type 0 where
  pub moves : Moves s t withdraw (latest_tiles t.latest)
  pub beside : StandsBeside rules words s follow

pub step_at : (rules : Rules) (list words : List (List ℕ)) (events shown : List Event) (place : ℕ) (e : Event) (machine : Machine) (t : State) (follow : Follow)
    → AreAllowed rules list events → place < length events → shown ≡ events → e ≡ get_or shown place e → length (board_of follow) ≡ 225
    → StandAt rules words events place machine follow → t ≡ tally_at rules events (place + 1) → Step rules words (state_of machine) t follow (is_withdraw e.kind)
step_at rules list words events shown place e machine t follow allowed below shows read size stand following =
    let same : (tally_at rules events place).board ≡ board_of follow = sym (ap (λ (x : State). x.board) stand.state) ∙ sym stand.beside.board in
    let moves = moves_at rules list events place e allowed below (read_there shown events place e shows below read) (ap length same ∙ size) in
    record {
      moves =
          subst (λ (x : State). Moves x t (is_withdraw e.kind) (latest_tiles t.latest)) (sym stand.state)
          (subst (λ (x : State). Moves (tally_at rules events place) x (is_withdraw e.kind) (latest_tiles x.latest)) (sym following) moves);
      beside = stand.beside;
    }

-- a latest event without tiles
no_tiles : (p : LatestPlay) (l : Latest) → l ≡ played p → latest_tiles l ≡ None → ⊥
no_tiles p l is none = let some : Some p.tiles ≡ None = sym (ap latest_tiles is) ∙ none in cc

some_tiles : (p : LatestPlay) (l : Latest) (ps : List Placed) → l ≡ played p → latest_tiles l ≡ Some ps → p.tiles ≡ ps
some_tiles p l ps is some = let same : Some p.tiles ≡ Some ps = sym (ap latest_tiles is) ∙ some in cc

-- no play was laid or taken back
pub stays_beside : (rules : Rules) (words : List (List ℕ)) (s t : State) (follow : Follow) (w : Bool) → Step rules words s t follow w → latest_tiles t.latest ≡ None → StandsBeside rules words t follow
stays_beside rules words s t follow w step none =
    let kept : t.board ≡ s.board = subst (Moves s t w) none step.moves in
    record {
      board = step.beside.board ∙ sym kept;
      follows = step.beside.follows;
      latest = λ p is. absurd (no_tiles p t.latest is none);
    }

-- a play was laid
put_down : (rules : Rules) (words : List (List ℕ)) (s t : State) (follow : Follow) (w : Bool) (ps : List Placed) → Step rules words s t follow w → w ≡ false → latest_tiles t.latest ≡ Some ps → PutDown s t ps
put_down rules words s t follow w ps step laid tiles =
    subst (λ b. Moves s t b (Some ps)) laid (subst (Moves s t w) tiles step.moves)

pub play_is_legal : (rules : Rules) (words : List (List ℕ)) (s t : State) (follow : Follow) (w : Bool) (d : Dir) (ps : List Placed) → Step rules words s t follow w → w ≡ false
    → latest_tiles t.latest ≡ Some ps → is_play d ps ≡ true → IsLegal (board_of follow) ps
play_is_legal rules words s t follow w d ps step laid tiles play =
    subst (λ b. IsLegal b ps) (sym step.beside.board) ((put_down rules words s t follow w ps step laid tiles).0 d play)

pub applied_beside : (rules : Rules) (words : List (List ℕ)) (s t : State) (old new : Follow) (w : Bool) (ps : List Placed) → Step rules words s t old w → w ≡ false
    → latest_tiles t.latest ≡ Some ps → board_of new ≡ with_tiles (board_of old) ps → HasTiles (board_of new) ps → Follows rules words new → StandsBeside rules words t new
applied_beside rules words s t old new w ps step laid tiles put there follows =
    let down = put_down rules words s t old w ps step laid tiles in
    let same : board_of new ≡ t.board = put ∙ ap (λ b. with_tiles b ps) step.beside.board ∙ sym down.1 in
    record {
      board = same;
      follows = follows;
      latest = λ p is. subst (λ b. HasTiles b p.tiles) same (subst (HasTiles (board_of new)) (sym (some_tiles p t.latest ps is tiles)) there);
    }

-- a play was taken back
took_off : (rules : Rules) (words : List (List ℕ)) (s t : State) (follow : Follow) (w : Bool) (ps : List Placed) → Step rules words s t follow w → w ≡ true → latest_tiles t.latest ≡ Some ps → TookOff s t ps
took_off rules words s t follow w ps step off tiles =
    subst (λ b. Moves s t b (Some ps)) off (subst (Moves s t w) tiles step.moves)

pub tiles_lie : (rules : Rules) (words : List (List ℕ)) (s t : State) (follow : Follow) (w : Bool) (ps : List Placed) → Step rules words s t follow w → w ≡ true
    → latest_tiles t.latest ≡ Some ps → HasTiles (board_of follow) ps
tiles_lie rules words s t follow w ps step off tiles =
    let took = took_off rules words s t follow w ps step off tiles in
    subst (λ b. HasTiles b ps) (sym step.beside.board) (subst (HasTiles s.board) took.tiles (step.beside.latest took.play took.was))

pub undone_beside : (rules : Rules) (words : List (List ℕ)) (s t : State) (old new : Follow) (w : Bool) (ps : List Placed) → Step rules words s t old w → w ≡ true
    → latest_tiles t.latest ≡ Some ps → board_of new ≡ without_tiles (board_of old) ps → Follows rules words new → StandsBeside rules words t new
undone_beside rules words s t old new w ps step off tiles lifted follows =
    let took = took_off rules words s t old w ps step off tiles in
    record {
      board = lifted ∙ ap (λ b. without_tiles b ps) step.beside.board ∙ sym took.board;
      follows = follows;
      latest = λ p is. let no : taken_back ps ≡ played p = sym took.latest ∙ is in cc;
    }
