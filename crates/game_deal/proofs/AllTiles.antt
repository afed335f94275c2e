-- If every event of a record is allowed, the racks, the bag and the board have all the tiles at each step.
use Rattle.std.proofs.Common.{◌≡◌, ℕ, ◌+◌, ◌≤◌, Bool, true, false, List, [], ◌∷◌, length, sum, slice_get, refl, ap, ◌∙◌, arith, Option, Some, None, is_some, leb}
use Rattle.std.specs.Prelude.{All, if◌then◌else◌}
use Rattle.std.proofs.lemmas.Bool.{and_parts, leb-true}
use Rattle.std.proofs.lemmas.List.Elements.{All-nil, All-cons}
use Rattle.ref_tiles.specs.declared.rulebook.Rules.{Rules}
use Rattle.ref_tiles.specs.Limits.{most_tiles}
use Rattle.ref_play.specs.declared.placed.Placed.{Placed}
use Rattle.gcg_read.specs.declared.events.Seat.{Seat}
use Rattle.gcg_read.specs.declared.events.Seat.TheVariants.{First, Second}
use Rattle.gcg_read.specs.declared.events.Event.{Event}
use Rattle.gcg_read.specs.declared.events.EventKind.{EventKind}
use Rattle.gcg_read.specs.declared.events.EventKind.TheVariants as kind
use Rattle.game_turns.specs.Standing.{is_withdraw}
use Rattle.game_turns.specs.LatestEvents.{latest_tiles}
use Rattle.game_turns.specs.Tallies.{State, tally, withdraws}
use Rattle.deal_steps.specs.Piles.{joined}
use Rattle.deal_steps.specs.declared.deals.Racks.{Racks}
use Rattle.deal_steps.specs.declared.steps.Motion.{Motion}
use Rattle.deal_steps.specs.declared.steps.Motion.TheVariants as motion
use Rattle.deal_steps.specs.declared.steps.Act.{Act}
use Rattle.deal_steps.specs.declared.steps.Act.TheVariants as act
use Rattle.deal_steps.specs.declared.steps.Step.{Step}
use Rattle.deal_steps.specs.Runs.{Course, none_waiting, waits, MayTurn, MayAct, turn_course, act_course, IsOnCourse, IsRunFrom, first_course}
use Rattle.deal_steps.proofs.PileLaws.{length-table, length-joined, length-no_tiles, sum-joined, sum-no_tiles}
use Rattle.game_deal.specs.Recorded.{placed_tiles, play_motion, turn_of, taken_back_act, act_of, step_in, steps_after}
use Rattle.game_deal.specs.Laws.{all_tiles, TilesAreAll}
use Rattle.game_deal.proofs.RecordRuns.{allowed_runs}

-- ---- the tiles that a play uses are counted by kind

abbrev UsesKindsBy : Motion → Type 0
UsesKindsBy motion.Keeps = Unit {0}
UsesKindsBy (motion.Lays used drawn) = length used ≡ 27
UsesKindsBy (motion.Tries used) = length used ≡ 27
UsesKindsBy (motion.Throws tiles) = Unit {0}
UsesKindsBy (motion.ThrowsUnknown n) = Unit {0}

abbrev UsesKinds : Act → Type 0
UsesKinds (act.Turns shown what) = UsesKindsBy what
UsesKinds (act.TakesBack used) = Unit {0}
UsesKinds (act.Ends holder tiles) = Unit {0}
UsesKinds act.Rests = Unit {0}

placed_kinds : (ps : List Placed) → length (placed_tiles ps) ≡ 27
unfolding placed_tiles
placed_kinds ps = length-table _

play_kinds : (bag : ℕ) (ps : List Placed) (w : Bool) → UsesKindsBy (play_motion bag ps w)
play_kinds bag ps true = placed_kinds ps
play_kinds bag ps false = placed_kinds ps

pass_kinds : (e : Event) (out : Bool) → UsesKinds (if out then act.Rests else turn_of e motion.Keeps)
pass_kinds e true = tt
pass_kinds e false = tt

back_kinds : (latest : Option (List Placed)) → UsesKinds (taken_back_act latest)
back_kinds None = tt
back_kinds (Some tiles) = tt

act_kinds : (s : State) (e : Event) (what : EventKind) (w : Bool) → UsesKinds (act_of s e what w)
act_kinds s e (kind.Play at dir word) w = play_kinds s.bag _ w
act_kinds s e kind.Pass w = pass_kinds e (is_some s.out)
act_kinds s e (kind.Exchange tiles) w = tt
act_kinds s e (kind.ExchangeUnknown n) w = tt
act_kinds s e kind.Withdraw w = back_kinds (latest_tiles s.latest)
act_kinds s e kind.Challenge w = tt
act_kinds s e kind.Time w = tt
act_kinds s e (kind.LastRack tiles) w = tt

step_kinds : (s : State) (e : Event) (w : Bool) → UsesKinds (step_in s e w).act
unfolding step_in
step_kinds s e w = act_kinds s e e.kind w

-- ---- a course with all the tiles

record HasAll (total : ℕ) (c : Course) : Type 0 where
  pub laid : length c.laid ≡ 27
  pub first : length c.waiting.first ≡ 27
  pub second : length c.waiting.second ≡ 27
  pub all : c.first + c.second + c.bag + sum c.laid + sum c.waiting.first + sum c.waiting.second ≡ total

-- a play that stands puts its tiles on the board
laid_down : (total : ℕ) (c new : Course) (used : List ℕ) → length used ≡ 27 → HasAll total c → new.laid ≡ joined c.laid used → new.waiting ≡ c.waiting
    → new.first + new.second + new.bag + sum used ≡ c.first + c.second + c.bag → HasAll total new
laid_down total c new used long is laid waits sizes =
    record {
      laid = ap length laid ∙ length-joined _ _;
      first = ap (λ (w : Racks). length w.first) waits ∙ is.first;
      second = ap (λ (w : Racks). length w.second) waits ∙ is.second;
      all =
          let whole = is.all in
          let on_board = ap sum laid ∙ sum-joined c.laid used is.laid long in
          let first = ap (λ (w : Racks). sum w.first) waits in
          let second = ap (λ (w : Racks). sum w.second) waits in
          omega arith;
    }

-- tiles move between racks, the bag and those that wait
moved : (total : ℕ) (c new : Course) → HasAll total c → new.laid ≡ c.laid → length new.waiting.first ≡ 27 → length new.waiting.second ≡ 27
    → new.first + new.second + new.bag + (sum new.waiting.first + sum new.waiting.second) ≡ c.first + c.second + c.bag + (sum c.waiting.first + sum c.waiting.second) → HasAll total new
moved total c new is laid first second sizes =
    record {
      laid = ap length laid ∙ is.laid;
      first = first;
      second = second;
      all =
          let whole = is.all in
          let on_board = ap sum laid in
          omega arith;
    }

none_wait : (waiting : Racks) → waiting ≡ none_waiting → sum waiting.first + sum waiting.second ≡ 0
none_wait waiting none =
    let first : sum waiting.first ≡ 0 = ap (λ (w : Racks). sum w.first) none ∙ sum-no_tiles in
    let second : sum waiting.second ≡ 0 = ap (λ (w : Racks). sum w.second) none ∙ sum-no_tiles in
    omega arith

-- a turn moves tiles, and loses none
turn_keeps : (total : ℕ) (c : Course) (seat : Seat) (what : Motion) → c.waiting ≡ none_waiting → MayTurn c seat what → UsesKindsBy what → HasAll total c → HasAll total (turn_course c seat what)
turn_keeps total c seat motion.Keeps none may long is = is
turn_keeps total c First (motion.Lays used drawn) none may long is =
    laid_down total c (turn_course c First (motion.Lays used drawn)) used long is refl refl (let drawn_is = may.0 in let fits = may.1 in omega arith)
turn_keeps total c Second (motion.Lays used drawn) none may long is =
    laid_down total c (turn_course c Second (motion.Lays used drawn)) used long is refl refl (let drawn_is = may.0 in let fits = may.1 in omega arith)
turn_keeps total c First (motion.Tries used) none may long is =
    moved total c (turn_course c First (motion.Tries used)) is refl long length-no_tiles (let before = none_wait c.waiting none in let empty = sum-no_tiles in omega arith)
turn_keeps total c Second (motion.Tries used) none may long is =
    moved total c (turn_course c Second (motion.Tries used)) is refl length-no_tiles long (let before = none_wait c.waiting none in let empty = sum-no_tiles in omega arith)
turn_keeps total c seat (motion.Throws tiles) none may long is = is
turn_keeps total c seat (motion.ThrowsUnknown n) none may long is = is

-- as many tiles wait as the play used
waits_sum : (waiting : Racks) (seat : Seat) (used : List ℕ) → waiting ≡ waits seat used → sum waiting.first + sum waiting.second ≡ sum used
waits_sum waiting First used is =
    let first : sum waiting.first ≡ sum used = ap (λ (w : Racks). sum w.first) is in
    let second : sum waiting.second ≡ 0 = ap (λ (w : Racks). sum w.second) is ∙ sum-no_tiles in
    omega arith
waits_sum waiting Second used is =
    let first : sum waiting.first ≡ 0 = ap (λ (w : Racks). sum w.first) is ∙ sum-no_tiles in
    let second : sum waiting.second ≡ sum used = ap (λ (w : Racks). sum w.second) is in
    omega arith

-- a withdrawal gives the tiles that wait back to their player
given_back : (total : ℕ) (c new : Course) (used : List ℕ) → sum c.waiting.first + sum c.waiting.second ≡ sum used → new.laid ≡ c.laid → new.waiting ≡ none_waiting
    → new.first + new.second + new.bag ≡ c.first + c.second + c.bag + sum used → HasAll total c → HasAll total new
given_back total c new used waited laid none sizes is =
    moved total c new is laid (ap (λ (w : Racks). length w.first) none ∙ length-no_tiles) (ap (λ (w : Racks). length w.second) none ∙ length-no_tiles)
    (let after = none_wait new.waiting none in omega arith)

back_keeps : (total : ℕ) (c : Course) (seat : Seat) (used : List ℕ) → c.waiting ≡ waits seat used → HasAll total c → HasAll total (act_course c seat (act.TakesBack used))
back_keeps total c First used waiting is = given_back total c (act_course c First (act.TakesBack used)) used (waits_sum c.waiting First used waiting) refl refl (omega arith) is
back_keeps total c Second used waiting is = given_back total c (act_course c Second (act.TakesBack used)) used (waits_sum c.waiting Second used waiting) refl refl (omega arith) is

act_keeps : (total : ℕ) (c : Course) (seat : Seat) (what : Act) → MayAct c seat what → UsesKinds what → HasAll total c → HasAll total (act_course c seat what)
act_keeps total c seat (act.Turns shown what) may long is = turn_keeps total c seat what may.0 may.1 long is
act_keeps total c seat (act.TakesBack used) may long is = back_keeps total c seat used may is
act_keeps total c seat (act.Ends holder tiles) may long is = is
act_keeps total c seat act.Rests may long is = is

-- ---- the tiles at each step

step_has_all : (total : ℕ) (c : Course) (s : Step) → HasAll total c → IsOnCourse c s → all_tiles s ≡ total
step_has_all total c s is on =
    let whole = is.all in
    let first = on.first in
    let second = on.second in
    let bag = on.bag in
    let board = ap sum on.board in
    let sums = sum-joined c.laid (joined c.waiting.first c.waiting.second) is.laid (length-joined _ _) in
    let more = sum-joined c.waiting.first c.waiting.second is.first is.second in
    omega arith

each_has_all : (rules : Rules) (total : ℕ) (c : Course) (past events : List Event) → HasAll total c → IsRunFrom c (steps_after rules past events)
    → All (λ (s : Step). all_tiles s ≡ total) (steps_after rules past events)
each_has_all rules total c past [] is run = All-nil _
each_has_all rules total c past (e ∷ events) is run =
    let state = tally rules (is_withdraw e.kind) past in
    let w = withdraws (slice_get events 0) in
    let s = step_in state e w in
    All-cons (λ (x : Step). all_tiles x ≡ total) s (steps_after rules (e ∷ past) events) (step_has_all total c s is run.0)
    (each_has_all rules total (act_course c s.player s.act) (e ∷ past) events (act_keeps total c s.player s.act run.0.may (step_kinds state e w) is) run.1)

-- a game starts with two racks of 7 tiles, and the others in the bag
start_has_all : (rules : Rules) → HasAll (sum rules.counts) (first_course rules)
start_has_all rules =
    record {
      laid = length-no_tiles;
      first = length-no_tiles;
      second = length-no_tiles;
      all =
          let enough : 14 ≤ sum rules.counts =
          leb-true 14 (sum rules.counts) (and_parts (leb 14 (sum rules.counts)) (leb (sum rules.counts) most_tiles) rules.tiles_in_limits).0 in
          let empty = sum-no_tiles in
          omega arith;
    }

pub allowed_tiles : TilesAreAll
allowed_tiles rules list events allowed = each_has_all rules (sum rules.counts) (first_course rules) [] events (start_has_all rules) (allowed_runs rules list events allowed)
