-- A game without exchanges that exceeds no bound is dealt, and the deal fits.
use Rattle.std.proofs.Common.{◌≡◌, ◌<◌, ◌≤◌, ℕ, ◌+◌, ◌-◌, Bool, true, false, leb, List, [], ◌∷◌, ◌++◌, get_or, sum, length, Option, Some, None, refl, sym, ap, ◌∙◌, subst, arith}
use Rattle.std.specs.Prelude.{if◌then◌else◌, IsSomeAnd}
use Rattle.std.specs.Option.{option_map}
use Rattle.std.proofs.lemmas.Bool.{and_parts, and_from, leb-true}
use Rattle.ref_tiles.specs.Counting.{no_tiles, IsContainedIn}
use Rattle.ref_tiles.specs.Limits.{most_tiles}
use Rattle.ref_tiles.specs.declared.rulebook.Rules.{Rules}
use Rattle.gcg_read.specs.declared.events.Seat.{Seat}
use Rattle.gcg_read.specs.declared.events.Seat.TheVariants.{First, Second}
use Rattle.gcg_read.specs.Players.{other_seat, same_seat}
use Rattle.deal_steps.specs.declared.steps.Motion.{Motion}
use Rattle.deal_steps.specs.declared.steps.Motion.TheVariants as motion
use Rattle.deal_steps.specs.declared.steps.Act.{Act}
use Rattle.deal_steps.specs.declared.steps.Act.TheVariants as act
use Rattle.deal_steps.specs.declared.steps.Step.{Step}
use Rattle.deal_steps.specs.declared.deals.Racks.{Racks}
use Rattle.deal_steps.specs.declared.deals.Held.{Held}
use Rattle.deal_steps.specs.Piles.{kinds, joined, without, greater}
use Rattle.deal_steps.specs.Steps.{used_by, remaining_by, of_act, remaining_in, needed, needed_of, size_of, swaps_by, swaps, opener}
use Rattle.deal_steps.specs.Fitting.{rack_of, in_bag, AddsUp, IsThrownBy, HasTurn, AllowsAct, FitsAt, ActsTo, Follows, FollowsTo, Fits}
use Rattle.deal_steps.specs.Bounds.{gone, first_bound}
use Rattle.deal_steps.specs.Runs.{Course, none_waiting, size_in, MayAct, turn_course, act_course, IsOnCourse, IsRunFrom, first_course, IsRun, HasKindsBy, HasKinds, HaveKinds}
use Rattle.deal_steps.proofs.PileLaws.{get-joined, get-without, get-no_tiles, length-no_tiles, length-joined, same_numbers, sum_of_sums, sum_is, sum-joined, sum-no_tiles, sum_kinds_same}
use Rattle.deal_steps.proofs.Refills.{refilled_from}
use Rattle.deal_completion.specs.declared.picking.Pick.{Pick}
use Rattle.deal_completion.specs.declared.hands.Hands.{Hands}
use Rattle.deal_completion.specs.Completion.{want_list, pick, take_off, put_on, draw, throws, acted, is_within, is_met, held_at, dealt_from, undealt, start, dealt}
use Rattle.deal_completion.specs.Plain.{IsPlain}
use Rattle.deal_completion.proofs.Demand.{demand}
use Rattle.deal_completion.proofs.DealStates.{IsWhole, IsDealtFitting}
use Rattle.deal_completion.proofs.DealLaws.{within_test, rack_with, rack_beside, rack_long, draw_keeps, acted_whole, start_whole}
use Rattle.deal_completion.proofs.OnTime.{drawn_at, drawn_in, to_come, IsOnTime, is_met_on_time, IsCovered}
use Rattle.deal_completion.proofs.Starting.{past_with, IsSized, on_time_at_start, known_if_plain, covered_at_start}
use Rattle.deal_completion.proofs.ReadySteps.{all_there, contained, within_is, shown_there, on_time_same, covered_same, covered_swapped, with_none, needed_is, drawn_split, bag_lasts, draws_well, IsReady, either_same, ready_by}

-- ---- moments are met

same_own : (seat : Seat) → same_seat seat seat ≡ true
same_own First = refl
same_own Second = refl

-- what is ready, by player
on_of : (seat : Seat) (c : Course) (steps : List Step) (h : Hands) → IsReady c steps h → IsOnTime seat steps (joined (rack_of h.racks seat) (rack_of c.waiting seat)) 0
on_of First c steps h ready = ready.first_on
on_of Second c steps h ready = ready.second_on

size_is : (seat : Seat) (c : Course) (steps : List Step) (h : Hands) → IsReady c steps h → sum (rack_of h.racks seat) ≡ size_in c seat
size_is First c steps h ready = ready.first_size
size_is Second c steps h ready = ready.second_size

none_of : (seat : Seat) (c : Course) → c.waiting ≡ none_waiting → rack_of c.waiting seat ≡ no_tiles
none_of First c waiting = ap (λ (w : Racks). w.first) waiting
none_of Second c waiting = ap (λ (w : Racks). w.second) waiting

-- what a moment asks for is on the rack
asked_there : (seat : Seat) (c : Course) (s : Step) (rest : List Step) (h : Hands) (tiles : List ℕ) → IsReady c (s ∷ rest) h → c.waiting ≡ none_waiting → needed seat s ≡ Some tiles
    → (k : ℕ) → k < 27 → get_or tiles k 0 ≤ get_or (rack_of h.racks seat) k 0
asked_there seat c s rest h tiles ready waiting asks k below =
    let rack = rack_of h.racks seat in
    let le = is_met_on_time seat s rest (joined rack (rack_of c.waiting seat)) tiles (on_of seat c (s ∷ rest) h ready) asks k below in
    let e = with_none rack (rack_of c.waiting seat) (none_of seat c waiting) k below in
    omega arith

-- A turn's line is shown by its player, and a last rack is its holder's.
turn_asks : (player : Seat) (s : Step) (shown : List ℕ) (what : Motion) → s.player ≡ player → s.act ≡ act.Turns shown what → needed player s ≡ Some (greater shown (used_by what))
turn_asks player s shown what by is =
    needed_is player s player (act.Turns shown what) by is ∙ ap (λ (b : Bool). if b then Some (greater shown (used_by what)) else None) (same_own player)

end_asks : (player holder : Seat) (s : Step) (tiles : List ℕ) → s.player ≡ player → s.act ≡ act.Ends holder tiles → needed holder s ≡ Some tiles
end_asks player holder s tiles by is =
    needed_is holder s player (act.Ends holder tiles) by is ∙ ap (λ (b : Bool). if b then Some tiles else None) (same_own holder)

pub met_by : (player : Seat) (what : Act) (rules : Rules) (c : Course) (s : Step) (rest : List Step) (h : Hands) → s.player ≡ player → s.act ≡ what → IsReady c (s ∷ rest) h → IsWhole rules c h
    → MayAct c player what → HasKinds what → is_met player what h.racks ≡ true
met_by player (act.Turns shown what) rules c s rest h by is ready whole may are =
    within_is (greater shown (used_by what)) (rack_of h.racks player)
    (asked_there player c s rest h (greater shown (used_by what)) ready may.0 (turn_asks player s shown what by is))
met_by player (act.TakesBack used) rules c s rest h by is ready whole may are = refl
met_by player (act.Ends holder tiles) rules c s rest h by is ready whole may are =
    let rack = rack_of h.racks holder in
    let there = asked_there holder c s rest h tiles ready may.0 (end_asks player holder s tiles by is) in
    and_from (is_within tiles rack) (is_within rack tiles) (within_is tiles rack there)
    (within_is rack tiles (all_there tiles rack are (rack_long rules c holder h whole) (may.1 ∙ sym (size_is holder c (s ∷ rest) h ready)) there))
met_by player act.Rests rules c s rest h by is ready whole may are = refl

-- ---- the racks fit

none_contained : (rack : List ℕ) → IsContainedIn no_tiles rack
none_contained rack = contained no_tiles rack length-no_tiles (λ k h. omega (arith, get-no_tiles k h))

-- a turn that throws nothing
turn_allowed : (shown rack : List ℕ) (what : Motion) → length shown ≡ 27 → HasKindsBy what → swaps_by what ≡ false → is_within (greater shown (used_by what)) rack ≡ true
    → HasTurn shown what no_tiles rack
turn_allowed shown rack what long are plain met = record {
  has_shown = contained shown rack long (λ k h. (shown_there shown (used_by what) rack met k h).0);
  has_used = contained (used_by what) rack (used_long what are plain) (λ k h. (shown_there shown (used_by what) rack met k h).1);
  has_thrown = none_contained rack;
  throws = none_thrown what plain;
}
  where
    used_long : (what : Motion) → HasKindsBy what → swaps_by what ≡ false → length (used_by what) ≡ 27
    used_long motion.Keeps are plain = length-no_tiles
    used_long (motion.Lays used drawn) are plain = are
    used_long (motion.Tries used) are plain = are
    used_long (motion.Throws tiles) are plain = are
    used_long (motion.ThrowsUnknown n) are plain = length-no_tiles

    none_thrown : (what : Motion) → swaps_by what ≡ false → IsThrownBy what no_tiles
    none_thrown motion.Keeps plain = refl
    none_thrown (motion.Lays used drawn) plain = refl
    none_thrown (motion.Tries used) plain = refl
    none_thrown (motion.Throws tiles) plain = absurd (cc)
    none_thrown (motion.ThrowsUnknown n) plain = absurd (cc)

plain_throws : (player : Seat) (what : Act) (rest : List Step) (racks : Racks) → swaps what ≡ false → throws player what rest racks ≡ no_tiles
plain_throws player (act.Turns shown motion.Keeps) rest racks plain = refl
plain_throws player (act.Turns shown (motion.Lays used drawn)) rest racks plain = refl
plain_throws player (act.Turns shown (motion.Tries used)) rest racks plain = refl
plain_throws player (act.Turns shown (motion.Throws tiles)) rest racks plain = absurd (cc)
plain_throws player (act.Turns shown (motion.ThrowsUnknown n)) rest racks plain = absurd (cc)
plain_throws player (act.TakesBack used) rest racks plain = refl
plain_throws player (act.Ends holder tiles) rest racks plain = refl
plain_throws player act.Rests rest racks plain = refl

allowed_none : (player : Seat) (what : Act) (rules : Rules) (c : Course) (h : Hands) → IsWhole rules c h → HasKinds what → swaps what ≡ false → is_met player what h.racks ≡ true
    → AllowsAct player what (record { racks = h.racks; thrown = no_tiles })
allowed_none player (act.Turns shown what) rules c h whole are plain met = turn_allowed shown (rack_of h.racks player) what are.0 are.1 plain met
allowed_none player (act.TakesBack used) rules c h whole are plain met = refl
allowed_none player (act.Ends holder tiles) rules c h whole are plain met =
    let rack = rack_of h.racks holder in
    let both = and_parts (is_within tiles rack) (is_within rack tiles) met in (
      refl,
      same_numbers rack tiles (rack_long rules c holder h whole) are
          (λ k below. let a = within_test tiles rack both.0 k below in let b = within_test rack tiles both.1 k below in omega arith),
    )
allowed_none player act.Rests rules c h whole are plain met = refl

pub allowed_by : (player : Seat) (what : Act) (rules : Rules) (c : Course) (rest : List Step) (h : Hands) → IsWhole rules c h → HasKinds what → swaps what ≡ false → is_met player what h.racks ≡ true
    → AllowsAct player what (record { racks = h.racks; thrown = throws player what rest h.racks })
allowed_by player what rules c rest h whole are plain met =
    subst (λ (thrown : List ℕ). AllowsAct player what (record { racks = h.racks; thrown = thrown })) (sym (plain_throws player what rest h.racks plain))
    (allowed_none player what rules c h whole are plain met)

-- the tiles on the board of a course
on_board : (c : Course) (s : Step) (k : ℕ) → k < 27 → IsOnCourse c s
    → get_or s.board k 0 ≡ get_or c.laid k 0 + get_or c.waiting.first k 0 + get_or c.waiting.second k 0
on_board c s k below on =
    let e = ap (λ (l : List ℕ). get_or l k 0) on.board in
    let a = get-joined c.laid (joined c.waiting.first c.waiting.second) k below in
    let b = get-joined c.waiting.first c.waiting.second k below in
    omega arith

pub adds_up : (rules : Rules) (c : Course) (s : Step) (rest : List Step) (h : Hands) → length rules.counts ≡ 27 → IsOnCourse c s → IsWhole rules c h → IsReady c (s ∷ rest) h → AddsUp rules s h.racks
adds_up rules c s rest h long on whole ready = record {
  within = λ k below. let b = on_board c s k below on in let w = whole.whole k below in omega arith;
  first_kinds = whole.first_long;
  second_kinds = whole.second_long;
  first = ready.first_size ∙ sym on.first;
  second = ready.second_size ∙ sym on.second;
  bag =
      let board = sum_is s.board (ap length on.board ∙ length-joined c.laid (joined c.waiting.first c.waiting.second)) in
      let first = sum_is h.racks.first whole.first_long in
      let second = sum_is h.racks.second whole.second_long in
      let bag = sum_is h.bag whole.bag_long in
      let all = sum_is rules.counts long in
      let f : ℕ → ℕ = λ k. get_or s.board k 0 in
      let g : ℕ → ℕ = λ k. get_or h.racks.first k 0 in
      let i : ℕ → ℕ = λ k. get_or h.racks.second k 0 in
      let j : ℕ → ℕ = λ k. get_or h.bag k 0 in
      let one = sum_of_sums f (λ k. g k + (i k + j k)) kinds in
      let two = sum_of_sums g (λ k. i k + j k) kinds in
      let three = sum_of_sums i j kinds in
      let same = sum_kinds_same (λ k. f k + (g k + (i k + j k))) (λ k. get_or rules.counts k 0)
      (λ k below. let b = on_board c s k below on in let w = whole.whole k below in omega arith) in
      let size = ready.bag_size in
      let bag_is = on.bag in
      omega arith;
}

-- ---- each to the next

off_at : (seat : Seat) (tiles : List ℕ) (h : Hands) (k : ℕ) → k < 27
    → get_or (rack_of (take_off seat tiles h).racks seat) k 0 ≡ get_or (rack_of h.racks seat) k 0 - get_or tiles k 0
off_at seat tiles h k below =
    ap (λ (l : List ℕ). get_or l k 0) (rack_with h.racks seat (without (rack_of h.racks seat) tiles)) ∙ get-without (rack_of h.racks seat) tiles k below

on_at : (seat : Seat) (tiles : List ℕ) (h : Hands) (k : ℕ) → k < 27
    → get_or (rack_of (put_on seat tiles h).racks seat) k 0 ≡ get_or (rack_of h.racks seat) k 0 + get_or tiles k 0
on_at seat tiles h k below =
    ap (λ (l : List ℕ). get_or l k 0) (rack_with h.racks seat (joined (rack_of h.racks seat) tiles)) ∙ get-joined (rack_of h.racks seat) tiles k below

size_after : (c : Course) (seat : Seat) (used : List ℕ) (number : ℕ) → size_in (turn_course c seat (motion.Lays used number)) seat ≡ size_in c seat - sum used + number
size_after c First used number = refl
size_after c Second used number = refl

pub acts_by : (player : Seat) (what : Act) (rules : Rules) (c : Course) (bag : List ℕ) (rest : List Step) (h : Hands) → IsWhole rules c h → swaps what ≡ false → is_met player what h.racks ≡ true
    → ((k : ℕ) → k < 27 → get_or bag k 0 ≡ get_or h.bag k 0) → MayAct c player what → HasKinds what → sum (rack_of h.racks player) ≡ size_in c player
    → sum (rack_of (acted player what (throws player what rest h.racks) rest h).racks player) ≡ size_in (act_course c player what) player
    → ActsTo bag what (throws player what rest h.racks) (rack_of h.racks player) (rack_of (acted player what (throws player what rest h.racks) rest h).racks player)
acts_by player (act.Turns shown motion.Keeps) rules c bag rest h whole plain met same may are before after = refl
acts_by player (act.Turns shown (motion.Lays used drawn)) rules c bag rest h whole plain met same may are before after =
    let off = take_off player used h in
    let d = draw_keeps player drawn rest off whole.bag_long in
    let size = size_after c player used drawn in
    let enough = may.1.1 in
    refilled_from bag drawn used (rack_of h.racks player) (rack_of (draw player drawn rest off).racks player) are.1 (rack_long rules c player h whole) d.long
    (omega (arith, before, after, size, enough))
    (λ k below.
    let o = off_at player used h k below in
    let m = d.more k below in
    let w = d.whole k below in
    let t = (shown_there shown used (rack_of h.racks player) met k below).1 in
    let b = same k below in
    (omega arith, omega arith))
acts_by player (act.Turns shown (motion.Tries used)) rules c bag rest h whole plain met same may are before after =
    λ k below.
    let o = off_at player used h k below in
    let t = (shown_there shown used (rack_of h.racks player) met k below).1 in
    omega arith
acts_by player (act.Turns shown (motion.Throws tiles)) rules c bag rest h whole plain met same may are before after = absurd (cc)
acts_by player (act.Turns shown (motion.ThrowsUnknown n)) rules c bag rest h whole plain met same may are before after = absurd (cc)
acts_by player (act.TakesBack used) rules c bag rest h whole plain met same may are before after = λ k below. sym (on_at player used h k below)
acts_by player (act.Ends holder tiles) rules c bag rest h whole plain met same may are before after = refl
acts_by player act.Rests rules c bag rest h whole plain met same may are before after = refl

pub stays_by : (player : Seat) (what : Act) (rules : Rules) (c : Course) (rest : List Step) (h : Hands) → IsWhole rules c h → swaps what ≡ false
    → rack_of (acted player what (throws player what rest h.racks) rest h).racks (other_seat player) ≡ rack_of h.racks (other_seat player)
stays_by player (act.Turns shown motion.Keeps) rules c rest h whole plain = refl
stays_by player (act.Turns shown (motion.Lays used drawn)) rules c rest h whole plain =
    (draw_keeps player drawn rest (take_off player used h) whole.bag_long).stays ∙ rack_beside h.racks player (without (rack_of h.racks player) used)
stays_by player (act.Turns shown (motion.Tries used)) rules c rest h whole plain = rack_beside h.racks player (without (rack_of h.racks player) used)
stays_by player (act.Turns shown (motion.Throws tiles)) rules c rest h whole plain = absurd (cc)
stays_by player (act.Turns shown (motion.ThrowsUnknown n)) rules c rest h whole plain = absurd (cc)
stays_by player (act.TakesBack used) rules c rest h whole plain = rack_beside h.racks player (joined (rack_of h.racks player) used)
stays_by player (act.Ends holder tiles) rules c rest h whole plain = refl
stays_by player act.Rests rules c rest h whole plain = refl

-- what is neither on the board nor on a rack is in the bag
bag_is : (rules : Rules) (c : Course) (s : Step) (h : Hands) → IsOnCourse c s → IsWhole rules c h → (k : ℕ) → k < 27 → get_or (in_bag rules s h.racks) k 0 ≡ get_or h.bag k 0
bag_is rules c s h on whole k below =
    let one = get-without rules.counts s.board k below in
    let two = get-without (without rules.counts s.board) h.racks.first k below in
    let three = get-without (without (without rules.counts s.board) h.racks.first) h.racks.second k below in
    let b = on_board c s k below on in
    let w = whole.whole k below in
    omega arith

-- ---- the whole deal

abbrev pub Begins : List Held → Racks → Type 0
Begins [] racks = Unit {0}
Begins (held ∷ rest) racks = held.racks ≡ racks

pub record IsDealt (rules : Rules) (steps : List Step) (h : Hands) : Type 0 where
  pub deal : List Held
  pub is : dealt_from steps h ≡ Some deal
  pub fits : Fits rules steps deal
  pub begins : Begins deal h.racks

follows_to : (rules : Rules) (s : Step) (held : Held) (deal : List Held) (racks : Racks) → Begins deal racks → Follows rules s held racks → FollowsTo rules s held deal
follows_to rules s held [] racks begins follows = tt
follows_to rules s held (next ∷ deal) racks begins follows = subst (λ (r : Racks). Follows rules s held r) (sym begins) follows

-- a step whose moment is met begins the deal of the rest
dealt_on : (s : Step) (rest : List Step) (h : Hands) (deal : List Held) → is_met s.player s.act h.racks ≡ true
    → dealt_from rest (acted s.player s.act (throws s.player s.act rest h.racks) rest h) ≡ Some deal
    → dealt_from (s ∷ rest) h ≡ Some (held_at s rest h.racks ∷ deal)
dealt_on s rest h deal met is =
    let next = acted s.player s.act (throws s.player s.act rest h.racks) rest h in
    ap (λ (b : Bool). if b then option_map (λ more. held_at s rest h.racks ∷ more) (dealt_from rest next) else None) met
    ∙ ap (λ (o : Option (List Held)). option_map (λ more. held_at s rest h.racks ∷ more) o) is

pub plain_deal : (rules : Rules) (c : Course) (steps : List Step) (h : Hands) → length rules.counts ≡ 27 → IsRunFrom c steps → IsPlain steps → HaveKinds steps → IsWhole rules c h → IsReady c steps h → IsDealt rules steps h
plain_deal rules c [] h long run plain are whole ready = record { deal = []; is = refl; fits = tt; begins = tt }
plain_deal rules c (s ∷ rest) h long run plain are whole ready =
    let on = run.0 in
    let player = s.player in
    let what = s.act in
    let met = met_by player what rules c s rest h refl refl ready whole on.may are.0 in
    let lasts = bag_lasts c (s ∷ rest) run plain in
    let split = drawn_split s.player (drawn_at s.act) in
    let next = acted player what (throws player what rest h.racks) rest h in
    let next_ready = ready_by rules player what c s rest h refl refl ready whole on.may are.0 plain.0 plain.1 met (omega arith) in
    let next_whole = acted_whole rules player what c h rest whole on.may met in
    let following = plain_deal rules (act_course c player what) rest next long run.1 plain.1 are.1 next_whole next_ready in
    let held = held_at s rest h.racks in
    let follows : Follows rules s held next.racks = record {
      acts = acts_by player what rules c (in_bag rules s h.racks) rest h whole plain.0 met (bag_is rules c s h on whole) on.may are.0
          (size_is player c (s ∷ rest) h ready) (size_is player (act_course c player what) rest next next_ready);
      stays = stays_by player what rules c rest h whole plain.0;
    } in
    let fits_at : FitsAt rules s held = record {
      adds_up = adds_up rules c s rest h long on whole ready;
      allows = allowed_by player what rules c rest h whole are.0 plain.0 met;
    } in
    record {
      deal = held ∷ following.deal;
      is = dealt_on s rest h following.deal met following.is;
      fits = (fits_at, follows_to rules s held following.deal next.racks following.begins follows, following.fits);
      begins = refl;
    }

-- ---- the sizes of the racks

remaining_long : (b : Bool) (what : Act) → HasKinds what → length (if b then of_act remaining_by what else no_tiles) ≡ 27
remaining_long false what are = length-no_tiles
remaining_long true (act.Turns shown motion.Keeps) are = length-no_tiles
remaining_long true (act.Turns shown (motion.Lays used drawn)) are = are.1
remaining_long true (act.Turns shown (motion.Tries used)) are = length-no_tiles
remaining_long true (act.Turns shown (motion.Throws tiles)) are = are.1
remaining_long true (act.Turns shown (motion.ThrowsUnknown n)) are = length-no_tiles
remaining_long true (act.TakesBack used) are = length-no_tiles
remaining_long true (act.Ends holder tiles) are = length-no_tiles
remaining_long true act.Rests are = length-no_tiles

sum_either : (b : Bool) → sum (if b then no_tiles else no_tiles) ≡ 0
sum_either b = ap sum (either_same b no_tiles) ∙ sum-no_tiles

-- a player's tiles on the rack and in a play that waits
abbrev all_of : Course → Seat → ℕ
all_of c seat = size_in c seat + sum (rack_of c.waiting seat)

-- What leaves a rack plus what is then there is what was there plus what is drawn.
step_sized : (seat player : Seat) (what : Act) (c : Course) → MayAct c player what → swaps what ≡ false
    → sum (if same_seat player seat then of_act remaining_by what else no_tiles) + all_of (act_course c player what) seat
    ≡ all_of c seat + (if same_seat player seat then drawn_at what else 0)
step_sized seat player (act.Turns shown motion.Keeps) c may plain =
    let a = sum_either (same_seat player seat) in let b = either_same {A = ℕ} (same_seat player seat) 0 in omega arith
step_sized First First (act.Turns shown (motion.Lays used drawn)) c may plain = let le = may.1.1 in omega arith
step_sized First Second (act.Turns shown (motion.Lays used drawn)) c may plain = let z = sum-no_tiles in omega arith
step_sized Second First (act.Turns shown (motion.Lays used drawn)) c may plain = let z = sum-no_tiles in omega arith
step_sized Second Second (act.Turns shown (motion.Lays used drawn)) c may plain = let le = may.1.1 in omega arith
step_sized First First (act.Turns shown (motion.Tries used)) c may plain =
    let le = may.1 in let z = sum-no_tiles in let w = ap (λ (w : Racks). sum w.first) may.0 in omega arith
step_sized First Second (act.Turns shown (motion.Tries used)) c may plain =
    let z = sum-no_tiles in let w = ap (λ (w : Racks). sum w.first) may.0 in omega arith
step_sized Second First (act.Turns shown (motion.Tries used)) c may plain =
    let z = sum-no_tiles in let w = ap (λ (w : Racks). sum w.second) may.0 in omega arith
step_sized Second Second (act.Turns shown (motion.Tries used)) c may plain =
    let le = may.1 in let z = sum-no_tiles in let w = ap (λ (w : Racks). sum w.second) may.0 in omega arith
step_sized seat player (act.Turns shown (motion.Throws tiles)) c may plain = absurd (cc)
step_sized seat player (act.Turns shown (motion.ThrowsUnknown n)) c may plain = absurd (cc)
step_sized First First (act.TakesBack used) c may plain = let z = sum-no_tiles in let w = ap (λ (w : Racks). sum w.first) may in omega arith
step_sized First Second (act.TakesBack used) c may plain = let z = sum-no_tiles in let w = ap (λ (w : Racks). sum w.first) may in omega arith
step_sized Second First (act.TakesBack used) c may plain = let z = sum-no_tiles in let w = ap (λ (w : Racks). sum w.second) may in omega arith
step_sized Second Second (act.TakesBack used) c may plain = let z = sum-no_tiles in let w = ap (λ (w : Racks). sum w.second) may in omega arith
step_sized seat player (act.Ends holder tiles) c may plain =
    let a = sum_either (same_seat player seat) in let b = either_same {A = ℕ} (same_seat player seat) 0 in omega arith
step_sized seat player act.Rests c may plain =
    let a = sum_either (same_seat player seat) in let b = either_same {A = ℕ} (same_seat player seat) 0 in omega arith

-- no play waits at a moment
waits_none : (seat player : Seat) (what : Act) (c : Course) (tiles : List ℕ) → MayAct c player what → needed_of seat player what ≡ Some tiles → c.waiting ≡ none_waiting
waits_none seat player (act.Turns shown what) c tiles may asks = may.0
waits_none seat player (act.TakesBack used) c tiles may asks = absurd (cc)
waits_none seat player (act.Ends holder last) c tiles may asks = may.0
waits_none seat player act.Rests c tiles may asks = absurd (cc)

size_on : (seat : Seat) (c : Course) (s : Step) → IsOnCourse c s → size_of s seat ≡ size_in c seat
size_on First c s on = on.first
size_on Second c s on = on.second

sized_from : (seat : Seat) (c : Course) (before : List Step) (s : Step) (after past : List Step) (tiles : List ℕ) (came : ℕ) → IsRunFrom c (before ++ s ∷ after)
    → IsPlain (before ++ s ∷ after) → HaveKinds (before ++ s ∷ after) → length (gone seat past) ≡ 27 → sum (gone seat past) + all_of c seat ≡ came
    → needed seat s ≡ Some tiles → sum (gone seat (past_with before past)) + size_of s seat ≡ came + to_come seat before
sized_from seat c [] s after past tiles came run plain are long sized asks =
    let size = size_on seat c s run.0 in
    let none = ap sum (none_of seat c (waits_none seat s.player s.act c tiles run.0.may asks)) in
    let z = sum-no_tiles in
    omega arith
sized_from seat c (x ∷ before) s after past tiles came run plain are long sized asks =
    let known = known_if_plain seat (x ∷ before ++ s ∷ after) plain in
    let remaining = remaining_in seat x in
    let remaining_is_long : length remaining ≡ 27 = remaining_long (same_seat x.player seat) x.act are.0 in
    let gone_is : gone seat (x ∷ past) ≡ joined (gone seat past) remaining =
    ap (λ (b : Bool). if b then no_tiles else joined (gone seat past) remaining) known.0 in
    let sums = ap sum gone_is ∙ sum-joined (gone seat past) remaining long remaining_is_long in
    let step = step_sized seat x.player x.act c run.0.may plain.0 in
    let rest = sized_from seat (act_course c x.player x.act) before s after (x ∷ past) tiles (came + drawn_in seat x) run.1 plain.1 are.1
    (ap length gone_is ∙ length-joined (gone seat past) remaining) (omega arith) asks in
    omega arith

starts_sized : (rules : Rules) (seat : Seat) → sum (gone seat []) + all_of (first_course rules) seat ≡ 7
starts_sized rules First = let z = sum-no_tiles in omega arith
starts_sized rules Second = let z = sum-no_tiles in omega arith

pub run_is_sized : (rules : Rules) (seat : Seat) (steps : List Step) → IsRun rules steps → IsPlain steps → HaveKinds steps → IsSized seat steps
run_is_sized rules seat steps run plain are = record {
  sized = λ before s after tiles parts asks.
      sized_from seat (first_course rules) before s after [] tiles 7 (subst (λ (l : List Step). IsRun rules l) parts run) (subst IsPlain parts plain) (subst HaveKinds parts are)
      length-no_tiles (starts_sized rules seat) asks;
}

-- ---- the start

-- there are tiles for two racks
two_racks : (rules : Rules) → 14 ≤ sum rules.counts
two_racks rules = leb-true 14 (sum rules.counts) (and_parts (leb 14 (sum rules.counts)) (leb (sum rules.counts) most_tiles) rules.tiles_in_limits).0

-- what the player who draws first gets, and what the other then gets
abbrev first_pick : Rules → (seat other : Seat) → List Step → Pick
first_pick rules seat other steps = pick (want_list seat steps no_tiles) (want_list other steps no_tiles) 7 rules.counts

abbrev second_pick : Rules → (seat other : Seat) → List Step → Pick
second_pick rules seat other steps =
    pick (want_list other steps no_tiles) (want_list seat steps (joined no_tiles (first_pick rules seat other steps).taken)) 7 (first_pick rules seat other steps).remaining

-- Both players have seven tiles, everything comes in time, and the bag has what both want.
record StartsWell (rules : Rules) (seat other : Seat) (steps : List Step) (own others bag : List ℕ) : Type 0 where
  own_size : sum own ≡ 7
  others_size : sum others ≡ 7
  bag_size : sum bag + 14 ≡ sum rules.counts
  own_on : IsOnTime seat steps own 0
  others_on : IsOnTime other steps others 0
  covered : IsCovered (demand seat steps) (demand other steps) own others bag

starts_well : (rules : Rules) (seat other : Seat) (steps : List Step) → length rules.counts ≡ 27 → IsPlain steps → IsOnTime seat steps no_tiles 7 → IsOnTime other steps no_tiles 7
    → IsCovered (demand seat steps) (demand other steps) no_tiles no_tiles rules.counts
    → to_come seat steps + to_come other steps + 14 ≤ sum rules.counts
    → StartsWell rules seat other steps (joined no_tiles (first_pick rules seat other steps).taken) (joined no_tiles (second_pick rules seat other steps).taken)
    (second_pick rules seat other steps).remaining
starts_well rules seat other steps long plain on other_on covered room =
    let one = first_pick rules seat other steps in
    let two = second_pick rules seat other steps in
    let own = joined no_tiles one.taken in
    let first = draws_well seat other steps no_tiles no_tiles rules.counts 7 7 plain long on other_on covered (omega arith) in
    let remaining = first.remaining in
    let second = draws_well other seat steps no_tiles own one.remaining 7 0 plain first.is_of.remaining_long other_on first.on
    (covered_swapped (demand seat steps) (demand other steps) own no_tiles one.remaining first.covered) (omega arith) in
    let second_remaining = second.remaining in
    let all = first.all in
    let second_all = second.all in
    let none = sum-no_tiles in
    let sum_one = sum-joined no_tiles one.taken length-no_tiles first.is_of.long in
    let sum_two = sum-joined no_tiles two.taken length-no_tiles second.is_of.long in
    record {
      own_size = omega arith;
      others_size = omega arith;
      bag_size = omega arith;
      own_on = first.on;
      others_on = second.on;
      covered = covered_swapped (demand other steps) (demand seat steps) (joined no_tiles two.taken) own two.remaining second.covered;
    }

-- together with no tiles that wait
beside_none : (rack : List ℕ) (k : ℕ) → k < 27 → get_or (joined rack no_tiles) k 0 ≡ get_or rack k 0
beside_none rack k h = sym (with_none rack no_tiles refl k h)

-- racks and a bag when nothing waits
ready_from : (rules : Rules) (steps : List Step) (first second bag : List ℕ) → sum first ≡ 7 → sum second ≡ 7 → sum bag + 14 ≡ sum rules.counts
    → IsOnTime First steps first 0 → IsOnTime Second steps second 0 → IsCovered (demand First steps) (demand Second steps) first second bag
    → IsReady (first_course rules) steps (record { bag = bag; racks = record { first = first; second = second } })
ready_from rules steps first second bag first_size second_size bag_size on second_on covered =
    record {
      first_size = first_size;
      second_size = second_size;
      bag_size = omega arith;
      first_on = on_time_same First steps first (joined first no_tiles) 0 on (beside_none first);
      second_on = on_time_same Second steps second (joined second no_tiles) 0 second_on (beside_none second);
      covered = covered_same (demand First steps) (demand Second steps) first (joined first no_tiles) second (joined second no_tiles) bag covered (beside_none first) (beside_none second);
    }

ready_at_start : (rules : Rules) (seat : Seat) (steps : List Step) → length rules.counts ≡ 27 → IsPlain steps → IsOnTime First steps no_tiles 7 → IsOnTime Second steps no_tiles 7
    → IsCovered (demand First steps) (demand Second steps) no_tiles no_tiles rules.counts
    → to_come First steps + to_come Second steps + 14 ≤ sum rules.counts
    → IsReady (first_course rules) steps (draw (other_seat seat) 7 steps (draw seat 7 steps (undealt rules)))
unfolding draw
ready_at_start rules First steps long plain on second_on covered room =
    let well = starts_well rules First Second steps long plain on second_on covered room in
    ready_from rules steps _ _ _ well.own_size well.others_size well.bag_size well.own_on well.others_on well.covered
ready_at_start rules Second steps long plain on second_on covered room =
    let well = starts_well rules Second First steps long plain second_on on
    (covered_swapped (demand First steps) (demand Second steps) no_tiles no_tiles rules.counts covered) (omega arith) in
    ready_from rules steps _ _ _ well.others_size well.own_size well.bag_size well.others_on well.own_on
    (covered_swapped (demand Second steps) (demand First steps) _ _ _ well.covered)

pub plain_games_are_dealt : (rules : Rules) (steps : List Step) → length rules.counts ≡ 27 → IsRun rules steps → IsPlain steps → HaveKinds steps → first_bound rules steps ≡ None → IsDealtFitting rules steps
unfolding dealt start
plain_games_are_dealt rules steps long run plain are none =
    let seat = opener steps in
    let on = on_time_at_start rules First steps none (known_if_plain First steps plain) (run_is_sized rules First steps run plain are) in
    let second_on = on_time_at_start rules Second steps none (known_if_plain Second steps plain) (run_is_sized rules Second steps run plain are) in
    let covered : IsCovered (demand First steps) (demand Second steps) no_tiles no_tiles rules.counts = record {
      covered = λ k h. let z = get-no_tiles k h in let c = covered_at_start rules steps none plain k h in omega arith;
    } in
    let enough = two_racks rules in
    let lasts = bag_lasts (first_course rules) steps run plain in
    let ready = ready_at_start rules seat steps long plain on second_on covered (omega arith) in
    let d = plain_deal rules (first_course rules) steps (draw (other_seat seat) 7 steps (draw seat 7 steps (undealt rules))) long run plain are (start_whole rules seat steps long) ready in
    record { deal = d.deal; is = d.is; fits = d.fits }

-- the answer of a game without exchanges
pub plain_answer : (rules : Rules) (steps : List Step) (deal : Option (List Held)) → length rules.counts ≡ 27 → IsRun rules steps → HaveKinds steps → deal ≡ dealt rules steps
    → IsPlain steps → first_bound rules steps ≡ None → IsSomeAnd deal (Fits rules steps)
plain_answer rules steps deal long run are is plain none =
    let d = plain_games_are_dealt rules steps long run plain are none in
    subst (λ (o : Option (List Held)). IsSomeAnd o (Fits rules steps)) (sym (is ∙ d.is)) d.fits
