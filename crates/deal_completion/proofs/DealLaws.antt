-- What a step does to the bag and the racks: nothing is lost.
use Rattle.std.proofs.Common.{◌≡◌, ℕ, zero, suc, ◌+◌, ◌-◌, ◌<◌, ◌≤◌, Bool, true, false, List, [], ◌∷◌, ◌++◌, get_or, length, sum, Option, Some, None, refl, sym, ap, ◌∙◌, append_assoc, arith, ⊎_elim, leb, if◌then◌else◌}
use Rattle.std.specs.List.{list_all, range_with_len}
use Rattle.std.specs.Option.{option_map}
use Rattle.std.proofs.lemmas.List.{append-nil}
use Rattle.std.proofs.lemmas.Bool.{and_parts, cases_eq, leb-true}
use Rattle.ref_tiles.specs.Counting.{no_tiles}
use Rattle.ref_tiles.specs.declared.rulebook.Rules.{Rules}
use Rattle.gcg_read.specs.Players.{other_seat}
use Rattle.gcg_read.specs.declared.events.Seat.{Seat}
use Rattle.gcg_read.specs.declared.events.Seat.TheVariants.{First, Second}
use Rattle.deal_steps.specs.Piles.{kinds, joined, without, greater}
use Rattle.deal_steps.specs.Fitting.{rack_of, with_rack}
use Rattle.deal_steps.specs.Runs.{Course, MayAct, act_course, turn_course, size_in, with_size, waits, none_waiting, IsRun, first_course}
use Rattle.deal_steps.specs.declared.steps.Motion.{Motion}
use Rattle.deal_steps.specs.declared.steps.Motion.TheVariants as motion
use Rattle.deal_steps.specs.declared.steps.Act.{Act}
use Rattle.deal_steps.specs.declared.steps.Act.TheVariants as act
use Rattle.deal_steps.specs.declared.steps.Step.{Step}
use Rattle.deal_steps.specs.declared.deals.Racks.{Racks}
use Rattle.deal_steps.specs.declared.deals.Held.{Held}
use Rattle.deal_steps.proofs.PileLaws.{get-joined, get-without, get-greater, get-no_tiles, length-joined, length-without}
use Rattle.deal_completion.specs.declared.picking.Pick.{Pick}
use Rattle.deal_completion.specs.declared.hands.Hands.{Hands}
use Rattle.deal_steps.specs.Steps.{opener}
use Rattle.deal_completion.specs.Completion.{want_list, pick, take_off, put_on, put_drawn, drawn, draw, back_to_bag, exchange, chosen, throws, acted, is_within, is_met, held_at, dealt_from, undealt, start, dealt}
use Rattle.deal_completion.specs.Taking.{HasRoomToDraw, MayMove}
use Rattle.deal_completion.proofs.PickLaws.{IsOf, pick_of}
use Rattle.deal_completion.proofs.DealStates.{IsWhole, IsDealing}

-- ---- tests

each_of_range : (f : ℕ → Bool) (a n k : ℕ) → list_all f (range_with_len a n) ≡ true → a ≤ k → k < a + n → f k ≡ true
each_of_range f a zero k h low high = absurd (omega arith)
each_of_range f a (suc n) k h low high =
    let parts = and_parts (f a) (list_all f (range_with_len (a + 1) n)) h in
    ⊎_elim (λ (e : a ≡ k). ap f (sym e) ∙ parts.0) (λ (ne : a ≡ k → ⊥). each_of_range f (a + 1) n k parts.1 (omega arith) (omega arith)) (cases_eq a k)

pub within_test : (tiles others : List ℕ) → is_within tiles others ≡ true → (k : ℕ) → k < 27 → get_or tiles k 0 ≤ get_or others k 0
unfolding kinds
within_test tiles others within k below =
    leb-true (get_or tiles k 0) (get_or others k 0) (each_of_range (λ j. leb (get_or tiles j 0) (get_or others j 0)) 0 27 k within (omega arith) (omega arith))

-- what a turn uses is on the rack, if the moment is met
used_there : (shown used rack : List ℕ) → is_within (greater shown used) rack ≡ true → (k : ℕ) → k < 27 → get_or used k 0 ≤ get_or rack k 0
used_there shown used rack met k below =
    let there = within_test (greater shown used) rack met k below in
    let more = get-greater shown used k below in
    omega arith

-- ---- racks by their player

pub rack_with : (racks : Racks) (seat : Seat) (rack : List ℕ) → rack_of (with_rack racks seat rack) seat ≡ rack
rack_with racks First rack = refl
rack_with racks Second rack = refl

pub rack_beside : (racks : Racks) (seat : Seat) (rack : List ℕ) → rack_of (with_rack racks seat rack) (other_seat seat) ≡ rack_of racks (other_seat seat)
rack_beside racks First rack = refl
rack_beside racks Second rack = refl

abbrev at : ℕ → List ℕ → ℕ
at k tiles = get_or tiles k 0

-- all tiles of a kind, the player's first
abbrev all_by : Course → Seat → Hands → ℕ → ℕ
all_by c seat h k =
    get_or c.laid k 0 + (get_or c.waiting.first k 0 + get_or c.waiting.second k 0) + get_or (rack_of h.racks seat) k 0
    + get_or (rack_of h.racks (other_seat seat)) k 0 + get_or h.bag k 0

whole_by : (rules : Rules) (c : Course) (seat : Seat) (h : Hands) → IsWhole rules c h → (k : ℕ) → k < 27 → all_by c seat h k ≡ get_or rules.counts k 0
whole_by rules c First h is k below = let e = is.whole k below in omega arith
whole_by rules c Second h is k below = let e = is.whole k below in omega arith

pub rack_long : (rules : Rules) (c : Course) (seat : Seat) (h : Hands) → IsWhole rules c h → length (rack_of h.racks seat) ≡ 27
rack_long rules c First h is = is.first_long
rack_long rules c Second h is = is.second_long

whole_from : (rules : Rules) (c : Course) (seat : Seat) (h : Hands) → ((k : ℕ) → k < 27 → all_by c seat h k ≡ get_or rules.counts k 0)
    → length (rack_of h.racks seat) ≡ 27 → length (rack_of h.racks (other_seat seat)) ≡ 27 → length h.bag ≡ 27 → IsWhole rules c h
whole_from rules c First h all own other bag =
    record { whole = λ k below. let e = all k below in omega arith; first_long = own; second_long = other; bag_long = bag }
whole_from rules c Second h all own other bag =
    record { whole = λ k below. let e = all k below in omega arith; first_long = other; second_long = own; bag_long = bag }

-- ---- a draw keeps all tiles

pub record Draws (seat : Seat) (h after : Hands) : Type 0 where
  pub whole : (k : ℕ) → k < 27
      → get_or (rack_of after.racks seat) k 0 + get_or after.bag k 0 ≡ get_or (rack_of h.racks seat) k 0 + get_or h.bag k 0
  pub more : (k : ℕ) → k < 27 → get_or (rack_of h.racks seat) k 0 ≤ get_or (rack_of after.racks seat) k 0
  pub stays : rack_of after.racks (other_seat seat) ≡ rack_of h.racks (other_seat seat)
  pub long : length (rack_of after.racks seat) ≡ 27
  pub bag_long : length after.bag ≡ 27

draws_to : (seat : Seat) (h after : Hands) (p : Pick) → IsOf h.bag p → rack_of after.racks seat ≡ joined (rack_of h.racks seat) p.taken → after.bag ≡ p.remaining
    → rack_of after.racks (other_seat seat) ≡ rack_of h.racks (other_seat seat) → Draws seat h after
draws_to seat h after p is own remaining stays =
    record {
      whole = λ k below. let e = ap (at k) own ∙ get-joined (rack_of h.racks seat) p.taken k below in let l = ap (at k) remaining in let w = is.whole k below in omega arith;
      more = λ k below. let e = ap (at k) own ∙ get-joined (rack_of h.racks seat) p.taken k below in omega arith;
      stays = stays;
      long = ap length own ∙ length-joined (rack_of h.racks seat) p.taken;
      bag_long = ap length remaining ∙ is.remaining_long;
    }

draws_by : (seat : Seat) (h : Hands) (p : Pick) → IsOf h.bag p → Draws seat h (put_drawn seat h p)
draws_by First h p is = draws_to First h (put_drawn First h p) p is refl refl refl
draws_by Second h p is = draws_to Second h (put_drawn Second h p) p is refl refl refl

pub draw_keeps : (seat : Seat) (number : ℕ) (steps : List Step) (h : Hands) → length h.bag ≡ 27 → Draws seat h (draw seat number steps h)
unfolding draw
draw_keeps seat number steps h long =
    draws_by seat h (drawn seat number steps h)
    (pick_of (want_list seat steps (rack_of h.racks seat)) (want_list (other_seat seat) steps (rack_of h.racks (other_seat seat))) h.bag number long)

-- tiles leave the rack first
off_draws : (seat : Seat) (tiles : List ℕ) (number : ℕ) (steps : List Step) (h : Hands) → length h.bag ≡ 27
    → ((k : ℕ) → k < 27 → get_or tiles k 0 ≤ get_or (rack_of h.racks seat) k 0)
    → (k : ℕ) → k < 27 → let after = draw seat number steps (take_off seat tiles h) in
    (get_or (rack_of after.racks seat) k 0 + get_or after.bag k 0 + get_or tiles k 0 ≡ get_or (rack_of h.racks seat) k 0 + get_or h.bag k 0)
    × (get_or (rack_of after.racks (other_seat seat)) k 0 ≡ get_or (rack_of h.racks (other_seat seat)) k 0)
off_draws seat tiles number steps h long there k below =
    let off = take_off seat tiles h in
    let d = draw_keeps seat number steps off long in
    let w = d.whole k below in
    let own : get_or (rack_of off.racks seat) k 0 ≡ get_or (rack_of h.racks seat) k 0 - get_or tiles k 0 =
    ap (at k) (rack_with h.racks seat (without (rack_of h.racks seat) tiles)) ∙ get-without (rack_of h.racks seat) tiles k below in
    let enough = there k below in
    let other = ap (at k) (d.stays ∙ rack_beside h.racks seat (without (rack_of h.racks seat) tiles)) in
    (omega arith, other)

-- ---- a step keeps all tiles

sized_laid : (c : Course) (seat : Seat) (n : ℕ) → (with_size c seat n).laid ≡ c.laid
sized_laid c First n = refl
sized_laid c Second n = refl

sized_waiting : (c : Course) (seat : Seat) (n : ℕ) → (with_size c seat n).waiting ≡ c.waiting
sized_waiting c First n = refl
sized_waiting c Second n = refl

-- the number of tiles of a kind that wait
abbrev waiting_at : Racks → ℕ → ℕ
waiting_at racks k = get_or racks.first k 0 + get_or racks.second k 0

waits_at : (seat : Seat) (tiles : List ℕ) (k : ℕ) → k < 27 → waiting_at (waits seat tiles) k ≡ get_or tiles k 0
waits_at First tiles k below = let none = get-no_tiles k below in omega arith
waits_at Second tiles k below = let none = get-no_tiles k below in omega arith

none_at : (k : ℕ) → k < 27 → waiting_at none_waiting k ≡ 0
none_at k below = let none = get-no_tiles k below in omega arith

lays_whole : (rules : Rules) (seat : Seat) (used : List ℕ) (number : ℕ) (c : Course) (h : Hands) (steps : List Step) → IsWhole rules c h
    → ((k : ℕ) → k < 27 → get_or used k 0 ≤ get_or (rack_of h.racks seat) k 0)
    → IsWhole rules (turn_course c seat (motion.Lays used number)) (draw seat number steps (take_off seat used h))
lays_whole rules seat used number c h steps is there =
    let off = take_off seat used h in
    let after = draw seat number steps off in
    let d = draw_keeps seat number steps off is.bag_long in
    let c2 = turn_course c seat (motion.Lays used number) in
    whole_from rules c2 seat after
    (λ k below.
    let all = whole_by rules c seat h is k below in
    let moved = off_draws seat used number steps h is.bag_long there k below in
    let on_board = get-joined c.laid used k below in
    let waiting : waiting_at c2.waiting k ≡ waiting_at c.waiting k =
    ap (λ (racks : Racks). waiting_at racks k) (sized_waiting c seat (size_in c seat - sum used + number)) in
    omega arith)
    d.long (ap length d.stays ∙ ap length (rack_beside h.racks seat (without (rack_of h.racks seat) used)) ∙ rack_long rules c (other_seat seat) h is) d.bag_long

tries_whole : (rules : Rules) (seat : Seat) (used : List ℕ) (c : Course) (h : Hands) → IsWhole rules c h → c.waiting ≡ none_waiting
    → ((k : ℕ) → k < 27 → get_or used k 0 ≤ get_or (rack_of h.racks seat) k 0)
    → IsWhole rules (turn_course c seat (motion.Tries used)) (take_off seat used h)
tries_whole rules seat used c h is nothing there =
    let off = take_off seat used h in
    let less = without (rack_of h.racks seat) used in
    whole_from rules (turn_course c seat (motion.Tries used)) seat off
    (λ k below.
    let all = whole_by rules c seat h is k below in
    let enough = there k below in
    let own : get_or (rack_of off.racks seat) k 0 ≡ get_or (rack_of h.racks seat) k 0 - get_or used k 0 =
    ap (at k) (rack_with h.racks seat less) ∙ get-without (rack_of h.racks seat) used k below in
    let other = ap (at k) (rack_beside h.racks seat less) in
    let on_board : get_or (turn_course c seat (motion.Tries used)).laid k 0 ≡ get_or c.laid k 0 = ap (at k) (sized_laid c seat (size_in c seat - sum used)) in
    let before : waiting_at c.waiting k ≡ 0 = ap (λ (racks : Racks). waiting_at racks k) nothing ∙ none_at k below in
    let now = waits_at seat used k below in
    omega arith)
    (ap length (rack_with h.racks seat less) ∙ length-without (rack_of h.racks seat) used)
    (ap length (rack_beside h.racks seat less) ∙ rack_long rules c (other_seat seat) h is) is.bag_long

takes_back_whole : (rules : Rules) (seat : Seat) (used : List ℕ) (c : Course) (h : Hands) → IsWhole rules c h → c.waiting ≡ waits seat used
    → IsWhole rules (act_course c seat (act.TakesBack used)) (put_on seat used h)
takes_back_whole rules seat used c h is waiting =
    let on = put_on seat used h in
    let more = joined (rack_of h.racks seat) used in
    whole_from rules (act_course c seat (act.TakesBack used)) seat on
    (λ k below.
    let all = whole_by rules c seat h is k below in
    let own : get_or (rack_of on.racks seat) k 0 ≡ get_or (rack_of h.racks seat) k 0 + get_or used k 0 =
    ap (at k) (rack_with h.racks seat more) ∙ get-joined (rack_of h.racks seat) used k below in
    let other = ap (at k) (rack_beside h.racks seat more) in
    let on_board : get_or (act_course c seat (act.TakesBack used)).laid k 0 ≡ get_or c.laid k 0 = ap (at k) (sized_laid c seat (size_in c seat + sum used)) in
    let before : waiting_at c.waiting k ≡ get_or used k 0 = ap (λ (racks : Racks). waiting_at racks k) waiting ∙ waits_at seat used k below in
    let now = none_at k below in
    omega arith)
    (ap length (rack_with h.racks seat more) ∙ length-joined (rack_of h.racks seat) used)
    (ap length (rack_beside h.racks seat more) ∙ rack_long rules c (other_seat seat) h is) is.bag_long

exchange_whole : (rules : Rules) (seat : Seat) (thrown : List ℕ) (c : Course) (h : Hands) (steps : List Step) → IsWhole rules c h
    → ((k : ℕ) → k < 27 → get_or thrown k 0 ≤ get_or (rack_of h.racks seat) k 0)
    → IsWhole rules c (exchange seat thrown steps h)
unfolding exchange
exchange_whole rules seat thrown c h steps is there =
    let off = take_off seat thrown h in
    let after = draw seat (sum thrown) steps off in
    let d = draw_keeps seat (sum thrown) steps off is.bag_long in
    whole_from rules c seat (back_to_bag thrown after)
    (λ k below.
    let all = whole_by rules c seat h is k below in
    let moved = off_draws seat thrown (sum thrown) steps h is.bag_long there k below in
    let in_bag = get-joined after.bag thrown k below in
    omega arith)
    d.long (ap length d.stays ∙ ap length (rack_beside h.racks seat (without (rack_of h.racks seat) thrown)) ∙ rack_long rules c (other_seat seat) h is)
    (length-joined after.bag thrown)

chosen_there : (seat : Seat) (number : ℕ) (steps : List Step) (rack : List ℕ) → length rack ≡ 27 → (k : ℕ) → k < 27
    → get_or (chosen seat number steps rack) k 0 ≤ get_or rack k 0
unfolding chosen
chosen_there seat number steps rack long k below =
    let is = pick_of (want_list seat steps no_tiles) [] rack (sum rack - number) long in
    let all = is.whole k below in
    omega arith

-- what a turn throws is on the rack, if the moment is met
thrown_there : (seat : Seat) (shown : List ℕ) (what : Motion) (steps : List Step) (racks : Racks) → length (rack_of racks seat) ≡ 27
    → is_met seat (act.Turns shown what) racks ≡ true → (k : ℕ) → k < 27
    → get_or (throws seat (act.Turns shown what) steps racks) k 0 ≤ get_or (rack_of racks seat) k 0
thrown_there seat shown motion.Keeps steps racks long met k below = omega (arith, get-no_tiles k below)
thrown_there seat shown (motion.Lays used drawn) steps racks long met k below = omega (arith, get-no_tiles k below)
thrown_there seat shown (motion.Tries used) steps racks long met k below = omega (arith, get-no_tiles k below)
thrown_there seat shown (motion.Throws tiles) steps racks long met k below = used_there shown tiles (rack_of racks seat) met k below
thrown_there seat shown (motion.ThrowsUnknown n) steps racks long met k below = chosen_there seat n steps (rack_of racks seat) long k below

-- whatever the step is
pub acted_whole : (rules : Rules) (seat : Seat) (what : Act) (c : Course) (h : Hands) (steps : List Step) → IsWhole rules c h → MayAct c seat what
    → is_met seat what h.racks ≡ true → IsWhole rules (act_course c seat what) (acted seat what (throws seat what steps h.racks) steps h)
acted_whole rules seat (act.Turns shown motion.Keeps) c h steps is may met = is
acted_whole rules seat (act.Turns shown (motion.Lays used drawn)) c h steps is may met =
    lays_whole rules seat used drawn c h steps is (used_there shown used (rack_of h.racks seat) met)
acted_whole rules seat (act.Turns shown (motion.Tries used)) c h steps is may met =
    tries_whole rules seat used c h is may.0 (used_there shown used (rack_of h.racks seat) met)
acted_whole rules seat (act.Turns shown (motion.Throws tiles)) c h steps is may met =
    exchange_whole rules seat tiles c h steps is (used_there shown tiles (rack_of h.racks seat) met)
acted_whole rules seat (act.Turns shown (motion.ThrowsUnknown n)) c h steps is may met =
    exchange_whole rules seat (chosen seat n steps (rack_of h.racks seat)) c h steps is
    (chosen_there seat n steps (rack_of h.racks seat) (rack_long rules c seat h is))
acted_whole rules seat (act.TakesBack used) c h steps is may met = takes_back_whole rules seat used c h is may
acted_whole rules seat (act.Ends holder tiles) c h steps is may met = is
acted_whole rules seat act.Rests c h steps is may met = is

-- ---- there is room to count

pub off_room : (seat : Seat) (tiles : List ℕ) (h : Hands) → HasRoomToDraw seat h → HasRoomToDraw seat (take_off seat tiles h)
off_room seat tiles h room k below =
    let own : get_or (rack_of (take_off seat tiles h).racks seat) k 0 ≡ get_or (rack_of h.racks seat) k 0 - get_or tiles k 0 =
    ap (at k) (rack_with h.racks seat (without (rack_of h.racks seat) tiles)) ∙ get-without (rack_of h.racks seat) tiles k below in
    let before = room k below in
    omega arith

pub bag_room : (seat : Seat) (thrown : List ℕ) (number : ℕ) (steps : List Step) (h : Hands) → length h.bag ≡ 27 → HasRoomToDraw seat h
    → ((k : ℕ) → k < 27 → get_or thrown k 0 ≤ get_or (rack_of h.racks seat) k 0)
    → (k : ℕ) → k < 27 → get_or (draw seat number steps (take_off seat thrown h)).bag k 0 + get_or thrown k 0 < 256
bag_room seat thrown number steps h long room there k below =
    let moved = off_draws seat thrown number steps h long there k below in
    let before = room k below in
    omega arith

-- the bag's tiles and those that were drawn have room on the rack
pub drawn_room : (seat : Seat) (list reserved : List ℕ) (number : ℕ) (h : Hands) → length h.bag ≡ 27 → HasRoomToDraw seat h
    → (k : ℕ) → k < 27 → get_or (rack_of h.racks seat) k 0 + get_or (pick list reserved number h.bag).taken k 0 < 256
drawn_room seat list reserved number h long room k below =
    let is = pick_of list reserved h.bag number long in
    let all = is.whole k below in
    let before = room k below in
    omega arith

none_of : (rules : Rules) (seat : Seat) (k : ℕ) → k < 27 → get_or (rack_of (undealt rules).racks seat) k 0 ≡ 0
none_of rules First k below = get-no_tiles k below
none_of rules Second k below = get-no_tiles k below

pub first_room : (rules : Rules) (seat : Seat) → ((k : ℕ) → k < 27 → get_or rules.counts k 0 < 256) → HasRoomToDraw seat (undealt rules)
first_room rules seat small k below = let none = none_of rules seat k below in let few = small k below in omega arith

pub second_room : (rules : Rules) (seat : Seat) (steps : List Step) → length rules.counts ≡ 27 → ((k : ℕ) → k < 27 → get_or rules.counts k 0 < 256)
    → HasRoomToDraw (other_seat seat) (draw seat 7 steps (undealt rules))
second_room rules seat steps long small k below =
    let d = draw_keeps seat 7 steps (undealt rules) long in
    let all = d.whole k below in
    let own = none_of rules seat k below in
    let none : get_or (rack_of (draw seat 7 steps (undealt rules)).racks (other_seat seat)) k 0 ≡ 0 = ap (at k) d.stays ∙ none_of rules (other_seat seat) k below in
    let few = small k below in
    omega arith

-- ---- a deal under way

other_twice : (seat : Seat) (racks : Racks) → rack_of racks (other_seat (other_seat seat)) ≡ rack_of racks seat
other_twice First racks = refl
other_twice Second racks = refl

pub start_whole : (rules : Rules) (seat : Seat) (steps : List Step) → length rules.counts ≡ 27
    → IsWhole rules (first_course rules) (draw (other_seat seat) 7 steps (draw seat 7 steps (undealt rules)))
start_whole rules seat steps long =
    let one = draw seat 7 steps (undealt rules) in
    let two = draw (other_seat seat) 7 steps one in
    let d = draw_keeps seat 7 steps (undealt rules) long in
    let e = draw_keeps (other_seat seat) 7 steps one d.bag_long in
    let own : rack_of two.racks seat ≡ rack_of one.racks seat = sym (other_twice seat two.racks) ∙ e.stays ∙ other_twice seat one.racks in
    whole_from rules (first_course rules) seat two
    (λ k below.
    let all = d.whole k below in
    let all_two = e.whole k below in
    let none = none_of rules seat k below in
    let none_two : get_or (rack_of one.racks (other_seat seat)) k 0 ≡ 0 = ap (at k) d.stays ∙ none_of rules (other_seat seat) k below in
    let own_at = ap (at k) own in
    let waiting = none_at k below in
    let laid = get-no_tiles k below in
    omega arith)
    (ap length own ∙ d.long) e.long e.bag_long

map_same : (o : Option (List Held)) → option_map (λ more. [] ++ more) o ≡ o
map_same None = refl
map_same (Some more) = refl

pub dealing_starts : (rules : Rules) (steps : List Step) → IsRun rules steps → length rules.counts ≡ 27 → IsDealing rules steps steps (start rules steps) []
unfolding start dealt
dealing_starts rules steps run long =
    record {
      course = first_course rules;
      run = run;
      whole = start_whole rules (opener steps) steps long;
      goes_on = map_same (dealt_from steps (start rules steps));
    }

-- the deal from a step on, if its moment is met or not
dealt_if : (s : Step) (rest : List Step) (h : Hands) (met : Bool) → Option (List Held)
dealt_if s rest h met =
    if met then option_map (λ more. held_at s rest h.racks ∷ more) (dealt_from rest (acted s.player s.act (throws s.player s.act rest h.racks) rest h))
    else None

map_more : (so_far : List Held) (held : Held) (o : Option (List Held))
    → option_map (λ more. (so_far ++ held ∷ []) ++ more) o ≡ option_map (λ more. so_far ++ more) (option_map (λ more. held ∷ more) o)
map_more so_far held None = refl
map_more so_far held (Some more) = ap Some (append_assoc so_far (held ∷ []) more)

pub dealing_more : (rules : Rules) (all : List Step) (s : Step) (rest : List Step) (h : Hands) (so_far : List Held) → IsDealing rules all (s ∷ rest) h so_far
    → is_met s.player s.act h.racks ≡ true
    → IsDealing rules all rest (acted s.player s.act (throws s.player s.act rest h.racks) rest h) (so_far ++ held_at s rest h.racks ∷ [])
unfolding dealt_if
dealing_more rules all s rest h so_far d met =
    let next = acted s.player s.act (throws s.player s.act rest h.racks) rest h in
    record {
      course = act_course d.course s.player s.act;
      run = d.run.1;
      whole = acted_whole rules s.player s.act d.course h rest d.whole d.run.0.may met;
      goes_on = map_more so_far (held_at s rest h.racks) (dealt_from rest next)
          ∙ ap (λ (b : Bool). option_map (λ more. so_far ++ more) (dealt_if s rest h b)) (sym met) ∙ d.goes_on;
    }

pub dealing_stops : (rules : Rules) (all : List Step) (s : Step) (rest : List Step) (h : Hands) (so_far : List Held) → IsDealing rules all (s ∷ rest) h so_far
    → is_met s.player s.act h.racks ≡ false → None ≡ dealt rules all
unfolding dealt_if
dealing_stops rules all s rest h so_far d unmet =
    ap (λ (b : Bool). option_map (λ more. so_far ++ more) (dealt_if s rest h b)) (sym unmet) ∙ d.goes_on

pub dealing_ends : (rules : Rules) (all : List Step) (h : Hands) (so_far : List Held) → IsDealing rules all [] h so_far → Some so_far ≡ dealt rules all
dealing_ends rules all h so_far d = ap Some (sym (append-nil so_far)) ∙ d.goes_on

may_by : (rules : Rules) (seat : Seat) (what : Act) (c : Course) (h : Hands) (rest : List Step) → IsWhole rules c h → MayAct c seat what
    → ((k : ℕ) → k < 27 → get_or rules.counts k 0 < 256) → is_met seat what h.racks ≡ true → MayMove seat what (throws seat what rest h.racks) h
may_by rules seat (act.Turns shown what) c h rest is may small met = (
  (λ k below. let all = whole_by rules c seat h is k below in let few = small k below in omega arith),
  thrown_there seat shown what rest h.racks (rack_long rules c seat h is) met,
)
may_by rules seat (act.TakesBack used) c h rest is may small met =
    λ k below.
    let all = whole_by rules c seat h is k below in
    let few = small k below in
    let waiting : waiting_at c.waiting k ≡ get_or used k 0 = ap (λ (racks : Racks). waiting_at racks k) may ∙ waits_at seat used k below in
    omega arith
may_by rules seat (act.Ends holder tiles) c h rest is may small met = tt
may_by rules seat act.Rests c h rest is may small met = tt

pub may_move : (rules : Rules) (all : List Step) (s : Step) (rest : List Step) (h : Hands) (so_far : List Held) → IsDealing rules all (s ∷ rest) h so_far
    → ((k : ℕ) → k < 27 → get_or rules.counts k 0 < 256) → is_met s.player s.act h.racks ≡ true
    → MayMove s.player s.act (throws s.player s.act rest h.racks) h
may_move rules all s rest h so_far d small met = may_by rules s.player s.act d.course h rest d.whole d.run.0.may small met
