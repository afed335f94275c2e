-- Every step of a game without exchanges leaves the bag and the racks ready for the steps to come.
use Rattle.std.proofs.Common.{◌≡◌, ◌<◌, ◌≤◌, ℕ, ◌+◌, ◌-◌, Bool, true, false, IsTrue, ◌↔◌, leb, List, [], ◌∷◌, ◌++◌, replicate, get_or, sum, length, refl, sym, ap, ◌∙◌, subst, inl, inr, arith, zero, suc}
use Rattle.std.specs.Prelude.{if◌then◌else◌}
use Rattle.std.specs.List.{list_all, range_with_len}
use Rattle.std.proofs.lemmas.Bool.{cases_lt, and_from, le-leb}
use Rattle.std.proofs.lemmas.List.{get_or_past}
use Rattle.ref_tiles.specs.Counting.{no_tiles, IsContainedIn}
use Rattle.ref_tiles.specs.declared.rulebook.Rules.{Rules}
use Rattle.gcg_read.specs.declared.events.Seat.{Seat}
use Rattle.gcg_read.specs.declared.events.Seat.TheVariants.{First, Second}
use Rattle.gcg_read.specs.Players.{other_seat, same_seat}
use Rattle.deal_steps.specs.declared.steps.Motion.{Motion}
use Rattle.deal_steps.specs.declared.steps.Motion.TheVariants as motion
use Rattle.deal_steps.specs.declared.steps.Act.{Act}
use Rattle.deal_steps.specs.declared.steps.Act.TheVariants as act
use Rattle.deal_steps.specs.declared.steps.Step.{Step}
use Rattle.deal_steps.specs.declared.deals.Racks.{Racks}
use Rattle.deal_steps.specs.Piles.{kinds, joined, without, greater}
use Rattle.deal_steps.specs.Steps.{remaining_by, of_act, remaining_in, ends_epoch, needed, needed_of, swaps_by, swaps}
use Rattle.deal_steps.specs.Fitting.{rack_of}
use Rattle.deal_steps.specs.Bounds.{gone}
use Rattle.deal_steps.specs.Runs.{Course, none_waiting, waits, size_in, with_size, MayTurn, MayAct, turn_course, act_course, IsRunFrom, HasKinds}
use Rattle.deal_steps.proofs.PileLaws.{get-joined, get-without, get-greater, get-no_tiles, length-without, sum_is, sum-joined, sum-without, sum_kinds_same, zero_kinds}
use Rattle.deal_completion.specs.declared.picking.Pick.{Pick}
use Rattle.deal_completion.specs.declared.hands.Hands.{Hands}
use Rattle.deal_completion.specs.Completion.{lacking, with_gone, wanted, want_list, pick, take_off, put_on, drawn, draw, throws, acted, is_within, is_met}
use Rattle.deal_completion.specs.Plain.{IsPlain}
use Rattle.deal_completion.proofs.WantLaws.{lacks_from}
use Rattle.deal_completion.proofs.Demand.{demand}
use Rattle.deal_completion.proofs.PickLaws.{AreKinds, IsOf, picks, sum_remaining}
use Rattle.deal_completion.proofs.DealStates.{IsWhole}
use Rattle.deal_completion.proofs.DealLaws.{within_test}
use Rattle.deal_completion.proofs.OnTime.{drawn_by, drawn_at, drawn_in, to_come, IsOnTime, on_time_after, on_time_drawn, IsCovered, covers_pick, room_for_pick, covered_drawn, covered_after}
use Rattle.deal_completion.proofs.Starting.{known_if_plain}

-- ---- want lists are of kinds

kinds_append : (xs ys : List ℕ) → AreKinds xs → AreKinds ys → AreKinds (xs ++ ys)
kinds_append [] ys a b = b
kinds_append (x ∷ xs) ys a b = (a.0, kinds_append xs ys a.1 b)

kinds_replicate : (n k : ℕ) → k < 27 → AreKinds (replicate n k)
kinds_replicate zero k h = tt
kinds_replicate (suc n) k h = (h, kinds_replicate n k h)

kinds_from : (f : ℕ → ℕ) (a n : ℕ) → a + n ≤ 27 → AreKinds (lacks_from f a n)
kinds_from f a zero h = tt
kinds_from f a (suc n) h =
    kinds_append (replicate (f a) a) (lacks_from f (a + 1) n) (kinds_replicate (f a) a (omega arith)) (kinds_from f (a + 1) n (omega arith))

are_lacking : (asked have : List ℕ) → AreKinds (lacking asked have)
unfolding lacking kinds
are_lacking asked have = kinds_from (λ k. get_or asked k 0 - get_or have k 0) 0 27 (omega arith)

kinds_unless : (b : Bool) (xs : List ℕ) → AreKinds xs → AreKinds (if b then [] else xs)
kinds_unless true xs are = tt
kinds_unless false xs are = are

pub are_wanted : (seat : Seat) (steps : List Step) (gone have : List ℕ) → AreKinds (wanted seat steps gone have)
are_wanted seat [] gone have = tt
are_wanted seat (s ∷ steps) gone have =
    let rest = wanted seat steps (joined gone (remaining_in seat s)) (greater have (with_gone gone (needed seat s))) in
    kinds_append (lacking (with_gone gone (needed seat s)) have) (if ends_epoch seat s then [] else rest)
    (are_lacking (with_gone gone (needed seat s)) have)
    (kinds_unless (ends_epoch seat s) rest (are_wanted seat steps (joined gone (remaining_in seat s)) (greater have (with_gone gone (needed seat s)))))

-- ---- sums

-- tiles on a rack that has no more tiles are all of it
pub all_there : (tiles rack : List ℕ) → length tiles ≡ 27 → length rack ≡ 27 → sum tiles ≡ sum rack → ((k : ℕ) → k < 27 → get_or tiles k 0 ≤ get_or rack k 0)
    → (k : ℕ) → k < 27 → get_or rack k 0 ≤ get_or tiles k 0
all_there tiles rack long rack_long same le k h =
    let more = sum-without rack tiles rack_long long le in
    let z = sum_is (without rack tiles) (length-without rack tiles) in
    let none = zero_kinds (λ k. get_or (without rack tiles) k 0) (omega arith) k h in
    let w = get-without rack tiles k h in
    omega arith

-- ---- tests

all_range : (test : ℕ → Bool) (a n : ℕ) → ((k : ℕ) → k < a + n → test k ≡ true) → list_all test (range_with_len a n) ≡ true
all_range test a zero all = refl
all_range test a (suc n) all =
    and_from (test a) (list_all test (range_with_len (a + 1) n)) (all a (omega arith)) (all_range test (a + 1) n (λ k h. all k (omega arith)))

pub within_is : (tiles others : List ℕ) → ((k : ℕ) → k < 27 → get_or tiles k 0 ≤ get_or others k 0) → is_within tiles others ≡ true
unfolding kinds
within_is tiles others le =
    all_range (λ k. leb (get_or tiles k 0) (get_or others k 0)) 0 27 (λ k h. le-leb (get_or tiles k 0) (get_or others k 0) (le k (omega arith)))

pub contained : (tiles rack : List ℕ) → length tiles ≡ 27 → ((k : ℕ) → k < 27 → get_or tiles k 0 ≤ get_or rack k 0) → IsContainedIn tiles rack
contained tiles rack long le k = elim (cases_lt k 27) [
  | inl below ↦ le k below
  | inr past ↦ let e = get_or_past tiles k 0 (omega arith) in omega arith
]

-- the answer to whether tiles are contained in others is the test
pub fits_within : (b : Bool) (tiles others : List ℕ) → length tiles ≡ 27 → IsTrue b ↔ IsContainedIn tiles others → b ≡ is_within tiles others
fits_within b tiles others long fits = by b refl (is_within tiles others) refl
  where
    by : (x : Bool) → b ≡ x → (y : Bool) → is_within tiles others ≡ y → b ≡ is_within tiles others
    by true e y f = e ∙ sym (within_is tiles others (λ k h. fits.0 e k))
    by false e true f = fits.1 (contained tiles others long (within_test tiles others f)) ∙ sym f
    by false e false f = e ∙ sym f

-- what a turn shows and what it uses is on the rack, if the moment is met
pub shown_there : (shown used rack : List ℕ) → is_within (greater shown used) rack ≡ true → (k : ℕ) → k < 27
    → (get_or shown k 0 ≤ get_or rack k 0) × (get_or used k 0 ≤ get_or rack k 0)
shown_there shown used rack met k h =
    let w = within_test (greater shown used) rack met k h in
    let g = get-greater shown used k h in
    (omega arith, omega arith)

-- ---- racks with the same numbers

-- being on time, with another rack of the same numbers
pub on_time_same : (seat : Seat) (steps : List Step) (rack new : List ℕ) (due : ℕ) → IsOnTime seat steps rack due → ((k : ℕ) → k < 27 → get_or new k 0 ≡ get_or rack k 0) → IsOnTime seat steps new due
on_time_same seat steps rack new due on same = record {
  on_time = λ before s after tiles parts asks.
      let all = on.on_time before s after tiles parts asks in
      let e = sum_kinds_same (λ k. demand seat (before ++ s ∷ []) k - get_or new k 0) (λ k. demand seat (before ++ s ∷ []) k - get_or rack k 0)
      (λ k h. ap (λ (n : ℕ). demand seat (before ++ s ∷ []) k - n) (same k h)) in
      omega arith;
}

pub covered_same : (mine others : ℕ → ℕ) (rack new other_rack other_new bag : List ℕ) → IsCovered mine others rack other_rack bag
    → ((k : ℕ) → k < 27 → get_or new k 0 ≡ get_or rack k 0) → ((k : ℕ) → k < 27 → get_or other_new k 0 ≡ get_or other_rack k 0)
    → IsCovered mine others new other_new bag
covered_same mine others rack new other_rack other_new bag is same other_same = record {
  covered = λ k h.
      let c = is.covered k h in
      let a = same k h in
      let b = other_same k h in
      subst (λ (n : ℕ). (mine k - n) + (others k - get_or other_new k 0) ≤ get_or bag k 0) (sym a)
      (subst (λ (n : ℕ). (mine k - get_or rack k 0) + (others k - n) ≤ get_or bag k 0) (sym b) c);
}

pub covered_swapped : (mine others : ℕ → ℕ) (rack other_rack bag : List ℕ) → IsCovered mine others rack other_rack bag → IsCovered others mine other_rack rack bag
covered_swapped mine others rack other_rack bag is = record { covered = λ k h. let c = is.covered k h in omega arith }

-- with no tiles that wait
pub with_none : (rack waiting : List ℕ) → waiting ≡ no_tiles → (k : ℕ) → k < 27 → get_or rack k 0 ≡ get_or (joined rack waiting) k 0
with_none rack waiting none k h =
    let j = get-joined rack waiting k h in
    let e = ap (λ (l : List ℕ). get_or l k 0) none in
    let z = get-no_tiles k h in
    omega arith

-- ---- the bag lasts

pub drawn_split : (player : Seat) (n : ℕ) → (if same_seat player First then n else 0) + (if same_seat player Second then n else 0) ≡ n
drawn_split First n = omega arith
drawn_split Second n = omega arith

size_bag : (c : Course) (seat : Seat) (n : ℕ) → (with_size c seat n).bag ≡ c.bag
size_bag c First n = refl
size_bag c Second n = refl

bag_after_turn : (c : Course) (seat : Seat) (what : Motion) → MayTurn c seat what → swaps_by what ≡ false → (turn_course c seat what).bag + drawn_by what ≡ c.bag
bag_after_turn c seat motion.Keeps may plain = omega arith
bag_after_turn c seat (motion.Lays used drawn) may plain = let e = may.0 in omega arith
bag_after_turn c seat (motion.Tries used) may plain = let e = size_bag c seat (size_in c seat - sum used) in omega arith
bag_after_turn c seat (motion.Throws tiles) may plain = absurd (cc)
bag_after_turn c seat (motion.ThrowsUnknown n) may plain = absurd (cc)

bag_after_act : (c : Course) (seat : Seat) (what : Act) → MayAct c seat what → swaps what ≡ false → (act_course c seat what).bag + drawn_at what ≡ c.bag
bag_after_act c seat (act.Turns shown what) may plain = bag_after_turn c seat what may.1 plain
bag_after_act c seat (act.TakesBack used) may plain = let e = size_bag c seat (size_in c seat + sum used) in omega arith
bag_after_act c seat (act.Ends holder tiles) may plain = omega arith
bag_after_act c seat act.Rests may plain = omega arith

pub bag_lasts : (c : Course) (steps : List Step) → IsRunFrom c steps → IsPlain steps → to_come First steps + to_come Second steps ≤ c.bag
bag_lasts c [] run plain = omega arith
bag_lasts c (s ∷ steps) run plain =
    let rest = bag_lasts (act_course c s.player s.act) steps run.1 plain.1 in
    let bag = bag_after_act c s.player s.act run.0.may plain.0 in
    let both = drawn_split s.player (drawn_at s.act) in
    omega arith

-- ---- a draw

-- What a player draws comes in time, and the bag still has what both want.
pub record DrawsWell (seat other : Seat) (steps : List Step) (rack other_rack bag : List ℕ) (number : ℕ) (q : Pick) : Type 0 where
  pub is_of : IsOf bag q
  pub all : sum q.taken ≡ number
  pub remaining : sum q.remaining + number ≡ sum bag
  pub on : IsOnTime seat steps (joined rack q.taken) 0
  pub covered : IsCovered (demand seat steps) (demand other steps) (joined rack q.taken) other_rack q.remaining

pub draws_well : (seat other : Seat) (steps : List Step) (rack other_rack bag : List ℕ) (number due : ℕ) → IsPlain steps → length bag ≡ 27
    → IsOnTime seat steps rack number → IsOnTime other steps other_rack due → IsCovered (demand seat steps) (demand other steps) rack other_rack bag
    → due + to_come other steps + number ≤ sum bag
    → DrawsWell seat other steps rack other_rack bag number (pick (want_list seat steps rack) (want_list other steps other_rack) number bag)
draws_well seat other steps rack other_rack bag number due plain long on other_on covered room =
    let known = known_if_plain seat steps plain in
    let other_known = known_if_plain other steps plain in
    let q = pick (want_list seat steps rack) (want_list other steps other_rack) number bag in
    let p = picks (want_list seat steps rack) (want_list other steps other_rack) bag number (are_wanted seat steps no_tiles rack) long
    (covers_pick seat other steps rack other_rack bag known other_known covered)
    (room_for_pick other steps other_rack bag number due other_known other_on room) in
    let all = p.all in
    let both = sum_remaining bag q p.is_of long in
    let enough : number ≡ number + 0 = omega arith in
    record {
      is_of = p.is_of;
      all = all;
      remaining = omega arith;
      on = on_time_drawn seat steps rack (want_list other steps other_rack) bag number 0 q known (subst (λ (n : ℕ). IsOnTime seat steps rack n) enough on) p;
      covered = covered_drawn seat other steps rack other_rack bag number q known other_known p;
    }

-- ---- ready

-- Between two steps of a game without exchanges: the sizes are right, what is asked for comes in time, and the bag has it.
pub record IsReady (c : Course) (steps : List Step) (h : Hands) : Type 0 where
  pub first_size : sum h.racks.first ≡ c.first
  pub second_size : sum h.racks.second ≡ c.second
  pub bag_size : sum h.bag ≡ c.bag
  pub first_on : IsOnTime First steps (joined h.racks.first c.waiting.first) 0
  pub second_on : IsOnTime Second steps (joined h.racks.second c.waiting.second) 0
  pub covered : IsCovered (demand First steps) (demand Second steps) (joined h.racks.first c.waiting.first) (joined h.racks.second c.waiting.second) h.bag

-- a player from whose rack nothing leaves, and who draws nothing
on_time_rests : (seat : Seat) (s : Step) (rest : List Step) (rack : List ℕ) → IsOnTime seat (s ∷ rest) rack 0 → remaining_in seat s ≡ no_tiles → drawn_in seat s ≡ 0
    → IsOnTime seat rest rack 0
on_time_rests seat s rest rack on remaining none =
    let nothing : (k : ℕ) → k < 27 → get_or (remaining_in seat s) k 0 ≡ 0 = λ k h. ap (λ (l : List ℕ). get_or l k 0) remaining ∙ get-no_tiles k h in
    let after = on_time_after seat s rest rack on (λ k h. let z = nothing k h in omega arith) in
    on_time_same seat rest (without rack (remaining_in seat s)) rack 0 (subst (λ (n : ℕ). IsOnTime seat rest (without rack (remaining_in seat s)) n) none after)
    (λ k h. let z = nothing k h in let w = get-without rack (remaining_in seat s) k h in omega arith)

covered_rests : (s : Step) (rest : List Step) (rack other_rack bag : List ℕ) → IsCovered (demand First (s ∷ rest)) (demand Second (s ∷ rest)) rack other_rack bag
    → IsCovered (demand First rest) (demand Second rest) rack other_rack bag
covered_rests s rest rack other_rack bag is = record { covered = λ k h. let c = is.covered k h in omega arith }

ready_rests : (c : Course) (s : Step) (rest : List Step) (h : Hands) → IsReady c (s ∷ rest) h → remaining_in First s ≡ no_tiles → remaining_in Second s ≡ no_tiles
    → drawn_in First s ≡ 0 → drawn_in Second s ≡ 0 → IsReady c rest h
ready_rests c s rest h ready remaining second_remaining none second_none = record {
  first_size = ready.first_size;
  second_size = ready.second_size;
  bag_size = ready.bag_size;
  first_on = on_time_rests First s rest (joined h.racks.first c.waiting.first) ready.first_on remaining none;
  second_on = on_time_rests Second s rest (joined h.racks.second c.waiting.second) ready.second_on second_remaining second_none;
  covered = covered_rests s rest (joined h.racks.first c.waiting.first) (joined h.racks.second c.waiting.second) h.bag ready.covered;
}

-- tiles that move between a rack and a play that waits
ready_moved : (c new : Course) (rest : List Step) (h after : Hands) → IsReady c rest h → sum after.racks.first ≡ new.first → sum after.racks.second ≡ new.second
    → new.bag ≡ c.bag → after.bag ≡ h.bag
    → ((k : ℕ) → k < 27 → get_or (joined after.racks.first new.waiting.first) k 0 ≡ get_or (joined h.racks.first c.waiting.first) k 0)
    → ((k : ℕ) → k < 27 → get_or (joined after.racks.second new.waiting.second) k 0 ≡ get_or (joined h.racks.second c.waiting.second) k 0)
    → IsReady new rest after
ready_moved c new rest h after ready first second bag same_bag first_same second_same = record {
  first_size = first;
  second_size = second;
  bag_size = ap sum same_bag ∙ ready.bag_size ∙ sym bag;
  first_on = on_time_same First rest (joined h.racks.first c.waiting.first) (joined after.racks.first new.waiting.first) 0 ready.first_on first_same;
  second_on = on_time_same Second rest (joined h.racks.second c.waiting.second) (joined after.racks.second new.waiting.second) 0 ready.second_on second_same;
  covered = subst (λ (b : List ℕ). IsCovered (demand First rest) (demand Second rest) (joined after.racks.first new.waiting.first) (joined after.racks.second new.waiting.second) b) (sym same_bag)
      (covered_same (demand First rest) (demand Second rest) (joined h.racks.first c.waiting.first) (joined after.racks.first new.waiting.first)
      (joined h.racks.second c.waiting.second) (joined after.racks.second new.waiting.second) h.bag ready.covered first_same second_same);
}

-- ---- a play that stands

-- What a play that stands leaves, if its player draws these: the rack and the bag have their sizes, what is asked for comes in
-- time, and the bag has it.
record IsDrawn (seat other : Seat) (rest : List Step) (rack waiting other_rack other_waiting bag used : List ℕ) (number : ℕ) (q : Pick) : Type 0 where
  pub size : sum (joined (without rack used) q.taken) ≡ sum rack - sum used + number
  pub remaining : sum q.remaining ≡ sum bag - number
  pub on : IsOnTime seat rest (joined (joined (without rack used) q.taken) waiting) 0
  pub covered : IsCovered (demand seat rest) (demand other rest) (joined (joined (without rack used) q.taken) waiting) (joined other_rack other_waiting) q.remaining

-- a player lays tiles that are on the rack, and draws
player_draws : (seat other : Seat) (s : Step) (rest : List Step) (rack waiting other_rack other_waiting bag used : List ℕ) (number : ℕ) → waiting ≡ no_tiles → other_waiting ≡ no_tiles
    → IsOnTime seat (s ∷ rest) (joined rack waiting) 0 → IsOnTime other (s ∷ rest) (joined other_rack other_waiting) 0
    → IsCovered (demand seat (s ∷ rest)) (demand other (s ∷ rest)) (joined rack waiting) (joined other_rack other_waiting) bag
    → remaining_in seat s ≡ used → remaining_in other s ≡ no_tiles → drawn_in seat s ≡ number → drawn_in other s ≡ 0 → length used ≡ 27 → length rack ≡ 27 → length bag ≡ 27
    → ((k : ℕ) → k < 27 → get_or used k 0 ≤ get_or rack k 0) → IsPlain rest → number + to_come other rest ≤ sum bag
    → IsDrawn seat other rest rack waiting other_rack other_waiting bag used number (pick (want_list seat rest (without rack used)) (want_list other rest other_rack) number bag)
player_draws seat other s rest rack waiting other_rack other_waiting bag used number nothing other_nothing on other_on covered remaining other_remaining draws other_draws long rack_long bag_long there plain room =
    let none = with_none rack waiting nothing in
    let other_none = with_none other_rack other_waiting other_nothing in
    let on_rack = on_time_same seat (s ∷ rest) (joined rack waiting) rack 0 on none in
    let other_on_rack = on_time_same other (s ∷ rest) (joined other_rack other_waiting) other_rack 0 other_on other_none in
    let covered_here = covered_same (demand seat (s ∷ rest)) (demand other (s ∷ rest)) (joined rack waiting) rack (joined other_rack other_waiting) other_rack bag covered none other_none in
    let there_remaining : (k : ℕ) → k < 27 → get_or (remaining_in seat s) k 0 ≤ get_or rack k 0 =
    λ k h. subst (λ (l : List ℕ). get_or l k 0 ≤ get_or rack k 0) (sym remaining) (there k h) in
    let after = subst (λ (l : List ℕ). IsOnTime seat rest (without rack l) (drawn_in seat s)) remaining (on_time_after seat s rest rack on_rack there_remaining) in
    let on_rest = subst (λ (n : ℕ). IsOnTime seat rest (without rack used) n) draws after in
    let covered_rest = subst (λ (l : List ℕ). IsCovered (demand seat rest) (demand other rest) (without rack l) other_rack bag) remaining
    (covered_after seat other s rest rack other_rack bag covered_here there_remaining) in
    let well = draws_well seat other rest (without rack used) other_rack bag number 0 plain bag_long on_rest (on_time_rests other s rest other_rack other_on_rack other_remaining other_draws) covered_rest (omega arith) in
    let q = pick (want_list seat rest (without rack used)) (want_list other rest other_rack) number bag in
    let new = joined (without rack used) q.taken in
    let new_none = with_none new waiting nothing in
    let less = sum-without rack used rack_long long there in
    let more = sum-joined (without rack used) q.taken (length-without rack used) well.is_of.long in
    let all = well.all in
    let bag_remaining = well.remaining in
    record {
      size = omega arith;
      remaining = omega arith;
      on = on_time_same seat rest new (joined new waiting) 0 well.on (λ k h. sym (new_none k h));
      covered = covered_same (demand seat rest) (demand other rest) new (joined new waiting) other_rack (joined other_rack other_waiting) q.remaining well.covered
          (λ k h. sym (new_none k h)) (λ k h. sym (other_none k h));
    }

pub play_stands : (player : Seat) (c : Course) (s : Step) (rest : List Step) (h : Hands) (used : List ℕ) (number : ℕ) → IsReady c (s ∷ rest) h → c.waiting ≡ none_waiting
    → remaining_in player s ≡ used → remaining_in (other_seat player) s ≡ no_tiles → drawn_in player s ≡ number → drawn_in (other_seat player) s ≡ 0
    → length used ≡ 27 → length (rack_of h.racks player) ≡ 27 → length h.bag ≡ 27
    → ((k : ℕ) → k < 27 → get_or used k 0 ≤ get_or (rack_of h.racks player) k 0) → IsPlain rest → number + to_come (other_seat player) rest ≤ c.bag
    → IsReady (turn_course c player (motion.Lays used number)) rest (draw player number rest (take_off player used h))
unfolding draw
play_stands First c s rest h used number ready waiting remaining second_remaining draws second_draws long rack_long bag_long there plain room =
    let bag_size = ready.bag_size in
    let size = ready.first_size in
    let drawn = player_draws First Second s rest h.racks.first c.waiting.first h.racks.second c.waiting.second h.bag used number (ap (λ (w : Racks). w.first) waiting) (ap (λ (w : Racks). w.second) waiting)
    ready.first_on ready.second_on ready.covered remaining second_remaining draws second_draws long rack_long bag_long there plain (omega arith) in
    record {
      first_size = let now = drawn.size in omega arith;
      second_size = ready.second_size;
      bag_size = let now = drawn.remaining in omega arith;
      first_on = drawn.on;
      second_on = on_time_rests Second s rest (joined h.racks.second c.waiting.second) ready.second_on second_remaining second_draws;
      covered = drawn.covered;
    }
play_stands Second c s rest h used number ready waiting remaining first_remaining draws first_draws long rack_long bag_long there plain room =
    let bag_size = ready.bag_size in
    let drawn = player_draws Second First s rest h.racks.second c.waiting.second h.racks.first c.waiting.first h.bag used number (ap (λ (w : Racks). w.second) waiting) (ap (λ (w : Racks). w.first) waiting)
    ready.second_on ready.first_on
    (covered_swapped (demand First (s ∷ rest)) (demand Second (s ∷ rest)) (joined h.racks.first c.waiting.first) (joined h.racks.second c.waiting.second) h.bag ready.covered)
    remaining first_remaining draws first_draws long rack_long bag_long there plain (omega arith) in
    record {
      first_size = ready.first_size;
      second_size = let size = ready.second_size in let now = drawn.size in omega arith;
      bag_size = let now = drawn.remaining in omega arith;
      first_on = on_time_rests First s rest (joined h.racks.first c.waiting.first) ready.first_on first_remaining first_draws;
      second_on = drawn.on;
      covered = covered_swapped (demand Second rest) (demand First rest) _ _ _ drawn.covered;
    }

-- ---- a play that is taken back

tries_moved : (rack used waiting : List ℕ) → waiting ≡ no_tiles → ((k : ℕ) → k < 27 → get_or used k 0 ≤ get_or rack k 0) → (k : ℕ) → k < 27
    → get_or (joined (without rack used) used) k 0 ≡ get_or (joined rack waiting) k 0
tries_moved rack used waiting none there k h =
    let a = get-joined (without rack used) used k h in
    let b = get-without rack used k h in
    let c = with_none rack waiting none k h in
    let t = there k h in
    omega arith

same_none : (rack waiting : List ℕ) → waiting ≡ no_tiles → (k : ℕ) → k < 27 → get_or (joined rack no_tiles) k 0 ≡ get_or (joined rack waiting) k 0
same_none rack waiting none k h = ap (λ (l : List ℕ). get_or (joined rack l) k 0) (sym none)

back_moved : (rack used waiting : List ℕ) → waiting ≡ used → (k : ℕ) → k < 27 → get_or (joined (joined rack used) no_tiles) k 0 ≡ get_or (joined rack waiting) k 0
back_moved rack used waiting is k h =
    sym (with_none (joined rack used) no_tiles refl k h) ∙ ap (λ (l : List ℕ). get_or (joined rack l) k 0) (sym is)

tries_ready : (rules : Rules) (player : Seat) (used : List ℕ) (c : Course) (rest : List Step) (h : Hands) → IsReady c rest h → IsWhole rules c h
    → c.waiting ≡ none_waiting → length used ≡ 27 → ((k : ℕ) → k < 27 → get_or used k 0 ≤ get_or (rack_of h.racks player) k 0)
    → IsReady (turn_course c player (motion.Tries used)) rest (take_off player used h)
tries_ready rules First used c rest h ready whole waiting long there =
    let size = ready.first_size in
    let less = sum-without h.racks.first used whole.first_long long there in
    ready_moved c (turn_course c First (motion.Tries used)) rest h (take_off First used h) ready (omega arith) ready.second_size refl refl
    (tries_moved h.racks.first used c.waiting.first (ap (λ (w : Racks). w.first) waiting) there)
    (same_none h.racks.second c.waiting.second (ap (λ (w : Racks). w.second) waiting))
tries_ready rules Second used c rest h ready whole waiting long there =
    let size = ready.second_size in
    let less = sum-without h.racks.second used whole.second_long long there in
    ready_moved c (turn_course c Second (motion.Tries used)) rest h (take_off Second used h) ready ready.first_size (omega arith) refl refl
    (same_none h.racks.first c.waiting.first (ap (λ (w : Racks). w.first) waiting))
    (tries_moved h.racks.second used c.waiting.second (ap (λ (w : Racks). w.second) waiting) there)

back_ready : (rules : Rules) (player : Seat) (used : List ℕ) (c : Course) (rest : List Step) (h : Hands) → IsReady c rest h → IsWhole rules c h
    → c.waiting ≡ waits player used → length used ≡ 27
    → IsReady (act_course c player (act.TakesBack used)) rest (put_on player used h)
back_ready rules First used c rest h ready whole waiting long =
    let size = ready.first_size in
    let more = sum-joined h.racks.first used whole.first_long long in
    ready_moved c (act_course c First (act.TakesBack used)) rest h (put_on First used h) ready (omega arith) ready.second_size refl refl
    (back_moved h.racks.first used c.waiting.first (ap (λ (w : Racks). w.first) waiting))
    (same_none h.racks.second c.waiting.second (ap (λ (w : Racks). w.second) waiting))
back_ready rules Second used c rest h ready whole waiting long =
    let size = ready.second_size in
    let more = sum-joined h.racks.second used whole.second_long long in
    ready_moved c (act_course c Second (act.TakesBack used)) rest h (put_on Second used h) ready ready.first_size (omega arith) refl refl
    (same_none h.racks.first c.waiting.first (ap (λ (w : Racks). w.first) waiting))
    (back_moved h.racks.second used c.waiting.second (ap (λ (w : Racks). w.second) waiting))

-- ---- every step keeps the bag and the racks ready

-- what leaves, what is drawn and what is asked for at a step, by its player and its act
pub remaining_is : (seat : Seat) (s : Step) (player : Seat) (what : Act) → s.player ≡ player → s.act ≡ what
    → remaining_in seat s ≡ (if same_seat player seat then of_act remaining_by what else no_tiles)
remaining_is seat s player what by is =
    ap (λ (p : Seat). if same_seat p seat then of_act remaining_by s.act else no_tiles) by ∙ ap (λ (a : Act). if same_seat player seat then of_act remaining_by a else no_tiles) is

drawn_is : (seat : Seat) (s : Step) (player : Seat) (what : Act) → s.player ≡ player → s.act ≡ what
    → drawn_in seat s ≡ (if same_seat player seat then drawn_at what else 0)
drawn_is seat s player what by is =
    ap (λ (p : Seat). if same_seat p seat then drawn_at s.act else 0) by ∙ ap (λ (a : Act). if same_seat player seat then drawn_at a else 0) is

pub needed_is : (seat : Seat) (s : Step) (player : Seat) (what : Act) → s.player ≡ player → s.act ≡ what → needed seat s ≡ needed_of seat player what
needed_is seat s player what by is = ap (λ (p : Seat). needed_of seat p s.act) by ∙ ap (λ (a : Act). needed_of seat player a) is

pub either_same : {A : Type 0} → (b : Bool) (x : A) → (if b then x else x) ≡ x
either_same true x = refl
either_same false x = refl

-- a step at which nothing leaves a rack and nothing is drawn
ready_same : (player : Seat) (what : Act) (c : Course) (s : Step) (rest : List Step) (h : Hands) → s.player ≡ player → s.act ≡ what → IsReady c (s ∷ rest) h
    → of_act remaining_by what ≡ no_tiles → drawn_at what ≡ 0 → IsReady c rest h
ready_same player what c s rest h by is ready remaining none =
    let remaining_none : (seat : Seat) → remaining_in seat s ≡ no_tiles =
    λ seat. remaining_is seat s player what by is ∙ ap (λ (l : List ℕ). if same_seat player seat then l else no_tiles) remaining ∙ either_same (same_seat player seat) no_tiles in
    let drawn_none : (seat : Seat) → drawn_in seat s ≡ 0 =
    λ seat. drawn_is seat s player what by is ∙ ap (λ (n : ℕ). if same_seat player seat then n else 0) none ∙ either_same (same_seat player seat) 0 in
    ready_rests c s rest h ready (remaining_none First) (remaining_none Second) (drawn_none First) (drawn_none Second)

pub ready_by : (rules : Rules) (player : Seat) (what : Act) (c : Course) (s : Step) (rest : List Step) (h : Hands) → s.player ≡ player → s.act ≡ what → IsReady c (s ∷ rest) h → IsWhole rules c h
    → MayAct c player what → HasKinds what → swaps what ≡ false → IsPlain rest → is_met player what h.racks ≡ true
    → drawn_at what + to_come First rest + to_come Second rest ≤ c.bag
    → IsReady (act_course c player what) rest (acted player what (throws player what rest h.racks) rest h)
ready_by rules player (act.Turns shown motion.Keeps) c s rest h by is ready whole may are plain rest_plain met room =
    ready_same player (act.Turns shown motion.Keeps) c s rest h by is ready refl refl
ready_by rules First (act.Turns shown (motion.Lays used drawn)) c s rest h by is ready whole may are plain rest_plain met room =
    let what = act.Turns shown (motion.Lays used drawn) in
    play_stands First c s rest h used drawn ready may.0 (remaining_is First s First what by is) (remaining_is Second s First what by is)
    (drawn_is First s First what by is) (drawn_is Second s First what by is) are.1 whole.first_long whole.bag_long
    (λ k h. (shown_there shown used _ met k h).1) rest_plain (omega arith)
ready_by rules Second (act.Turns shown (motion.Lays used drawn)) c s rest h by is ready whole may are plain rest_plain met room =
    let what = act.Turns shown (motion.Lays used drawn) in
    play_stands Second c s rest h used drawn ready may.0 (remaining_is Second s Second what by is) (remaining_is First s Second what by is)
    (drawn_is Second s Second what by is) (drawn_is First s Second what by is) are.1 whole.second_long whole.bag_long
    (λ k h. (shown_there shown used _ met k h).1) rest_plain (omega arith)
ready_by rules player (act.Turns shown (motion.Tries used)) c s rest h by is ready whole may are plain rest_plain met room =
    tries_ready rules player used c rest h (ready_same player (act.Turns shown (motion.Tries used)) c s rest h by is ready refl refl) whole may.0 are.1
    (λ k below. (shown_there shown used (rack_of h.racks player) met k below).1)
ready_by rules player (act.Turns shown (motion.Throws tiles)) c s rest h by is ready whole may are plain rest_plain met room = absurd (cc)
ready_by rules player (act.Turns shown (motion.ThrowsUnknown n)) c s rest h by is ready whole may are plain rest_plain met room = absurd (cc)
ready_by rules player (act.TakesBack used) c s rest h by is ready whole may are plain rest_plain met room =
    back_ready rules player used c rest h (ready_same player (act.TakesBack used) c s rest h by is ready refl refl) whole may are
ready_by rules player (act.Ends holder tiles) c s rest h by is ready whole may are plain rest_plain met room =
    ready_same player (act.Ends holder tiles) c s rest h by is ready refl refl
ready_by rules player act.Rests c s rest h by is ready whole may are plain rest_plain met room =
    ready_same player act.Rests c s rest h by is ready refl refl
