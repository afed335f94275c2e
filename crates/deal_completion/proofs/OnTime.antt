-- Draws in a game without exchanges: what a moment asks for comes in time, and the bag has what both players want.
use Rattle.std.proofs.Common.{◌≡◌, ◌<◌, ◌≤◌, ℕ, ◌+◌, ◌-◌, max, List, [], ◌∷◌, ◌++◌, get_or, sum, length, Option, Some, None, refl, sym, ap, ◌∙◌, subst, inl, inr, ◌⊎◌, arith}
use Rattle.std.specs.Prelude.{if◌then◌else◌}
use Rattle.std.specs.List.{sum_by}
use Rattle.std.proofs.lemmas.List.{append_assoc}
use Rattle.ref_tiles.specs.Counting.{no_tiles}
use Rattle.gcg_read.specs.declared.events.Seat.{Seat}
use Rattle.deal_steps.specs.declared.steps.Motion.{Motion}
use Rattle.deal_steps.specs.declared.steps.Motion.TheVariants as motion
use Rattle.deal_steps.specs.declared.steps.Act.{Act}
use Rattle.deal_steps.specs.declared.steps.Step.{Step}
use Rattle.deal_steps.specs.Piles.{kinds, joined, without}
use Rattle.deal_steps.specs.Steps.{of_turn, is_by, remaining_in, needed}
use Rattle.deal_steps.proofs.PileLaws.{get-joined, get-without, get-no_tiles, sum_kinds_same, sum_kinds_le, zero_kinds}
use Rattle.deal_completion.specs.declared.picking.Pick.{Pick}
use Rattle.deal_completion.specs.Completion.{want_list}
use Rattle.deal_completion.proofs.WantLaws.{asked_or_none, remaining_asked}
use Rattle.deal_completion.proofs.Demand.{often, demand, IsKnownThroughout, often-wanted, length-wanted, wanted_front, known_front, sum_of_none}
use Rattle.deal_completion.proofs.PickLaws.{Picks}

-- ---- draws to come

abbrev pub drawn_by : Motion → ℕ
drawn_by motion.Keeps = 0
drawn_by (motion.Lays used drawn) = drawn
drawn_by (motion.Tries used) = 0
drawn_by (motion.Throws tiles) = sum tiles
drawn_by (motion.ThrowsUnknown n) = n

abbrev pub drawn_at : Act → ℕ
drawn_at what = of_turn 0 drawn_by what

-- the number of tiles that a player draws at a step, and at steps
abbrev pub drawn_in : Seat → Step → ℕ
drawn_in seat s = if is_by seat s then drawn_at s.act else 0

abbrev pub to_come : Seat → List Step → ℕ
to_come seat [] = 0
to_come seat (s ∷ steps) = drawn_in seat s + to_come seat steps

to_come-append : (seat : Seat) (xs ys : List Step) → to_come seat (xs ++ ys) ≡ to_come seat xs + to_come seat ys
to_come-append seat [] ys = omega arith
to_come-append seat (x ∷ xs) ys = let e = to_come-append seat xs ys in omega arith

-- the number of tiles that are missing of what is asked for
abbrev pub missing : (asked : ℕ → ℕ) → (rack : List ℕ) → ℕ
missing asked rack = sum_by (λ k. asked k - get_or rack k 0) kinds

-- What the moments up to each one ask for is on the rack or comes with the draws before that one: those that are due now, and those
-- of the steps.
pub record IsOnTime (seat : Seat) (steps : List Step) (rack : List ℕ) (due : ℕ) : Type 0 where
  pub on_time : (before : List Step) (s : Step) (after : List Step) (tiles : List ℕ) → steps ≡ before ++ s ∷ after → needed seat s ≡ Some tiles
      → missing (demand seat (before ++ s ∷ [])) rack ≤ due + to_come seat before

-- ---- a moment is met

pub is_met_on_time : (seat : Seat) (s : Step) (steps : List Step) (rack tiles : List ℕ) → IsOnTime seat (s ∷ steps) rack 0 → needed seat s ≡ Some tiles
    → (k : ℕ) → k < 27 → get_or tiles k 0 ≤ get_or rack k 0
is_met_on_time seat s steps rack tiles on asks k h =
    let all = on.on_time [] s steps tiles refl asks in
    let none = zero_kinds (λ k. demand seat (s ∷ []) k - get_or rack k 0) (omega arith) k h in
    let e = ap (λ (o : Option (List ℕ)). get_or (asked_or_none o) k 0) asks in
    omega arith

-- ---- a step is made

pub on_time_after : (seat : Seat) (s : Step) (steps : List Step) (rack : List ℕ) → IsOnTime seat (s ∷ steps) rack 0
    → ((k : ℕ) → k < 27 → get_or (remaining_in seat s) k 0 ≤ get_or rack k 0)
    → IsOnTime seat steps (without rack (remaining_in seat s)) (drawn_in seat s)
on_time_after seat s steps rack on there = record {
  on_time = λ before at after tiles parts asks.
      let all = on.on_time (s ∷ before) at after tiles (ap (λ (l : List Step). s ∷ l) parts) asks in
      let less = sum_kinds_le (λ k. demand seat (before ++ at ∷ []) k - get_or (without rack (remaining_in seat s)) k 0)
      (λ k. demand seat (s ∷ before ++ at ∷ []) k - get_or rack k 0)
      (λ k h. let w = get-without rack (remaining_in seat s) k h in let t = there k h in omega arith) in
      omega arith;
}

-- ---- tiles are drawn

-- the steps up to a moment, and those after it
parted : (before : List Step) (s : Step) (after : List Step) → before ++ s ∷ after ≡ (before ++ s ∷ []) ++ after
parted before s after = sym (append_assoc before (s ∷ []) after)

no_more : (rack : List ℕ) (k : ℕ) → k < 27 → get_or no_tiles k 0 ≤ get_or rack k 0
no_more rack k h = omega (arith, get-no_tiles k h)

-- how often a kind is wanted
often_want : (seat : Seat) (steps : List Step) (rack : List ℕ) (k : ℕ) → IsKnownThroughout seat steps → k < 27
    → often k (want_list seat steps rack) ≡ demand seat steps k - get_or rack k 0
often_want seat steps rack k known h =
    let e = often-wanted seat steps no_tiles rack k known h (no_more rack k h) in
    let z = get-no_tiles k h in
    omega arith

length_want : (seat : Seat) (steps : List Step) (rack : List ℕ) → IsKnownThroughout seat steps
    → length (want_list seat steps rack) ≡ missing (demand seat steps) rack
length_want seat steps rack known =
    length-wanted seat steps no_tiles rack known (no_more rack)
    ∙ sum_kinds_same (λ k. (get_or no_tiles k 0 + demand seat steps k) - get_or rack k 0) (λ k. demand seat steps k - get_or rack k 0)
    (λ k h. let z = get-no_tiles k h in omega arith)

-- what is asked for beyond the rack and what was drawn
pub on_time_drawn : (seat : Seat) (steps : List Step) (rack reserved bag : List ℕ) (number due : ℕ) (q : Pick) → IsKnownThroughout seat steps
    → IsOnTime seat steps rack (number + due) → Picks (want_list seat steps rack) reserved bag number q
    → IsOnTime seat steps (joined rack q.taken) due
on_time_drawn seat steps rack reserved bag number due q known on picks = record {
  on_time = λ before s after tiles parts asks.
      let upto = before ++ s ∷ [] in
      let split = parts ∙ parted before s after in
      let upto_known = known_front seat upto after (subst (λ (l : List Step). IsKnownThroughout seat l) split known) in
      let front = wanted_front seat upto after no_tiles rack upto_known in
      let list = want_list seat upto rack in
      let is : want_list seat steps rack ≡ list ++ front.0 = ap (λ (l : List Step). want_list seat l rack) split ∙ front.1 in
      let most = picks.front list front.0 is in
      let long = length_want seat upto rack upto_known in
      let all = on.on_time before s after tiles parts asks in
      let same = sum_kinds_same (λ k. demand seat upto k - get_or (joined rack q.taken) k 0) (λ k. often k list - get_or q.taken k 0)
      (λ k h. let j = get-joined rack q.taken k h in let o = often_want seat upto rack k upto_known h in omega arith) in
      omega arith;
}

-- ---- the last moment

-- A step that asks for some tiles, and what comes before and after it.
pub record IsMoment (Asks : Step → List ℕ → Type 0) (steps : List Step) : Type 0 where
  pub before : List Step
  pub step : Step
  pub following : List Step
  pub tiles : List ℕ
  pub parts : steps ≡ before ++ step ∷ following
  pub asks : Asks step tiles

abbrev pub moment_here : (Asks : Step → List ℕ → Type 0) (s : Step) (steps : List Step) (tiles : List ℕ) → Asks s tiles → IsMoment Asks (s ∷ steps)
moment_here Asks s steps tiles asks = record { before = []; step = s; following = steps; tiles = tiles; parts = refl; asks = asks }

abbrev pub moment_later : (Asks : Step → List ℕ → Type 0) (s : Step) (steps : List Step) → IsMoment Asks steps → IsMoment Asks (s ∷ steps)
moment_later Asks s steps m =
    record { before = s ∷ m.before; step = m.step; following = m.following; tiles = m.tiles; parts = ap (λ (l : List Step). s ∷ l) m.parts; asks = m.asks }

abbrev pub Needs : Seat → Step → List ℕ → Type 0
Needs seat step tiles = needed seat step ≡ Some tiles

-- The whole of what is asked for is asked for up to a moment, or nothing is.
pub record IsLastMoment (seat : Seat) (steps : List Step) : Type 0 where
  pub moment : IsMoment (Needs seat) steps
  pub asked_before : (k : ℕ) → k < 27 → demand seat steps k ≡ demand seat (moment.before ++ moment.step ∷ []) k

abbrev pub AsksNothing : Seat → List Step → Type 0
AsksNothing seat steps = (k : ℕ) → k < 27 → demand seat steps k ≡ 0

pub cases_Option : (o : Option (List ℕ)) → (o ≡ None) ⊎ ((tiles : List ℕ) × (o ≡ Some tiles))
cases_Option None = inl refl
cases_Option (Some tiles) = inr (tiles, refl)

pub last_moment : (seat : Seat) (steps : List Step) → AsksNothing seat steps ⊎ IsLastMoment seat steps
last_moment seat [] = inl (λ k h. refl)
last_moment seat (s ∷ steps) = elim (last_moment seat steps) [
  | inr last ↦ inr (record {
    moment = moment_later (Needs seat) s steps last.moment;
    asked_before = λ k h. ap (λ (n : ℕ). max (get_or (asked_or_none (needed seat s)) k 0) (get_or (remaining_in seat s) k 0 + n)) (last.asked_before k h);
  })
  | inl nothing ↦ elim (cases_Option (needed seat s)) [
    | inl none ↦ inl (λ k h.
        let e = ap (λ (o : Option (List ℕ)). get_or (asked_or_none o) k 0) none in
        let z = get-no_tiles k h in
        let l : get_or (remaining_in seat s) k 0 ≤ get_or (asked_or_none (needed seat s)) k 0 = remaining_asked seat s.player s.act k h in
        let n = nothing k h in
        omega arith)
    | inr some ↦ inr (record {
      moment = moment_here (Needs seat) s steps some.0 some.1;
      asked_before = λ k h. let n = nothing k h in omega arith;
    })
  ]
]

-- all that is missing comes with the draws to come
pub missing_comes : (seat : Seat) (steps : List Step) (rack : List ℕ) (due : ℕ) → IsOnTime seat steps rack due → missing (demand seat steps) rack ≤ due + to_come seat steps
missing_comes seat steps rack due on = elim (last_moment seat steps) [
  | inl nothing ↦
      let same = sum_kinds_same (λ k. demand seat steps k - get_or rack k 0) (λ k. 0) (λ k h. let n = nothing k h in omega arith) in
      let none = sum_of_none kinds in
      omega arith
  | inr last ↦
      let m = last.moment in
      let all = on.on_time m.before m.step m.following m.tiles m.parts m.asks in
      let same = sum_kinds_same (λ k. demand seat steps k - get_or rack k 0) (λ k. demand seat (m.before ++ m.step ∷ []) k - get_or rack k 0)
      (λ k h. ap (λ (n : ℕ). n - get_or rack k 0) (last.asked_before k h)) in
      let come = ap (to_come seat) m.parts in
      let both = to_come-append seat m.before (m.step ∷ m.following) in
      omega arith
]

-- ---- the bag has what both want

-- for each kind the bag has what a player with this rack and the other with that one still want
pub record IsCovered (mine others : ℕ → ℕ) (rack other_rack bag : List ℕ) : Type 0 where
  pub covered : (k : ℕ) → k < 27 → (mine k - get_or rack k 0) + (others k - get_or other_rack k 0) ≤ get_or bag k 0

-- what a pick for a player requires of the bag
pub covers_pick : (seat other : Seat) (steps : List Step) (rack other_rack bag : List ℕ) → IsKnownThroughout seat steps → IsKnownThroughout other steps
    → IsCovered (demand seat steps) (demand other steps) rack other_rack bag
    → (k : ℕ) → k < 27 → often k (want_list seat steps rack) + often k (want_list other steps other_rack) ≤ get_or bag k 0
covers_pick seat other steps rack other_rack bag known other_known is k h =
    let a = often_want seat steps rack k known h in
    let b = often_want other steps other_rack k other_known h in
    let c = is.covered k h in
    omega arith

-- and there are enough tiles
pub room_for_pick : (other : Seat) (steps : List Step) (other_rack bag : List ℕ) (number due : ℕ) → IsKnownThroughout other steps
    → IsOnTime other steps other_rack due → due + to_come other steps + number ≤ sum bag
    → sum_by (λ k. often k (want_list other steps other_rack)) kinds + number ≤ sum bag
room_for_pick other steps other_rack bag number due known on room =
    let same = sum_kinds_same (λ k. often k (want_list other steps other_rack)) (λ k. demand other steps k - get_or other_rack k 0)
    (λ k h. often_want other steps other_rack k known h) in
    let come = missing_comes other steps other_rack due on in
    omega arith

-- after a draw the bag still has what both want
pub covered_drawn : (seat other : Seat) (steps : List Step) (rack other_rack bag : List ℕ) (number : ℕ) (q : Pick) → IsKnownThroughout seat steps → IsKnownThroughout other steps
    → Picks (want_list seat steps rack) (want_list other steps other_rack) bag number q
    → IsCovered (demand seat steps) (demand other steps) (joined rack q.taken) other_rack q.remaining
covered_drawn seat other steps rack other_rack bag number q known other_known picks = record {
  covered = λ k h.
      let a = often_want seat steps rack k known h in
      let b = often_want other steps other_rack k other_known h in
      let j = get-joined rack q.taken k h in
      let s = picks.spare k h in
      omega arith;
}

-- and after a step
pub covered_after : (seat other : Seat) (s : Step) (steps : List Step) (rack other_rack bag : List ℕ)
    → IsCovered (demand seat (s ∷ steps)) (demand other (s ∷ steps)) rack other_rack bag
    → ((k : ℕ) → k < 27 → get_or (remaining_in seat s) k 0 ≤ get_or rack k 0)
    → IsCovered (demand seat steps) (demand other steps) (without rack (remaining_in seat s)) other_rack bag
covered_after seat other s steps rack other_rack bag is there = record {
  covered = λ k h.
      let c = is.covered k h in
      let w = get-without rack (remaining_in seat s) k h in
      let t = there k h in
      omega arith;
}
