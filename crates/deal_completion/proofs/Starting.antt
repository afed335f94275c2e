-- If no bound is exceeded in a game without exchanges, everything comes in time from the start, and the game has the tiles.
use Rattle.std.proofs.Common.{◌≡◌, ◌<◌, ◌≤◌, ℕ, ◌+◌, ◌-◌, max, Bool, true, false, ltb, List, [], ◌∷◌, ◌++◌, get_or, sum, length, Option, Some, None, refl, sym, ap, ◌∙◌, subst, inl, inr, ◌⊎◌, arith}
use Rattle.std.specs.Prelude.{if◌then◌else◌}
use Rattle.std.specs.Option.{option_map, option_or}
use Rattle.std.proofs.lemmas.Bool.{ltb-false, and_right}
use Rattle.ref_tiles.specs.Counting.{no_tiles}
use Rattle.ref_tiles.specs.declared.rulebook.Rules.{Rules}
use Rattle.gcg_read.specs.declared.events.Seat.{Seat}
use Rattle.gcg_read.specs.declared.events.Seat.TheVariants.{First, Second}
use Rattle.gcg_read.specs.Players.{other_seat, same_seat}
use Rattle.deal_steps.specs.declared.steps.Motion.{Motion}
use Rattle.deal_steps.specs.declared.steps.Motion.TheVariants as motion
use Rattle.deal_steps.specs.declared.steps.Act.{Act}
use Rattle.deal_steps.specs.declared.steps.Act.TheVariants as act
use Rattle.deal_steps.specs.declared.steps.Step.{Step}
use Rattle.deal_steps.specs.declared.faults.DealBound.{DealBound}
use Rattle.deal_steps.specs.declared.faults.DealBound.TheVariants as fault
use Rattle.deal_steps.specs.Piles.{kinds, joined}
use Rattle.deal_steps.specs.Steps.{thrown_by, of_act, is_by, is_unknown, throws_unknown, remaining_in, thrown_in, ends_epoch, needed, needed_of, size_of, swaps_by, swaps}
use Rattle.ref_tiles.specs.Kinds.{kind_at}
use Rattle.deal_steps.specs.Bounds.{gone, raised, low, low_at, laid_earlier, thrown, held, is_too_big, short_kind, bound_of, bound_for, bound_at, first_bound_after, first_bound}
use Rattle.deal_steps.proofs.PileLaws.{get-joined, get-without, get-greater, get-no_tiles, length-no_tiles, length-greater, sum_is, sum_kinds_same}
use Rattle.deal_completion.specs.Plain.{IsPlain}
use Rattle.deal_completion.proofs.WantLaws.{asked_or_none, remaining_asked}
use Rattle.deal_completion.proofs.Demand.{demand, IsKnownThroughout}
use Rattle.deal_completion.proofs.PickLaws.{find_range}
use Rattle.deal_completion.proofs.OnTime.{to_come, IsOnTime, cases_Option, Needs, IsMoment, moment_here, moment_later}

-- the past with more steps
abbrev pub past_with : List Step → (past : List Step) → List Step
past_with [] past = past
past_with (s ∷ steps) past = past_with steps (s ∷ past)

pub past_with-append : (xs ys past : List Step) → past_with (xs ++ ys) past ≡ past_with ys (past_with xs past)
past_with-append [] ys past = refl
past_with-append (x ∷ xs) ys past = past_with-append xs ys (x ∷ past)

-- what the moments have shown after a step of the same epoch
low_on : (seat : Seat) (s : Step) (past : List Step) → ends_epoch seat s ≡ false → low seat (s ∷ past) ≡ low_at seat s past
low_on seat s past known = ap (λ (b : Bool). if b then no_tiles else low_at seat s past) known

gone_on : (seat : Seat) (s : Step) (past : List Step) → ends_epoch seat s ≡ false → gone seat (s ∷ past) ≡ joined (gone seat past) (remaining_in seat s)
gone_on seat s past known = ap (λ (b : Bool). if b then no_tiles else joined (gone seat past) (remaining_in seat s)) known

raised_gone : (o : Option (List ℕ)) (gone low remaining : List ℕ) (k : ℕ) → k < 27 → get_or gone k 0 ≤ get_or low k 0 → get_or remaining k 0 ≤ get_or (asked_or_none o) k 0
    → get_or (joined gone remaining) k 0 ≤ get_or (raised gone low o) k 0
raised_gone None gone low remaining k h le less = let z = get-no_tiles k h in let j = get-joined gone remaining k h in omega arith
raised_gone (Some tiles) gone low remaining k h le less =
    let j = get-joined gone remaining k h in
    let t = get-joined gone tiles k h in
    let g = get-greater low (joined gone tiles) k h in
    omega arith

raised_demand : (o : Option (List ℕ)) (gone low remaining : List ℕ) (d k : ℕ) → k < 27 → get_or gone k 0 ≤ get_or low k 0 → get_or remaining k 0 ≤ get_or (asked_or_none o) k 0
    → max (get_or (raised gone low o) k 0) (get_or (joined gone remaining) k 0 + d)
    ≡ max (get_or low k 0) (get_or gone k 0 + max (get_or (asked_or_none o) k 0) (get_or remaining k 0 + d))
raised_demand None gone low remaining d k h le less = let z = get-no_tiles k h in let j = get-joined gone remaining k h in omega arith
raised_demand (Some tiles) gone low remaining d k h le less =
    let j = get-joined gone remaining k h in
    let t = get-joined gone tiles k h in
    let g = get-greater low (joined gone tiles) k h in
    omega arith

-- what the moments show is what they ask for, read from the front
pub low_is_demand : (seat : Seat) (steps past : List Step) (k : ℕ) → IsKnownThroughout seat steps → k < 27 → get_or (gone seat past) k 0 ≤ get_or (low seat past) k 0
    → get_or (low seat (past_with steps past)) k 0 ≡ max (get_or (low seat past) k 0) (get_or (gone seat past) k 0 + demand seat steps k)
low_is_demand seat [] past k known h le = omega arith
low_is_demand seat (s ∷ steps) past k known h le =
    let less : get_or (remaining_in seat s) k 0 ≤ get_or (asked_or_none (needed seat s)) k 0 = remaining_asked seat s.player s.act k h in
    let low_is = ap (λ (l : List ℕ). get_or l k 0) (low_on seat s past known.0) in
    let gone_is = ap (λ (l : List ℕ). get_or l k 0) (gone_on seat s past known.0) in
    let more = raised_gone (needed seat s) (gone seat past) (low seat past) (remaining_in seat s) k h le less in
    let rest = low_is_demand seat steps (s ∷ past) k known.1 h (omega arith) in
    let math = raised_demand (needed seat s) (gone seat past) (low seat past) (remaining_in seat s) (demand seat steps k) k h le less in
    rest ∙ ap (λ (n : ℕ). max n (get_or (gone seat (s ∷ past)) k 0 + demand seat steps k)) low_is
    ∙ ap (λ (n : ℕ). max (get_or (low_at seat s past) k 0) (n + demand seat steps k)) gone_is ∙ math

pub low_at_start : (seat : Seat) (steps : List Step) (k : ℕ) → IsKnownThroughout seat steps → k < 27 → get_or (low seat (past_with steps [])) k 0 ≡ demand seat steps k
low_at_start seat steps k known h =
    let z = get-no_tiles k h in
    let e = low_is_demand seat steps [] k known h (omega arith) in
    omega arith

-- ---- no bound is exceeded

none_or : (a b : Option DealBound) → option_or a b ≡ None → (a ≡ None) × (b ≡ None)
none_or None b e = (refl, e)
none_or (Some x) b e = (e, absurd (cc))

pub no_bound : (rules : Rules) (before : List Step) (s : Step) (after past : List Step) → first_bound_after rules past (before ++ s ∷ after) ≡ None → bound_at rules s (past_with before past) ≡ None
no_bound rules [] s after past none = (none_or (bound_at rules s past) (first_bound_after rules (s ∷ past) after) none).0
no_bound rules (x ∷ before) s after past none =
    no_bound rules before s after (x ∷ past) (none_or (bound_at rules x past) (first_bound_after rules (x ∷ past) (before ++ s ∷ after)) none).1

same_seat_is : (a b : Seat) → same_seat a b ≡ true → a ≡ b
same_seat_is First First e = refl
same_seat_is First Second e = absurd (cc)
same_seat_is Second First e = absurd (cc)
same_seat_is Second Second e = refl

if_some : (b : Bool) (x tiles : List ℕ) → (if b then Some x else None) ≡ Some tiles → b ≡ true
if_some true x tiles e = refl
if_some false x tiles e = absurd (cc)

-- the bound at a moment is that of its holder
pub bound_of_moment : (rules : Rules) (seat : Seat) (s : Step) (past : List Step) (tiles : List ℕ) (what : Act) (player : Seat) → s.player ≡ player → needed_of seat player what ≡ Some tiles
    → bound_for rules s past what ≡ bound_of rules seat s past
bound_of_moment rules seat s past tiles (act.Turns shown what) player by asks =
    ap (λ (p : Seat). bound_of rules p s past) (by ∙ same_seat_is player seat (if_some (same_seat player seat) _ tiles asks))
bound_of_moment rules seat s past tiles (act.TakesBack used) player by asks = absurd (cc)
bound_of_moment rules seat s past tiles (act.Ends holder last) player by asks =
    ap (λ (p : Seat). bound_of rules p s past) (same_seat_is holder seat (if_some (same_seat holder seat) _ tiles asks))
bound_of_moment rules seat s past tiles act.Rests player by asks = absurd (cc)

pub bound_at_moment : (rules : Rules) (seat : Seat) (s : Step) (past : List Step) (tiles : List ℕ) → needed seat s ≡ Some tiles → bound_at rules s past ≡ None → bound_of rules seat s past ≡ None
unfolding bound_at
bound_at_moment rules seat s past tiles asks none = sym (bound_of_moment rules seat s past tiles s.act s.player refl asks) ∙ none

length_raised : (gone low : List ℕ) (o : Option (List ℕ)) → length low ≡ 27 → length (raised gone low o) ≡ 27
length_raised gone low None long = long
length_raised gone low (Some tiles) long = length-greater low (joined gone tiles)

length_either : (b : Bool) (xs : List ℕ) → length xs ≡ 27 → length (if b then no_tiles else xs) ≡ 27
length_either true xs long = length-no_tiles
length_either false xs long = long

pub length-low : (seat : Seat) (past : List Step) → length (low seat past) ≡ 27
length-low seat [] = length-no_tiles
length-low seat (s ∷ past) = length_either (ends_epoch seat s) (low_at seat s past) (length_raised (gone seat past) (low seat past) (needed seat s) (length-low seat past))

-- a bound that is not exceeded: the rack is not too big, and no kind is short
bound_parts : (rules : Rules) (seat : Seat) (s : Step) (past : List Step) → bound_of rules seat s past ≡ None
    → (is_too_big seat s past ≡ false) × (short_kind rules seat s past ≡ None)
bound_parts rules seat s past none = parts (is_too_big seat s past) (short_kind rules seat s past) none
  where
    parts : (b : Bool) (o : Option ℕ) → (if b then Some (fault.RackTooBig s.line) else option_map (λ k. fault.TilesShort s.line (kind_at k)) o) ≡ None
        → (b ≡ false) × (o ≡ None)
    parts true o none = absurd (cc)
    parts false None none = (refl, refl)
    parts false (Some k) none = absurd (cc)

known_at : (seat : Seat) (before : List Step) (s : Step) (after : List Step) → IsKnownThroughout seat (before ++ s ∷ after)
    → (ends_epoch seat s ≡ false) × IsKnownThroughout seat (before ++ s ∷ [])
known_at seat [] s after known = (known.0, (known.0, tt))
known_at seat (x ∷ before) s after known = let rest = known_at seat before s after known.1 in (rest.0, (known.0, rest.1))

-- what the moments show up to one is what they ask for up to it
shown_at : (seat : Seat) (before : List Step) (s : Step) (after : List Step) (k : ℕ) → IsKnownThroughout seat (before ++ s ∷ after) → k < 27
    → get_or (low_at seat s (past_with before [])) k 0 ≡ demand seat (before ++ s ∷ []) k
shown_at seat before s after k known h =
    let at = known_at seat before s after known in
    ap (λ (l : List ℕ). get_or l k 0) (sym (low_on seat s (past_with before []) at.0))
    ∙ ap (λ (past : List Step). get_or (low seat past) k 0) (sym (past_with-append before (s ∷ []) []))
    ∙ low_at_start seat (before ++ s ∷ []) k at.1 h

-- The sizes of a player's racks: seven tiles plus those drawn, minus those that left.
pub record IsSized (seat : Seat) (steps : List Step) : Type 0 where
  pub sized : (before : List Step) (s : Step) (after : List Step) (tiles : List ℕ) → steps ≡ before ++ s ∷ after → needed seat s ≡ Some tiles
      → sum (gone seat (past_with before [])) + size_of s seat ≡ 7 + to_come seat before

-- from the start everything comes in time
pub on_time_at_start : (rules : Rules) (seat : Seat) (steps : List Step) → first_bound rules steps ≡ None → IsKnownThroughout seat steps → IsSized seat steps
    → IsOnTime seat steps no_tiles 7
on_time_at_start rules seat steps none known sizes = record {
  on_time = λ before s after tiles parts asks.
      let past = past_with before [] in
      let known_here = subst (λ (l : List Step). IsKnownThroughout seat l) parts known in
      let bound = bound_at_moment rules seat s past tiles asks (no_bound rules before s after [] (subst (λ (l : List Step). first_bound rules l ≡ None) parts none)) in
      let few = ltb-false (sum (gone seat past) + size_of s seat) (sum (low_at seat s past)) (bound_parts rules seat s past bound).0 in
      let size = sizes.sized before s after tiles parts asks in
      let all = sum_is (low_at seat s past) (length_raised (gone seat past) (low seat past) (needed seat s) (length-low seat past)) in
      let same = sum_kinds_same (λ k. demand seat (before ++ s ∷ []) k - get_or no_tiles k 0) (λ k. get_or (low_at seat s past) k 0)
      (λ k h. let z = get-no_tiles k h in let e = shown_at seat before s after k known_here h in omega arith) in
      omega arith;
}

-- ---- games without exchanges

plain_motion : (what : Motion) → swaps_by what ≡ false → is_unknown what ≡ false
plain_motion motion.Keeps plain = refl
plain_motion (motion.Lays used drawn) plain = refl
plain_motion (motion.Tries used) plain = refl
plain_motion (motion.Throws tiles) plain = refl
plain_motion (motion.ThrowsUnknown n) plain = plain

plain_act : (what : Act) → swaps what ≡ false → throws_unknown what ≡ false
plain_act (act.Turns shown what) plain = plain_motion what plain
plain_act (act.TakesBack used) plain = refl
plain_act (act.Ends holder tiles) plain = refl
plain_act act.Rests plain = refl

pub known_if_plain : (seat : Seat) (steps : List Step) → IsPlain steps → IsKnownThroughout seat steps
known_if_plain seat [] plain = tt
known_if_plain seat (s ∷ steps) plain = (and_right (is_by seat s) (throws_unknown s.act) (plain_act s.act plain.0), known_if_plain seat steps plain.1)

-- ---- the last moment of both players

abbrev pub EitherNeeds : Step → List ℕ → Type 0
EitherNeeds step tiles = Needs First step tiles ⊎ Needs Second step tiles

pub record IsLastOfBoth (steps : List Step) : Type 0 where
  pub moment : IsMoment EitherNeeds steps
  pub first_before : (k : ℕ) → k < 27 → demand First steps k ≡ demand First (moment.before ++ moment.step ∷ []) k
  pub second_before : (k : ℕ) → k < 27 → demand Second steps k ≡ demand Second (moment.before ++ moment.step ∷ []) k

abbrev AskNothing : List Step → Type 0
AskNothing steps = (k : ℕ) → k < 27 → (demand First steps k ≡ 0) × (demand Second steps k ≡ 0)

-- a step after which nothing is asked for is the last moment of both, if it is one
last_here : (s : Step) (steps : List Step) (tiles : List ℕ) → EitherNeeds s tiles → AskNothing steps → IsLastOfBoth (s ∷ steps)
last_here s steps tiles asks nothing = record {
  moment = moment_here EitherNeeds s steps tiles asks;
  first_before = λ k h. let n = (nothing k h).0 in omega arith;
  second_before = λ k h. let n = (nothing k h).1 in omega arith;
}

-- if a moment does not belong to the player, it asks for nothing
asks_none : (seat : Seat) (s : Step) (steps : List Step) (k : ℕ) → k < 27 → needed seat s ≡ None → demand seat steps k ≡ 0 → demand seat (s ∷ steps) k ≡ 0
asks_none seat s steps k h none rest =
    let e = ap (λ (o : Option (List ℕ)). get_or (asked_or_none o) k 0) none in
    let z = get-no_tiles k h in
    let l : get_or (remaining_in seat s) k 0 ≤ get_or (asked_or_none (needed seat s)) k 0 = remaining_asked seat s.player s.act k h in
    omega arith

last_of_both : (steps : List Step) → AskNothing steps ⊎ IsLastOfBoth steps
last_of_both [] = inl (λ k h. (refl, refl))
last_of_both (s ∷ steps) = elim (last_of_both steps) [
  | inr last ↦ inr (record {
    moment = moment_later EitherNeeds s steps last.moment;
    first_before = λ k h. ap (λ (n : ℕ). max (get_or (asked_or_none (needed First s)) k 0) (get_or (remaining_in First s) k 0 + n)) (last.first_before k h);
    second_before = λ k h. ap (λ (n : ℕ). max (get_or (asked_or_none (needed Second s)) k 0) (get_or (remaining_in Second s) k 0 + n)) (last.second_before k h);
  })
  | inl nothing ↦ elim (cases_Option (needed First s)) [
    | inr some ↦ inr (last_here s steps some.0 (inl some.1) nothing)
    | inl none ↦ elim (cases_Option (needed Second s)) [
      | inr some ↦ inr (last_here s steps some.0 (inr some.1) nothing)
      | inl none_either ↦ inl (λ k h.
          (asks_none First s steps k h none (nothing k h).0, asks_none Second s steps k h none_either (nothing k h).1))
    ]
  ]
]

-- ---- the game has what both ask for

thrown_motion : (what : Motion) → swaps_by what ≡ false → thrown_by what ≡ no_tiles
thrown_motion motion.Keeps plain = refl
thrown_motion (motion.Lays used drawn) plain = refl
thrown_motion (motion.Tries used) plain = refl
thrown_motion (motion.Throws tiles) plain = absurd (cc)
thrown_motion (motion.ThrowsUnknown n) plain = refl

thrown_act : (b : Bool) (what : Act) → swaps what ≡ false → (if b then of_act thrown_by what else no_tiles) ≡ no_tiles
thrown_act false what plain = refl
thrown_act true (act.Turns shown what) plain = thrown_motion what plain
thrown_act true (act.TakesBack used) plain = refl
thrown_act true (act.Ends holder tiles) plain = refl
thrown_act true act.Rests plain = refl

-- nothing is thrown without an exchange
none_thrown : (seat : Seat) (steps past : List Step) (k : ℕ) → IsPlain steps → k < 27 → get_or (thrown seat past) k 0 ≡ 0 → get_or (thrown seat (past_with steps past)) k 0 ≡ 0
none_thrown seat [] past k plain h none = none
none_thrown seat (s ∷ steps) past k plain h none =
    none_thrown seat steps (s ∷ past) k plain.1 h
    (either (ends_epoch seat s) (joined (thrown seat past) (thrown_in seat s))
    (let j = get-joined (thrown seat past) (thrown_in seat s) k h in
    let t : thrown_in seat s ≡ no_tiles = thrown_act (is_by seat s) s.act plain.0 in
    let e = ap (λ (l : List ℕ). get_or l k 0) t in
    let z = get-no_tiles k h in
    omega arith))
  where
    either : (b : Bool) (xs : List ℕ) → get_or xs k 0 ≡ 0 → get_or (if b then no_tiles else xs) k 0 ≡ 0
    either true xs e = get-no_tiles k h
    either false xs e = e

plain_front : (xs ys : List Step) → IsPlain (xs ++ ys) → IsPlain xs
plain_front [] ys plain = tt
plain_front (x ∷ xs) ys plain = (plain.0, plain_front xs ys plain.1)

-- what a player has at least is what is asked for
held_most : (seat : Seat) (before : List Step) (s : Step) (after : List Step) (k : ℕ) → IsPlain (before ++ s ∷ after) → k < 27
    → demand seat (before ++ s ∷ []) k ≤ get_or (held seat s (past_with before [])) k 0
held_most seat before s after k plain h =
    let past = past_with before [] in
    let w = get-without (joined (laid_earlier seat past) (low_at seat s past)) (thrown seat past) k h in
    let j = get-joined (laid_earlier seat past) (low_at seat s past) k h in
    let t = none_thrown seat before [] k (plain_front before (s ∷ after) plain) h (get-no_tiles k h) in
    let e = shown_at seat before s after k (known_if_plain seat (before ++ s ∷ after) plain) h in
    omega arith

-- no kind is short
enough : (rules : Rules) (seat : Seat) (s : Step) (past : List Step) → short_kind rules seat s past ≡ None → (k : ℕ) → k < 27
    → get_or (held seat s past) k 0 + get_or (held (other_seat seat) s past) k 0 ≤ get_or rules.counts k 0
unfolding kinds
enough rules seat s past none k h =
    elim (find_range (λ k. ltb (get_or rules.counts k 0) (get_or (held seat s past) k 0 + get_or (held (other_seat seat) s past) k 0)) 0 27) [
      | inl all ↦ ltb-false (get_or rules.counts k 0) (get_or (held seat s past) k 0 + get_or (held (other_seat seat) s past) k 0) (all.1 k (omega arith) h)
      | inr some ↦ let e = some.1 in absurd (cc)
    ]

pub covered_at_start : (rules : Rules) (steps : List Step) → first_bound rules steps ≡ None → IsPlain steps → (k : ℕ) → k < 27
    → demand First steps k + demand Second steps k ≤ get_or rules.counts k 0
covered_at_start rules steps none plain k h = elim (last_of_both steps) [
  | inl nothing ↦ let n = nothing k h in omega arith
  | inr last ↦
      let m = last.moment in
      let before = m.before in
      let s = m.step in
      let past = past_with before [] in
      let plain_here = subst IsPlain m.parts plain in
      let none_here = no_bound rules before s m.following [] (subst (λ (l : List Step). first_bound rules l ≡ None) m.parts none) in
      let a = held_most First before s m.following k plain_here h in
      let b = held_most Second before s m.following k plain_here h in
      let c = last.first_before k h in
      let d = last.second_before k h in
      elim m.asks [
        | inl asks ↦
            let bound = bound_at_moment rules First s past m.tiles asks none_here in
            let e = enough rules First s past (bound_parts rules First s past bound).1 k h in
            omega arith
        | inr asks ↦
            let bound = bound_at_moment rules Second s past m.tiles asks none_here in
            let e = enough rules Second s past (bound_parts rules Second s past bound).1 k h in
            omega arith
      ]
]
