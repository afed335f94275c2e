-- The candidates among the changes at a place, change by change.
use Rattle.std.proofs.Common.{◌≡◌, ◌⊎◌, inl, inr, ℕ, ◌+◌, ◌<◌, ◌≤◌, Bool, true, false, ◌&&◌, ◌||◌, ◌==◌, nat_lt, List, [], ◌∷◌, ◌++◌, map, length, get_or, slice_get, Option, Some, None, refl, sym, ap, ◌∙◌, subst, arith}
use Rattle.std.specs.Prelude.{min, Result, Ok, Err, OnOk}
use Rattle.std.proofs.lemmas.Bool.{cases_lt, eq-eqb, lt-ltb}
use Rattle.std.proofs.lemmas.List.{append_assoc, append-nil, length-map}
use Rattle.std.proofs.lemmas.Option.{same_Some, slice_get_read, slice_get_within}
use Rattle.ref_tiles.specs.declared.rulebook.Rules.{Rules}
use Rattle.gcg_read.specs.declared.events.Event.{Event}
use Rattle.game_turns.specs.declared.machine.Machine.{Machine}
use Rattle.game_turns.specs.Machines.{state_of}
use Rattle.game_turns.specs.Tallies.{withdraws}
use Rattle.deal_steps.specs.declared.steps.Step.{Step}
use Rattle.game_walk.specs.declared.refusals.Stop.{Stop}
use Rattle.game_walk.specs.declared.walking.Walk.{Walk}
use Rattle.game_walk.specs.Refusals.{EndsAt}
use Rattle.game_walk.specs.Walks.{IsWalkOf}
use Rattle.repair_changes.specs.declared.slips.Change.{Change}
use Rattle.repair_changes.specs.Applied.{applied}
use Rattle.repair_changes.proofs.Fronts.{front_stays}
use Rattle.repair_changes.specs.declared.slips.Slip.{Slip}
use Rattle.repair_slips.specs.Changes.{slips_by, change_at, changes_at}
use Rattle.repair_slips.specs.Laws.{SlipsAreByBoard}
use Rattle.repair_single.specs.Candidates.{MayBeReported, IsBetween, AreAllOf, AreBetween, AddsAllOf}
use Rattle.repair_single.specs.Listing.{changes_with}
use Rattle.repair_single.specs.Repairs.{IsListed}
use Rattle.repair_single.specs.Trying.{IsWeight, NoneFewer, StandsBefore}
use Rattle.repair_single.specs.RackStops.{IsRackStop}
use Rattle.repair_single.specs.declared.listed.Listed.{Listed}
use Rattle.repair_single.specs.declared.candidate.Candidate.{Candidate}
use Rattle.repair_single.proofs.AllOf.{none_of, one_of, among_others, joined}
use Rattle.repair_single.proofs.Changes.{by_correction}
use Rattle.repair_single.proofs.SameLists.{map_at}
use Rattle.repair_single.proofs.Stops.{none_after_stop}
use Rattle.repair_single.proofs.FirstSteps.{steps_before}
use Rattle.repair_single.specs.Remaining.{AreFewer, count_remaining, Weighing}
use Rattle.repair_single.specs.Weighers.{wrong_by, room_of}
use Rattle.repair_single.specs.declared.weighers.Weigher.{Weigher}
use Rattle.repair_single.proofs.Weighing.{within_room}

-- ---- a change of the list

at_index : (changes slips : List Slip) (place i : ℕ) (what : Slip) → i < length slips → what ≡ get_or slips i what
    → slice_get (map (change_at place) slips) i ≡ Some (change_at place what)
at_index changes slips place i what within is =
    slice_get_read (map (change_at place) slips) (length (map (change_at place) slips)) i (change_at place what) refl
    (subst (λ n. i < n) (sym (length-map slips (change_at place))) within) (ap (change_at place) is ∙ sym (map_at (change_at place) slips i what))

-- the changes that are listed by the game of the corrected record are those at the place
pub listed_here : SlipsAreByBoard → (rules : Rules) (list : List (List ℕ)) (written : List Event) (place : ℕ) (machine : Machine) (slips : List Slip) → StandsBefore rules list written place machine
    → slips ≡ slips_by rules (state_of machine) written place → map (change_at place) slips ≡ changes_at rules written place
listed_here law rules list written place machine slips at is =
    ap (map (change_at place)) is ∙ by_correction law rules written at.front place (state_of machine) at.renumbered at.state

pub is_listed : (rules : Rules) (written : List Event) (plays : List Change) (place i : ℕ) (slips : List Slip) (what : Slip) → map (change_at place) slips ≡ changes_with rules written plays place → place ≤ length written
    → i < length slips → what ≡ get_or slips i what → IsListed rules written plays (record { change = record { place = place; slip = what }; index = i })
is_listed rules written plays place i slips what are inside within is =
    record { within = inside; there = ap (λ (cs : List Change). slice_get cs i) (sym are) ∙ at_index slips slips place i what within is }

-- a change is one by its place and its number
same_listed : (rules : Rules) (written : List Event) (plays : List Change) (l m : Listed) → IsListed rules written plays l → IsListed rules written plays m → l.change.place ≡ m.change.place → l.index ≡ m.index → l ≡ m
same_listed rules written plays l m of_l of_m same_place same_index =
    let there : slice_get (changes_with rules written plays m.change.place) m.index ≡ Some l.change =
    ap (λ p. slice_get (changes_with rules written plays p) m.index) (sym same_place) ∙ ap (slice_get (changes_with rules written plays l.change.place)) (sym same_index) ∙ of_l.there in
    let same : l.change ≡ m.change = same_Some l.change m.change (sym there ∙ of_m.there) in
    two l m same same_index
  where
    two : (l m : Listed) → l.change ≡ m.change → l.index ≡ m.index → l ≡ m
    two l m same_change same_index =
        let of_l : Listed = record { change = l.change; index = l.index } in
        let first : of_l ≡ record { change = m.change; index = l.index } = ap (λ (ch : Change). record { change = ch; index = l.index }) same_change in
        first ∙ ap (λ (n : ℕ). record { change = m.change; index = n }) same_index

-- ---- one more candidate, or none

pub adds_none : (weigh : Weighing) (rules : Rules) (list : List (List ℕ)) (written : List Event) (plays : List Change) (below : Option ℕ) (l : Listed) (found : List Candidate) → IsWeight weigh rules list written below l.change None
    → AddsAllOf weigh rules list written plays below (λ m. m ≡ l) found found
adds_none weigh rules list written plays below l found none =
    record {
      more = [];
      added = sym (append-nil found);
      are = none_of weigh rules list written plays below (λ m. m ≡ l)
          (λ m same may.
          let here : MayBeReported weigh rules list written plays below l = subst (MayBeReported weigh rules list written plays below) same may in
          none here.right here.correction here.fewer here.game);
    }

pub adds_one : (weigh : Weighing) (rules : Rules) (list : List (List ℕ)) (written : List Event) (plays : List Change) (below : Option ℕ) (l : Listed) (cost : ℕ) (old new : List Candidate) → IsListed rules written plays l
    → IsWeight weigh rules list written below l.change (Some cost) → new ≡ old ++ record { listed = l; cost = cost } ∷ [] → AddsAllOf weigh rules list written plays below (λ m. m ≡ l) old new
adds_one weigh rules list written plays below l cost old new listed weighed is =
    let c : Candidate = record { listed = l; cost = cost } in
    record { more = c ∷ []; added = is; are = one_of weigh rules list written plays below c (record { single = listed; weighed = weighed }) }

-- no change at a place leaves few enough numbers and words wrong
pub adds_none_at : (w : Weigher) (rules : Rules) (list : List (List ℕ)) (written : List Event) (plays : List Change) (below room : Option ℕ) (place : ℕ) (found : List Candidate) → room ≡ room_of w below
    → ((change : Change) → change.place ≡ place → NoneFewer rules list written room change) → AddsAllOf (wrong_by w) rules list written plays below (λ l. l.change.place ≡ place) found found
adds_none_at w rules list written plays below room place found is none =
    record {
      more = [];
      added = sym (append-nil found);
      are = none_of (wrong_by w) rules list written plays below (λ l. l.change.place ≡ place) (λ l at may. none l.change at may.right may.correction
          (subst (λ (o : Option ℕ). AreFewer o (count_remaining rules list l.change written may.right)) (sym is) (within_room w rules list l.change written may.right below may.fewer)));
    }

-- ---- the changes at a place up to an index

abbrev pub IsUpTo : (place index : ℕ) → Listed → Type 0
IsUpTo place index l = (l.change.place ≡ place) × (l.index < index)

pub at_none : (weigh : Weighing) (rules : Rules) (list : List (List ℕ)) (written : List Event) (plays : List Change) (below : Option ℕ) (place : ℕ) (found : List Candidate)
    → AddsAllOf weigh rules list written plays below (IsUpTo place 0) found found
at_none weigh rules list written plays below place found =
    record { more = []; added = sym (append-nil found); are = none_of weigh rules list written plays below (IsUpTo place 0) (λ l of_l may. let less = of_l.1 in absurd (omega (arith, less))) }

earlier_index : (p q i j : ℕ) → p ≡ q → i < j → (nat_lt p q || p == q && nat_lt i j) ≡ true
earlier_index p q i j same less = both (nat_lt p q) (p == q) (nat_lt i j) (eq-eqb p q same) (lt-ltb i j less)
  where
    both : (a b d : Bool) → b ≡ true → d ≡ true → (a || b && d) ≡ true
    both true b d of_b of_d = refl
    both false true true of_b of_d = refl
    both false true false of_b of_d = cc
    both false false d of_b of_d = cc

earlier_place : (p q i j : ℕ) → p < q → (nat_lt p q || p == q && nat_lt i j) ≡ true
earlier_place p q i j less = front (nat_lt p q) (p == q && nat_lt i j) (lt-ltb p q less)
  where
    front : (a b : Bool) → a ≡ true → (a || b) ≡ true
    front true b is = refl
    front false b is = cc

split_index : (weigh : Weighing) (rules : Rules) (list : List (List ℕ)) (written : List Event) (plays : List Change) (below : Option ℕ) (place index : ℕ) (l m : Listed) → IsListed rules written plays m → m.change.place ≡ place → m.index ≡ index
    → IsUpTo place (index + 1) l → MayBeReported weigh rules list written plays below l → (l.index < index) ⊎ (index ≤ l.index) → IsUpTo place index l ⊎ (l ≡ m)
split_index weigh rules list written plays below place index l m listed at here of_l may (inl less) = inl (of_l.0, less)
split_index weigh rules list written plays below place index l m listed at here of_l may (inr not_less) =
    let under = of_l.1 in
    inr (same_listed rules written plays l m may.single listed (of_l.0 ∙ sym at) (omega (arith, under, not_less, here)))

pub up_more : (weigh : Weighing) (rules : Rules) (list : List (List ℕ)) (written : List Event) (plays : List Change) (below : Option ℕ) (place index : ℕ) (m : Listed) (start old new : List Candidate) → IsListed rules written plays m
    → m.change.place ≡ place → m.index ≡ index → AddsAllOf weigh rules list written plays below (IsUpTo place index) start old → AddsAllOf weigh rules list written plays below (λ l. l ≡ m) old new
    → AddsAllOf weigh rules list written plays below (IsUpTo place (index + 1)) start new
up_more weigh rules list written plays below place index m start old new listed at here before one =
    record {
      more = before.more ++ one.more;
      added = one.added ∙ ap (λ (xs : List Candidate). xs ++ one.more) before.added ∙ append_assoc start before.more one.more;
      are = joined weigh rules list written plays below (IsUpTo place index) (λ l. l ≡ m) (IsUpTo place (index + 1)) before.more one.more before.are one.are
          (λ l of_l. let under = of_l.1 in (of_l.0, omega (arith, under)))
          (λ l same. (ap (λ (n : Listed). n.change.place) same ∙ at, let is = ap (λ (n : Listed). n.index) same in omega (arith, is, here)))
          (λ l of_l may. split_index weigh rules list written plays below place index l m listed at here of_l may (cases_lt l.index index))
          (λ a b of_a of_b.
          let under = of_a.1 in
          let is = ap (λ (n : Listed). n.index) of_b in
          earlier_index a.listed.change.place b.listed.change.place a.listed.index b.listed.index (of_a.0 ∙ sym at ∙ sym (ap (λ (n : Listed). n.change.place) of_b)) (omega (arith, under, is, here)));
    }

index_within : (weigh : Weighing) (rules : Rules) (list : List (List ℕ)) (written : List Event) (plays : List Change) (below : Option ℕ) (place : ℕ) (slips : List Slip) (l : Listed) → map (change_at place) slips ≡ changes_with rules written plays place
    → l.change.place ≡ place → MayBeReported weigh rules list written plays below l → l.index < length slips
index_within weigh rules list written plays below place slips l are at may =
    let there : slice_get (map (change_at place) slips) l.index ≡ Some l.change =
    ap (λ (cs : List Change). slice_get cs l.index) are ∙ ap (λ p. slice_get (changes_with rules written plays p) l.index) (sym at) ∙ may.single.there in
    subst (λ n. l.index < n) (length-map slips (change_at place)) (slice_get_within (map (change_at place) slips) l.index l.change there)

pub up_all : (weigh : Weighing) (rules : Rules) (list : List (List ℕ)) (written : List Event) (plays : List Change) (below : Option ℕ) (place index : ℕ) (slips : List Slip) (old new : List Candidate)
    → map (change_at place) slips ≡ changes_with rules written plays place → index ≡ length slips → AddsAllOf weigh rules list written plays below (IsUpTo place index) old new
    → AddsAllOf weigh rules list written plays below (λ l. l.change.place ≡ place) old new
up_all weigh rules list written plays below place index slips old new are many adds =
    record {
      more = adds.more;
      added = adds.added;
      are = among_others weigh rules list written plays below (IsUpTo place index) (λ l. l.change.place ≡ place) adds.more adds.are (λ l of_l. of_l.0)
          (λ l at may. (at, subst (λ n. l.index < n) (sym many) (index_within weigh rules list written plays below place slips l are at may)));
    }

-- what is added for all plays with which the slips are those at the place is added for these
pub added_with : {A E : Type 0} (weigh : Weighing) (rules : Rules) (list : List (List ℕ)) (written : List Event) (plays : List Change) (below : Option ℕ) (place : ℕ) (slips : List Slip) (old new : List Candidate)
    (r : Result A E) → map (change_at place) slips ≡ changes_with rules written plays place
    → OnOk r ((others : List Change) → map (change_at place) slips ≡ changes_with rules written others place → AddsAllOf weigh rules list written others below (λ l. l.change.place ≡ place) old new)
    → OnOk r (AddsAllOf weigh rules list written plays below (λ l. l.change.place ≡ place) old new)
added_with weigh rules list written plays below place slips old new (Ok a) are adds = adds plays are
added_with weigh rules list written plays below place slips old new (Err e) are adds = tt

-- ---- place after place, from the last one on

pub between_none : (weigh : Weighing) (rules : Rules) (list : List (List ℕ)) (written : List Event) (plays : List Change) (below : Option ℕ) (end : ℕ) → AreBetween weigh rules list written plays below end end []
between_none weigh rules list written plays below end =
    none_of weigh rules list written plays below (λ l. IsBetween end end l.change.place)
    (λ l of_l may.
    let late = of_l.0 in
    let early = of_l.1 in
    absurd (omega (arith, late, early)))

split_place : (place end : ℕ) (l : Listed) → IsBetween place end l.change.place → (l.change.place < place + 1) ⊎ (place + 1 ≤ l.change.place)
    → (l.change.place ≡ place) ⊎ IsBetween (place + 1) end l.change.place
split_place place end l of_l (inl less) = let late = of_l.0 in inl (omega (arith, less, late))
split_place place end l of_l (inr not_less) = inr (not_less, of_l.1)

pub between_more : (weigh : Weighing) (rules : Rules) (list : List (List ℕ)) (written : List Event) (plays : List Change) (below : Option ℕ) (place end : ℕ) (here old new : List Candidate)
    → place < end → AddsAllOf weigh rules list written plays below (λ l. l.change.place ≡ place) [] here → AreBetween weigh rules list written plays below (place + 1) end old → new ≡ here ++ old
    → AreBetween weigh rules list written plays below place end new
between_more weigh rules list written plays below place end here old new inside adds following is =
    subst (AreBetween weigh rules list written plays below place end) (sym (is ∙ ap (λ (xs : List Candidate). xs ++ old) adds.added))
    (joined weigh rules list written plays below (λ l. l.change.place ≡ place) (λ l. IsBetween (place + 1) end l.change.place) (λ l. IsBetween place end l.change.place) adds.more old adds.are following
    (λ l at. (omega (arith, at), omega (arith, at, inside)))
    (λ l of_l.
    let late = of_l.0 in
    (omega (arith, late), of_l.1))
    (λ l of_l may. split_place place end l of_l (cases_lt l.change.place (place + 1)))
    (λ a b of_a of_b.
    let late = of_b.0 in
    earlier_place a.listed.change.place b.listed.change.place a.listed.index b.listed.index (omega (arith, of_a, late))))

-- ---- after the end of the walk no change helps

end_stops : (weigh : Weighing) (rules : Rules) (list : List (List ℕ)) (written right : List Event) (plays : List Change) (below : Option ℕ) (end : ℕ) (stopped : Option Stop) (l : Listed) → EndsAt rules list written right end stopped
    → MayBeReported weigh rules list written plays below l → (l.change.place < end + 1) ⊎ (end + 1 ≤ l.change.place) → l.change.place < end + 1
end_stops weigh rules list written right plays below end stopped l ends may (inl less) = less
end_stops weigh rules list written right plays below end None l ends may (inr past) =
    let inside = may.single.within in
    let all = ends.0 in
    absurd (omega (arith, inside, all, past))
end_stops weigh rules list written right plays below end (Some stop) l ends may (inr past) =
    let there = ends.there in
    absurd (none_after_stop rules list written right stop.refusal.line stop.refusal.why ends.stops l.change (omega (arith, there, past)) may.right may.correction)

pub within_walk : (weigh : Weighing) (rules : Rules) (list : List (List ℕ)) (written : List Event) (plays : List Change) (below : Option ℕ) (walk : Walk) (l : Listed) → IsWalkOf rules list written walk
    → MayBeReported weigh rules list written plays below l → l.change.place < length walk.rows.items + 1
within_walk weigh rules list written plays below walk l walked may =
    let is = walked.is in
    let many = is.rows.as_many in
    let here = end_stops weigh rules list written walked.right plays below is.end walk.stopped l is.ends may (cases_lt l.change.place (is.end + 1)) in
    omega (arith, many, here)

-- ---- nor does one after the place where the racks stop

stop_holds : (weigh : Weighing) (rules : Rules) (list : List (List ℕ)) (written : List Event) (plays : List Change) (below : Option ℕ) (end : ℕ) (steps : List Step) (l : Listed) → IsRackStop rules list written end steps
    → MayBeReported weigh rules list written plays below l → (end < l.change.place) ⊎ (l.change.place ≤ end) → l.change.place < end + 1
stop_holds weigh rules list written plays below end steps l stop may (inl following) =
    absurd (stop.none list (applied l.change written)
    (steps_before rules list written (applied l.change written) l.change.place end steps stop.first
    (record { before = omega (arith, following); same = inr (ap withdraws (front_stays l.change written end following)) }) (λ j less. front_stays l.change written j less))
    may.right may.correction may.game)
stop_holds weigh rules list written plays below end steps l stop may (inr near) = omega (arith, near)

pub within_stop : (weigh : Weighing) (rules : Rules) (list : List (List ℕ)) (written : List Event) (plays : List Change) (below : Option ℕ) (end : ℕ) (steps : List Step) (l : Listed) → IsRackStop rules list written end steps
    → MayBeReported weigh rules list written plays below l → l.change.place < end + 1
within_stop weigh rules list written plays below end steps l stop may = stop_holds weigh rules list written plays below end steps l stop may (cases_lt end l.change.place)

pub within_both : (weigh : Weighing) (rules : Rules) (list : List (List ℕ)) (written : List Event) (plays : List Change) (below : Option ℕ) (walk : Walk) (rows end last : ℕ) (steps : List Step) → rows ≡ length walk.rows.items
    → IsWalkOf rules list written walk → IsRackStop rules list written end steps → last ≡ min rows end + 1 → (l : Listed) → MayBeReported weigh rules list written plays below l → l.change.place < last
within_both weigh rules list written plays below walk rows end last steps many walked stop is l may =
    let one = within_walk weigh rules list written plays below walk l walked may in
    let other = within_stop weigh rules list written plays below end steps l stop may in
    omega (arith, many, is, one, other)

-- ---- a walk has no more rows than the record has events

end_fits : (rules : Rules) (list : List (List ℕ)) (written right : List Event) (end : ℕ) (stopped : Option Stop) → EndsAt rules list written right end stopped → end ≤ length written
end_fits rules list written right end None ends = let all = ends.0 in omega (arith, all)
end_fits rules list written right end (Some stop) ends =
    let within = slice_get_within written ends.stops.place ends.stops.own ends.stops.stood in
    let there = ends.there in
    omega (arith, within, there)

pub rows_fit : (rules : Rules) (list : List (List ℕ)) (written : List Event) (walk : Walk) → IsWalkOf rules list written walk → length walk.rows.items ≤ length written
rows_fit rules list written walk walked =
    let is = walked.is in
    let many = is.rows.as_many in
    let fits = end_fits rules list written walked.right is.end walk.stopped is.ends in
    omega (arith, many, fits)
