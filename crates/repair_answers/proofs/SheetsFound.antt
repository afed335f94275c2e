-- Trying slips of the whole sheet, one after another, and sorting those that repair the record.
use Rattle.std.proofs.Common.{◌≡◌, ◌⊎◌, inl, inr, ℕ, zero, suc, ◌+◌, ◌<◌, ◌≤◌, Bool, true, false, ◌&&◌, ◌||◌, ◌==◌, nat_lt, List, [], ◌∷◌, ◌++◌, length, get_or, Option, Some, None, refl, sym, ap, ◌∙◌, subst, arith}
use Rattle.std.specs.Prelude.{All, AllPairs, Contains, slice_get}
use Rattle.std.specs.List.Sorted.{IsNonDecreasingBy, IsPermutation, IsStableByKey}
use Rattle.std.specs.Ordering.{nat_cmp}
use Rattle.std.specs.Borrow.{Bor}
use Rattle.std.specs.Option.{is_some, IfSome, option_copied}
use Rattle.std.proofs.lemmas.Bool.{eq-eqb, lt-ltb, ltb-true, ltb-false, cases_lt}
use Rattle.std.proofs.lemmas.Option.{slice_get_read, slice_get_past}
use Rattle.std.proofs.lemmas.List.Elements.{All-append, All-contains, All-weaker, Contains-append_left, Contains-append_right}
use Rattle.std.proofs.lemmas.List.Sorted.{All-permutation, Contains-permutation}
use Rattle.ref_tiles.specs.declared.rulebook.Rules.{Rules}
use Rattle.gcg_read.specs.declared.events.Event.{Event}
use Rattle.repair_single.proofs.AllOf.{pairs_joined}
use Rattle.repair_single.proofs.Sorting.{sorted_pairs}
use Rattle.game_walk.specs.declared.walking.Walk.{Walk}
use Rattle.repair_sheets.specs.declared.slips.SheetSlip.{SheetSlip}
use Rattle.repair_sheets.specs.Listing.{sheet_slips}
use Rattle.repair_answers.specs.Sheets.{slip_places, slips_tried, sheet_room, IsGameWithout, IsSheetRepair, is_sheet_ahead, HasNumber, AreSheetRepairs, IsTrial, AreFoundTo}
use Rattle.repair_answers.specs.declared.numbers_alone.NumbersAlone.{NumbersAlone}
use Rattle.repair_answers.specs.declared.sheet_repair.SheetRepair.{SheetRepair}

-- ---- one after another

-- what a look-up in the slips gives
pub copied_get : (slips : List SheetSlip) (number : ℕ) (o : Option (Bor SheetSlip)) → is_some o ≡ nat_lt number (length slips) → IfSome o (λ x. x.now ≡ get_or slips number x.now)
    → option_copied o ≡ slice_get slips number
copied_get slips number None there item = sym (slice_get_past slips number (ltb-false number (length slips) (sym there)))
copied_get slips number (Some x) there item = sym (slice_get_read slips (length slips) number x.now refl (ltb-true number (length slips) (sym there)) item)

one_slip : (a b : SheetSlip) → Some a ≡ Some b → a ≡ b
one_slip a b e = cc

single_all : {X : Type 0} (P : X → Type 0) (x : X) → P x → All P (x ∷ [])
single_all P x is zero d within = is
single_all P x is (suc k) d within = absurd (omega (arith, within))

single_pairs : {X : Type 0} (R : X → X → Type 0) (x : X) → AllPairs R (x ∷ [])
single_pairs R x i j d less within = absurd (omega (arith, less, within))

only_one : {X : Type 0} (x y : X) → Contains (x ∷ []) y → x ≡ y
only_one x y (zero, within, at) = at
only_one x y (suc k, within, at) = absurd (omega (arith, within))

pub none_found : (rules : Rules) (list : List (List ℕ)) (text : List ℕ) (written : List Event) (room : ℕ) (slips : List SheetSlip) → AreFoundTo rules list text written room slips 0 []
none_found rules list text written room slips =
    record {
      each = λ k d within. absurd (omega (arith, within));
      before = λ k d within. absurd (omega (arith, within));
      ordered = λ i j d less within. absurd (omega (arith, less, within));
      all = λ number s right less at game. absurd (omega (arith, less));
    }

none_here : (rules : Rules) (list : List (List ℕ)) (text : List ℕ) (written : List Event) (room k : ℕ) (slips : List SheetSlip) (s other : SheetSlip) (right : List Event) (number : ℕ) → k ≤ number → number < k + 1
    → slice_get slips k ≡ Some s → slice_get slips number ≡ Some other → IsTrial rules list text written room k s None → IsGameWithout rules list text written room other right → ⊥
none_here rules list text written room k slips s other right number from to at there none game =
    let same : number ≡ k = omega (arith, from, to) in
    let one : other ≡ s = one_slip other s (sym there ∙ ap (slice_get slips) same ∙ at) in
    none right (subst (λ (t : SheetSlip). IsGameWithout rules list text written room t right) one game)

pub none_more : (rules : Rules) (list : List (List ℕ)) (text : List ℕ) (written : List Event) (room k : ℕ) (slips : List SheetSlip) (found : List SheetRepair) (s : SheetSlip) → slice_get slips k ≡ Some s
    → IsTrial rules list text written room k s None → AreFoundTo rules list text written room slips k found → AreFoundTo rules list text written room slips (k + 1) found
none_more rules list text written room k slips found s at none so_far =
    record {
      each = so_far.each;
      before = All-weaker (λ (r : SheetRepair). r.number < k) (λ (r : SheetRepair). r.number < k + 1) (λ r less. omega (arith, less)) found so_far.before;
      ordered = so_far.ordered;
      all = λ number other right less there game. by number other right less there game (cases_lt number k);
    }
  where
    by : (number : ℕ) (other : SheetSlip) (right : List Event) → number < k + 1 → slice_get slips number ≡ Some other → IsGameWithout rules list text written room other right
        → (number < k) ⊎ (k ≤ number) → HasNumber found number
    by number other right less there game (inl before) = so_far.all number other right before there game
    by number other right less there game (inr here) = absurd (none_here rules list text written room k slips s other right number here less at there none game)

has_remaining : (xs ys : List SheetRepair) (number : ℕ) → HasNumber xs number → HasNumber (xs ++ ys) number
has_remaining xs ys number is = record { repair = is.repair; among = Contains-append_left xs ys is.repair is.among; same = is.same }

pub one_more : (rules : Rules) (list : List (List ℕ)) (text : List ℕ) (written : List Event) (room k : ℕ) (slips : List SheetSlip) (found : List SheetRepair) (s : SheetSlip) (r : SheetRepair)
    → slice_get slips k ≡ Some s → IsTrial rules list text written room k s (Some r) → AreFoundTo rules list text written room slips k found
    → AreFoundTo rules list text written room slips (k + 1) (found ++ r ∷ [])
one_more rules list text written room k slips found s r at is so_far =
    let listed : slice_get slips r.number ≡ Some r.slip = ap (slice_get slips) is.number ∙ at ∙ ap (λ (t : SheetSlip). Some t) (sym is.slip) in
    record {
      each = All-append (IsSheetRepair rules list text written room slips) found (r ∷ []) so_far.each
          (single_all (IsSheetRepair rules list text written room slips) r (record { listed = listed; game = is.game; costs = is.costs }));
      before = All-append (λ (a : SheetRepair). a.number < k + 1) found (r ∷ [])
          (All-weaker (λ (a : SheetRepair). a.number < k) (λ (a : SheetRepair). a.number < k + 1) (λ a less. omega (arith, less)) found so_far.before)
          (single_all (λ (a : SheetRepair). a.number < k + 1) r (omega (arith, is.number)));
      ordered = pairs_joined (λ (a b : SheetRepair). a.number < b.number) found (r ∷ []) so_far.ordered (single_pairs (λ (a b : SheetRepair). a.number < b.number) r)
          (λ a b of_a of_b.
          let less : a.number < k = All-contains (λ (x : SheetRepair). x.number < k) found a so_far.before of_a in
          subst (λ (x : SheetRepair). a.number < x.number) (only_one r b of_b) (omega (arith, less, is.number)));
      all = λ number other right less there game. by number other right less there game (cases_lt number k);
    }
  where
    by : (number : ℕ) (other : SheetSlip) (right : List Event) → number < k + 1 → slice_get slips number ≡ Some other → IsGameWithout rules list text written room other right
        → (number < k) ⊎ (k ≤ number) → HasNumber (found ++ r ∷ []) number
    by number other right less there game (inl before) = has_remaining found (r ∷ []) number (so_far.all number other right before there game)
    by number other right less there game (inr here) =
        record { repair = r; among = Contains-append_right found (r ∷ []) r (0, omega arith, refl); same = omega (arith, is.number, here, less) }

-- ---- sorted by what they cost

or_left : (a b : Bool) → a ≡ true → (a || b) ≡ true
or_left true b is = refl
or_left false b is = cc

or_right : (a b d : Bool) → b ≡ true → d ≡ true → (a || b && d) ≡ true
or_right true b d of_b of_d = refl
or_right false true true of_b of_d = refl
or_right false true false of_b of_d = cc
or_right false false d of_b of_d = cc

ahead_by : (a b : SheetRepair) → (a.cost < b.cost) ⊎ ((a.cost ≡ b.cost) × (a.number < b.number)) → is_sheet_ahead a b ≡ true
ahead_by a b (inl less) = or_left (nat_lt a.cost b.cost) (a.cost == b.cost && nat_lt a.number b.number) (lt-ltb a.cost b.cost less)
ahead_by a b (inr (same, earlier)) =
    or_right (nat_lt a.cost b.cost) (a.cost == b.cost) (nat_lt a.number b.number) (eq-eqb a.cost b.cost same) (lt-ltb a.number b.number earlier)

inside : (slips : List SheetSlip) (number : ℕ) (s : SheetSlip) → slice_get slips number ≡ Some s → number < length slips
inside [] zero s at = cc
inside [] (suc number) s at = cc
inside (t ∷ slips) zero s at = omega arith
inside (t ∷ slips) (suc number) s at = let less = inside slips number s at in omega (arith, less)

pub sorted_ones : (rules : Rules) (list : List (List ℕ)) (text : List ℕ) (written : List Event) (room : ℕ) (slips : List SheetSlip) (old new : List SheetRepair)
    → AreFoundTo rules list text written room slips (length slips) old → IsPermutation old new → IsNonDecreasingBy (λ (r : SheetRepair). r.cost) new
    → IsStableByKey (λ (r : SheetRepair). r.cost) nat_cmp old new → AreSheetRepairs rules list text written room slips new
sorted_ones rules list text written room slips old new are moved rises stable =
    record {
      each = All-permutation (IsSheetRepair rules list text written room slips) old new moved are.each;
      ordered = λ i j d less within.
          ahead_by (get_or new i d) (get_or new j d)
          (sorted_pairs (λ (a b : SheetRepair). a.number < b.number) (λ (r : SheetRepair). r.cost) old new are.ordered rises stable i j d less within);
      all = λ number s right at game.
          let there = are.all number s right (inside slips number s at) at game in
          record { repair = there.repair; among = Contains-permutation old new there.repair moved there.among; same = there.same };
    }

-- the slips of the whole sheet of a record, by those that are tried
pub sheets_of : (rules : Rules) (list : List (List ℕ)) (text : List ℕ) (written : List Event) (walk : Walk) (alone : Option NumbersAlone) (room places : ℕ) (slips shown : List SheetSlip)
    (found : List SheetRepair) → AreSheetRepairs rules list text written room shown found → room ≡ sheet_room alone → places ≡ slip_places written walk
    → slips ≡ sheet_slips text written places → shown ≡ slips → AreSheetRepairs rules list text written (sheet_room alone) (slips_tried text written walk) found
sheets_of rules list text written walk alone room places slips shown found are is_room are_places are_slips are_shown =
    let all : shown ≡ slips_tried text written walk = are_shown ∙ are_slips ∙ ap (sheet_slips text written) are_places in
    subst (λ (n : ℕ). AreSheetRepairs rules list text written n (slips_tried text written walk) found) is_room
    (subst (λ (ss : List SheetSlip). AreSheetRepairs rules list text written room ss found) all are)
