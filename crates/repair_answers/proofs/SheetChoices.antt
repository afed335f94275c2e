-- Which repair is to be chosen, if there are slips of the whole sheet, and which is the likely one.
use Rattle.std.proofs.Common.{◌≡◌, ◌⊎◌, inl, inr, ℕ, ◌+◌, ◌≤◌, Bool, true, false, List, [], ◌∷◌, length, get_or, take, drop, ◌-◌, Option, Some, None, refl, sym, ap, ◌∙◌, subst, arith}
use Rattle.std.specs.Prelude.{All}
use Rattle.std.proofs.lemmas.List.{take_all}
use Rattle.std.specs.Borrow.{Bor}
use Rattle.repair_single.specs.declared.repair.Repair.{Repair}
use Rattle.repair_pairs.specs.declared.found.Pair.{Pair}
use Rattle.repair_answers.specs.Alike.{cost_in}
use Rattle.repair_answers.specs.Choices.{IsAheadOf, IsFirst, HasRival, alone_cost, IsAheadOfNumbers, Lead, IsAheadOfRepair, IsFarBelowSheets, IsFarBelowNumbers, AreNumbersBelow, IsSheetAhead, IsSheetFirst, IsSheetChosen, IsNoneChosen, IsSheetOpen, IsNoneBelow, IsChoice}
use Rattle.repair_answers.specs.Likely.{IsFarFirst, IsNoneLikely, IsFirstChange, IsFirstSheet, IsLikelyOf}
use Rattle.repair_answers.specs.declared.choices.Choice.{Choice}
use Rattle.repair_answers.specs.declared.choices.Choice.TheVariants as choice
use Rattle.repair_answers.specs.declared.likely.Likely.{Likely}
use Rattle.repair_answers.specs.declared.likely.Likely.TheVariants as likely_one
use Rattle.repair_answers.specs.declared.numbers_alone.NumbersAlone.{NumbersAlone}
use Rattle.repair_answers.specs.declared.sheet_repair.SheetRepair.{SheetRepair}

-- ---- a slip of the whole sheet that is ahead of all else, and what is ahead of it

-- no first repair is ahead of it
none_below : (first : SheetRepair) (rest : List SheetRepair) (reported : List Repair) (pairs : List Pair) (alone : Option NumbersAlone) → IsSheetAhead first rest reported pairs alone → IsNoneBelow reported (first ∷ rest)
none_below first rest [] pairs alone ahead r is below = is
none_below first rest (t ∷ ts) pairs alone ahead r is below = by (ahead.1 0 t (omega arith))
  where
    same : cost_in r ≡ cost_in t
    same = ap cost_in is.0

    by : IsAheadOfRepair first t → ⊥
    by (inl both) = let less = both.1 in omega (arith, less, same, below)
    by (inr far) = omega (arith, far, same, below)

-- nor is correcting only the numbers
no_numbers : (first : SheetRepair) (rest : List SheetRepair) (reported : List Repair) (pairs : List Pair) (alone : Option NumbersAlone) → IsSheetAhead first rest reported pairs alone → AreNumbersBelow alone (first ∷ rest)
    → ⊥
no_numbers first rest reported pairs None ahead below = below
no_numbers first rest reported pairs (Some a) ahead below = let far = ahead.3 in omega (arith, far, below)

pub open_ahead : (first : SheetRepair) → first.alone.is_game ≡ false → (reported : List Repair) (pairs : List Pair) (alone : Option NumbersAlone) (rest : List SheetRepair)
    → IsSheetAhead first rest reported pairs alone → IsChoice reported true pairs (first ∷ rest) alone choice.Open
open_ahead first is reported pairs alone rest ahead = inr (inr (ahead, is))

pub chosen_ahead : (first : Bor SheetRepair) → first.now.alone.is_game ≡ true → first.now.alone.remains.wrong.items ≡ [] → (reported : List Repair) (pairs : List Pair) (alone : Option NumbersAlone)
    (rest : List SheetRepair) → IsSheetAhead first.now rest reported pairs alone → IsChoice reported true pairs (first.now ∷ rest) alone (choice.Sheet first)
chosen_ahead first is clean reported pairs alone rest ahead = (refl, ((refl, ahead), is, clean))

pub near_ahead : (first : SheetRepair) → (first.alone.remains.wrong.items ≡ [] → ⊥) → (reported : List Repair) (pairs : List Pair) (alone : Option NumbersAlone) (rest : List SheetRepair)
    → IsSheetAhead first rest reported pairs alone → IsChoice reported true pairs (first ∷ rest) alone choice.NearSheet
near_ahead first wrong reported pairs alone rest ahead = (
  refl,
  (λ e. cc),
  (λ s is. wrong (ap (λ (x : SheetRepair). x.alone.remains.wrong.items) (sym is.0.0) ∙ is.2)),
  none_below first rest reported pairs alone ahead,
  no_numbers first rest reported pairs alone ahead,
)

pub ruleset sheet_ahead = (open_ahead, chosen_ahead, near_ahead)

-- ---- a slip of the whole sheet that is not

none_chosen : (first : SheetRepair) (rest : List SheetRepair) (reported : List Repair) (pairs : List Pair) (alone : Option NumbersAlone) → (IsSheetAhead first rest reported pairs alone → ⊥)
    → IsNoneChosen reported pairs alone (first ∷ rest)
none_chosen first rest reported pairs alone following s is = following is.0.1

pub none_beside : (first : SheetRepair) (alone : Option NumbersAlone) (reported : List Repair) (pairs : List Pair) (rest : List SheetRepair) → (IsSheetAhead first rest reported pairs alone → ⊥)
    → IsChoice reported true pairs [] alone choice.None → IsChoice reported true pairs (first ∷ rest) alone choice.NearSheet
none_beside first alone reported pairs rest following is = (
  refl,
  (λ e. cc),
  none_chosen first rest reported pairs alone following,
  (λ r first_one below. subst (λ (rs : List Repair). IsFirst rs r) is.1 first_one),
  (λ below. subst (λ (o : Option NumbersAlone). AreNumbersBelow o (first ∷ rest)) is.2 below),
)

pub numbers_kept : (first : SheetRepair) (alone : Option NumbersAlone) → ((rest : List SheetRepair) → AreNumbersBelow alone (first ∷ rest)) → (reported : List Repair) (pairs : List Pair) (rest : List SheetRepair)
    → (IsSheetAhead first rest reported pairs alone → ⊥) → IsChoice reported true pairs [] alone choice.Numbers → IsChoice reported true pairs (first ∷ rest) alone choice.Numbers
numbers_kept first alone below reported pairs rest following is = (refl, is.1, is.2, below rest)

leads_none : (first : SheetRepair) (alone : Option NumbersAlone) (reported : List Repair) (pairs : List Pair) (rest : List SheetRepair) → (AreNumbersBelow alone (first ∷ rest) → ⊥) → Lead alone reported pairs
    → IsNoneBelow reported (first ∷ rest)
leads_none first None reported pairs rest following lead r is below = lead
leads_none first (Some a) [] pairs rest following lead r is below = is
leads_none first (Some a) (t ∷ ts) pairs rest following lead r is below =
    let same : cost_in r ≡ cost_in t = ap cost_in is.0 in
    let far = lead.0 in
    following (omega (arith, far, same, below))

pub numbers_near : (first : SheetRepair) (alone : Option NumbersAlone) → ((rest : List SheetRepair) → AreNumbersBelow alone (first ∷ rest) → ⊥) → (reported : List Repair) (pairs : List Pair)
    (rest : List SheetRepair) → (IsSheetAhead first rest reported pairs alone → ⊥) → IsChoice reported true pairs [] alone choice.Numbers → IsChoice reported true pairs (first ∷ rest) alone choice.NearSheet
numbers_near first alone over reported pairs rest following is =
    (refl, (λ e. cc), none_chosen first rest reported pairs alone following, leads_none first alone reported pairs rest (over rest) is.1, over rest)

pub ruleset numbers_beside = (numbers_kept, numbers_near)

pub repair_kept : (repair : Bor Repair) (first : SheetRepair) → cost_in repair.now + 5 ≤ first.cost → (reported : List Repair) (pairs : List Pair) (alone : Option NumbersAlone) (rest : List SheetRepair)
    → (IsSheetAhead first rest reported pairs alone → ⊥) → IsChoice reported true pairs [] alone (choice.Clear repair) → IsChoice reported true pairs (first ∷ rest) alone (choice.Clear repair)
repair_kept repair first far reported pairs alone rest following is = (refl, is.1, is.2, is.3, far)

first_none : (repair : Repair) (first : SheetRepair) (reported : List Repair) (rest : List SheetRepair) → (cost_in repair + 5 ≤ first.cost → ⊥) → IsFirst reported repair → IsNoneBelow reported (first ∷ rest)
first_none repair first [] rest over is r other below = is
first_none repair first (t ∷ ts) rest over is r other below =
    let same : cost_in r ≡ cost_in repair = ap cost_in (other.0 ∙ sym is.0) in
    over (omega (arith, same, below))

numbers_over : (repair : Repair) (first : SheetRepair) (alone : Option NumbersAlone) (rest : List SheetRepair) → (cost_in repair + 5 ≤ first.cost → ⊥) → IsAheadOfNumbers alone repair
    → AreNumbersBelow alone (first ∷ rest) → ⊥
numbers_over repair first None rest over ahead below = below
numbers_over repair first (Some a) rest over ahead below = over (omega (arith, ahead, below))

pub repair_near : (repair : Bor Repair) (first : SheetRepair) → (cost_in repair.now + 5 ≤ first.cost → ⊥) → (reported : List Repair) (pairs : List Pair) (alone : Option NumbersAlone) (rest : List SheetRepair)
    → (IsSheetAhead first rest reported pairs alone → ⊥) → IsChoice reported true pairs [] alone (choice.Clear repair) → IsChoice reported true pairs (first ∷ rest) alone choice.NearSheet
repair_near repair first over reported pairs alone rest following is = (
  refl,
  (λ e. cc),
  none_chosen first rest reported pairs alone following,
  first_none repair.now first reported rest over is.1,
  numbers_over repair.now first alone rest over is.3,
)

pub ruleset repair_beside = (repair_kept, repair_near)

pub open_beside : (first : SheetRepair) (alone : Option NumbersAlone) (reported : List Repair) (pairs : List Pair) (rest : List SheetRepair) → (IsSheetAhead first rest reported pairs alone → ⊥)
    → IsChoice reported true pairs [] alone choice.Open → IsChoice reported true pairs (first ∷ rest) alone choice.Open
open_beside first alone reported pairs rest following (inl unknown) = inl unknown
open_beside first alone reported pairs rest following (inr (inl numbers)) = inr (inl (numbers.0, numbers.1, none_chosen first rest reported pairs alone following))
open_beside first alone reported pairs rest following (inr (inr sheet)) = absurd sheet

pub pair_beside : (first : SheetRepair) (alone : Option NumbersAlone) (reported : List Repair) (pairs : List Pair) (rest : List SheetRepair) → (IsSheetAhead first rest reported pairs alone → ⊥)
    → IsChoice reported true pairs [] alone choice.Pair → IsChoice reported true pairs (first ∷ rest) alone choice.Pair
pair_beside first alone reported pairs rest following is = (refl, is.1, is.2, none_chosen first rest reported pairs alone following)

pub near_beside : (first : SheetRepair) (alone : Option NumbersAlone) (reported : List Repair) (pairs : List Pair) (rest : List SheetRepair) → (IsSheetAhead first rest reported pairs alone → ⊥)
    → IsChoice reported true pairs [] alone choice.NearNumbers → IsChoice reported true pairs (first ∷ rest) alone choice.NearNumbers
near_beside first alone reported pairs rest following is = (refl, is.1, is.2, none_chosen first rest reported pairs alone following)

pub close_beside : (first : SheetRepair) (alone : Option NumbersAlone) (reported : List Repair) (pairs : List Pair) (rest : List SheetRepair) → (IsSheetAhead first rest reported pairs alone → ⊥)
    → IsChoice reported true pairs [] alone choice.Close → IsChoice reported true pairs (first ∷ rest) alone choice.Close
close_beside first alone reported pairs rest following is = (refl, is.1, none_chosen first rest reported pairs alone following)

pub no_sheet : (s : Bor SheetRepair) (alone : Option NumbersAlone) (reported : List Repair) (pairs : List Pair) (sheets : List SheetRepair) (what : Choice) → IsChoice reported true pairs [] alone (choice.Sheet s)
    → IsChoice reported true pairs sheets alone what
no_sheet s alone reported pairs sheets what is = absurd is.1.0

pub no_near : (alone : Option NumbersAlone) (reported : List Repair) (pairs : List Pair) (sheets : List SheetRepair) (what : Choice) → IsChoice reported true pairs [] alone choice.NearSheet
    → IsChoice reported true pairs sheets alone what
no_near alone reported pairs sheets what is = absurd (is.1 refl)

pub ruleset choice_beside = (none_beside, open_beside, pair_beside, near_beside, close_beside, no_sheet, no_near)

-- ---- the likely one

pub change_likely : (alone : Option NumbersAlone) (reported : List Repair) (known : Bool) (pairs : List Pair) (sheets : List SheetRepair) (repair : Bor Repair) (likely : Option Likely)
    → IsChoice reported known pairs sheets alone (choice.Clear repair) → IsFirstChange reported likely → IsLikelyOf alone reported known pairs sheets likely
change_likely alone [] known pairs sheets repair likely is first = absurd is.1
change_likely alone (t ∷ ts) known pairs sheets repair likely is first =
    let far : IsFarFirst alone (t ∷ ts) known pairs sheets repair.now = is in
    subst (λ (l : Option Likely). IsLikelyOf alone (t ∷ ts) known pairs sheets l) (sym first) (subst (λ (r : Repair). IsFarFirst alone (t ∷ ts) known pairs sheets r) is.1.0 far)

pub sheet_likely : (alone : Option NumbersAlone) (reported : List Repair) (known : Bool) (pairs : List Pair) (sheets : List SheetRepair) (s : Bor SheetRepair) (likely : Option Likely)
    → IsChoice reported known pairs sheets alone (choice.Sheet s) → IsFirstSheet sheets likely → IsLikelyOf alone reported known pairs sheets likely
sheet_likely alone reported known pairs [] s likely is first = absurd is.1.0
sheet_likely alone reported known pairs (t ∷ ts) s likely is first =
    let chosen : IsSheetChosen reported pairs alone (t ∷ ts) s.now = is.1 in
    subst (λ (l : Option Likely). IsLikelyOf alone reported known pairs (t ∷ ts) l) (sym first)
    (is.0, subst (λ (r : SheetRepair). IsSheetChosen reported pairs alone (t ∷ ts) r) chosen.0.0 chosen)

lead_none : (alone : Option NumbersAlone) (reported : List Repair) (pairs : List Pair) (r : Repair) → Lead alone reported pairs → IsFirst reported r → IsAheadOfNumbers alone r → ⊥
lead_none None reported pairs r lead is ahead = lead
lead_none (Some a) [] pairs r lead is ahead = is
lead_none (Some a) (t ∷ ts) pairs r lead is ahead =
    let same : cost_in r ≡ cost_in t = ap cost_in is.0 in
    let far = lead.0 in
    omega (arith, far, same, ahead)

below_none : (alone : Option NumbersAlone) (reported : List Repair) (pairs : List Pair) (sheets : List SheetRepair) → AreNumbersBelow alone sheets → IsNoneChosen reported pairs alone sheets
below_none None reported pairs sheets below s is = below
below_none (Some a) reported pairs [] below s is = is.0
below_none (Some a) reported pairs (t ∷ ts) below s is = let far = is.0.1.3 in omega (arith, far, below)

pub none_none : (alone : Option NumbersAlone) (reported : List Repair) (known : Bool) (pairs : List Pair) (sheets : List SheetRepair) → IsChoice reported known pairs sheets alone choice.None
    → IsLikelyOf alone reported known pairs sheets None
none_none alone reported known pairs sheets is =
    record {
      change = λ r far. subst (λ (rs : List Repair). IsFirst rs r) is.1 far.1;
      sheet = λ none s chosen. subst (λ (ss : List SheetRepair). IsSheetFirst reported pairs alone ss s) is.3 chosen.0;
    }

open_sheets : (reported : List Repair) (pairs : List Pair) (alone : Option NumbersAlone) (sheets : List SheetRepair) → IsSheetOpen reported pairs alone sheets → IsNoneBelow reported sheets
open_sheets reported pairs alone [] is = absurd is
open_sheets reported pairs alone (first ∷ rest) is = none_below first rest reported pairs alone is.0

open_chosen : (reported : List Repair) (pairs : List Pair) (alone : Option NumbersAlone) (sheets : List SheetRepair) → IsSheetOpen reported pairs alone sheets → IsNoneChosen reported pairs alone sheets
open_chosen reported pairs alone [] is s chosen = is
open_chosen reported pairs alone (first ∷ rest) is s chosen = cc (sym chosen.1 ∙ ap (λ (x : SheetRepair). x.alone.is_game) chosen.0.0 ∙ is.1)

pub none_open : (alone : Option NumbersAlone) (reported : List Repair) (known : Bool) (pairs : List Pair) (sheets : List SheetRepair) → IsChoice reported known pairs sheets alone choice.Open
    → IsLikelyOf alone reported known pairs sheets None
none_open alone reported known pairs sheets (inl some) = record { change = λ r far. some far.0; sheet = λ none s chosen. some none }
none_open alone reported known pairs sheets (inr (inl numbers)) = record { change = λ r far. lead_none alone reported pairs r numbers.0 far.1 far.3; sheet = λ none. numbers.2 }
none_open alone reported known pairs sheets (inr (inr sheet)) =
    record { change = λ r far. open_sheets reported pairs alone sheets sheet r far.1 far.4; sheet = λ none. open_chosen reported pairs alone sheets sheet }

pub none_numbers : (alone : Option NumbersAlone) (reported : List Repair) (known : Bool) (pairs : List Pair) (sheets : List SheetRepair) → IsChoice reported known pairs sheets alone choice.Numbers
    → IsLikelyOf alone reported known pairs sheets None
none_numbers alone reported known pairs sheets is =
    record { change = λ r far. lead_none alone reported pairs r is.1 far.1 far.3; sheet = λ none. below_none alone reported pairs sheets is.3 }

pub none_pair : (alone : Option NumbersAlone) (reported : List Repair) (known : Bool) (pairs : List Pair) (sheets : List SheetRepair) → IsChoice reported known pairs sheets alone choice.Pair
    → IsLikelyOf alone reported known pairs sheets None
none_pair alone [] known pairs sheets is = record { change = λ r far. far.1; sheet = λ none. is.3 }
none_pair alone (t ∷ ts) known pairs sheets is =
    record { change = λ r far. far.2 (subst (λ (x : Repair). HasRival x pairs) (sym far.1.0) is.2); sheet = λ none. is.3 }

pub none_near_numbers : (alone : Option NumbersAlone) (reported : List Repair) (known : Bool) (pairs : List Pair) (sheets : List SheetRepair) → IsChoice reported known pairs sheets alone choice.NearNumbers
    → IsLikelyOf alone reported known pairs sheets None
none_near_numbers alone [] known pairs sheets is = record { change = λ r far. far.1; sheet = λ none. is.3 }
none_near_numbers alone (t ∷ ts) known pairs sheets is =
    record { change = λ r far. is.2 (subst (λ (x : Repair). IsAheadOfNumbers alone x) far.1.0 far.3); sheet = λ none. is.3 }

pub none_close : (alone : Option NumbersAlone) (reported : List Repair) (known : Bool) (pairs : List Pair) (sheets : List SheetRepair) → IsChoice reported known pairs sheets alone choice.Close
    → IsLikelyOf alone reported known pairs sheets None
none_close alone [] known pairs sheets is = record { change = λ r far. far.1; sheet = λ none. is.2 }
none_close alone (t ∷ ts) known pairs sheets is = record { change = λ r far. is.1 far.1.1; sheet = λ none. is.2 }

pub none_near : (alone : Option NumbersAlone) (reported : List Repair) (known : Bool) (pairs : List Pair) (sheets : List SheetRepair) → IsChoice reported known pairs sheets alone choice.NearSheet
    → IsLikelyOf alone reported known pairs sheets None
none_near alone reported known pairs sheets is = record { change = λ r far. is.3 r far.1 far.4; sheet = λ none. is.2 }

pub ruleset likely_so = (change_likely, sheet_likely, none_none, none_open, none_numbers, none_pair, none_near_numbers, none_close, none_near)

-- ---- the same lists

pub whole : {A : Type 0} (xs : List A) (x : A) → x ≡ get_or xs 0 x → 1 ≤ length xs → xs ≡ x ∷ take (length xs - 1) (drop 1 xs)
whole [] x is some = absurd (omega (arith, some))
whole {A} (y ∷ ys) x is some =
    let all : take (length (y ∷ ys) - 1) ys ≡ ys = take_all (length (y ∷ ys) - 1) ys (omega arith) in
    ap (λ (z : A). z ∷ ys) (sym is) ∙ ap (λ (zs : List A). x ∷ zs) (sym all)

pub same_choice : (reported shown : List Repair) (known : Bool) (pairs : List Pair) (sheets parts : List SheetRepair) (alone : Option NumbersAlone) (what : Choice) → shown ≡ reported → known ≡ true
    → sheets ≡ parts → IsChoice shown true pairs parts alone what → IsChoice reported known pairs sheets alone what
same_choice reported shown known pairs sheets parts alone what same all whole_one is =
    subst (λ (rs : List Repair). IsChoice rs known pairs sheets alone what) same
    (subst (λ (k : Bool). IsChoice shown k pairs sheets alone what) (sym all) (subst (λ (ss : List SheetRepair). IsChoice shown true pairs ss alone what) (sym whole_one) is))
