-- Steps that show only a part of what others show.
use Rattle.std.proofs.Common.{◌≡◌, ℕ, zero, suc, ◌+◌, ◌<◌, List, [], ◌∷◌, ◌++◌, length, take, get_or, slice_get, Some, refl, sym, subst, add-one, arith, inl, inr}
use Rattle.std.proofs.lemmas.Bool.{cases_lt}
use Rattle.std.proofs.lemmas.List.{get_or_past}
use Rattle.std.proofs.lemmas.Option.{none-some, same_Some, slice_get_read}
use Rattle.ref_tiles.specs.Counting.{no_tiles, IsContainedIn}
use Rattle.deal_steps.specs.declared.steps.Motion.{Motion}
use Rattle.deal_steps.specs.declared.steps.Act.{Act}
use Rattle.deal_steps.specs.declared.steps.Act.TheVariants as act
use Rattle.deal_steps.specs.declared.steps.Step.{Step}
use Rattle.deal_steps.specs.Piles.{without}
use Rattle.deal_steps.proofs.PileLaws.{get-without, get-no_tiles, length-without, length-no_tiles}
use Rattle.explain_facts.specs.Deals.{ReportsPart, IsPartOf, ArePartsOf}

-- what is left of some tiles is among them
pub without_part : (a b : List ℕ) → IsContainedIn (without a b) a
without_part a b k = elim (cases_lt k 27) [
  | inl below ↦ let same = get-without a b k below in omega (arith, same)
  | inr past ↦ let same = get_or_past (without a b) k 0 (rw (length-without a b) past) in omega (arith, same)
]

pub none_part : (a : List ℕ) → IsContainedIn no_tiles a
none_part a k = elim (cases_lt k 27) [
  | inl below ↦ let same = get-no_tiles k below in omega (arith, same)
  | inr past ↦ let same = get_or_past no_tiles k 0 (rw length-no_tiles past) in omega (arith, same)
]

-- a turn that states what is left of its tiles, and one that states none
pub turn_without : (whole : Act) (shown others some : List ℕ) (what : Motion) → whole ≡ act.Turns shown what → some ≡ without shown others → ReportsPart (act.Turns some what) whole
turn_without whole shown others some what is same =
    subst (ReportsPart (act.Turns some what)) (sym is) (some, subst (λ t. IsContainedIn t shown) (sym same) (without_part shown others), refl)

pub turn_silent : (whole : Act) (shown some : List ℕ) (what : Motion) → whole ≡ act.Turns shown what → some ≡ no_tiles → ReportsPart (act.Turns some what) whole
turn_silent whole shown some what is same =
    subst (ReportsPart (act.Turns some what)) (sym is) (some, subst (λ t. IsContainedIn t shown) (sym same) (none_part shown), refl)

-- one more step
pub parts_push : (less steps : List Step) (k : ℕ) (l s : Step) → ArePartsOf less (take k steps) → slice_get steps k ≡ Some s → IsPartOf l s → ArePartsOf (less ++ l ∷ []) (take (suc k) steps)
parts_push less [] k l s parts there is = absurd (none-some s there)
parts_push [] (t ∷ steps) zero l s parts there is = (subst (λ x. IsPartOf l x) (sym (same_Some t s there)) is, tt)
parts_push [] (t ∷ steps) (suc k) l s parts there is = absurd parts
parts_push (m ∷ less) (t ∷ steps) zero l s parts there is = absurd parts
parts_push (m ∷ less) (t ∷ steps) (suc k) l s parts there is = (parts.0, parts_push less steps k l s parts.1 there is)

pub parts_next : (less steps items : List Step) (k : ℕ) (l s : Step) → ArePartsOf less (take k steps) → k < length steps → s ≡ get_or steps k s → IsPartOf l s
    → items ≡ less ++ l ∷ [] → ArePartsOf items (take (k + 1) steps)
parts_next less steps items k l s parts inside is part all =
    let there = slice_get_read steps (length steps) k s refl inside is in
    subst (λ n. ArePartsOf items (take n steps)) (sym (add-one k)) (subst (λ x. ArePartsOf x (take (suc k) steps)) (sym all) (parts_push less steps k l s parts there part))
