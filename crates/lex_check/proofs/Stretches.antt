-- Stretches of paths in order, and the step to the paths that continue with a label.
use Rattle.std.proofs.Common.{◌≡◌, ◌≢◌, ℕ, ◌+◌, ◌-◌, ◌<◌, ◌≤◌, Bool, true, false, cond, ltb, eqb, List, [], ◌∷◌, length, get_or, length-drop, add-one, inl, inr, ◌⊎◌, refl, sym, ap, ◌∙◌, arith}
use Rattle.std.proofs.Math.Seq.{drop-cons}
use Rattle.std.proofs.lemmas.Bool.{and_parts, ltb-true, eqb-true, eq-eqb, eqb-false, cases_lt}
use Rattle.std.proofs.lemmas.Map.Keys.{Less-from_sorted}
use Rattle.std.specs.Cmp.Lexicographic.{slice_cmp}
use Rattle.std.specs.Ordering.{nat_cmp, ordering_then}
use Rattle.std.specs.declared.cmp.Ordering.TheVariants.{Less, Equal, Greater}
use Rattle.lex_file.specs.Lexicons.{is_label, IsAfter}
use Rattle.lex_check.specs.Orders.{IsBefore}
use Rattle.lex_check.specs.declared.sorted.Stretch.{Stretch}
use Rattle.lex_check.specs.Stretches.{label_at, remaining_at, IsStretch, IsPartWith, IsPlaceFrom, IsBelow, IsPartFrom, height_of, stretch_tail, ends_at, is_remaining, is_one_of, IsPathList}
use Rattle.lex_check.specs.laws.Stretches.{IsRemaining, tail_to, tail_none}
use Rattle.lex_check.proofs.RemainingStrings.{tail_from}

-- what is left of a path begins with its label at the depth
pub remaining_cons : (paths : List (List ℕ)) (depth place : ℕ) → depth < length (get_or paths place [])
    → remaining_at paths depth place ≡ label_at paths depth place ∷ remaining_at paths (depth + 1) place
remaining_cons paths depth place long = drop-cons (get_or paths place []) depth 0 long ∙ rw add-one refl

before_heads : (a b : ℕ) (xs ys : List ℕ) → IsBefore (a ∷ xs) (b ∷ ys) → a ≤ b
before_heads a b xs ys (inl lt) = omega arith
before_heads a b xs ys (inr (same, _)) = omega arith

before_tails : (a b : ℕ) (xs ys : List ℕ) → a ≡ b → IsBefore (a ∷ xs) (b ∷ ys) → IsBefore xs ys
before_tails a b xs ys same (inl lt) = absurd (omega arith)
before_tails a b xs ys same (inr (_, before)) = before

empty_of_length : (xs : List ℕ) → length xs ≡ 0 → xs ≡ []
empty_of_length [] e = refl
empty_of_length (x ∷ xs) e = absurd (omega arith)

before_long : (xs ys : List ℕ) → IsBefore xs ys → 0 < length ys
before_long xs [] before = absurd before
before_long xs (y ∷ ys) before = omega arith

-- the labels of a stretch at its depth rise
pub labels_rise : (paths : List (List ℕ)) (stretch : Stretch) → IsStretch paths stretch → (one other : ℕ) → stretch.low ≤ one → one ≤ other → other < stretch.high
    → label_at paths stretch.depth one ≤ label_at paths stretch.depth other
labels_rise paths stretch is one other from le to = elim (cases_lt one other) [
  | inl lt ↦
      let before = is.rising one other from lt to in
      let here = remaining_cons paths stretch.depth one (is.long one from (omega arith)) in
      let there = remaining_cons paths stretch.depth other (is.long other (omega arith) to) in
      before_heads (label_at paths stretch.depth one) (label_at paths stretch.depth other) _ _ (rw there at (rw here at before))
  | inr more ↦ let same : one ≡ other = omega arith in rw same (omega arith)
]

-- labels are below 27
pub label_below : (paths : List (List ℕ)) (stretch : Stretch) → IsStretch paths stretch → (place : ℕ) → stretch.low ≤ place → place < stretch.high
    → label_at paths stretch.depth place < 27
label_below paths stretch is place from to =
    let here = remaining_cons paths stretch.depth place (is.long place from to) in
    let all = rw here at (is.labels place from to) in
    ltb-true (label_at paths stretch.depth place) 27 (and_parts (is_label (label_at paths stretch.depth place)) _ all).0

-- part of a stretch
pub part_is : (paths : List (List ℕ)) (stretch : Stretch) (low high : ℕ) → IsStretch paths stretch → stretch.low ≤ low → low ≤ high → high ≤ stretch.high
    → IsStretch paths (record { low = low; high = high; depth = stretch.depth })
part_is paths stretch low high is from order to =
    let inside = is.inside in
    record {
      order = order;
      inside = omega arith;
      long = λ place a b. is.long place (omega arith) (omega arith);
      few = λ place a b. is.few place (omega arith) (omega arith);
      labels = λ place a b. is.labels place (omega arith) (omega arith);
      rising = λ one other a b c. is.rising one other (omega arith) b (omega arith);
    }

-- ---- binary search

pub lower_part : (paths : List (List ℕ)) (stretch : Stretch) (label mid : ℕ) → IsStretch paths stretch → mid < stretch.high
    → label_at paths stretch.depth mid < label
    → (place : ℕ) → stretch.low ≤ place → place < mid + 1 → label_at paths stretch.depth place < label
lower_part paths stretch label mid is to lower place from lt = let rise = labels_rise paths stretch is place mid from (omega arith) to in omega arith

pub upper_part : (paths : List (List ℕ)) (stretch : Stretch) (label mid : ℕ) → IsStretch paths stretch → stretch.low ≤ mid
    → label ≤ label_at paths stretch.depth mid
    → (place : ℕ) → mid ≤ place → place < stretch.high → label ≤ label_at paths stretch.depth place
upper_part paths stretch label mid is from upper place le lt = let rise = labels_rise paths stretch is mid place from le lt in omega arith

-- ---- the first place with a label or a higher one

pub place_empty : (paths : List (List ℕ)) (stretch : Stretch) (label : ℕ) → stretch.low ≡ stretch.high → IsPlaceFrom paths stretch label stretch.low
place_empty paths stretch label same = record {
  from = omega arith;
  to = omega arith;
  before = λ other a b. absurd (omega arith);
  following = λ other a b. absurd (omega arith);
}

pub place_first : (paths : List (List ℕ)) (stretch : Stretch) (label : ℕ) → IsStretch paths stretch → label ≤ label_at paths stretch.depth stretch.low
    → IsPlaceFrom paths stretch label stretch.low
place_first paths stretch label is le =
    let order = is.order in
    record {
      from = omega arith;
      to = order;
      before = λ other a b. absurd (omega arith);
      following = λ other a b. let rise = labels_rise paths stretch is stretch.low other (omega arith) a b in omega arith;
    }

pub place_none : (paths : List (List ℕ)) (stretch : Stretch) (label : ℕ) → IsStretch paths stretch → stretch.low ≢ stretch.high
    → label_at paths stretch.depth (stretch.high - 1) < label → IsPlaceFrom paths stretch label stretch.high
place_none paths stretch label is some lt =
    let order = is.order in
    record {
      from = order;
      to = omega arith;
      before = λ other a b. let rise = labels_rise paths stretch is other (stretch.high - 1) a (omega arith) (omega arith) in omega arith;
      following = λ other a b. absurd (omega arith);
    }

-- ---- the part with a label

pub part_none : (paths : List (List ℕ)) (stretch : Stretch) (label : ℕ) → IsStretch paths stretch
    → ((place : ℕ) → stretch.low ≤ place → place < stretch.high → label_at paths stretch.depth place ≡ label → ⊥)
    → IsPartWith paths stretch label stretch.low stretch.low
part_none paths stretch label is none =
    let order = is.order in
    record {
      from = omega arith;
      order = omega arith;
      to = order;
      all = λ place from to. absurd (omega arith);
      only = λ place from to same. absurd (none place from to same);
    }

pub part_between : (paths : List (List ℕ)) (stretch : Stretch) (label low high : ℕ) → IsStretch paths stretch
    → stretch.low ≤ low → low ≤ high → high ≤ stretch.high
    → ((place : ℕ) → stretch.low ≤ place → place < low → label_at paths stretch.depth place < label)
    → ((place : ℕ) → low ≤ place → place < stretch.high → label ≤ label_at paths stretch.depth place)
    → ((place : ℕ) → low ≤ place → place < high → label_at paths stretch.depth place < label + 1)
    → ((place : ℕ) → high ≤ place → place < stretch.high → label + 1 ≤ label_at paths stretch.depth place)
    → IsPartWith paths stretch label low high
part_between paths stretch label low high is from order to before following before_next after_next = record {
  from = from;
  order = order;
  to = to;
  all = λ place a b. let h = following place a (omega arith) in let k = before_next place a b in omega arith;
  only = only;
}
  where
    only : (place : ℕ) → stretch.low ≤ place → place < stretch.high → label_at paths stretch.depth place ≡ label → (low ≤ place) × (place < high)
    only place a b same =
        let above : low ≤ place = elim (cases_lt place low) [
          | inl lt ↦ let h = before place a lt in absurd (omega arith)
          | inr le ↦ le
        ] in
        let below : place < high = elim (cases_lt place high) [
          | inl lt ↦ lt
          | inr le ↦ let h = after_next place le b in absurd (omega arith)
        ] in
        (above, below)

-- a place that is the stretch's end has all paths before it
pub below_all : (paths : List (List ℕ)) (stretch : Stretch) (label place : ℕ) → IsPlaceFrom paths stretch label place → place ≡ stretch.high
    → IsBelow paths stretch label
below_all paths stretch label place at same = λ other from to. at.before other from (omega arith)

-- the part from the first place with `from` or a higher label, up to the first place with a label above the one there
pub part_from : (paths : List (List ℕ)) (stretch : Stretch) (from label low high : ℕ) → IsStretch paths stretch → IsPlaceFrom paths stretch from low
    → low ≢ stretch.high → label ≡ label_at paths stretch.depth low
    → IsPlaceFrom paths (record { low = low; high = stretch.high; depth = stretch.depth }) (label + 1) high
    → IsPartFrom paths stretch from label low high
part_from paths stretch from label low high is start some here end =
    let below = start.from in
    let above = start.to in
    let past = end.from in
    let inside = end.to in
    let reached = start.following low (omega arith) (omega arith) in
    let high_some : low < high = elim (cases_lt low high) [
      | inl lt ↦ lt
      | inr le ↦ let h = end.following low (omega arith) (omega arith) in absurd (omega arith)
    ] in
    record {
      with = part_between paths stretch label low high is below past inside
          (λ place a b. let h = start.before place a b in omega arith)
          (λ place a b. let rise = labels_rise paths stretch is low place below a b in omega arith)
          end.before end.following;
      some = high_some;
      reached = omega arith;
      before = start.before;
    }

-- ---- the step

part_label : (paths : List (List ℕ)) (stretch : Stretch) (label low high : ℕ) → IsStretch paths stretch → IsPartWith paths stretch label low high
    → (place : ℕ) → low ≤ place → place < high → remaining_at paths stretch.depth place ≡ label ∷ remaining_at paths (stretch.depth + 1) place
part_label paths stretch label low high is with place from to =
    let below = with.from in
    let above = with.to in
    let here = remaining_cons paths stretch.depth place (is.long place (omega arith) (omega arith)) in
    here ∙ ap (λ (l : ℕ). l ∷ remaining_at paths (stretch.depth + 1) place) (with.all place from to)

-- a string that begins with the label is left only of a path of the part
pub in_part : (paths : List (List ℕ)) (stretch : Stretch) (label low high : ℕ) → IsStretch paths stretch → IsPartWith paths stretch label low high
    → (rest : List ℕ) → IsRemaining paths stretch.depth (label ∷ rest) stretch.low stretch.high → IsRemaining paths (stretch.depth + 1) rest low high
in_part paths stretch label low high is with rest at =
    let here = remaining_cons paths stretch.depth at.place (is.long at.place at.from at.to) in
    let both = at.remaining ∙ here in
    let same : label ≡ label_at paths stretch.depth at.place = cc in
    let inside = with.only at.place at.from at.to (sym same) in
    record { place = at.place; from = inside.0; to = inside.1; remaining = cc }

pub of_part : (paths : List (List ℕ)) (stretch : Stretch) (label low high : ℕ) → IsStretch paths stretch → IsPartWith paths stretch label low high
    → (rest : List ℕ) → IsRemaining paths (stretch.depth + 1) rest low high → IsRemaining paths stretch.depth (label ∷ rest) stretch.low stretch.high
of_part paths stretch label low high is with rest at =
    record {
      place = at.place;
      from = omega arith;
      to = omega arith;
      remaining = ap (λ (r : List ℕ). label ∷ r) at.remaining ∙ sym (part_label paths stretch label low high is with at.place at.from at.to);
    }

-- after the first path of a part, each path has a further label
pub long_after : (paths : List (List ℕ)) (stretch : Stretch) (label low high : ℕ) → IsStretch paths stretch → IsPartWith paths stretch label low high
    → (place : ℕ) → low < place → place < high → stretch.depth + 1 < length (get_or paths place [])
long_after paths stretch label low high is with place from to =
    let below = with.from in
    let above = with.to in
    let before = is.rising low place below from (omega arith) in
    let first = part_label paths stretch label low high is with low (omega arith) (omega arith) in
    let here = part_label paths stretch label low high is with place (omega arith) to in
    let long = before_long _ _ (before_tails label label _ _ refl (rw here at (rw first at before))) in
    let size = length-drop (stretch.depth + 1) (get_or paths place []) in
    omega arith

-- the stretch one label deeper
pub deeper_is : (paths : List (List ℕ)) (stretch : Stretch) (label low high next : ℕ) → IsStretch paths stretch → IsPartWith paths stretch label low high
    → low ≤ next → next ≤ high → (next ≡ low → stretch.depth + 1 < length (get_or paths low []))
    → IsStretch paths (record { low = next; high = high; depth = stretch.depth + 1 })
deeper_is paths stretch label low high next is with le order first =
    let below = with.from in
    let above = with.to in
    let inside = is.inside in
    record {
      order = order;
      inside = omega arith;
      long = long;
      few = λ place a b. is.few place (omega arith) (omega arith);
      labels = λ place a b.
          let here = part_label paths stretch label low high is with place (omega arith) b in
          (and_parts (is_label label) _ (rw here at (is.labels place (omega arith) (omega arith)))).1;
      rising = λ one other a b c.
          let here = part_label paths stretch label low high is with one (omega arith) (omega arith) in
          let there = part_label paths stretch label low high is with other (omega arith) c in
          before_tails label label _ _ refl (rw there at (rw here at (is.rising one other (omega arith) b (omega arith))));
    }
  where
    long : (place : ℕ) → next ≤ place → place < high → stretch.depth + 1 < length (get_or paths place [])
    long place a b = elim (cases_lt low place) [
      | inl lt ↦ long_after paths stretch label low high is with place lt b
      | inr same ↦
          let e : place ≡ low = omega arith in
          rw e (first (omega arith))
    ]

pub same_tests : (x y : Bool) → (x ≡ true → y ≡ true) → (y ≡ true → x ≡ true) → x ≡ y
same_tests true y h k = sym (h refl)
same_tests false true h k = k refl
same_tests false false h k = refl

pub step_none : (paths : List (List ℕ)) (stretch : Stretch) (label low high : ℕ) → IsStretch paths stretch → IsPartWith paths stretch label low high
    → low ≡ high → (rest : List ℕ) → stretch_tail paths stretch (label ∷ rest) ≡ false
step_none paths stretch label low high is with none rest =
    tail_none paths stretch (label ∷ rest) is (λ at.
    let there = in_part paths stretch label low high is with rest at in
    let from = there.from in
    let to = there.to in
    omega arith)

pub step_accepts : (paths : List (List ℕ)) (stretch : Stretch) (label low high : ℕ) → IsStretch paths stretch → IsPartWith paths stretch label low high
    → low < high → ends_at paths (stretch.depth + 1) low ≡ stretch_tail paths stretch (label ∷ [])
step_accepts paths stretch label low high is with some = same_tests _ _ from_length to_length
  where
    from_length : ends_at paths (stretch.depth + 1) low ≡ true → stretch_tail paths stretch (label ∷ []) ≡ true
    from_length e =
        let size = eqb-true _ _ e in
        let remaining = length-drop (stretch.depth + 1) (get_or paths low []) in
        let none = empty_of_length (remaining_at paths (stretch.depth + 1) low) (omega arith) in
        tail_from paths stretch (label ∷ []) is
        (of_part paths stretch label low high is with [] (record { place = low; from = omega arith; to = some; remaining = sym none }))

    to_length : stretch_tail paths stretch (label ∷ []) ≡ true → ends_at paths (stretch.depth + 1) low ≡ true
    to_length e =
        let at = in_part paths stretch label low high is with [] (tail_to paths stretch (label ∷ []) is e) in
        let size = ap length at.remaining in
        let remaining = length-drop (stretch.depth + 1) (get_or paths at.place []) in
        let from = at.from in
        let low_in = with.from in
        let high_in = with.to in
        let long = is.long low low_in (omega arith) in
        let here : at.place ≡ low = elim (cases_lt low at.place) [
          | inl lt ↦ let more = long_after paths stretch label low high is with at.place lt at.to in absurd (omega arith)
          | inr le ↦ omega arith
        ] in
        let remaining_low = rw here at remaining in
        let size_low = rw here at size in
        let all : length (get_or paths low []) ≡ stretch.depth + 1 = omega arith in
        eq-eqb _ _ all

-- a path of a part is longer than the depth
pub part_long : (paths : List (List ℕ)) (stretch : Stretch) (label low high : ℕ) → IsStretch paths stretch → IsPartWith paths stretch label low high
    → low < high → ends_at paths (stretch.depth + 1) low ≡ false → stretch.depth + 1 < length (get_or paths low [])
part_long paths stretch label low high is with some e =
    let from = with.from in
    let to = with.to in
    let long = is.long low from (omega arith) in
    let other = eqb-false _ _ e in
    let apart : length (get_or paths low []) ≢ stretch.depth + 1 = other in
    omega arith

-- what follows the paths that end with the label
module _ (paths : List (List ℕ)) (stretch : Stretch) (label low high next : ℕ) (is : IsStretch paths stretch) (with : IsPartWith paths stretch label low high)
    (le : low ≤ next) (short : (place : ℕ) → low ≤ place → place < next → length (get_or paths place []) ≡ stretch.depth + 1) where
  following : (after : ℕ) (rest : List ℕ) → IsRemaining paths stretch.depth (label ∷ after ∷ rest) stretch.low stretch.high
      → IsRemaining paths (stretch.depth + 1) (after ∷ rest) next high
  following after rest at =
      let there = in_part paths stretch label low high is with (after ∷ rest) at in
      let from : next ≤ there.place = elim (cases_lt there.place next) [
        | inl lt ↦
            let size = ap length there.remaining in
            let remaining = length-drop (stretch.depth + 1) (get_or paths there.place []) in
            let all = short there.place there.from lt in
            absurd (omega arith)
        | inr more ↦ more
      ] in
      record { place = there.place; from = from; to = there.to; remaining = there.remaining }

  pub step_ends : high ≤ next → (after : ℕ) (rest : List ℕ) → stretch_tail paths stretch (label ∷ after ∷ rest) ≡ false
  step_ends past after rest =
      tail_none paths stretch (label ∷ after ∷ rest) is (λ at.
      let there = following after rest at in
      let from = there.from in
      let to = there.to in
      omega arith)

  pub step_next : next < high → (next ≡ low → stretch.depth + 1 < length (get_or paths low []))
      → IsAfter (IsStretch paths) (stretch_tail paths) height_of stretch label (record { low = next; high = high; depth = stretch.depth + 1 })
  step_next some first =
      let node = deeper_is paths stretch label low high next is with le (omega arith) first in
      let long = node.long next (omega arith) some in
      let few = node.few next (omega arith) some in
      let here = remaining_cons paths (stretch.depth + 1) next long in
      record {
        node = node;
        tails = λ after rest.
            same_tests _ _
            (λ e. tail_from paths (record { low = next; high = high; depth = stretch.depth + 1 }) (after ∷ rest) node (following after rest (tail_to paths stretch (label ∷ after ∷ rest) is e)))
            (λ e.
            let at = tail_to paths (record { low = next; high = high; depth = stretch.depth + 1 }) (after ∷ rest) node e in
            let from = at.from in
            tail_from paths stretch (label ∷ after ∷ rest) is
            (of_part paths stretch label low high is with (after ∷ rest) (record { place = at.place; from = omega arith; to = at.to; remaining = at.remaining })));
        some = (
          label_at paths (stretch.depth + 1) next,
          remaining_at paths (stretch.depth + 1 + 1) next,
          tail_from paths (record { low = next; high = high; depth = stretch.depth + 1 }) _ node (record { place = next; from = omega arith; to = some; remaining = sym here }),
        );
        falls = omega arith;
      }

-- ---- the branch

-- no tail begins with a label that no path of the stretch has at the depth
pub no_tail : (paths : List (List ℕ)) (stretch : Stretch) (label : ℕ) → IsStretch paths stretch
    → ((place : ℕ) → stretch.low ≤ place → place < stretch.high → label_at paths stretch.depth place ≡ label → ⊥)
    → (rest : List ℕ) → stretch_tail paths stretch (label ∷ rest) ≡ false
no_tail paths stretch label is none = step_none paths stretch label stretch.low stretch.low is (part_none paths stretch label is none) refl

pub branch_none : (paths : List (List ℕ)) (stretch : Stretch) (from : ℕ) → IsStretch paths stretch → IsBelow paths stretch from
    → (label : ℕ) → from ≤ label → (rest : List ℕ) → stretch_tail paths stretch (label ∷ rest) ≡ false
branch_none paths stretch from is below label le =
    no_tail paths stretch label is (λ place a b same. let h = below place a b in omega arith)

pub branch_passed : (paths : List (List ℕ)) (stretch : Stretch) (from found low high : ℕ) → IsStretch paths stretch
    → IsPartFrom paths stretch from found low high
    → (label : ℕ) → from ≤ label → label < found → (rest : List ℕ) → stretch_tail paths stretch (label ∷ rest) ≡ false
branch_passed paths stretch from found low high is part label le lt =
    let with = part.with in
    let some = part.some in
    let below = with.from in
    let above = with.to in
    no_tail paths stretch label is (λ place a b same.
    elim (cases_lt place low) [
      | inl before ↦ let h = part.before place a before in omega arith
      | inr following ↦
          let rise = labels_rise paths stretch is low place below following b in
          let here = with.all low (omega arith) some in
          omega arith
    ])

-- ---- the whole list

less_before : (xs ys : List ℕ) → slice_cmp nat_cmp xs ys ≡ Less → IsBefore xs ys
less_before [] [] e = absurd (cc)
less_before (x ∷ xs) [] e = absurd (cc)
less_before [] (y ∷ ys) e = tt
less_before (x ∷ xs) (y ∷ ys) e = by (ltb x y) (eqb x y) refl refl e (less_before xs ys)
  where
    by : (lt same : Bool) → ltb x y ≡ lt → eqb x y ≡ same → ordering_then (cond lt Less (cond same Equal Greater)) (slice_cmp nat_cmp xs ys) ≡ Less
        → (slice_cmp nat_cmp xs ys ≡ Less → IsBefore xs ys) → (x < y) ⊎ ((x ≡ y) × IsBefore xs ys)
    by true same a b h more = inl (ltb-true x y a)
    by false true a b h more = inr (eqb-true x y b, more h)
    by false false a b h more = absurd (cc)

pub root_is : (paths : List (List ℕ)) → IsPathList paths → IsStretch paths (record { low = 0; high = length paths; depth = 0 })
root_is paths list = record {
  order = omega arith;
  inside = omega arith;
  long = λ place a b. (list.each place b).some;
  few = λ place a b. (list.each place b).few;
  labels = λ place a b. (list.each place b).labels;
  rising = λ one other a b c. less_before _ _ (Less-from_sorted (slice_cmp nat_cmp) paths one other [] list.ordered b c);
}

pub root_tails : (paths : List (List ℕ)) (string : List ℕ) → stretch_tail paths (record { low = 0; high = length paths; depth = 0 }) string ≡ is_one_of paths string
root_tails paths string =
    let all : length paths - 0 ≡ length paths = omega arith in
    ap (is_remaining paths 0 string 0) all

-- where the paths of a part that do not end with the label begin
pub record IsRest (paths : List (List ℕ)) (depth low high next : ℕ) : Type 0 where
  pub le : low ≤ next
  pub order : next ≤ high
  pub short : (place : ℕ) → low ≤ place → place < next → length (get_or paths place []) ≡ depth
  pub first : next ≡ low → depth < length (get_or paths low [])

pub rest_is : (paths : List (List ℕ)) (stretch : Stretch) (label low high next : ℕ) (accepts : Bool) → IsStretch paths stretch
    → IsPartWith paths stretch label low high → low < high → accepts ≡ ends_at paths (stretch.depth + 1) low
    → ((accepts ≡ true) × (next ≡ low + 1)) ⊎ ((accepts ≡ false) × (next ≡ low)) → IsRest paths (stretch.depth + 1) low high next
rest_is paths stretch label low high next accepts is with some e (inl one) =
    let size = eqb-true (length (get_or paths low [])) (stretch.depth + 1) (sym e ∙ one.0) in
    let more = one.1 in
    record {
      le = omega arith;
      order = omega arith;
      short = λ place a b. let here : place ≡ low = omega arith in rw here size;
      first = λ same. absurd (omega arith);
    }
rest_is paths stretch label low high next accepts is with some e (inr none) =
    let same = none.1 in
    record {
      le = omega arith;
      order = omega arith;
      short = λ place a b. absurd (omega arith);
      first = λ _. part_long paths stretch label low high is with some (sym e ∙ none.0);
    }
