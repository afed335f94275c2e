-- Least strings and first differences, label by label.
use Rattle.std.proofs.Common.{◌≡◌, ℕ, ◌+◌, ◌<◌, ◌≤◌, Bool, true, false, List, [], ◌∷◌, ◌++◌, length, length-append, inl, inr, refl, sym, ap, subst, ◌∙◌, arith}
use mathlib.Core.Bool.{beq, not}
use Rattle.std.specs.Prelude.{IsTrue}
use Rattle.std.specs.List.{list_all}
use Rattle.std.proofs.lemmas.Bool.{false≢true, and_parts, ltb-true, cases_lt}
use Rattle.lex_file.specs.Lexicons.{is_label, NoTail, NoLonger, IsAfter}
use Rattle.lex_check.specs.Orders.{IsBefore, IsLeast}
use Rattle.lex_check.specs.Differences.{Begins, IsMissing, IsExtra, IsFirstDifference, IsLonger}
use Rattle.lex_check.specs.declared.differences.Difference.{Difference}
use Rattle.lex_check.specs.declared.differences.Difference.TheVariants.{Missing, Extra}
use Rattle.lex_check.specs.Meetings.{IsFirstUnder, IsEnded}
use Rattle.lex_check.specs.Forks.{AreSameBetween}
use Rattle.arrayvec.specs.ArrayVec.{ArrayVec as Items}

-- ---- what a look-up says

pub looked_none : {N : Type 0} (tail : N → List ℕ → Bool) (node : N) (label : ℕ) → tail node (label ∷ []) ≡ false → NoLonger tail node label
    → NoTail tail node label
looked_none tail node label ends longer [] = ends
looked_none tail node label ends longer (after ∷ rest) = longer after rest

pub looked_accepts : (has : List ℕ → Bool) (label : ℕ) → has (label ∷ []) ≡ true → Begins has (label ∷ [])
looked_accepts has label ends = record { rest = []; holds = ends }

pub looked_longer : {N : Type 0} (is_node : N → Type 0) (tail : N → List ℕ → Bool) (height : N → ℕ) (node : N) (label : ℕ) (next : N)
    → IsAfter is_node tail height node label next → Begins (tail node) (label ∷ [])
looked_longer is_node tail height node label next following =
    let after = following.some.0 in
    let rest = following.some.1 in
    record { rest = after ∷ rest; holds = following.tails after rest ∙ following.some.2 }

pub below_begins : {N : Type 0} (is_node : N → Type 0) (tail : N → List ℕ → Bool) (height : N → ℕ) (node : N) (label : ℕ) (next : N)
    → IsAfter is_node tail height node label next → Begins (tail next) []
below_begins is_node tail height node label next following = record { rest = following.some.0 ∷ following.some.1; holds = following.some.2 }

-- the first label of a string of labels
pub head_label : (label : ℕ) (rest : List ℕ) → IsTrue (list_all is_label (label ∷ rest)) → label < 27
head_label label rest all = ltb-true label 27 (and_parts (is_label label) (list_all is_label rest) all).0

-- a set that has a string has one that begins with some label
pub some_label : (has : List ℕ → Bool) → has [] ≡ false → ((label : ℕ) → 0 ≤ label → (rest : List ℕ) → has (label ∷ rest) ≡ false)
    → Begins has [] → ⊥
some_label has empty none begins = by begins.rest begins.holds
  where
    by : (string : List ℕ) → has string ≡ true → ⊥
    by [] holds = false≢true (sym empty ∙ holds)
    by (label ∷ rest) holds = false≢true (sym (none label (omega arith) rest) ∙ holds)

-- ---- least strings

pub least_one : (has : List ℕ → Bool) (label : ℕ) → has [] ≡ false → has (label ∷ []) ≡ true
    → ((lower : ℕ) → lower < label → (rest : List ℕ) → has (lower ∷ rest) ≡ false) → IsLeast has (label ∷ [])
least_one has label empty holds below = record { holds = holds; first = first }
  where
    first : (string : List ℕ) → IsBefore string (label ∷ []) → has string ≡ false
    first [] before = empty
    first (lower ∷ rest) (inl lt) = below lower lt rest
    first (lower ∷ rest) (inr same) = absurd same.1

pub least_more : (has following : List ℕ → Bool) (label : ℕ) (path : List ℕ) → has [] ≡ false → has (label ∷ []) ≡ false
    → ((after : ℕ) (rest : List ℕ) → has (label ∷ after ∷ rest) ≡ following (after ∷ rest)) → following [] ≡ false
    → ((lower : ℕ) → lower < label → (rest : List ℕ) → has (lower ∷ rest) ≡ false) → IsLeast following path → IsLeast has (label ∷ path)
least_more has following label [] empty ends tails none below least = absurd (false≢true (sym none ∙ least.holds))
least_more has following label (next ∷ path) empty ends tails none below least = record { holds = tails next path ∙ least.holds; first = first }
  where
    first : (string : List ℕ) → IsBefore string (label ∷ next ∷ path) → has string ≡ false
    first [] before = empty
    first (lower ∷ rest) (inl lt) = below lower lt rest
    first (lower ∷ []) (inr same) = subst (λ (l : ℕ). has (l ∷ []) ≡ false) (sym same.0) ends
    first (lower ∷ after ∷ rest) (inr same) =
        subst (λ (l : ℕ). has (l ∷ after ∷ rest) ≡ false) (sym same.0) (tails after rest ∙ least.first (after ∷ rest) same.1)

-- a label that begins a string, after which nothing continues, is that string
pub found_alone : (has : List ℕ → Bool) (label : ℕ) → Begins has (label ∷ []) → ((after : ℕ) (rest : List ℕ) → has (label ∷ after ∷ rest) ≡ false)
    → has (label ∷ []) ≡ true
found_alone has label found none = alone found.rest found.holds
  where
    alone : (rest : List ℕ) → has (label ∷ rest) ≡ true → has (label ∷ []) ≡ true
    alone [] holds = holds
    alone (after ∷ rest) holds = absurd (false≢true (sym (none after rest) ∙ holds))

-- ---- the first among the strings that begin with one label

pub same_under : (file list : List ℕ → Bool) (label : ℕ) → file (label ∷ []) ≡ list (label ∷ [])
    → ((after : ℕ) (rest : List ℕ) → file (label ∷ after ∷ rest) ≡ list (label ∷ after ∷ rest))
    → (rest : List ℕ) → file (label ∷ rest) ≡ list (label ∷ rest)
same_under file list label same longer [] = same
same_under file list label same longer (after ∷ rest) = longer after rest

-- nothing that begins with a label is before that label alone
none_before_one : (file list : List ℕ → Bool) (label : ℕ) (rest : List ℕ) → IsBefore (label ∷ rest) (label ∷ []) → file (label ∷ rest) ≡ list (label ∷ rest)
none_before_one file list label rest (inl lt) = absurd (omega arith)
none_before_one file list label rest (inr same) = absurd same.1

-- a path of one label has no shorter front
no_shorter : (list : List ℕ → Bool) (label : ℕ) (front back : List ℕ) → label ∷ [] ≡ front ++ back → 0 < length front → 0 < length back → Begins list front
no_shorter list label front back same some more =
    let long : 1 ≡ length (front ++ back) = ap length same in
    absurd (omega (arith, length-append front back))

-- one of the two ends with the label, and the other does not
pub ended_first : (file list : List ℕ → Bool) (label : ℕ) (here listed : Bool) (difference : Difference)
    → here ≡ file (label ∷ []) → listed ≡ list (label ∷ []) → not (beq here listed) ≡ true → IsEnded label here difference
    → IsFirstUnder label file list difference
ended_first file list label true false (Extra path) a b apart ended = record {
  starts = ([], ended.1);
  differs = subst (IsExtra file list) (sym ended.1) (record { extra = inl (sym a, sym b); known = no_shorter list label });
  agree = λ rest before. none_before_one file list label rest (subst (IsBefore (label ∷ rest)) ended.1 before);
}
ended_first file list label false true (Missing path) a b apart ended = record {
  starts = ([], ended.1);
  differs = subst (IsMissing file list) (sym ended.1) (record { absent = sym a; listed = sym b });
  agree = λ rest before. none_before_one file list label rest (subst (IsBefore (label ∷ rest)) ended.1 before);
}
ended_first file list label true true difference a b apart ended = absurd (false≢true apart)
ended_first file list label false false difference a b apart ended = absurd (false≢true apart)
ended_first file list label true false (Missing path) a b apart ended = absurd (false≢true (sym ended.0))
ended_first file list label false true (Extra path) a b apart ended = absurd (false≢true ended.0)

-- the file continues if no string of the list begins with the label
pub extra_one : (file list : List ℕ → Bool) (label : ℕ) (path : Items ℕ) → path.items ≡ label ∷ [] → Begins file (label ∷ [])
    → ((rest : List ℕ) → list (label ∷ rest) ≡ false) → IsFirstUnder label file list (Extra path)
extra_one file list label path e begins none = record {
  starts = ([], e);
  differs = subst (IsExtra file list) (sym e) (record { extra = inr (begins, none); known = no_shorter list label });
  agree = λ rest before. none_before_one file list label rest (subst (IsBefore (label ∷ rest)) e before);
}

-- the list has only the label itself, and only the file continues after it, first with the label `next`
pub extra_two : (file list following : List ℕ → Bool) (label next : ℕ) (path : Items ℕ) → path.items ≡ label ∷ next ∷ []
    → file (label ∷ []) ≡ list (label ∷ []) → list (label ∷ []) ≡ true
    → ((after : ℕ) (rest : List ℕ) → file (label ∷ after ∷ rest) ≡ following (after ∷ rest))
    → ((after : ℕ) (rest : List ℕ) → list (label ∷ after ∷ rest) ≡ false)
    → Begins following (next ∷ []) → ((lower : ℕ) → lower < next → (rest : List ℕ) → following (lower ∷ rest) ≡ false)
    → IsFirstUnder label file list (Extra path)
extra_two file list following label next path e same listed tails none begins least = record {
  starts = (next ∷ [], e);
  differs = subst (IsExtra file list) (sym e) (record {
    extra = inr (record { rest = begins.rest; holds = tails next begins.rest ∙ begins.holds }, none next);
    known = known;
  });
  agree = λ rest before. agree rest (subst (IsBefore (label ∷ rest)) e before);
}
  where
    known : (front back : List ℕ) → label ∷ next ∷ [] ≡ front ++ back → 0 < length front → 0 < length back → Begins list front
    known [] back parts some more = absurd (omega arith)
    known (first ∷ []) back parts some more =
        let here : label ≡ first = cc in
        subst (λ (l : ℕ). Begins list (l ∷ [])) here (record { rest = []; holds = listed })
    known (first ∷ second ∷ front) back parts some more =
        let long : 2 ≡ length (first ∷ second ∷ (front ++ back)) = ap length parts in
        absurd (omega (arith, length-append front back))

    agree : (rest : List ℕ) → IsBefore (label ∷ rest) (label ∷ next ∷ []) → file (label ∷ rest) ≡ list (label ∷ rest)
    agree rest (inl lt) = absurd (omega arith)
    agree [] (inr before) = same
    agree (lower ∷ rest) (inr (_, inl lt)) = tails lower rest ∙ least lower lt rest ∙ sym (none lower rest)
    agree (lower ∷ rest) (inr (_, inr before)) = absurd before.1

-- only the list continues after the label
pub missing_more : (file list following : List ℕ → Bool) (label : ℕ) (least path : Items ℕ) → path.items ≡ label ∷ least.items
    → file (label ∷ []) ≡ list (label ∷ [])
    → ((after : ℕ) (rest : List ℕ) → file (label ∷ after ∷ rest) ≡ false)
    → ((after : ℕ) (rest : List ℕ) → list (label ∷ after ∷ rest) ≡ following (after ∷ rest))
    → following [] ≡ false → IsLeast following least.items → IsFirstUnder label file list (Missing path)
missing_more file list following label least path e same none tails empty first = record {
  starts = (least.items, e);
  differs = subst (IsMissing file list) (sym e) (record { absent = absent least.items first.holds; listed = listed least.items first.holds });
  agree = λ rest before. agree rest (subst (IsBefore (label ∷ rest)) e before);
}
  where
    absent : (path : List ℕ) → following path ≡ true → file (label ∷ path) ≡ false
    absent [] holds = absurd (false≢true (sym empty ∙ holds))
    absent (after ∷ rest) holds = none after rest

    listed : (path : List ℕ) → following path ≡ true → list (label ∷ path) ≡ true
    listed [] holds = absurd (false≢true (sym empty ∙ holds))
    listed (after ∷ rest) holds = tails after rest ∙ holds

    agree : (rest : List ℕ) → IsBefore (label ∷ rest) (label ∷ least.items) → file (label ∷ rest) ≡ list (label ∷ rest)
    agree rest (inl lt) = absurd (omega arith)
    agree [] (inr before) = same
    agree (after ∷ rest) (inr before) = none after rest ∙ sym (tails after rest ∙ first.first (after ∷ rest) before.1)

-- Both sides continue after the label: their strings there without it are those of two sets.
pub record AreAfter (label : ℕ) (file list file_after list_after : List ℕ → Bool) : Type 0 where
  pub same : file (label ∷ []) ≡ list (label ∷ [])
  pub of_file : (after : ℕ) (rest : List ℕ) → file (label ∷ after ∷ rest) ≡ file_after (after ∷ rest)
  pub of_list : (after : ℕ) (rest : List ℕ) → list (label ∷ after ∷ rest) ≡ list_after (after ∷ rest)
  pub begins : Begins list (label ∷ [])

missing_following : (label : ℕ) (file list file_after list_after : List ℕ → Bool) → AreAfter label file list file_after list_after
    → (path : List ℕ) → 0 < length path → IsMissing file_after list_after path → IsMissing file list (label ∷ path)
missing_following label file list file_after list_after b [] some m = absurd (omega arith)
missing_following label file list file_after list_after b (after ∷ rest) some m =
    record { absent = b.of_file after rest ∙ m.absent; listed = b.of_list after rest ∙ m.listed }

known_after : (label : ℕ) (file list file_after list_after : List ℕ → Bool) → AreAfter label file list file_after list_after
    → (path : List ℕ) → ((front back : List ℕ) → path ≡ front ++ back → 0 < length front → 0 < length back → Begins list_after front)
    → (front back : List ℕ) → label ∷ path ≡ front ++ back → 0 < length front → 0 < length back → Begins list front
known_after label file list file_after list_after b path known [] back parts some more = absurd (omega arith)
known_after label file list file_after list_after b path known (first ∷ []) back parts some more =
    let here : label ≡ first = cc in
    subst (λ (l : ℕ). Begins list (l ∷ [])) here b.begins
known_after label file list file_after list_after b path known (first ∷ second ∷ front) back parts some more =
    let here : label ≡ first = cc in
    let rest : path ≡ second ∷ (front ++ back) = cc in
    let begins = known (second ∷ front) back rest (omega arith) more in
    subst (λ (l : ℕ). Begins list (l ∷ second ∷ front)) here (record { rest = begins.rest; holds = b.of_list second (front ++ begins.rest) ∙ begins.holds })

extra_after : (label : ℕ) (file list file_after list_after : List ℕ → Bool) → AreAfter label file list file_after list_after
    → (path : List ℕ) → 0 < length path → IsExtra file_after list_after path → IsExtra file list (label ∷ path)
extra_after label file list file_after list_after b [] some x = absurd (omega arith)
extra_after label file list file_after list_after b (after ∷ path) some x = record {
  extra = elim (x.extra) [
    | inl here ↦ inl (b.of_file after path ∙ here.0, b.of_list after path ∙ here.1)
    | inr there ↦ inr (
      record { rest = there.0.rest; holds = b.of_file after (path ++ there.0.rest) ∙ there.0.holds },
      λ rest. b.of_list after (path ++ rest) ∙ there.1 rest,
    )
  ];
  known = known_after label file list file_after list_after b (after ∷ path) x.known;
}

agree_after : (label : ℕ) (file list file_after list_after : List ℕ → Bool) → AreAfter label file list file_after list_after
    → (path : List ℕ) → ((string : List ℕ) → IsBefore string path → file_after string ≡ list_after string)
    → (rest : List ℕ) → IsBefore (label ∷ rest) (label ∷ path) → file (label ∷ rest) ≡ list (label ∷ rest)
agree_after label file list file_after list_after b path agree rest (inl lt) = absurd (omega arith)
agree_after label file list file_after list_after b path agree [] (inr before) = b.same
agree_after label file list file_after list_after b path agree (after ∷ rest) (inr before) =
    b.of_file after rest ∙ agree (after ∷ rest) before.1 ∙ sym (b.of_list after rest)

pub first_after : (label : ℕ) (file list file_after list_after : List ℕ → Bool) → AreAfter label file list file_after list_after
    → (difference longer : Difference) → IsLonger label difference longer → IsFirstDifference file_after list_after difference
    → IsFirstUnder label file list longer
first_after label file list file_after list_after b (Missing path) (Missing longer) e first = record {
  starts = (path.items, e);
  differs = subst (IsMissing file list) (sym e) (missing_following label file list file_after list_after b path.items first.some first.differs);
  agree = λ rest before. agree_after label file list file_after list_after b path.items first.agree rest (subst (IsBefore (label ∷ rest)) e before);
}
first_after label file list file_after list_after b (Extra path) (Extra longer) e first = record {
  starts = (path.items, e);
  differs = subst (IsExtra file list) (sym e) (extra_after label file list file_after list_after b path.items first.some first.differs);
  agree = λ rest before. agree_after label file list file_after list_after b path.items first.agree rest (subst (IsBefore (label ∷ rest)) e before);
}
first_after label file list file_after list_after b (Missing path) (Extra longer) e first = absurd e
first_after label file list file_after list_after b (Extra path) (Missing longer) e first = absurd e

pub all_after : (label : ℕ) (file list file_after list_after : List ℕ → Bool) → AreAfter label file list file_after list_after
    → ((string : List ℕ) → file_after string ≡ list_after string) → (rest : List ℕ) → file (label ∷ rest) ≡ list (label ∷ rest)
all_after label file list file_after list_after b all =
    same_under file list label b.same (λ after rest. b.of_file after rest ∙ all (after ∷ rest) ∙ sym (b.of_list after rest))

-- ---- over all labels

pub first_of_all : (label : ℕ) (file list : List ℕ → Bool) (difference : Difference) → file [] ≡ list []
    → AreSameBetween file list 0 label → IsFirstUnder label file list difference → IsFirstDifference file list difference
first_of_all label file list difference empty below under = record {
  some = rw (ap length under.starts.1) (omega arith);
  differs = under.differs;
  agree = λ string before. agree string (subst (IsBefore string) under.starts.1 before);
}
  where
    agree : (string : List ℕ) → IsBefore string (label ∷ under.starts.0) → file string ≡ list string
    agree [] before = empty
    agree (lower ∷ rest) (inl lt) = below lower rest (omega arith) lt
    agree (lower ∷ rest) (inr before) =
        subst (λ (l : ℕ). file (l ∷ rest) ≡ list (l ∷ rest)) (sym before.0)
        (under.agree rest (subst (IsBefore (label ∷ rest)) (sym under.starts.1) (inr (refl, before.1))))

pub same_of_all : (file list : List ℕ → Bool) → file [] ≡ list []
    → ((label : ℕ) (rest : List ℕ) → file (label ∷ rest) ≡ true → label < 27)
    → ((label : ℕ) (rest : List ℕ) → list (label ∷ rest) ≡ true → label < 27)
    → AreSameBetween file list 0 27 → (string : List ℕ) → file string ≡ list string
same_of_all file list empty of_file of_list below [] = empty
same_of_all file list empty of_file of_list below (label ∷ rest) = by (file (label ∷ rest)) (list (label ∷ rest)) refl refl
  where
    by : (x y : Bool) → file (label ∷ rest) ≡ x → list (label ∷ rest) ≡ y → file (label ∷ rest) ≡ list (label ∷ rest)
    by true y e h = below label rest (omega arith) (of_file label rest e)
    by x true e h = below label rest (omega arith) (of_list label rest h)
    by false false e h = e ∙ sym h

-- ---- tests

same_test : (x y : Bool) → not (beq x y) ≡ false → x ≡ y
same_test true true e = refl
same_test false false e = refl
same_test true false e = absurd (false≢true (sym e))
same_test false true e = absurd (false≢true (sym e))

-- two look-ups that say the same about what they look up
pub same_ends : (here listed in_file in_list : Bool) → here ≡ in_file → listed ≡ in_list → not (beq here listed) ≡ false → in_file ≡ in_list
same_ends here listed in_file in_list a b same = sym a ∙ same_test here listed same ∙ b

-- what a meeting that continues says
pub are_after : {M N : Type 0} (is_m : M → Type 0) (tail_m : M → List ℕ → Bool) (height_m : M → ℕ) (m : M)
    (is_n : N → Type 0) (tail_n : N → List ℕ → Bool) (height_n : N → ℕ) (n : N) (label : ℕ) (next : M) (listed_next : N)
    → IsAfter is_m tail_m height_m m label next → IsAfter is_n tail_n height_n n label listed_next
    → tail_m m (label ∷ []) ≡ tail_n n (label ∷ [])
    → AreAfter label (tail_m m) (tail_n n) (tail_m next) (tail_n listed_next)
are_after is_m tail_m height_m m is_n tail_n height_n n label next listed_next following listed_after same = record {
  same = same;
  of_file = following.tails;
  of_list = listed_after.tails;
  begins = looked_longer is_n tail_n height_n n label listed_next listed_after;
}

-- sets that are the same up to one label are the same up to the next
pub same_further : (file list : List ℕ → Bool) (from to : ℕ) → AreSameBetween file list 0 from → AreSameBetween file list from to → AreSameBetween file list 0 to
same_further file list from to before following label rest low lt = elim (cases_lt label from) [
  | inl less ↦ before label rest low less
  | inr le ↦ following label rest le lt
]

pub same_next : (file list : List ℕ → Bool) (to : ℕ) → AreSameBetween file list 0 to
    → ((rest : List ℕ) → file (to ∷ rest) ≡ list (to ∷ rest)) → AreSameBetween file list 0 (to + 1)
same_next file list to before here label rest low lt = elim (cases_lt label to) [
  | inl less ↦ before label rest low less
  | inr le ↦
      let same : label ≡ to = omega arith in
      subst (λ (l : ℕ). file (l ∷ rest) ≡ list (l ∷ rest)) (sym same) (here rest)
]
