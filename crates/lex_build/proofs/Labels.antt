-- The labels of the strings that a walk has seen, counted together.
use Rattle.std.proofs.Common.{◌≡◌, ℕ, zero, suc, ◌+◌, ◌<◌, ◌≤◌, Bool, true, false, List, [], ◌∷◌, ◌++◌, length, get_or, drop, inl, inr, ◌⊎◌, ⊎_elim, refl, sym, ap, subst, ◌∙◌, arith}
use Rattle.std.specs.Prelude.{nat_lt, ◌&&◌}
use Rattle.std.specs.List.{Contains, sum_by}
use Rattle.std.proofs.lemmas.Bool.{and_parts, lt-ltb, ltb-true, false≢true}
use Rattle.std.proofs.lemmas.List.Elements.{Contains-append_left, Contains-append_right, Contains-append_cases}
use Rattle.std.proofs.lemmas.List.Sums.{sum_by-cons, sum_by-append}
use Rattle.lex_file.specs.Lexicons.{IsAfter}
use Rattle.lex_build.specs.Labels.{AreApart, HasLabels}
use Rattle.lex_list.specs.RotatedPaths.{StandsFor}
use Rattle.lex_check.specs.Stretches.{IsPathList, is_one_of}
use Rattle.lex_check.specs.laws.Stretches.{remaining_to}
use Rattle.lex_check.proofs.RemainingStrings.{remaining_from}
use Rattle.lex_build.specs.Builds.{HasManyLabels}
use Rattle.lex_file.specs.Formats.{most_arcs}
use Rattle.std.proofs.lemmas.List.{get_or_default}

-- the strings of the set whose first label is below one
abbrev pub has_below : (List ℕ → Bool) → ℕ → List ℕ → Bool
has_below has bound [] = false
has_below has bound (label ∷ rest) = nat_lt label bound && has (label ∷ rest)

-- ---- places of strings

cases_of : (string other : List ℕ) (strings : List (List ℕ)) → Contains (other ∷ strings) string → (other ≡ string) ⊎ Contains strings string
cases_of string other strings (zero, lt, e) = inl e
cases_of string other strings (suc k, lt, e) = inr (k, omega arith, e)

at_head : (string : List ℕ) (strings : List (List ℕ)) → Contains (string ∷ strings) string
at_head string strings = (0, omega arith, refl)

further : (string other : List ℕ) (strings : List (List ℕ)) → Contains strings string → Contains (other ∷ strings) string
further string other strings (k, lt, e) = (suc k, omega arith, e)

none_in : (string : List ℕ) → Contains [] string → ⊥
none_in string (k, lt, e) = omega arith

-- the strings before and after one
Split : List (List ℕ) → List ℕ → Type 0
Split strings string = (before : List (List ℕ)) × (after : List (List ℕ)) × (strings ≡ before ++ string ∷ after)

split_here : (other string : List ℕ) (strings : List (List ℕ)) → other ≡ string → Split (other ∷ strings) string
unfolding Split
split_here other string strings e = ([], strings, ap (λ x. x ∷ strings) e)

split_further : (other string : List ℕ) (strings : List (List ℕ)) → Split strings string → Split (other ∷ strings) string
unfolding Split
split_further other string strings (before, after, e) = (other ∷ before, after, ap (λ xs. other ∷ xs) e)

split_at : (strings : List (List ℕ)) (string : List ℕ) → Contains strings string → Split strings string
split_at [] string here = absurd (none_in string here)
split_at (other ∷ strings) string here =
    ⊎_elim (split_here other string strings) (λ there. split_further other string strings (split_at strings string there)) (cases_of string other strings here)

-- another string is still there without it
still : (before after : List (List ℕ)) (string other : List ℕ) → (string ≡ other → ⊥) → Contains (before ++ string ∷ after) other → Contains (before ++ after) other
still before after string other differ there =
    ⊎_elim (Contains-append_left before after other)
    (λ following. ⊎_elim (λ e. absurd (differ e)) (Contains-append_right before after other) (cases_of other string after following))
    (Contains-append_cases before (string ∷ after) other there)

-- ---- different strings together have at most the labels of a list that has them all

without : (before after : List (List ℕ)) (string : List ℕ) → sum_by length (before ++ string ∷ after) ≡ length string + sum_by length (before ++ after)
without before after string =
    let whole = sum_by-append length before (string ∷ after) in
    let front = sum_by-cons length string after in
    let rest = sum_by-append length before after in
    omega (arith, whole, front, rest)

-- the same for one string and those after it
Inside : List (List ℕ) → List (List ℕ) → Type 0
Inside strings all = (string : List ℕ) → Contains strings string → Contains all string

most_with : (strings : List (List ℕ)) (string : List ℕ) (all : List (List ℕ)) → Split all string
    → ((rest : List (List ℕ)) → Inside strings rest → sum_by length strings ≤ sum_by length rest)
    → (Contains strings string → ⊥) → Inside strings all → sum_by length (string ∷ strings) ≤ sum_by length all
unfolding Split Inside
most_with strings string all (before, after, e) fewer new inside =
    let parts = without before after string in
    let front = sum_by-cons length string strings in
    let remaining : Inside strings (before ++ after) = λ other there. still before after string other (λ same. new (subst (Contains strings) (sym same) there)) (subst (λ (xs : List (List ℕ)). Contains xs other) e (inside other there)) in
    let rest = fewer (before ++ after) remaining in
    subst (λ (xs : List (List ℕ)). sum_by length (string ∷ strings) ≤ sum_by length xs) (sym e) (omega (arith, parts, front, rest))

most_of : (strings all : List (List ℕ)) → AreApart strings → Inside strings all → sum_by length strings ≤ sum_by length all
unfolding Inside
most_of [] all apart inside = omega arith
most_of (string ∷ strings) all apart inside =
    most_with strings string all (split_at all string (inside string (at_head string strings))) (λ rest. most_of strings rest apart.1) apart.0
    (λ other there. inside other (further other string strings there))

-- ---- strings of two sets, and strings after a label

apart_both : (strings others : List (List ℕ)) → AreApart strings → AreApart others
    → ((string : List ℕ) → Contains strings string → Contains others string → ⊥) → AreApart (strings ++ others)
apart_both [] others one two disjoint = two
apart_both (string ∷ strings) others one two disjoint = (
  (λ there. ⊎_elim one.0 (disjoint string (at_head string strings)) (Contains-append_cases strings others string there)),
  apart_both strings others one.1 two (λ other there. disjoint other (further other string strings there)),
)

-- the strings with a label in front
following : ℕ → List (List ℕ) → List (List ℕ)
following label [] = []
following label (string ∷ strings) = (label ∷ string) ∷ following label strings

from_after : (label : ℕ) (strings : List (List ℕ)) (string : List ℕ) → Contains (following label strings) string
    → (rest : List ℕ) × (label ∷ rest ≡ string) × Contains strings rest
unfolding following
from_after label [] string there = absurd (none_in string there)
from_after label (first ∷ strings) string there =
    ⊎_elim (λ e. (first, e, at_head first strings))
    (λ more. let r = from_after label strings string more in (r.0, r.1, further r.0 first strings r.2))
    (cases_of string (label ∷ first) (following label strings) there)

same_rest : (label : ℕ) (one two : List ℕ) → label ∷ one ≡ label ∷ two → one ≡ two
same_rest label one two e = ap (λ xs. drop 1 xs) e

apart_after : (label : ℕ) (strings : List (List ℕ)) → AreApart strings → AreApart (following label strings)
unfolding following
apart_after label [] apart = tt
apart_after label (string ∷ strings) apart = (
  (λ there. let r = from_after label strings (label ∷ string) there in apart.0 (subst (Contains strings) (same_rest label r.0 string r.1) r.2)),
  apart_after label strings apart.1,
)

sum_after : (label : ℕ) (strings : List (List ℕ)) → sum_by length (following label strings) ≡ sum_by length strings + length strings
unfolding following
sum_after label [] = refl
sum_after label (string ∷ strings) =
    let one = sum_by-cons length (label ∷ string) (following label strings) in
    let two = sum_by-cons length string strings in
    let rest = sum_after label strings in
    omega (arith, one, two, rest)

-- ---- what a walk has seen

pub labels_none : (has : List ℕ → Bool) → HasLabels has 0
labels_none has = record { strings = []; each = λ string there. absurd (none_in string there); once = tt; enough = omega arith }

pub labels_fewer : (has : List ℕ → Bool) (count fewer : ℕ) → fewer ≤ count → HasLabels has count → HasLabels has fewer
labels_fewer has count fewer le seen =
    let enough = seen.enough in
    record { strings = seen.strings; each = seen.each; once = seen.once; enough = omega (arith, enough) }

below_has : (has : List ℕ → Bool) (bound : ℕ) (string : List ℕ) → has_below has bound string ≡ true → has string ≡ true
below_has has bound [] e = absurd cc
below_has has bound (label ∷ rest) e = (and_parts (nat_lt label bound) (has (label ∷ rest)) e).1

below_label : (has : List ℕ → Bool) (bound label : ℕ) (rest : List ℕ) → has_below has bound (label ∷ rest) ≡ true → label < bound
below_label has bound label rest e = ltb-true label bound (and_parts (nat_lt label bound) (has (label ∷ rest)) e).0

is_below : (has : List ℕ → Bool) (bound label : ℕ) (rest : List ℕ) → label < bound → has (label ∷ rest) ≡ true → has_below has bound (label ∷ rest) ≡ true
is_below has bound label rest lt e = let under = lt-ltb label bound lt in rw (under, e) refl

below_more : (has : List ℕ → Bool) (from label : ℕ) (string : List ℕ) → from ≤ label → has_below has from string ≡ true → has_below has (label + 1) string ≡ true
below_more has from label [] le e = absurd cc
below_more has from label (first ∷ rest) le e =
    let low = below_label has from first rest e in
    is_below has (label + 1) first rest (omega (arith, low)) (below_has has from (first ∷ rest) e)

-- the strings below a label, and others that begin with it
joined : (has : List ℕ → Bool) (from label count : ℕ) → from ≤ label → HasLabels (has_below has from) count
    → (more : List (List ℕ)) → AreApart more → ((rest : List ℕ) → Contains more rest → has (label ∷ rest) ≡ true)
    → (n : ℕ) → n ≤ sum_by length more + length more → HasLabels (has_below has (label + 1)) (count + n)
joined has from label count le seen more apart each n enough =
    let total = sum_by-append length seen.strings (following label more) in
    let new = sum_after label more in
    let old = seen.enough in
    record {
      strings = seen.strings ++ following label more;
      each = λ string there.
          ⊎_elim (λ here. below_more has from label string le (seen.each string here))
          (λ here. let r = from_after label more string here in
          subst (λ (s : List ℕ). has_below has (label + 1) s ≡ true) r.1 (is_below has (label + 1) label r.0 (omega arith) (each r.0 r.2)))
          (Contains-append_cases seen.strings (following label more) string there);
      once = apart_both seen.strings (following label more) seen.once (apart_after label more apart)
          (λ string here there. let r = from_after label more string there in
          let low = below_label has from label r.0 (subst (λ (s : List ℕ). has_below has from s ≡ true) (sym r.1) (seen.each string here)) in
          omega (arith, low));
      enough = omega (arith, total, new, old);
    }

-- only the label
pub labels_alone : (has : List ℕ → Bool) (from label count : ℕ) → from ≤ label → HasLabels (has_below has from) count → has (label ∷ []) ≡ true
    → HasLabels (has_below has (label + 1)) (count + 1)
labels_alone has from label count le seen here =
    joined has from label count le seen ([] ∷ []) (none_in [], tt) (λ rest there. ⊎_elim (λ (e : [] ≡ rest). subst (λ (s : List ℕ). has (label ∷ s) ≡ true) e here) (λ none. absurd (none_in rest none)) (cases_of rest [] [] there)) 1
    (omega arith)

-- the tails after a label, with the label in front
longer_is : {N : Type 0} (is_node : N → Type 0) (tail : N → List ℕ → Bool) (height : N → ℕ) (node : N) (label : ℕ) (next : N)
    → IsAfter is_node tail height node label next → tail next [] ≡ false → (rest : List ℕ) → tail next rest ≡ true → tail node (label ∷ rest) ≡ true
longer_is is_node tail height node label next is empty [] e = absurd (false≢true (sym empty ∙ e))
longer_is is_node tail height node label next is empty (after ∷ rest) e = is.tails after rest ∙ e

more_by : {N : Type 0} (is_node : N → Type 0) (tail : N → List ℕ → Bool) (height : N → ℕ) (node : N) (from label count : ℕ) (next : N) (more : ℕ)
    → from ≤ label → HasLabels (has_below (tail node) from) count → IsAfter is_node tail height node label next → tail next [] ≡ false
    → (strings : List (List ℕ)) → ((string : List ℕ) → Contains strings string → tail next string ≡ true) → AreApart strings → more ≤ sum_by length strings
    → HasLabels (has_below (tail node) (label + 1)) (count + (more + 1))
more_by is_node tail height node from label count next more le seen is empty [] each once enough =
    let string = is.some.0 ∷ is.some.1 in
    joined (tail node) from label count le seen (string ∷ []) (none_in string, tt)
    (λ rest there. ⊎_elim (λ (e : string ≡ rest). longer_is is_node tail height node label next is empty rest (subst (λ (s : List ℕ). tail next s ≡ true) e is.some.2)) (λ none. absurd (none_in rest none)) (cases_of rest string [] there))
    (more + 1) (omega (arith, enough))
more_by is_node tail height node from label count next more le seen is empty (string ∷ strings) each once enough =
    joined (tail node) from label count le seen (string ∷ strings) once
    (λ rest there. longer_is is_node tail height node label next is empty rest (each rest there))
    (more + 1) (omega (arith, enough))

pub labels_more : {N : Type 0} (is_node : N → Type 0) (tail : N → List ℕ → Bool) (height : N → ℕ) (node : N) (from label count : ℕ) (next : N) (more : ℕ)
    → from ≤ label → HasLabels (has_below (tail node) from) count → IsAfter is_node tail height node label next → tail next [] ≡ false → HasLabels (tail next) more
    → HasLabels (has_below (tail node) (label + 1)) (count + (more + 1))
labels_more is_node tail height node from label count next more le seen is empty after_it =
    more_by is_node tail height node from label count next more le seen is empty after_it.strings after_it.each after_it.once after_it.enough

pub labels_all : (has : List ℕ → Bool) (bound count : ℕ) → HasLabels (has_below has bound) count → HasLabels has count
labels_all has bound count seen =
    record { strings = seen.strings; each = λ string there. below_has has bound string (seen.each string there); once = seen.once; enough = seen.enough }

-- all strings of the set together have at least as many
pub labels_within : (has : List ℕ → Bool) (count : ℕ) → HasLabels has count → (all : List (List ℕ)) → ((string : List ℕ) → has string ≡ true → Contains all string)
    → count ≤ sum_by length all
unfolding Inside
labels_within has count seen all inside =
    let most = most_of seen.strings all seen.once (λ string there. inside string (seen.each string there)) in
    let enough = seen.enough in
    omega (arith, most, enough)

-- ---- all rotated paths of a list

read_at : (paths : List (List ℕ)) (place : ℕ) (string : List ℕ) → place < length paths → get_or paths place string ≡ get_or paths place []
read_at paths place string lt = get_or_default paths place string [] lt

is_among : (paths : List (List ℕ)) (string : List ℕ) → is_one_of paths string ≡ true → Contains paths string
is_among paths string e =
    let at = remaining_to paths 0 string 0 (length paths) e in
    let to = at.to in
    let lt : at.place < length paths = omega (arith, to) in
    (at.place, lt, read_at paths at.place string lt ∙ sym at.remaining)

among_is : (paths : List (List ℕ)) (string : List ℕ) → Contains paths string → is_one_of paths string ≡ true
among_is paths string there =
    let lt = there.1 in
    remaining_from paths 0 string 0 (length paths)
    (record { place = there.0; from = omega arith; to = omega (arith, lt); remaining = sym (sym (read_at paths there.0 string lt) ∙ there.2) })

pub count_labels : (words paths : List (List ℕ)) → IsPathList paths → StandsFor (is_one_of paths) words
    → (count : ℕ) → HasLabels (λ string. is_one_of paths string) count → most_arcs < count → HasManyLabels words
count_labels words paths is same count seen many =
    let within = labels_within (λ string. is_one_of paths string) count seen paths (is_among paths) in
    record {
      paths = paths;
      once = is.ordered;
      all = λ string. ((λ there. sym (same string) ∙ among_is paths string there), (λ e. is_among paths string (same string ∙ e)));
      many = omega (arith, within, many);
    }
