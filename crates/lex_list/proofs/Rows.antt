-- Words in a row that is in order, and moved from its end into a tree.
use Rattle.std.proofs.Common.{◌≡◌, ℕ, Bool, true, Ordering, zero, suc, ◌-◌, List, [], ◌∷◌, ◌++◌, length, Some, arith, append_assoc, sym, ap, subst, refl, ◌∙◌}
use Rattle.std.specs.Bool.{OnTrue}
use Rattle.std.specs.BTreeSet.{insert_key}
use Rattle.std.specs.List.{AllByRecursion, slice_get}
use Rattle.std.specs.List.Sorted.{IsStrictlySortedBy}
use Rattle.std.specs.Ordering.{is_lt, ordering_reverse}
use Rattle.std.specs.declared.cmp.Ordering.TheVariants.{Less, Equal, Greater}
use Rattle.std.proofs.lemmas.Bool.{OnTrue_from}
use Rattle.std.proofs.lemmas.Cmp.{nat_list_cmp_total}
use Rattle.lex_list.specs.Words.{word_order}
use Rattle.lex_list.proofs.Orders.{ordered_more}

-- ---- a word after the last one

greater : (x y : List ℕ) → word_order x y ≡ Less → word_order y x ≡ Greater
greater x y e = nat_list_cmp_total.antisymm y x ∙ ap ordering_reverse e

all_at : (P : List ℕ → Type 0) (words : List (List ℕ)) (i : ℕ) (word : List ℕ) → AllByRecursion P words → slice_get words i ≡ Some word → P word
all_at P [] i word a at = absurd cc
all_at P (x ∷ xs) zero word a at = let same : x ≡ word = cc in subst P same a.0
all_at P (x ∷ xs) (suc i) word a at = all_at P xs i word a.1 at

-- a word after the last of a row is after all of it
put_after : (row : List (List ℕ)) (last word : List ℕ) → IsStrictlySortedBy word_order row → slice_get row (length row - 1) ≡ Some last
    → word_order last word ≡ Less → insert_key word_order row word ≡ row ++ word ∷ []
unfolding IsStrictlySortedBy
put_after [] last word s at less = refl
put_after (x ∷ []) last word s at less =
    let same : x ≡ last = cc in
    let after : word_order word x ≡ Greater = greater x word (ap (λ y. word_order y word) same ∙ less) in
    rw after refl
put_after (x ∷ y ∷ ys) last word s at less =
    let e : length (x ∷ y ∷ ys) - 1 ≡ suc (length (y ∷ ys) - 1) = omega arith in
    let here : slice_get (y ∷ ys) (length (y ∷ ys) - 1) ≡ Some last = rw e at at in
    let more = put_after (y ∷ ys) last word s.1 here less in
    let before : word_order x last ≡ Less = all_at (λ z. word_order x z ≡ Less) (y ∷ ys) (length (y ∷ ys) - 1) last s.0 here in
    let after : word_order word x ≡ Greater = greater x word (nat_list_cmp_total.trans x last word before less) in
    rw after (ap (λ rest. x ∷ rest) more)

less_from : (o : Ordering) → is_lt o ≡ true → o ≡ Less
less_from Less e = refl
less_from Equal e = absurd cc
less_from Greater e = absurd cc

-- whether a word is after the last
pub reported_after : (row : List (List ℕ)) (last word : List ℕ) (r : Bool) → IsStrictlySortedBy word_order row → Some last ≡ slice_get row (length row - 1)
    → r ≡ is_lt (word_order last word) → OnTrue r (insert_key word_order row word ≡ row ++ word ∷ [])
reported_after row last word r s at is =
    OnTrue_from r (insert_key word_order row word ≡ row ++ word ∷ []) (λ e. put_after row last word s (sym at) (less_from (word_order last word) (sym is ∙ e)))

-- ---- the last word moved

all_front : (P : List ℕ → Type 0) (front back : List (List ℕ)) → AllByRecursion P (front ++ back) → AllByRecursion P front
all_front P [] back a = tt
all_front P (x ∷ xs) back a = (a.0, all_front P xs back a.1)

sorted_front : (front back : List (List ℕ)) → IsStrictlySortedBy word_order (front ++ back) → IsStrictlySortedBy word_order front
unfolding IsStrictlySortedBy
sorted_front [] back s = tt
sorted_front (x ∷ xs) back s = (all_front (λ y. word_order x y ≡ Less) xs back s.0, sorted_front xs back s.1)

-- a word before the first of a tree
put_first : (front : List (List ℕ)) (word : List ℕ) (keys : List (List ℕ)) → IsStrictlySortedBy word_order (front ++ word ∷ keys) → insert_key word_order keys word ≡ word ∷ keys
unfolding IsStrictlySortedBy
put_first [] word [] s = refl
put_first [] word (key ∷ keys) s = rw s.0.0 refl
put_first (x ∷ xs) word keys s = put_first xs word keys s.1

pub moved_one : (whole row rest keys new : List (List ℕ)) (word : List ℕ) → IsStrictlySortedBy word_order whole → row ≡ rest ++ word ∷ [] → row ++ keys ≡ whole
    → new ≡ insert_key word_order keys word → rest ++ new ≡ whole
moved_one whole row rest keys new word s last all put =
    let joined : rest ++ word ∷ keys ≡ whole = sym (append_assoc rest (word ∷ []) keys) ∙ ap (λ r. r ++ keys) (sym last) ∙ all in
    let first = put_first rest word keys (subst (IsStrictlySortedBy word_order) (sym joined) s) in
    ap (λ k. rest ++ k) (put ∙ first) ∙ joined

pub remaining_sorted : (row rest : List (List ℕ)) (word : List ℕ) → IsStrictlySortedBy word_order row → row ≡ rest ++ word ∷ [] → IsStrictlySortedBy word_order rest
remaining_sorted row rest word s last = sorted_front rest (word ∷ []) (subst (IsStrictlySortedBy word_order) last s)

-- ---- one more word in a row

pub put_last : (row seen new : List (List ℕ)) (word : List ℕ) → IsStrictlySortedBy word_order row → seen ≡ row → insert_key word_order seen word ≡ seen ++ word ∷ []
    → new ≡ row ++ word ∷ [] → IsStrictlySortedBy word_order new
put_last row seen new word s same following put =
    let there : insert_key word_order row word ≡ row ++ word ∷ [] = rw same at following in
    subst (IsStrictlySortedBy word_order) (there ∙ sym put) (ordered_more row word s)
