-- The names of the files of pages differ.
use Rattle.std.proofs.Common.{◌≡◌, ℕ, ◌-◌, ◌≤◌, arith, ◌==◌, ◌&&◌, Bool, true, false, not, List, [], ◌∷◌, ◌++◌, length, take, drop, codes, refl, sym, ap, subst, ◌∙◌, if◌then◌else◌}
use Rattle.std.specs.List.{ends_with}
use Rattle.std.specs.Cmp.Lexicographic.{pointwise}
use Rattle.std.proofs.lemmas.List.{length-append, take-append-drop, append_assoc, append_cancel_right}
use Rattle.std.proofs.lemmas.List.Folds.{list_all-append}
use Rattle.page_pieces.specs.Names.{is_slash, is_step, escaped, has_ending, page_text}
use Rattle.page_pieces.proofs.Escapes.{same_byte, unescaped_after, unescaped, same_text, is_whole, escaped_whole, has_twos, escaped_twos, open_end}

pub both : (a b : Bool) → (a && b) ≡ true → (a ≡ true) × (b ≡ true)
both true true e = (refl, refl)
both true false e = absurd cc
both false b e = absurd cc

same_list : (xs ys : List ℕ) → pointwise ◌==◌ xs ys ≡ true → xs ≡ ys
same_list [] [] e = refl
same_list [] (y ∷ ys) e = absurd cc
same_list (x ∷ xs) [] e = absurd cc
same_list (x ∷ xs) (y ∷ ys) e =
    let parts = both (x == y) (pointwise ◌==◌ xs ys) e in
    rw (same_byte x y parts.0, same_list xs ys parts.1) refl

abbrev pub front : List ℕ → List ℕ
front part = take (length part - 4) part

-- a name with its ending
with_ending : (part : List ℕ) → has_ending part ≡ true → front part ++ codes ".gcg" ≡ part
unfolding has_ending
with_ending part e =
    let ends = both (ends_with ◌==◌ part (codes ".gcg")) _ e in
    let same : codes ".gcg" ≡ drop (length part - 4) part = same_list (codes ".gcg") (drop (length part - 4) part) ends.0 in
    ap (λ l. front part ++ l) same ∙ take-append-drop (length part - 4) part

-- an ending that is left out is not mistaken for one that is not
mixed : (one other : List ℕ) → escaped one ++ codes ".html" ≡ escaped other ++ codes "%.html" → ⊥
mixed one other e =
    let moved : escaped one ++ codes ".html" ≡ (escaped other ++ 37 ∷ []) ++ codes ".html" = e ∙ sym (append_assoc (escaped other) (37 ∷ []) (codes ".html")) in
    let same = append_cancel_right (escaped one) (escaped other ++ 37 ∷ []) (codes ".html") moved in
    let closed : has_twos (escaped other ++ 37 ∷ []) ≡ true = subst (λ l. has_twos l ≡ true) same (escaped_twos one) in
    let ends = open_end (escaped other) in
    absurd cc

pages_by : (one other : List ℕ) (a b : Bool) → has_ending one ≡ a → has_ending other ≡ b
    → (if a then escaped (front one) ++ codes ".html" else escaped one ++ codes "%.html")
    ≡ (if b then escaped (front other) ++ codes ".html" else escaped other ++ codes "%.html") → one ≡ other
pages_by one other true true a b e =
    let same = same_text (front one) (front other) (append_cancel_right (escaped (front one)) (escaped (front other)) (codes ".html") e) in
    sym (with_ending one a) ∙ ap (λ l. l ++ codes ".gcg") same ∙ with_ending other b
pages_by one other true false a b e = absurd (mixed (front one) other e)
pages_by one other false true a b e = absurd (mixed (front other) one (sym e))
pages_by one other false false a b e = same_text one other (append_cancel_right (escaped one) (escaped other) (codes "%.html") e)

pub same_page : (one other : List ℕ) → page_text one ≡ page_text other → one ≡ other
unfolding page_text
same_page one other e = pages_by one other (has_ending one) (has_ending other) refl refl e

-- ---- no slash comes in

front_whole : (part : List ℕ) → has_ending part ≡ true → is_whole part ≡ true → is_whole (front part) ≡ true
front_whole part e h =
    let parted : is_whole (front part ++ codes ".gcg") ≡ true = subst (λ l. is_whole l ≡ true) (sym (with_ending part e)) h in
    let two = both (is_whole (front part)) (is_whole (codes ".gcg")) (sym (list_all-append (λ byte. not (is_slash byte)) (front part) (codes ".gcg")) ∙ parted) in
    two.0

whole_by : (part : List ℕ) (is : Bool) → has_ending part ≡ is → is_whole part ≡ true
    → is_whole (if is then escaped (front part) ++ codes ".html" else escaped part ++ codes "%.html") ≡ true
whole_by part true e h = list_all-append (λ byte. not (is_slash byte)) (escaped (front part)) (codes ".html") ∙ rw (escaped_whole (front part) (front_whole part e h)) refl
whole_by part false e h = list_all-append (λ byte. not (is_slash byte)) (escaped part) (codes "%.html") ∙ rw (escaped_whole part h) refl

pub page_whole : (part : List ℕ) → is_whole part ≡ true → is_whole (page_text part) ≡ true
unfolding page_text
page_whole part h = whole_by part (has_ending part) refl h

-- ---- it is a file of its own

long : (text : List ℕ) → is_step (text ++ codes ".html") ≡ false
long [] = refl
long (a ∷ []) = refl
long (a ∷ b ∷ []) = refl
long (a ∷ b ∷ c ∷ rest) = refl

longer : (text : List ℕ) → is_step (text ++ codes "%.html") ≡ false
longer [] = refl
longer (a ∷ []) = refl
longer (a ∷ b ∷ []) = refl
longer (a ∷ b ∷ c ∷ rest) = refl

own_by : (part : List ℕ) (is : Bool) → is_step (if is then escaped (front part) ++ codes ".html" else escaped part ++ codes "%.html") ≡ false
own_by part true = long (escaped (front part))
own_by part false = longer (escaped part)

pub page_own : (part : List ℕ) → is_step (page_text part) ≡ false
unfolding page_text
page_own part = own_by part (has_ending part)

-- ---- it is not the index

index_by : (part : List ℕ) (is : Bool) → has_ending part ≡ is
    → (if is then escaped (front part) ++ codes ".html" else escaped part ++ codes "%.html") ≡ codes "index.html" → ⊥
unfolding has_ending
index_by part true e h =
    let same : escaped (front part) ≡ codes "index" = append_cancel_right (escaped (front part)) (codes "index") (codes ".html") h in
    let name : front part ≡ codes "index" = sym (unescaped (front part)) ∙ ap (unescaped_after 0) same in
    let whole : codes "index.gcg" ≡ part = ap (λ l. l ++ codes ".gcg") (sym name) ∙ with_ending part e in
    let ends : has_ending (codes "index.gcg") ≡ true = subst (λ l. has_ending l ≡ true) (sym whole) e in
    absurd cc
index_by part false e h =
    let moved : (escaped part ++ 37 ∷ []) ++ codes ".html" ≡ codes "index.html" = append_assoc (escaped part) (37 ∷ []) (codes ".html") ∙ h in
    let same : escaped part ++ 37 ∷ [] ≡ codes "index" = append_cancel_right (escaped part ++ 37 ∷ []) (codes "index") (codes ".html") moved in
    let closed : has_twos (codes "index") ≡ false = subst (λ l. has_twos l ≡ false) same (open_end (escaped part)) in
    absurd cc

pub page_no_index : (part : List ℕ) → page_text part ≡ codes "index.html" → ⊥
unfolding page_text
page_no_index part e = index_by part (has_ending part) refl e

-- a name whose ending is left out has one
pub has_four : (part : List ℕ) → has_ending part ≡ true → 4 ≤ length part
has_four part e =
    let whole : length (front part ++ codes ".gcg") ≡ length part = ap length (with_ending part e) in
    omega (arith, length-append (front part) (codes ".gcg"))
