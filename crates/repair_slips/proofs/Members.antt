-- What is in a list of lists, and what is true of all that is in one.
use Rattle.std.proofs.Common.{◌≡◌, ◌⊎◌, inl, inr, ℕ, zero, suc, ◌+◌, ◌<◌, ◌≤◌, Bool, true, false, List, [], ◌∷◌, ◌++◌, length, get_or, map, slice_get, All, Contains, Option, Some, None, refl, sym, ap, ◌∙◌, subst, arith, if◌then◌else◌}
use Rattle.std.specs.List.{flat_map, range_with_len}
use Rattle.std.proofs.lemmas.Bool.{cases_lt}
use Rattle.std.proofs.lemmas.List.{length-map}
use Rattle.std.proofs.lemmas.List.Elements.{All-nil, All-cons, All-append, Contains-append_left, Contains-append_right}
use Rattle.std.proofs.lemmas.Option.{same_Some}
use Rattle.ref_tiles.specs.declared.letters.Letter.{Letter}
use Rattle.ref_tiles.specs.declared.kinds.Kind.{Kind}
use Rattle.ref_tiles.specs.Letters.{letter_at}
use Rattle.ref_tiles.specs.Kinds.{kind_at}
use Rattle.ref_tiles.proofs.LetterLemmas.{letter_at_letter}
use Rattle.repair_slips.specs.Each.{lists_below, lists_to, for_next, on_letter, for_letter, for_letters, for_kind, for_kinds}

-- ---- in a list

pub contains_first : {A : Type 0} (x : A) (xs : List A) → Contains (x ∷ xs) x
contains_first x xs = (0, omega arith, refl)

pub contains_rest : {A : Type 0} (y : A) (xs : List A) (x : A) → Contains xs x → Contains (y ∷ xs) x
contains_rest y xs x there = Contains-append_right (y ∷ []) xs x there

get_map : {A B : Type 0} (f : A → B) (xs : List A) (k : ℕ) (d : A) → get_or (map f xs) k (f d) ≡ f (get_or xs k d)
get_map f [] k d = refl
get_map f (x ∷ xs) zero d = refl
get_map f (x ∷ xs) (suc k) d = get_map f xs k d

pub contains_map : {A B : Type 0} (f : A → B) (xs : List A) (x : A) → Contains xs x → Contains (map f xs) (f x)
contains_map f xs x there =
    let k = there.0 in
    let within = there.1 in
    let is = there.2 in
    let long = length-map xs f in
    (k, omega (arith, within, long), get_map f xs k x ∙ ap f is)

-- ---- in one of several lists

first_or_later : {A : Type 0} (f : ℕ → List A) (a n k : ℕ) (x : A) → a ≤ k → Contains (f k) x → (a < k → Contains (flat_map f (range_with_len (a + 1) n)) x) → (a < k) ⊎ (k ≤ a)
    → Contains (f a ++ flat_map f (range_with_len (a + 1) n)) x
first_or_later f a n k x from there later (inl following) = Contains-append_right (f a) (flat_map f (range_with_len (a + 1) n)) x (later following)
first_or_later {A} f a n k x from there later (inr here) =
    Contains-append_left (f a) (flat_map f (range_with_len (a + 1) n)) x (subst (λ (i : ℕ). Contains (f i) x) (omega (arith, from, here)) there)

in_range : {A : Type 0} (f : ℕ → List A) (a n k : ℕ) (x : A) → a ≤ k → k < a + n → Contains (f k) x → Contains (flat_map f (range_with_len a n)) x
in_range f a zero k x from below there = absurd (omega (arith, from, below))
in_range f a (suc n) k x from below there =
    first_or_later f a n k x from there (λ following. in_range f (a + 1) n k x (omega (arith, following)) (omega (arith, below)) there) (cases_lt a k)

pub contains_below : {A : Type 0} (f : ℕ → List A) (end k : ℕ) (x : A) → k < end → Contains (f k) x → Contains (lists_below f end) x
unfolding lists_below
contains_below f end k x below there = in_range f 0 end k x (omega arith) (omega (arith, below)) there

pub contains_letter : {A : Type 0} (f : Letter → List A) (l : Letter) (x : A) → Contains (f l) x → Contains (for_letters f) x
contains_letter f l x there = contains_below (for_letter f) 26 l.index x l.in_range (subst (λ (o : Option Letter). Contains (on_letter f o) x) (sym (letter_at_letter l)) there)

-- ---- true of all in several lists

all_range : {A : Type 0} (P : A → Type 0) (f : ℕ → List A) (a n : ℕ) → ((k : ℕ) → a ≤ k → k < a + n → All P (f k)) → All P (flat_map f (range_with_len a n))
all_range P f a zero each = All-nil P
all_range P f a (suc n) each =
    All-append P (f a) (flat_map f (range_with_len (a + 1) n)) (each a (omega arith) (omega arith))
    (all_range P f (a + 1) n (λ k from below. each k (omega (arith, from)) (omega (arith, below))))

pub all_below : {A : Type 0} (P : A → Type 0) (f : ℕ → List A) (end : ℕ) → ((k : ℕ) → k < end → All P (f k)) → All P (lists_below f end)
unfolding lists_below
all_below P f end each = all_range P f 0 end (λ k from below. each k (omega (arith, below)))

pub all_to : {A : Type 0} (P : A → Type 0) (f : ℕ → List A) (last : ℕ) → ((k : ℕ) → All P (f k)) → All P (lists_to f last)
all_to P f last each = all_below P (for_next f) last (λ k below. each (k + 1))

pub all_letters : {A : Type 0} (P : A → Type 0) (f : Letter → List A) → ((l : Letter) → All P (f l)) → All P (for_letters f)
all_letters {A} P f each = all_below P (for_letter f) 26 (λ k below. by_letter (letter_at k))
  where
    by_letter : (o : Option Letter) → All P (on_letter f o)
    by_letter None = All-nil P
    by_letter (Some l) = each l

pub all_kinds : {A : Type 0} (P : A → Type 0) (f : Kind → List A) → ((k : Kind) → All P (f k)) → All P (for_kinds f)
all_kinds P f each = all_below P (for_kind f) 27 (λ n below. each (kind_at n))

pub all_one : {A : Type 0} (P : A → Type 0) (x : A) → P x → All P (x ∷ [])
all_one P x is = All-cons P x [] is (All-nil P)

pub all_if : {A : Type 0} (P : A → Type 0) (b : Bool) (xs ys : List A) → All P xs → All P ys → All P (if b then xs else ys)
all_if P true xs ys first second = first
all_if P false xs ys first second = second

-- ---- at a place

pub slice_there : {A : Type 0} (front : List A) (x : A) (following : List A) (n : ℕ) → length front ≡ n → slice_get (front ++ x ∷ following) n ≡ Some x
slice_there [] x following n there = ap (slice_get (x ∷ following)) (sym there)
slice_there (y ∷ front) x following zero there = absurd (omega (arith, there))
slice_there (y ∷ front) x following (suc n) there = slice_there front x following n (omega (arith, there))

-- a list with an element at a place, in three parts
pub record IsAt {A : Type 0} (xs : List A) (n : ℕ) (x : A) : Type 0 where
  pub front : List A
  pub following : List A
  pub there : length front ≡ n
  pub is : xs ≡ front ++ x ∷ following

pub split_at : {A : Type 0} (xs : List A) (n : ℕ) (x : A) → slice_get xs n ≡ Some x → IsAt xs n x
split_at [] n x is = cc
split_at {A} (y ∷ ys) zero x is = record { front = []; following = ys; there = refl; is = ap (λ (z : A). z ∷ ys) (same_Some y x is) }
split_at {A} (y ∷ ys) (suc n) x is =
    let rest = split_at ys n x is in
    let long = rest.there in
    record { front = y ∷ rest.front; following = rest.following; there = omega (arith, long); is = ap (λ (zs : List A). y ∷ zs) rest.is }
