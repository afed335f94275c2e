-- A play put among those that are kept: its place, and that all of them stay legal.
use Rattle.std.proofs.Common.{◌≡◌, ℕ, zero, suc, ◌-◌, ◌<◌, ◌≤◌, ℤ, Bool, true, false, ◌&&◌, IsTrue, List, [], ◌∷◌, map, length, get_or, take, insert, take_all, refl, sym, ap, arith, Option, Some, None, is_none}
use Rattle.std.proofs.lemmas.Bool.{and_parts}
use Rattle.std.proofs.lemmas.List.Edits.{length-insert}
use Rattle.ref_tiles.specs.declared.tiles.Tile.{Tile}
use Rattle.ref_play.specs.declared.plays.Play.{Play}
use Rattle.ref_play.specs.declared.faults.PlayFault.{PlayFault}
use Rattle.ref_play.specs.Legality.{IsLegal, fault_of}
use Rattle.ref_play.proofs.LegalLaws.{no_fault-legal}
use Rattle.gen_sinks.specs.Ranks.{put_in}
use Rattle.gen_sinks.specs.Legals.{are_legal}

both : (s t : Bool) → s ≡ true → t ≡ true → (s && t) ≡ true
both s t e f = rw (e, f) refl

-- ---- the place of an element
module _ {A B : Type 0} (before : B → B → Bool) (f : A → B) (x : B) where
  -- an element comes before none of the first `i`, and before the next one if there is one
  pub put_there : (ys : List A) (i : ℕ) → i ≤ length ys → ((k : ℕ) (d : A) → k < i → before x (f (get_or ys k d)) ≡ false)
      → ((d : A) → i < length ys → before x (f (get_or ys i d)) ≡ true) → put_in before x (map f ys) ≡ insert (map f ys) i x
  put_there [] zero inside following first = refl
  put_there [] (suc i) inside following first = absurd (omega arith)
  put_there (y ∷ ys) zero inside following first = rw (first y (omega arith)) refl
  put_there (y ∷ ys) (suc i) inside following first =
      let rest = put_there ys i (omega arith) (λ k d lt. following (suc k) d (omega arith)) (λ d lt. first d (omega arith)) in
      rw (following 0 y (omega arith)) (ap (λ zs. f y ∷ zs) rest)

-- ---- room for an element
seen_take : {A B : Type 0} (f : A → B) (n : ℕ) (ys : List A) → map f (take n ys) ≡ take n (map f ys)
seen_take f zero ys = refl
seen_take f (suc n) [] = refl
seen_take f (suc n) (y ∷ ys) = ap (λ zs. f y ∷ zs) (seen_take f n ys)

-- the first `n` of a list with an element put in, as they are seen
pub seen_insert : {A B : Type 0} (f : A → B) (n : ℕ) (ys : List A) (i : ℕ) (a : A) → map f (take n (insert ys i a)) ≡ take n (insert (map f ys) i (f a))
seen_insert f zero ys i a = refl
seen_insert f (suc n) ys zero a = ap (λ zs. f a ∷ zs) (seen_take f n ys)
seen_insert f (suc n) [] (suc i) a = ap (λ zs. f a ∷ zs) (seen_take f n [])
seen_insert f (suc n) (y ∷ ys) (suc i) a = ap (λ zs. f y ∷ zs) (seen_insert f n ys i a)

-- in a full list the last element makes room
last_leaves : {A : Type 0} (m : ℕ) (ys : List A) (i : ℕ) (a : A) → length ys ≡ suc m → i ≤ m → insert (take m ys) i a ≡ take (suc m) (insert ys i a)
last_leaves m [] i a full inside = absurd (omega arith)
last_leaves m (y ∷ ys) zero a full inside = refl
last_leaves zero (y ∷ ys) (suc i) a full inside = absurd (omega arith)
last_leaves (suc m) (y ∷ ys) (suc i) a full inside = ap (λ zs. y ∷ zs) (last_leaves m ys i a (omega arith) (omega arith))

pub insert_full : {A : Type 0} (n : ℕ) (ys : List A) (i : ℕ) (a : A) → length ys ≡ n → i < n → insert (take (n - 1) ys) i a ≡ take n (insert ys i a)
insert_full zero ys i a full inside = absurd (omega arith)
insert_full (suc m) ys i a full inside =
    let less : suc m - 1 ≡ m = omega arith in rw less (last_leaves m ys i a full (omega arith))

-- in one that is not full there is room
pub insert_room : {A : Type 0} (n : ℕ) (ys : List A) (i : ℕ) (a : A) → length ys < n → i ≤ length ys → insert ys i a ≡ take n (insert ys i a)
insert_room n ys i a room inside = let long = length-insert ys i a inside in sym (take_all n (insert ys i a) (omega arith))

-- and after all of a full one there is none
pub insert_after : {A : Type 0} (n : ℕ) (ys : List A) (a : A) → length ys ≡ n → ys ≡ take n (insert ys n a)
insert_after zero [] a full = refl
insert_after zero (y ∷ ys) a full = absurd (omega arith)
insert_after (suc n) [] a full = absurd (omega arith)
insert_after (suc n) (y ∷ ys) a full = ap (λ zs. y ∷ zs) (insert_after n ys a (omega arith))

-- ---- plays that are legal
is_none-from : (o : Option PlayFault) → is_none o ≡ true → o ≡ None
is_none-from None e = refl
is_none-from (Some why) e = absurd (let h = e in cc)

legal_one : (board : List (Option Tile)) (p : Play × ℤ) → length board ≡ 225 → is_none (fault_of p.0.dir board p.0.tiles.items) ≡ true → IsLegal board p.0.tiles.items
legal_one board p size e = (no_fault-legal p.0.dir board p.0.tiles.items size p.0.proper).0 (is_none-from (fault_of p.0.dir board p.0.tiles.items) e)

pub legal_at : (board : List (Option Tile)) (kept : List (Play × ℤ)) (i : ℕ) (d : Play × ℤ) → length board ≡ 225 → IsTrue (are_legal board kept) → i < length kept
    → IsLegal board (get_or kept i d).0.tiles.items
unfolding are_legal
legal_at board [] i d size legal lt = absurd (omega arith)
legal_at board (p ∷ kept) zero d size legal lt =
    legal_one board p size (and_parts (is_none (fault_of p.0.dir board p.0.tiles.items)) (are_legal board kept) legal).0
legal_at board (p ∷ kept) (suc i) d size legal lt =
    legal_at board kept i d size (and_parts (is_none (fault_of p.0.dir board p.0.tiles.items)) (are_legal board kept) legal).1 (omega arith)

legal_test : (board : List (Option Tile)) (p : Play × ℤ) → length board ≡ 225 → IsLegal board p.0.tiles.items → is_none (fault_of p.0.dir board p.0.tiles.items) ≡ true
legal_test board p size legal = ap is_none ((no_fault-legal p.0.dir board p.0.tiles.items size p.0.proper).1 legal)

legal_front : (board : List (Option Tile)) (n : ℕ) (kept : List (Play × ℤ)) → IsTrue (are_legal board kept) → IsTrue (are_legal board (take n kept))
unfolding are_legal
legal_front board zero kept legal = refl
legal_front board (suc n) [] legal = refl
legal_front board (suc n) (p ∷ kept) legal =
    let test = is_none (fault_of p.0.dir board p.0.tiles.items) in
    let parts = and_parts test (are_legal board kept) legal in
    both test (are_legal board (take n kept)) parts.0 (legal_front board n kept parts.1)

legal_put : (board : List (Option Tile)) (kept : List (Play × ℤ)) (i : ℕ) (a : Play × ℤ) → IsTrue (are_legal board kept) → is_none (fault_of a.0.dir board a.0.tiles.items) ≡ true
    → IsTrue (are_legal board (insert kept i a))
unfolding are_legal
legal_put board kept zero a legal new = both (is_none (fault_of a.0.dir board a.0.tiles.items)) (are_legal board kept) new legal
legal_put board [] (suc i) a legal new = both (is_none (fault_of a.0.dir board a.0.tiles.items)) true new refl
legal_put board (p ∷ kept) (suc i) a legal new =
    let test = is_none (fault_of p.0.dir board p.0.tiles.items) in
    let parts = and_parts test (are_legal board kept) legal in
    both test (are_legal board (insert kept i a)) parts.0 (legal_put board kept i a parts.1 new)

-- the first `n` with a legal play put in are legal
pub legal_insert : (board : List (Option Tile)) (n : ℕ) (kept : List (Play × ℤ)) (i : ℕ) (a : Play × ℤ) → length board ≡ 225 → IsTrue (are_legal board kept)
    → IsLegal board a.0.tiles.items → IsTrue (are_legal board (take n (insert kept i a)))
legal_insert board n kept i a size legal new = legal_front board n (insert kept i a) (legal_put board kept i a legal (legal_test board a size new))
