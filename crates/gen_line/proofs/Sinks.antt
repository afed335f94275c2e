-- What sinks took, list by list.
use Rattle.std.proofs.Common.{◌≡◌, ℕ, zero, suc, ◌+◌, ◌-◌, ◌<◌, ◌≤◌, List, [], ◌∷◌, ◌++◌, Result, Ok, Err, refl, sym, ap, ◌∙◌, subst, append_assoc, arith, ⊎_elim}
use Rattle.std.specs.Result.{IsErrAnd}
use Rattle.std.proofs.lemmas.Bool.{cases_eq}
use Rattle.gen_line.specs.Model.{join_range}
use Rattle.gen_line.specs.Walk.{add_all, Front, Took, Every}

-- ---- what holds for all

pub every-left : {X : Type 0} (P : X → Type 0) (xs ys : List X) → Every P (xs ++ ys) → Every P xs
every-left P [] ys h = tt
every-left P (x ∷ xs) ys h = (h.0, every-left P xs ys h.1)

pub every-right : {X : Type 0} (P : X → Type 0) (xs ys : List X) → Every P (xs ++ ys) → Every P ys
every-right P [] ys h = h
every-right P (x ∷ xs) ys h = every-right P xs ys h.1

pub every-same : {X : Type 0} (P : X → Type 0) (xs ys : List X) → xs ≡ ys → Every P xs → Every P ys
every-same P xs ys e h = subst (λ zs. Every P zs) e h

pub every-join : {X : Type 0} (P : X → Type 0) (f : ℕ → List X) (from n i : ℕ) → Every P (join_range f from n) → from ≤ i → i < from + n → Every P (f i)
every-join P f from zero i h low high = absurd (omega arith)
every-join P f from (suc n) i h low high =
    ⊎_elim
    (λ (e : i ≡ from + n). subst (λ j. Every P (f j)) (sym e) (every-right P (join_range f from n) (f (from + n)) h))
    (λ (ne : i ≡ from + n → ⊥). every-join P f from n i (every-left P (join_range f from n) (f (from + n)) h) low (omega arith))
    (cases_eq i (from + n))

-- ---- one list after another

pub add_all-append : {I X : Type 0} (add : I → X → I) (old : I) (xs ys : List X) → add_all add old (xs ++ ys) ≡ add_all add (add_all add old xs) ys
add_all-append add old [] ys = refl
add_all-append add old (x ∷ xs) ys = add_all-append add (add old x) xs ys

pub front-more : {I X : Type 0} (add : I → X → I) (old : I) (xs ys : List X) (mid new : I) → mid ≡ add_all add old xs → Front add mid ys new → Front add old (xs ++ ys) new
front-more add old xs ys mid new e h = record {
  front = xs ++ h.front;
  rest = h.rest;
  parts = ap (λ zs. xs ++ zs) h.parts ∙ sym (append_assoc xs h.front h.rest);
  items = h.items ∙ ap (λ items. add_all add items h.front) e ∙ sym (add_all-append add old xs h.front);
}

pub front-less : {I X : Type 0} (add : I → X → I) (old : I) (xs ys : List X) (new : I) → Front add old xs new → Front add old (xs ++ ys) new
front-less add old xs ys new h = record {
  front = h.front;
  rest = h.rest ++ ys;
  parts = ap (λ zs. zs ++ ys) h.parts ∙ append_assoc h.front h.rest ys;
  items = h.items;
}

pub took-more : {I X U E : Type 0} (add : I → X → I) (old : I) (xs ys : List X) (mid new : I) (r : Result U E) → mid ≡ add_all add old xs → Took add mid ys new r → Took add old (xs ++ ys) new r
took-more add old xs ys mid new (Ok u) e h = h ∙ ap (λ items. add_all add items ys) e ∙ sym (add_all-append add old xs ys)
took-more add old xs ys mid new (Err why) e h = front-more add old xs ys mid new e h

-- if there was nothing to take, the sink has what it had
pub nothing-took : {I X : Type 0} (add : I → X → I) (old : I) (xs : List X) → xs ≡ [] → old ≡ add_all add old xs
nothing-took add old xs e = ap (add_all add old) (sym e)

pub took-same : {I X U E : Type 0} (add : I → X → I) (old : I) (xs ys : List X) (new : I) (r : Result U E) → xs ≡ ys → Took add old ys new r → Took add old xs new r
took-same add old xs ys new r e h = subst (λ zs. Took add old zs new r) (sym e) h

pub all-same : {I X : Type 0} (add : I → X → I) (old : I) (xs ys : List X) (new : I) → xs ≡ ys → new ≡ add_all add old ys → new ≡ add_all add old xs
all-same add old xs ys new e h = subst (λ zs. new ≡ add_all add old zs) (sym e) h

pub front-same : {I X : Type 0} (add : I → X → I) (old : I) (xs ys : List X) (new : I) → xs ≡ ys → Front add old ys new → Front add old xs new
front-same add old xs ys new e h = subst (λ zs. Front add old zs new) (sym e) h

-- a refused sink has a front
pub took-refused : {I X U E : Type 0} (Q : E → Type 0) (add : I → X → I) (old : I) (xs : List X) (new : I) (r : Result U E) → IsErrAnd r Q → Front add old xs new → Took add old xs new r
took-refused Q add old xs new (Ok u) refused h = absurd refused
took-refused Q add old xs new (Err why) refused h = h

-- ---- sinks that were made for the same

pub every-for : {P X : Type 0} (can : P → X → Type 0) (p q : P) (xs : List X) → q ≡ p → Every (can p) xs → Every (can q) xs
every-for can p q xs e h = subst (λ r. Every (can r) xs) (sym e) h

pub took-for : {P I X U E : Type 0} (report : P → I → X → I) (p q : P) (old : I) (xs : List X) (new : I) (r : Result U E) → q ≡ p → Took (report q) old xs new r → Took (report p) old xs new r
took-for report p q old xs new r e h = subst (λ o. Took (report o) old xs new r) e h

pub front-for : {P I X : Type 0} (report : P → I → X → I) (p q : P) (old : I) (xs : List X) (new : I) → q ≡ p → Front (report q) old xs new → Front (report p) old xs new
front-for report p q old xs new e h = subst (λ o. Front (report o) old xs new) e h

pub all-for : {P I X : Type 0} (report : P → I → X → I) (p q : P) (old : I) (xs : List X) (new : I) → q ≡ p → new ≡ add_all (report q) old xs → new ≡ add_all (report p) old xs
all-for report p q old xs new e h = subst (λ o. new ≡ add_all (report o) old xs) e h

-- ---- one list of a range after the others

pub range-more : {I X : Type 0} (add : I → X → I) (f : ℕ → List X) (from n : ℕ) (old mid new : I) → mid ≡ add_all add old (join_range f from n) → new ≡ add_all add mid (f (from + n)) → new ≡ add_all add old (join_range f from (suc n))
range-more add f from n old mid new e h =
    h ∙ ap (λ items. add_all add items (f (from + n))) e ∙ sym (add_all-append add old (join_range f from n) (f (from + n)))

range-front : {I X : Type 0} (add : I → X → I) (f : ℕ → List X) (from n m : ℕ) (old mid new : I) → m < n → mid ≡ add_all add old (join_range f from m) → Front add mid (f (from + m)) new → Front add old (join_range f from n) new
range-front add f from zero m old mid new less e h = absurd (omega arith)
range-front add f from (suc n) m old mid new less e h =
    ⊎_elim
    (λ (same : m ≡ n).
    subst (λ j. Front add old (join_range f from (suc j)) new) same (front-more add old (join_range f from m) (f (from + m)) mid new e h))
    (λ (ne : m ≡ n → ⊥). front-less add old (join_range f from n) (f (from + n)) new (range-front add f from n m old mid new (omega arith) e h))
    (cases_eq m n)

-- the entries of a loop over all of them

pub loop-items : {I X : Type 0} (add : I → X → I) (f : ℕ → List X) (e : ℕ) (old mid new : I) → 0 < e → mid ≡ add_all add old (join_range f 1 (e - 1)) → new ≡ add_all add mid (f e) → new ≡ add_all add old (join_range f 1 (e + 1 - 1))
loop-items add f e old mid new some items h =
    let at : 1 + (e - 1) ≡ e = omega arith in
    let next : e + 1 - 1 ≡ suc (e - 1) = omega arith in
    let more : new ≡ add_all add old (join_range f 1 (suc (e - 1))) = range-more add f 1 (e - 1) old mid new items (subst (λ j. new ≡ add_all add mid (f j)) (sym at) h) in
    subst (λ j. new ≡ add_all add old (join_range f 1 j)) (sym next) more

pub loop-front : {I X : Type 0} (add : I → X → I) (f : ℕ → List X) (e : ℕ) (old mid new : I) → 0 < e → e < 53 → mid ≡ add_all add old (join_range f 1 (e - 1)) → Front add mid (f e) new → Front add old (join_range f 1 52) new
loop-front add f e old mid new some few items h =
    let at : 1 + (e - 1) ≡ e = omega arith in
    range-front add f 1 52 (e - 1) old mid new (omega arith) items (subst (λ j. Front add mid (f j) new) (sym at) h)

pub loop-all : {I X : Type 0} (add : I → X → I) (f : ℕ → List X) (e : ℕ) (old new : I) → 53 ≤ e → e ≤ 53 → new ≡ add_all add old (join_range f 1 (e - 1)) → new ≡ add_all add old (join_range f 1 52)
loop-all add f e old new low high h =
    let last : e - 1 ≡ 52 = omega arith in
    subst (λ j. new ≡ add_all add old (join_range f 1 j)) last h

-- the first elements

pub first-front : {I X : Type 0} (add : I → X → I) (f : ℕ → List X) (n m : ℕ) (old mid new : I) → m < n → mid ≡ add_all add old (join_range f 0 m) → Front add mid (f m) new → Front add old (join_range f 0 n) new
first-front add f n m old mid new few items h =
    let at : 0 + m ≡ m = omega arith in
    range-front add f 0 n m old mid new few items (subst (λ j. Front add mid (f j) new) (sym at) h)

pub first-all : {I X : Type 0} (add : I → X → I) (f : ℕ → List X) (n m : ℕ) (old new : I) → m ≡ n → new ≡ add_all add old (join_range f 0 m) → new ≡ add_all add old (join_range f 0 n)
first-all add f n m old new e h = subst (λ j. new ≡ add_all add old (join_range f 0 j)) e h

-- elements that change nothing, one after another
pub all-still : {I X : Type 0} (add : I → X → I) (old : I) (P : X → Type 0) (xs : List X) → ((x : X) → P x → add old x ≡ old) → Every P xs → old ≡ add_all add old xs
all-still add old P [] still h = refl
all-still add old P (x ∷ xs) still h = all-still add old P xs still h.1 ∙ ap (λ items. add_all add items xs) (sym (still x h.0))
