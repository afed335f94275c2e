-- The shape of a walk, place by place.
use Rattle.std.proofs.Common.{◌≡◌, ◌≢◌, ℕ, zero, suc, ◌<◌, ◌≤◌, Bool, true, false, ◌&&◌, ◌==◌, not, nat_lt, if◌then◌else◌, List, [], ◌∷◌, length, get_or, slice_index_or, refl, sym, ap, ◌∙◌, arith}
use Rattle.std.proofs.lemmas.Bool.{eqb-true, eq-eqb, eqb-false, and_parts, and_from, not-true, not_from_false, false≢true}
use Rattle.gen_line.specs.declared.cells.Cell.{Cell}
use Rattle.gen_line.specs.declared.cells.Cell.TheVariants.{Old, Free}
use Rattle.gen_line.specs.declared.cells.Open.{Open}
use Rattle.gen_line.specs.Entries.{letter_of_entry, label_of_entry}
use Rattle.gen_line.specs.Cells.{cell_at, is_full, label_at, cell_ok}
use Rattle.gen_line.specs.Model.{zeros}
use Rattle.gen_line.proofs.Tests.{same}
use Rattle.gen_line.proofs.Meaning.{word, shape}

-- the labels of the first n places
abbrev pub spelt : List Cell → List ℕ → ℕ → List ℕ
spelt [] ys n = []
spelt (c ∷ cs) [] n = []
spelt (c ∷ cs) (e ∷ ys) zero = []
spelt (c ∷ cs) (e ∷ ys) (suc n) = label_at c e ∷ spelt cs ys n

-- the first len places are full, and after them there is no new tile
pub record Shaped (bar : Open → Bool) (cs : List Cell) (ys : List ℕ) (len : ℕ) : Type 0 where
  pub size : length ys ≡ length cs
  pub inside : len ≤ length cs
  pub full : (i : ℕ) → i < len → is_full (cell_at cs i) (get_or ys i 0) ≡ true
  pub ends : len < length cs → is_full (cell_at cs len) (get_or ys len 0) ≡ false
  pub ok : (i : ℕ) → i < len → cell_ok (cell_at cs i) (get_or ys i 0) ≡ true
  pub unbarred : (i : ℕ) (m : Open) → i < len → cell_at cs i ≡ Free m → get_or ys i 0 ≢ 0 → bar m ≡ false
  pub beyond : (i : ℕ) → len ≤ i → get_or ys i 0 ≡ 0

-- ---- no new tiles

zeros-size : (n : ℕ) (ys : List ℕ) → same ys (zeros n) ≡ true → length ys ≡ n
zeros-size zero [] e = refl
zeros-size zero (d ∷ ys) e = absurd (false≢true e)
zeros-size (suc n) [] e = absurd (false≢true e)
zeros-size (suc n) (d ∷ ys) e = ap suc (zeros-size n ys (and_parts (d == 0) (same ys (zeros n)) e).1)

zeros-at : (n : ℕ) (ys : List ℕ) → same ys (zeros n) ≡ true → (i : ℕ) → get_or ys i 0 ≡ 0
zeros-at n [] e i = refl
zeros-at zero (d ∷ ys) e i = absurd (false≢true e)
zeros-at (suc n) (d ∷ ys) e zero = eqb-true d 0 (and_parts (d == 0) (same ys (zeros n)) e).0
zeros-at (suc n) (d ∷ ys) e (suc i) = zeros-at n ys (and_parts (d == 0) (same ys (zeros n)) e).1 i

zeros-from : (ys : List ℕ) (n : ℕ) → length ys ≡ n → ((i : ℕ) → get_or ys i 0 ≡ 0) → same ys (zeros n) ≡ true
zeros-from [] zero size h = refl
zeros-from [] (suc n) size h = absurd (omega arith)
zeros-from (d ∷ ys) zero size h = absurd (omega arith)
zeros-from (d ∷ ys) (suc n) size h =
    and_from (d == 0) (same ys (zeros n)) (eq-eqb d 0 (h 0)) (zeros-from ys n (omega arith) (λ i. h (suc i)))

-- ---- one more place

record Starts (bar : Open → Bool) (c : Cell) (e : ℕ) : Type 0 where
  full : is_full c e ≡ true
  ok : cell_ok c e ≡ true
  unbarred : (m : Open) → c ≡ Free m → e ≢ 0 → bar m ≡ false

more : (bar : Open → Bool) (c : Cell) (cs : List Cell) (e : ℕ) (ys : List ℕ) (len : ℕ) → Starts bar c e → Shaped bar cs ys len → Shaped bar (c ∷ cs) (e ∷ ys) (suc len)
more bar c cs e ys len a s = record {
  size = let size = s.size in omega arith;
  inside = let inside = s.inside in omega arith;
  full = full;
  ends = λ h. s.ends (omega arith);
  ok = ok;
  unbarred = unbarred;
  beyond = beyond;
}
  where
    full : (i : ℕ) → i < suc len → is_full (cell_at (c ∷ cs) i) (get_or (e ∷ ys) i 0) ≡ true
    full zero h = a.full
    full (suc i) h = s.full i (omega arith)

    ok : (i : ℕ) → i < suc len → cell_ok (cell_at (c ∷ cs) i) (get_or (e ∷ ys) i 0) ≡ true
    ok zero h = a.ok
    ok (suc i) h = s.ok i (omega arith)

    unbarred : (i : ℕ) (m : Open) → i < suc len → cell_at (c ∷ cs) i ≡ Free m → get_or (e ∷ ys) i 0 ≢ 0 → bar m ≡ false
    unbarred zero m h is ne = a.unbarred m is ne
    unbarred (suc i) m h is ne = s.unbarred i m (omega arith) is ne

    beyond : (i : ℕ) → suc len ≤ i → get_or (e ∷ ys) i 0 ≡ 0
    beyond zero h = absurd (omega arith)
    beyond (suc i) h = s.beyond i (omega arith)

fewer : (bar : Open → Bool) (c : Cell) (cs : List Cell) (e : ℕ) (ys : List ℕ) (len : ℕ) → Shaped bar (c ∷ cs) (e ∷ ys) (suc len) → Shaped bar cs ys len
fewer bar c cs e ys len s = record {
  size = let size = s.size in omega arith;
  inside = let inside = s.inside in omega arith;
  full = λ i h. s.full (suc i) (omega arith);
  ends = λ h. s.ends (omega arith);
  ok = λ i h. s.ok (suc i) (omega arith);
  unbarred = λ i m h is ne. s.unbarred (suc i) m (omega arith) is ne;
  beyond = λ i h. s.beyond (suc i) (omega arith);
}

-- ---- the shape, place by place

old-starts : (bar : Open → Bool) (a e : ℕ) → (e == 0) ≡ true → Starts bar (Old a) e
old-starts bar a e z = record { full = refl; ok = z; unbarred = λ m is ne. cc }

free-starts : (bar : Open → Bool) (m : Open) (e : ℕ) → (e == 0) ≡ false → (not (bar m) && (nat_lt e 53 && slice_index_or m.mask (letter_of_entry e) false)) ≡ true → Starts bar (Free m) e
free-starts bar m e z h =
    let parts = and_parts (not (bar m)) (nat_lt e 53 && slice_index_or m.mask (letter_of_entry e) false) h in record {
      full = rw z;
      ok = rw z parts.1;
      unbarred = λ n is ne. let one : m ≡ n = cc in ap bar (sym one) ∙ not-true (bar m) parts.0;
    }

stops : (bar : Open → Bool) (m : Open) (cs : List Cell) (e : ℕ) (ys : List ℕ) → (e == 0) ≡ true → same ys (zeros (length cs)) ≡ true → Shaped bar (Free m ∷ cs) (e ∷ ys) 0
stops bar m cs e ys z none = record {
  size = ap suc (zeros-size (length cs) ys none);
  inside = omega arith;
  full = λ i h. absurd (omega arith);
  ends = λ h. rw z;
  ok = λ i h. absurd (omega arith);
  unbarred = λ i n h is ne. absurd (omega arith);
  beyond = beyond;
}
  where
    beyond : (i : ℕ) → 0 ≤ i → get_or (e ∷ ys) i 0 ≡ 0
    beyond zero h = eqb-true e 0 z
    beyond (suc i) h = zeros-at (length cs) ys none i

pub shaped : (bar : Open → Bool) (cs : List Cell) (ys : List ℕ) → shape bar cs ys ≡ true → (len : ℕ) × Shaped bar cs ys len × (word cs ys ≡ spelt cs ys len)
shaped bar [] [] e = (
  0,
  record {
    size = refl;
    inside = omega arith;
    full = λ i h. absurd (omega arith);
    ends = λ h. absurd (omega arith);
    ok = λ i h. absurd (omega arith);
    unbarred = λ i m h is ne. absurd (omega arith);
    beyond = λ i h. refl;
  },
  refl,
)
shaped bar [] (d ∷ ys) e = absurd (false≢true e)
shaped bar (Old a ∷ cs) [] e = absurd (false≢true e)
shaped bar (Old a ∷ cs) (d ∷ ys) e =
    let parts = and_parts (d == 0) (shape bar cs ys) e in
    let rest = shaped bar cs ys parts.1 in
    (suc rest.0, more bar (Old a) cs d ys rest.0 (old-starts bar a d parts.0) rest.1, ap (λ (l : List ℕ). a ∷ l) rest.2)
shaped bar (Free m ∷ cs) [] e = absurd (false≢true e)
shaped bar (Free m ∷ cs) (d ∷ ys) e = by (d == 0) refl e (shaped bar cs ys)
  where
    by : (b : Bool) → (d == 0) ≡ b
        → (if b then same ys (zeros (length cs)) else (not (bar m) && (nat_lt d 53 && slice_index_or m.mask (letter_of_entry d) false)) && shape bar cs ys) ≡ true
        → (shape bar cs ys ≡ true → (len : ℕ) × Shaped bar cs ys len × (word cs ys ≡ spelt cs ys len))
        → (len : ℕ) × Shaped bar (Free m ∷ cs) (d ∷ ys) len × ((if b then [] else label_of_entry d ∷ word cs ys) ≡ spelt (Free m ∷ cs) (d ∷ ys) len)
    by true z h rest = (0, stops bar m cs d ys z h, refl)
    by false z h rest =
        let parts = and_parts (not (bar m) && (nat_lt d 53 && slice_index_or m.mask (letter_of_entry d) false)) (shape bar cs ys) h in
        let then' = rest parts.1 in
        (suc then'.0, more bar (Free m) cs d ys then'.0 (free-starts bar m d z parts.0) then'.1, ap (λ (l : List ℕ). label_of_entry d ∷ l) then'.2)

pub shape_from : (bar : Open → Bool) (cs : List Cell) (ys : List ℕ) (len : ℕ) → Shaped bar cs ys len → (shape bar cs ys ≡ true) × (word cs ys ≡ spelt cs ys len)
shape_from bar [] [] len s = (refl, refl)
shape_from bar [] (d ∷ ys) len s = let size = s.size in absurd (omega arith)
shape_from bar (c ∷ cs) [] len s = let size = s.size in absurd (omega arith)
shape_from bar (Old a ∷ cs) (d ∷ ys) zero s = absurd (false≢true (sym (s.ends (omega arith))))
shape_from bar (Old a ∷ cs) (d ∷ ys) (suc len) s =
    let rest = shape_from bar cs ys len (fewer bar (Old a) cs d ys len s) in
    (and_from (d == 0) (shape bar cs ys) (s.ok 0 (omega arith)) rest.0, ap (λ (l : List ℕ). a ∷ l) rest.1)
shape_from bar (Free m ∷ cs) (d ∷ ys) zero s =
    let z = eq-eqb d 0 (s.beyond 0 (omega arith)) in
    let size = s.size in
    (rw z (zeros-from ys (length cs) (omega arith) (λ i. s.beyond (suc i) (omega arith))), rw z)
shape_from bar (Free m ∷ cs) (d ∷ ys) (suc len) s =
    let rest = shape_from bar cs ys len (fewer bar (Free m) cs d ys len s) in
    let z = not-true (d == 0) (s.full 0 (omega arith)) in
    let ok = rw z at (s.ok 0 (omega arith)) in
    let open_to = s.unbarred 0 m (omega arith) refl (eqb-false d 0 z) in (
      rw z
          (and_from (not (bar m) && (nat_lt d 53 && slice_index_or m.mask (letter_of_entry d) false)) (shape bar cs ys)
          (and_from (not (bar m)) (nat_lt d 53 && slice_index_or m.mask (letter_of_entry d) false) (not_from_false (bar m) open_to) ok) rest.0),
      rw z (ap (λ (l : List ℕ). label_of_entry d ∷ l) rest.1),
    )
