-- A move covers no place on which no tile of the rack can be laid.
use Rattle.std.proofs.Common.{◌≡◌, ◌≢◌, ℕ, zero, suc, ◌+◌, ◌<◌, ◌≤◌, ◌==◌, ◌&&◌, ◌||◌, not, nat_lt, Bool, true, false, List, [], ◌∷◌, length, get_or, slice_index_or, refl, sym, ap, ◌∙◌, arith, ⊎_elim, if◌then◌else◌}
use Rattle.std.proofs.lemmas.Bool.{cases_Bool, and_parts, ne_eqb, eq-eqb, lt-ltb, ltb-true, true≢false, false≢true}
use Rattle.gen_line.specs.declared.cells.Cell.{Cell}
use Rattle.gen_line.specs.declared.cells.Cell.TheVariants.{Old, Free}
use Rattle.gen_line.specs.declared.cells.Open.{Open}
use Rattle.gen_line.specs.Entries.{letter_of_entry, kind_of_entry, is_blank_entry, uses}
use Rattle.gen_line.specs.Cells.{cell_at, cell_ok, is_full}
use Rattle.gen_line.specs.Moves.{IsMove}
use Rattle.gen_moves.specs.Closing.{lays, IsClosed, AreOpen, IsPassable}

-- the tile of an entry is used
uses_at : (y : List ℕ) (i : ℕ) → i < length y → get_or y i 0 ≢ 0 → 1 ≤ uses (kind_of_entry (get_or y i 0)) y
uses_at [] i low some = absurd (omega (arith, low))
uses_at (e ∷ y) zero low some = rw (ne_eqb e 0 some, eq-eqb (kind_of_entry e) (kind_of_entry e) refl) (omega arith)
uses_at (e ∷ y) (suc i) low some =
    let more = uses_at y i (omega (arith, low)) some in
    by (e == 0) (uses (kind_of_entry (get_or y i 0)) y) (if kind_of_entry e == kind_of_entry (get_or y i 0) then 1 else 0) more
  where
    by : (b : Bool) (n one : ℕ) → 1 ≤ n → 1 ≤ (if b then n else one + n)
    by true n one le = le
    by false n one le = omega (arith, le)

or_true : (b : Bool) → (b || true) ≡ true
or_true true = refl
or_true false = refl

-- a rack that has the tile of an entry, or a blank, lays its letter if the square allows it
lays_entry : (m : Open) (rack : List ℕ) (e : ℕ) → slice_index_or m.mask (letter_of_entry e) false ≡ true → 1 ≤ get_or rack (kind_of_entry e) 0 → lays m rack (letter_of_entry e) ≡ true
lays_entry m rack e allowed has = by (is_blank_entry e) refl
  where
    by : (b : Bool) → is_blank_entry e ≡ b → lays m rack (letter_of_entry e) ≡ true
    by true blank =
        let have : 1 ≤ get_or rack 26 0 = let k = ap (λ (c : Bool). get_or rack (if c then 26 else letter_of_entry e) 0) blank in omega (arith, has, k) in
        rw (allowed, lt-ltb 0 (get_or rack 26 0) have) (or_true (nat_lt 0 (get_or rack (letter_of_entry e) 0)))
    by false tile =
        let have : 1 ≤ get_or rack (letter_of_entry e) 0 = let k = ap (λ (c : Bool). get_or rack (if c then 26 else letter_of_entry e) 0) tile in omega (arith, has, k) in
        rw (allowed, lt-ltb 0 (get_or rack (letter_of_entry e) 0) have) refl

-- so no place of its stretch is closed
never_closed : (listed : List ℕ → Bool) (line : List Cell) (rack y : List ℕ) (first len : ℕ) → IsMove listed line rack y first len
    → (i : ℕ) → i < 15 → first ≤ i → i < first + len → (c : Cell) → cell_at line i ≡ c → IsClosed rack c → ⊥
never_closed listed line rack y first len move i on low high (Old a) is closed = closed
never_closed listed line rack y first len move i on low high (Free m) is closed =
    let e = get_or y i 0 in
    let full : is_full (Free m) e ≡ true = ap (λ (c : Cell). is_full c e) (sym is) ∙ move.whole.filled i low high in
    let some : e ≢ 0 = λ z. false≢true (sym (ap not (eq-eqb e 0 z)) ∙ full) in
    let ok : cell_ok (Free m) e ≡ true = ap (λ (c : Cell). cell_ok c e) (sym is) ∙ move.allowed i on in
    let parts = and_parts (nat_lt e 53) (slice_index_or m.mask (letter_of_entry e) false) (sym (ap (λ (b : Bool). b || (nat_lt e 53 && slice_index_or m.mask (letter_of_entry e) false)) (ne_eqb e 0 some)) ∙ ok) in
    let below : e < 53 = ltb-true e 53 parts.0 in
    let used = uses_at y i (omega (arith, on, move.size)) some in
    let has = move.fits (kind_of_entry e) in
    true≢false (sym (lays_entry m rack e parts.1 (omega (arith, used, has))) ∙ closed (letter_of_entry e) (omega (arith, below)))

pub passes_open : (listed : List ℕ → Bool) (line : List Cell) (rack y : List ℕ) (first len : ℕ) → IsMove listed line rack y first len
    → (opens : ℕ → Bool) → AreOpen line rack opens → IsPassable opens first len
passes_open listed line rack y first len move opens are i low high =
    let inside = move.whole.inside in
    ⊎_elim
    (λ (passable : opens i ≡ true). passable)
    (λ (closed : opens i ≡ false).
    absurd (never_closed listed line rack y first len move i (omega (arith, high, inside)) low high (cell_at line i) refl (are i (omega (arith, high, inside)) closed)))
    (cases_Bool (opens i))
