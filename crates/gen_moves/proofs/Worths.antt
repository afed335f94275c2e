-- The points of the tiles that a placement takes from a rack.
use Rattle.std.proofs.Common.{◌≡◌, ℕ, zero, suc, ◌+◌, ◌-◌, ◌*◌, ◌<◌, ◌≤◌, ◌==◌, Bool, List, [], ◌∷◌, get_or, sum_by, refl, sym, ap, ◌∙◌, arith, ⊎_elim, if◌then◌else◌}
use Rattle.std.specs.Prelude.{slice_index}
use Rattle.std.proofs.lemmas.List.Sums.{sum_by-cons}
use Rattle.std.proofs.lemmas.Bool.{cases_eq, eq-eqb, ne_eqb}
use Rattle.std.proofs.Math.Nat.{mul-le-mul}
use Rattle.ref_tiles.specs.declared.rulebook.Rules.{Rules}
use Rattle.ref_tiles.specs.declared.kinds.Kind.{Kind}
use Rattle.ref_tiles.specs.declared.kinds.Kind.TheVariants as kind
use Rattle.ref_tiles.specs.Kinds.{number_of}
use Rattle.ref_tiles.specs.Rulebook.{points_of}
use Rattle.ref_play.specs.declared.placed.Placed.{Placed}
use Rattle.ref_play.specs.Candidates.{used}
use Rattle.gen_moves.specs.Bounds.{total, kind_points, rack_points, kind_one, rack_ones}
use Rattle.gen_moves.proofs.Sums.{total-mono, total-same}

-- the points of a tile of a placement above one
abbrev pub worth : Rules → Placed → ℕ
worth rules p = points_of rules p.tile.kind - 1

points_by_number : (rules : Rules) (k : Kind) → points_of rules k - 1 ≡ kind_points rules (number_of k)
points_by_number rules (kind.Letter l) =
    let low = l.in_range in
    let other = ne_eqb l.index 26 (omega arith) in
    sym (ap (λ (b : Bool). (if b then 0 else slice_index rules.points l.index) - 1) other)
points_by_number rules kind.Blank = refl

number_low : (k : Kind) → number_of k < 27
number_low (kind.Letter l) = let low = l.in_range in omega arith
number_low kind.Blank = omega arith

-- one more tile of a kind
one_more : (f : ℕ → ℕ) (w : ℕ → ℕ) (k n : ℕ) → (k < n → total (λ j. ((if k == j then 1 else 0) + f j) * w j) 0 n ≡ w k + total (λ j. f j * w j) 0 n)
    × (n ≤ k → total (λ j. ((if k == j then 1 else 0) + f j) * w j) 0 n ≡ total (λ j. f j * w j) 0 n)
unfolding total
one_more f w k zero = (λ lt. absurd (omega arith), λ le. refl)
one_more f w k (suc n) =
    let fewer = one_more f w k n in
    ⊎_elim
    (λ (e : k ≡ n).
    let same = eq-eqb k n e in
    let at : ((if k == n then 1 else 0) + f n) * w n ≡ w n + f n * w n = ap (λ (b : Bool). ((if b then 1 else 0) + f n) * w n) same ∙ omega arith in
    let before = fewer.1 (omega arith) in
    let here = ap w e in
    let zero_n : 0 + n ≡ n = omega arith in
    (λ lt. rw zero_n (omega arith), λ le. absurd (omega arith)))
    (λ (ne : k ≡ n → ⊥).
    let other = ne_eqb k n ne in
    let at : ((if k == n then 1 else 0) + f n) * w n ≡ f n * w n = ap (λ (b : Bool). ((if b then 1 else 0) + f n) * w n) other ∙ omega arith in
    let zero_n : 0 + n ≡ n = omega arith in
    (λ lt. let before = fewer.0 (omega arith) in rw zero_n (omega arith), λ le. let before = fewer.1 (omega arith) in rw zero_n (omega arith)))
    (cases_eq k n)

none_used : (w : ℕ → ℕ) (n : ℕ) → total (λ j. 0 * w j) 0 n ≡ 0
unfolding total
none_used w zero = refl
none_used w (suc n) = let fewer = none_used w n in omega arith

-- the sum of what the tiles of a placement count, if each counts what its kind does
sum_by_kinds : (value : Placed → ℕ) (each : ℕ → ℕ) → ((p : Placed) → value p ≡ each (number_of p.tile.kind)) → (ps : List Placed)
    → sum_by value ps ≡ total (λ k. used ps k * each k) 0 27
sum_by_kinds value each same [] = sym (none_used each 27)
sum_by_kinds value each same (p ∷ ps) =
    sum_by-cons value p ps
    ∙ ap (λ m. value p + m) (sum_by_kinds value each same ps)
    ∙ ap (λ m. m + total (λ k. used ps k * each k) 0 27) (same p)
    ∙ sym ((one_more (used ps) each (number_of p.tile.kind) 27).0 (number_low p.tile.kind))
    ∙ sym (total-same (λ k. used (p ∷ ps) k * each k) (λ k. ((if number_of p.tile.kind == k then 1 else 0) + used ps k) * each k) 0 27
    (λ k low high. ap (λ m. m * each k) (sum_by-cons (λ (q : Placed). if number_of q.tile.kind == k then 1 else 0) p ps)))

-- tiles that are on the rack count at most what the rack counts
sum_within : (value : Placed → ℕ) (each : ℕ → ℕ) → ((p : Placed) → value p ≡ each (number_of p.tile.kind)) → (rack : List ℕ) (ps : List Placed)
    → ((k : ℕ) → used ps k ≤ slice_index rack k) → sum_by value ps ≤ total (λ k. slice_index rack k * each k) 0 27
sum_within value each same rack ps from =
    let e = sum_by_kinds value each same ps in
    let le = total-mono (λ k. used ps k * each k) (λ k. slice_index rack k * each k) 0 27 (λ k low high. mul-le-mul (from k) (omega arith)) in
    omega arith

-- tiles that are on the rack have at most the rack's points above one
pub worth_within : (rules : Rules) (rack : List ℕ) (ps : List Placed) → ((k : ℕ) → used ps k ≤ slice_index rack k) → sum_by (worth rules) ps ≤ rack_points rules rack 27
unfolding rack_points
worth_within rules rack ps from = sum_within (worth rules) (kind_points rules) (λ p. points_by_number rules p.tile.kind) rack ps from

-- ---- one for each tile that has points
abbrev pub one : Rules → Placed → ℕ
one rules p = points_of rules p.tile.kind - (points_of rules p.tile.kind - 1)

one_by_number : (rules : Rules) (k : Kind) → points_of rules k - (points_of rules k - 1) ≡ kind_one rules (number_of k)
one_by_number rules (kind.Letter l) =
    let low = l.in_range in
    let other = ne_eqb l.index 26 (omega arith) in
    sym (ap (λ (b : Bool). (if b then 0 else slice_index rules.points l.index) - ((if b then 0 else slice_index rules.points l.index) - 1)) other)
one_by_number rules kind.Blank = refl

-- at most as many of them are laid as the rack has
pub ones_within : (rules : Rules) (rack : List ℕ) (ps : List Placed) → ((k : ℕ) → used ps k ≤ slice_index rack k) → sum_by (one rules) ps ≤ rack_ones rules rack 27
unfolding rack_ones
ones_within rules rack ps from = sum_within (one rules) (kind_one rules) (λ p. one_by_number rules p.tile.kind) rack ps from

-- ---- kind by kind
kinds_more : (rack : List ℕ) (each : ℕ → ℕ) (k value : ℕ) → each k ≡ value
    → total (λ j. get_or rack j 0 * each j) 0 (k + 1) ≡ total (λ j. get_or rack j 0 * each j) 0 k + get_or rack k 0 * value
unfolding total
kinds_more rack each k value is =
    let next : k + 1 ≡ suc k = omega arith in
    let at : 0 + k ≡ k = omega arith in
    ap (λ n. total (λ j. get_or rack j 0 * each j) 0 n) next
    ∙ ap (λ i. total (λ j. get_or rack j 0 * each j) 0 k + get_or rack i 0 * each i) at
    ∙ ap (λ m. total (λ j. get_or rack j 0 * each j) 0 k + get_or rack k 0 * m) is

pub ones_none : (rules : Rules) (rack : List ℕ) → rack_ones rules rack 0 ≡ 0
unfolding rack_ones total
ones_none rules rack = refl

pub ones_more : (rules : Rules) (rack : List ℕ) (k : ℕ) → k < 26
    → rack_ones rules rack (k + 1) ≡ rack_ones rules rack k + get_or rack k 0 * (get_or rules.points k 0 - (get_or rules.points k 0 - 1))
unfolding rack_ones
ones_more rules rack k few =
    kinds_more rack (kind_one rules) k (get_or rules.points k 0 - (get_or rules.points k 0 - 1))
    (ap (λ (b : Bool). (if b then 0 else get_or rules.points k 0) - ((if b then 0 else get_or rules.points k 0) - 1)) (ne_eqb k 26 (omega arith)))

pub ones_all : (rules : Rules) (rack : List ℕ) → rack_ones rules rack 26 ≡ rack_ones rules rack 27
unfolding rack_ones total
ones_all rules rack = let none : get_or rack 26 0 * 0 ≡ 0 = omega arith in omega arith

pub rack_none : (rules : Rules) (rack : List ℕ) → rack_points rules rack 0 ≡ 0
unfolding rack_points total
rack_none rules rack = refl

pub rack_more : (rules : Rules) (rack : List ℕ) (k : ℕ) → k < 26 → rack_points rules rack (k + 1) ≡ rack_points rules rack k + get_or rack k 0 * (get_or rules.points k 0 - 1)
unfolding rack_points
rack_more rules rack k few =
    kinds_more rack (kind_points rules) k (get_or rules.points k 0 - 1) (ap (λ (b : Bool). (if b then 0 else get_or rules.points k 0) - 1) (ne_eqb k 26 (omega arith)))

-- blanks have no points
pub rack_all : (rules : Rules) (rack : List ℕ) → rack_points rules rack 26 ≡ rack_points rules rack 27
unfolding rack_points total
rack_all rules rack = let none : get_or rack 26 0 * 0 ≡ 0 = omega arith in omega arith
