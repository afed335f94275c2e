-- Sums and products of scores.
use Rattle.std.proofs.Common.{◌≡◌, ℕ, suc, ◌+◌, ◌*◌, ◌^◌, ◌<◌, ◌≤◌, List, [], ◌∷◌, ◌++◌, map, take, length, get_or, sum_by, refl, sym, ap, ◌∙◌, arith}
use Rattle.std.specs.List.{range_with_len}
use Rattle.std.proofs.lemmas.List.{map_more}
use Rattle.std.proofs.lemmas.List.Sums.{sum_by-append}
use Rattle.std.proofs.Math.Nat.{pow-suc, pow-le-pow_right, mul_assoc, add_comm, mul-le-mul}
use Rattle.ref_tiles.specs.declared.rulebook.Rules.{Rules}
use Rattle.ref_tiles.specs.declared.tiles.Tile.{Tile}
use Rattle.ref_board.specs.declared.directions.Dir.{Dir}
use Rattle.ref_board.specs.declared.directions.Dir.TheVariants.{Across, Down}
use Rattle.ref_play.specs.declared.placed.Placed.{Placed}
use Rattle.std.specs.Prelude.{Option}
use Rattle.ref_play.specs.Placements.{with_tiles}
use Rattle.ref_play.specs.Formed.{runs_along, runs_formed}
use Rattle.ref_play.specs.Scores.{product, run_score, bonus_score, score_of}
use Rattle.ref_play.proofs.Ranges.{range_push}

sum_one : (f : ℕ → ℕ) (n : ℕ) → sum_by f (n ∷ []) ≡ f n
sum_one f n = omega arith

pub sum_range_more : (f : ℕ → ℕ) (n : ℕ) → sum_by f (range_with_len 0 (n + 1)) ≡ sum_by f (range_with_len 0 n) + f n
sum_range_more f n =
    let next : n + 1 ≡ suc n = omega arith in
    let same : 0 + n ≡ n = omega arith in
    let last : sum_by f ((0 + n) ∷ []) ≡ f n = ap (λ k. sum_by f (k ∷ [])) same ∙ sum_one f n in
    ap (λ k. sum_by f (range_with_len 0 k)) next ∙ ap (sum_by f) (range_push 0 n) ∙ sum_by-append f (range_with_len 0 n) ((0 + n) ∷ [])
    ∙ ap (λ k. sum_by f (range_with_len 0 n) + k) last

product_push : (xs : List ℕ) (x : ℕ) → product (xs ++ x ∷ []) ≡ product xs * x
product_push [] x = omega arith
product_push (y ∷ ys) x = ap (λ k. y * k) (product_push ys x) ∙ sym (mul_assoc y (product ys) x)

pub factor_more : (f : Placed → ℕ) (ps : List Placed) (i : ℕ) (p : Placed) → i < length ps → p ≡ get_or ps i p
    → product (map f (take (i + 1) ps)) ≡ product (map f (take i ps)) * f p
factor_more f ps i p within is =
    ap product (map_more f ps i p within) ∙ product_push (map f (take i ps)) (f (get_or ps i p)) ∙ ap (λ q. product (map f (take i ps)) * f q) (sym is)

pub factor_limit : (i n f : ℕ) → n ≤ 3 ^ i → f ≤ 3 → n * f ≤ 3 ^ (i + 1)
factor_limit i n f h g =
    let next : i + 1 ≡ suc i = omega arith in
    rw (next, pow-suc) (mul-le-mul h g)

pub factors_limit : (i : ℕ) → i ≤ 7 → 3 ^ i ≤ 2187
factors_limit i h = pow-le-pow_right {n = 3} (omega arith) {i = i} {j = 7} h

-- the sum over the runs does not depend on the direction that comes first
pub score_is : (d : Dir) (rules : Rules) (board : List (Option Tile)) (ps : List Placed)
    → sum_by (run_score rules (with_tiles board ps) ps) (runs_formed d (with_tiles board ps) ps) + bonus_score rules ps ≡ score_of rules board ps
unfolding score_of
score_is Across rules board ps = refl
score_is Down rules board ps =
    let after = with_tiles board ps in
    let f = run_score rules after ps in
    let across = runs_along Across after ps in
    let down = runs_along Down after ps in
    ap (λ k. k + bonus_score rules ps) (sum_by-append f down across ∙ add_comm (sum_by f down) (sum_by f across) ∙ sym (sum_by-append f across down))

pub sum_as : {a b x y z : ℕ} → a ≡ x → b ≡ y → x + y ≡ z → a + b ≡ z
sum_as {a} {b} {x} {y} {z} h g e = ap (λ k. k + b) h ∙ ap (λ k. x + k) g ∙ e
