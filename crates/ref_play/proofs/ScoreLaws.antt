-- The score of a play: that of the run along it, those of the cross runs, each by the board and its new tile, and the bonus.
use Rattle.std.proofs.Common.{◌≡◌, ℕ, zero, suc, ◌+◌, ◌-◌, ◌*◌, ◌<◌, ◌≤◌, true, false, nat_lt, List, [], ◌∷◌, map, length, sum_by, refl, sym, ap, ◌∙◌, subst, arith, ⊎_elim, Option, Some, None}
use Rattle.std.specs.Prelude.{Contains}
use Rattle.std.specs.List.{flat_map, range_with_len, list_all}
use Rattle.std.proofs.lemmas.List.Elements.{All-contains, All-contains_itself}
use Rattle.std.proofs.lemmas.List.Sums.{sum_by-cons, sum_by-append}
use Rattle.std.proofs.lemmas.Bool.{cases_eq, and_parts, ltb-true, false_from_ne_true}
use Rattle.ref_tiles.specs.declared.tiles.Tile.{Tile}
use Rattle.ref_tiles.specs.declared.rulebook.Rules.{Rules}
use Rattle.ref_tiles.specs.Rulebook.{points_of, premium_at, letter_factor, word_factor}
use Rattle.ref_board.specs.declared.directions.Dir.{Dir}
use Rattle.ref_board.specs.Lines.{line_of, place_of, square_at, other_dir}
use Rattle.ref_board.specs.Cells.{tile_at, with_tile}
use Rattle.ref_play.specs.declared.placed.Placed.{Placed}
use Rattle.ref_play.specs.declared.runs.Run.{Run}
use Rattle.ref_play.specs.Placements.{is_play, are_rising, with_tiles, covers}
use Rattle.ref_play.specs.Formed.{along, run_of, is_on, runs_through}
use Rattle.ref_play.specs.Legality.{IsLegal}
use Rattle.ref_play.specs.Scores.{product, points_on, square_points, factor_in, letters_score, words_factor, run_score, bonus_score, score_of}
use Rattle.ref_play.specs.Crosses.{old_points, cross_score}
use Rattle.ref_play.proofs.RangeLaws.{Contains-here, Contains-there, Contains-cases, list_all-in}
use Rattle.ref_play.proofs.LineLaws.{line_of-square_at, place_of-square_at, square_at-of, line_below}
use Rattle.ref_play.proofs.RunLaws.{is_on-parts, is_on-from}
use Rattle.ref_play.proofs.PlaceLaws.{is_play-parts, on_board}
use Rattle.ref_play.proofs.FormedRuns.{none_contained, covering, covered, laid_from, runs_of_play}
use Rattle.ref_play.proofs.ScoreLemmas.{score_is}
use Rattle.ref_play.proofs.Taking.{with-kept}
use Rattle.ref_play.proofs.Agreeing.{sum_agree, All-range, IsStretch, runs_are, run_place, runs_agree}
use Rattle.ref_play.proofs.Crossing.{tile_there, one_across, cross_line_is}

-- two sums over a range that differ at one place
sum_one_more : (f g : ℕ → ℕ) (c a n m : ℕ) → a ≤ m → m < a + n → ((k : ℕ) → a ≤ k → k < a + n → (k ≡ m → ⊥) → f k ≡ g k) → f m ≡ g m + c
    → sum_by f (range_with_len a n) ≡ sum_by g (range_with_len a n) + c
sum_one_more f g c a zero m low high same here = absurd (omega arith)
sum_one_more f g c a (suc n) m low high same here =
    let fs = sum_by-cons f a (range_with_len (a + 1) n) in
    let gs = sum_by-cons g a (range_with_len (a + 1) n) in
    ⊎_elim
    (λ (e : a ≡ m).
    let first : f a ≡ g a + c = subst (λ k. f k ≡ g k + c) (sym e) here in
    let rest = sum_agree (λ k. a < k × (k < a + suc n)) f g (λ k h. let low = h.0 in same k (omega arith) h.1 (λ s. omega arith)) (range_with_len (a + 1) n)
    (All-range (λ k. a < k × (k < a + suc n)) (a + 1) n (λ k x y. (omega arith, omega arith))) in
    omega arith)
    (λ (ne : a ≡ m → ⊥).
    let first = same a (omega arith) (omega arith) ne in
    let rest = sum_one_more f g c (a + 1) n m (omega arith) (omega arith) (λ k x y s. same k (omega arith) (omega arith) s) here in
    omega arith)
    (cases_eq a m)

-- a product over the tiles of a rising placement of which only one counts
product_none : (f : Placed → ℕ) (ps : List Placed) → ((r : Placed) → Contains ps r → f r ≡ 1) → product (map f ps) ≡ 1
product_none f [] ones = refl
product_none f (p ∷ ps) ones =
    let rest = product_none f ps (λ r c. ones r (Contains-there p ps r c)) in
    rw (ones p (Contains-here p ps)) (rw rest refl)

product_one : (f : Placed → ℕ) (q : Placed) (ps : List Placed) → are_rising ps ≡ true → Contains ps q
    → ((r : Placed) → Contains ps r → (r.square ≡ q.square → ⊥) → f r ≡ 1) → product (map f ps) ≡ f q
product_one f q [] rising c ones = absurd (none_contained q c)
product_one f q (p ∷ ps) rising c ones =
    let parts = and_parts (list_all (λ (r : Placed). nat_lt p.square r.square) ps) (are_rising ps) rising in
    let following : (r : Placed) → Contains ps r → p.square < r.square =
    λ r c. ltb-true p.square r.square (list_all-in (λ (s : Placed). nat_lt p.square s.square) ps r parts.0 c) in
    ⊎_elim
    (λ (s : p ≡ q).
    let same = ap (λ (r : Placed). r.square) s in
    let rest = product_none f ps (λ r d. let less = following r d in ones r (Contains-there p ps r d) (λ e. omega arith)) in
    rw rest (let here = ap f s in omega arith))
    (λ (s : Contains ps q).
    let less = following q s in
    let rest = product_one f q ps parts.1 s (λ r d ne. ones r (Contains-there p ps r d) ne) in
    rw (ones p (Contains-here p ps) (λ e. omega arith)) (rw rest (omega arith)))
    (Contains-cases p ps q c)

nothing : (n : ℕ) → 0 + n ≡ n
nothing n = omega arith

-- on a cross run of a new tile only that tile is new
cross_only : (d : Dir) (board : List (Option Tile)) (ps : List Placed) → is_play d ps ≡ true → (q : Placed) → Contains ps q → (run : Run)
    → IsStretch (other_dir d) (with_tiles board ps) q.square run → (r : Placed) → Contains ps r → is_on run r.square ≡ true → r.square ≡ q.square
cross_only d board ps play q has_q run s r has_r on =
    let e = other_dir d in
    let line = line_of e q.square in
    let parts = is_play-parts d ps play in
    let inside = s.whole.inside in
    let long = s.long in
    let same : Run = run_of e line (s.first, run.len) in
    let at = is_on-parts same r.square (subst (λ (x : Run). is_on x r.square ≡ true) s.is on) in
    one_across d ps play q r has_q has_r (at.0 ∙ line_of-square_at e line s.first (line_below e q.square (on_board ps q parts.1 has_q)) (omega arith))

cross_on : (d : Dir) (board : List (Option Tile)) (ps : List Placed) → is_play d ps ≡ true → (q : Placed) → Contains ps q → (run : Run)
    → IsStretch (other_dir d) (with_tiles board ps) q.square run → is_on run q.square ≡ true
cross_on d board ps play q has_q run s =
    let e = other_dir d in
    let line = line_of e q.square in
    let parts = is_play-parts d ps play in
    let line_on = line_below e q.square (on_board ps q parts.1 has_q) in
    let inside = s.whole.inside in
    let long = s.long in
    let low = s.low in
    let high = s.high in
    let place = place_of-square_at e line s.first line_on (omega arith) in
    subst (λ (x : Run). is_on x q.square ≡ true) (sym s.is)
    (is_on-from (run_of e line (s.first, run.len)) q.square (sym (line_of-square_at e line s.first line_on (omega arith))) (omega arith) (omega arith))

-- so it is multiplied by the word premium under that tile
cross_factor : (d : Dir) (rules : Rules) (board : List (Option Tile)) (ps : List Placed) → is_play d ps ≡ true → (q : Placed) → Contains ps q → (run : Run)
    → IsStretch (other_dir d) (with_tiles board ps) q.square run → words_factor rules ps run ≡ word_factor (premium_at rules q.square)
unfolding words_factor
cross_factor d rules board ps play q has_q run s =
    let parts = is_play-parts d ps play in
    product_one (factor_in rules run) q ps parts.2 has_q
    (λ r has_r ne. let off : is_on run r.square ≡ false = false_from_ne_true (is_on run r.square) (λ t. ne (cross_only d board ps play q has_q run s r has_r t)) in
    rw off refl)
    ∙ (let on = cross_on d board ps play q has_q run s in rw on refl)

-- and its letters are the old ones and that tile, with its letter premium
cross_letters : (d : Dir) (rules : Rules) (board : List (Option Tile)) (ps : List Placed) → length board ≡ 225 → is_play d ps ≡ true → (q : Placed) → Contains ps q → tile_at board q.square ≡ None
    → (run : Run) → IsStretch (other_dir d) (with_tiles board ps) q.square run
    → letters_score rules (with_tiles board ps) ps run ≡ old_points rules board run + points_of rules q.tile.kind * letter_factor (premium_at rules q.square)
unfolding letters_score
cross_letters d rules board ps size play q has_q free run s =
    let e = other_dir d in
    let after = with_tiles board ps in
    let line = line_of e q.square in
    let parts = is_play-parts d ps play in
    let line_on = line_below e q.square (on_board ps q parts.1 has_q) in
    let low = s.low in
    let high = s.high in
    let new : ℕ = points_of rules q.tile.kind * letter_factor (premium_at rules q.square) in
    let place = place_of e q.square in
    let m = place - s.first in
    let at_m : along run.dir run.start m ≡ q.square =
    (run_place e after q.square run s m (omega arith)).1
    ∙ ap (square_at e line) (let z : s.first + m ≡ place = omega arith in z) ∙ square_at-of e q.square in
    let is_covered = covered ps q.square q has_q refl in
    let there = tile_there d board ps size play q has_q in
    let here : square_points rules after ps q.square ≡ new = rw is_covered (rw there refl) in
    let bare_before : points_on rules (tile_at board q.square) + new ≡ new = ap (λ (t : Option Tile). points_on rules t + new) free ∙ nothing new in
    sum_one_more (λ k. square_points rules after ps (along run.dir run.start k)) (λ k. points_on rules (tile_at board (along run.dir run.start k))) new 0 run.len m (omega arith) (omega arith)
    (λ k x y ne.
    let there = along run.dir run.start k in
    let at = run_place e after q.square run s k (omega arith) in
    let bare : covers ps there ≡ false =
    false_from_ne_true (covers ps there) (λ t.
    let found = covering ps there t in
    let r = found.0 in
    let is : r.square ≡ square_at e line (s.first + k) = found.2 ∙ at.1 in
    let same = one_across d ps play q r has_q found.1 (ap (line_of e) is ∙ line_of-square_at e line (s.first + k) line_on at.0) in
    let same_place : s.first + k ≡ place = sym (place_of-square_at e line (s.first + k) line_on at.0) ∙ ap (place_of e) (sym is ∙ same) in
    ne (omega arith)) in
    let kept = with-kept ps board there bare in
    rw bare (rw kept (omega arith)))
    (ap (square_points rules after ps) at_m ∙ here ∙ sym (ap (λ n. points_on rules (tile_at board n) + new) at_m ∙ bare_before))

cross_run_score : (d : Dir) (rules : Rules) (board : List (Option Tile)) (ps : List Placed) → length board ≡ 225 → is_play d ps ≡ true → (q : Placed) → Contains ps q → tile_at board q.square ≡ None
    → sum_by (run_score rules (with_tiles board ps) ps) (runs_through (other_dir d) (with_tiles board ps) q.square) ≡ cross_score rules (other_dir d) board q.square q.tile
cross_run_score d rules board ps size play q has_q free =
    let e = other_dir d in
    let after = with_tiles board ps in
    let score : Run → ℕ =
    λ run. (old_points rules board run + points_of rules q.tile.kind * letter_factor (premium_at rules q.square)) * word_factor (premium_at rules q.square) in
    sum_agree (IsStretch e after q.square) (run_score rules after ps) score
    (λ run s.
    ap (λ n. n * words_factor rules ps run) (cross_letters d rules board ps size play q has_q free run s)
    ∙ ap (λ n. (old_points rules board run + points_of rules q.tile.kind * letter_factor (premium_at rules q.square)) * n) (cross_factor d rules board ps play q has_q run s))
    (runs_through e after q.square) (runs_are e after q.square)
    ∙ ap (sum_by score) (runs_agree e after (with_tile board q.square (Some q.tile)) q.square (cross_line_is d board ps size play q has_q))

-- the sum over a join
sum_flat_map : {X A : Type 0} (f : A → ℕ) (g : X → List A) (xs : List X) → sum_by f (flat_map g xs) ≡ sum_by (λ x. sum_by f (g x)) xs
sum_flat_map f g [] = refl
sum_flat_map f g (x ∷ xs) =
    let a = sum_by-append f (g x) (flat_map g xs) in
    let b = sum_by-cons (λ x. sum_by f (g x)) x xs in
    let rest = sum_flat_map f g xs in
    omega arith

-- the score of a play
pub score_splits : (d : Dir) (rules : Rules) (board : List (Option Tile)) (p : Placed) (rest : List Placed) → length board ≡ 225 → is_play d (p ∷ rest) ≡ true → IsLegal board (p ∷ rest)
    → score_of rules board (p ∷ rest)
    ≡ sum_by (run_score rules (with_tiles board (p ∷ rest)) (p ∷ rest)) (runs_through d (with_tiles board (p ∷ rest)) p.square)
    + sum_by (λ (q : Placed). cross_score rules (other_dir d) board q.square q.tile) (p ∷ rest)
    + bonus_score rules (p ∷ rest)
score_splits d rules board p rest size play legal =
    let ps = p ∷ rest in
    let after = with_tiles board ps in
    let f = run_score rules after ps in
    let main = runs_through d after p.square in
    let across : Placed → List Run = λ q. runs_through (other_dir d) after q.square in
    let all = score_is d rules board ps in
    let runs = ap (sum_by f) (runs_of_play d after p rest (laid_from d board ps size play legal.no_gap)) in
    let split = sum_by-append f main (flat_map across ps) in
    let join = sum_flat_map f across ps in
    let each = sum_agree (Contains ps) (λ q. sum_by f (across q)) (λ q. cross_score rules (other_dir d) board q.square q.tile)
    (λ q c. cross_run_score d rules board ps size play q c (All-contains (λ (r : Placed). tile_at board r.square ≡ None) ps q legal.on_empty c)) ps (All-contains_itself ps) in
    omega arith
