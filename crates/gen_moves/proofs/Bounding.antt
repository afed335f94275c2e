-- No play of a stretch scores more than its bound.
use Rattle.std.proofs.Common.{◌≡◌, ◌≢◌, ℕ, zero, suc, ◌+◌, ◌-◌, ◌*◌, ◌<◌, ◌≤◌, ◌==◌, Bool, true, false, nat_le, List, [], ◌∷◌, map, length, get_or, sum_by, Option, Some, None, is_some, refl, sym, ap, ◌∙◌, subst, arith, ⊎_elim, if◌then◌else◌}
use Rattle.std.specs.Prelude.{Contains, IsSome}
use Rattle.std.specs.List.{range_with_len}
use Rattle.std.proofs.lemmas.List.Sums.{sum_by-cons}
use Rattle.std.proofs.lemmas.Bool.{cases_eq, cases_Bool, true≢false, false≢true, false_from_ne_true, eqb-true, le-leb}
use Rattle.std.proofs.Math.Nat.{mul-le-mul, mul_comm}
use Rattle.ref_tiles.specs.declared.tiles.Tile.{Tile}
use Rattle.ref_tiles.specs.declared.rulebook.Rules.{Rules}
use Rattle.ref_tiles.specs.Rulebook.{points_of, premium_at, letter_factor, word_factor}
use Rattle.ref_board.specs.declared.directions.Dir.{Dir}
use Rattle.ref_board.specs.Lines.{place_of, square_at, other_dir}
use Rattle.ref_board.specs.Cells.{tile_at}
use Rattle.ref_play.specs.declared.placed.Placed.{Placed}
use Rattle.ref_play.specs.declared.runs.Run.{Run}
use Rattle.ref_play.specs.Placements.{with_tiles, covers}
use Rattle.ref_play.specs.Formed.{along, run_of, is_on}
use Rattle.ref_play.specs.Crosses.{run_in, cross_score}
use Rattle.ref_play.specs.Scores.{product, points_on, factor_on, square_points, factor_in, letters_score, words_factor, run_score, bonus_score, score_of}
use Rattle.ref_play.specs.Soundness.{IsSound}
use Rattle.ref_play.proofs.LineLaws.{place_of-square_at}
use Rattle.ref_play.proofs.FormedRuns.{covering, covered}
use Rattle.ref_play.proofs.PlayLines.{score_of_lines}
use Rattle.ref_play.proofs.Reading.{along_at}
use Rattle.gen_line.specs.declared.cells.Cell.{Cell}
use Rattle.gen_line.specs.Moves.{IsMove}
use Rattle.gen_moves.specs.BoardLines.{IsLineOf}
use Rattle.gen_moves.specs.LineTiles.{tile_of_entry}
use Rattle.gen_moves.specs.Laws.{ReportsWords, AreLong}
use Rattle.gen_moves.specs.declared.places.Place.{Place}
use Rattle.gen_moves.specs.Bounds.{total, times, IsPlaceOf, one_if, free_count, rack_points, rack_ones, least, stretch_bound}
use Rattle.gen_moves.specs.Tallies.{letter_sum, cross_sum, tally}
use Rattle.gen_moves.proofs.Entering.{put_from, put_there, on_top}
use Rattle.gen_moves.proofs.MovePlaces.{at_place, put_by, put_at, there_then, move_sound}
use Rattle.gen_moves.proofs.Moving.{move_candidate}
use Rattle.gen_moves.proofs.Sums as sums
use Rattle.gen_moves.proofs.Sums.{total-first, total-mono, total-times, total-scaled, total-both, least-first, least-both, sum_put, count_put, product_put, put_within}
use Rattle.gen_moves.proofs.Worths.{worth, worth_within, one, ones_within}

-- a sum over a range, at another place
range_sum : (g h : ℕ → ℕ) (b a n : ℕ) → ((k : ℕ) → k < n → g (b + k) ≤ h (a + k)) → sum_by g (range_with_len b n) ≤ total h a n
unfolding total
range_sum g h b a zero le = omega arith
range_sum g h b a (suc n) le =
    let first = le 0 (omega arith) in
    let b0 : b + 0 ≡ b = omega arith in
    let a0 : a + 0 ≡ a = omega arith in
    let gb = ap g b0 in
    let ha = ap h a0 in
    let rest = range_sum g h (b + 1) (a + 1) n (λ k less.
    let more = le (suc k) (omega arith) in
    let bk : b + suc k ≡ b + 1 + k = omega arith in
    let ak : a + suc k ≡ a + 1 + k = omega arith in
    let gk = ap g bk in
    let hk = ap h ak in
    omega arith) in
    let split = sum_by-cons g b (range_with_len (b + 1) n) in
    let all = total-first h a n in
    omega arith

-- the points of a tile, a number of times: one point each time, if it has some, plus what is above it
one_above : (c p : ℕ) → c * p ≤ c * (p - (p - 1)) + c * (p - 1)
one_above zero p = omega arith
one_above (suc c) p = let rest = one_above c p in omega arith

-- the same, with the first time apart
one_first : (c p : ℕ) → c * p ≤ ((c - 1) * (p - (p - 1)) + (p - (p - 1))) + c * (p - 1)
one_first zero p = omega arith
one_first (suc c) p =
    let rest = one_above c p in
    let e : suc c - 1 ≡ c = omega arith in
    let times = ap (λ m. m * (p - (p - 1))) e in
    omega arith

pub some_is : {A : Type 0} (o : Option A) → IsSome o → o ≡ None → ⊥
some_is None h e = false≢true h
some_is (Some a) h e = cc

module _ (rules : Rules) (words : List (List ℕ)) (d : Dir) (board : List (Option Tile)) (line : ℕ) (cells : List Cell) (is : IsLineOf words d board line cells) (listed : List ℕ → Bool) (rack y : List ℕ)
    (first len : ℕ) (reports : ReportsWords listed words) (long_words : AreLong words) (size : length board ≡ 225) (low : line < 15) (move : IsMove listed cells rack y first len)
    (few : length (put_by d line y) ≤ 7) (places : ℕ → Place) (known : (i : ℕ) → i < 15 → IsPlaceOf rules d board (square_at d line i) (places i)) where
  abbrev entry : ℕ → Option Tile
  entry i = tile_of_entry (get_or y i 0)

  outside : (i : ℕ) → i < 15 → (i < first → entry i ≡ None) × (first + len ≤ i → entry i ≡ None)
  outside i below =
      ⊎_elim
      (λ (z : get_or y i 0 ≡ 0). (λ lt. ap tile_of_entry z, λ le. ap tile_of_entry z))
      (λ (some : get_or y i 0 ≡ 0 → ⊥). let within = move.within i below some in (λ lt. absurd (omega (arith, within.0, lt)), λ le. absurd (omega (arith, within.1, le))))
      (cases_eq (get_or y i 0) 0)

  tiles_are : put_by d line y ≡ put_from d line entry first len
  tiles_are = put_within d line entry first len move.whole.inside outside

  entry_some : (i : ℕ) (t : Tile) → entry i ≡ Some t → get_or y i 0 ≢ 0
  entry_some i t e z = let both : None ≡ Some t = sym (ap tile_of_entry z) ∙ e in cc

  -- a place of the stretch with a new tile is free
  new_free : (i : ℕ) → i < 15 → (t : Tile) → entry i ≡ Some t → (places i).free ≡ true
  new_free i below t e =
      let at = at_place words d board line cells is i (get_or y i 0) below (move.allowed i below) in
      let none = at.empty (entry_some i t e) in
      ⊎_elim
      (λ (free : (places i).free ≡ true). free)
      (λ (taken : (places i).free ≡ false). absurd (some_is (tile_at board (square_at d line i)) ((known i below).taken taken) none))
      (cases_Bool (places i).free)

  -- and one without has an old tile
  old_taken : (i : ℕ) → i < 15 → first ≤ i → i < first + len → entry i ≡ None → (places i).free ≡ false
  old_taken i below from upto e =
      let at = at_place words d board line cells is i (get_or y i 0) below (move.allowed i below) in
      let full = at.filled ∙ move.whole.filled i from upto in
      ⊎_elim
      (λ (free : (places i).free ≡ true).
      let empty = (known i below).empty free in
      let nothing : is_some (on_top (entry i) (tile_at board (square_at d line i))) ≡ false = ap (λ (o : Option Tile). is_some (on_top o (tile_at board (square_at d line i)))) e ∙ ap is_some empty in
      absurd (true≢false (sym full ∙ nothing)))
      (λ (taken : (places i).free ≡ false). taken)
      (cases_Bool (places i).free)

  -- the free places of the stretch are those of the new tiles
  pub count_is : length (put_by d line y) ≡ free_count places first len
  count_is =
      let inside = move.whole.inside in
      ap length tiles_are
      ∙ count_put d line entry (λ i. one_if (places i).free) first len
      (λ i from upto e. ap one_if (old_taken i (omega arith) from upto e))
      (λ i from upto t e. ap one_if (new_free i (omega arith) t e))

  abbrev weight : ℕ → ℕ
  weight i = sums.at_place (worth rules) d line i (entry i)

  abbrev single : ℕ → ℕ
  single i = sums.at_place (one rules) d line i (entry i)

  -- what the square of a place adds to the word of the stretch
  point_le : (i : ℕ) → i < 15 → (o : Option Tile) → entry i ≡ o
      → square_points rules (with_tiles board (put_by d line y)) (put_by d line y) (square_at d line i) ≤ (places i).old + (places i).letter * points_on rules o
  point_le i below None e =
      let square = square_at d line i in
      let there : tile_at (with_tiles board (put_by d line y)) square ≡ tile_at board square = there_then d board line y i size low below ∙ ap (λ (o : Option Tile). on_top o (tile_at board square)) e in
      let bare : covers (put_by d line y) square ≡ false =
      false_from_ne_true (covers (put_by d line y) square) (λ t.
      let q = covering (put_by d line y) square t in
      let at = put_at d line y q.0 low q.1 in
      let same : at.place ≡ i = sym (place_of-square_at d line at.place low at.below) ∙ ap (place_of d) (sym at.square ∙ q.2) ∙ place_of-square_at d line i low below in
      let both : None ≡ Some q.0.tile = sym (ap entry same ∙ e) ∙ at.tile in
      cc) in
      let le = (known i below).old in
      let is : square_points rules (with_tiles board (put_by d line y)) (put_by d line y) square ≡ points_on rules (tile_at board square) * 1 =
      ap (λ (o : Option Tile). points_on rules o * factor_on rules (put_by d line y) square) there
      ∙ ap (λ (b : Bool). points_on rules (tile_at board square) * (if b then letter_factor (premium_at rules square) else 1)) bare in
      omega arith
  point_le i below (Some t) e =
      let square = square_at d line i in
      let q : Placed = record { square = square; tile = t } in
      let there : tile_at (with_tiles board (put_by d line y)) square ≡ Some t = there_then d board line y i size low below ∙ ap (λ (o : Option Tile). on_top o (tile_at board square)) e in
      let laid : Contains (put_by d line y) q = put_there d line entry 0 15 i t (omega arith) (omega arith) e in
      let cover : covers (put_by d line y) square ≡ true = covered (put_by d line y) square q laid refl in
      let points = points_of rules t.kind in
      let is : square_points rules (with_tiles board (put_by d line y)) (put_by d line y) square ≡ points * letter_factor (premium_at rules square) =
      ap (λ (o : Option Tile). points_on rules o * factor_on rules (put_by d line y) square) there
      ∙ ap (λ (b : Bool). points * (if b then letter_factor (premium_at rules square) else 1)) cover in
      let swap = mul_comm points (letter_factor (premium_at rules square)) in
      let most : letter_factor (premium_at rules square) * points ≤ (places i).letter * points = mul-le-mul ((known i below).letter (new_free i below t e)) (omega arith) in
      omega arith

  letters_le : letters_score rules (with_tiles board (put_by d line y)) (put_by d line y) (run_of d line (first, len)) ≤ total (letter_sum rules places entry) first len
  unfolding letters_score
  letters_le =
      let inside = move.whole.inside in
      range_sum (λ k. square_points rules (with_tiles board (put_by d line y)) (put_by d line y) (along d (square_at d line first) k)) (letter_sum rules places entry) 0 first len
      (λ k less.
      let zero_k : 0 + k ≡ k = omega arith in
      let at : along d (square_at d line first) (0 + k) ≡ square_at d line (first + k) = ap (along d (square_at d line first)) zero_k ∙ along_at d line first k in
      let le = point_le (first + k) (omega arith) (entry (first + k)) refl in
      subst (λ s. square_points rules (with_tiles board (put_by d line y)) (put_by d line y) s ≤ letter_sum rules places entry (first + k)) (sym at) le)

  factor_le : (run : Run) → words_factor rules (put_by d line y) run ≤ times (λ i. (places i).word) first len
  unfolding words_factor
  factor_le run =
      let inside = move.whole.inside in
      subst (λ (qs : List Placed). product (map (factor_in rules run) qs) ≤ times (λ i. (places i).word) first len) (sym tiles_are)
      (product_put (factor_in rules run) d line entry (λ i. (places i).word) first len
      (λ i from upto. (known i (omega arith)).some)
      (λ i from upto t e. by i (is_on run (square_at d line i)) (known i (omega arith)).some ((known i (omega arith)).word (new_free i (omega arith) t e))))
    where
      by : (i : ℕ) (b : Bool) → 1 ≤ (places i).word → word_factor (premium_at rules (square_at d line i)) ≤ (places i).word → (if b then word_factor (premium_at rules (square_at d line i)) else 1) ≤ (places i).word
      by i true one le = le
      by i false one le = one

  crosses_le : sum_by (λ (p : Placed). cross_score rules (other_dir d) board p.square p.tile) (put_by d line y) ≤ total (cross_sum rules places entry) first len
  crosses_le =
      let inside = move.whole.inside in
      let score : Placed → ℕ = λ p. cross_score rules (other_dir d) board p.square p.tile in
      let is = ap (sum_by score) tiles_are ∙ sum_put score d line entry first len in
      let each =
      total-mono (λ i. sums.at_place score d line i (entry i)) (cross_sum rules places entry) first len
      (λ i from upto. by i (omega arith) (entry i) refl) in
      omega arith
    where
      by : (i : ℕ) → i < 15 → (o : Option Tile) → entry i ≡ o
          → sums.at_place (λ (p : Placed). cross_score rules (other_dir d) board p.square p.tile) d line i o ≤ (places i).side + (places i).cross * points_on rules o
      by i below None e = omega arith
      by i below (Some t) e = (known i below).cross (new_free i below t e) t

  -- the play of a stretch scores at most what the stretch adds up to
  pub tally_le : score_of rules board (put_by d line y) ≤ tally rules places entry first len
  tally_le =
      let on = move_candidate words d board line cells is listed rack y first len reports long_words size low move few in
      let ps = put_by d line y in
      let run = run_of d line (first, len) in
      let long = on.0.long in
      let found = move_sound words d board line cells is listed rack y first len size low long move in
      let sound : IsSound d board ps = record { free = found.free; line = line; first = first; len = len; lies = on.0.lies; run = found.run; anchor = found.anchor } in
      let score = score_of_lines d rules board ps size on.1 sound in
      let main : sum_by (run_score rules (with_tiles board ps) ps) (run_in d line first len) ≡ run_score rules (with_tiles board ps) ps run =
      ap (λ (b : Bool). sum_by (run_score rules (with_tiles board ps) ps) (if b then run ∷ [] else [])) (le-leb 2 len long) ∙ one_run (run_score rules (with_tiles board ps) ps) run in
      let run_le = mul-le-mul letters_le (factor_le run) in
      let cross_here = crosses_le in
      let bonus : bonus_score rules ps ≤ (if nat_le 7 (free_count places first len) then rules.bonus else 0) =
      subst (λ n. (if length ps == 7 then rules.bonus else 0) ≤ (if nat_le 7 n then rules.bonus else 0)) count_is (bonus_le (length ps)) in
      omega arith
    where
      one_run : (f : Run → ℕ) (run : Run) → sum_by f (run ∷ []) ≡ f run
      one_run f run = omega arith

      bonus_le : (n : ℕ) → (if n == 7 then rules.bonus else 0) ≤ (if nat_le 7 n then rules.bonus else 0)
      bonus_le n =
          ⊎_elim
          (λ (yes_seven : (n == 7) ≡ true).
          let seven = eqb-true n 7 yes_seven in
          let reach = le-leb 7 n (omega arith) in
          rw (yes_seven, reach) (omega arith))
          (λ (no_seven : (n == 7) ≡ false). rw no_seven (omega arith))
          (cases_Bool (n == 7))

  -- ---- what a stretch adds up to, judged only by the tiles of the rack
  -- a factor of each place counts the points of its new tile: one point as often as `ones` says, and all that are above it as often
  -- as the greatest factor
  factor_up : (base factor : ℕ → ℕ) (ones : ℕ → ℕ → ℕ) (most : ℕ) → ((i points : ℕ) → factor i * points ≤ ones i (points - (points - 1)) + factor i * (points - 1))
      → ((i : ℕ) → first ≤ i → i < first + len → (places i).free ≡ true → factor i ≤ most)
      → total (λ i. base i + factor i * points_on rules (entry i)) first len ≤ total (λ i. base i + ones i (single i)) first len + most * total weight first len
  factor_up base factor ones most above under =
      let inside = move.whole.inside in
      let each =
      total-mono (λ i. base i + factor i * points_on rules (entry i)) (λ i. (base i + ones i (single i)) + most * weight i) first len
      (λ i from upto. by i (omega arith) (under i from upto) (entry i) refl) in
      let split = total-scaled (λ i. base i + ones i (single i)) weight most first len in
      omega arith
    where
      by : (i : ℕ) → i < 15 → ((places i).free ≡ true → factor i ≤ most) → (o : Option Tile) → entry i ≡ o
          → base i + factor i * points_on rules o ≤ (base i + ones i (sums.at_place (one rules) d line i o)) + most * sums.at_place (worth rules) d line i o
      by i below top None e = omega arith
      by i below top (Some t) e =
          let points = points_of rules t.kind in
          let parted = above i points in
          let more : factor i * (points - 1) ≤ most * (points - 1) = mul-le-mul (top (new_free i below t e)) (omega arith) in
          omega arith

  letters_up : (letter : ℕ) → ((i : ℕ) → first ≤ i → i < first + len → (places i).free ≡ true → (places i).letter ≤ letter)
      → total (letter_sum rules places entry) first len ≤ total (λ i. (places i).old) first len + (total (λ i. ((places i).letter - 1) * single i) first len + total single first len) + letter * total weight first len
  letters_up letter most =
      let up : total (letter_sum rules places entry) first len ≤ total (λ i. (places i).old + (((places i).letter - 1) * single i + single i)) first len + letter * total weight first len =
      factor_up (λ i. (places i).old) (λ i. (places i).letter) (λ i n. ((places i).letter - 1) * n + n) letter (λ i points. one_first (places i).letter points) most in
      let both = total-both (λ i. (places i).old) (λ i. ((places i).letter - 1) * single i + single i) first len in
      let parts = total-both (λ i. ((places i).letter - 1) * single i) single first len in
      omega arith

  crosses_up : (cross : ℕ) → ((i : ℕ) → first ≤ i → i < first + len → (places i).free ≡ true → (places i).cross ≤ cross)
      → total (cross_sum rules places entry) first len ≤ total (λ i. (places i).side) first len + total (λ i. (places i).cross * single i) first len + cross * total weight first len
  crosses_up cross most =
      let up : total (cross_sum rules places entry) first len ≤ total (λ i. (places i).side + (places i).cross * single i) first len + cross * total weight first len =
      factor_up (λ i. (places i).side) (λ i. (places i).cross) (λ i n. (places i).cross * n) cross (λ i points. one_above (places i).cross points) most in
      let both = total-both (λ i. (places i).side) (λ i. (places i).cross * single i) first len in
      omega arith

  -- at most one on each free place
  singles_free : total single first len ≤ free_count places first len
  singles_free =
      let inside = move.whole.inside in
      total-mono single (λ i. one_if (places i).free) first len (λ i from upto. by i (omega arith) (entry i) refl)
    where
      by : (i : ℕ) → i < 15 → (o : Option Tile) → entry i ≡ o → sums.at_place (one rules) d line i o ≤ one_if (places i).free
      by i below None e = omega arith
      by i below (Some t) e = let free = ap one_if (new_free i below t e) in omega arith

  -- a factor of each place, counted if a tile with points lies there: by the places, and by the tiles
  spare_le : (f : ℕ → ℕ) (most ones : ℕ) → ((i : ℕ) → first ≤ i → i < first + len → (places i).free ≡ true → f i ≤ most) → total single first len ≤ ones
      → total (λ i. f i * single i) first len ≤ least (total f first len) (most * ones)
  spare_le f most ones below few_ones =
      let inside = move.whole.inside in
      let places_le = total-mono (λ i. f i * single i) f first len (λ i from upto. by_place i (entry i)) in
      let tiles_le = total-times f single most first len (λ i from upto. by_tile i (omega arith) (below i from upto) (entry i) refl) in
      let more : most * total single first len ≤ most * ones = mul-le-mul (omega arith) few_ones in
      least-both (total f first len) (most * ones) (total (λ i. f i * single i) first len) places_le (omega arith)
    where
      by_place : (i : ℕ) (o : Option Tile) → f i * sums.at_place (one rules) d line i o ≤ f i
      by_place i None = omega arith
      by_place i (Some t) =
          let one_le : f i * (points_of rules t.kind - (points_of rules t.kind - 1)) ≤ f i * 1 = mul-le-mul (omega arith) (omega arith) in
          omega arith

      by_tile : (i : ℕ) → i < 15 → ((places i).free ≡ true → f i ≤ most) → (o : Option Tile) → entry i ≡ o → f i * sums.at_place (one rules) d line i o ≤ most * sums.at_place (one rules) d line i o
      by_tile i low top None e = omega arith
      by_tile i low top (Some t) e = mul-le-mul (top (new_free i low t e)) (omega arith)

  -- the bound
  pub score_le : (points ones letter cross : ℕ) → rack_points rules rack 27 ≤ points → rack_ones rules rack 27 ≤ ones
      → ((i : ℕ) → first ≤ i → i < first + len → (places i).free ≡ true → (places i).letter ≤ letter)
      → ((i : ℕ) → first ≤ i → i < first + len → (places i).free ≡ true → (places i).cross ≤ cross)
      → score_of rules board (put_by d line y) ≤ stretch_bound rules.bonus places first len points ones letter cross
  score_le points ones letter cross rack_is ones_is letters crosses =
      let on = move_candidate words d board line cells is listed rack y first len reports long_words size low move few in
      let ps = put_by d line y in
      let tight = tally_le in
      let weights : total weight first len ≤ points =
      let w = sym (ap (sum_by (worth rules)) tiles_are ∙ sum_put (worth rules) d line entry first len) in
      let within = worth_within rules rack ps on.0.candidate.from in
      omega arith in
      let singles : total single first len ≤ least ones (free_count places first len) =
      let w = sym (ap (sum_by (one rules)) tiles_are ∙ sum_put (one rules) d line entry first len) in
      let within = ones_within rules rack ps on.0.candidate.from in
      least-both ones (free_count places first len) (total single first len) (omega arith) singles_free in
      let ones_here : total single first len ≤ ones = let le = least-first ones (free_count places first len) in omega arith in
      let spare_letters = spare_le (λ i. (places i).letter - 1) (letter - 1) ones (λ i from upto free. let le = letters i from upto free in omega arith) ones_here in
      let spare_crosses = spare_le (λ i. (places i).cross) cross ones crosses ones_here in
      let letters_here = letters_up letter letters in
      let letters_more : letter * total weight first len ≤ letter * points = mul-le-mul (omega arith) weights in
      let line_le : total (letter_sum rules places entry) first len
      ≤ total (λ i. (places i).old) first len + (least (total (λ i. (places i).letter - 1) first len) ((letter - 1) * ones) + least ones (free_count places first len)) + letter * points = omega arith in
      let same : times (λ i. (places i).word) first len ≤ times (λ i. (places i).word) first len = omega arith in
      let run_le = mul-le-mul line_le same in
      let cross_here = crosses_up cross crosses in
      let cross_more : cross * total weight first len ≤ cross * points = mul-le-mul (omega arith) weights in
      omega arith
