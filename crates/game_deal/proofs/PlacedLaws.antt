-- The tiles of a play that no rule forbids: each has a kind, and they are put on empty squares of the board.
use Rattle.std.proofs.Common.{◌≡◌, ℕ, zero, suc, ◌+◌, ◌<◌, ◌≤◌, ◌==◌, ◌||◌, Bool, true, false, cond, nat_lt, nat_le, List, [], ◌∷◌, length, get_or, refl, ap, ◌∙◌, arith, ⊎_elim, Option, Some, None, is_some, sum, sum_by, count_by}
use Rattle.std.specs.Prelude.{Contains}
use Rattle.std.specs.List.{list_all, list_any, range_with_len}
use Rattle.std.proofs.lemmas.List.{length-set, get_or-set_other}
use Rattle.std.proofs.lemmas.List.Sums.{sum_by-cons}
use Rattle.std.proofs.lemmas.Bool.{cases_eq, and_parts, or_parts, ltb-true, ltb-false, le-leb, leb-true, eq-eqb, ne_eqb}
use Rattle.first_faults.proofs.CheckLaws.{check-none, or_none}
use Rattle.ref_tiles.specs.declared.tiles.Tile.{Tile}
use Rattle.ref_tiles.specs.declared.symbols.Symbol.{Symbol}
use Rattle.ref_tiles.specs.declared.kinds.Kind.{Kind}
use Rattle.ref_tiles.specs.Kinds.{number_of}
use Rattle.ref_tiles.proofs.Counted.{number_below}
use Rattle.ref_board.specs.declared.directions.Dir.{Dir}
use Rattle.ref_board.specs.declared.directions.Dir.TheVariants.{Across, Down}
use Rattle.ref_board.specs.Lines.{line_of, place_of}
use Rattle.ref_board.specs.Cells.{holds, with_tile}
use Rattle.ref_play.specs.declared.placed.Placed.{Placed}
use Rattle.ref_play.specs.Placements.{are_rising, with_tiles}
use Rattle.ref_play.specs.Formed.{along, runs_formed}
use Rattle.ref_play.specs.Legality.{overlaps, has_gap, misses_centre, is_too_short, fault_of}
use Rattle.ref_play.specs.Texts.{mismatches, placement_of, text_fault, text_cells}
use Rattle.ref_play.proofs.RangeLaws.{list_any-found, list_all-in, some_element}
use Rattle.ref_play.proofs.LineLaws.{line_below}
use Rattle.ref_play.proofs.RunLaws.{is_on-parts, runs_formed-meet}
use Rattle.ref_play.proofs.PlaceLaws.{is_play-parts}
use Rattle.ref_play.proofs.TextLemmas.{each_pass, is_play-placement_of}
use Rattle.game_turns.specs.Checks.{play_fault}
use Rattle.deal_steps.specs.Piles.{kinds}
use Rattle.deal_steps.proofs.PileLaws.{sum-table, sum_of_sums, sum_kinds_same}
use Rattle.game_deal.specs.Recorded.{placed_tiles}
use Rattle.game_deal.proofs.BoardLaws.{AreFree}

-- ---- each tile has a kind

abbrev counted : List Placed → ℕ → ℕ
counted ps k = count_by (λ p. number_of p.tile.kind == k) ps

abbrev one_at : ℕ → ℕ → ℕ
one_at n k = cond (n == k) 1 0

none_in : (n a len : ℕ) → n < a → sum_by (one_at n) (range_with_len a len) ≡ 0
none_in n a zero h = refl
none_in n a (suc len) h =
    let other : n ≡ a → ⊥ = λ (s : n ≡ a). absurd (omega arith) in
    let first = sum_by-cons (one_at n) a (range_with_len (a + 1) len) in
    let here : one_at n a ≡ 0 = ap (λ (b : Bool). cond b 1 0) (ne_eqb n a other) in
    let rest = none_in n (a + 1) len (omega arith) in
    omega arith

once_in : (n a len : ℕ) → a ≤ n → n < a + len → sum_by (one_at n) (range_with_len a len) ≡ 1
once_in n a zero low high = absurd (omega arith)
once_in n a (suc len) low high =
    let first = sum_by-cons (one_at n) a (range_with_len (a + 1) len) in
    ⊎_elim
    (λ (s : n ≡ a).
    let here : one_at n a ≡ 1 = ap (λ (b : Bool). cond b 1 0) (eq-eqb n a s) in
    let rest = none_in n (a + 1) len (omega arith) in
    omega arith)
    (λ (other : n ≡ a → ⊥).
    let here : one_at n a ≡ 0 = ap (λ (b : Bool). cond b 1 0) (ne_eqb n a other) in
    let rest = once_in n (a + 1) len (omega arith) (omega arith) in
    omega arith)
    (cases_eq n a)

once_counted : (k : Kind) → sum_by (one_at (number_of k)) kinds ≡ 1
unfolding kinds
once_counted k = once_in (number_of k) 0 27 (omega arith) (let below = number_below k in omega arith)

none_counted : sum_by (counted []) kinds ≡ 0
unfolding kinds
none_counted = refl

sum-counted : (ps : List Placed) → sum_by (counted ps) kinds ≡ length ps
sum-counted [] = none_counted
sum-counted (p ∷ ps) =
    let n = number_of p.tile.kind in
    let split = sum_kinds_same (counted (p ∷ ps)) (λ k. one_at n k + counted ps k) (λ k below. sum_by-cons (λ (q : Placed). cond (number_of q.tile.kind == k) 1 0) p ps) in
    let both = sum_of_sums (one_at n) (counted ps) kinds in
    let one = once_counted p.tile.kind in
    let rest = sum-counted ps in
    omega arith

-- there are as many as the placement has
pub sum-placed : (ps : List Placed) → sum (placed_tiles ps) ≡ length ps
unfolding placed_tiles
sum-placed ps = sum-table (counted ps) ∙ sum-counted ps

-- ---- each is put on an empty square

-- a square after which all others lie can be filled
overlaps_same : (ps : List Placed) (board : List (Option Tile)) (square : ℕ) (t : Option Tile) → list_all (λ (p : Placed). nat_lt square p.square) ps ≡ true
    → overlaps board ps ≡ false → overlaps (with_tile board square t) ps ≡ false
unfolding overlaps
overlaps_same [] board square t following free = refl
overlaps_same (p ∷ ps) board square t following free =
    let parts = and_parts (nat_lt square p.square) (list_all (λ (q : Placed). nat_lt square q.square) ps) following in
    let frees = or_parts (holds board p.square) (list_any (λ (q : Placed). holds board q.square) ps) free in
    let less = ltb-true square p.square parts.0 in
    let other : p.square ≡ square → ⊥ = λ (s : p.square ≡ square). absurd (omega arith) in
    let here : holds (with_tile board square t) p.square ≡ false = ap is_some (get_or-set_other board square p.square t None other) ∙ frees.0 in
    let rest = overlaps_same ps board square t parts.1 frees.1 in
    ap (λ b. b || list_any (λ (q : Placed). holds (with_tile board square t) q.square) ps) here ∙ rest

empty_from : (cell : Option Tile) → is_some cell ≡ false → cell ≡ None
empty_from None e = refl
empty_from (Some tile) e = cc

overlaps_parts : (board : List (Option Tile)) (p : Placed) (ps : List Placed) → overlaps board (p ∷ ps) ≡ false
    → (get_or board p.square None ≡ None) × (overlaps board ps ≡ false)
unfolding overlaps
overlaps_parts board p ps free =
    let frees = or_parts (holds board p.square) (list_any (λ (q : Placed). holds board q.square) ps) free in
    (empty_from (get_or board p.square None) frees.0, frees.1)

pub are_free : (ps : List Placed) (board : List (Option Tile)) → length board ≡ 225 → list_all (λ (p : Placed). nat_lt p.square 225) ps ≡ true → are_rising ps ≡ true → overlaps board ps ≡ false
    → AreFree board ps
are_free [] board size within rising free = tt
are_free (p ∷ ps) board size within rising free =
    let withins = and_parts (nat_lt p.square 225) (list_all (λ (q : Placed). nat_lt q.square 225) ps) within in
    let risings = and_parts (list_all (λ (q : Placed). nat_lt p.square q.square) ps) (are_rising ps) rising in
    let frees = overlaps_parts board p ps free in
    let below = ltb-true p.square 225 withins.0 in
    let after = with_tile board p.square (Some p.tile) in
    let same = length-set board p.square (Some p.tile) in (
      omega arith,
      frees.0,
      are_free ps after (same ∙ size) withins.1 risings.1 (overlaps_same ps board p.square (Some p.tile) risings.0 frees.1),
    )

-- ---- a play without a fault

-- what a text without a fault respects
record IsNamedText (board : List (Option Tile)) (d : Dir) (at : ℕ) (word : List Symbol) : Type 0 where
  within : place_of d at + length word ≤ 15
  some : 1 ≤ length (placement_of board d at word)
  few : length (placement_of board d at word) ≤ 7

some_from : (n : ℕ) → (n == 0) ≡ false → 1 ≤ n
some_from zero e = cc
some_from (suc n) e = omega arith

named_text : (board : List (Option Tile)) (d : Dir) (at : ℕ) (word : List Symbol) → text_fault board d at word ≡ None → IsNamedText board d at word
unfolding text_fault
named_text board d at word none =
    let ps = placement_of board d at word in
    let a = check-none (nat_lt 15 (place_of d at + length word)) _ _ none in
    let b = check-none (mismatches board d at word) _ _ a.1 in
    let c = check-none (length ps == 0) _ _ b.1 in
    let e = check-none (nat_lt 7 (length ps)) _ _ c.1 in
    record {
      within = ltb-false 15 (place_of d at + length word) a.0;
      some = some_from (length ps) c.0;
      few = ltb-false 7 (length ps) e.0;
    }

-- no tile overlaps, and some run is formed
legal_parts : (board : List (Option Tile)) (d : Dir) (ps : List Placed) → fault_of d board ps ≡ None → (overlaps board ps ≡ false) × (is_too_short d (with_tiles board ps) ps ≡ false)
unfolding fault_of
legal_parts board d ps none =
    let a = check-none (overlaps board ps) _ _ none in
    let b = check-none (has_gap d (with_tiles board ps) ps) _ _ a.1 in
    let c = check-none (misses_centre board ps) _ _ b.1 in
    let e = check-none (is_too_short d (with_tiles board ps) ps) _ _ c.1 in
    (a.0, e.0)

on_lines : (d : Dir) (square line place : ℕ) → line_of d square ≡ line → place_of d square ≡ place → line < 15 → place < 15 → square < 225
on_lines Across square line place l p low high = omega arith
on_lines Down square line place l p low high = omega arith

-- the run that is met holds a new tile, which is then on the board
some_on_board : (d : Dir) (after : List (Option Tile)) (ps : List Placed) → is_too_short d after ps ≡ false → (p : Placed) × Contains ps p × (p.square < 225)
unfolding is_too_short
some_on_board d after ps long =
    let found = some_element (runs_formed d after ps) long in
    let run = found.0 in
    let meets = (runs_formed-meet d after ps run).0 found.1 in
    let met = list_any-found _ ps meets.meets in
    let parts = is_on-parts run met.0.square met.2 in
    let line = line_below run.dir run.start meets.is_run.on_board in
    let inside = meets.is_run.whole.inside in
    (met.0, met.1, on_lines run.dir met.0.square (line_of run.dir run.start) (place_of run.dir met.0.square) parts.0 refl line (omega arith))

along_after : (d : Dir) (at k : ℕ) → at ≤ along d at k
along_after Across at k = omega arith
along_after Down at k = omega arith

-- no tile of a text lies before its square
after_start : (board : List (Option Tile)) (d : Dir) (at : ℕ) (word : List Symbol) → list_all (λ (p : Placed). nat_le at p.square) (placement_of board d at word) ≡ true
unfolding placement_of text_cells
after_start board d at word = each_pass (nat_le at) board d at 0 word (λ k low high. le-leb at (along d at k) (along_after d at k))

-- a play without a fault is put on empty squares of the board
pub put_free : (board : List (Option Tile)) (d : Dir) (at : ℕ) (word : List Symbol) → length board ≡ 225 → play_fault board d at word ≡ None → AreFree board (placement_of board d at word)
unfolding play_fault
put_free board d at word size none =
    let ps = placement_of board d at word in
    let parts = or_none (text_fault board d at word) (fault_of d board ps) none in
    let text = named_text board d at word parts.0 in
    let legal = legal_parts board d ps parts.1 in
    let some = some_on_board d (with_tiles board ps) ps legal.1 in
    let following = leb-true at some.0.square (list_all-in (λ (p : Placed). nat_le at p.square) ps some.0 (after_start board d at word) some.1) in
    let last = some.2 in
    let play = is_play-parts d ps (is_play-placement_of board d at word (omega arith) text.within text.some text.few) in
    are_free ps board size play.1 play.2 legal.0

-- a play without a fault has a text without one
pub no_text_fault : (board : List (Option Tile)) (d : Dir) (at : ℕ) (word : List Symbol) → play_fault board d at word ≡ None → text_fault board d at word ≡ None
unfolding play_fault
no_text_fault board d at word none = (or_none (text_fault board d at word) (fault_of d board (placement_of board d at word)) none).0
