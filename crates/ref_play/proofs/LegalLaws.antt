-- A play has no fault exactly when it is legal.
use Rattle.std.proofs.Common.{◌≡◌, ℕ, zero, suc, ◌-◌, ◌<◌, ◌≤◌, true, false, not, nat_lt, List, [], ◌∷◌, length, refl, sym, ap, ◌∙◌, subst, arith, ◌⊎◌, inl, inr, ⊎_elim, Option, Some, None, is_some, Result, Ok, Err, is_ok}
use Rattle.std.specs.Prelude.{Contains, All, ◌↔◌, is_none}
use Rattle.std.specs.List.{list_any, list_all, range_with_len}
use Rattle.std.proofs.lemmas.List.Elements.{All-weaker}
use Rattle.std.proofs.lemmas.List.Folds.{list_any_none}
use Rattle.std.proofs.lemmas.Bool.{false≢true, cases_eq, cases_Bool, and_parts, and_from, and_left, and_right, and_cases, both_ways, not-false, not_from_true, false_from_ne_true}
use Rattle.first_faults.specs.Checks.{Refuses}
use Rattle.first_faults.proofs.CheckLaws.{check-none, check-from}
use Rattle.ref_tiles.specs.declared.tiles.Tile.{Tile}
use Rattle.ref_board.specs.declared.directions.Dir.{Dir}
use Rattle.ref_board.specs.declared.directions.Dir.TheVariants.{Across, Down}
use Rattle.ref_board.specs.Lines.{line_of, place_of, square_at, other_dir}
use Rattle.ref_board.specs.Cells.{tile_at, holds, HasNoTile, occupied_on}
use Rattle.ref_play.specs.declared.placed.Placed.{Placed}
use Rattle.ref_play.specs.declared.runs.Run.{Run}
use Rattle.ref_play.specs.declared.faults.PlayFault.{PlayFault}
use Rattle.ref_play.specs.Placements.{are_rising, are_in_line, is_play, with_tiles, covers}
use Rattle.ref_play.specs.Formed.{MeetsRun, runs_formed}
use Rattle.ref_board.specs.Anchors.{centre, AreBeside, touches}
use Rattle.ref_board.proofs.AnchorLaws.{touches-beside, beside-touches}
use Rattle.ref_play.specs.Legality.{HasNoGap, IsLegal, last_square, overlaps, has_gap, has_no_tile, misses_centre, is_too_short, is_apart, fault_of}
use Rattle.ref_play.proofs.RangeLaws.{list_any-found, list_any-in, list_any-none, Contains-here, some_element, not_empty}
use Rattle.ref_play.proofs.LineLaws.{square_at-of, place_rises, list_all_at, list_all_from}
use Rattle.ref_play.proofs.RunLaws.{runs_formed-meet}
use Rattle.ref_play.proofs.FormedRuns.{same_by_lines}
use Rattle.ref_play.proofs.PlaceLaws.{is_play-parts, on_board, on_one_line, after_first, before_last, last_is_there, with_tiles-holds}

none_from_is_some : (tile : Option Tile) → is_some tile ≡ false → tile ≡ None
none_from_is_some None e = refl
none_from_is_some (Some tile) e = cc

-- each tile is put on an empty square
overlaps-false : (board : List (Option Tile)) (ps : List Placed) → overlaps board ps ≡ false → All (λ (p : Placed). tile_at board p.square ≡ None) ps
unfolding overlaps
overlaps-false board ps e =
    list_any-none (λ (p : Placed). holds board p.square) (λ (p : Placed). tile_at board p.square ≡ None)
    (λ p s. none_from_is_some (tile_at board p.square) s) ps e

pub overlaps-from : (board : List (Option Tile)) (ps : List Placed) → All (λ (p : Placed). tile_at board p.square ≡ None) ps → overlaps board ps ≡ false
unfolding overlaps
overlaps-from board ps h =
    list_any_none (λ (p : Placed). holds board p.square) ps
    (All-weaker (λ (p : Placed). tile_at board p.square ≡ None) (λ (p : Placed). holds board p.square ≡ false) (λ p s. ap is_some s) ps h)

pub dir_cases : (d e : Dir) → (e ≡ d) ⊎ (e ≡ other_dir d)
dir_cases Across Across = inl refl
dir_cases Across Down = inr refl
dir_cases Down Across = inr refl
dir_cases Down Down = inl refl

-- along a line, a square after another has a place after its place
pub place_follows : (d : Dir) (a b : ℕ) → line_of d a ≡ line_of d b → a ≤ b → place_of d a ≤ place_of d b
place_follows d a b l h =
    ⊎_elim
    (λ (e : a ≡ b). let same = ap (place_of d) e in omega arith)
    (λ (ne : a ≡ b → ⊥). let less = place_rises d a b l (omega arith) in omega arith)
    (cases_eq a b)

-- the squares between the first tile and the last have tiles
between_filled : (d : Dir) (after : List (Option Tile)) (first : Placed) (ps : List Placed) (p q : Placed) (place : ℕ)
    → are_rising (first ∷ ps) ≡ true → are_in_line d (first ∷ ps) ≡ true → has_gap d after (first ∷ ps) ≡ false
    → Contains (first ∷ ps) p → Contains (first ∷ ps) q → place_of d p.square < place → place < place_of d q.square
    → holds after (square_at d (line_of d p.square) place) ≡ true
unfolding has_gap
between_filled d after first ps p q place rising line gap has_p has_q low high =
    let occupied = occupied_on d after (line_of d first.square) in
    let start = place_of d first.square in
    let end = place_of d (last_square first ps) in
    let full : list_all occupied (range_with_len start (end - start)) ≡ true = not-false (list_all occupied (range_with_len start (end - start))) gap in
    let line_p = on_one_line d first ps p line has_p in
    let line_q = on_one_line d first ps q line has_q in
    let last = last_is_there first ps in
    let line_last : line_of d (last_square first ps) ≡ line_of d first.square = ap (line_of d) (sym last.2) ∙ on_one_line d first ps last.0 line last.1 in
    let from = place_follows d first.square p.square (sym line_p) (after_first first ps p rising has_p) in
    let upto = place_follows d q.square (last_square first ps) (line_q ∙ sym line_last) (before_last first ps q rising has_q) in
    let here : occupied place ≡ true = list_all_at occupied start (end - start) place full (omega arith) (omega arith) in
    ap (λ (l : ℕ). holds after (square_at d l place)) line_p ∙ here

pub has_gap-false : (d : Dir) (after : List (Option Tile)) (ps : List Placed) → are_rising ps ≡ true → are_in_line d ps ≡ true
    → has_gap d after ps ≡ false → HasNoGap after ps
has_gap-false d after [] rising line gap = λ e p q place in_line has_p has_q low high. absurd (omega (arith, has_p.1))
has_gap-false d after (first ∷ ps) rising line gap =
    λ e p q place in_line has_p has_q low high.
    ⊎_elim
    (λ (s : e ≡ d).
    subst (λ (x : Dir). place_of x p.square < place → place < place_of x q.square → holds after (square_at x (line_of x p.square) place) ≡ true) (sym s)
    (λ a b. between_filled d after first ps p q place rising line gap has_p has_q a b) low high)
    (λ (s : e ≡ other_dir d).
    let turned_line : are_in_line (other_dir d) (first ∷ ps) ≡ true = subst (λ (x : Dir). are_in_line x (first ∷ ps) ≡ true) s in_line in
    let one_line = on_one_line d first ps p line has_p ∙ sym (on_one_line d first ps q line has_q) in
    let other_line = on_one_line (other_dir d) first ps p turned_line has_p ∙ sym (on_one_line (other_dir d) first ps q turned_line has_q) in
    let same = ap (place_of e) (same_by_lines d p.square q.square one_line other_line) in
    absurd (omega arith))
    (dir_cases d e)

has_gap-from : (d : Dir) (board : List (Option Tile)) (ps : List Placed) → length board ≡ 225 → list_all (λ (p : Placed). nat_lt p.square 225) ps ≡ true
    → are_in_line d ps ≡ true → HasNoGap (with_tiles board ps) ps → has_gap d (with_tiles board ps) ps ≡ false
unfolding has_gap
has_gap-from d board [] size within line none = refl
has_gap-from d board (first ∷ ps) size within line none =
    let after = with_tiles board (first ∷ ps) in
    let occupied = occupied_on d after (line_of d first.square) in
    let start = place_of d first.square in
    let end = place_of d (last_square first ps) in
    let last = last_is_there first ps in
    let last_place = ap (place_of d) last.2 in
    let first_on = on_board (first ∷ ps) first within (Contains-here first ps) in
    not_from_true (list_all occupied (range_with_len start (end - start)))
    (list_all_from occupied start (end - start)
    (λ k low high. ⊎_elim
    (λ (s : k ≡ start).
    ap occupied s ∙ ap (holds after) (square_at-of d first.square)
    ∙ with_tiles-holds (first ∷ ps) board first (omega arith) (Contains-here first ps))
    (λ (ne : k ≡ start → ⊥). none d first last.0 k line (Contains-here first ps) last.1 (omega arith) (omega arith))
    (cases_eq k start)))

-- a run of two tiles is formed
too_short-false : (d : Dir) (after : List (Option Tile)) (ps : List Placed) → is_too_short d after ps ≡ false → (run : Run) × MeetsRun after ps run
unfolding is_too_short
too_short-false d after ps e =
    let found = some_element (runs_formed d after ps) e in (found.0, (runs_formed-meet d after ps found.0).0 found.1)

too_short-from : (d : Dir) (after : List (Option Tile)) (ps : List Placed) → (run : Run) × MeetsRun after ps run → is_too_short d after ps ≡ false
unfolding is_too_short
too_short-from d after ps (run, m) = not_empty (runs_formed d after ps) run ((runs_formed-meet d after ps run).1 m)

-- an empty board
none_from_is_none : (tile : Option Tile) → is_none tile ≡ true → tile ≡ None
none_from_is_none None e = refl
none_from_is_none (Some tile) e = cc

all_none-at : (board : List (Option Tile)) → list_all is_none board ≡ true → HasNoTile board
all_none-at [] e square = refl
all_none-at (tile ∷ board) e zero = none_from_is_none tile ((and_parts (is_none tile) (list_all is_none board) e).0)
all_none-at (tile ∷ board) e (suc square) = all_none-at board ((and_parts (is_none tile) (list_all is_none board) e).1) square

all_none-from : (board : List (Option Tile)) → HasNoTile board → list_all is_none board ≡ true
all_none-from [] h = refl
all_none-from (tile ∷ board) h =
    and_from (is_none tile) (list_all is_none board) (ap is_none (h 0)) (all_none-from board (λ square. h (suc square)))

empty-true : (board : List (Option Tile)) → has_no_tile board ≡ true → HasNoTile board
unfolding has_no_tile
empty-true board e = all_none-at board e

empty-from : (board : List (Option Tile)) → HasNoTile board → has_no_tile board ≡ true
unfolding has_no_tile
empty-from board h = all_none-from board h

-- the centre on an empty board, a tile beside an old one on any other
Anchored : List (Option Tile) → List Placed → Type 0
Anchored board ps =
    (HasNoTile board × (covers ps centre ≡ true))
    ⊎ ((p : Placed) × (square : ℕ) × Contains ps p × AreBeside p.square square × (holds board square ≡ true))

anchored-from : (board : List (Option Tile)) (ps : List Placed) → list_all (λ (p : Placed). nat_lt p.square 225) ps ≡ true
    → misses_centre board ps ≡ false → is_apart board ps ≡ false → Anchored board ps
unfolding misses_centre is_apart Anchored
anchored-from board ps within centre_free apart_free =
    ⊎_elim
    (λ (empty : has_no_tile board ≡ true).
    ⊎_elim
    (λ (s : has_no_tile board ≡ false). absurd (both_ways (has_no_tile board) s empty))
    (λ (s : not (covers ps centre) ≡ false). inl (empty-true board empty, not-false (covers ps centre) s))
    (and_cases (has_no_tile board) (not (covers ps centre)) centre_free))
    (λ (old : has_no_tile board ≡ false).
    ⊎_elim
    (λ (s : not (has_no_tile board) ≡ false). absurd (both_ways (has_no_tile board) old (not-false (has_no_tile board) s)))
    (λ (s : not (list_any (λ (p : Placed). touches board p.square) ps) ≡ false).
    let found = list_any-found (λ (p : Placed). touches board p.square) ps (not-false (list_any (λ (p : Placed). touches board p.square) ps) s) in
    let beside = touches-beside board (found.0).square (on_board ps found.0 within found.1) found.2 in
    inr (found.0, beside.0, found.1, beside.1, beside.2))
    (and_cases (not (has_no_tile board)) (not (list_any (λ (p : Placed). touches board p.square) ps)) apart_free))
    (cases_Bool (has_no_tile board))

misses_centre-from : (board : List (Option Tile)) (ps : List Placed) → Anchored board ps → misses_centre board ps ≡ false
unfolding misses_centre Anchored
misses_centre-from board ps (inl h) = and_right (has_no_tile board) (not (covers ps centre)) (not_from_true (covers ps centre) h.1)
misses_centre-from board ps (inr h) =
    and_left (has_no_tile board) (not (covers ps centre))
    (false_from_ne_true (has_no_tile board) (λ empty. both_ways (holds board h.1) (ap is_some (empty-true board empty h.1)) h.4))

is_apart-from : (board : List (Option Tile)) (ps : List Placed) → length board ≡ 225 → Anchored board ps → is_apart board ps ≡ false
unfolding is_apart Anchored
is_apart-from board ps size (inl h) =
    and_left (not (has_no_tile board)) (not (list_any (λ (p : Placed). touches board p.square) ps)) (not_from_true (has_no_tile board) (empty-from board h.0))
is_apart-from board ps size (inr h) =
    and_right (not (has_no_tile board)) (not (list_any (λ (p : Placed). touches board p.square) ps))
    (not_from_true (list_any (λ (p : Placed). touches board p.square) ps)
    (list_any-in (λ (p : Placed). touches board p.square) ps h.0 h.2 (beside-touches board (h.0).square h.1 size h.3 h.4)))

pub in_line_of : (d : Dir) (ps : List Placed) → are_in_line d ps ≡ true → (are_in_line Across ps ≡ true) ⊎ (are_in_line Down ps ≡ true)
in_line_of Across ps e = inl e
in_line_of Down ps e = inr e

pub no_fault-legal : (d : Dir) (board : List (Option Tile)) (ps : List Placed) → length board ≡ 225 → is_play d ps ≡ true
    → (fault_of d board ps ≡ None) ↔ IsLegal board ps
unfolding fault_of Anchored
no_fault-legal d board ps size play =
    let after = with_tiles board ps in
    let parts = is_play-parts d ps play in (
      λ e.
          let a = check-none (overlaps board ps) _ _ e in
          let b = check-none (has_gap d after ps) _ _ a.1 in
          let c = check-none (misses_centre board ps) _ _ b.1 in
          let f = check-none (is_too_short d after ps) _ _ c.1 in
          let g = check-none (is_apart board ps) _ _ f.1 in
          record {
            on_empty = overlaps-false board ps a.0;
            in_line = in_line_of d ps parts.3;
            no_gap = has_gap-false d after ps parts.2 parts.3 b.0;
            forms_run = too_short-false d after ps f.0;
            anchored = anchored-from board ps parts.1 c.0 g.0;
          },
      λ legal.
          check-from (overlaps board ps) _ _ (overlaps-from board ps legal.on_empty)
          (check-from (has_gap d after ps) _ _ (has_gap-from d board ps size parts.1 parts.3 legal.no_gap)
          (check-from (misses_centre board ps) _ _ (misses_centre-from board ps legal.anchored)
          (check-from (is_too_short d after ps) _ _ (too_short-from d after ps legal.forms_run)
          (check-from (is_apart board ps) _ _ (is_apart-from board ps size legal.anchored) refl)))),
    )

-- an answer that gives the first fault is Ok exactly when the play is legal
pub legal_from : (r : Result (Unit {0}) PlayFault) (d : Dir) (board : List (Option Tile)) (ps : List Placed) → length board ≡ 225 → is_play d ps ≡ true
    → Refuses r (fault_of d board ps) → (is_ok r ≡ true → IsLegal board ps) × (IsLegal board ps → is_ok r ≡ true)
legal_from (Ok u) d board ps size play reported = (λ _. (no_fault-legal d board ps size play).0 reported, λ _. refl)
legal_from (Err why) d board ps size play reported =
    (λ e. absurd (false≢true e), λ l. let none : None ≡ Some why = sym ((no_fault-legal d board ps size play).1 l) ∙ reported in (cc))
