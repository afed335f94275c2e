-- What a change of one square leaves as it was: the value of each square whose run across the play, once a tile lies there, does
-- not touch the square that changed.
use Rattle.std.proofs.Common.{◌≡◌, ◌↔◌, ℕ, ◌+◌, ◌-◌, ◌<◌, ◌≤◌, true, false, List, [], ◌∷◌, length, map, get_or, All, sum_by, refl, sym, ap, subst, ◌∙◌, arith, ◌⊎◌, ⊎_elim, inl, inr, Option, Some, None, is_some}
use Rattle.std.specs.Prelude.{Contains}
use Rattle.std.specs.List.{range_with_len}
use Rattle.std.proofs.lemmas.Bool.{both_ways, cases_eq, cases_lt, cases_order}
use Rattle.std.proofs.lemmas.List.{get_or-set_same, get_or-set_other, length-set}
use Rattle.ref_tiles.specs.declared.tiles.Tile.{Tile}
use Rattle.ref_tiles.specs.declared.rulebook.Rules.{Rules}
use Rattle.ref_tiles.specs.Faces.{letter_tile, blank_tile, letter_a}
use Rattle.ref_board.specs.declared.directions.Dir.{Dir}
use Rattle.ref_board.specs.Lines.{line_of, place_of, square_at, other_dir}
use Rattle.ref_board.specs.Cells.{tile_at, holds, with_tile, occupied_on}
use Rattle.ref_board.specs.Runs.{IsFirstBack, IsEndOn}
use Rattle.ref_play.specs.declared.runs.Run.{Run}
use Rattle.ref_play.specs.Formed.{along}
use Rattle.ref_play.specs.Words.{capital_shown, letters_of}
use Rattle.ref_play.specs.Scores.{points_on}
use Rattle.ref_play.specs.Crosses.{cross_runs, cross_words, old_points}
use Rattle.ref_play.proofs.Agreeing.{map_agree, sum_agree, All-range}
use Rattle.ref_play.proofs.FormedRuns.{run_through, no_run_through}
use Rattle.ref_play.proofs.LineLaws.{line_of-square_at, place_of-square_at, square_at-of, line_below, place_below, same_square}
use Rattle.ref_play.proofs.Stretches.{first_back, end_on}
use Rattle.gen_cross.specs.declared.crosses.Value.{Value}
use Rattle.gen_cross.specs.Values.{IsValue}
use Rattle.gen_cross.specs.Changes.{crossing, AgreeBut, AgreeOff}
use Rattle.gen_cross.specs.CrossRuns.{IsRunWith}
use Rattle.gen_cross.proofs.MaskLaws.{along_place}
use Rattle.gen_cross.proofs.RunsWith.{run_with_is}
use Rattle.gen_cross.proofs.SideLaws.{sum_of_one}

strictly : (a b : ℕ) → a ≤ b → (a ≡ b → ⊥) → a < b
strictly a b le ne =
    ⊎_elim
    (λ (e : a ≡ b). absurd (ne e))
    (λ (o : (a < b) ⊎ (b < a)). ⊎_elim (λ (h : a < b). h) (λ (h : b < a). absurd (omega arith)) o)
    (cases_order a b)

-- two boards have the same tiles on the places of a line from the one before `first` up to `end`
abbrev AgreeAround : Dir → ℕ → ℕ → ℕ → List (Option Tile) → List (Option Tile) → Type 0
AgreeAround e line first end a b = (place : ℕ) → place < 15 → first ≤ place + 1 → place ≤ end → tile_at a (square_at e line place) ≡ tile_at b (square_at e line place)

back_agree : (e : Dir) (a b : List (Option Tile)) (line place first end : ℕ) → place < 15 → place ≤ end → AgreeAround e line first end a b
    → IsFirstBack (occupied_on e a line) place first → IsFirstBack (occupied_on e b line) place first
back_agree e a b line place first end on upto same back =
    let low = back.not_after in
    record {
      not_after = low;
      filled = λ k from below. sym (ap is_some (same k (omega arith) (omega arith) (omega arith))) ∙ back.filled k from below;
      before = λ some. sym (ap is_some (same (first - 1) (omega arith) (omega arith) (omega arith))) ∙ back.before some;
    }

ahead_agree : (e : Dir) (a b : List (Option Tile)) (line place first end : ℕ) → first ≤ place → AgreeAround e line first end a b
    → IsEndOn (occupied_on e a line) place end → IsEndOn (occupied_on e b line) place end
ahead_agree e a b line place first end from same ahead =
    let high = ahead.following in
    let inside = ahead.inside in
    record {
      following = high;
      inside = inside;
      filled = λ k above below. sym (ap is_some (same k (omega arith) (omega arith) (omega arith))) ∙ ahead.filled k above below;
      after = λ more. sym (ap is_some (same end more (omega arith) (omega arith))) ∙ ahead.after more;
    }

-- a tile put on both boards
put_on_both : (a b : List (Option Tile)) (square n : ℕ) (t : Tile) → square < length a → square < length b → tile_at a n ≡ tile_at b n
    → tile_at (with_tile a square (Some t)) n ≡ tile_at (with_tile b square (Some t)) n
put_on_both a b square n t in_a in_b same =
    ⊎_elim
    (λ (s : n ≡ square).
    ap (tile_at (with_tile a square (Some t))) s ∙ get_or-set_same a square (Some t) None in_a
    ∙ sym (get_or-set_same b square (Some t) None in_b) ∙ ap (tile_at (with_tile b square (Some t))) (sym s))
    (λ (ne : n ≡ square → ⊥). get_or-set_other a square n (Some t) None ne ∙ same ∙ sym (get_or-set_other b square n (Some t) None ne))
    (cases_eq n square)

-- the run through a square is the same on two boards that have the same tiles around it
module _ (e : Dir) (a b : List (Option Tile)) (square first end : ℕ) (size_a : length a ≡ 225) (size_b : length b ≡ 225) (on : square < 225) (back : IsFirstBack (occupied_on e a (line_of e square)) (place_of e square) first) (ahead : IsEndOn (occupied_on e a (line_of e square)) (place_of e square) end) (same : AgreeAround e (line_of e square) first end a b) where
  abbrev shared : Run
  shared = record { start = square_at e (line_of e square) first; dir = e; len = end - first }

  on_first : IsRunWith a square shared
  on_first = run_with_is a e square first end size_a on back ahead shared refl refl refl

  on_second : IsRunWith b square shared
  on_second =
      let low = back.not_after in
      let high = ahead.following in
      let in_place = place_below e square on in
      run_with_is b e square first end size_b on
      (back_agree e a b (line_of e square) (place_of e square) first end in_place (omega arith) same back)
      (ahead_agree e a b (line_of e square) (place_of e square) first end low same ahead)
      shared refl refl refl

  same_along : (k : ℕ) → k < end - first → tile_at a (along e shared.start k) ≡ tile_at b (along e shared.start k)
  same_along k below =
      let low = back.not_after in
      let high = ahead.following in
      let inside = ahead.inside in
      let line = line_of e square in
      let in_line = line_below e square on in
      let there : along e shared.start k ≡ square_at e line (first + k) =
      along_place e shared.start k
      ∙ ap (λ x. square_at e x (place_of e shared.start + k)) (line_of-square_at e line first in_line (omega arith))
      ∙ ap (λ x. square_at e line (x + k)) (place_of-square_at e line first in_line (omega arith)) in
      ap (tile_at a) there ∙ same (first + k) (omega arith) (omega arith) (omega arith) ∙ sym (ap (tile_at b) there)

  same_letters : (t : Tile) → letters_of (with_tile a square (Some t)) shared ≡ letters_of (with_tile b square (Some t)) shared
  unfolding letters_of
  same_letters t =
      map_agree (λ k. k < end - first)
      (λ k. capital_shown (tile_at (with_tile a square (Some t)) (along e shared.start k)))
      (λ k. capital_shown (tile_at (with_tile b square (Some t)) (along e shared.start k)))
      (λ k below. ap capital_shown (put_on_both a b square (along e shared.start k) t (omega arith) (omega arith) (same_along k below)))
      (range_with_len 0 (end - first))
      (All-range (λ k. k < end - first) 0 (end - first) (λ k low high. omega arith))

  same_points : (rules : Rules) → old_points rules a shared ≡ old_points rules b shared
  same_points rules =
      sum_agree (λ k. k < end - first) (λ k. points_on rules (tile_at a (along e shared.start k))) (λ k. points_on rules (tile_at b (along e shared.start k)))
      (λ k below. ap (points_on rules) (same_along k below))
      (range_with_len 0 (end - first))
      (All-range (λ k. k < end - first) 0 (end - first) (λ k low high. omega arith))

  same_words : (t : Tile) → cross_words e a square t ≡ cross_words e b square t
  same_words t =
      let in_a = with_tile a square (Some t) in
      let in_b = with_tile b square (Some t) in
      ⊎_elim
      (λ (short : end - first < 2).
      ap (map (letters_of in_a)) (no_run_through e in_a square shared.start (end - first) (on_first.through t) short)
      ∙ sym (ap (map (letters_of in_b)) (no_run_through e in_b square shared.start (end - first) (on_second.through t) short)))
      (λ (long : 2 ≤ end - first).
      ap (map (letters_of in_a)) (run_through e in_a square shared.start (end - first) on (on_first.through t) long)
      ∙ ap (λ (w : List ℕ). w ∷ []) (same_letters t)
      ∙ sym (ap (map (letters_of in_b)) (run_through e in_b square shared.start (end - first) on (on_second.through t) long)))
      (cases_lt (end - first) 2)

  same_beside : (rules : Rules) (t : Tile) → sum_by (old_points rules a) (cross_runs e a square t) ≡ sum_by (old_points rules b) (cross_runs e b square t)
  same_beside rules t =
      let in_a = with_tile a square (Some t) in
      let in_b = with_tile b square (Some t) in
      ⊎_elim
      (λ (short : end - first < 2).
      ap (sum_by (old_points rules a)) (no_run_through e in_a square shared.start (end - first) (on_first.through t) short)
      ∙ sym (ap (sum_by (old_points rules b)) (no_run_through e in_b square shared.start (end - first) (on_second.through t) short)))
      (λ (long : 2 ≤ end - first).
      ap (sum_by (old_points rules a)) (run_through e in_a square shared.start (end - first) on (on_first.through t) long)
      ∙ sum_of_one (old_points rules a) shared ∙ same_points rules ∙ sym (sum_of_one (old_points rules b) shared)
      ∙ sym (ap (sum_by (old_points rules b)) (run_through e in_b square shared.start (end - first) on (on_second.through t) long)))
      (cases_lt (end - first) 2)

-- so is its value
value_around : (rules : Rules) (words : List (List ℕ)) (d : Dir) (a b : List (Option Tile)) (square first end : ℕ) → length a ≡ 225 → length b ≡ 225 → square < 225
    → IsFirstBack (occupied_on (other_dir d) a (line_of (other_dir d) square)) (place_of (other_dir d) square) first
    → IsEndOn (occupied_on (other_dir d) a (line_of (other_dir d) square)) (place_of (other_dir d) square) end
    → AgreeAround (other_dir d) (line_of (other_dir d) square) first end a b → tile_at a square ≡ tile_at b square
    → (v : Value) → IsValue rules words d a square v → IsValue rules words d b square v
value_around rules words d a b square first end size_a size_b on back ahead same here v is =
    let e = other_dir d in
    record {
      occupied = λ h. is.occupied (ap is_some here ∙ h);
      mask = λ free l.
          subst (λ (ws : List (List ℕ)). (get_or v.mask l.index false ≡ true) ↔ All (Contains words) ws)
          (same_words e a b square first end size_a size_b on back ahead same (letter_tile l)) (is.mask (here ∙ free) l);
      side = λ free. is.side (here ∙ free) ∙ same_beside e a b square first end size_a size_b on back ahead same rules (blank_tile letter_a);
    }

-- and a square with a tile has no value on either board
value_held : (rules : Rules) (words : List (List ℕ)) (d : Dir) (a b : List (Option Tile)) (square : ℕ) → tile_at a square ≡ tile_at b square → holds a square ≡ true
    → (v : Value) → IsValue rules words d a square v → IsValue rules words d b square v
value_held rules words d a b square here held v is =
    let none : tile_at b square ≡ None → ⊥ = λ free. both_ways (holds a square) (ap is_some here ∙ ap is_some free) held in
    record { occupied = λ h. is.occupied held; mask = λ free. absurd (none free); side = λ free. absurd (none free) }

-- and so it is if they have the same tiles on the whole line across the play
pub value_on_line : (rules : Rules) (words : List (List ℕ)) (d : Dir) (a b : List (Option Tile)) (square : ℕ) → length a ≡ 225 → length b ≡ 225 → square < 225
    → ((place : ℕ) → place < 15 → tile_at a (crossing d square place) ≡ tile_at b (crossing d square place))
    → (v : Value) → IsValue rules words d a square v → IsValue rules words d b square v
value_on_line rules words d a b square size_a size_b on same v is =
    let e = other_dir d in
    let k = place_of e square in
    let in_place = place_below e square on in
    let back = first_back (occupied_on e a (line_of e square)) k in
    let ahead = end_on (occupied_on e a (line_of e square)) k (14 - k) (omega arith) in
    value_around rules words d a b square back.0 ahead.0 size_a size_b on back.1 ahead.1 (λ place p low high. same place p)
    (sym (ap (tile_at a) (square_at-of e square)) ∙ same k in_place ∙ ap (tile_at b) (square_at-of e square)) v is

-- Two boards that have the same tiles across the play through a square, except for the places of a line from `from` up to just
-- before `to`. `first` and `end` are the ends of the tiles of the second board directly before and after these places. The square
-- lies on another line, or further away than the places beyond these ends: its run, once a tile lies there, does not touch them.
module _ (rules : Rules) (words : List (List ℕ)) (d : Dir) (before after : List (Option Tile)) (size_before : length before ≡ 225) (size : length after ≡ 225) (line from to last first end : ℕ) (from_on : from < 15) (is_last : last + 1 ≡ to) (back : IsFirstBack (occupied_on (other_dir d) after line) from first) (ahead : IsEndOn (occupied_on (other_dir d) after line) last end) (s : ℕ) (below : s < 225) (same : AgreeOff d line from to s before after) (beyond : line_of (other_dir d) s ≡ line → (place_of (other_dir d) s + 1 < first) ⊎ (end < place_of (other_dir d) s)) where
  -- the square itself is not one of these places
  outside : line_of (other_dir d) s ≡ line → from ≤ place_of (other_dir d) s → place_of (other_dir d) s < to → ⊥
  outside on low high =
      let not_after = back.not_after in
      let following = ahead.following in
      ⊎_elim (λ (h : place_of (other_dir d) s + 1 < first). omega arith) (λ (h : end < place_of (other_dir d) s). omega arith) (beyond on)

  same_here : tile_at before s ≡ tile_at after s
  same_here =
      let e = other_dir d in
      sym (ap (tile_at before) (square_at-of e s)) ∙ same (place_of e s) (place_below e s below) outside ∙ ap (tile_at after) (square_at-of e s)

  -- a place of the line that is not one of these and is empty after was empty before
  clear : line_of (other_dir d) s ≡ line → (m : ℕ) → m < 15 → (from ≤ m → m < to → ⊥) → occupied_on (other_dir d) after line m ≡ false
      → occupied_on (other_dir d) before (line_of (other_dir d) s) m ≡ false
  clear on m bound off none =
      let e = other_dir d in
      ap is_some (same m bound (λ one. off)) ∙ ap (λ x. occupied_on e after x m) on ∙ none

  apart : (f n : ℕ) → IsFirstBack (occupied_on (other_dir d) before (line_of (other_dir d) s)) (place_of (other_dir d) s) f
      → IsEndOn (occupied_on (other_dir d) before (line_of (other_dir d) s)) (place_of (other_dir d) s) n
      → (place : ℕ) → f ≤ place + 1 → place ≤ n → line_of (other_dir d) s ≡ line → from ≤ place → place < to → ⊥
  apart f n s_back s_ahead place low high on after_from before_to =
      let e = other_dir d in
      let k = place_of e s in
      let in_place = place_below e s below in
      let not_after = back.not_after in
      let following = ahead.following in
      ⊎_elim
      (λ (lt : k + 1 < first).
      let none : occupied_on e before (line_of e s) (first - 1) ≡ false =
      clear on (first - 1) (omega arith) (λ l h. absurd (omega arith)) (back.before (omega arith)) in
      let short : n ≤ first - 1 = ⊎_elim
      (λ (h : first - 1 < n). absurd (both_ways (occupied_on e before (line_of e s) (first - 1)) none (s_ahead.filled (first - 1) (omega arith) h)))
      (λ (h : n ≤ first - 1). h) (cases_lt (first - 1) n) in
      absurd (omega arith))
      (λ (lt : end < k).
      let none : occupied_on e before (line_of e s) end ≡ false =
      clear on end (omega arith) (λ l h. absurd (omega arith)) (ahead.after (omega arith)) in
      let short : end < f = ⊎_elim
      (λ (h : end < f). h)
      (λ (h : f ≤ end). absurd (both_ways (occupied_on e before (line_of e s) end) none (s_back.filled end h lt)))
      (cases_lt end f) in
      absurd (omega arith))
      (beyond on)

  value_beyond : (v : Value) → IsValue rules words d before s v → IsValue rules words d after s v
  value_beyond v is =
      let e = other_dir d in
      let k = place_of e s in
      let in_place = place_below e s below in
      let s_back = first_back (occupied_on e before (line_of e s)) k in
      let s_ahead = end_on (occupied_on e before (line_of e s)) k (14 - k) (omega arith) in
      value_around rules words d before after s s_back.0 s_ahead.0 size_before size below s_back.1 s_ahead.1
      (λ place p low high. same place p (apart s_back.0 s_ahead.0 s_back.1 s_ahead.1 place low high))
      same_here v is

-- the same with other names for the direction, the line, the places and the ends
pub value_off : (rules : Rules) (words : List (List ℕ)) (d : Dir) (before after : List (Option Tile)) → length before ≡ 225 → length after ≡ 225
    → (e : Dir) (line from to last first end low stop : ℕ) → e ≡ other_dir d → from < 15 → last + 1 ≡ to
    → IsFirstBack (occupied_on e after line) from first → IsEndOn (occupied_on e after line) last end → low ≡ first - 1 → (end < 15 → stop ≡ end + 1) → (end ≡ 15 → stop ≡ 15)
    → (s : ℕ) → s < 225 → AgreeOff d line from to s before after → (line_of e s ≡ line → low ≤ place_of e s → place_of e s < stop → ⊥)
    → (v : Value) → IsValue rules words d before s v → IsValue rules words d after s v
value_off rules words d before after size_before size e line from to last first end low stop is_e from_on is_last back ahead is_low is_stop is_edge s below same off v is =
    let o = other_dir d in
    let in_place = place_below o s below in
    let inside = ahead.inside in
    let not_passed : line_of o s ≡ line → low ≤ place_of o s → place_of o s < stop → ⊥ =
    subst (λ x. line_of x s ≡ line → low ≤ place_of x s → place_of x s < stop → ⊥) is_e off in
    value_beyond rules words d before after size_before size line from to last first end from_on is_last
    (subst (λ x. IsFirstBack (occupied_on x after line) from first) is_e back) (subst (λ x. IsEndOn (occupied_on x after line) last end) is_e ahead)
    s below same
    (λ on. ⊎_elim
    (λ (h : place_of o s + 1 < first). inl h)
    (λ (h : first ≤ place_of o s + 1). ⊎_elim
    (λ (x : end < place_of o s). inr x)
    (λ (x : place_of o s ≤ end).
    absurd (not_passed on (omega arith)
    (⊎_elim (λ (y : end < 15). let z = is_stop y in omega arith) (λ (y : 15 ≤ end). let z = is_edge (omega arith) in omega arith) (cases_lt end 15))))
    (cases_lt end (place_of o s)))
    (cases_lt (place_of o s + 1) first))
    v is

-- Two boards that have the same tiles across the play through a square, except for another square. `first` and `end` are the ends
-- of the run of the second board through that one, or of the runs beside it, across the play; `low` and `high` are the places
-- beyond them.
module _ (rules : Rules) (words : List (List ℕ)) (d : Dir) (before after : List (Option Tile)) (size_before : length before ≡ 225) (size : length after ≡ 225) (square : ℕ) (on : square < 225) (first end low high : ℕ) (back : IsFirstBack (occupied_on (other_dir d) after (line_of (other_dir d) square)) (place_of (other_dir d) square) first) (ahead : IsEndOn (occupied_on (other_dir d) after (line_of (other_dir d) square)) (place_of (other_dir d) square) end) (is_low : 0 < first → low ≡ first - 1) (is_high : end < 15 → high ≡ end) (s : ℕ) (below : s < 225) (same : AgreeBut d square s before after) where
  same_off : AgreeOff d (line_of (other_dir d) square) (place_of (other_dir d) square) (place_of (other_dir d) square + 1) s before after
  same_off place p off =
      let e = other_dir d in
      let in_line = line_below e s below in
      same place p
      (λ (at : square_at e (line_of e s) place ≡ square).
      let there = place_of-square_at e (line_of e s) place in_line p in
      let here = ap (place_of e) at in
      off (sym (line_of-square_at e (line_of e s) place in_line p) ∙ ap (line_of e) at) (omega arith) (omega arith))

  value_away : (line_of (other_dir d) s ≡ line_of (other_dir d) square → (place_of (other_dir d) s + 1 < first) ⊎ (end < place_of (other_dir d) s))
      → (v : Value) → IsValue rules words d before s v → IsValue rules words d after s v
  value_away beyond v is =
      let e = other_dir d in
      let in_place = place_below e square on in
      value_beyond rules words d before after size_before size (line_of e square) (place_of e square) (place_of e square + 1) (place_of e square) first end in_place refl
      back ahead s below same_off beyond v is

  -- between the ends each square except that one has a tile on both boards
  value_within : line_of (other_dir d) s ≡ line_of (other_dir d) square → first ≤ place_of (other_dir d) s → place_of (other_dir d) s < end → (s ≡ square → ⊥)
      → (v : Value) → IsValue rules words d before s v → IsValue rules words d after s v
  value_within on_line from upto ne v is =
      let e = other_dir d in
      let k = place_of e s in
      let middle = place_of e square in
      let is_s = square_at-of e s in
      let here : tile_at before s ≡ tile_at after s =
      sym (ap (tile_at before) is_s) ∙ same k (place_below e s below) (λ at. ne (sym is_s ∙ at)) ∙ ap (tile_at after) is_s in
      let full : occupied_on e after (line_of e square) k ≡ true = ⊎_elim
      (λ (x : k ≡ middle). absurd (ne (same_square e s square on_line x)))
      (λ (o : (k < middle) ⊎ (middle < k)). ⊎_elim (λ (x : k < middle). back.filled k from x) (λ (x : middle < k). ahead.filled k x upto) o)
      (cases_order k middle) in
      let held : holds before s ≡ true =
      ap is_some here ∙ ap (holds after) (sym is_s) ∙ ap (λ x. occupied_on e after x k) on_line ∙ full in
      value_held rules words d before after s here held v is

  value_kept : (s ≡ square → ⊥) → (s ≡ square_at (other_dir d) (line_of (other_dir d) square) low → ⊥) → (s ≡ square_at (other_dir d) (line_of (other_dir d) square) high → ⊥)
      → (v : Value) → IsValue rules words d before s v → IsValue rules words d after s v
  value_kept ne not_low not_high v is =
      let e = other_dir d in
      let k = place_of e s in
      let in_place = place_below e s below in
      let is_s : line_of e s ≡ line_of e square → square_at e (line_of e square) k ≡ s = λ l. ap (λ x. square_at e x k) (sym l) ∙ square_at-of e s in
      ⊎_elim
      (λ (on_line : line_of e s ≡ line_of e square). ⊎_elim
      (λ (lt : k + 1 < first). value_away (λ l. inl lt) v is)
      (λ (ge : first ≤ k + 1). ⊎_elim
      (λ (gt : end < k). value_away (λ l. inr gt) v is)
      (λ (le : k ≤ end).
      let not_first : first ≡ k + 1 → ⊥ = λ x. let z = is_low (omega arith) in let y : k ≡ low = omega arith in not_low (sym (is_s on_line) ∙ ap (square_at e (line_of e square)) y) in
      let not_end : k ≡ end → ⊥ = λ x. let z = is_high (omega arith) in let y : k ≡ high = omega arith in not_high (sym (is_s on_line) ∙ ap (square_at e (line_of e square)) y) in
      let low_in : first < k + 1 = strictly first (k + 1) ge not_first in
      value_within on_line (omega arith) (strictly k end le not_end) ne v is)
      (cases_lt end k))
      (cases_lt (k + 1) first))
      (λ (off_line : line_of e s ≡ line_of e square → ⊥). value_away (λ l. absurd (off_line l)) v is)
      (cases_eq (line_of e s) (line_of e square))

-- the same with other names for the direction, the line, the places and the squares
pub value_stays : (rules : Rules) (words : List (List ℕ)) (d : Dir) (before after : List (Option Tile)) (square : ℕ) → length before ≡ 225 → length after ≡ 225 → square < 225
    → (e : Dir) (line place first end low high low_square high_square : ℕ) → e ≡ other_dir d → line ≡ line_of e square → place ≡ place_of e square
    → IsFirstBack (occupied_on e after line) place first → IsEndOn (occupied_on e after line) place end → (0 < first → low ≡ first - 1) → (end < 15 → high ≡ end)
    → low_square ≡ square_at e line low → high_square ≡ square_at e line high
    → (s : ℕ) → s < 225 → AgreeBut d square s before after → (s ≡ square → ⊥) → (s ≡ low_square → ⊥) → (s ≡ high_square → ⊥)
    → (v : Value) → IsValue rules words d before s v → IsValue rules words d after s v
value_stays rules words d before after square size_before size on e line place first end low high low_square high_square is_e is_line is_place back ahead is_low is_high at_low at_high s below same ne not_low not_high v is =
    let o = other_dir d in
    let line_is : line ≡ line_of o square = is_line ∙ ap (λ x. line_of x square) is_e in
    let place_is : place ≡ place_of o square = is_place ∙ ap (λ x. place_of x square) is_e in
    let back_o : IsFirstBack (occupied_on o after (line_of o square)) (place_of o square) first =
    subst (λ x. IsFirstBack (occupied_on o after (line_of o square)) x first) place_is
    (subst (λ x. IsFirstBack (occupied_on o after x) place first) line_is (subst (λ x. IsFirstBack (occupied_on x after line) place first) is_e back)) in
    let ahead_o : IsEndOn (occupied_on o after (line_of o square)) (place_of o square) end =
    subst (λ x. IsEndOn (occupied_on o after (line_of o square)) x end) place_is
    (subst (λ x. IsEndOn (occupied_on o after x) place end) line_is (subst (λ x. IsEndOn (occupied_on x after line) place end) is_e ahead)) in
    let low_is : low_square ≡ square_at o (line_of o square) low = at_low ∙ ap (λ x. square_at x line low) is_e ∙ ap (λ x. square_at o x low) line_is in
    let high_is : high_square ≡ square_at o (line_of o square) high = at_high ∙ ap (λ x. square_at x line high) is_e ∙ ap (λ x. square_at o x high) line_is in
    value_kept rules words d before after size_before size square on first end low high back_o ahead_o is_low is_high s below same
    ne (λ x. not_low (x ∙ sym low_is)) (λ x. not_high (x ∙ sym high_is)) v is

-- a board with another content of one square differs from it only on that square
pub with_tile_agrees : (d : Dir) (before after : List (Option Tile)) (square : ℕ) (cell : Option Tile) → after ≡ with_tile before square cell
    → (length before ≡ length after) × ((s : ℕ) → AgreeBut d square s before after)
with_tile_agrees d before after square cell put = (
  sym (length-set before square cell) ∙ sym (ap length put),
  λ s place p ne. sym (ap (λ (x : List (Option Tile)). tile_at x (crossing d s place)) put ∙ get_or-set_other before square (crossing d s place) cell None ne),
)

-- the places of a line that are passed, one more of them
pub passed_more : (e : Dir) (line low place at s : ℕ) → line < 15 → place < 15 → at ≡ square_at e line place → (s ≡ at → ⊥)
    → (line_of e s ≡ line → low ≤ place_of e s → place_of e s < place → ⊥) → line_of e s ≡ line → low ≤ place_of e s → place_of e s < place + 1 → ⊥
passed_more e line low place at s l p is ne not_passed on from to =
    ⊎_elim
    (λ (x : place_of e s ≡ place). ne (sym (square_at-of e s) ∙ ap (λ y. square_at e y (place_of e s)) on ∙ ap (square_at e line) x ∙ sym is))
    (λ (x : place_of e s ≡ place → ⊥). not_passed on from (strictly (place_of e s) place (omega arith) x))
    (cases_eq (place_of e s) place)
