-- A legal placement has one direction in which it is written, and forms one run along it.
use Rattle.std.proofs.Common.{◌≡◌, ℕ, ◌<◌, ◌≤◌, Bool, true, false, not, ◌&&◌, ◌==◌, nat_le, nat_lt, List, [], ◌∷◌, ◌++◌, length, refl, sym, ap, ◌∙◌, subst, arith, ◌⊎◌, inl, inr, ⊎_elim, Option}
use Rattle.std.specs.Prelude.{Contains, if◌then◌else◌}
use Rattle.std.specs.List.{list_all}
use Rattle.std.proofs.lemmas.Bool.{cases_lt, and_parts, and_from, and_cases, both_ways, ltb-true, eqb-true, eq-eqb, not-true, not-false}
use Rattle.ref_tiles.specs.declared.tiles.Tile.{Tile}
use Rattle.ref_board.specs.declared.directions.Dir.{Dir}
use Rattle.ref_board.specs.declared.directions.Dir.TheVariants.{Across, Down}
use Rattle.ref_board.specs.Lines.{line_of, place_of, square_at}
use Rattle.ref_board.specs.Cells.{occupied_on}
use Rattle.ref_board.specs.Runs.{IsWhole, IsRunThrough}
use Rattle.ref_play.specs.declared.placed.Placed.{Placed}
use Rattle.ref_play.specs.declared.runs.Run.{Run}
use Rattle.ref_play.specs.Placements.{are_rising, are_in_line, is_play, with_tiles}
use Rattle.ref_play.specs.Formed.{runs_along, runs_formed, MeetsRun}
use Rattle.ref_play.specs.Legality.{HasNoGap, IsLegal}
use Rattle.ref_play.specs.Directions.{direction_of, LiesIn, RunsAlong}
use Rattle.ref_play.proofs.RangeLaws.{Contains-here, Contains-there, list_all-in}
use Rattle.ref_play.proofs.LineLaws.{line_of-square_at, place_of-square_at, line_below, place_below, place_rises}
use Rattle.ref_play.proofs.RunLaws.{runs_formed-meet}
use Rattle.ref_play.proofs.PlaceLaws.{is_play-parts, on_board}
use Rattle.ref_play.proofs.FormedRuns.{along_runs, run_through, no_run_through, laid_from}
use Rattle.ref_play.proofs.Stretches.{lies_in}

-- a play is also a play in any direction in which its tiles are in line
pub is_play-turned : (d e : Dir) (ps : List Placed) → is_play d ps ≡ true → are_in_line e ps ≡ true → is_play e ps ≡ true
unfolding is_play
is_play-turned d e ps play line =
    let front = nat_le 1 (length ps) && nat_le (length ps) 7 && list_all (λ (p : Placed). nat_lt p.square 225) ps && are_rising ps in
    and_from front (are_in_line e ps) (and_parts front (are_in_line d ps) play).0 line

-- the stretch of a play, as the run through its first tile
pub stretch_is_run : (d : Dir) (after : List (Option Tile)) (p : Placed) (ps : List Placed) (first len : ℕ) → p.square < 225
    → LiesIn d after (p ∷ ps) (line_of d p.square) first len → IsRunThrough after d p.square (square_at d (line_of d p.square) first) len
stretch_is_run d after p ps first len on lies =
    let line = line_of d p.square in
    let here = Contains-here p ps in
    let low = lies.low p here in
    let high = lies.high p here in
    let below = place_below d p.square on in
    let line_on = line_below d p.square on in
    let same_place : place_of d (square_at d line first) ≡ first = place_of-square_at d line first line_on (omega arith) in
    record {
      same_line = line_of-square_at d line first line_on (omega arith);
      not_after = omega arith;
      reaches = omega arith;
      whole = subst (λ (k : ℕ). IsWhole (occupied_on d after line) k len) (sym same_place) lies.whole;
    }

-- two tiles lie in a stretch of two places or more
two_long : (d : Dir) (after : List (Option Tile)) (p q : Placed) (ps : List Placed) (line first len : ℕ) → are_rising (p ∷ q ∷ ps) ≡ true
    → LiesIn d after (p ∷ q ∷ ps) line first len → 2 ≤ len
two_long d after p q ps line first len rising lies =
    let here = Contains-here p (q ∷ ps) in
    let next = Contains-there p (q ∷ ps) q (Contains-here q ps) in
    let parts = and_parts (list_all (λ (r : Placed). nat_lt p.square r.square) (q ∷ ps)) (are_rising (q ∷ ps)) rising in
    let less = ltb-true p.square q.square (list_all-in (λ (r : Placed). nat_lt p.square r.square) (q ∷ ps) q parts.0 (Contains-here q ps)) in
    let more = place_rises d p.square q.square (lies.lines p here ∙ sym (lies.lines q next)) less in
    let low = lies.low p here in
    let high = lies.high q next in
    omega arith

short_is_one : (d : Dir) (after : List (Option Tile)) (p : Placed) (ps : List Placed) (line first len : ℕ) → are_rising (p ∷ ps) ≡ true
    → LiesIn d after (p ∷ ps) line first len → len < 2 → ps ≡ []
short_is_one d after p [] line first len rising lies short = refl
short_is_one d after p (q ∷ ps) line first len rising lies short =
    let long = two_long d after p q ps line first len rising lies in absurd (omega arith)

-- a play without a gap runs along its direction, or is one tile that forms no run there
pub runs_or_one : (d : Dir) (board : List (Option Tile)) (p : Placed) (ps : List Placed) → length board ≡ 225 → is_play d (p ∷ ps) ≡ true → HasNoGap (with_tiles board (p ∷ ps)) (p ∷ ps)
    → RunsAlong d board (p ∷ ps) ⊎ ((runs_along d (with_tiles board (p ∷ ps)) (p ∷ ps) ≡ []) × (ps ≡ []))
runs_or_one d board p ps size play no_gap =
    let after = with_tiles board (p ∷ ps) in
    let parts = is_play-parts d (p ∷ ps) play in
    let on = on_board (p ∷ ps) p parts.1 (Contains-here p ps) in
    let line = line_of d p.square in
    let stretch = lies_in d board p ps size play no_gap in
    let first = stretch.0 in
    let len = stretch.1 in
    let lies = stretch.2 in
    let run = stretch_is_run d after p ps first len on lies in
    let runs = along_runs d after p ps (laid_from d board (p ∷ ps) size play no_gap) in
    ⊎_elim
    (λ (short : len < 2).
    inr (runs ∙ no_run_through d after p.square (square_at d line first) len run short, short_is_one d after p ps line first len parts.2 lies short))
    (λ (long : 2 ≤ len).
    inl (record {
      play = play;
      line = line;
      first = first;
      len = len;
      below = line_below d p.square on;
      long = long;
      lies = lies;
      runs = runs ∙ run_through d after p.square (square_at d line first) len on run long;
    }))
    (cases_lt len 2)

-- some run is formed
some_run : (d : Dir) (after : List (Option Tile)) (ps : List Placed) (run : Run) → MeetsRun after ps run → runs_formed d after ps ≡ [] → ⊥
some_run d after ps run meets none =
    let found = subst (λ (runs : List Run). Contains runs run) none ((runs_formed-meet d after ps run).1 meets) in
    absurd (omega (arith, found.1))

-- the two answers of the test of the direction
no_items : {X : Type 0} (xs : List X) → length xs ≡ 0 → xs ≡ []
no_items [] e = refl
no_items (x ∷ xs) e = absurd (omega arith)

none_across : {X : Type 0} (b : Bool) (xs : List X) → (b && not (length xs == 0)) ≡ false → b ≡ true → xs ≡ []
none_across b xs e line =
    ⊎_elim
    (λ (s : b ≡ false). absurd (both_ways b s line))
    (λ (s : not (length xs == 0) ≡ false). no_items xs (eqb-true (length xs) 0 (not-false (length xs == 0) s)))
    (and_cases b (not (length xs == 0)) e)

some_across : {X : Type 0} (b : Bool) (xs : List X) → (b && not (length xs == 0)) ≡ true → xs ≡ [] → ⊥
some_across b xs e none =
    both_ways (length xs == 0) (not-true (length xs == 0) (and_parts b (not (length xs == 0)) e).1) (eq-eqb (length xs) 0 (ap length none))

written_by : (b : Bool) (e : Dir) (board : List (Option Tile)) (p : Placed) (ps : List Placed) → length board ≡ 225 → is_play e (p ∷ ps) ≡ true → IsLegal board (p ∷ ps)
    → (are_in_line Across (p ∷ ps) && not (length (runs_along Across (with_tiles board (p ∷ ps)) (p ∷ ps)) == 0)) ≡ b → RunsAlong (if b then Across else Down) board (p ∷ ps)
written_by true e board p ps size play legal test =
    let runs = runs_along Across (with_tiles board (p ∷ ps)) (p ∷ ps) in
    let line = (and_parts (are_in_line Across (p ∷ ps)) (not (length runs == 0)) test).0 in
    ⊎_elim
    (λ (r : RunsAlong Across board (p ∷ ps)). r)
    (λ (r : (runs ≡ []) × (ps ≡ [])). absurd (some_across (are_in_line Across (p ∷ ps)) runs test r.0))
    (runs_or_one Across board p ps size (is_play-turned e Across (p ∷ ps) play line) legal.no_gap)
written_by false e board p ps size play legal test =
    let after = with_tiles board (p ∷ ps) in
    let across = runs_along Across after (p ∷ ps) in
    let down = runs_along Down after (p ∷ ps) in
    let one_down : ps ≡ [] → are_in_line Down (p ∷ ps) ≡ true = λ one. ap (λ (qs : List Placed). are_in_line Down (p ∷ qs)) one in
    let one_across : ps ≡ [] → are_in_line Across (p ∷ ps) ≡ true = λ one. ap (λ (qs : List Placed). are_in_line Across (p ∷ qs)) one in
    let line : are_in_line Down (p ∷ ps) ≡ true =
    ⊎_elim
    (λ (s : are_in_line Across (p ∷ ps) ≡ true). ⊎_elim
    (λ (r : RunsAlong Across board (p ∷ ps)). let both = sym (none_across (are_in_line Across (p ∷ ps)) across test s) ∙ r.runs in cc)
    (λ (r : (across ≡ []) × (ps ≡ [])). one_down r.1)
    (runs_or_one Across board p ps size (is_play-turned e Across (p ∷ ps) play s) legal.no_gap))
    (λ (s : are_in_line Down (p ∷ ps) ≡ true). s)
    legal.in_line in
    ⊎_elim
    (λ (r : RunsAlong Down board (p ∷ ps)). r)
    (λ (r : (down ≡ []) × (ps ≡ [])).
    let none = none_across (are_in_line Across (p ∷ ps)) across test (one_across r.1) in
    absurd (some_run Across after (p ∷ ps) legal.forms_run.0 legal.forms_run.1 (ap (λ (runs : List Run). runs ++ down) none ∙ r.0)))
    (runs_or_one Down board p ps size (is_play-turned e Down (p ∷ ps) play line) legal.no_gap)

-- a legal placement runs along the direction in which it is written
pub written_along : (e : Dir) (board : List (Option Tile)) (ps : List Placed) → length board ≡ 225 → is_play e ps ≡ true → IsLegal board ps
    → RunsAlong (direction_of board ps) board ps
written_along e board [] size play legal = let parts = is_play-parts e [] play in absurd (omega (arith, parts.0))
written_along e board (p ∷ ps) size play legal =
    written_by (are_in_line Across (p ∷ ps) && not (length (runs_along Across (with_tiles board (p ∷ ps)) (p ∷ ps)) == 0)) e board p ps size play legal refl
