-- The runs that a placement forms are those of the board that share a tile with it, each once.
use Rattle.std.proofs.Common.{◌≡◌, ℕ, ◌+◌, ◌<◌, ◌≤◌, Bool, true, false, ◌&&◌, ◌==◌, nat_le, nat_lt, List, map, refl, sym, ap, ◌∙◌, subst, arith, ◌⊎◌, inl, inr, ⊎_elim, Option}
use Rattle.std.specs.Prelude.{filter, Contains, All, ◌↔◌}
use Rattle.std.specs.List.{range_with_len, AllPairs}
use Rattle.std.proofs.lemmas.List.Elements.{All-append, All-contains, All-map}
use Rattle.std.proofs.lemmas.Bool.{and_parts, and_from, and_left, and_right, leb-true, le-leb, eqb-true, eq-eqb, ltb-true, lt-ltb, false_from_ne_true}
use Rattle.ref_tiles.proofs.Tallies.{tally, once, tally-append, tally-map, tally-never}
use Rattle.ref_tiles.specs.declared.tiles.Tile.{Tile}
use Rattle.ref_board.specs.declared.directions.Dir.{Dir}
use Rattle.ref_board.specs.declared.directions.Dir.TheVariants.{Across, Down}
use Rattle.ref_board.specs.Lines.{line_of, place_of, square_at, other_dir}
use Rattle.ref_board.specs.Cells.{occupied_on}
use Rattle.ref_board.specs.Runs.{IsWhole}
use Rattle.ref_play.specs.declared.placed.Placed.{Placed}
use Rattle.ref_play.specs.declared.runs.Run.{Run}
use Rattle.ref_play.specs.Placements.{fresh_on}
use Rattle.ref_play.specs.Formed.{is_formed, stretches_on, run_of, runs_of_line, runs_along, runs_formed, is_on, MeetsRun}
use Rattle.ref_play.specs.Directions.{same_dir}
use Rattle.ref_play.proofs.RangeLaws.{tally-filter, tally-range_none, tally-range_only, tally-flat_map_none, tally-flat_map_only, list_any-found, list_any-in, All-filter_range, All-flat_map_range, Contains-from_tally, AllPairs-from_tally}
use Rattle.ref_play.proofs.LineLaws.{line_of-square_at, place_of-square_at, square_at-of, line_below, square_at_below, stretches_within, stretches_on-is, is_formed-parts, is_formed-from}

-- the same run
abbrev pub same_run : Run → Run → Bool
same_run a b = a.start == b.start && same_dir a.dir b.dir && a.len == b.len

pub same_dir-true : (a b : Dir) → same_dir a b ≡ true → a ≡ b
same_dir-true Across Across e = refl
same_dir-true Across Down e = cc
same_dir-true Down Across e = cc
same_dir-true Down Down e = refl

same_dir-itself : (a : Dir) → same_dir a a ≡ true
same_dir-itself Across = refl
same_dir-itself Down = refl

same_run-parts : (a b : Run) → same_run a b ≡ true → (a.start ≡ b.start) × (a.dir ≡ b.dir) × (a.len ≡ b.len)
same_run-parts a b e =
    let p = and_parts (a.start == b.start && same_dir a.dir b.dir) (a.len == b.len) e in
    let q = and_parts (a.start == b.start) (same_dir a.dir b.dir) p.0 in
    (eqb-true a.start b.start q.0, same_dir-true a.dir b.dir q.1, eqb-true a.len b.len p.1)

run_from_parts : (a b : Run) → a.start ≡ b.start → a.dir ≡ b.dir → a.len ≡ b.len → a ≡ b
run_from_parts a b s d l =
    ap (λ (n : ℕ). let r : Run = record { start = n; dir = a.dir; len = a.len } in r) s
    ∙ ap (λ (x : Dir). let r : Run = record { start = b.start; dir = x; len = a.len } in r) d
    ∙ ap (λ (n : ℕ). let r : Run = record { start = b.start; dir = b.dir; len = n } in r) l

pub same_run-true : (a b : Run) → same_run a b ≡ true → a ≡ b
same_run-true a b e = let p = same_run-parts a b e in run_from_parts a b p.0 p.1 p.2

same_run-itself : (a : Run) → same_run a a ≡ true
same_run-itself a = and_from _ _ (and_from _ _ (eq-eqb a.start a.start refl) (same_dir-itself a.dir)) (eq-eqb a.len a.len refl)

pub same_run-from : (a b : Run) → a ≡ b → same_run a b ≡ true
same_run-from a b e = ap (same_run a) (sym e) ∙ same_run-itself a

-- the stretches of a line, tallied
stretches_within-tally_none : (occupied fresh : ℕ → Bool) (n m : ℕ) (p : ℕ × ℕ → Bool)
    → ((k l : ℕ) → k < n → 2 ≤ l → is_formed occupied fresh k l ≡ true → p (k, l) ≡ true → ⊥) → tally p (stretches_within occupied fresh n m) ≡ 0
unfolding stretches_within
stretches_within-tally_none occupied fresh n m p h =
    let f : ℕ → List (ℕ × ℕ) = λ k. map (λ l. (k, l)) (filter (is_formed occupied fresh k) (range_with_len 2 m)) in
    tally-flat_map_none p f 0 n
    (λ k b c. tally-map p (λ (l : ℕ). (k, l)) (filter (is_formed occupied fresh k) (range_with_len 2 m))
    ∙ tally-filter (λ (l : ℕ). p (k, l)) (is_formed occupied fresh k) (range_with_len 2 m)
    ∙ tally-range_none (λ (l : ℕ). is_formed occupied fresh k l && p (k, l)) 2 m
    (λ l low high. false_from_ne_true (is_formed occupied fresh k l && p (k, l))
    (λ t. let parts = and_parts (is_formed occupied fresh k l) (p (k, l)) t in h k l (omega arith) low parts.0 parts.1)))

stretches_within-tally_only : (occupied fresh : ℕ → Bool) (n m : ℕ) (p : ℕ × ℕ → Bool) (first len : ℕ) → first < n → 2 ≤ len → len < 2 + m
    → is_formed occupied fresh first len ≡ true → p (first, len) ≡ true
    → ((k l : ℕ) → k < n → p (k, l) ≡ true → (k ≡ first) × (l ≡ len)) → tally p (stretches_within occupied fresh n m) ≡ 1
unfolding stretches_within
stretches_within-tally_only occupied fresh n m p first len below low high e here only =
    let f : ℕ → List (ℕ × ℕ) = λ k. map (λ l. (k, l)) (filter (is_formed occupied fresh k) (range_with_len 2 m)) in
    let q : ℕ → ℕ → Bool = λ k l. is_formed occupied fresh k l && p (k, l) in
    let piece : (k : ℕ) → tally p (f k) ≡ tally (q k) (range_with_len 2 m) =
    λ k. tally-map p (λ (l : ℕ). (k, l)) (filter (is_formed occupied fresh k) (range_with_len 2 m))
    ∙ tally-filter (λ (l : ℕ). p (k, l)) (is_formed occupied fresh k) (range_with_len 2 m) in
    tally-flat_map_only p f 0 n first (omega arith) (omega arith)
    (λ k b c ne. piece k ∙ tally-range_none (q k) 2 m
    (λ l x y. and_right (is_formed occupied fresh k l) (p (k, l)) (false_from_ne_true (p (k, l)) (λ t. ne ((only k l (omega arith) t).0)))))
    ∙ piece first
    ∙ tally-range_only (q first) 2 m len low high
    (λ l x y ne. and_right (is_formed occupied fresh first l) (p (first, l)) (false_from_ne_true (p (first, l)) (λ t. ne ((only first l below t).1))))
    ∙ ap once (and_from (is_formed occupied fresh first len) (p (first, len)) e here)

-- whether a run holds a square
pub is_on-parts : (run : Run) (square : ℕ) → is_on run square ≡ true
    → (line_of run.dir square ≡ line_of run.dir run.start) × (place_of run.dir run.start ≤ place_of run.dir square)
    × (place_of run.dir square < place_of run.dir run.start + run.len)
is_on-parts run square e =
    let p = and_parts (line_of run.dir square == line_of run.dir run.start && nat_le (place_of run.dir run.start) (place_of run.dir square)) (nat_lt (place_of run.dir square) (place_of run.dir run.start + run.len)) e in
    let q = and_parts (line_of run.dir square == line_of run.dir run.start) (nat_le (place_of run.dir run.start) (place_of run.dir square)) p.0 in (
      eqb-true (line_of run.dir square) (line_of run.dir run.start) q.0,
      leb-true (place_of run.dir run.start) (place_of run.dir square) q.1,
      ltb-true (place_of run.dir square) (place_of run.dir run.start + run.len) p.1,
    )

pub is_on-from : (run : Run) (square : ℕ) → line_of run.dir square ≡ line_of run.dir run.start → place_of run.dir run.start ≤ place_of run.dir square
    → place_of run.dir square < place_of run.dir run.start + run.len → is_on run square ≡ true
is_on-from run square l a b =
    and_from _ _ (and_from _ _ (eq-eqb (line_of run.dir square) (line_of run.dir run.start) l) (le-leb (place_of run.dir run.start) (place_of run.dir square) a))
    (lt-ltb (place_of run.dir square) (place_of run.dir run.start + run.len) b)

-- a stretch that a placement forms is a run that meets it
pub stretch_meets : (d : Dir) (after : List (Option Tile)) (ps : List Placed) (line first len : ℕ) → line < 15 → 2 ≤ len
    → is_formed (occupied_on d after line) (fresh_on d ps line) first len ≡ true → MeetsRun after ps (run_of d line (first, len))
stretch_meets d after ps line first len below long e =
    let parts = is_formed-parts (occupied_on d after line) (fresh_on d ps line) first len e in
    let inside = parts.0.inside in
    let start = square_at d line first in
    let same_line : line_of d start ≡ line = line_of-square_at d line first below (omega arith) in
    let same_place : place_of d start ≡ first = place_of-square_at d line first below (omega arith) in
    let k = parts.1.0 in
    let low = parts.1.1 in
    let high = parts.1.2 in
    let found = list_any-found (λ (p : Placed). p.square == square_at d line k) ps parts.1.3 in
    let tile = found.0 in
    let at : tile.square ≡ square_at d line k = eqb-true tile.square (square_at d line k) found.2 in
    let tile_line : line_of d tile.square ≡ line = ap (line_of d) at ∙ line_of-square_at d line k below (omega arith) in
    let tile_place : place_of d tile.square ≡ k = ap (place_of d) at ∙ place_of-square_at d line k below (omega arith) in
    let run : Run = run_of d line (first, len) in
    record {
      is_run = record {
        on_board = square_at_below d line first below (omega arith);
        long = long;
        whole =
            subst (λ (l : ℕ). IsWhole (occupied_on d after l) (place_of d start) len) (sym same_line)
            (subst (λ (p : ℕ). IsWhole (occupied_on d after line) p len) (sym same_place) parts.0);
      };
      meets =
          list_any-in (λ (p : Placed). is_on run p.square) ps tile found.1
          (is_on-from run tile.square (tile_line ∙ sym same_line) (omega arith) (omega arith));
    }

-- a run that meets a placement is a stretch of its line that the placement forms
run_is_formed : (after : List (Option Tile)) (ps : List Placed) (run : Run) → MeetsRun after ps run
    → is_formed (occupied_on run.dir after (line_of run.dir run.start)) (fresh_on run.dir ps (line_of run.dir run.start)) (place_of run.dir run.start) run.len ≡ true
run_is_formed after ps run m =
    let d = run.dir in
    let line = line_of d run.start in
    let found = list_any-found (λ (p : Placed). is_on run p.square) ps m.meets in
    let tile = found.0 in
    let on = is_on-parts run tile.square found.2 in
    let place = place_of d tile.square in
    let at : tile.square ≡ square_at d line place = sym (ap (λ (l : ℕ). square_at d l place) (sym on.0) ∙ square_at-of d tile.square) in
    is_formed-from (occupied_on d after line) (fresh_on d ps line) (place_of d run.start) run.len place m.is_run.whole on.1 on.2
    (list_any-in (λ (p : Placed). p.square == square_at d line place) ps tile found.1 (eq-eqb tile.square (square_at d line place) at))

-- each run of the list meets the placement
runs_of_line-meet : (d : Dir) (after : List (Option Tile)) (ps : List Placed) (line n m : ℕ) → line < 15
    → All (MeetsRun after ps) (map (run_of d line) (stretches_within (occupied_on d after line) (fresh_on d ps line) n m))
unfolding stretches_within
runs_of_line-meet d after ps line n m below =
    let formed = is_formed (occupied_on d after line) (fresh_on d ps line) in
    let P : ℕ × ℕ → Type 0 = λ s. MeetsRun after ps (run_of d line s) in
    All-map (MeetsRun after ps) (run_of d line) (stretches_within (occupied_on d after line) (fresh_on d ps line) n m)
    (All-flat_map_range P (λ k. map (λ l. (k, l)) (filter (formed k) (range_with_len 2 m))) 0 n
    (λ k b c. All-map P (λ l. (k, l)) (filter (formed k) (range_with_len 2 m))
    (All-filter_range (λ l. P (k, l)) (formed k) 2 m (λ l low high e. stretch_meets d after ps line k l below low e))))

runs_along-meet : (d : Dir) (after : List (Option Tile)) (ps : List Placed) → All (MeetsRun after ps) (runs_along d after ps)
unfolding runs_along
runs_along-meet d after ps =
    All-flat_map_range (MeetsRun after ps) (λ line. runs_of_line d after (fresh_on d ps line) line) 0 15
    (λ k b c. rw (stretches_on-is (occupied_on d after k) (fresh_on d ps k)) (runs_of_line-meet d after ps k 15 14 (omega arith)))

-- a run of the other direction is not in the list of this one
runs_along-other : (d : Dir) (after : List (Option Tile)) (ps : List Placed) (run : Run) → same_dir run.dir d ≡ false
    → tally (same_run run) (runs_along d after ps) ≡ 0
unfolding runs_along
runs_along-other d after ps run ne =
    tally-flat_map_none (same_run run) (λ line. runs_of_line d after (fresh_on d ps line) line) 0 15
    (λ k b c. tally-map (same_run run) (run_of d k) (stretches_on (occupied_on d after k) (fresh_on d ps k))
    ∙ tally-never (λ (s : ℕ × ℕ). same_run run (run_of d k s))
    (λ s. and_left (run.start == square_at d k s.0 && same_dir run.dir d) (run.len == s.1) (and_right (run.start == square_at d k s.0) (same_dir run.dir d) ne))
    (stretches_on (occupied_on d after k) (fresh_on d ps k)))

-- a run that meets the placement is in the list of its direction once
runs_along-once : (after : List (Option Tile)) (ps : List Placed) (run : Run) → MeetsRun after ps run
    → tally (same_run run) (runs_along run.dir after ps) ≡ 1
unfolding runs_along
runs_along-once after ps run m =
    let d = run.dir in
    let line = line_of d run.start in
    let first = place_of d run.start in
    let on_board = m.is_run.on_board in
    let inside = m.is_run.whole.inside in
    let long = m.is_run.long in
    let line_on : line < 15 = line_below d run.start on_board in
    let first_on : first < 15 = omega arith in
    let f : ℕ → List Run = λ k. runs_of_line d after (fresh_on d ps k) k in
    let p : ℕ → ℕ × ℕ → Bool = λ k s. same_run run (run_of d k s) in
    let piece : (k : ℕ) → tally (same_run run) (f k) ≡ tally (p k) (stretches_within (occupied_on d after k) (fresh_on d ps k) 15 14) =
    λ k. tally-map (same_run run) (run_of d k) (stretches_on (occupied_on d after k) (fresh_on d ps k))
    ∙ ap (tally (p k)) (stretches_on-is (occupied_on d after k) (fresh_on d ps k)) in
    tally-flat_map_only (same_run run) f 0 15 line (omega arith) (omega arith)
    (λ k b c ne. piece k ∙ stretches_within-tally_none (occupied_on d after k) (fresh_on d ps k) 15 14 (p k)
    (λ k0 l below long' formed t.
    let same = same_run-parts run (run_of d k (k0, l)) t in
    ne (sym (ap (line_of d) same.0 ∙ line_of-square_at d k k0 (omega arith) below))))
    ∙ piece line
    ∙ stretches_within-tally_only (occupied_on d after line) (fresh_on d ps line) 15 14 (p line) first run.len first_on long (omega arith)
    (run_is_formed after ps run m)
    (same_run-from run (run_of d line (first, run.len))
    (run_from_parts run (run_of d line (first, run.len)) (sym (square_at-of d run.start)) refl refl))
    (λ k l below t.
    let same = same_run-parts run (run_of d line (k, l)) t in
    (sym (ap (place_of d) same.0 ∙ place_of-square_at d line k line_on below), sym same.2))

-- and once in the list of both
other_dir-cases : (d e : Dir) → ((e ≡ d) × (same_dir e (other_dir d) ≡ false)) ⊎ ((e ≡ other_dir d) × (same_dir e d ≡ false))
other_dir-cases Across Across = inl (refl, refl)
other_dir-cases Across Down = inr (refl, refl)
other_dir-cases Down Across = inr (refl, refl)
other_dir-cases Down Down = inl (refl, refl)

runs_formed-once : (d : Dir) (after : List (Option Tile)) (ps : List Placed) (run : Run) → MeetsRun after ps run
    → tally (same_run run) (runs_formed d after ps) ≡ 1
runs_formed-once d after ps run m =
    let here : tally (same_run run) (runs_along run.dir after ps) ≡ 1 = runs_along-once after ps run m in
    tally-append (same_run run) (runs_along d after ps) (runs_along (other_dir d) after ps)
    ∙ ⊎_elim
    (λ (c : (run.dir ≡ d) × (same_dir run.dir (other_dir d) ≡ false)).
    let along = ap (λ (x : Dir). tally (same_run run) (runs_along x after ps)) (sym c.0) ∙ here in
    let across = runs_along-other (other_dir d) after ps run c.1 in omega arith)
    (λ (c : (run.dir ≡ other_dir d) × (same_dir run.dir d ≡ false)).
    let along = ap (λ (x : Dir). tally (same_run run) (runs_along x after ps)) (sym c.0) ∙ here in
    let across = runs_along-other d after ps run c.1 in omega arith)
    (other_dir-cases d run.dir)

-- the runs that a placement forms are those that meet it
pub runs_formed-meet : (d : Dir) (after : List (Option Tile)) (ps : List Placed) (run : Run) → Contains (runs_formed d after ps) run ↔ MeetsRun after ps run
runs_formed-meet d after ps run = (
  λ c. All-contains (MeetsRun after ps) (runs_formed d after ps) run
      (All-append (MeetsRun after ps) (runs_along d after ps) (runs_along (other_dir d) after ps) (runs_along-meet d after ps) (runs_along-meet (other_dir d) after ps)) c,
  λ m. Contains-from_tally (same_run run) run (same_run-true run) (runs_formed d after ps)
      (let one = runs_formed-once d after ps run m in omega arith),
)

-- and no two of them are the same
pub runs_formed-distinct : (d : Dir) (after : List (Option Tile)) (ps : List Placed) → AllPairs (λ a b. a ≡ b → ⊥) (runs_formed d after ps)
runs_formed-distinct d after ps =
    AllPairs-from_tally same_run same_run-from (runs_formed d after ps)
    (λ run c. runs_formed-once d after ps run ((runs_formed-meet d after ps run).0 c))
