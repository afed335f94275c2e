-- What the moves of the lines of a board put down, and what they give, in one list.
use Rattle.std.proofs.Common.{◌≡◌, ℕ, zero, suc, ◌+◌, ◌<◌, ◌≤◌, Bool, true, List, [], ◌∷◌, ◌++◌, length, refl, sym, ap, ◌∙◌, subst, arith, Option, Result, Ok, Err, ◌⊎◌, ⊎_elim}
use Rattle.std.specs.Prelude.{Contains, slice_index_or}
use Rattle.std.specs.List.{flat_map, range_with_len}
use Rattle.std.proofs.lemmas.List.{append-nil}
use Rattle.std.proofs.lemmas.List.Concat.{flat_map-append}
use Rattle.ref_tiles.specs.declared.tiles.Tile.{Tile}
use Rattle.ref_tiles.specs.declared.rulebook.Rules.{Rules}
use Rattle.ref_board.specs.declared.directions.Dir.{Dir}
use Rattle.ref_board.specs.declared.directions.Dir.TheVariants.{Across, Down}
use Rattle.ref_play.specs.declared.placed.Placed.{Placed}
use Rattle.ref_play.specs.Placements.{is_play, with_tiles}
use Rattle.ref_play.specs.Legality.{HasNoGap, IsLegal}
use Rattle.ref_play.specs.Directions.{LiesIn, RunsAlong}
use Rattle.ref_play.specs.Formed.{runs_along}
use Rattle.ref_play.specs.Best.{Given}
use Rattle.ref_play.proofs.RangeLaws.{Contains-here, Contains-there}
use Rattle.ref_play.proofs.Ranges.{range_push}
use Rattle.ref_play.proofs.PlaceLaws.{is_play-parts, on_board}
use Rattle.ref_play.proofs.FormedRuns.{along_runs, laid_from}
use Rattle.ref_play.proofs.Directing.{runs_or_one}
use Rattle.gen_line.specs.declared.cells.Cell.{Cell}
use Rattle.gen_line.specs.Model.{join_range, line_moves}
use Rattle.gen_line.specs.Walk.{Every, Took, Front, add_all}
use Rattle.gen_line.proofs.Sinks.{add_all-append, front-less, took-more, range-more}
use Rattle.gen_moves.specs.Findings.{reported, given_along, given_by}
use Rattle.gen_moves.specs.Laws.{Setting}
use Rattle.gen_moves.specs.Reporting.{IsFitMove, report, both_cells}
use Rattle.gen_moves.proofs.MovePlaces.{put_by, covers_anchor, main_run}
use Rattle.gen_moves.proofs.Moving.{move_candidate}
use Rattle.gen_moves.proofs.Gathering.{tiles_is, line_move}

-- the same lines for both directions
abbrev pub same_cells : List (List Cell) → Dir → ℕ → List Cell
same_cells lines d line = slice_index_or lines line []

-- ---- what a line's move puts down
-- a play in one stretch of a line runs along it
pub runs_along_line : (d : Dir) (board : List (Option Tile)) (ps : List Placed) (line first len : ℕ) → length board ≡ 225 → is_play d ps ≡ true → HasNoGap (with_tiles board ps) ps
    → LiesIn d (with_tiles board ps) ps line first len → 2 ≤ len → RunsAlong d board ps
runs_along_line d board [] line first len size play no_gap lies long = let parts = is_play-parts d [] play in absurd (omega (arith, parts.0))
runs_along_line d board (p ∷ rest) line first len size play no_gap lies long =
    let after = with_tiles board (p ∷ rest) in
    let parts = is_play-parts d (p ∷ rest) play in
    let here = Contains-here p rest in
    let runs = along_runs d after p rest (laid_from d board (p ∷ rest) size play no_gap) ∙ main_run d after (p ∷ rest) line first len lies p here (on_board (p ∷ rest) p parts.1 here) long in
    ⊎_elim
    (λ (along : RunsAlong d board (p ∷ rest)). along)
    (λ (one : (runs_along d after (p ∷ rest) ≡ []) × (rest ≡ [])). absurd (let some = ap length (sym one.0 ∙ runs) in omega (arith, some)))
    (runs_or_one d board p rest size play no_gap)

abbrev IsFitOn : List (Option Tile) → Dir → List Placed → Type 0
IsFitOn board d ps = (1 ≤ length ps) × (length ps ≤ 7 → IsLegal board ps × RunsAlong d board ps)

pub move_fit : (words : List (List ℕ)) (board : List (Option Tile)) (g listed : List ℕ → Bool) (cells : Dir → ℕ → List Cell) → Setting words board g listed cells
    → (rack : List ℕ) (d : Dir) (line : ℕ) → line < 15 → (y : List ℕ) → Contains (line_moves g (cells d line) rack) y → IsFitMove board d line y
move_fit words board g listed cells s rack d line low y c =
    let move = (line_move words board g listed cells s rack d line low y).0 c in
    let is = s.lines d line low in
    let there = (covers_anchor words d board line (cells d line) is listed rack y move.0 move.1 low move.2).there.1 in
    let some : 1 ≤ length (put_by d line y) = omega arith in (
      low,
      subst (IsFitOn board d) (sym (tiles_is d line y)) (
        some,
        λ few.
            let on = move_candidate words d board line (cells d line) is listed rack y move.0 move.1 s.reported s.long s.size low move.2 few in
            let legal = on.0.candidate.legal in
            (legal, runs_along_line d board (put_by d line y) line move.0 move.1 s.size on.1 legal.no_gap on.0.lies on.0.long),
      ),
    )

every_from : {X : Type 0} (P : X → Type 0) (xs : List X) → ((x : X) → Contains xs x → P x) → Every P xs
every_from P [] h = tt
every_from P (x ∷ xs) h = (h x (Contains-here x xs), every_from P xs (λ y c. h y (Contains-there x xs y c)))

pub moves_fit : (words : List (List ℕ)) (board : List (Option Tile)) (g listed : List ℕ → Bool) (cells : Dir → ℕ → List Cell) → Setting words board g listed cells
    → (rack : List ℕ) (d : Dir) (line : ℕ) → line < 15 → Every (IsFitMove board d line) (line_moves g (cells d line) rack)
moves_fit words board g listed cells s rack d line low =
    every_from (IsFitMove board d line) (line_moves g (cells d line) rack) (λ y c. move_fit words board g listed cells s rack d line low y c)

-- what a taker requires for each move, if it requires the same of the sink for all
pub every_with : {X : Type 0} (A : Type 0) (P : X → Type 0) (xs : List X) → A → Every P xs → Every (λ x. A × P x) xs
every_with A P [] a h = tt
every_with A P (x ∷ xs) a h = ((a, h.0), every_with A P xs a h.1)

-- ---- what was taken for the entries is taken for the plays
pub add_all-flat_map : {I X Y : Type 0} (add : I → X → I) (f : Y → List X) (old : I) (ys : List Y) → add_all (λ items y. add_all add items (f y)) old ys ≡ add_all add old (flat_map f ys)
add_all-flat_map add f old [] = refl
add_all-flat_map add f old (y ∷ ys) =
    add_all-flat_map add f (add_all add old (f y)) ys ∙ sym (add_all-append add old (f y) (flat_map f ys))

pub took_reported : {U E : Type 0} (rules : Rules) (board : List (Option Tile)) (d : Dir) (line : ℕ) (add : List Given → Given → List Given) (old : List Given) (ys : List (List ℕ)) (new : List Given) (r : Result U E)
    → Took (report rules board d line add) old ys new r → Took add old (flat_map (reported rules board d line) ys) new r
took_reported rules board d line add old ys new (Ok u) h = h ∙ add_all-flat_map add (reported rules board d line) old ys
took_reported rules board d line add old ys new (Err why) h =
    let f = reported rules board d line in
    record {
      front = flat_map f h.front;
      rest = flat_map f h.rest;
      parts = ap (flat_map f) h.parts ∙ flat_map-append f h.front h.rest;
      items = h.items ∙ add_all-flat_map add f old h.front;
    }

pub join_flat : {A : Type 0} (f : ℕ → List A) (a n : ℕ) → join_range f a n ≡ flat_map f (range_with_len a n)
join_flat f a zero = refl
join_flat f a (suc n) =
    ap (λ xs. xs ++ f (a + n)) (join_flat f a n)
    ∙ sym (ap (flat_map f) (range_push a n) ∙ flat_map-append f (range_with_len a n) ((a + n) ∷ []) ∙ ap (λ xs. flat_map f (range_with_len a n) ++ xs) (append-nil (f (a + n))))

-- one more line
pub given_more : (add : List Given → Given → List Given) (f : ℕ → List Given) (n : ℕ) (old mid new : List Given) → mid ≡ add_all add old (join_range f 0 n) → new ≡ add_all add mid (f n) → new ≡ add_all add old (join_range f 0 (n + 1))
given_more add f n old mid new e h =
    let at : 0 + n ≡ n = omega arith in
    let next : n + 1 ≡ suc n = omega arith in
    let more : new ≡ add_all add old (join_range f 0 (suc n)) = range-more add f 0 n old mid new e (subst (λ (j : ℕ). new ≡ add_all add mid (f j)) (sym at) h) in
    subst (λ (j : ℕ). new ≡ add_all add old (join_range f 0 j)) (sym next) more

-- ---- both directions
pub took_both : {U E : Type 0} (rules : Rules) (board : List (Option Tile)) (g : List ℕ → Bool) (a b : List (List Cell)) (rack : List ℕ) (add : List Given → Given → List Given) (old mid new : List Given) (r : Result U E)
    → mid ≡ add_all add old (given_along rules board g (same_cells a) rack Across) → Took add mid (given_along rules board g (same_cells b) rack Down) new r
    → Took add old (given_by rules board g (both_cells a b) rack) new r
unfolding given_by
took_both rules board g a b rack add old mid new r e h =
    took-more add old (given_along rules board g (same_cells a) rack Across) (given_along rules board g (same_cells b) rack Down) mid new r e h

pub front_first : (rules : Rules) (board : List (Option Tile)) (g : List ℕ → Bool) (a b : List (List Cell)) (rack : List ℕ) (add : List Given → Given → List Given) (old new : List Given)
    → Front add old (given_along rules board g (same_cells a) rack Across) new → Front add old (given_by rules board g (both_cells a b) rack) new
unfolding given_by
front_first rules board g a b rack add old new h =
    front-less add old (given_along rules board g (same_cells a) rack Across) (given_along rules board g (same_cells b) rack Down) new h
