-- The moves of the lines are the candidates, and what a whole board gives is all candidates, each once.
use Rattle.std.proofs.Common.{◌≡◌, ◌≢◌, ℕ, ◌+◌, ◌-◌, ◌%◌, ◌<◌, ◌≤◌, Bool, true, false, nat_le, List, [], ◌∷◌, length, get_or, refl, sym, ap, ◌∙◌, subst, arith, ⊎_elim, Option, Some, None}
use Rattle.std.specs.Prelude.{◌↔◌, pos, Contains, if◌then◌else◌}
use Rattle.std.specs.List.{AllPairs, range_with_len}
use Rattle.std.proofs.lemmas.List.Elements.{All-from_get_or, Contains-append_cases, Contains-append_left, Contains-append_right}
use Rattle.std.proofs.lemmas.List.FromFn.{fill_by_all}
use Rattle.std.proofs.lemmas.Bool.{cases_eq, and_parts, and_from, leb-true, le-leb, eqb-true, eqb-false}
use Rattle.ref_tiles.specs.declared.tiles.Tile.{Tile}
use Rattle.ref_tiles.specs.declared.letters.Letter.{Letter}
use Rattle.ref_tiles.specs.declared.rulebook.Rules.{Rules}
use Rattle.ref_board.specs.declared.directions.Dir.{Dir}
use Rattle.ref_board.specs.declared.directions.Dir.TheVariants.{Across, Down}
use Rattle.ref_board.specs.Lines.{line_of, square_at}
use Rattle.ref_board.specs.Cells.{tile_at}
use Rattle.ref_play.specs.declared.placed.Placed.{Placed}
use Rattle.ref_play.specs.Scores.{score_of}
use Rattle.ref_play.specs.Directions.{direction_of, same_dir, is_wanted}
use Rattle.ref_play.specs.Candidates.{IsCandidate}
use Rattle.ref_play.specs.Best.{Given, given_of, AreAll}
use Rattle.ref_play.proofs.RangeLaws.{Contains-here, Contains-cases}
use Rattle.ref_play.proofs.RunLaws.{same_dir-true}
use Rattle.ref_play.proofs.PlaceLaws.{is_play-few}
use Rattle.ref_play.proofs.Directing.{is_play-turned, written_along}
use Rattle.gen_line.specs.declared.cells.Cell.{Cell}
use Rattle.gen_line.specs.declared.cells.Cell.TheVariants.{Old}
use Rattle.gen_line.specs.Entries.{letter_of_entry, is_blank_entry}
use Rattle.gen_line.specs.Cells.{cell_at}
use Rattle.gen_line.specs.Moves.{IsMove, Labelled}
use Rattle.gen_line.specs.Model.{line_moves}
use Rattle.gen_line.proofs.GivenMoves.{gives_the_moves, gives_none_twice}
use Rattle.gen_moves.specs.BoardLines.{IsLineOf}
use Rattle.gen_moves.specs.LineTiles.{faced, tile_of_entry, entry_of, placement_of, tiles_of, entries_of}
use Rattle.gen_moves.specs.Findings.{reported, given_on, given_along, given_by}
use Rattle.gen_moves.specs.Laws.{ReportsWords, AreLong, AreEntries, IsCandidateOn, Setting}
use Rattle.gen_moves.proofs.Lists.{All-each, in_join, from_join, in_range, from_range, range_differs, AllPairs-append, AllPairs-flat_map}
use Rattle.gen_moves.proofs.Entering.{tiles_there, put_from, tile_in-put, in_line_from}
use Rattle.gen_moves.proofs.MovePlaces.{tiled, cell_entry, put_by, put_at, covers_anchor}
use Rattle.gen_moves.proofs.Moving.{move_candidate}
use Rattle.gen_moves.proofs.Finding.{entry_on, candidate_move}

-- ---- the entries of the tiles of entries
blank_entry : (b : Bool) (e : ℕ) (l : Letter) → e ≢ 0 → is_blank_entry e ≡ b → l.index ≡ letter_of_entry e → entry_of (Some (faced b l)) ≡ e
blank_entry true e l some is index = let odd = eqb-true ((e - 1) % 2) 1 is in omega arith
blank_entry false e l some is index = let even = eqb-false ((e - 1) % 2) 1 is in omega arith

pub entry_again : (e : ℕ) → e < 53 → entry_of (tile_of_entry e) ≡ e
entry_again e low =
    ⊎_elim
    (λ (z : e ≡ 0). ap (λ (n : ℕ). entry_of (tile_of_entry n)) z ∙ sym z)
    (λ (some : e ≡ 0 → ⊥). let t = tiled e some low in ap entry_of t.is ∙ blank_entry (is_blank_entry e) e t.letter some refl t.index)
    (cases_eq e 0)

pub entries_of_tiles : (d : Dir) (line : ℕ) (y : List ℕ) → length y ≡ 15 → ((i : ℕ) → i < 15 → get_or y i 0 < 53) → entries_of d line (put_by d line y) ≡ y
unfolding entries_of
entries_of_tiles d line y size low =
    sym
    (fill_by_all (entry_on d line (put_by d line y)) y 15 0 size
    (λ k below. sym
    (ap entry_of (tile_in-put d line (λ i. tile_of_entry (get_or y i 0)) 0 15 k (omega arith) (omega arith)) ∙ entry_again (get_or y k 0) (low k below))))

pub tiles_is : (d : Dir) (line : ℕ) (y : List ℕ) → tiles_of d line y ≡ put_by d line y
unfolding placement_of
tiles_is d line y = ap (λ (f : ℕ → Option Tile). put_from d line f 0 15) (tiles_there y)

move_low : (listed : List ℕ → Bool) (cells : List Cell) (rack y : List ℕ) (first len : ℕ) → IsMove listed cells rack y first len → (i : ℕ) → i < 15 → get_or y i 0 < 53
move_low listed cells rack y first len move i below =
    ⊎_elim
    (λ (z : get_or y i 0 ≡ 0). omega arith)
    (λ (some : get_or y i 0 ≡ 0 → ⊥). cell_entry (cell_at cells i) (get_or y i 0) some (move.allowed i below))
    (cases_eq (get_or y i 0) 0)

-- ---- the moves of a line are the candidates on it
pub move_is_candidate : (words : List (List ℕ)) (d : Dir) (board : List (Option Tile)) (line : ℕ) (cells : List Cell) (listed : List ℕ → Bool) (rack y : List ℕ) (first len : ℕ)
    → length board ≡ 225 → line < 15 → IsLineOf words d board line cells → ReportsWords listed words → AreLong words → length (tiles_of d line y) ≤ 7
    → IsMove listed cells rack y first len → AreEntries y × IsCandidateOn words d board rack (tiles_of d line y) line first len
move_is_candidate words d board line cells listed rack y first len size low is reports long few move =
    let few_put : length (put_by d line y) ≤ 7 = subst (λ (ps : List Placed). length ps ≤ 7) (tiles_is d line y) few in
    let on = move_candidate words d board line cells is listed rack y first len reports long size low move few_put in
    let y_size = move.size in (
      (move.size, All-from_get_or (λ (e : ℕ). e < 53) y 0 (λ i below. move_low listed cells rack y first len move i (omega arith))),
      subst (λ (ps : List Placed). IsCandidateOn words d board rack ps line first len) (sym (tiles_is d line y)) on.0,
    )

pub candidate_on : (words : List (List ℕ)) (d : Dir) (board : List (Option Tile)) (line : ℕ) (cells : List Cell) (listed : List ℕ → Bool) (rack : List ℕ) (ps : List Placed) (first len : ℕ)
    → length board ≡ 225 → line < 15 → IsLineOf words d board line cells → ReportsWords listed words → IsCandidateOn words d board rack ps line first len
    → IsMove listed cells rack (entries_of d line ps) first len × (tiles_of d line (entries_of d line ps) ≡ ps)
candidate_on words d board line cells listed rack ps first len size low is reports on =
    let play = is_play-turned on.candidate.play.0 d ps on.candidate.play.1 (in_line_from d line ps on.lies.lines) in
    let move = candidate_move words d board rack ps line first len size low play on.candidate on.lies on.long cells is listed reports in
    (move.0, tiles_is d line (entries_of d line ps) ∙ move.1)

pub candidate_is_move : (words : List (List ℕ)) (d : Dir) (board : List (Option Tile)) (line : ℕ) (cells : List Cell) (listed : List ℕ → Bool) (rack y : List ℕ) (first len : ℕ)
    → length board ≡ 225 → line < 15 → IsLineOf words d board line cells → ReportsWords listed words
    → AreEntries y → IsCandidateOn words d board rack (tiles_of d line y) line first len → IsMove listed cells rack y first len
candidate_is_move words d board line cells listed rack y first len size low is reports entries on =
    let again : entries_of d line (tiles_of d line y) ≡ y =
    ap (entries_of d line) (tiles_is d line y)
    ∙ entries_of_tiles d line y entries.0 (λ i below. let size' = entries.0 in entries.1 i 0 (omega arith)) in
    subst (λ (z : List ℕ). IsMove listed cells rack z first len) again
    (candidate_on words d board line cells listed rack (tiles_of d line y) first len size low is reports on).0

pub moves_are_candidates : (words : List (List ℕ)) (d : Dir) (board : List (Option Tile)) (line : ℕ) (cells : List Cell) (listed : List ℕ → Bool) (rack y : List ℕ) (first len : ℕ)
    → length board ≡ 225 → line < 15 → IsLineOf words d board line cells → ReportsWords listed words → AreLong words → length (tiles_of d line y) ≤ 7
    → IsMove listed cells rack y first len ↔ (AreEntries y × IsCandidateOn words d board rack (tiles_of d line y) line first len)
moves_are_candidates words d board line cells listed rack y first len size low is reports long few = (
  λ move. move_is_candidate words d board line cells listed rack y first len size low is reports long few move,
  λ h. candidate_is_move words d board line cells listed rack y first len size low is reports h.0 h.1,
)

-- ---- the moves of the lines of a board
labelled_by : (o : Option Tile) (words : List (List ℕ)) (d : Dir) (board : List (Option Tile)) (line : ℕ) (cells : List Cell) → IsLineOf words d board line cells
    → (i a : ℕ) → i < 15 → tile_at board (square_at d line i) ≡ o → cell_at cells i ≡ Old a → 0 < a
labelled_by None words d board line cells is i a below there e = let free = is.free i below there in let both = sym free.1 ∙ e in cc
labelled_by (Some t) words d board line cells is i a below there e =
    let both : Old (t.shown.index + 1) ≡ Old a = sym (is.old i t below there) ∙ e in
    let same : t.shown.index + 1 ≡ a = cc in omega arith

pub line_labelled : (words : List (List ℕ)) (d : Dir) (board : List (Option Tile)) (line : ℕ) (cells : List Cell) → IsLineOf words d board line cells → Labelled cells
line_labelled words d board line cells is =
    record { size = is.size; old = λ i a below e. labelled_by (tile_at board (square_at d line i)) words d board line cells is i a below refl e }

-- a line gives its moves
pub line_move : (words : List (List ℕ)) (board : List (Option Tile)) (g listed : List ℕ → Bool) (cells : Dir → ℕ → List Cell) → Setting words board g listed cells
    → (rack : List ℕ) (d : Dir) (line : ℕ) → line < 15 → (y : List ℕ)
    → Contains (line_moves g (cells d line) rack) y ↔ ((first : ℕ) × (len : ℕ) × IsMove listed (cells d line) rack y first len)
line_move words board g listed cells s rack d line low y =
    gives_the_moves g listed s.splits (cells d line) rack y (line_labelled words d board line (cells d line) (s.lines d line low))

-- ---- what a move gives
abbrev reported_as : Rules → List (Option Tile) → Dir → List Placed → Given
reported_as rules board d ps = record { dir = d; tiles = ps; score = pos (score_of rules board ps) }

one_if : {X : Type 0} (b : Bool) (x a : X) → Contains (if b then x ∷ [] else []) a → (b ≡ true) × (x ≡ a)
one_if true x a c = (refl, ⊎_elim (λ (s : x ≡ a). s) (λ (s : Contains [] a). absurd (omega (arith, s.1))) (Contains-cases x [] a c))
one_if false x a c = absurd (omega (arith, c.1))

if_one : {X : Type 0} (b : Bool) (x : X) → b ≡ true → Contains (if b then x ∷ [] else []) x
if_one true x e = Contains-here x []
if_one false x e = cc

one_alone : {X : Type 0} (R : X → X → Type 0) (b : Bool) (x : X) → AllPairs R (if b then x ∷ [] else [])
one_alone R true x = λ i j d less below. absurd (omega arith)
one_alone R false x = λ i j d less below. absurd (omega arith)

reported_is : (rules : Rules) (board : List (Option Tile)) (d : Dir) (line : ℕ) (y : List ℕ) (a : Given) → Contains (reported rules board d line y) a
    → (is_wanted board d (tiles_of d line y) ≡ true) × (reported_as rules board d (tiles_of d line y) ≡ a)
unfolding reported
reported_is rules board d line y a c = one_if (is_wanted board d (tiles_of d line y)) (reported_as rules board d (tiles_of d line y)) a c

reported_there : (rules : Rules) (board : List (Option Tile)) (d : Dir) (line : ℕ) (y : List ℕ) → is_wanted board d (tiles_of d line y) ≡ true → Contains (reported rules board d line y) (reported_as rules board d (tiles_of d line y))
unfolding reported
reported_there rules board d line y e = if_one (is_wanted board d (tiles_of d line y)) (reported_as rules board d (tiles_of d line y)) e

reported_alone : (rules : Rules) (board : List (Option Tile)) (d : Dir) (line : ℕ) (y : List ℕ) → AllPairs (λ a b. a ≢ b) (reported rules board d line y)
unfolding reported
reported_alone rules board d line y = one_alone (λ (a b : Given). a ≢ b) (is_wanted board d (tiles_of d line y)) (reported_as rules board d (tiles_of d line y))

-- ---- where what a board gives comes from
record ReportedBy (rules : Rules) (board : List (Option Tile)) (d : Dir) (line : ℕ) (moves : List (List ℕ)) (a : Given) : Type 0 where
  y : List ℕ
  there : Contains moves y
  wanted : is_wanted board d (tiles_of d line y) ≡ true
  is : reported_as rules board d (tiles_of d line y) ≡ a

from_line : (rules : Rules) (board : List (Option Tile)) (g : List ℕ → Bool) (cells : Dir → ℕ → List Cell) (rack : List ℕ) (d : Dir) (line : ℕ) (a : Given)
    → Contains (given_on rules board g cells rack d line) a → ReportedBy rules board d line (line_moves g (cells d line) rack) a
from_line rules board g cells rack d line a c =
    let from = from_join (reported rules board d line) (line_moves g (cells d line) rack) a c in
    let is = reported_is rules board d line from.0 a from.2 in
    record { y = from.0; there = from.1; wanted = is.0; is = is.1 }

record GivenAlong (rules : Rules) (board : List (Option Tile)) (g : List ℕ → Bool) (cells : Dir → ℕ → List Cell) (rack : List ℕ) (d : Dir) (a : Given) : Type 0 where
  line : ℕ
  low : line < 15
  reported_by : ReportedBy rules board d line (line_moves g (cells d line) rack) a

from_along : (rules : Rules) (board : List (Option Tile)) (g : List ℕ → Bool) (cells : Dir → ℕ → List Cell) (rack : List ℕ) (d : Dir) (a : Given)
    → Contains (given_along rules board g cells rack d) a → GivenAlong rules board g cells rack d a
from_along rules board g cells rack d a c =
    let from = from_join (given_on rules board g cells rack d) (range_with_len 0 15) a c in
    let range = from_range 0 15 from.0 from.1 in
    record { line = from.0; low = omega arith; reported_by = from_line rules board g cells rack d from.0 a from.2 }

-- ---- what is given is a candidate
pub wanted_few : (board : List (Option Tile)) (d : Dir) (ps : List Placed) → is_wanted board d ps ≡ true → (direction_of board ps ≡ d) × (length ps ≤ 7)
wanted_few board d ps e =
    let parts = and_parts (same_dir (direction_of board ps) d) (nat_le (length ps) 7) e in
    (same_dir-true (direction_of board ps) d parts.0, leb-true (length ps) 7 parts.1)

abbrev IsSoundGiven : Rules → List (List ℕ) → List (Option Tile) → List ℕ → Given → Type 0
IsSoundGiven rules words board rack a = IsCandidate words board rack a.tiles × (a ≡ given_of rules board a.tiles)

given_sound : (rules : Rules) (words : List (List ℕ)) (board : List (Option Tile)) (g listed : List ℕ → Bool) (cells : Dir → ℕ → List Cell) → Setting words board g listed cells
    → (rack : List ℕ) (d : Dir) (a : Given) → GivenAlong rules board g cells rack d a → IsSoundGiven rules words board rack a
given_sound rules words board g listed cells s rack d a from =
    let t = from.reported_by in
    let line = from.line in
    let ps = tiles_of d line t.y in
    let wanted = wanted_few board d ps t.wanted in
    let move = (line_move words board g listed cells s rack d line from.low t.y).0 t.there in
    let on = move_is_candidate words d board line (cells d line) listed rack t.y move.0 move.1 s.size from.low (s.lines d line from.low) s.reported s.long wanted.1 move.2 in
    subst (IsSoundGiven rules words board rack) t.is
    (on.1.candidate, ap (λ (e : Dir). let b : Given = record { dir = e; tiles = ps; score = pos (score_of rules board ps) } in b) (sym wanted.0))

-- ---- each candidate is given
in_board : (rules : Rules) (board : List (Option Tile)) (g : List ℕ → Bool) (cells : Dir → ℕ → List Cell) (rack : List ℕ) (d : Dir) (a : Given)
    → Contains (given_along rules board g cells rack d) a → Contains (given_by rules board g cells rack) a
unfolding given_by
in_board rules board g cells rack Across a c = Contains-append_left (given_along rules board g cells rack Across) (given_along rules board g cells rack Down) a c
in_board rules board g cells rack Down a c = Contains-append_right (given_along rules board g cells rack Across) (given_along rules board g cells rack Down) a c

same_dir-self : (d : Dir) → same_dir d d ≡ true
same_dir-self Across = refl
same_dir-self Down = refl

given_there : (rules : Rules) (words : List (List ℕ)) (board : List (Option Tile)) (g listed : List ℕ → Bool) (cells : Dir → ℕ → List Cell) → Setting words board g listed cells
    → (rack : List ℕ) (ps : List Placed) → IsCandidate words board rack ps → Contains (given_by rules board g cells rack) (given_of rules board ps)
given_there rules words board g listed cells s rack ps candidate =
    let d = direction_of board ps in
    let along = written_along candidate.play.0 board ps s.size candidate.play.1 candidate.legal in
    let line = along.line in
    let y = entries_of d line ps in
    let on : IsCandidateOn words d board rack ps line along.first along.len = record { candidate = candidate; lies = along.lies; long = along.long } in
    let found = candidate_on words d board line (cells d line) listed rack ps along.first along.len s.size along.below (s.lines d line along.below) s.reported on in
    let move_there = (line_move words board g listed cells s rack d line along.below y).1 (along.first, along.len, found.0) in
    let wanted : is_wanted board d (tiles_of d line y) ≡ true =
    subst (λ (qs : List Placed). is_wanted board d qs ≡ true) (sym found.1)
    (and_from (same_dir d d) (nat_le (length ps) 7) (same_dir-self d) (le-leb (length ps) 7 (is_play-few candidate.play.0 ps candidate.play.1))) in
    let here : Contains (reported rules board d line y) (given_of rules board ps) =
    subst (λ (qs : List Placed). Contains (reported rules board d line y) (reported_as rules board d qs)) found.1 (reported_there rules board d line y wanted) in
    let below = along.below in
    in_board rules board g cells rack d (given_of rules board ps)
    (in_join (given_on rules board g cells rack d) (range_with_len 0 15) line (given_of rules board ps) (in_range 0 15 line (omega arith) (omega arith))
    (in_join (reported rules board d line) (line_moves g (cells d line) rack) y (given_of rules board ps) move_there here))

-- ---- none is given twice
-- a move's entries are those of its tiles
entries_of_move : (words : List (List ℕ)) (board : List (Option Tile)) (g listed : List ℕ → Bool) (cells : Dir → ℕ → List Cell) → Setting words board g listed cells
    → (rack : List ℕ) (d : Dir) (line : ℕ) → line < 15 → (y : List ℕ) → Contains (line_moves g (cells d line) rack) y → entries_of d line (tiles_of d line y) ≡ y
entries_of_move words board g listed cells s rack d line low y c =
    let move = (line_move words board g listed cells s rack d line low y).0 c in
    ap (entries_of d line) (tiles_is d line y) ∙ entries_of_tiles d line y move.2.size (move_low listed (cells d line) rack y move.0 move.1 move.2)

-- it has a tile, and all its tiles lie on the line
tile_of_move : (words : List (List ℕ)) (board : List (Option Tile)) (g listed : List ℕ → Bool) (cells : Dir → ℕ → List Cell) → Setting words board g listed cells
    → (rack : List ℕ) (d : Dir) (line : ℕ) → line < 15 → (y : List ℕ) → Contains (line_moves g (cells d line) rack) y → (q : Placed) × Contains (tiles_of d line y) q
tile_of_move words board g listed cells s rack d line low y c =
    let move = (line_move words board g listed cells s rack d line low y).0 c in
    let covers = covers_anchor words d board line (cells d line) (s.lines d line low) listed rack y move.0 move.1 low move.2 in
    (covers.tile, subst (λ (ps : List Placed). Contains ps covers.tile) (sym (tiles_is d line y)) covers.there)

tile_on_line : (d : Dir) (line : ℕ) (y : List ℕ) → line < 15 → (q : Placed) → Contains (tiles_of d line y) q → line_of d q.square ≡ line
tile_on_line d line y low q c = (put_at d line y q low (subst (λ (ps : List Placed). Contains ps q) (tiles_is d line y) c)).on_line

same_tiles : (rules : Rules) (board : List (Option Tile)) (d e : Dir) (l m : ℕ) (xs ys : List (List ℕ)) (a b : Given) (t : ReportedBy rules board d l xs a) (u : ReportedBy rules board e m ys b)
    → a ≡ b → (d ≡ e) × (tiles_of d l t.y ≡ tiles_of e m u.y)
same_tiles rules board d e l m xs ys a b t u same =
    let both : reported_as rules board d (tiles_of d l t.y) ≡ reported_as rules board e (tiles_of e m u.y) = t.is ∙ same ∙ sym u.is in
    (ap (λ (x : Given). x.dir) both, ap (λ (x : Given). x.tiles) both)

once_on : (rules : Rules) (words : List (List ℕ)) (board : List (Option Tile)) (g listed : List ℕ → Bool) (cells : Dir → ℕ → List Cell) → Setting words board g listed cells
    → (rack : List ℕ) (d : Dir) (line : ℕ) → line < 15 → AllPairs (λ a b. a ≢ b) (given_on rules board g cells rack d line)
once_on rules words board g listed cells s rack d line low =
    AllPairs-flat_map (λ (y z : List ℕ). y ≢ z) (λ (a b : Given). a ≢ b) (reported rules board d line) (line_moves g (cells d line) rack)
    (gives_none_twice g (cells d line) rack (s.lines d line low).size)
    (λ y c. reported_alone rules board d line y)
    (λ y z a b has_y has_z differ has_a has_b same.
    let first = reported_is rules board d line y a has_a in
    let second = reported_is rules board d line z b has_b in
    let both : reported_as rules board d (tiles_of d line y) ≡ reported_as rules board d (tiles_of d line z) = first.1 ∙ same ∙ sym second.1 in
    differ
    (sym (entries_of_move words board g listed cells s rack d line low y has_y)
    ∙ ap (λ (x : Given). entries_of d line x.tiles) both
    ∙ entries_of_move words board g listed cells s rack d line low z has_z))

once_along : (rules : Rules) (words : List (List ℕ)) (board : List (Option Tile)) (g listed : List ℕ → Bool) (cells : Dir → ℕ → List Cell) → Setting words board g listed cells
    → (rack : List ℕ) (d : Dir) → AllPairs (λ a b. a ≢ b) (given_along rules board g cells rack d)
once_along rules words board g listed cells s rack d =
    let low : (line : ℕ) → Contains (range_with_len 0 15) line → line < 15 = λ line c. let range = from_range 0 15 line c in omega arith in
    AllPairs-flat_map (λ (l m : ℕ). l ≢ m) (λ (a b : Given). a ≢ b) (given_on rules board g cells rack d) (range_with_len 0 15)
    (range_differs 0 15)
    (λ line c. once_on rules words board g listed cells s rack d line (low line c))
    (λ l m a b has_l has_m differ has_a has_b same.
    let t = from_line rules board g cells rack d l a has_a in
    let u = from_line rules board g cells rack d m b has_b in
    let tiles = (same_tiles rules board d d l m (line_moves g (cells d l) rack) (line_moves g (cells d m) rack) a b t u same).1 in
    let q = tile_of_move words board g listed cells s rack d l (low l has_l) t.y t.there in
    differ
    (sym (tile_on_line d l t.y (low l has_l) q.0 q.1)
    ∙ tile_on_line d m u.y (low m has_m) q.0 (subst (λ (ps : List Placed). Contains ps q.0) tiles q.1)))

once_all : (rules : Rules) (words : List (List ℕ)) (board : List (Option Tile)) (g listed : List ℕ → Bool) (cells : Dir → ℕ → List Cell) → Setting words board g listed cells
    → (rack : List ℕ) → AllPairs (λ a b. a ≢ b) (given_by rules board g cells rack)
unfolding given_by
once_all rules words board g listed cells s rack =
    AllPairs-append (λ (a b : Given). a ≢ b) (given_along rules board g cells rack Across) (given_along rules board g cells rack Down)
    (once_along rules words board g listed cells s rack Across)
    (once_along rules words board g listed cells s rack Down)
    (λ a b has_a has_b same.
    let t = from_along rules board g cells rack Across a has_a in
    let u = from_along rules board g cells rack Down b has_b in
    let dirs : Across ≡ Down =
    (same_tiles rules board Across Down t.line u.line (line_moves g (cells Across t.line) rack) (line_moves g (cells Down u.line) rack) a b t.reported_by u.reported_by same).0 in
    cc)

-- ---- what a board gives is all candidates, each once, and no others
given_cases : (rules : Rules) (board : List (Option Tile)) (g : List ℕ → Bool) (cells : Dir → ℕ → List Cell) (rack : List ℕ) (a : Given)
    → Contains (given_by rules board g cells rack) a → (d : Dir) × GivenAlong rules board g cells rack d a
unfolding given_by
given_cases rules board g cells rack a c =
    ⊎_elim
    (λ (s : Contains (given_along rules board g cells rack Across) a). (Across, from_along rules board g cells rack Across a s))
    (λ (s : Contains (given_along rules board g cells rack Down) a). (Down, from_along rules board g cells rack Down a s))
    (Contains-append_cases (given_along rules board g cells rack Across) (given_along rules board g cells rack Down) a c)

pub given_all : (rules : Rules) (words : List (List ℕ)) (board : List (Option Tile)) (g listed : List ℕ → Bool) (cells : Dir → ℕ → List Cell) → Setting words board g listed cells
    → (rack : List ℕ) → AreAll rules words board rack (given_by rules board g cells rack)
given_all rules words board g listed cells s rack =
    record {
      sound =
          All-each (IsSoundGiven rules words board rack) (given_by rules board g cells rack)
          (λ a c. let from = given_cases rules board g cells rack a c in given_sound rules words board g listed cells s rack from.0 a from.1);
      complete = λ ps candidate. given_there rules words board g listed cells s rack ps candidate;
      once = once_all rules words board g listed cells s rack;
    }
