-- A candidate with its run along a line is a move of the line, and its entries give it back.
use Rattle.std.proofs.Common.{◌≡◌, ◌≢◌, ℕ, ◌+◌, ◌<◌, ◌≤◌, ◌==◌, ◌&&◌, Bool, true, false, nat_lt, List, ◌∷◌, map, length, get_or, refl, sym, ap, ◌∙◌, subst, arith, ⊎_elim, Option, Some, None, is_some}
use Rattle.std.specs.Prelude.{Contains, All, slice_index}
use Rattle.std.specs.List.{range_with_len}
use Rattle.std.proofs.lemmas.List.Elements.{All-head, All-tail, All-contains}
use Rattle.std.proofs.lemmas.List.FromFn.{length-map-range_with_len, get_or-map-range_with_len}
use Rattle.std.proofs.lemmas.Bool.{and_from, or_right, lt-ltb}
use Rattle.ref_tiles.specs.declared.tiles.Tile.{Tile}
use Rattle.ref_tiles.specs.declared.kinds.Kind.{Kind}
use Rattle.ref_tiles.specs.declared.kinds.Kind.TheVariants as kind
use Rattle.ref_board.specs.declared.directions.Dir.{Dir}
use Rattle.ref_board.specs.Lines.{line_of, place_of, square_at, other_dir}
use Rattle.ref_board.specs.Cells.{tile_at, occupied_on}
use Rattle.ref_board.specs.Anchors.{IsAnchor}
use Rattle.ref_play.specs.declared.placed.Placed.{Placed}
use Rattle.ref_play.specs.Placements.{are_rising, is_play, with_tiles}
use Rattle.ref_play.specs.Formed.{run_of}
use Rattle.ref_play.specs.Words.{capital_shown, letters_of}
use Rattle.ref_play.specs.Texts.{placed_on}
use Rattle.ref_play.specs.Notations.{tile_in}
use Rattle.ref_play.specs.Crosses.{cross_words}
use Rattle.ref_play.specs.Directions.{LiesIn}
use Rattle.ref_play.specs.Candidates.{used, IsCandidate}
use Rattle.ref_play.proofs.LineLaws.{place_of-square_at, square_at-of, place_below}
use Rattle.ref_play.proofs.PlaceLaws.{is_play-parts, on_board}
use Rattle.ref_play.proofs.DirectionLaws.{words_along}
use Rattle.ref_play.proofs.Reading.{tile_in-cases, tile_in-there}
use Rattle.ref_play.proofs.Laying.{sound_from_legal}
use Rattle.ref_play.proofs.Agreeing.{whole_agree, All-range}
use Rattle.ref_play.proofs.Crossing.{flat_map_each}
use Rattle.gen_line.specs.declared.cells.Cell.{Cell}
use Rattle.gen_line.specs.declared.cells.Cell.TheVariants.{Old, Free}
use Rattle.gen_line.specs.declared.cells.Open.{Open}
use Rattle.gen_line.specs.Entries.{letter_of_entry, uses}
use Rattle.gen_line.specs.Cells.{cell_at, cell_ok, is_anchor_cell, labels, full_on}
use Rattle.gen_line.specs.Moves.{IsMove}
use Rattle.gen_moves.specs.BoardLines.{IsLineOf}
use Rattle.gen_moves.specs.LineTiles.{tile_of_entry, blank_part, entry_of, entries_of}
use Rattle.gen_moves.specs.Laws.{ReportsWords}
use Rattle.gen_moves.proofs.Lists.{All-flat_map-at}
use Rattle.gen_moves.proofs.Entering.{tile_again, on_top, placement_again}
use Rattle.gen_moves.proofs.MovePlaces.{AtPlace, at_place, put_by, there_then, labels_are, stretch_letters, cell_entry, used-put, entries_by_place}
use Rattle.gen_moves.proofs.Moving.{crosses_of, words_of_line, masked}

-- ---- the entry of a tile
blank_low : (k : Kind) → blank_part k ≤ 1
blank_low (kind.Letter l) = omega arith
blank_low kind.Blank = omega arith

entry_letter : (t : Tile) → letter_of_entry (entry_of (Some t)) ≡ t.shown.index
entry_letter t = let b = blank_low t.kind in omega arith

entry_low : (t : Tile) → entry_of (Some t) < 53
entry_low t = let b = blank_low t.kind in let i = t.shown.in_range in omega arith

held : (o : Option Tile) → entry_of o ≢ 0 → (t : Tile) × (o ≡ Some t)
held None some = absurd (some refl)
held (Some t) some = (t, refl)

-- the tile of a placement that lies on a square
pub tile_in-found : (ps : List Placed) (square : ℕ) (t : Tile) → tile_in ps square ≡ Some t → (q : Placed) × Contains ps q × (q.square ≡ square) × (q.tile ≡ t)
tile_in-found ps square t e =
    ⊎_elim
    (λ (none : (tile_in ps square ≡ None) × _). let both : None ≡ Some t = sym none.0 ∙ e in cc)
    (λ (some : (q : Placed) × Contains ps q × (q.square ≡ square) × (tile_in ps square ≡ Some q.tile)).
    let both : Some some.0.tile ≡ Some t = sym some.3 ∙ e in (some.0, some.1, some.2, cc))
    (tile_in-cases ps square)

-- ---- the entries of a placement
abbrev pub entry_on : Dir → ℕ → List Placed → ℕ → ℕ
entry_on d line ps i = entry_of (tile_in ps (square_at d line i))

pub entry_at : (d : Dir) (line : ℕ) (ps : List Placed) (i : ℕ) → i < 15 → get_or (entries_of d line ps) i 0 ≡ entry_on d line ps i
unfolding entries_of
entry_at d line ps i below = get_or-map-range_with_len (entry_on d line ps) 0 15 i i 0 below (omega arith)

pub entries_size : (d : Dir) (line : ℕ) (ps : List Placed) → length (entries_of d line ps) ≡ 15
unfolding entries_of
entries_size d line ps = length-map-range_with_len (entry_on d line ps) 0 15

-- they make the placement again
pub entries_again : (d : Dir) (line : ℕ) (ps : List Placed) → ((q : Placed) → Contains ps q → (q.square < 225) × (line_of d q.square ≡ line)) → are_rising ps ≡ true
    → put_by d line (entries_of d line ps) ≡ ps
entries_again d line ps on rising =
    flat_map_each (λ (i : ℕ). i < 15) (λ (i : ℕ). placed_on (square_at d line i) (tile_of_entry (get_or (entries_of d line ps) i 0))) (λ (i : ℕ). placed_on (square_at d line i) (tile_in ps (square_at d line i)))
    (λ i below. ap (placed_on (square_at d line i)) (ap tile_of_entry (entry_at d line ps i below) ∙ tile_again (tile_in ps (square_at d line i))))
    (range_with_len 0 15) (All-range (λ (i : ℕ). i < 15) 0 15 (λ i from upto. omega arith))
    ∙ placement_again d line ps on rising

-- ---- what is known about the placement
record Known (words : List (List ℕ)) (d : Dir) (board : List (Option Tile)) (rack : List ℕ) (ps : List Placed) (line first len : ℕ) : Type 0 where
  size : length board ≡ 225
  below : line < 15
  on : (q : Placed) → Contains ps q → q.square < 225
  rising : are_rising ps ≡ true
  free : (q : Placed) → Contains ps q → tile_at board q.square ≡ None
  lies : LiesIn d (with_tiles board ps) ps line first len
  anchor : (q : Placed) × Contains ps q × IsAnchor board q.square
  crosses : (q : Placed) → Contains ps q → All (Contains words) (cross_words (other_dir d) board q.square q.tile)
  word : Contains words (letters_of (with_tiles board ps) (run_of d line (first, len)))
  from : (k : ℕ) → used ps k ≤ slice_index rack k
  again : put_by d line (entries_of d line ps) ≡ ps

known : (words : List (List ℕ)) (d : Dir) (board : List (Option Tile)) (rack : List ℕ) (ps : List Placed) (line first len : ℕ) → length board ≡ 225 → line < 15 → is_play d ps ≡ true
    → IsCandidate words board rack ps → LiesIn d (with_tiles board ps) ps line first len → 2 ≤ len → Known words d board rack ps line first len
known words d board rack ps line first len size below play candidate lies long =
    let parts = is_play-parts d ps play in
    let sound = sound_from_legal d board ps size play candidate.legal in
    let along : All (Contains words) (letters_of (with_tiles board ps) (run_of d line (first, len)) ∷ crosses_of d board ps) =
    subst (All (Contains words)) (words_of_line d board ps line first len size play candidate.legal.no_gap lies long) (words_along (Contains words) d board ps candidate.listed) in
    let cross : All (Contains words) (crosses_of d board ps) = All-tail (Contains words) (letters_of (with_tiles board ps) (run_of d line (first, len))) (crosses_of d board ps) along in
    record {
      size = size;
      below = below;
      on = λ q c. on_board ps q parts.1 c;
      rising = parts.2;
      free = λ q c. All-contains (λ (p : Placed). tile_at board p.square ≡ None) ps q candidate.legal.on_empty c;
      lies = lies;
      anchor = sound.anchor;
      crosses = λ q c. All-flat_map-at (Contains words) (λ (p : Placed). cross_words (other_dir d) board p.square p.tile) ps q cross c;
      word = All-head (Contains words) (letters_of (with_tiles board ps) (run_of d line (first, len))) (crosses_of d board ps) along;
      from = candidate.from;
      again = entries_again d line ps (λ q c. (on_board ps q parts.1 c, lies.lines q c)) parts.2;
    }

-- ---- its entries are a move
none_ok : (c : Cell) → cell_ok c 0 ≡ true
none_ok (Old a) = refl
none_ok (Free m) = refl

allowed_by : (o : Option Tile) (words : List (List ℕ)) (d : Dir) (board : List (Option Tile)) (rack : List ℕ) (ps : List Placed) (line first len : ℕ) → Known words d board rack ps line first len
    → (cells : List Cell) → IsLineOf words d board line cells → (i : ℕ) → i < 15 → tile_in ps (square_at d line i) ≡ o → cell_ok (cell_at cells i) (entry_of o) ≡ true
allowed_by None words d board rack ps line first len k cells is i below e = none_ok (cell_at cells i)
allowed_by (Some t) words d board rack ps line first len k cells is i below e =
    let square = square_at d line i in
    let found = tile_in-found ps square t e in
    let on = k.on found.0 found.1 in
    let square_is = found.2 in
    let size = k.size in
    let free = is.free i below (ap (tile_at board) (sym found.2) ∙ k.free found.0 found.1) in
    let m : Open = free.0 in
    let n = entry_of (Some t) in
    let crossed : All (Contains words) (cross_words (other_dir d) board square t) =
    subst (λ (u : Tile). All (Contains words) (cross_words (other_dir d) board square u)) found.3
    (subst (λ (s : ℕ). All (Contains words) (cross_words (other_dir d) board s found.0.tile)) found.2 (k.crosses found.0 found.1)) in
    let passes : get_or m.mask (letter_of_entry n) false ≡ true =
    ap (λ (j : ℕ). get_or m.mask j false) (entry_letter t) ∙ (masked words d board square m.mask (omega arith) free.3 t).1 crossed in
    ap (λ (c : Cell). cell_ok c n) free.1
    ∙ or_right (n == 0) (nat_lt n 53 && get_or m.mask (letter_of_entry n) false) (and_from (nat_lt n 53) (get_or m.mask (letter_of_entry n) false) (lt-ltb n 53 (entry_low t)) passes)

-- what is known about a place of the line
record KnownAt (d : Dir) (board : List (Option Tile)) (line : ℕ) (cells : List Cell) (ps : List Placed) (y : List ℕ) (i : ℕ) : Type 0 where
  allowed : cell_ok (cell_at cells i) (get_or y i 0) ≡ true
  at : AtPlace board (square_at d line i) (cell_at cells i) (get_or y i 0)
  then' : tile_at (with_tiles board ps) (square_at d line i) ≡ on_top (tile_of_entry (get_or y i 0)) (tile_at board (square_at d line i))

known_at : (words : List (List ℕ)) (d : Dir) (board : List (Option Tile)) (rack : List ℕ) (ps : List Placed) (line first len : ℕ) → Known words d board rack ps line first len
    → (cells : List Cell) → IsLineOf words d board line cells → (i : ℕ) → i < 15 → KnownAt d board line cells ps (entries_of d line ps) i
known_at words d board rack ps line first len k cells is i below =
    let y = entries_of d line ps in
    let square = square_at d line i in
    let ok : cell_ok (cell_at cells i) (get_or y i 0) ≡ true =
    ap (cell_ok (cell_at cells i)) (entry_at d line ps i below) ∙ allowed_by (tile_in ps square) words d board rack ps line first len k cells is i below refl in
    record {
      allowed = ok;
      at = at_place words d board line cells is i (get_or y i 0) below ok;
      then' = ap (λ (qs : List Placed). tile_at (with_tiles board qs) square) (sym k.again) ∙ there_then d board line y i k.size k.below below;
    }

-- where an entry other than 0 comes from
entry_from : (d : Dir) (line : ℕ) (ps : List Placed) (i : ℕ) → i < 15 → get_or (entries_of d line ps) i 0 ≢ 0 → (q : Placed) × Contains ps q × (q.square ≡ square_at d line i)
entry_from d line ps i below some =
    let h = held (tile_in ps (square_at d line i)) (λ z. some (entry_at d line ps i below ∙ z)) in
    let found = tile_in-found ps (square_at d line i) h.0 h.1 in (found.0, found.1, found.2)

known_move : (words : List (List ℕ)) (d : Dir) (board : List (Option Tile)) (rack : List ℕ) (ps : List Placed) (line first len : ℕ) → Known words d board rack ps line first len
    → (cells : List Cell) → IsLineOf words d board line cells → (listed : List ℕ → Bool) → ReportsWords listed words
    → IsMove listed cells rack (entries_of d line ps) first len
known_move words d board rack ps line first len k cells is listed reported =
    let y = entries_of d line ps in
    let after = with_tiles board ps in
    let inside = k.lies.whole.inside in
    let low = k.below in
    let at = known_at words d board rack ps line first len k cells is in
    let same : (i : ℕ) → i < 15 → occupied_on d after line i ≡ full_on cells y i = λ i below. ap is_some (at i below).then' ∙ (at i below).at.filled in
    let whole = whole_agree (occupied_on d after line) (full_on cells y) same first len k.lies.whole in
    let spelled : letters_of after (run_of d line (first, len)) ≡ map (λ l. l + 64) (labels cells y first len) =
    stretch_letters d after line first len
    ∙ labels_are cells y (λ i. capital_shown (tile_at after (square_at d line i))) first len
    (λ i from upto. let a = at i (omega arith) in ap capital_shown a.then' ∙ a.at.shows (whole.filled i from upto)) in
    let p = k.anchor.0 in
    let c = k.anchor.1 in
    let place = place_of d p.square in
    let place_on = place_below d p.square (k.on p c) in
    let square_is : square_at d line place ≡ p.square = ap (λ (l : ℕ). square_at d l place) (sym (k.lies.lines p c)) ∙ square_at-of d p.square in
    let entry_is : get_or y place 0 ≡ entry_of (Some p.tile) =
    entry_at d line ps place place_on ∙ ap (λ (s : ℕ). entry_of (tile_in ps s)) square_is ∙ ap entry_of (tile_in-there ps p k.rising c) in
    let free = is.free place place_on (ap (tile_at board) square_is ∙ k.free p c) in
    let is_anchor : is_anchor_cell (cell_at cells place) ≡ true = ap is_anchor_cell free.1 ∙ free.2.1 (subst (IsAnchor board) (sym square_is) k.anchor.2) in
    let rack_is : (n : ℕ) → uses n y ≡ used ps n =
    λ n.
    sym
    (ap (λ (qs : List Placed). used qs n) (sym k.again)
    ∙ used-put d line (λ i. get_or y i 0) 0 15 n (λ i from upto some. cell_entry (cell_at cells i) (get_or y i 0) some (at i (omega arith)).allowed)
    ∙ ap (uses n) (entries_by_place y (entries_size d line ps))) in
    record {
      size = entries_size d line ps;
      whole = whole;
      allowed = λ i below. (at i below).allowed;
      within = λ i below some.
          let q = entry_from d line ps i below some in
          let place_is : place_of d q.0.square ≡ i = ap (place_of d) q.2 ∙ place_of-square_at d line i low below in
          let from = k.lies.low q.0 q.1 in
          let upto = k.lies.high q.0 q.1 in
          (omega arith, omega arith);
      anchored = (place, place_on, (λ z. let both = sym entry_is ∙ z in absurd (omega arith)), is_anchor);
      word = (reported (labels cells y first len)).1 (subst (Contains words) spelled k.word);
      fits = λ n. let from = k.from n in let e = rack_is n in omega arith;
    }

-- a candidate that lies along a line in a stretch of at least two places is a move of that line, whose tiles are the candidate's
pub candidate_move : (words : List (List ℕ)) (d : Dir) (board : List (Option Tile)) (rack : List ℕ) (ps : List Placed) (line first len : ℕ) → length board ≡ 225 → line < 15 → is_play d ps ≡ true
    → IsCandidate words board rack ps → LiesIn d (with_tiles board ps) ps line first len → 2 ≤ len
    → (cells : List Cell) → IsLineOf words d board line cells → (listed : List ℕ → Bool) → ReportsWords listed words
    → IsMove listed cells rack (entries_of d line ps) first len × (put_by d line (entries_of d line ps) ≡ ps)
candidate_move words d board rack ps line first len size below play candidate lies long cells is listed reported =
    let k = known words d board rack ps line first len size below play candidate lies long in
    (known_move words d board rack ps line first len k cells is listed reported, k.again)
