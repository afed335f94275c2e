-- A move of a line is a candidate.
use Rattle.std.proofs.Common.{◌≡◌, ◌≢◌, ℕ, ◌+◌, ◌<◌, ◌≤◌, ◌==◌, ◌&&◌, Bool, true, false, nat_lt, List, [], ◌∷◌, ◌++◌, map, length, get_or, refl, sym, ap, ◌∙◌, subst, arith, ⊎_elim, Option, Some}
use Rattle.std.specs.Prelude.{Contains, All}
use Rattle.std.specs.List.{list_all, flat_map}
use Rattle.std.proofs.lemmas.List.{length-map}
use Rattle.std.proofs.lemmas.List.Elements.{All-cons}
use Rattle.std.proofs.lemmas.Bool.{and_parts, and_from, or_cases, lt-ltb, le-leb, eqb-true}
use Rattle.ref_tiles.specs.declared.tiles.Tile.{Tile}
use Rattle.ref_tiles.specs.Faces.{letter_tile}
use Rattle.ref_board.specs.declared.directions.Dir.{Dir}
use Rattle.ref_board.specs.Lines.{square_at, other_dir}
use Rattle.ref_board.specs.Cells.{tile_at}
use Rattle.ref_play.specs.declared.placed.Placed.{Placed}
use Rattle.ref_play.specs.declared.runs.Run.{Run}
use Rattle.ref_play.specs.Placements.{are_rising, are_in_line, is_play, with_tiles}
use Rattle.ref_play.specs.Formed.{run_of}
use Rattle.ref_play.specs.Words.{capital_shown, letters_of, words_formed}
use Rattle.ref_play.specs.Legality.{HasNoGap, IsLegal}
use Rattle.ref_play.specs.Crosses.{cross_words}
use Rattle.ref_play.specs.Directions.{LiesIn}
use Rattle.ref_play.specs.Candidates.{used}
use Rattle.ref_play.proofs.RangeLaws.{Contains-here}
use Rattle.ref_play.proofs.LineLaws.{square_at_below}
use Rattle.ref_play.proofs.PlaceLaws.{is_play-parts, on_board}
use Rattle.ref_play.proofs.DirectionLaws.{words_across}
use Rattle.ref_play.proofs.Laying.{legal_from_sound}
use Rattle.ref_play.proofs.Agreeing.{cross_words-face}
use Rattle.ref_play.proofs.Crossing.{words_are}
use Rattle.gen_cross.specs.Values.{IsMask}
use Rattle.gen_line.specs.declared.cells.Cell.{Cell}
use Rattle.gen_line.specs.declared.cells.Cell.TheVariants.{Free}
use Rattle.gen_line.specs.declared.cells.Open.{Open}
use Rattle.gen_line.specs.Entries.{letter_of_entry, is_blank_entry, uses}
use Rattle.gen_line.specs.Cells.{cell_at, cell_ok, labels}
use Rattle.gen_line.specs.Moves.{IsMove}
use Rattle.gen_moves.specs.BoardLines.{IsLineOf}
use Rattle.gen_moves.specs.LineTiles.{faced, tile_of_entry}
use Rattle.gen_moves.specs.Laws.{ReportsWords, AreLong, IsCandidateOn}
use Rattle.gen_moves.proofs.Lists.{list_all-each, All-flat_map}
use Rattle.gen_moves.proofs.Entering.{put-rising, put-in_line}
use Rattle.gen_moves.proofs.MovePlaces.{tiled, faced-shows, cell_entry, at_place, put_by, put_at, there_then, move_lies, length-labels, covers_anchor, move_sound, labels_are, stretch_letters, main_run, used-put, entries_by_place}

-- ---- the words of a play in one stretch of a line
abbrev pub crosses_of : Dir → List (Option Tile) → List Placed → List (List ℕ)
crosses_of d board ps = flat_map (λ (q : Placed). cross_words (other_dir d) board q.square q.tile) ps

-- the word of the stretch, and the cross words
pub words_of_line : (d : Dir) (board : List (Option Tile)) (ps : List Placed) (line first len : ℕ) → length board ≡ 225 → is_play d ps ≡ true → HasNoGap (with_tiles board ps) ps
    → LiesIn d (with_tiles board ps) ps line first len → 2 ≤ len → words_formed d board ps ≡ letters_of (with_tiles board ps) (run_of d line (first, len)) ∷ crosses_of d board ps
words_of_line d board [] line first len size play no_gap lies long = let parts = is_play-parts d [] play in absurd (omega (arith, parts.0))
words_of_line d board (p ∷ rest) line first len size play no_gap lies long =
    let after = with_tiles board (p ∷ rest) in
    let parts = is_play-parts d (p ∷ rest) play in
    let here = Contains-here p rest in
    words_are d board p rest size play no_gap
    ∙ ap (λ (runs : List Run). map (letters_of after) runs ++ crosses_of d board (p ∷ rest))
    (main_run d after (p ∷ rest) line first len lies p here (on_board (p ∷ rest) p parts.1 here) long)

-- ---- a mask lets a tile pass exactly when its cross word is listed
pub masked : (words : List (List ℕ)) (d : Dir) (board : List (Option Tile)) (square : ℕ) (mask : List Bool) → square < length board → IsMask words d board square mask → (t : Tile)
    → ((get_or mask t.shown.index false ≡ true) → All (Contains words) (cross_words (other_dir d) board square t))
    × (All (Contains words) (cross_words (other_dir d) board square t) → (get_or mask t.shown.index false ≡ true))
masked words d board square mask on is t =
    let same : cross_words (other_dir d) board square t ≡ cross_words (other_dir d) board square (letter_tile t.shown) =
    cross_words-face (other_dir d) board square t (letter_tile t.shown) on refl in
    let law = is t.shown in
    (λ e. subst (All (Contains words)) (sym same) (law.0 e), λ h. law.1 (subst (All (Contains words)) same h))

-- the letter of an entry passes the mask of its cell
mask_passes : (m : Open) (e : ℕ) → e ≢ 0 → cell_ok (Free m) e ≡ true → get_or m.mask (letter_of_entry e) false ≡ true
mask_passes m e some ok =
    ⊎_elim
    (λ (z : (e == 0) ≡ true). absurd (some (eqb-true e 0 z)))
    (λ (s : (nat_lt e 53 && get_or m.mask (letter_of_entry e) false) ≡ true). (and_parts (nat_lt e 53) (get_or m.mask (letter_of_entry e) false) s).1)
    (or_cases (e == 0) (nat_lt e 53 && get_or m.mask (letter_of_entry e) false) ok)

-- the cross words of a move
move_crosses : (words : List (List ℕ)) (d : Dir) (board : List (Option Tile)) (line : ℕ) (cells : List Cell) → IsLineOf words d board line cells → (listed : List ℕ → Bool) (rack y : List ℕ) (first len : ℕ)
    → length board ≡ 225 → line < 15 → IsMove listed cells rack y first len → All (Contains words) (crosses_of d board (put_by d line y))
move_crosses words d board line cells is listed rack y first len size low move =
    All-flat_map (Contains words) (λ (q : Placed). cross_words (other_dir d) board q.square q.tile) (put_by d line y)
    (λ q c.
    let at = put_at d line y q low c in
    let i = at.place in
    let e = get_or y i 0 in
    let square = square_at d line i in
    let ok = move.allowed i at.below in
    let free = is.free i at.below ((at_place words d board line cells is i e at.below ok).empty at.some) in
    let m : Open = free.0 in
    let passes : get_or m.mask (letter_of_entry e) false ≡ true = mask_passes m e at.some (subst (λ (x : Cell). cell_ok x e ≡ true) free.1 ok) in
    let t = tiled e at.some (cell_entry (cell_at cells i) e at.some ok) in
    let tile : Tile = faced (is_blank_entry e) t.letter in
    let same : Some q.tile ≡ Some tile = sym at.tile ∙ t.is in
    let tile_is : q.tile ≡ tile = cc in
    let index : letter_of_entry e ≡ q.tile.shown.index = sym (ap (λ (u : Tile). u.shown.index) tile_is ∙ faced-shows (is_blank_entry e) t.letter ∙ t.index) in
    let on_board = square_at_below d line i low at.below in
    subst (λ (s : ℕ). All (Contains words) (cross_words (other_dir d) board s q.tile)) (sym at.square)
    ((masked words d board square m.mask (omega arith) free.3 q.tile).0 (ap (λ (n : ℕ). get_or m.mask n false) (sym index) ∙ passes)))

-- the word along the line
pub line_letters : (words : List (List ℕ)) (d : Dir) (board : List (Option Tile)) (line : ℕ) (cells : List Cell) → IsLineOf words d board line cells → (listed : List ℕ → Bool) (rack y : List ℕ) (first len : ℕ)
    → length board ≡ 225 → line < 15 → IsMove listed cells rack y first len
    → letters_of (with_tiles board (put_by d line y)) (run_of d line (first, len)) ≡ map (λ l. l + 64) (labels cells y first len)
line_letters words d board line cells is listed rack y first len size low move =
    let after = with_tiles board (put_by d line y) in
    let inside = move.whole.inside in
    stretch_letters d after line first len
    ∙ labels_are cells y (λ i. capital_shown (tile_at after (square_at d line i))) first len
    (λ i from upto.
    let below : i < 15 = omega arith in
    ap capital_shown (there_then d board line y i size low below)
    ∙ (at_place words d board line cells is i (get_or y i 0) below (move.allowed i below)).shows (move.whole.filled i from upto))

-- ---- a move is a candidate
pub play_from : (d : Dir) (ps : List Placed) → 1 ≤ length ps → length ps ≤ 7 → ((q : Placed) → Contains ps q → q.square < 225) → are_rising ps ≡ true → are_in_line d ps ≡ true → is_play d ps ≡ true
unfolding is_play
play_from d ps some few on rising line =
    let within : list_all (λ (p : Placed). nat_lt p.square 225) ps ≡ true = list_all-each (λ (p : Placed). nat_lt p.square 225) ps (λ q c. lt-ltb q.square 225 (on q c)) in
    and_from _ _ (and_from _ _ (and_from _ _ (and_from _ _ (le-leb 1 (length ps) some) (le-leb (length ps) 7 few)) within) rising) line

-- the move puts down at most seven tiles
pub move_candidate : (words : List (List ℕ)) (d : Dir) (board : List (Option Tile)) (line : ℕ) (cells : List Cell) → IsLineOf words d board line cells → (listed : List ℕ → Bool) (rack y : List ℕ) (first len : ℕ)
    → ReportsWords listed words → AreLong words → length board ≡ 225 → line < 15 → IsMove listed cells rack y first len → length (put_by d line y) ≤ 7
    → IsCandidateOn words d board rack (put_by d line y) line first len × (is_play d (put_by d line y) ≡ true)
move_candidate words d board line cells is listed rack y first len reported long_words size low move few =
    let ps = put_by d line y in
    let f = λ (i : ℕ). tile_of_entry (get_or y i 0) in
    let after = with_tiles board ps in
    let word : Contains words (map (λ l. l + 64) (labels cells y first len)) = (reported (labels cells y first len)).0 move.word in
    let long : 2 ≤ len =
    (let word_long = long_words (map (λ l. l + 64) (labels cells y first len)) word in
    let a = length-map (labels cells y first len) (λ (l : ℕ). l + 64) in
    let b = length-labels cells y first len in
    omega arith) in
    let covers = covers_anchor words d board line cells is listed rack y first len low move in
    let some : 1 ≤ length ps = (let there = covers.there.1 in omega arith) in
    let play : is_play d ps ≡ true = play_from d ps some few (λ q c. (put_at d line y q low c).on) (put-rising d line f 0 15) (put-in_line d line f 0 15 low (omega arith)) in
    let lies = move_lies words d board line cells is listed rack y first len size low move in
    let legal : IsLegal board ps = legal_from_sound d board ps play (move_sound words d board line cells is listed rack y first len size low long move) in
    let words_are_line = words_of_line d board ps line first len size play legal.no_gap lies long in
    let main : Contains words (letters_of after (run_of d line (first, len))) = subst (Contains words) (sym (line_letters words d board line cells is listed rack y first len size low move)) word in
    let all_listed : All (Contains words) (words_formed d board ps) =
    subst (All (Contains words)) (sym words_are_line)
    (All-cons (Contains words) (letters_of after (run_of d line (first, len))) (crosses_of d board ps) main
    (move_crosses words d board line cells is listed rack y first len size low move)) in
    let rack_is : (k : ℕ) → used ps k ≡ uses k y =
    λ k.
    used-put d line (λ i. get_or y i 0) 0 15 k (λ i from upto some_there. cell_entry (cell_at cells i) (get_or y i 0) some_there (move.allowed i (omega arith)))
    ∙ ap (uses k) (entries_by_place y move.size) in (
      record {
        candidate = record {
          play = (d, play);
          legal = legal;
          listed = words_across (Contains words) d board ps all_listed;
          from = λ k. let fits = move.fits k in let same = rack_is k in omega arith;
        };
        lies = lies;
        long = long;
      },
      play,
    )
