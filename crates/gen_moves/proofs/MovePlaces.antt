-- What a move of a line puts on the board, place by place: it lies in one whole stretch of the line, and is sound.
use Rattle.std.proofs.Common.{◌≡◌, ◌≢◌, ℕ, zero, suc, ◌+◌, ◌<◌, ◌≤◌, ◌==◌, ◌&&◌, not, Bool, true, false, nat_lt, List, [], ◌∷◌, ◌++◌, map, length, get_or, refl, sym, ap, ◌∙◌, subst, arith, ⊎_elim, Option, Some, None, is_some}
use Rattle.std.specs.Prelude.{Contains, if◌then◌else◌}
use Rattle.std.specs.List.{range_with_len}
use Rattle.std.proofs.lemmas.List.Elements.{All-contains_itself, All-weaker}
use Rattle.std.proofs.lemmas.List.FromFn.{fill_by_all}
use Rattle.std.proofs.lemmas.List.Sums.{sum_by-append}
use Rattle.std.proofs.lemmas.Bool.{cases_Bool, cases_eq, and_parts, or_cases, both_ways, ltb-true, eqb-true, eq-eqb, ne_eqb, not_from_false}
use Rattle.ref_tiles.specs.declared.tiles.Tile.{Tile}
use Rattle.ref_tiles.specs.declared.letters.Letter.{Letter}
use Rattle.ref_tiles.specs.Kinds.{number_of}
use Rattle.ref_board.specs.declared.directions.Dir.{Dir}
use Rattle.ref_board.specs.Lines.{line_of, place_of, square_at}
use Rattle.ref_board.specs.Cells.{tile_at, occupied_on}
use Rattle.ref_board.specs.Runs.{IsWhole, IsRunThrough}
use Rattle.ref_board.specs.Anchors.{IsAnchor}
use Rattle.ref_play.specs.declared.placed.Placed.{Placed}
use Rattle.ref_play.specs.Placements.{with_tiles}
use Rattle.ref_play.specs.Formed.{run_of, runs_through, along, MeetsRun}
use Rattle.ref_play.specs.Words.{capital_shown, letters_of}
use Rattle.ref_play.specs.Texts.{placed_on}
use Rattle.ref_play.specs.Directions.{LiesIn}
use Rattle.ref_play.specs.Soundness.{IsSound}
use Rattle.ref_play.specs.Candidates.{used}
use Rattle.ref_play.proofs.RangeLaws.{Contains-here}
use Rattle.ref_play.proofs.LineLaws.{line_of-square_at, place_of-square_at, line_below, place_below, square_at_below}
use Rattle.ref_play.proofs.FormedRuns.{run_through}
use Rattle.ref_play.proofs.Stretches.{meets_stretch}
use Rattle.ref_play.proofs.Reading.{along_at}
use Rattle.ref_play.proofs.Agreeing.{whole_agree}
use Rattle.gen_line.specs.declared.cells.Cell.{Cell}
use Rattle.gen_line.specs.declared.cells.Cell.TheVariants.{Old, Free}
use Rattle.gen_line.specs.declared.cells.Open.{Open}
use Rattle.gen_line.specs.Entries.{letter_of_entry, is_blank_entry, kind_of_entry, uses}
use Rattle.gen_line.specs.Cells.{cell_at, is_full, label_at, cell_ok, is_anchor_cell, labels, full_on}
use Rattle.gen_line.specs.Moves.{IsMove}
use Rattle.gen_moves.specs.BoardLines.{IsLineOf}
use Rattle.gen_moves.specs.LineTiles.{faced, tile_of_entry}
use Rattle.gen_moves.proofs.Entering.{tile_by, put_from, stands_at, put_there, put-rising, on_top, with-is, tile_in-put}

-- ---- the tile of an entry
pub record Tiled (e : ℕ) : Type 0 where
  pub letter : Letter
  pub is : tile_of_entry e ≡ Some (faced (is_blank_entry e) letter)
  pub index : letter.index ≡ letter_of_entry e

pub tiled : (e : ℕ) → e ≢ 0 → e < 53 → Tiled e
tiled e some low =
    let l : Letter = record { index = letter_of_entry e; in_range = omega arith } in
    record { letter = l; is = tile_by e (is_blank_entry e) l some refl refl; index = refl }

pub faced-shows : (b : Bool) (l : Letter) → (faced b l).shown.index ≡ l.index
faced-shows true l = refl
faced-shows false l = refl

-- an entry that puts down a tile is not 0
entry_some : (e : ℕ) (t : Tile) → tile_of_entry e ≡ Some t → e ≢ 0
entry_some e t is z = let both : None ≡ Some t = sym (ap tile_of_entry z) ∙ is in cc

pub cell_entry : (c : Cell) (e : ℕ) → e ≢ 0 → cell_ok c e ≡ true → e < 53
cell_entry (Old a) e some ok = absurd (some (eqb-true e 0 ok))
cell_entry (Free m) e some ok =
    ⊎_elim
    (λ (z : (e == 0) ≡ true). absurd (some (eqb-true e 0 z)))
    (λ (s : (nat_lt e 53 && get_or m.mask (letter_of_entry e) false) ≡ true). ltb-true e 53 (and_parts (nat_lt e 53) (get_or m.mask (letter_of_entry e) false) s).0)
    (or_cases (e == 0) (nat_lt e 53 && get_or m.mask (letter_of_entry e) false) ok)

-- ---- one place of the line, with its new tile
-- A place is full exactly when a tile then lies there, the label is that of the letter shown, and a new tile is put on an empty square.
pub record AtPlace (board : List (Option Tile)) (square : ℕ) (c : Cell) (e : ℕ) : Type 0 where
  pub filled : is_some (on_top (tile_of_entry e) (tile_at board square)) ≡ is_full c e
  pub shows : is_full c e ≡ true → capital_shown (on_top (tile_of_entry e) (tile_at board square)) ≡ label_at c e + 64
  pub empty : e ≢ 0 → tile_at board square ≡ None

at_old : (board : List (Option Tile)) (square : ℕ) (c : Cell) (e : ℕ) (t : Tile) → tile_at board square ≡ Some t → c ≡ Old (t.shown.index + 1) → cell_ok c e ≡ true → AtPlace board square c e
at_old board square c e t there is ok =
    let z : e ≡ 0 = eqb-true e 0 (subst (λ (x : Cell). cell_ok x e ≡ true) is ok) in
    let top : on_top (tile_of_entry e) (tile_at board square) ≡ Some t = ap (λ (n : ℕ). on_top (tile_of_entry n) (tile_at board square)) z ∙ there in
    let label : label_at c e ≡ t.shown.index + 1 = ap (λ (x : Cell). label_at x e) is in
    record {
      filled = ap is_some top ∙ sym (ap (λ (x : Cell). is_full x e) is);
      shows = λ full. ap capital_shown top ∙ omega arith;
      empty = λ some. absurd (some z);
    }

at_free : (board : List (Option Tile)) (square : ℕ) (c : Cell) (e : ℕ) (m : Open) → tile_at board square ≡ None → c ≡ Free m → cell_ok c e ≡ true → AtPlace board square c e
at_free board square c e m there is ok =
    let full_is : is_full c e ≡ not (e == 0) = ap (λ (x : Cell). is_full x e) is in
    let label : label_at c e ≡ letter_of_entry e + 1 = ap (λ (x : Cell). label_at x e) is in
    ⊎_elim
    (λ (z : e ≡ 0).
    let none : is_full c e ≡ false = full_is ∙ ap (λ (n : ℕ). not (n == 0)) z in
    let top : on_top (tile_of_entry e) (tile_at board square) ≡ None = ap (λ (n : ℕ). on_top (tile_of_entry n) (tile_at board square)) z ∙ there in
    record { filled = ap is_some top ∙ sym none; shows = λ full. absurd (both_ways (is_full c e) none full); empty = λ some. there })
    (λ (some : e ≡ 0 → ⊥).
    let t = tiled e some (cell_entry c e some ok) in
    let tile : Tile = faced (is_blank_entry e) t.letter in
    let top : on_top (tile_of_entry e) (tile_at board square) ≡ Some tile = ap (λ (o : Option Tile). on_top o (tile_at board square)) t.is in
    let full : is_full c e ≡ true = full_is ∙ not_from_false (e == 0) (ne_eqb e 0 some) in
    let shown : tile.shown.index ≡ letter_of_entry e = faced-shows (is_blank_entry e) t.letter ∙ t.index in
    record { filled = ap is_some top ∙ sym full; shows = λ f. ap capital_shown top ∙ omega arith; empty = λ s. there })
    (cases_eq e 0)

at_place_by : (words : List (List ℕ)) (d : Dir) (board : List (Option Tile)) (line : ℕ) (cells : List Cell) → IsLineOf words d board line cells → (i e : ℕ) → i < 15 → cell_ok (cell_at cells i) e ≡ true
    → (o : Option Tile) → tile_at board (square_at d line i) ≡ o → AtPlace board (square_at d line i) (cell_at cells i) e
at_place_by words d board line cells is i e below ok None there =
    let f = is.free i below there in at_free board (square_at d line i) (cell_at cells i) e f.0 there f.1 ok
at_place_by words d board line cells is i e below ok (Some t) there =
    at_old board (square_at d line i) (cell_at cells i) e t there (is.old i t below there) ok

pub at_place : (words : List (List ℕ)) (d : Dir) (board : List (Option Tile)) (line : ℕ) (cells : List Cell) → IsLineOf words d board line cells → (i e : ℕ) → i < 15 → cell_ok (cell_at cells i) e ≡ true
    → AtPlace board (square_at d line i) (cell_at cells i) e
at_place words d board line cells is i e below ok = at_place_by words d board line cells is i e below ok (tile_at board (square_at d line i)) refl

-- ---- the whole line
abbrev pub put_by : Dir → ℕ → List ℕ → List Placed
put_by d line y = put_from d line (λ i. tile_of_entry (get_or y i 0)) 0 15

-- where a tile of a line's entries is
pub record PutAt (d : Dir) (line : ℕ) (y : List ℕ) (q : Placed) : Type 0 where
  pub place : ℕ
  pub below : place < 15
  pub square : q.square ≡ square_at d line place
  pub tile : tile_of_entry (get_or y place 0) ≡ Some q.tile
  pub some : get_or y place 0 ≢ 0
  pub on : q.square < 225
  pub on_line : line_of d q.square ≡ line
  pub at : place_of d q.square ≡ place

pub put_at : (d : Dir) (line : ℕ) (y : List ℕ) (q : Placed) → line < 15 → Contains (put_by d line y) q → PutAt d line y q
put_at d line y q low c =
    let s = stands_at d line (λ i. tile_of_entry (get_or y i 0)) 0 15 q c in
    let high = s.high in
    let below : s.place < 15 = omega arith in
    let square_is = s.square in
    let board_is = square_at_below d line s.place low below in
    record {
      place = s.place;
      below = below;
      square = s.square;
      tile = s.tile;
      some = entry_some (get_or y s.place 0) q.tile s.tile;
      on = omega arith;
      on_line = ap (line_of d) s.square ∙ line_of-square_at d line s.place low below;
      at = ap (place_of d) s.square ∙ place_of-square_at d line s.place low below;
    }

-- what then lies on a place of the line
pub there_then : (d : Dir) (board : List (Option Tile)) (line : ℕ) (y : List ℕ) (i : ℕ) → length board ≡ 225 → line < 15 → i < 15
    → tile_at (with_tiles board (put_by d line y)) (square_at d line i) ≡ on_top (tile_of_entry (get_or y i 0)) (tile_at board (square_at d line i))
there_then d board line y i size low below =
    let f = λ (j : ℕ). tile_of_entry (get_or y j 0) in
    with-is (put_by d line y) board (square_at d line i) (put-rising d line f 0 15) (λ q c. let at = put_at d line y q low c in let on = at.on in omega arith)
    ∙ ap (λ (o : Option Tile). on_top o (tile_at board (square_at d line i))) (tile_in-put d line f 0 15 i (omega arith) (omega arith))

pub move_lies : (words : List (List ℕ)) (d : Dir) (board : List (Option Tile)) (line : ℕ) (cells : List Cell) → IsLineOf words d board line cells → (listed : List ℕ → Bool) (rack y : List ℕ) (first len : ℕ)
    → length board ≡ 225 → line < 15 → IsMove listed cells rack y first len → LiesIn d (with_tiles board (put_by d line y)) (put_by d line y) line first len
move_lies words d board line cells is listed rack y first len size low move =
    let after = with_tiles board (put_by d line y) in
    let same : (i : ℕ) → i < 15 → occupied_on d after line i ≡ full_on cells y i =
    λ i below. ap is_some (there_then d board line y i size low below) ∙ (at_place words d board line cells is i (get_or y i 0) below (move.allowed i below)).filled in
    let within : (q : Placed) → Contains (put_by d line y) q → (first ≤ place_of d q.square) × (place_of d q.square < first + len) =
    λ q c. let at = put_at d line y q low c in let place_is = at.at in let w = move.within at.place at.below at.some in (omega arith, omega arith) in
    record {
      whole = whole_agree (full_on cells y) (occupied_on d after line) (λ i below. sym (same i below)) first len move.whole;
      lines = λ q c. (put_at d line y q low c).on_line;
      low = λ q c. (within q c).0;
      high = λ q c. (within q c).1;
    }

pub length-labels : (cells : List Cell) (y : List ℕ) (p n : ℕ) → length (labels cells y p n) ≡ n
length-labels cells y p zero = refl
length-labels cells y p (suc n) = ap suc (length-labels cells y (p + 1) n)

pub some_there : {X : Type 0} (xs : List X) (x : X) → Contains xs x → (p : X) × (ps : List X) × (xs ≡ p ∷ ps)
some_there [] x c = absurd (omega (arith, c.1))
some_there (p ∷ ps) x c = (p, ps, refl)

-- a tile of a move, one that covers an anchor
pub record CoversAnchor (d : Dir) (board : List (Option Tile)) (line : ℕ) (y : List ℕ) : Type 0 where
  pub tile : Placed
  pub there : Contains (put_by d line y) tile
  pub anchor : IsAnchor board tile.square

pub covers_anchor : (words : List (List ℕ)) (d : Dir) (board : List (Option Tile)) (line : ℕ) (cells : List Cell) → IsLineOf words d board line cells → (listed : List ℕ → Bool) (rack y : List ℕ) (first len : ℕ)
    → line < 15 → IsMove listed cells rack y first len → CoversAnchor d board line y
covers_anchor words d board line cells is listed rack y first len low move =
    let at = move.anchored in
    let i = at.0 in
    let e = get_or y i 0 in
    let ok = move.allowed i at.1 in
    let t = tiled e at.2 (cell_entry (cell_at cells i) e at.2 ok) in
    let free = is.free i at.1 ((at_place words d board line cells is i e at.1 ok).empty at.2) in
    record {
      tile = record { square = square_at d line i; tile = faced (is_blank_entry e) t.letter };
      there = put_there d line (λ j. tile_of_entry (get_or y j 0)) 0 15 i (faced (is_blank_entry e) t.letter) (omega arith) (omega arith) t.is;
      anchor = free.2.0 (sym (ap is_anchor_cell free.1) ∙ at.3);
    }

-- what makes a move sound
pub move_sound : (words : List (List ℕ)) (d : Dir) (board : List (Option Tile)) (line : ℕ) (cells : List Cell) → IsLineOf words d board line cells → (listed : List ℕ → Bool) (rack y : List ℕ) (first len : ℕ)
    → length board ≡ 225 → line < 15 → 2 ≤ len → IsMove listed cells rack y first len → IsSound d board (put_by d line y)
move_sound words d board line cells is listed rack y first len size low long move =
    let ps = put_by d line y in
    let lies = move_lies words d board line cells is listed rack y first len size low move in
    let covers = covers_anchor words d board line cells is listed rack y first len low move in
    let split = some_there ps covers.tile covers.there in
    let lies_split : LiesIn d (with_tiles board ps) (split.0 ∷ split.1) line first len = subst (λ (qs : List Placed). LiesIn d (with_tiles board ps) qs line first len) split.2 lies in
    let first_at = put_at d line y split.0 low (subst (λ (qs : List Placed). Contains qs split.0) (sym split.2) (Contains-here split.0 split.1)) in
    let meets = meets_stretch d (with_tiles board ps) split.0 split.1 line first len first_at.on lies_split long in
    record {
      free =
          All-weaker (Contains ps) (λ (q : Placed). tile_at board q.square ≡ None)
          (λ q c.
          let at = put_at d line y q low c in
          ap (tile_at board) at.square ∙ (at_place words d board line cells is at.place (get_or y at.place 0) at.below (move.allowed at.place at.below)).empty at.some)
          ps (All-contains_itself ps);
      line = line;
      first = first;
      len = len;
      lies = lies;
      run = (run_of d line (first, len), subst (λ (qs : List Placed). MeetsRun (with_tiles board ps) qs (run_of d line (first, len))) (sym split.2) meets);
      anchor = (covers.tile, covers.there, covers.anchor);
    }

-- ---- the word along the line
pub labels_are : (cells : List Cell) (y : List ℕ) (g : ℕ → ℕ) (p n : ℕ) → ((i : ℕ) → p ≤ i → i < p + n → g i ≡ label_at (cell_at cells i) (get_or y i 0) + 64)
    → map g (range_with_len p n) ≡ map (λ l. l + 64) (labels cells y p n)
labels_are cells y g p zero h = refl
labels_are cells y g p (suc n) h =
    ap (λ (l : ℕ). l ∷ map g (range_with_len (p + 1) n)) (h p (omega arith) (omega arith))
    ∙ ap (λ (ls : List ℕ). (label_at (cell_at cells p) (get_or y p 0) + 64) ∷ ls) (labels_are cells y g (p + 1) n (λ i low high. h i (omega arith) (omega arith)))

map_range : {X : Type 0} (f g : ℕ → X) (a b n : ℕ) → ((k : ℕ) → k < n → f (a + k) ≡ g (b + k)) → map f (range_with_len a n) ≡ map g (range_with_len b n)
map_range f g a b zero h = refl
map_range f g a b (suc n) h =
    let a0 : a ≡ a + 0 = omega arith in
    let b0 : b + 0 ≡ b = omega arith in
    let here : f a ≡ g b = ap f a0 ∙ h 0 (omega arith) ∙ ap g b0 in
    ap (λ x. x ∷ map f (range_with_len (a + 1) n)) here
    ∙ ap (λ xs. g b ∷ xs)
    (map_range f g (a + 1) (b + 1) n
    (λ k below. let a1 : a + 1 + k ≡ a + suc k = omega arith in let b1 : b + suc k ≡ b + 1 + k = omega arith in ap f a1 ∙ h (suc k) (omega arith) ∙ ap g b1))

pub stretch_letters : (d : Dir) (after : List (Option Tile)) (line first len : ℕ)
    → letters_of after (run_of d line (first, len)) ≡ map (λ i. capital_shown (tile_at after (square_at d line i))) (range_with_len first len)
unfolding letters_of
stretch_letters d after line first len =
    map_range (λ k. capital_shown (tile_at after (along d (square_at d line first) k))) (λ i. capital_shown (tile_at after (square_at d line i))) 0 first len
    (λ k below. let k0 : 0 + k ≡ k = omega arith in ap (λ (j : ℕ). capital_shown (tile_at after (along d (square_at d line first) j))) k0 ∙ ap (λ (s : ℕ). capital_shown (tile_at after s)) (along_at d line first k))

-- the run along the line
pub is_run_through : (d : Dir) (after : List (Option Tile)) (ps : List Placed) (line first len : ℕ) → LiesIn d after ps line first len → (p : Placed) → Contains ps p → p.square < 225
    → IsRunThrough after d p.square (square_at d line first) len
is_run_through d after ps line first len lies p c on =
    let line_is = lies.lines p c in
    let line_on = line_below d p.square on in
    let place_on = place_below d p.square on in
    let low = lies.low p c in
    let high = lies.high p c in
    let same_place : place_of d (square_at d line first) ≡ first = place_of-square_at d line first (omega arith) (omega arith) in
    record {
      same_line = line_of-square_at d line first (omega arith) (omega arith) ∙ sym line_is;
      not_after = omega arith;
      reaches = omega arith;
      whole = subst (λ (k : ℕ). IsWhole (occupied_on d after (line_of d p.square)) k len) (sym same_place) (subst (λ (l : ℕ). IsWhole (occupied_on d after l) first len) (sym line_is) lies.whole);
    }

pub main_run : (d : Dir) (after : List (Option Tile)) (ps : List Placed) (line first len : ℕ) → LiesIn d after ps line first len → (p : Placed) → Contains ps p → p.square < 225 → 2 ≤ len
    → runs_through d after p.square ≡ run_of d line (first, len) ∷ []
main_run d after ps line first len lies p c on long =
    run_through d after p.square (square_at d line first) len on (is_run_through d after ps line first len lies p c on) long

-- ---- the rack
faced_number : (b : Bool) (l : Letter) → number_of (faced b l).kind ≡ (if b then 26 else l.index)
faced_number true l = refl
faced_number false l = refl

abbrev is_kind : ℕ → ℕ → ℕ
is_kind k n = if n == k then 1 else 0

one_used : (square : ℕ) (t : Tile) (k : ℕ) → used (placed_on square (Some t)) k ≡ is_kind k (number_of t.kind)
one_used square t k = omega arith

entry_used : (e k : ℕ) (square : ℕ) → (e ≢ 0 → e < 53) → used (placed_on square (tile_of_entry e)) k ≡ (if e == 0 then 0 else is_kind k (kind_of_entry e))
entry_used e k square low =
    ⊎_elim
    (λ (z : e ≡ 0).
    let zero : (e == 0) ≡ true = eq-eqb e 0 z in
    ap (λ (n : ℕ). used (placed_on square (tile_of_entry n)) k) z ∙ sym (ap (λ (b : Bool). if b then 0 else is_kind k (kind_of_entry e)) zero))
    (λ (some : e ≡ 0 → ⊥).
    let not_zero : (e == 0) ≡ false = ne_eqb e 0 some in
    let t = tiled e some (low some) in
    let tile : Tile = faced (is_blank_entry e) t.letter in
    let number : number_of tile.kind ≡ kind_of_entry e = faced_number (is_blank_entry e) t.letter ∙ ap (λ (n : ℕ). if is_blank_entry e then 26 else n) t.index in
    ap (λ (o : Option Tile). used (placed_on square o) k) t.is ∙ one_used square tile k ∙ ap (is_kind k) number
    ∙ sym (ap (λ (b : Bool). if b then 0 else is_kind k (kind_of_entry e)) not_zero))
    (cases_eq e 0)

uses-cons : (k e : ℕ) (os : List ℕ) → uses k (e ∷ os) ≡ (if e == 0 then 0 else is_kind k (kind_of_entry e)) + uses k os
uses-cons k e os =
    ⊎_elim
    (λ (z : (e == 0) ≡ true). rw z (omega arith))
    (λ (s : (e == 0) ≡ false). rw s refl)
    (cases_Bool (e == 0))

pub used-put : (d : Dir) (line : ℕ) (f : ℕ → ℕ) (a n k : ℕ) → ((i : ℕ) → a ≤ i → i < a + n → f i ≢ 0 → f i < 53)
    → used (put_from d line (λ i. tile_of_entry (f i)) a n) k ≡ uses k (map f (range_with_len a n))
used-put d line f a zero k low = refl
used-put d line f a (suc n) k low =
    let tile = λ (i : ℕ). tile_of_entry (f i) in
    let rest = put_from d line tile (a + 1) n in
    let split : used (placed_on (square_at d line a) (tile a) ++ rest) k ≡ used (placed_on (square_at d line a) (tile a)) k + used rest k =
    sum_by-append (λ (p : Placed). if number_of p.tile.kind == k then 1 else 0) (placed_on (square_at d line a) (tile a)) rest in
    let here = entry_used (f a) k (square_at d line a) (low a (omega arith) (omega arith)) in
    let more = used-put d line f (a + 1) n k (λ i from upto. low i (omega arith) (omega arith)) in
    split ∙ ap (λ (m : ℕ). m + used rest k) here ∙ ap (λ (m : ℕ). (if f a == 0 then 0 else is_kind k (kind_of_entry (f a))) + m) more
    ∙ sym (uses-cons k (f a) (map f (range_with_len (a + 1) n)))

pub entries_by_place : (y : List ℕ) → length y ≡ 15 → map (λ i. get_or y i 0) (range_with_len 0 15) ≡ y
entries_by_place y size = sym (fill_by_all (λ i. get_or y i 0) y 15 0 size (λ k below. refl))
