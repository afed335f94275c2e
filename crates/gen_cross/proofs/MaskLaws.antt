-- The letters whose paths a lexicon has at an empty square are those that make listed words across a play.
use Rattle.std.proofs.Common.{◌≡◌, ◌↔◌, ℕ, zero, suc, ◌+◌, ◌-◌, ◌<◌, ◌≤◌, Bool, true, false, List, [], ◌∷◌, ◌++◌, length, map, get_or, All, refl, sym, ap, subst, ◌∙◌, arith, Option, Some, None, is_some}
use Rattle.std.specs.Prelude.{Contains}
use Rattle.std.specs.List.{range_with_len}
use Rattle.std.proofs.lemmas.Bool.{both_ways}
use Rattle.std.proofs.lemmas.List.{get_or-set_same, get_or-set_other}
use Rattle.std.proofs.lemmas.List.Elements.{All-head, All-nil}
use Rattle.ref_tiles.specs.declared.tiles.Tile.{Tile}
use Rattle.ref_tiles.specs.Faces.{letter_tile}
use Rattle.ref_board.specs.declared.directions.Dir.{Dir}
use Rattle.ref_board.specs.declared.directions.Dir.TheVariants.{Across, Down}
use Rattle.ref_board.specs.Lines.{line_of, place_of, square_at, other_dir}
use Rattle.ref_board.specs.Cells.{tile_at, with_tile}
use Rattle.ref_board.specs.Runs.{IsRunThrough}
use Rattle.lex_list.specs.RotatedPaths.{letter_of, StandsFor}
use Rattle.lex_list.specs.Words.{is_listed}
use Rattle.lex_list.proofs.Orders.{listed_from_member, member_from_listed}
use Rattle.ref_play.specs.declared.runs.Run.{Run}
use Rattle.ref_play.specs.Formed.{along}
use Rattle.ref_play.specs.Words.{capital_shown, letters_of}
use Rattle.ref_play.specs.Crosses.{cross_words}
use Rattle.ref_play.proofs.LineLaws.{place_of-square_at, square_at-of, line_below}
use Rattle.ref_play.proofs.FormedRuns.{run_through, no_run_through}
use Rattle.gen_cross.specs.Values.{IsMask}
use Rattle.gen_cross.specs.CrossRuns.{IsRunWith}
use Rattle.gen_cross.specs.Paths.{label_of_tile, label_on, down, labels_down}
use Rattle.gen_cross.proofs.Backwards.{down_agree, down_parts, down_listed}

-- the labels after a place, up to just before `end`, then a new one, then those before the place, down to `first`
abbrev pub path_at : List (Option Tile) → Dir → ℕ → ℕ → ℕ → ℕ → ℕ → List ℕ
path_at board d line first place end label =
    labels_down board d line (place + 1) (end - (place + 1)) ++ label ∷ labels_down board d line first (place - first)

pub along_place : (d : Dir) (start k : ℕ) → along d start k ≡ square_at d (line_of d start) (place_of d start + k)
along_place Across start k = omega arith
along_place Down start k = omega arith

-- the square of a tile, with it and without it
pub with_there : (board : List (Option Tile)) (square : ℕ) (t : Tile) → square < length board → tile_at (with_tile board square (Some t)) square ≡ Some t
with_there board square t h = get_or-set_same board square (Some t) None h

pub with_elsewhere : (board : List (Option Tile)) (d : Dir) (square : ℕ) (t : Tile) (place : ℕ) → square < 225 → place < 15 → (place ≡ place_of d square → ⊥)
    → tile_at (with_tile board square (Some t)) (square_at d (line_of d square) place) ≡ tile_at board (square_at d (line_of d square) place)
with_elsewhere board d square t place on below ne =
    get_or-set_other board square (square_at d (line_of d square) place) (Some t) None
    (λ (e : square_at d (line_of d square) place ≡ square). ne (sym (place_of-square_at d (line_of d square) place (line_below d square on) below) ∙ ap (place_of d) e))

-- the label of a capital, and the capital of a label
spelt : (cell : Option Tile) → is_some cell ≡ true → letter_of (label_of_tile cell) ≡ capital_shown cell
spelt None e = absurd (both_ways false refl e)
spelt (Some t) e = omega arith

above_mark : (cell : Option Tile) → is_some cell ≡ true → 0 < label_of_tile cell
above_mark None e = absurd (both_ways false refl e)
above_mark (Some t) e = omega arith

both : (g f : ℕ → ℕ) (xs : List ℕ) → map g (map f xs) ≡ map (λ x. g (f x)) xs
both g f [] = refl
both g f (x ∷ xs) = ap (λ ys. g (f x) ∷ ys) (both g f xs)

map_range_agree : {X : Type 0} (f g : ℕ → X) (a b n : ℕ) → ((k : ℕ) → k < n → f (a + k) ≡ g (b + k)) → map f (range_with_len a n) ≡ map g (range_with_len b n)
map_range_agree f g a b zero h = refl
map_range_agree f g a b (suc n) h =
    let za : a ≡ a + 0 = omega arith in
    let zb : b + 0 ≡ b = omega arith in
    let here = ap f za ∙ h 0 (omega arith) ∙ ap g zb in
    let rest = map_range_agree f g (a + 1) (b + 1) n
    (λ k below.
    let ea : a + 1 + k ≡ a + suc k = omega arith in
    let eb : b + suc k ≡ b + 1 + k = omega arith in
    ap f ea ∙ h (suc k) (omega arith) ∙ ap g eb) in
    cc

-- the path of a letter at an empty square is that of the whole run, read backwards, once the tile lies there
path_whole : (board : List (Option Tile)) (e : Dir) (square : ℕ) (t : Tile) (first len : ℕ) → length board ≡ 225 → square < 225
    → first ≤ place_of e square → place_of e square < first + len → first + len ≤ 15
    → path_at board e (line_of e square) first (place_of e square) (first + len) (t.shown.index + 1)
    ≡ down (λ place. label_on (with_tile board square (Some t)) (square_at e (line_of e square) place)) first len
unfolding labels_down
path_whole board e square t first len size on low high inside =
    let line = line_of e square in
    let place = place_of e square in
    let f : ℕ → ℕ = λ i. label_on (with_tile board square (Some t)) (square_at e line i) in
    let g : ℕ → ℕ = λ i. label_on board (square_at e line i) in
    let same : (i : ℕ) → i < 15 → (i ≡ place → ⊥) → g i ≡ f i = λ i below ne. ap label_of_tile (sym (with_elsewhere board e square t i on below ne)) in
    let here : t.shown.index + 1 ≡ f place = ap label_of_tile (sym (with_there board square t (omega arith)) ∙ ap (tile_at (with_tile board square (Some t))) (sym (square_at-of e square))) in
    let before = down_agree g f first (place - first) (λ i l h. same i (omega arith) (λ s. absurd (omega arith))) in
    let following = down_agree g f (place + 1) (first + len - (place + 1)) (λ i l h. same i (omega arith) (λ s. absurd (omega arith))) in
    let at : place ≡ first + (place - first) = omega arith in
    let start : place + 1 ≡ first + (place - first) + 1 = omega arith in
    let whole : place - first + 1 + (first + len - (place + 1)) ≡ len = omega arith in
    ap (λ (x : List ℕ). x ++ (t.shown.index + 1) ∷ down g first (place - first)) following
    ∙ ap (λ (x : List ℕ). down f (place + 1) (first + len - (place + 1)) ++ (t.shown.index + 1) ∷ x) before
    ∙ ap (λ (x : ℕ). down f (place + 1) (first + len - (place + 1)) ++ x ∷ down f first (place - first)) (here ∙ ap f at)
    ∙ ap (λ (x : ℕ). down f x (first + len - (place + 1)) ++ f (first + (place - first)) ∷ down f first (place - first)) start
    ∙ down_parts f first (place - first) (first + len - (place + 1))
    ∙ ap (down f first) whole

-- the word of a run through an empty square, once a tile lies there, and the path that spells it
word_listed : (words : List (List ℕ)) (language : List ℕ → Bool) → StandsFor language words → (e : Dir) (board : List (Option Tile)) (square start len : ℕ) (t : Tile)
    → length board ≡ 225 → square < 225 → IsRunThrough (with_tile board square (Some t)) e square start len
    → language (path_at board e (line_of e square) (place_of e start) (place_of e square) (place_of e start + len) (t.shown.index + 1))
    ≡ is_listed words (letters_of (with_tile board square (Some t)) (record { start = start; dir = e; len = len }))
unfolding letters_of
word_listed words language stands e board square start len t size on run =
    let low = run.not_after in
    let high = run.reaches in
    let inside = run.whole.inside in
    let line = line_of e square in
    let first = place_of e start in
    let after = with_tile board square (Some t) in
    let f : ℕ → ℕ = λ i. label_on after (square_at e line i) in
    ap language (path_whole board e square t first len size on low high inside)
    ∙ down_listed words language stands f first len (omega arith) (λ i l h. above_mark (tile_at after (square_at e line i)) (run.whole.filled i l h))
    ∙ ap (is_listed words) (shown (λ i. tile_at after (square_at e line i)) (λ k. tile_at after (along e start k)) first len (λ i l h. run.whole.filled i l h)
    (λ k below. ap (tile_at after) (ap (λ x. square_at e x (first + k)) (sym run.same_line) ∙ sym (along_place e start k))))
  where
    shown : (a b : ℕ → Option Tile) (first len : ℕ) → ((i : ℕ) → first ≤ i → i < first + len → is_some (a i) ≡ true) → ((k : ℕ) → k < len → a (first + k) ≡ b k)
        → map letter_of (map (λ i. label_of_tile (a i)) (range_with_len first len)) ≡ map (λ k. capital_shown (b k)) (range_with_len 0 len)
    shown a b first len there same =
        both letter_of (λ i. label_of_tile (a i)) (range_with_len first len)
        ∙ map_range_agree (λ i. letter_of (label_of_tile (a i))) (λ k. capital_shown (b k)) first 0 len
        (λ k below. let zero : 0 + k ≡ k = omega arith in spelt (a (first + k)) (there (first + k) (omega arith) (omega arith)) ∙ ap capital_shown (same k below) ∙ ap (λ x. capital_shown (b x)) (sym zero))

single : (words : List (List ℕ)) (word : List ℕ) (b : Bool) → b ≡ is_listed words word → (b ≡ true) ↔ All (Contains words) (word ∷ [])
single words word b e = (
  (λ yes. one words word (member_from_listed words word (sym e ∙ yes))),
  (λ all. e ∙ listed_from_member words word (All-head (Contains words) word [] all)),
)
  where
    one : (words : List (List ℕ)) (word : List ℕ) → Contains words word → All (Contains words) (word ∷ [])
    one words word c zero d below = c
    one words word c (suc k) d below = absurd (omega arith)

-- the mask of an empty square with a run through it
pub mask_long : (words : List (List ℕ)) (language : List ℕ → Bool) → StandsFor language words → (d : Dir) (board : List (Option Tile)) (square : ℕ) (run : Run) → run.dir ≡ other_dir d
    → IsRunWith board square run → 2 ≤ run.len → (mask : List Bool)
    → ((k : ℕ) → k < 26 → get_or mask k false
    ≡ language (path_at board run.dir (line_of run.dir square) (place_of run.dir run.start) (place_of run.dir square) (place_of run.dir run.start + run.len) (k + 1)))
    → IsMask words d board square mask
mask_long words language stands d board square run is there long mask letters l =
    let t = letter_tile l in
    let below = l.in_range in
    let after = with_tile board square (Some t) in
    subst (λ (x : Dir). (get_or mask l.index false ≡ true) ↔ All (Contains words) (cross_words x board square t)) is
    (subst (λ (x : List Run). (get_or mask l.index false ≡ true) ↔ All (Contains words) (map (letters_of after) x))
    (sym (run_through run.dir after square run.start run.len there.on_board (there.through t) long))
    (single words (letters_of after run) (get_or mask l.index false)
    (letters l.index (omega arith) ∙ word_listed words language stands run.dir board square run.start run.len t there.size there.on_board (there.through t))))

-- the same with other names for the line and the places
pub mask_walked : (words : List (List ℕ)) (language : List ℕ → Bool) → StandsFor language words → (d : Dir) (board : List (Option Tile)) (square : ℕ) (run : Run) → run.dir ≡ other_dir d
    → IsRunWith board square run → 2 ≤ run.len → (mask : List Bool) (line place first : ℕ) → line ≡ line_of run.dir square → place ≡ place_of run.dir square → first ≡ place_of run.dir run.start
    → ((k : ℕ) → k < 26 → get_or mask k false ≡ language (path_at board run.dir line first place (first + run.len) (k + 1)))
    → IsMask words d board square mask
mask_walked words language stands d board square run is there long mask line place first same_line same_place same_first letters =
    mask_long words language stands d board square run is there long mask
    (λ k below.
    letters k below
    ∙ ap (λ (x : ℕ). language (path_at board run.dir x first place (first + run.len) (k + 1))) same_line
    ∙ ap (λ (x : ℕ). language (path_at board run.dir (line_of run.dir square) first x (first + run.len) (k + 1))) same_place
    ∙ ap (λ (x : ℕ). language (path_at board run.dir (line_of run.dir square) x (place_of run.dir square) (x + run.len) (k + 1))) same_first)

-- the mask of an empty square without a run through it
pub mask_short : (words : List (List ℕ)) (d : Dir) (board : List (Option Tile)) (square : ℕ) (run : Run) → run.dir ≡ other_dir d
    → IsRunWith board square run → run.len < 2 → (mask : List Bool) → ((k : ℕ) → k < 26 → get_or mask k false ≡ true)
    → IsMask words d board square mask
mask_short words d board square run is there short mask full l =
    let t = letter_tile l in
    let below = l.in_range in
    let after = with_tile board square (Some t) in
    subst (λ (x : Dir). (get_or mask l.index false ≡ true) ↔ All (Contains words) (cross_words x board square t)) is
    (subst (λ (x : List Run). (get_or mask l.index false ≡ true) ↔ All (Contains words) (map (letters_of after) x))
    (sym (no_run_through run.dir after square run.start run.len (there.through t) short))
    ((λ yes. All-nil (Contains words)), (λ all. full l.index (omega arith))))
