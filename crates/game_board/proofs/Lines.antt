-- Appending one more text or number.
use Rattle.std.proofs.Common.{◌≡◌, ℕ, suc, ◌+◌, List, [], ◌∷◌, ◌++◌, Option, refl, sym, ap, ◌∙◌, arith}
use Rattle.std.specs.List.{flat_map, range_with_len}
use Rattle.std.proofs.lemmas.List.{append-nil, append_assoc}
use Rattle.std.proofs.lemmas.List.Concat.{flat_map-append}
use Rattle.ref_tiles.specs.declared.tiles.Tile.{Tile}
use Rattle.ref_tiles.specs.declared.rulebook.Rules.{Rules}
use Rattle.ref_play.proofs.Ranges.{range_push}
use Rattle.ref_play.proofs.ScoreLemmas.{sum_range_more}
use Rattle.game_board.specs.Texts.{cell_text, cells_text, row_line, rows_text, kind_text, kinds_text}
use Rattle.game_board.specs.Tiles.{off_board, all_off}

-- ---- texts that are appended one after another

-- one more
pub longer : (t a b c old new : List ℕ) → c ≡ a ++ b → old ≡ t ++ a → new ≡ old ++ b → new ≡ t ++ c
longer t a b c old new more before now = now ∙ ap (λ s. s ++ b) before ∙ append_assoc t a b ∙ ap (λ s. t ++ s) (sym more)

-- none yet
pub none_yet : (t c : List ℕ) → c ≡ [] → t ≡ t ++ c
none_yet t c none = sym (ap (λ s. t ++ s) none ∙ append-nil t)

pub two : (t a b x y : List ℕ) → x ≡ t ++ a → y ≡ x ++ b → y ≡ t ++ (a ++ b)
two t a b x y first second = second ∙ ap (λ s. s ++ b) first ∙ append_assoc t a b

pub three : (t a b c x y z : List ℕ) → x ≡ t ++ a → y ≡ x ++ b → z ≡ y ++ c → z ≡ t ++ ((a ++ b) ++ c)
three t a b c x y z first second third = two t (a ++ b) c y z (two t a b x y first second) third

pub four : (t a b c d w x y z : List ℕ) → w ≡ t ++ a → x ≡ w ++ b → y ≡ x ++ c → z ≡ y ++ d → z ≡ t ++ (((a ++ b) ++ c) ++ d)
four t a b c d w x y z first second third fourth = two t ((a ++ b) ++ c) d y z (three t a b c w x y first second third) fourth

pub five : (t a b c d e v w x y z : List ℕ) → v ≡ t ++ a → w ≡ v ++ b → x ≡ w ++ c → y ≡ x ++ d → z ≡ y ++ e → z ≡ t ++ ((((a ++ b) ++ c) ++ d) ++ e)
five t a b c d e v w x y z first second third fourth fifth = two t (((a ++ b) ++ c) ++ d) e y z (four t a b c d v w x y first second third fourth) fifth

-- one more text after those of successive numbers
pub flat_more : (f : ℕ → List ℕ) (first many : ℕ) → flat_map f (range_with_len first (many + 1)) ≡ flat_map f (range_with_len first many) ++ f (first + many)
flat_more f first many =
    let next : many + 1 ≡ suc many = omega arith in
    ap (λ k. flat_map f (range_with_len first k)) next ∙ ap (flat_map f) (range_push first many)
    ∙ flat_map-append f (range_with_len first many) ((first + many) ∷ [])
    ∙ ap (λ t. flat_map f (range_with_len first many) ++ t) (append-nil (f (first + many)))

pub cells_none : (rules : Rules) (board : List (Option Tile)) (row : ℕ) → cells_text rules board row 0 ≡ []
unfolding cells_text
cells_none rules board row = refl

pub cells_more : (rules : Rules) (board : List (Option Tile)) (row columns : ℕ) → cells_text rules board row (columns + 1) ≡ cells_text rules board row columns ++ cell_text rules board row columns
unfolding cells_text
cells_more rules board row columns =
    let same : 0 + columns ≡ columns = omega arith in
    flat_more (cell_text rules board row) 0 columns ∙ ap (λ k. flat_map (cell_text rules board row) (range_with_len 0 columns) ++ cell_text rules board row k) same

pub rows_none : (rules : Rules) (board : List (Option Tile)) → rows_text rules board 0 ≡ []
unfolding rows_text
rows_none rules board = refl

pub rows_more : (rules : Rules) (board : List (Option Tile)) (rows : ℕ) → rows_text rules board (rows + 1) ≡ rows_text rules board rows ++ row_line rules board rows
unfolding rows_text
rows_more rules board rows =
    let same : 0 + rows ≡ rows = omega arith in
    flat_more (row_line rules board) 0 rows ∙ ap (λ k. flat_map (row_line rules board) (range_with_len 0 rows) ++ row_line rules board k) same

pub kinds_none : (rules : Rules) (board : List (Option Tile)) (first : ℕ) → kinds_text rules board first 0 ≡ []
unfolding kinds_text
kinds_none rules board first = refl

pub kinds_more : (rules : Rules) (board : List (Option Tile)) (first many : ℕ) → kinds_text rules board first (many + 1) ≡ kinds_text rules board first many ++ kind_text rules board (first + many)
unfolding kinds_text
kinds_more rules board first many = flat_more (kind_text rules board) first many

pub off_none : (rules : Rules) (board : List (Option Tile)) → 0 ≡ all_off rules board 0
unfolding all_off
off_none rules board = refl

pub off_more : (rules : Rules) (board : List (Option Tile)) (kinds : ℕ) → all_off rules board (kinds + 1) ≡ all_off rules board kinds + off_board rules board kinds
unfolding all_off
off_more rules board kinds = sum_range_more (off_board rules board) kinds
