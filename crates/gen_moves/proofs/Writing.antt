-- The tiles of entries, one by one, and whether a play is written along its direction.
use Rattle.std.proofs.Common.{◌≡◌, ℕ, suc, ◌+◌, ◌-◌, ◌%◌, ◌<◌, ◌≤◌, ◌==◌, ◌&&◌, Bool, true, false, List, [], ◌∷◌, ◌++◌, length, refl, sym, ap, ◌∙◌, arith, append-nil, Option, Some, None}
use Rattle.std.specs.List.{flat_map, range_with_len}
use Rattle.std.proofs.lemmas.List.Concat.{flat_map-append}
use Rattle.std.specs.Prelude.{◌↔◌}
use Rattle.std.proofs.lemmas.Bool.{le-leb, ne_eqb, eq-eqb, false_from_ne_true}
use Rattle.ref_tiles.specs.declared.letters.Letter.{Letter}
use Rattle.ref_tiles.specs.Letters.{letter_at}
use Rattle.ref_tiles.specs.Faces.{blank_tile}
use Rattle.gen_line.specs.Entries.{letter_of_entry, is_blank_entry}
use Rattle.gen_moves.specs.LineTiles.{faced, tile_of_entry}
use Rattle.ref_tiles.specs.declared.tiles.Tile.{Tile}
use Rattle.ref_board.specs.declared.directions.Dir.{Dir}
use Rattle.ref_board.specs.declared.directions.Dir.TheVariants.{Across, Down}
use Rattle.ref_board.specs.Lines.{square_at}
use Rattle.ref_play.specs.declared.placed.Placed.{Placed}
use Rattle.ref_play.specs.Legality.{IsLegal}
use Rattle.ref_play.specs.Texts.{placed_on}
use Rattle.ref_play.specs.Directions.{direction_of, same_dir, is_wanted, RunsAlong}
use Rattle.ref_play.specs.Notations.{Written, notation_of}
use Rattle.ref_play.proofs.Ranges.{range_push}
use Rattle.ref_play.proofs.Wanting.{wanted_across, wanted_down}
use Rattle.ref_play.proofs.Naming.{notation_direction}
use Rattle.gen_moves.proofs.Entering.{put_from}

-- the tile of an entry that stands for a blank
pub entry_blank : (e : ℕ) (l : Letter) (t : Tile) → (e ≡ 0 → ⊥) → (e - 1) % 2 ≡ 1 → letter_at (letter_of_entry e) ≡ Some l → t ≡ blank_tile l → Some t ≡ tile_of_entry e
entry_blank e l t some odd letter is =
    let here : (e == 0) ≡ false = ne_eqb e 0 some in
    let blank : is_blank_entry e ≡ true = eq-eqb ((e - 1) % 2) 1 odd in
    let tile : tile_of_entry e ≡ Some (blank_tile l) = rw here (rw letter (ap (λ (b : Bool). Some (faced b l)) blank)) in
    ap Some is ∙ sym tile

-- one more place
pub put_more : (d : Dir) (line : ℕ) (f : ℕ → Option Tile) (n : ℕ) → put_from d line f 0 (n + 1) ≡ put_from d line f 0 n ++ placed_on (square_at d line n) (f n)
put_more d line f n =
    let g : ℕ → List Placed = λ i. placed_on (square_at d line i) (f i) in
    let next : n + 1 ≡ suc n = omega arith in
    let last : 0 + n ≡ n = omega arith in
    ap (λ (k : ℕ). flat_map g (range_with_len 0 k)) next ∙ ap (flat_map g) (range_push 0 n) ∙ flat_map-append g (range_with_len 0 n) ((0 + n) ∷ [])
    ∙ ap (λ (ps : List Placed). flat_map g (range_with_len 0 n) ++ ps) (append-nil (g (0 + n)) ∙ ap g last)

-- with and without a tile there
pub put_some : (d : Dir) (line : ℕ) (f : ℕ → Option Tile) (n : ℕ) (ps : List Placed) (p : Placed) → ps ≡ put_from d line f 0 n → f n ≡ Some p.tile → p.square ≡ square_at d line n
    → ps ++ p ∷ [] ≡ put_from d line f 0 (n + 1)
put_some d line f n ps p is tile square =
    ap (λ (qs : List Placed). qs ++ p ∷ []) is
    ∙ sym (put_more d line f n ∙ ap (λ (qs : List Placed). put_from d line f 0 n ++ qs) (ap (λ (o : Option Tile). placed_on (square_at d line n) o) tile ∙ ap (λ (s : ℕ). placed_on s (Some p.tile)) (sym square)))

pub put_none : (d : Dir) (line : ℕ) (f : ℕ → Option Tile) (n : ℕ) (ps : List Placed) → ps ≡ put_from d line f 0 n → f n ≡ None → ps ≡ put_from d line f 0 (n + 1)
put_none d line f n ps is none =
    is ∙ sym (put_more d line f n ∙ ap (λ (o : Option Tile). put_from d line f 0 n ++ placed_on (square_at d line n) o) none ∙ append-nil (put_from d line f 0 n))

-- more than one tile is written along its line
pub count_wanted : (d : Dir) (board : List (Option Tile)) (ps : List Placed) → RunsAlong d board ps → length ps ≤ 7 → 1 < length ps → is_wanted board d ps ≡ true
count_wanted Across board ps runs few many = wanted_across board ps runs few
count_wanted Down board [] runs few many = absurd (omega arith)
count_wanted Down board (p ∷ []) runs few many = absurd (omega arith)
count_wanted Down board (p ∷ q ∷ ps) runs few many = wanted_down board p q ps runs few

-- and a play is written so if its notation is
pub wanted_as_written : (d : Dir) (board : List (Option Tile)) (ps : List Placed) (n : Written) → length board ≡ 225 → IsLegal board ps → RunsAlong d board ps → length ps ≤ 7
    → n ≡ notation_of board ps → is_wanted board d ps ≡ same_dir n.dir d
wanted_as_written d board ps n size legal runs few is =
    let dir : n.dir ≡ direction_of board ps = ap (λ (w : Written). w.dir) is ∙ notation_direction d board ps size runs.play legal in
    ap (λ (b : Bool). same_dir (direction_of board ps) d && b) (le-leb (length ps) 7 few)
    ∙ and_true (same_dir (direction_of board ps) d) ∙ ap (λ (e : Dir). same_dir e d) (sym dir)
  where
    and_true : (b : Bool) → (b && true) ≡ b
    and_true true = refl
    and_true false = refl

-- the test of two directions
pub same_dir-is : (a b : Dir) (r : Bool) → (r ≡ true) ↔ (a ≡ b) → r ≡ same_dir a b
same_dir-is Across Across r is = is.1 refl
same_dir-is Down Down r is = is.1 refl
same_dir-is Across Down r is = false_from_ne_true r (λ t. let e = is.0 t in cc)
same_dir-is Down Across r is = false_from_ne_true r (λ t. let e = is.0 t in cc)
