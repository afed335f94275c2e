-- What a play forms across its line depends only on the board and each new tile.
use Rattle.std.proofs.Common.{◌≡◌, true, false, List, [], ◌∷◌, ◌++◌, map, length, refl, sym, ap, ◌∙◌, arith, ⊎_elim, Option, Some, None}
use Rattle.std.specs.Prelude.{Contains, All}
use Rattle.std.specs.List.{flat_map}
use Rattle.std.proofs.lemmas.List.{get_or-set_same, get_or-set_other, map-append}
use Rattle.std.proofs.lemmas.List.Elements.{All-head, All-tail, All-contains, All-contains_itself}
use Rattle.std.proofs.lemmas.Bool.{cases_eq, false_from_ne_true}
use Rattle.ref_tiles.specs.declared.tiles.Tile.{Tile}
use Rattle.ref_board.specs.declared.directions.Dir.{Dir}
use Rattle.ref_board.specs.Lines.{line_of, square_at, other_dir}
use Rattle.ref_board.specs.Cells.{tile_at, with_tile}
use Rattle.ref_play.specs.declared.placed.Placed.{Placed}
use Rattle.ref_play.specs.declared.runs.Run.{Run}
use Rattle.ref_play.specs.Placements.{is_play, with_tiles, covers}
use Rattle.ref_play.specs.Formed.{runs_through}
use Rattle.ref_play.specs.Words.{letters_of, words_formed}
use Rattle.ref_play.specs.Legality.{HasNoGap}
use Rattle.ref_play.specs.Crosses.{cross_words}
use Rattle.ref_play.proofs.LineLaws.{line_of-square_at, line_below}
use Rattle.ref_play.proofs.PlaceLaws.{is_play-parts, on_board}
use Rattle.ref_play.proofs.FormedRuns.{same_by_lines, covering, laid_from, runs_of_play}
use Rattle.ref_play.proofs.Taking.{with-kept, laid_has}
use Rattle.ref_play.proofs.Laying.{on_same_line}
use Rattle.ref_play.proofs.Agreeing.{AgreeOn, letters_agree}

-- the tile of a placement on its square
pub tile_there : (d : Dir) (board : List (Option Tile)) (ps : List Placed) → length board ≡ 225 → is_play d ps ≡ true → (q : Placed) → Contains ps q
    → tile_at (with_tiles board ps) q.square ≡ Some q.tile
tile_there d board ps size play q c =
    All-contains (λ (r : Placed). tile_at (with_tiles board ps) r.square ≡ Some r.tile) ps q (laid_has d board ps play size) c

-- no two new tiles of a play lie on one cross line
pub one_across : (d : Dir) (ps : List Placed) → is_play d ps ≡ true → (q r : Placed) → Contains ps q → Contains ps r → line_of (other_dir d) r.square ≡ line_of (other_dir d) q.square
    → r.square ≡ q.square
one_across d ps play q r has_q has_r across =
    let parts = is_play-parts d ps play in same_by_lines d r.square q.square (on_same_line d ps r q parts.3 has_r has_q) across

-- on the cross line of a new tile the board has only that tile besides the old ones
pub cross_line_is : (d : Dir) (board : List (Option Tile)) (ps : List Placed) → length board ≡ 225 → is_play d ps ≡ true → (q : Placed) → Contains ps q
    → AgreeOn (other_dir d) (line_of (other_dir d) q.square) (with_tiles board ps) (with_tile board q.square (Some q.tile))
cross_line_is d board ps size play q has_q =
    λ place below.
    let e = other_dir d in
    let line = line_of e q.square in
    let there = square_at e line place in
    let parts = is_play-parts d ps play in
    let on = on_board ps q parts.1 has_q in
    ⊎_elim
    (λ (s : there ≡ q.square).
    ap (tile_at (with_tiles board ps)) s ∙ tile_there d board ps size play q has_q
    ∙ sym (ap (tile_at (with_tile board q.square (Some q.tile))) s ∙ get_or-set_same board q.square (Some q.tile) None (omega arith)))
    (λ (ne : there ≡ q.square → ⊥).
    let free : covers ps there ≡ false =
    false_from_ne_true (covers ps there) (λ t.
    let found = covering ps there t in
    let across : line_of e found.0.square ≡ line = ap (line_of e) found.2 ∙ line_of-square_at e line place (line_below e q.square on) below in
    ne (sym found.2 ∙ one_across d ps play q found.0 has_q found.1 across)) in
    with-kept ps board there free ∙ sym (get_or-set_other board q.square there (Some q.tile) None ne))
    (cases_eq there q.square)

pub map_flat_map : {X A B : Type 0} (f : A → B) (g : X → List A) (xs : List X) → map f (flat_map g xs) ≡ flat_map (λ x. map f (g x)) xs
map_flat_map f g [] = refl
map_flat_map f g (x ∷ xs) = map-append f (g x) (flat_map g xs) ∙ ap (λ ys. map f (g x) ++ ys) (map_flat_map f g xs)

-- a join depends only on the pieces at the elements
pub flat_map_each : {X A : Type 0} (P : X → Type 0) (f g : X → List A) → ((x : X) → P x → f x ≡ g x) → (xs : List X) → All P xs → flat_map f xs ≡ flat_map g xs
flat_map_each P f g h [] all = refl
flat_map_each P f g h (x ∷ xs) all =
    ap (λ ys. ys ++ flat_map f xs) (h x (All-head P x xs all)) ∙ ap (λ ys. g x ++ ys) (flat_map_each P f g h xs (All-tail P x xs all))

-- the words of a play: that of the run through its first tile, and then the cross words of its new tiles
pub words_are : (d : Dir) (board : List (Option Tile)) (p : Placed) (ps : List Placed) → length board ≡ 225 → is_play d (p ∷ ps) ≡ true → HasNoGap (with_tiles board (p ∷ ps)) (p ∷ ps)
    → words_formed d board (p ∷ ps)
    ≡ map (letters_of (with_tiles board (p ∷ ps))) (runs_through d (with_tiles board (p ∷ ps)) p.square)
    ++ flat_map (λ (q : Placed). cross_words (other_dir d) board q.square q.tile) (p ∷ ps)
unfolding words_formed
words_are d board p ps size play no_gap =
    let after = with_tiles board (p ∷ ps) in
    let e = other_dir d in
    let across : Placed → List Run = λ q. runs_through e after q.square in
    let main = runs_through d after p.square in
    ap (map (letters_of after)) (runs_of_play d after p ps (laid_from d board (p ∷ ps) size play no_gap))
    ∙ map-append (letters_of after) main (flat_map across (p ∷ ps))
    ∙ ap (λ ws. map (letters_of after) main ++ ws)
    (map_flat_map (letters_of after) across (p ∷ ps)
    ∙ flat_map_each (Contains (p ∷ ps)) (λ q. map (letters_of after) (across q)) (λ q. cross_words e board q.square q.tile)
    (λ q c. letters_agree e after (with_tile board q.square (Some q.tile)) q.square (cross_line_is d board (p ∷ ps) size play q c))
    (p ∷ ps) (All-contains_itself (p ∷ ps)))
