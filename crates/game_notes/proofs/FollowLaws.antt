-- Cross-sets that are updated for a play are right for the board with its tiles, and without them.
use Rattle.std.proofs.Common.{◌≡◌, ℕ, List, [], ◌∷◌, length, Option, Some, None, refl, sym, ap, ◌∙◌}
use Rattle.std.proofs.lemmas.List.{length-set}
use Rattle.ref_tiles.specs.declared.tiles.Tile.{Tile}
use Rattle.ref_tiles.specs.declared.rulebook.Rules.{Rules}
use Rattle.ref_board.specs.Cells.{tile_at, with_tile}
use Rattle.ref_play.specs.declared.placed.Placed.{Placed}
use Rattle.ref_play.specs.Placements.{with_tiles, without_tiles}
use Rattle.ref_play.proofs.Taking.{with-kept, without_empties}
use Rattle.lex_list.specs.RotatedPaths.{StandsFor}
use Rattle.lex_file.specs.Languages.{language_of}
use Rattle.lex_check.specs.Checks.{IsAgreed}
use Rattle.gen_cross.specs.declared.crosses.Cross.{Cross}
use Rattle.gen_cross.specs.Values.{IsRight}
use Rattle.gen_cross.specs.Changes.{DifferOn}

-- a board keeps its size
put_size : (ps : List Placed) (board : List (Option Tile)) → length board ≡ length (with_tiles board ps)
put_size [] board = refl
put_size (p ∷ ps) board = sym (length-set board p.square (Some p.tile)) ∙ put_size ps (with_tile board p.square (Some p.tile))

lift_size : (ps : List Placed) (board : List (Option Tile)) → length board ≡ length (without_tiles board ps)
lift_size [] board = refl
lift_size (p ∷ ps) board = sym (length-set board p.square None) ∙ lift_size ps (with_tile board p.square None)

-- what a call promises that updates the cross-sets for a play
abbrev BringsUp : Rules → List ℕ → List Placed → List (Option Tile) → Cross → Cross → Type 0
BringsUp rules bytes ps after old new =
    (words : List (List ℕ)) (before : List (Option Tile)) → StandsFor (language_of bytes) words → DifferOn ps before after → IsRight rules words before old → IsRight rules words after new

pub put_is_right : (rules : Rules) (words : List (List ℕ)) (bytes : List ℕ) (before after : List (Option Tile)) (ps : List Placed) (old new : Cross)
    → IsAgreed words bytes → after ≡ with_tiles before ps → IsRight rules words before old → BringsUp rules bytes ps after old new
    → IsRight rules words after new
put_is_right rules words bytes before after ps old new agreed put right brings =
    brings words before agreed.paths
    (record { size = put_size ps before ∙ sym (ap length put); same = λ square off. sym (ap (λ (b : List (Option Tile)). tile_at b square) put ∙ with-kept ps before square off) }) right

pub lift_is_right : (rules : Rules) (words : List (List ℕ)) (bytes : List ℕ) (before after : List (Option Tile)) (ps : List Placed) (old new : Cross)
    → IsAgreed words bytes → after ≡ without_tiles before ps → IsRight rules words before old → BringsUp rules bytes ps after old new
    → IsRight rules words after new
lift_is_right rules words bytes before after ps old new agreed off right brings =
    brings words before agreed.paths
    (record { size = lift_size ps before ∙ sym (ap length off); same = λ square free. sym (ap (λ (b : List (Option Tile)). tile_at b square) off ∙ (without_empties before ps).kept square free) }) right
