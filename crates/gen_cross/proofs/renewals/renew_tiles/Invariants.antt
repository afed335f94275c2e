use Rattle.std.proofs.Common.{◌<◌, ℕ, List, Option, drop, get_or}
use Rattle.ref_tiles.specs.declared.tiles.Tile.{Tile}
use Rattle.lex_list.specs.RotatedPaths.{StandsFor}
use Rattle.gen_cross.specs.Values.{no_value, AreValues}
use Rattle.gen_cross.specs.Changes.{DifferOn}
use Rattle.gen_cross.proofs.PlayTiles.{IsRenewed}
use Rattle.gen_cross.proofs.renewals.renew_tiles.Given as goal

-- only values across the tiles that are left may be those of the board before
abbrev pub invariant-loop-placed : goal.invariant-loop-placed
invariant-loop-placed g l =
    (words : List (List ℕ)) (before : List (Option Tile)) → StandsFor (g.L.PathLex.language l.lex) words → DifferOn l.tiles before l.board
    → AreValues l.rules words l.dir before l.initial.values
    → (s : ℕ) → s < 225 → IsRenewed l.rules words l.dir before l.board (drop l.placed-index l.tiles) s (get_or l.values s no_value)
