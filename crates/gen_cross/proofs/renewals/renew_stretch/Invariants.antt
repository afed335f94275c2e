use Rattle.std.proofs.Common.{◌≡◌, ◌<◌, ◌≤◌, ℕ, List, get_or}
use Rattle.ref_board.specs.Lines.{line_of, place_of}
use Rattle.lex_list.specs.RotatedPaths.{StandsFor}
use Rattle.gen_cross.specs.Values.{no_value, IsValue}
use Rattle.gen_cross.proofs.renewals.renew_stretch.Given as goal

-- a value is right if it was, or if its square is passed
abbrev pub invariant-loop-place : goal.invariant-loop-place
invariant-loop-place g l =
    (words : List (List ℕ)) (s : ℕ) → StandsFor (g.L.PathLex.language l.lex) words → s < 225
    → ((line_of l.stretch.dir s ≡ l.line → l.low ≤ place_of l.stretch.dir s → place_of l.stretch.dir s < l.place → ⊥)
    → IsValue l.rules words l.dir l.board s (get_or l.initial.values s no_value))
    → IsValue l.rules words l.dir l.board s (get_or l.values s no_value)
