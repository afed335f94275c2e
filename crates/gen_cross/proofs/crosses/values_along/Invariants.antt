use Rattle.std.proofs.Common.{◌≡◌, ◌<◌, ℕ, List, length, get_or}
use Rattle.lex_list.specs.RotatedPaths.{StandsFor}
use Rattle.gen_cross.specs.Values.{no_value, IsValue}
use Rattle.gen_cross.proofs.crosses.values_along.Given as goal

-- each square passed has its value
abbrev pub invariant-loop-number : goal.invariant-loop-number
invariant-loop-number g l =
    record {
      size : length l.values ≡ 225;
      passed : (words : List (List ℕ)) → StandsFor (g.L.PathLex.language l.lex) words → (k : ℕ) → k < l.number → IsValue l.rules words l.dir l.board k (get_or l.values k no_value);
    }
