use Rattle.std.proofs.Common.{◌≡◌, ◌<◌, length, get_or, ℕ, List, []}
use Rattle.gen_cross.specs.Values.{HasMasks}
use Rattle.gen_moves.specs.BoardLines.{IsLineOf}
use Rattle.gen_moves.proofs.lines.all_cells.Given as goal

-- each line passed has its cells
abbrev pub invariant-loop-line : goal.invariant-loop-line
invariant-loop-line l = record {
  size : length l.lines ≡ 15;
  passed : (words : List (List ℕ)) → HasMasks words l.board l.cross → (k : ℕ) → k < l.line → IsLineOf words l.dir l.board k (get_or l.lines k []);
}
