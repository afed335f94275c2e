use Rattle.std.proofs.Common.{rules}
use Rattle.gen_line.proofs.walking.LineWalk.offer.Goals as goal

pub returns-then-is_move : goal.returns-then-is_move
returns-then-is_move g c = search rules
