use Rattle.std.proofs.Common.{rules}
use Rattle.ref_board.proofs.directions.Dir.other.Goals as goal

pub returns-in-Down : goal.returns-in-Down
returns-in-Down c = search rules
