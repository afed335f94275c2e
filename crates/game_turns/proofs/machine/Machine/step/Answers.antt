use Rattle.std.proofs.Common.{refl}
use Rattle.game_turns.proofs.machine.Machine.step.Goals as goal

pub returns-then-is_interrupted-clause-refused : goal.returns-then-is_interrupted-clause-refused
returns-then-is_interrupted-clause-refused c = refl
