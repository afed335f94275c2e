use Rattle.std.proofs.Common.{arith}
use Rattle.game_turns.specs.Machines.{state_of}
use Rattle.explain_facts.proofs.FaultFactLaws.{off_the_board}
use Rattle.explain_facts.proofs.play_faults.off_board.Goals as goal

pub returns-then-squares-room-clause-named : goal.returns-then-squares-room-clause-named
returns-then-squares-room-clause-named c =
    let off = off_the_board (state_of c.args.scene.now.machine.now).board c.args.dir c.args.at c.args.word.now c.requires.fails in
    absurd (omega (arith, off))
