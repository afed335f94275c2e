use Rattle.std.proofs.Common.{length, arith}
use Rattle.game_turns.specs.Machines.{state_of}
use Rattle.explain_facts.proofs.FaultFactLaws.{all_fit, past_text, on_board}
use Rattle.explain_facts.proofs.play_faults.mismatch.Goals as goal

pub returns-in_err-k-clause-named : goal.returns-in_err-k-clause-named
returns-in_err-k-clause-named c =
    absurd (all_fit (state_of c.args.scene.now.machine.now).board c.board-board.result.now c.args.dir c.args.at c.args.word.now c.board-board.ensures c.requires.fails c.in_err-k.ensures)

pub returns-in_err-symbol-clause-named : goal.returns-in_err-symbol-clause-named
returns-in_err-symbol-clause-named c = absurd (past_text c.in_ok-k.k (length c.args.word.now) c.in_ok-k.ensures.1 c.in_err-symbol.ensures.lookup.0)

pub returns-then-end-ge-SIDE-clause-named : goal.returns-then-end-ge-SIDE-clause-named
returns-then-end-ge-SIDE-clause-named c =
    let fits = on_board c.args.dir c.args.at c.args.word.now c.in_ok-k.k c.in_ok-k.ensures.0 c.in_ok-k.ensures.1 in
    absurd (omega (arith, fits))
