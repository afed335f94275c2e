use Rattle.std.proofs.Common.{sym, ◌∙◌}
use Rattle.game_turns.specs.Machines.{state_of}
use Rattle.explain_facts.proofs.FaultFactLaws.{count_on_board}
use Rattle.explain_facts.proofs.play_faults.too_many.Goals as goal

pub returns-in_err-tiles-clause-named : goal.returns-in_err-tiles-clause-named
returns-in_err-tiles-clause-named c =
    absurd (count_on_board (state_of c.args.scene.now.machine.now).board c.board.result.now c.args.dir c.args.at c.args.word.now c.board.ensures c.requires.fails (sym c.new_tiles.ensures ∙ c.in_err-tiles.was))
