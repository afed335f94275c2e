use Rattle.std.proofs.Common.{◌≡◌, List, Some, sym, subst}
use Rattle.ref_tiles.specs.declared.symbols.Symbol.{Symbol}
use Rattle.game_turns.specs.Checks.{play_fault}
use Rattle.game_turns.specs.declared.faults.RuleFault.TheVariants as fault
use Rattle.game_turns.specs.Machines.{state_of}
use Rattle.explain_facts.proofs.Beginnings.{goes_on}
use Rattle.explain_facts.proofs.FaultFactLaws.{fault_of_play, no_play, play_refused}
use Rattle.explain_facts.proofs.rule_faults.play_facts.Goals as goal

pub returns-in_default-clause-first : goal.returns-in_default-clause-first
returns-in_default-clause-first c =
    absurd (no_play c.args.scene.now.event.now.kind c.in_default.not-Play (fault_of_play c.args.scene.now.rules.now c.args.scene.now.list.now (state_of c.args.scene.now.machine.now) c.args.scene.now.event.now c.args.fault c.requires.fails))

pub returns-clause-first : goal.returns-clause-first
returns-clause-first c = goes_on (fault.Play c.args.fault) _ _ _ c.in_ok-report_some.ensures.added c.in_ok-facts.ensures.first

pub play_fault_facts-requires-clause-fails : goal.play_fault_facts-requires-clause-fails
play_fault_facts-requires-clause-fails c =
    let scene = c.args.scene.now in
    let s = state_of scene.machine.now in
    subst (λ (word : List Symbol). play_fault s.board c.in-Play.dir c.in-Play.at word ≡ Some c.args.fault) (sym c.as_slice.ensures.symbols)
    (play_refused scene.rules.now scene.list.now s scene.event.now c.in-Play.at c.in-Play.dir c.in-Play.word c.args.fault c.requires.fails c.in-Play.is)
