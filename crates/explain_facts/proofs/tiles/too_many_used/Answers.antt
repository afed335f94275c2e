use Rattle.std.proofs.Common.{◌≡◌, rules, Some, None, refl}
use Rattle.game_turns.specs.Machines.{state_of}
use Rattle.explain_clues.specs.Texts.{new_tiles}
use Rattle.explain_facts.proofs.Plays.{of_play}
use Rattle.explain_facts.proofs.Because.{more_than_held}
use Rattle.explain_facts.proofs.FaultFactLaws.{used_by_play, used_on_board, no_play}
use Rattle.explain_facts.proofs.tiles.too_many_used.Goals as goal

pub returns-clause-reported : goal.returns-clause-reported
returns-clause-reported c =
    let scene = c.args.scene.now in
    let s = state_of scene.machine.now in
    let e = scene.event.now in
    let many : new_tiles s.board c.in-Play.dir c.in-Play.at c.in-Play.word ≡ Some c.in_ok-used.used = search rules in (
      refl,
      c.rack_size.ensures,
      of_play e.kind c.in-Play.at c.in-Play.dir c.in-Play.word _ c.in-Play.is
          (many, more_than_held scene.rules.now scene.list.now s e c.in-Play.at c.in-Play.dir c.in-Play.word c.in_ok-used.used c.rack_size.result c.requires.fails c.in-Play.is many c.rack_size.ensures),
    )

pub returns-in_err-used-clause-named : goal.returns-in_err-used-clause-named
returns-in_err-used-clause-named c =
    let scene = c.args.scene.now in
    let s = state_of scene.machine.now in
    let none : new_tiles s.board c.in-Play.dir c.in-Play.at c.in-Play.word ≡ None = search rules in
    absurd (used_on_board scene.rules.now scene.list.now s scene.event.now c.in-Play.at c.in-Play.dir c.in-Play.word c.requires.fails c.in-Play.is none)

pub returns-in_default-clause-named : goal.returns-in_default-clause-named
returns-in_default-clause-named c = absurd (no_play c.args.scene.now.event.now.kind c.in_default.not-Play (used_by_play c.args.scene.now.rules.now c.args.scene.now.list.now (state_of c.args.scene.now.machine.now) c.args.scene.now.event.now c.requires.fails))
