use Rattle.std.proofs.Common.{◌++◌, ◌≤◌, ◌<◌, length, sym, ap, ◌∙◌, arith}
use Rattle.std.specs.List.{flat_map}
use Rattle.std.proofs.lemmas.List.{take_all}
use Rattle.ref_board.specs.Lines.{other_dir}
use Rattle.ref_play.specs.Formed.{runs_through}
use Rattle.ref_play.proofs.PlaceLaws.{is_play-few, is_play-parts}
use Rattle.ref_play.proofs.FormedRuns.{runs_at}
use Rattle.ref_play.proofs.runs.runs_of.Goals as goal

pub push_run-requires-clause-room : goal.push_run-requires-clause-room
push_run-requires-clause-room c =
    let few : length c.args.tiles.now ≤ 7 = is_play-few c.args.dir c.args.tiles.now c.requires.play in
    omega arith

pub returns-in_default : goal.returns-in_default
returns-in_default c =
    let some : 0 < length c.args.tiles.now = (is_play-parts c.args.dir c.args.tiles.now c.requires.play).0 in
    let empty = c.in_default.ensures.cases in
    absurd (omega arith)

pub returns : goal.returns
returns c =
    let d = c.args.dir in
    let after = c.args.after.now in
    let tiles = c.args.tiles.now in
    let first = c.in-Some.first.now in
    c.loop-placed.invariant.formed
    ∙ ap (λ qs. c.run_along-runs.result.items ++ flat_map (λ q. runs_through (other_dir d) after q.square) qs) (take_all c.loop-placed.placed-index tiles c.loop-placed-test.false)
    ∙ ap (λ rs. rs ++ flat_map (λ q. runs_through (other_dir d) after q.square) tiles) c.run_along-runs.ensures.run
    ∙ sym (runs_at d after tiles first c.in-Some._rest.now c.in-Some.ensures.cases.0 c.requires)
