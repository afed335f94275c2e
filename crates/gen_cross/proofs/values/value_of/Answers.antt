use Rattle.std.proofs.Common.{◌≡◌, true, false, refl, rules, arith, replicate}
use Rattle.std.proofs.lemmas.List.{get_or-replicate}
use Rattle.ref_board.specs.Lines.{other_dir}
use Rattle.ref_board.specs.Cells.{holds}
use Rattle.gen_cross.specs.declared.crosses.Value.{Value}
use Rattle.gen_cross.proofs.ValueLaws.{value_short, value_long}
use Rattle.gen_cross.proofs.values.value_of.Goals as goal

pub returns-then-run-lt2 : goal.returns-then-run-lt2
returns-then-run-lt2 g c =
    let empty : holds c.args.board.now c.args.square ≡ false = search rules in
    let across : c.run_with-run.result.dir ≡ other_dir c.args.dir = search rules in
    let v : Value = record { mask = replicate 26 true; side = 0 } in
    λ words stands.
    value_short c.args.rules.now words c.args.dir c.args.board.now c.args.square c.run_with-run.result empty across c.run_with-run.ensures.run v
    (omega arith) (λ k below. get_or-replicate 26 k true false below) refl

pub returns : goal.returns
returns g c =
    let empty : holds c.args.board.now c.args.square ≡ false = search rules in
    let across : c.run_with-run.result.dir ≡ other_dir c.args.dir = search rules in
    let v : Value = record { mask = c.mask_of.result; side = c.side_of.result } in
    λ words stands.
    value_long c.args.rules.now words c.args.dir c.args.board.now c.args.square c.run_with-run.result empty across c.run_with-run.ensures.run v
    (omega arith) (c.mask_of.ensures words c.args.dir stands across) c.side_of.ensures
