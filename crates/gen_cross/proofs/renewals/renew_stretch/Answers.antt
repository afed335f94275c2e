use Rattle.std.proofs.Common.{◌-◌, ◌∙◌, arith, get_or}
use Rattle.gen_cross.specs.Values.{no_value}
use Rattle.gen_cross.proofs.Renewing.{value_off, passed_more}
use Rattle.gen_cross.proofs.renewals.renew_stretch.Goals as goal

pub loop-place-preserved : goal.loop-place-preserved
loop-place-preserved g c =
    λ words s stands below kept.
    c.renew_value.ensures.value words stands s below
    (λ ne. c.loop-place.invariant words s stands below
    (λ off. kept (passed_more c.args.stretch.now.dir c.args.stretch.now.line c.saturating_sub-low.result c.loop-place.place c.on_line-square.result s
    (omega arith) (omega arith) c.on_line-square.ensures ne off)))

pub returns : goal.returns
returns g c =
    λ words before s stands size below same is.
    let stretch = c.args.stretch.now in
    c.loop-place.invariant words s stands below
    (λ off. value_off c.args.rules.now words c.args.dir before c.args.board.now (size ∙ c.law_of_squares.ensures) c.law_of_squares.ensures
    stretch.dir stretch.line stretch.first stretch.end (stretch.end - 1) c.first_of_run.result c.end_of_run-end.result c.saturating_sub-low.result c.loop-place.place
    c.requires.across (omega arith) (omega arith) c.first_of_run.ensures c.end_of_run-end.ensures (omega arith) (λ more. omega arith) (λ edge. omega arith)
    s below same off (get_or c.args.values.now s no_value) is)
