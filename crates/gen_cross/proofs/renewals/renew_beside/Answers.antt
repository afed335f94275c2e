use Rattle.std.proofs.Common.{◌∙◌, arith, get_or}
use Rattle.gen_cross.specs.Values.{no_value}
use Rattle.gen_cross.proofs.Renewing.{value_stays}
use Rattle.gen_cross.proofs.renewals.renew_beside.Goals as goal

pub returns-clause-near : goal.returns-clause-near
returns-clause-near g c =
    λ words before s stands size below same is.
    c.renew_value-3.ensures.value words stands s below
    (λ not_high. c.renew_value-2.ensures.value words stands s below
    (λ not_low. c.renew_value.ensures.value words stands s below
    (λ ne. value_stays c.args.rules.now words c.args.dir before c.args.board.now c.args.square (size ∙ c.law_of_squares.ensures) c.law_of_squares.ensures c.place-place.ensures.on_board
    c.other-across.result c.line-line.result c.place-place.result c.first_of_run.result c.end_of_run.result c.saturating_sub-low.result c.min-high.result
    c.on_line.result c.on_line-2.result c.other-across.ensures c.line-line.ensures.line c.place-place.ensures.place c.first_of_run.ensures c.end_of_run.ensures
    (λ some. omega arith) (λ more. omega arith) c.on_line.ensures c.on_line-2.ensures
    s below same ne not_low not_high (get_or c.args.values.now s no_value) is)))
