use Rattle.std.proofs.Common.{◌≡◌, subst, rules, arith}
use Rattle.gen_cross.specs.Values.{no_value, IsValue}
use Rattle.gen_cross.proofs.Filling.{values_more}
use Rattle.gen_cross.proofs.crosses.values_along.Goals as goal

pub loop-number-preserved : goal.loop-number-preserved
loop-number-preserved g c =
    let here : c.on_line-square.result ≡ c.loop-number.number = omega arith in
    record {
      size = search rules;
      passed = λ words stands.
          values_more (λ k v. IsValue c.args.rules.now words c.args.dir c.args.board.now k v) c.loop-number.values no_value c.value_of.result c.loop-number.number (omega arith)
          (c.loop-number.invariant.passed words stands)
          (subst (λ k. IsValue c.args.rules.now words c.args.dir c.args.board.now k c.value_of.result) here (c.value_of.ensures words stands));
    }

pub returns : goal.returns
returns g c = λ words stands square below. c.loop-number.invariant.passed words stands square (omega arith)
