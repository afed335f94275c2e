use Rattle.std.proofs.Common.{arith}
use Rattle.std.proofs.lemmas.List.{get_or-set_other}
use Rattle.gen_cross.specs.Values.{no_value, IsValue}
use Rattle.gen_cross.proofs.Filling.{value_written}
use Rattle.gen_cross.proofs.renewals.renew_value.Goals as goal

pub returns-clause-value : goal.returns-clause-value
returns-clause-value g c =
    λ words stands other below kept.
    value_written (λ k v. IsValue c.args.rules.now words c.args.dir c.args.board.now k v) c.args.values.now no_value c.value_of.result c.number.result c.args.square
    (omega arith) (omega arith) (c.value_of.ensures words stands) other kept

pub returns-clause-others : goal.returns-clause-others
returns-clause-others g c =
    λ other ne. get_or-set_other c.args.values.now c.number.result other c.value_of.result no_value (λ same. ne (omega arith))
