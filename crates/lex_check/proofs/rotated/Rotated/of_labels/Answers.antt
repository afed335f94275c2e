use Rattle.std.proofs.Common.{refl, arith}
use Rattle.lex_check.specs.Held.{held}
use Rattle.lex_check.proofs.Held.{made_is, made_back}
use Rattle.lex_check.proofs.rotated.Rotated.of_labels.Goals as goal

pub loop-place-init : goal.loop-place-init
unfolding held
loop-place-init c = refl

pub invariant_of-result : goal.invariant_of-result
invariant_of-result c =
    made_is c.args.path.now c.loop-place.bytes c.loop-place.place c.loop-place.invariant (omega arith) c.requires.few c.requires.labels

pub returns : goal.returns
returns c = made_back c.args.path.now c.loop-place.bytes c.loop-place.place c.loop-place.invariant (omega arith) c.requires.few
