use Rattle.std.proofs.Common.{ℕ, not, arith}
use Rattle.gcg_read.specs.Texts.{is_bracket}
use Rattle.gcg_read.proofs.Lists.{filter_over}
use Rattle.std.proofs.lemmas.Bool.Decides.{nat_tests}
use Rattle.gcg_read.proofs.texts.bare.Goals as goal

pub returns-then-is_full-clause-few : goal.returns-then-is_full-clause-few
returns-then-is_full-clause-few c =
    let over = filter_over (λ (byte : ℕ). not (is_bracket byte)) c.args.bytes.now c.loop-byte.byte-index 0 c.loop-byte-test.true (grind (arith, nat_tests)) in
    grind (arith, over)
