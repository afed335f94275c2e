use Rattle.std.proofs.Common.{arith}
use Rattle.std.proofs.lemmas.Bool.Decides.{nat_tests}
use Rattle.text_lines.proofs.numerals.is_numeral.Goals as goal

pub returns-else-digits-most : goal.returns-else-digits-most
returns-else-digits-most c = grind (arith, nat_tests)
