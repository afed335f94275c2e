use Rattle.gcg_numbers.proofs.Texts.{read_with_numbers}
use Rattle.gcg_numbers.proofs.laws.law_of_numbers.Goals as goal

pub returns : goal.returns
returns c = read_with_numbers
