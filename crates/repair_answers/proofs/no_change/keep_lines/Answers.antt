use Rattle.std.proofs.Common.{rules, tests}
use Rattle.std.proofs.lemmas.List.Elements.{filter_from_retain}
use Rattle.repair_single.specs.Remaining.{is_on_line}
use Rattle.repair_answers.proofs.no_change.keep_lines.Goals as goal

pub returns : goal.returns
returns c = filter_from_retain _ is_on_line (λ p x b q k. search (rules, tests)) _ _ _ c.retain.ensures.filtered
