use Rattle.std.proofs.Common.{sym, ap, ◌∙◌}
use Rattle.text_lines.specs.Lines.{lines_in}
use Rattle.ref_tiles.specs.RulesTexts.{drafted}
use Rattle.ref_tiles.proofs.OnceLaws.{are_once}
use Rattle.ref_tiles.proofs.rulebook.Rules.read.Goals as goal

pub returns-in-Ok-clause-once : goal.returns-in-Ok-clause-once
returns-in-Ok-clause-once c =
    are_once c.args.bytes.now c.in-Ok.draft c.finish.result (sym (c.in-Ok.ensures ∙ ap (λ text. drafted (lines_in text)) c.without_mark.ensures)) c.finish.ensures
