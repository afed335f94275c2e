use Rattle.std.proofs.Common.{◌∙◌, List, ap, map, sym, subst}
use Rattle.gcg_read.specs.declared.events.Event.{Event}
use Rattle.game_walk.specs.Numbers.{numbers_in, renumbered}
use Rattle.game_walk.specs.Refusals.{stop_line}
use Rattle.game_walk.specs.Totals.{HasTotals}
use Rattle.game_walk.proofs.WholeAudits.{written_again, lines_only, stopped_audit, whole_audit}
use Rattle.game_walk.proofs.auditing.audit.Goals as goal

pub returns-then-is_some-clause-audited : goal.returns-then-is_some-clause-audited
returns-then-is_some-clause-audited c =
    let rules = c.args.rules.now in
    let list = c.args.list.now in
    let written = c.args.events.now in
    let right = c.walk_and_correct.new.events in
    let walk = c.in_ok-walk.walk in
    let shown = c.as_slice-3.result.now in
    let given = c.as_slice-2.result.now in
    let again = written_again rules list written right shown c.in_ok-numbers.numbers.items given walk c.in_ok-walk.ensures.walk c.as_slice-3.ensures c.as_slice-2.ensures.value
    (c.in_ok-numbers.ensures ∙ ap (map numbers_in) c.as_slice.ensures) in
    stopped_audit rules list written right walk c.push_lines.new.wrong.items c.in_ok-walk.ensures.walk (sym c.is_some.ensures ∙ c.if-is_some.true)
    (lines_only (stop_line walk.stopped) c.stop_line.result written right shown (renumbered shown given) c.new-wrong.result.items c.push_lines.new.wrong.items c.stop_line.ensures again c.as_slice-3.ensures c.new-wrong.ensures.items c.in_ok-push_lines.ensures.wrong)

pub returns-clause-audited : goal.returns-clause-audited
returns-clause-audited c =
    let rules = c.args.rules.now in
    let list = c.args.list.now in
    let written = c.args.events.now in
    let right = c.walk_and_correct.new.events in
    let walk = c.in_ok-walk.walk in
    let shown = c.as_slice-3.result.now in
    let given = c.as_slice-2.result.now in
    let again = written_again rules list written right shown c.in_ok-numbers.numbers.items given walk c.in_ok-walk.ensures.walk c.as_slice-3.ensures c.as_slice-2.ensures.value
    (c.in_ok-numbers.ensures ∙ ap (map numbers_in) c.as_slice.ensures) in
    whole_audit rules list written right c.as_slice-4.result.now walk c.push_lines.new.wrong.items c.push_totals.new.wrong.items c.in_ok-walk.ensures.walk (sym c.is_some.ensures ∙ c.if-is_some.false)
    (lines_only (stop_line walk.stopped) c.stop_line.result written right shown (renumbered shown given) c.new-wrong.result.items c.push_lines.new.wrong.items c.stop_line.ensures again c.as_slice-3.ensures c.new-wrong.ensures.items c.in_ok-push_lines.ensures.wrong)
    c.as_slice-4.ensures
    (c.in_ok-push_totals.ensures written (subst (λ (es : List Event). HasTotals es c.push_lines.new.totals) again c.in_ok-push_lines.ensures.totals))
