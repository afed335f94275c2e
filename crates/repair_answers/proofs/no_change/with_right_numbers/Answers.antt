use Rattle.std.proofs.Common.{map, ap, ◌∙◌, sym, subst}
use Rattle.game_corrections.specs.Corrections.{HavePoints}
use Rattle.game_walk.specs.Numbers.{numbers_in}
use Rattle.repair_answers.specs.Unchanged.{IsFound}
use Rattle.repair_answers.proofs.Alone.{whole, goes_through, none_game, numbers_alone}
use Rattle.repair_answers.proofs.no_change.with_right_numbers.Goals as goal

pub settled-requires-clause-walked : goal.settled-requires-clause-walked
settled-requires-clause-walked c =
    goes_through c.args.rules.now c.args.list.now c.args.game.now.events c.audit.new.events c.in_ok-audited.audited.walk c.in_ok-audited.ensures.walk (sym c.is_some.ensures ∙ c.if-is_some.false)

pub returns-in_default-clause-alone : goal.returns-in_default-clause-alone
returns-in_default-clause-alone c =
    let rules = c.args.rules.now in
    let list = c.args.list.now in
    let written = c.args.game.now.events in
    let right = c.audit.new.events in
    none_game rules list written right (whole rules list written right c.in_ok-audited.audited.walk c.in_ok-audited.ensures.walk (sym c.is_some.ensures ∙ c.if-is_some.false))
    (subst (IsFound rules list right) c.in_default.is c.in_ok-is_game.ensures)

pub returns-clause-alone : goal.returns-clause-alone
returns-clause-alone c =
    let rules = c.args.rules.now in
    let list = c.args.list.now in
    let written = c.args.game.now.events in
    let right = c.audit.new.events in
    let audited = c.in_ok-audited.audited in
    let known = subst (IsFound rules list right) c.in-Some.is c.in_ok-is_game.ensures in
    let is = whole rules list written right audited.walk c.in_ok-audited.ensures.walk (sym c.is_some.ensures ∙ c.if-is_some.false) in
    numbers_alone rules list written right audited.wrong.items audited.walk
    (record { remains = c.in_ok-remains.remains; right = c.in_ok-right.right; is_game = c.in-Some.is_game })
    is (subst HavePoints c.as_slice.ensures c.law_of_points.ensures) (c.in_ok-right.ensures ∙ ap (map numbers_in) c.as_slice-2.ensures) known c.in_ok-audited.ensures.audited
    c.in_ok-audited.ensures.walk c.in_ok-remains.ensures
