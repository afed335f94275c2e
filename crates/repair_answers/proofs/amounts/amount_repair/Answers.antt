use Rattle.std.proofs.Common.{◌≡◌, ◌*◌, ◌≤◌, ◌∙◌, List, length, None, ap, subst}
use Rattle.gcg_read.specs.declared.events.Event.{Event}
use Rattle.gcg_read.specs.declared.records.Record.{Record}
use Rattle.lex_check.specs.Pairs.{list_in}
use Rattle.repair_answers.specs.Tried.{count_walked}
use Rattle.repair_answers.proofs.LikelyOnes.{amount_of}
use Rattle.repair_answers.proofs.amounts.amount_repair.Goals as goal

pub returns-clause-amount : goal.returns-clause-amount
returns-clause-amount c =
    let same = ap (λ (g : Record). g.events) c.in_ok-alone.ensures.same in
    let all = subst (λ (es : List Event). count_walked c.args.rules.now es c.in_ok-walk.walk * length es ≤ 500000 → c.in_ok-limit.limit ≡ None)
    (c.as_slice-events.ensures ∙ c.in_ok-walk.ensures.same ∙ same) c.in_ok-limit.ensures in
    amount_of c.args.rules.now (list_in c.args.pair.now) c.list-list.result.now c.list-list.result.now c.args.game.now.events c.unchanged.new.game.events c.as_slice-events.result.now
    c.in_ok-alone.alone c.below_of-below.result c.in_ok-walk.walk c.in_ok-singles.singles.plays.items c.in_ok-singles.singles.found c.amount_among.result
    c.list-list.ensures.list c.list-list.ensures.list same (c.as_slice-events.ensures ∙ c.in_ok-walk.ensures.same)
    c.in_ok-alone.ensures.alone c.below_of-below.ensures c.in_ok-walk.ensures.walk c.in_ok-singles.ensures.plays c.in_ok-singles.ensures.reported c.amount_among.ensures
    (λ few. c.in_ok-singles.ensures.all (all few))
