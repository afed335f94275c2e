use Rattle.std.proofs.Common.{◌≡◌, ◌*◌, ◌≤◌, ◌∙◌, List, length, None, ap, subst}
use Rattle.gcg_read.specs.declared.events.Event.{Event}
use Rattle.gcg_read.specs.declared.records.Record.{Record}
use Rattle.lex_check.specs.Pairs.{list_in}
use Rattle.repair_answers.specs.Tried.{count_walked}
use Rattle.repair_answers.proofs.LikelyOnes.{likely_of}
use Rattle.repair_answers.proofs.likely.likely_repair.Goals as goal

pub returns-clause-likely : goal.returns-clause-likely
returns-clause-likely c =
    let same = ap (λ (g : Record). g.events) c.in_ok-alone.ensures.same in
    let all = subst (λ (es : List Event). count_walked c.args.rules.now es c.args.walk.now * length es ≤ 500000 → c.in_ok-limit.limit ≡ None) (c.as_slice-events.ensures ∙ same) c.in_ok-limit.ensures in
    likely_of c.args.rules.now (list_in c.args.pair.now) c.list-list.result.now c.args.text.now c.args.game.now.events c.as_slice-events.result.now c.unchanged.new.game.events c.as_slice-2.result.now
    c.in_ok-alone.alone c.below_of-below.result c.args.walk.now c.in_ok-singles.singles.plays.items c.in_ok-singles.singles.found c.as_slice.result.now c.in_ok-two.two c.as_slice-3.result.now
    c.in_ok-sheets.sheets.items c.chosen.result c.list-list.ensures.list (c.as_slice-events.ensures ∙ same) same
    (c.as_slice-2.ensures ∙ c.in_ok-two.ensures.same) c.in_ok-alone.ensures.alone c.below_of-below.ensures c.requires c.in_ok-singles.ensures.plays c.in_ok-singles.ensures.reported c.as_slice.ensures.value
    c.in_ok-two.ensures.reported c.as_slice-3.ensures.value c.in_ok-sheets.ensures c.chosen.ensures (λ few. c.in_ok-singles.ensures.all (all few))
