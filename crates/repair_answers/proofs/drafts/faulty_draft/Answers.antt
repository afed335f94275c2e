use Rattle.std.proofs.Common.{◌≡◌, ◌*◌, ◌≤◌, ◌<◌, ◌^◌, ◌∙◌, List, length, None, ap, subst, arith}
use Rattle.gcg_read.specs.declared.events.Event.{Event}
use Rattle.gcg_read.specs.declared.records.Record.{Record}
use Rattle.gcg_drafts.specs.declared.missing.Missing.{Missing}
use Rattle.repair_single.specs.Repairs.{AreFirstBy}
use Rattle.repair_single.specs.Weighers.{written_with}
use Rattle.lex_check.specs.Pairs.{list_in}
use Rattle.repair_answers.specs.Tried.{count_walked}
use Rattle.repair_answers.proofs.DraftsWanted.{faulty_so}
use Rattle.repair_answers.proofs.drafts.faulty_draft.Goals as goal

pub returns-clause-faulty : goal.returns-clause-faulty
returns-clause-faulty c =
    let same = ap (λ (g : Record). g.events) c.in_ok-alone.ensures.same in
    let seen = c.as_slice-events.ensures ∙ same in
    let found = c.in_ok-singles.singles.found in
    let ok = found.reported.ok in
    let small = found.reported.small in
    let short : length found.reported.items < 2 ^ 63 = omega arith in
    let reported = subst
    (λ (ls : List Missing). AreFirstBy (written_with ls) c.args.rules.now (list_in c.args.pair.now) c.as_slice-events.result.now c.in_ok-singles.singles.plays.items c.below_of-below.result found.from
    c.saturating_mul-wanted.result found.reported.items found.remaining.items) c.in_ok-draft.ensures.items c.in_ok-singles.ensures.reported in
    let all = subst (λ (es : List Event). count_walked c.args.rules.now es c.args.walk.now * length es ≤ 4000000 → c.in_ok-limit.limit ≡ None) seen c.in_ok-limit.ensures in
    faulty_so c.args.rules.now (list_in c.args.pair.now) c.list-list.result.now c.args.lacks.now c.args.game.now.events c.as_slice-events.result.now c.args.walk.now c.args.most c.saturating_mul-wanted.result
    c.below_of-below.result c.in_ok-alone.alone c.in_ok-singles.singles.plays.items found c.in_ok-faulty.faulty
    c.list-list.ensures.list c.in_ok-alone.ensures.alone c.below_of-below.ensures c.saturating_mul-wanted.ensures seen c.in_ok-singles.ensures.plays reported short
    (λ few. c.in_ok-singles.ensures.all (all few)) c.in_ok-faulty.ensures
