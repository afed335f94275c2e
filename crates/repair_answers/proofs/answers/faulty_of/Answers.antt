use Rattle.std.proofs.Common.{◌≡◌, ℕ, ◌+◌, ◌*◌, ◌≤◌, ◌∙◌, List, length, None, ap, subst, arith}
use Rattle.gcg_read.specs.declared.events.Event.{Event}
use Rattle.gcg_read.specs.declared.records.Record.{Record}
use Rattle.lex_check.specs.Pairs.{list_in}
use Rattle.repair_answers.specs.Lines.{before_numbers}
use Rattle.repair_answers.specs.Tried.{count_walked}
use Rattle.repair_answers.specs.declared.evidence.Reported.{Reported}
use Rattle.repair_answers.proofs.Wanted.{found_of}
use Rattle.repair_answers.proofs.answers.faulty_of.Goals as goal

pub returns-clause-faulty : goal.returns-clause-faulty
returns-clause-faulty c =
    let same = ap (λ (g : Record). g.events) c.in_ok-alone.ensures.same in
    let first = c.as_slice-written.ensures ∙ same in
    let ok = c.in_ok-singles.singles.plays.ok in
    let long = c.len-plays.ensures in
    let many : c.len-plays.result ≡ length c.in_ok-singles.singles.plays.items = omega arith in
    let walked = c.as_slice-events.ensures ∙ c.in_ok-pairs.ensures.same ∙ same in
    let changes = c.in_ok-tries.ensures.changes ∙ ap (λ (n : ℕ). count_walked c.args.rules.now c.as_slice-events.result.now c.args.walk.now + n) many
    ∙ ap (λ (es : List Event). count_walked c.args.rules.now es c.args.walk.now + length c.in_ok-singles.singles.plays.items) walked in
    let all = subst (λ (es : List Event). count_walked c.args.rules.now es c.args.walk.now * length es ≤ 4000000 → c.in_ok-limit.limit ≡ None) first c.in_ok-limit.ensures in
    let before = c.before_numbers-before.ensures ∙ ap (λ (ls : List Reported). before_numbers c.in_ok-alone.alone c.as_slice-reported.result.now ls) c.as_slice.ensures.value in
    found_of c.args.rules.now (list_in c.args.pair.now) c.list-list.result.now c.args.text.now c.args.game.now.events c.as_slice-written.result.now c.unchanged.new.game.events c.as_slice-events.result.now c.args.walk.now
    c.args.most c.saturating_mul-wanted.result c.below_of-below.result c.as_slice-reported.result.now c.as_slice-reported.result.now c.as_slice-2.result.now
    (record {
      alone = c.in_ok-alone.alone;
      plays = c.in_ok-singles.singles.plays;
      found = c.in_ok-singles.singles.found;
      lines = c.in_ok-lines.lines;
      before_numbers = c.before_numbers-before.result;
      pairs = c.in_ok-pairs.pairs;
      pair_lines = c.in_ok-pair_lines.pair_lines;
      sheets = c.in_ok-sheets.sheets;
      changes = c.in_ok-tries.tries.changes;
      tried = c.in_ok-tries.tries.tried;
      untried = c.in_ok-tries.tries.untried;
    })
    c.list-list.ensures.list first c.in_ok-alone.ensures.alone c.below_of-below.ensures c.saturating_mul-wanted.ensures c.in_ok-singles.ensures.plays c.in_ok-singles.ensures.reported
    c.as_slice-reported.ensures.value c.in_ok-lines.ensures before same c.as_slice-reported.ensures.value c.in_ok-pairs.ensures.reported c.as_slice-2.ensures.value c.in_ok-pair_lines.ensures walked c.in_ok-sheets.ensures (λ few. c.in_ok-singles.ensures.all (all few)) c.in_ok-tries.ensures.untried changes c.in_ok-tries.ensures.tried
