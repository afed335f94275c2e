use Rattle.std.proofs.Common.{◌≡◌, ◌+◌, ◌++◌, true, List, refl, ap, ◌∙◌, arith}
use Rattle.gcg_read.specs.declared.events.Seat.TheVariants.{First, Second}
use Rattle.explain_facts.specs.declared.facts.racks.KindLine.{KindLine}
use Rattle.explain_facts.specs.Racks.{kind_line}
use Rattle.explain_facts.proofs.RackLaws.{laid_by_lines, held_by_lines, kind_exceeds}
use Rattle.explain_facts.proofs.racks.short.Goals as goal

pub returns-then-laid-first-clause-found : goal.returns-then-laid-first-clause-found
returns-then-laid-first-clause-found c = λ line first.
    let more = kind_exceeds c.args.rules.now c.args.steps.now c.args.place line c.args.kind c.args.known.now c.requires.shown first in
    absurd (omega (arith, more, c.count-laid.ensures, c.count-first.ensures, c.count-second.ensures, c.count-all.ensures, c.if-laid-first.true))

pub returns-clause-reported : goal.returns-clause-reported
returns-clause-reported c =
    let steps = c.args.steps.now in
    let place = c.args.place in
    let step = c.args.step.now in
    let known = c.args.known.now in
    record {
      step = step;
      there = c.requires.there;
      known = known;
      shown = c.requires.shown;
      has = c.count-all.ensures;
      on_board = c.count-laid.ensures;
      on_first = c.count-first.ensures;
      on_second = c.count-second.ensures;
      adds_up = refl;
      more = omega (arith, c.if-laid-first.false);
      lines_are = c.in_ok-push_kind_line.ensures ∙ ap (λ (l : List KindLine). l ++ kind_line c.args.kind true step) c.in_ok-lines.ensures;
      laid_by_lines = laid_by_lines steps place known c.args.kind _ c.requires.shown c.count-laid.ensures;
      first_by_lines = held_by_lines steps place step known c.args.kind First _ c.requires.there c.requires.shown c.count-first.ensures;
      second_by_lines = held_by_lines steps place step known c.args.kind Second _ c.requires.there c.requires.shown c.count-second.ensures;
    }
