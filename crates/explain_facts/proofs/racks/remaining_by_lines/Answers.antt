use Rattle.std.proofs.Common.{rules, refl, sym, ap, ◌∙◌, arith}
use Rattle.ref_tiles.specs.Counting.{no_tiles}
use Rattle.explain_facts.specs.Racks.{remaining_after, last_line}
use Rattle.explain_facts.proofs.racks.remaining_by_lines.Goals as goal

pub returns : goal.returns
returns c =
    record {
      step = c.args.step.now;
      there = c.requires.there;
      of = c.requires.of;
      latest = c.in_ok-latest.latest.now;
      last = ap last_line (sym c.requires.lines) ∙ sym c.in_ok-latest.ensures.value;
      on_line = refl;
      leaves = c.remaining_after-remaining.ensures ∙ ap (remaining_after no_tiles) c.requires.lines;
      on_next = refl;
      shown = c.args.shown.now;
      shows = c.requires.shows;
      whole = c.requires.whole;
      of_kind = search rules;
      of_remaining = search rules;
      fewer = omega (arith, c.in_ok-kind.ensures, c.count.ensures, c.count-2.ensures);
    }
