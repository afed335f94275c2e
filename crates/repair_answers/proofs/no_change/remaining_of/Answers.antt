use Rattle.std.proofs.Common.{◌∙◌, ap}
use Rattle.repair_single.specs.Remaining.{words_of_rows}
use Rattle.repair_answers.proofs.no_change.remaining_of.Goals as goal

pub returns : goal.returns
returns c =
    record {
      wrong = c.keep_lines.ensures;
      unlisted = c.in_ok-unlisted.ensures ∙ ap (words_of_rows c.args.list.now) c.as_slice.ensures.value;
    }
