use Rattle.std.proofs.Common.{arith}
use Rattle.lex_file.specs.Files.{number_of}
use Rattle.lex_file.specs.Languages.{file_tail}
use Rattle.lex_file.specs.laws.Files.{file_nonempty}
use Rattle.lex_file.specs.Walking.{next_strings}
use Rattle.lex_agree.specs.Walks.{node_tail}
use Rattle.lex_agree.proofs.Bounds.{label_more, last_label, longer}
use Rattle.lex_agree.proofs.counting.count_node.Goals as goal

pub loop-on-preserved : goal.loop-on-preserved
loop-on-preserved c =
    let bytes = c.args.file.now.bytes.now in
    let branch = c.in-Some.on.branch in
    record {
      low = omega arith;
      rest = c.in-Some.ensures.rest;
      below = label_more (file_tail bytes (number_of c.args.node)) (next_strings (node_tail bytes) branch.step.next) c.loop-on.from branch.label
          c.loop-on.count c.count_after-more.result c.sum_of-count.result branch.step.accepts c.in-Some.ensures.reached c.in-Some.ensures.passed
          c.in-Some.ensures.accepts (longer bytes c.args.node branch.label branch.step.next c.in-Some.ensures.next) c.loop-on.invariant.below
          c.count_after-more.ensures c.sum_of-count.ensures;
    }

pub returns : goal.returns
returns c =
    let bytes = c.args.file.now.bytes.now in
    last_label (file_tail bytes (number_of c.args.node)) c.loop-on.from c.loop-on.count (file_nonempty bytes (number_of c.args.node))
    c.in_default.ensures.none c.loop-on.invariant.below
