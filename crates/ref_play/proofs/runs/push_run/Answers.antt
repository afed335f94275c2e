use Rattle.std.proofs.Common.{◌++◌, append-nil, sym, ap, ◌∙◌, arith}
use Rattle.ref_play.proofs.FormedRuns.{run_through, no_run_through}
use Rattle.ref_play.proofs.runs.push_run.Goals as goal

pub returns-then-len-gt1-clause-run : goal.returns-then-len-gt1-clause-run
returns-then-len-gt1-clause-run c =
    c.push.ensures.items
    ∙ ap (λ rs. c.args.runs.now.items ++ rs)
    (sym (run_through c.args.dir c.args.after.now c.args.square c.run-start.result.0 c.run-start.result.1 c.law_of_number.ensures c.run-start.ensures c.if-len-gt1.true))

pub returns-else-len-gt1-clause-run : goal.returns-else-len-gt1-clause-run
returns-else-len-gt1-clause-run c =
    sym (append-nil c.args.runs.now.items)
    ∙ ap (λ rs. c.args.runs.now.items ++ rs)
    (sym (no_run_through c.args.dir c.args.after.now c.args.square c.run-start.result.0 c.run-start.result.1 c.run-start.ensures (omega arith)))
