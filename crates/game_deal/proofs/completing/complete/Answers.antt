use Rattle.std.proofs.Common.{rules}
use Rattle.game_deal.proofs.PlainRecords.{run_given, plain_given}
use Rattle.game_deal.proofs.completing.complete.Goals as goal

pub complete_steps-requires : goal.complete_steps-requires
complete_steps-requires c =
    let passed = c.args.needs.now.steps.passed.now in
    run_given c.law_of_runs.ensures passed.rules.now c.rules.result.now passed.list.now passed.record.now.events c.as_slice.result.now
    (search rules) c.as_slice.ensures passed.allowed

pub returns-clause-plain : goal.returns-clause-plain
returns-clause-plain c =
    let passed = c.args.needs.now.steps.passed.now in
    plain_given c.complete_steps.result passed.rules.now c.rules.result.now passed.record.now.events c.as_slice.result.now
    (search rules) c.as_slice.ensures c.args.needs.now.bounded c.complete_steps.ensures.plain

pub returns-clause-dealt : goal.returns-clause-dealt
returns-clause-dealt c = search rules
