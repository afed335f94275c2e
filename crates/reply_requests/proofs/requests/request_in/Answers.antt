use Rattle.serde_json.specs.View.{view}
use Rattle.reply_requests.proofs.Named.{is_refused}
use Rattle.reply_requests.proofs.Refused.{only_memory}
use Rattle.reply_requests.proofs.requests.request_in.Goals as goal

pub returns-clause-reason : goal.returns-clause-reason
returns-clause-reason c =
    is_refused (view c.args.object.now) c.in_ok-name.name.now c.in-Some.command c.request_for.result c.in_ok-name.ensures.name c.in-Some.ensures.named c.request_for.ensures.reason

pub returns-clause-memory : goal.returns-clause-memory
returns-clause-memory c = only_memory (view c.args.object.now) c.request_for.result
    (is_refused (view c.args.object.now) c.in_ok-name.name.now c.in-Some.command c.request_for.result c.in_ok-name.ensures.name c.in-Some.ensures.named c.request_for.ensures.reason)
