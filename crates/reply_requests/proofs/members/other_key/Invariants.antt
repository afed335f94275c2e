use Rattle.serde_json.specs.View.{view}
use Rattle.reply_requests.proofs.Keys.{AreRemaining}
use Rattle.reply_requests.proofs.members.other_key.Given as goal

abbrev pub invariant-loop-key : goal.invariant-loop-key
invariant-loop-key l = AreRemaining l.command (view l.object) l.key-iterator
