use Rattle.std.proofs.Common.{refl, sym, ◌∙◌, subst}
use Rattle.serde_json.specs.View.{view}
use Rattle.reply_requests.specs.Asked.{IsAmong, MayHave, keys_in}
use Rattle.reply_requests.proofs.Keys.{all_remaining, first_is_key, fewer_remaining, none_remaining}
use Rattle.reply_requests.proofs.members.other_key.Goals as goal

-- src/members.rt:59:5
pub loop-key-init : goal.loop-key-init
loop-key-init c =
    all_remaining c.args.command (view c.args.object.now) c.in_ok-as_object.field-0.now.entries c.into_iter-key-iterator.result c.in_ok-as_object.ensures
    (c.into_iter-key-iterator.ensures.into_iter_gives ∙ c.keys-key-items.ensures.rest)

-- src/members.rt:62:13
pub returns-then-not-may_have-clause-some : goal.returns-then-not-may_have-clause-some
returns-then-not-may_have-clause-some c = (
  subst (IsAmong (keys_in (view c.args.object.now))) (sym c.as_str-key.ensures.value)
      (first_is_key c.args.command (view c.args.object.now) c.loop-key.key-iterator c.next.new.self c.in-Some.key.now c.in-Some.ensures.steps c.loop-key.invariant),
  c.if-not-may_have.ensures.none refl,
)

-- src/members.rt:59:5
pub loop-key-preserved : goal.loop-key-preserved
loop-key-preserved c =
    fewer_remaining c.args.command (view c.args.object.now) c.loop-key.key-iterator c.next.new.self c.in-Some.key.now c.in-Some.ensures.steps c.loop-key.invariant
    (subst (MayHave c.args.command) c.as_str-key.ensures.value (c.if-not-may_have.ensures.key refl))

-- src/members.rt:55:1
pub returns-clause-none : goal.returns-clause-none
returns-clause-none c = none_remaining c.args.command (view c.args.object.now) c.loop-key.key-iterator c.in-None.ensures.steps.0 c.loop-key.invariant
