use Rattle.std.proofs.Common.{List, slice_get, ap, sym, ◌∙◌}
use Rattle.gcg_read.specs.declared.events.Event.{Event}
use Rattle.gcg_read.specs.declared.records.Record.{Record}
use Rattle.game_turns.specs.Machines.{state_of}
use Rattle.game_turns.specs.Passing.{rules_in, record_in}
use Rattle.explain_facts.proofs.WholeLaws.{read_there, turns_more, hidden_more, parts_more}
use Rattle.explain_facts.proofs.wholes.turn_lines.Goals as goal

pub loop-place-preserved : goal.loop-place-preserved
loop-place-preserved c =
    let passed = c.args.passed.now in
    let place = c.loop-place.place in
    let e = c.index-events-place.result in
    let same = c.as_slice-events.ensures ∙ ap (λ (r : Record). r.events) c.record.ensures.record in
    let there = ap (λ (es : List Event). slice_get es place) (sym same) ∙ read_there c.as_slice-events.result.now place e c.loop-place-test.true c.index-events-place.is in
    record {
      rules = c.take_event.ensures.rules;
      state = c.take_event.ensures.state;
      turns = turns_more (rules_in passed) (record_in passed).events place e (state_of c.loop-place.machine) _ _ there c.loop-place.invariant.state c.loop-place.invariant.turns
          c.in_ok-take.ensures.turns;
      hidden = hidden_more (rules_in passed) (record_in passed).events place e (state_of c.loop-place.machine) _ _ there c.loop-place.invariant.state c.loop-place.invariant.hidden
          c.in_ok-take.ensures.hidden;
      parts = parts_more (rules_in passed) (record_in passed).events place e (state_of c.loop-place.machine) _ _ there c.loop-place.invariant.state c.loop-place.invariant.parts
          c.in_ok-take.ensures.parts;
    }
