use Rattle.std.proofs.Common.{◌<◌, ◌≤◌, ◌∙◌, List, length, take, sym, ap, subst, arith}
use Rattle.gcg_read.specs.declared.events.Event.{Event}
use Rattle.game_turns.specs.Machines.{rules_of, state_of}
use Rattle.game_corrections.proofs.Sheets.{some_event}
use Rattle.repair_single.specs.FirstSteps.{MayAddStep}
use Rattle.repair_single.proofs.Counted.{counts_none, counts_more, counts_full, old_there, refused_from}
use Rattle.repair_single.proofs.FirstSteps.{noted_going}
use Rattle.repair_single.proofs.Leaving.{not_false}
use Rattle.repair_single.proofs.Trials.{begun, refused_by, went_by}
use Rattle.repair_single.proofs.WrongSums.{both_next, both_start, counted_there}
use Rattle.repair_single.proofs.trying.goes_on.Goals as goal

pub loop-place-init : goal.loop-place-init
loop-place-init c =
    record {
      so_far = begun (rules_of c.args.game.now) c.args.list.now c.args.events.now c.args.start c.args.game.now c.copy-machine.result c.requires.game (omega arith) c.copy-machine.ensures.rules c.copy-machine.ensures.state;
      following = omega arith;
      first = c.requires.first;
      had = λ sheet but.
          both_start c.args.events.now (take c.args.start c.as_slice.result.now) sheet c.args.missing c.args.start c.after-had.result.first c.after-had.result.second
          (ap (λ (es : List Event). take c.args.start es) c.as_slice.ensures) but c.requires.missing c.after-had.ensures.first c.after-had.ensures.second;
      counts = counts_none (rules_of c.args.game.now) c.args.list.now c.args.events.now c.args.start c.args.missing c.args.room;
    }

pub loop-place-preserved : goal.loop-place-preserved
loop-place-preserved c =
    let so = c.loop-place.invariant.so_far in
    let following = c.loop-place.invariant.following in
    let within : c.loop-place.place < length c.args.events.now = omega arith in
    let next =
    went_by c.law_of_tallies.ensures (rules_of c.args.game.now) c.args.list.now c.args.events.now c.loop-place.events c.mend.new.events c.args.start c.loop-place.place c.loop-place.machine
    c.mend.new.machine c.mend.result so c.mend.ensures.mended following within (sym c.is_err.ensures.value ∙ c.if-is_err.false) c.mend.ensures.reported c.mend.ensures.state c.mend.ensures.rules in
    let long = so.long in
    let long_next = next.long in
    let was = some_event c.loop-place.events c.loop-place.place (omega (arith, within, long)) in
    let is = some_event c.mend.new.events c.loop-place.place (omega (arith, within, long_next)) in
    let o = was.event in
    let e = is.event in
    let player = c.line_at-written.ensures.player o was.stands in
    let numbers = c.line_at-written.ensures.numbers o was.stands in
    let stood = old_there (rules_of c.args.game.now) c.args.list.now c.args.events.now c.loop-place.events c.args.start c.loop-place.place c.loop-place.machine o so following was.stands in
    record {
      so_far = next;
      following = omega arith;
      first = noted_going (rules_of c.args.game.now) c.args.list.now c.args.events.now c.loop-place.events c.args.start c.loop-place.place c.loop-place.machine c.loop-place.first.steps.items
          c.note.new.self.steps.items so following
          (subst (λ (es : List Event). MayAddStep (state_of c.loop-place.machine) es c.loop-place.place c.loop-place.first.steps.items c.note.new.self.steps.items) c.as_slice-in-loop-place.ensures c.in_ok-note.ensures)
          c.loop-place.invariant.first;
      had = λ sheet but.
          both_next c.args.events.now sheet c.args.missing c.loop-place.place o c.loop-place.had.first c.loop-place.had.second c.note-numbers.new.self.first c.note-numbers.new.self.second
          c.line_at-written.result.player c.line_at-written.result.numbers c.is_missing_at.result but within stood c.is_missing_at.ensures.1 player numbers (c.loop-place.invariant.had sheet but)
          c.note-numbers.ensures.first c.note-numbers.ensures.second;
      counts = counts_more (rules_of c.args.game.now) c.args.list.now c.args.events.now c.loop-place.events c.mend.new.events c.args.start c.loop-place.place c.loop-place.machine c.mend.new.machine
          c.args.missing c.args.room c.loop-place.room c.after_event-room.result o e c.loop-place.had.first c.loop-place.had.second c.is_missing_at.result c.note-numbers.result so next following within
          was.stands is.stands c.is_missing_at.ensures.1 c.loop-place.invariant.had
          (counted_there o e c.loop-place.had.first c.loop-place.had.second c.line_at-written.result.player c.line_at-written.result.numbers c.line_at-right.result.numbers c.is_missing_at.result
          c.note-numbers.result player numbers (c.line_at-right.ensures.numbers e is.stands) c.note-numbers.ensures.many)
          c.after_event-room.ensures c.loop-place.invariant.counts;
    }

pub returns-then-is_full : goal.returns-then-is_full
returns-then-is_full c =
    let within : c.loop-place.place ≤ length c.args.events.now = omega arith in
    record {
      none = λ no.
          counts_full (rules_of c.args.game.now) c.args.list.now c.args.events.now c.args.start c.loop-place.place c.args.missing c.args.room c.loop-place.room c.loop-place.invariant.counts
          (c.is_full.ensures.0 c.if-is_full.true) within;
      first = c.loop-place.invariant.first;
    }

pub returns-then-is_err : goal.returns-then-is_err
returns-then-is_err c =
    let so = c.loop-place.invariant.so_far in
    let following = c.loop-place.invariant.following in
    let within : c.loop-place.place < length c.args.events.now = omega arith in
    record {
      none = λ no.
          refused_from (rules_of c.args.game.now) c.args.list.now c.args.events.now c.args.start c.args.missing c.args.room
          (refused_by (rules_of c.args.game.now) c.args.list.now c.args.events.now c.loop-place.events c.mend.new.events c.args.start c.loop-place.place c.loop-place.machine c.mend.result so
          c.mend.ensures.mended following within (sym c.is_err.ensures.value ∙ c.if-is_err.true) c.mend.ensures.reported c.mend.ensures.remaining);
      first = noted_going (rules_of c.args.game.now) c.args.list.now c.args.events.now c.loop-place.events c.args.start c.loop-place.place c.loop-place.machine c.loop-place.first.steps.items
          c.note.new.self.steps.items so following
          (subst (λ (es : List Event). MayAddStep (state_of c.loop-place.machine) es c.loop-place.place c.loop-place.first.steps.items c.note.new.self.steps.items) c.as_slice-in-loop-place.ensures c.in_ok-note.ensures)
          c.loop-place.invariant.first;
    }

pub returns : goal.returns
returns c =
    let within : c.loop-place.place ≤ length c.args.events.now = omega arith in
    record {
      none = λ no.
          counts_full (rules_of c.args.game.now) c.args.list.now c.args.events.now c.args.start c.loop-place.place c.args.missing c.args.room c.loop-place.room c.loop-place.invariant.counts
          (c.is_full-2.ensures.0 (not_false c.is_full-2.result no)) within;
      first = c.loop-place.invariant.first;
    }
