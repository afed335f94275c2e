use Rattle.std.proofs.Common.{List, refl, sym, subst, arith}
use Rattle.gcg_read.specs.declared.events.Event.{Event}
use Rattle.game_turns.specs.Machines.{rules_of}
use Rattle.game_walk.specs.declared.rows.Row.{Row}
use Rattle.repair_changes.specs.Applied.{applied}
use Rattle.repair_single.specs.FirstSteps.{AreFirstSteps}
use Rattle.repair_single.specs.Trying.{IsStart}
use Rattle.repair_single.specs.Counting.{Leaves, count_in_rows}
use Rattle.repair_single.proofs.Counted.{none_by, missing_following, from_by_rules}
use Rattle.repair_single.proofs.FirstSteps.{first_for, kept_before}
use Rattle.repair_single.proofs.Leaving.{not_false}
use Rattle.repair_single.proofs.Starts.{moved}
use Rattle.repair_single.proofs.Trials.{by_own, same_before}
use Rattle.repair_single.proofs.Weighing.{reported_by_fewer, reported_by_racks}
use Rattle.repair_single.proofs.trying.may_be_reported.Goals as goal

pub goes_on-requires-clause-game : goal.goes_on-requires-clause-game
goes_on-requires-clause-game c =
    let changed = c.in_ok-changed.changed in
    let written = c.args.events.now in
    let same = same_before c.law_of_changes.ensures c.args.change.now written changed c.in_ok-changed.ensures in
    let is = subst (λ (es : List Event). IsStart written es c.args.change.now.place c.start_of-start.result) c.as_slice.ensures c.start_of-start.ensures in
    by_own c.args.rules.now c.args.list.now changed c.start_of-start.result c.in-Some.game.now
    (moved c.args.rules.now c.args.list.now written changed c.args.change.now.place c.start_of-start.result c.in-Some.game.now (c.in-Some.ensures.game c.args.rules.now c.args.list.now written c.requires.walk)
    is (omega arith) (omega arith) same)

pub goes_on-requires-clause-missing : goal.goes_on-requires-clause-missing
goes_on-requires-clause-missing c =
    let changed = c.in_ok-changed.changed in
    let written = c.args.events.now in
    let is = subst (λ (es : List Event). IsStart written es c.args.change.now.place c.start_of-start.result) c.as_slice.ensures c.start_of-start.ensures in
    missing_following c.args.change.now c.missing_place-missing.result c.start_of-start.result c.missing_place-missing.ensures is.before

pub goes_on-requires-clause-first : goal.goes_on-requires-clause-first
goes_on-requires-clause-first c =
    let rules = c.args.rules.now in
    let list = c.args.list.now in
    let written = c.args.events.now in
    let changed = c.in_ok-changed.changed in
    let start = c.start_of-start.result in
    let same = same_before c.law_of_changes.ensures c.args.change.now written changed c.in_ok-changed.ensures in
    let is = subst (λ (es : List Event). IsStart written es c.args.change.now.place start) c.as_slice.ensures c.start_of-start.ensures in
    let at = c.in-Some.ensures.game rules list written c.requires.walk in
    kept_before (rules_of c.in-Some.game.now) rules list written changed c.args.change.now.place start c.args.stop.now c.in_ok-first.first.steps.items at.by c.in_ok-first.ensures c.requires.stop is same

pub returns-then-not-branch : goal.returns-then-not-branch
returns-then-not-branch c =
    let rules = c.args.rules.now in
    let list = c.args.list.now in
    let written = c.args.events.now in
    let changed = c.in_ok-changed.changed in
    let missing = c.missing_place-missing.result in
    let start = c.start_of-start.result in
    let rows = c.args.walk.now.rows.items in
    let remaining = c.after_rows-room.result in
    let same = same_before c.law_of_changes.ensures c.args.change.now written changed c.in_ok-changed.ensures in
    let is = subst (λ (es : List Event). IsStart written es c.args.change.now.place start) c.as_slice.ensures c.start_of-start.ensures in
    let of_rows = subst (λ (rs : List Row). Leaves c.args.below (count_in_rows list written rs start) remaining) c.as_slice-rows.ensures.value c.after_rows-room.ensures in
    let at = c.in-Some.ensures.game rules list written c.requires.walk in
    λ no.
    reported_by_fewer rules list written c.args.below c.args.change.now
    (none_by rules list c.args.change.now written changed c.args.walk.now start missing c.args.below remaining c.in_ok-changed.ensures c.requires.walk is (omega arith) (omega arith) (omega arith) same
    c.missing_place-missing.ensures of_rows
    (from_by_rules (rules_of c.in-Some.game.now) rules list changed start missing remaining at.by (c.in_ok-goes_on.ensures.none c.if-not-branch.true)))

pub returns : goal.returns
returns c =
    let rules = c.args.rules.now in
    let list = c.args.list.now in
    let written = c.args.events.now in
    let change = c.args.change.now in
    let at = c.in-Some.ensures.game rules list written c.requires.walk in
    let first = c.goes_on.new.first.steps.items in
    λ no.
    reported_by_racks rules list written c.args.below change
    (c.are_stopped.ensures (not_false c.are_stopped.result no) list (applied change written)
    (subst (λ steps. AreFirstSteps rules list (applied change written) steps) (sym c.as_slice-2.ensures.value)
    (first_for (rules_of c.in-Some.game.now) rules list c.in_ok-changed.changed (applied change written) first first at.by c.in_ok-changed.ensures refl c.in_ok-goes_on.ensures.first)))
