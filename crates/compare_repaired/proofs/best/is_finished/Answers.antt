use Rattle.std.proofs.Common.{◌≡◌, ◌<◌, ◌∙◌, length, sym, ap, arith}
use Rattle.game_turns.specs.Tallies.{State, tally_at}
use Rattle.game_turns.proofs.PlaceLaws.{start_tally}
use Rattle.repair_single.proofs.StayingWrong.{never_refused, next_tally}
use Rattle.compare_repaired.proofs.best.is_finished.Goals as goal

pub loop-place-init : goal.loop-place-init
loop-place-init c = record { by = c.new-machine.ensures.rules; state = c.new-machine.ensures.state ∙ start_tally c.args.rules.now c.args.right.now }

pub unreachable-requires : goal.unreachable-requires
unreachable-requires c =
    let within : c.loop-place.place < length c.args.right.now = omega arith in
    never_refused c.args.rules.now c.args.list.now c.args.right.now c.loop-place.place c.loop-place.machine c.take.result c.requires within c.loop-place.invariant.by c.loop-place.invariant.state
    c.take.ensures.reported (sym c.is_err.ensures.value ∙ c.if-is_err.true)

pub loop-place-preserved : goal.loop-place-preserved
loop-place-preserved c =
    let within : c.loop-place.place < length c.args.right.now = omega arith in
    record {
      by = c.take.ensures.rules ∙ c.loop-place.invariant.by;
      state = next_tally c.law_of_tallies.ensures c.args.rules.now c.args.list.now c.args.right.now c.loop-place.place c.loop-place.machine c.take.new.machine c.take.result c.requires within
          c.loop-place.invariant.by c.loop-place.invariant.state c.take.ensures.state (sym c.is_err.ensures.value ∙ c.if-is_err.false);
    }

pub returns : goal.returns
returns c =
    let last : c.loop-place.place ≡ length c.args.right.now = omega arith in
    c.finished.ensures ∙ ap (λ (s : State). s.complete) c.loop-place.invariant.state ∙ ap (λ n. (tally_at c.args.rules.now c.args.right.now n).complete) last
