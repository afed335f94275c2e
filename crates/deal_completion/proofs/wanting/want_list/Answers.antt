use Rattle.std.proofs.Common.{Vec, Global, false, ◌≡◌, ℕ, ◌+◌, ◌++◌, List, Some, None, drop, length, sym, ap, ◌∙◌, arith}
use Rattle.deal_steps.specs.Piles.{without, greater}
use Rattle.deal_steps.specs.Steps.{needed, remaining_in, ends_epoch}
use Rattle.deal_steps.proofs.PileLaws.{length-without}
use Rattle.deal_completion.specs.Completion.{lacking}
use Rattle.deal_completion.proofs.WantLaws.{wanted_by, want_list_by, want_at, want_past, asked_more}
use Rattle.deal_completion.proofs.wanting.want_list.Goals as goal
use Rattle.deal_completion.proofs.wanting.want_list.Goals.{in-Some+in_ok-push_lacking+else-ends_epoch, in_default}

pub loop-step-init : goal.loop-step-init
loop-step-init c =
    record {
      so_far = ap (λ (xs : List ℕ). xs ++ wanted_by c.args.seat c.args.steps.now c.args.rack.now) c.new-list.ensures.items
          ∙ sym (want_list_by c.args.seat c.args.steps.now c.args.rack.now c.law_of_numbers.ensures.kinds);
      long = c.law_of_numbers.ensures.kinds;
    }

pub loop-step-preserved : goal.loop-step-preserved
loop-step-preserved c =
    let seat = c.args.seat in
    let steps = c.args.steps.now in
    let s = c.step-item.result in
    let i : ℕ = c.loop-step.step-index in
    let rest = c.loop-step.rest in
    let here = want_at seat steps i s rest c.loop-step.list.items _ (omega arith) c.step-item.is c.loop-step.invariant.so_far in
    elim c.match-needed.branch [
      | in-Some+in_ok-push_lacking+else-ends_epoch w ↦
          let asked = w.in-Some.asked in
          let asks : needed seat s ≡ Some asked = sym c.needed.ensures ∙ w.in-Some.is in
          let goes_on : ends_epoch seat s ≡ false = sym w.ends_epoch.ensures ∙ w.if-ends_epoch.false in
          let list_is : c.match-needed.list.items ≡ c.loop-step.list.items ++ lacking asked rest =
          ap (λ (v : Vec ℕ Global). v.items) w.list-is ∙ w.in_ok-push_lacking.ensures in
          let rest_is : c.match-needed.rest ≡ without (greater rest asked) (remaining_in seat s) =
          w.rest-is ∙ w.without-rest.ensures ∙ ap (λ (remaining : List ℕ). without w.greater.result remaining) w.remaining_in.ensures
          ∙ ap (λ (more : List ℕ). without more (remaining_in seat s)) w.greater.ensures in
          record {
            so_far = asked_more seat s (drop (i + 1) steps) asked rest c.match-needed.rest c.loop-step.list.items c.match-needed.list.items _ asks goes_on list_is rest_is here;
            long = ap length rest_is ∙ length-without (greater rest asked) (remaining_in seat s);
          }
      | in_default w ↦
          let asks : needed seat s ≡ None = sym c.needed.ensures ∙ w.in_default.is in
          record {
            so_far = ap (λ (v : Vec ℕ Global). v.items ++ wanted_by seat (drop (i + 1) steps) c.match-needed.rest) w.list-is
                ∙ ap (λ (r : List ℕ). c.loop-step.list.items ++ wanted_by seat (drop (i + 1) steps) r) w.rest-is
                ∙ want_past seat s (drop (i + 1) steps) rest c.loop-step.list.items _ c.loop-step.invariant.long asks here;
            long = ap length w.rest-is ∙ c.loop-step.invariant.long;
          }
    ]
