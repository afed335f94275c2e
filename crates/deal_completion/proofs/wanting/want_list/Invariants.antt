use Rattle.std.proofs.Common.{◌≡◌, ◌++◌, drop, length}
use Rattle.deal_completion.specs.Completion.{want_list}
use Rattle.deal_completion.proofs.WantLaws.{wanted_by}
use Rattle.deal_completion.proofs.wanting.want_list.Given as goal

abbrev pub invariant-loop-step : goal.invariant-loop-step
invariant-loop-step l =
    record {
      so_far : l.list.items ++ wanted_by l.seat (drop l.step-index l.steps) l.rest ≡ want_list l.seat l.steps l.rack;
      long : length l.rest ≡ 27;
    }
