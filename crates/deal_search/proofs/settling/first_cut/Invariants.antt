use Rattle.std.proofs.Common.{vec_len}
use Rattle.deal_search.specs.Settling.{EndsDeals, IsKnownOf}
use Rattle.deal_search.proofs.settling.first_cut.Given as goal

abbrev pub invariant-loop : goal.invariant-loop
invariant-loop l =
    record {
      ends : EndsDeals l.fn.rules l.fn.steps (vec_len l.fronts.cut.places);
      earlier : IsKnownOf l.fn.rules l.fn.steps l.fronts.low l.fronts.earlier;
    }
