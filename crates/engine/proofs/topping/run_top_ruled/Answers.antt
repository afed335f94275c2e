use Rattle.std.proofs.Common.{refl, sym, ◌∙◌}
use Rattle.gcg_read.specs.Racks.{rack_of}
use Rattle.engine_stages.specs.Reading.{ReadsRules}
use Rattle.engine.specs.Topping.{IsToppedBy}
use Rattle.engine.proofs.Toppings.{no_rack, runs_without, runs_by_rack}
use Rattle.engine.proofs.topping.run_top_ruled.Goals as goal

pub returns-in_default-clause-run : goal.returns-in_default-clause-run
returns-in_default-clause-run g c =
    runs_without _ (λ rack. ReadsRules (λ rules. IsToppedBy rules rack)) (rack_of c.args.rack.now) _ _ _ (no_rack (rack_of c.args.rack.now) c.read_rack.result c.read_rack.ensures c.in_default.not-Some) (refl, (refl, (refl, (refl, tt)))) c.refuse_rack.ensures

pub returns-clause-run : goal.returns-clause-run
returns-clause-run g c =
    runs_by_rack _ (λ rack. ReadsRules (λ rules. IsToppedBy rules rack)) (rack_of c.args.rack.now) c.in-Some.rack _ _ _ (sym c.read_rack.ensures ∙ c.in-Some.is) c.run_question.ensures
