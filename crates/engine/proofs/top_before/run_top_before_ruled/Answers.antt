use Rattle.std.proofs.Common.{refl}
use Rattle.std.specs.Option.{option_copied}
use Rattle.engine_stages.specs.Reading.{ReadsRules}
use Rattle.engine.specs.TopBefore.{given_rack, IsToppedBeforeBy}
use Rattle.engine.proofs.Toppings.{no_rack, runs_without, runs_as_asked}
use Rattle.engine.proofs.top_before.run_top_before_ruled.Goals as goal

pub returns-in_default-clause-run : goal.returns-in_default-clause-run
returns-in_default-clause-run g c =
    runs_without _ (λ given. ReadsRules (λ rules. IsToppedBeforeBy c.args.number c.args.before rules given)) (given_rack (option_copied c.args.rack)) _ _ _ (c.turn_plays.ensures.none (no_rack c.turn_plays.result c.turn_plays.result refl c.in_default.not-Some)) (refl, (refl, (refl, (refl, tt)))) c.refuse_rack.ensures

pub returns-clause-run : goal.returns-clause-run
returns-clause-run g c =
    runs_as_asked _ (λ number before given. ReadsRules (λ rules. IsToppedBeforeBy number before rules given)) c.args.number c.in-Some.question.number c.args.before c.in-Some.question.before (given_rack (option_copied c.args.rack)) c.in-Some.question.rack _ _ _ c.in-Some.ensures.number c.in-Some.ensures.before c.in-Some.ensures.rack c.run_question.ensures
