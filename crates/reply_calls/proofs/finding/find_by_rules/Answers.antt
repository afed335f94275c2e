use Rattle.std.proofs.Common.{◌∷◌, [], Err, refl}
use Rattle.engine_stages.specs.Reading.{ReadsRulesBut}
use Rattle.engine_stages.specs.Runs.{outcomes}
use Rattle.engine_stages.specs.Sources.{game_source}
use Rattle.engine_stages.proofs.Answering.{asks_unruled, asks_bad_rules, asks_rules}
use Rattle.reply_calls.specs.Found.{IsFoundOnOne}
use Rattle.reply_calls.proofs.SheetLaws.{one_later}
use Rattle.reply_calls.proofs.finding.find_by_rules.Goals as goal

pub returns-in-Ok-Ok : goal.returns-in-Ok-Ok
returns-in-Ok-Ok g c =
    let arm = c.in-Ok-Ok in
    asks_rules outcomes (g.S.RulesSource.known c.args.rules.now) (g.S.RulesSource.text c.args.rules.now) (g.S.RulesSource.text c.read.new.self)
    (game_source (g.G.Input.device c.args.sheet.now) (g.G.Input.device c.find_one.new.sheet) ∷ []) (λ x stated. IsFoundOnOne (g.Q.AskingByRules.is_reply c.args.asking.now stated) x) arm.field-0 arm.stated c.find_one.result
    arm.ensures arm.field-0-is c.find_one.ensures
    (λ x texts v report is. (one_later (g.Q.AskingByRules.is_reply c.args.asking.now arm.stated) x texts v report is).rules)

pub returns-in-Ok-Err : goal.returns-in-Ok-Err
returns-in-Ok-Err g c =
    let arm = c.in-Ok-Err in
    asks_bad_rules outcomes (g.S.RulesSource.known c.args.rules.now) (g.S.RulesSource.text c.args.rules.now) (g.S.RulesSource.text c.read.new.self)
    (game_source (g.G.Input.device c.args.sheet.now) (g.G.Input.device c.args.sheet.now) ∷ []) (λ x stated. IsFoundOnOne (g.Q.AskingByRules.is_reply c.args.asking.now stated) x) arm.field-0 arm.decision (Err arm.decision)
    arm.ensures arm.field-0-is (refl, tt) refl refl

pub returns-in-Err : goal.returns-in-Err
returns-in-Err g c =
    let arm = c.in-Err in
    asks_unruled outcomes (g.S.RulesSource.known c.args.rules.now) (g.S.RulesSource.text c.args.rules.now) (g.S.RulesSource.text c.read.new.self)
    (game_source (g.G.Input.device c.args.sheet.now) (g.G.Input.device c.args.sheet.now) ∷ [])
    (λ x. ReadsRulesBut (g.S.RulesSource.known c.args.rules.now) (λ stated. IsFoundOnOne (g.Q.AskingByRules.is_reply c.args.asking.now stated) x)) arm.fault arm.ensures (refl, tt)
