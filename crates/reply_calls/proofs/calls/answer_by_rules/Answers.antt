use Rattle.std.proofs.Common.{◌++◌, ◌∷◌, []}
use Rattle.engine_stages.specs.Reading.{ReadsRulesBut}
use Rattle.engine_stages.specs.Sources.{game_source, rules_sources}
use Rattle.reply_calls.specs.Found.{IsFoundOnOne}
use Rattle.reply_calls.proofs.Replying.{replied}
use Rattle.reply_calls.proofs.calls.answer_by_rules.Goals as goal

pub returns-in-Ok : goal.returns-in-Ok
returns-in-Ok g c =
    replied
    (rules_sources (g.S.RulesSource.known c.args.rules.now) (g.S.RulesSource.text c.args.rules.now) (g.S.RulesSource.text c.find_by_rules.new.rules)
    ++ game_source (g.G.Input.device c.args.sheet.now) (g.G.Input.device c.find_by_rules.new.sheet) ∷ [])
    (λ found. ReadsRulesBut (g.S.RulesSource.known c.args.rules.now) (λ stated. IsFoundOnOne (g.Q.AskingByRules.is_reply c.args.asking.now stated) found))
    (g.T.Rendering.shows c.args.rendering.now) g.T.Rendering.status (g.K.Outlet.holds c.write_found.new.kept) (g.K.Outlet.has_failed c.write_found.new.kept) c.in-Ok.found (g.O.Output.device c.args.out.now)
    (g.O.Output.device c.write_found.new.out) c.write_found.result c.in-Ok.ensures c.write_found.ensures
