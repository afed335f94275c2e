use Rattle.std.proofs.Common.{map}
use Rattle.engine_stages.specs.Reading.{ReadsPair}
use Rattle.engine_stages.specs.Sources.{pair_sources}
use Rattle.reply_calls.specs.Found.{IsFoundOn}
use Rattle.reply_calls.specs.Sheets.{sheet_sources}
use Rattle.reply_calls.proofs.Replying.{replied}
use Rattle.reply_calls.proofs.calls.answer_sheets.Goals as goal

pub returns-in-Ok : goal.returns-in-Ok
returns-in-Ok g c =
    replied
    (pair_sources (g.S.RulesSource.known c.args.rules.now) (g.S.RulesSource.text c.args.rules.now) (g.S.RulesSource.text c.ask.new.rules) (g.W.Input.device c.args.words.now)
    (g.W.Input.device c.ask.new.words) (g.L.Input.device c.args.lexicon.now) (g.L.Input.device c.ask.new.lexicon)
    (sheet_sources (map g.G.Input.device c.args.sheets.now.items) (map g.G.Input.device c.ask.new.more.items)))
    (λ found. ReadsPair (g.S.RulesSource.known c.args.rules.now) (λ stated list. IsFoundOn (g.Q.Asking.is_reply c.args.asking.now stated list) found))
    (g.T.Rendering.shows c.args.rendering.now) g.T.Rendering.status (g.K.Outlet.holds c.write_found.new.kept) (g.K.Outlet.has_failed c.write_found.new.kept) c.in-Ok.found (g.O.Output.device c.args.out.now)
    (g.O.Output.device c.write_found.new.out) c.write_found.result c.in-Ok.ensures c.write_found.ensures
