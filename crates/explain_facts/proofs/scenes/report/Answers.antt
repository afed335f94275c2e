use Rattle.explain_facts.specs.Moments.{moment_of}
use Rattle.explain_facts.specs.Facts.{IsTrue}
use Rattle.explain_facts.proofs.Reporting.{one_more}
use Rattle.explain_facts.proofs.scenes.report.Goals as goal

pub returns-clause-reported : goal.returns-clause-reported
returns-clause-reported c =
    one_more (IsTrue (moment_of c.args.scene.now)) c.args.facts.now.items c.push.new.self.items c.args.fact c.in_ok-push.ensures.items c.requires.reported c.requires.holds
