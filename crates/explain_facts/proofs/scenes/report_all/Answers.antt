use Rattle.explain_facts.specs.Moments.{moment_of}
use Rattle.explain_facts.specs.Facts.{IsTrue}
use Rattle.explain_facts.proofs.Reporting.{more_after}
use Rattle.explain_facts.proofs.scenes.report_all.Goals as goal

pub returns-clause-reported : goal.returns-clause-reported
returns-clause-reported c =
    more_after (IsTrue (moment_of c.args.scene.now)) c.args.facts.now.items c.append.new.self.items c.args.more.now.items c.in_ok-append.ensures.items c.requires.reported c.requires.hold
