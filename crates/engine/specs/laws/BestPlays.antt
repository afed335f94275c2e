-- No answer about the best plays after a record is that an input is bad.
use Rattle.std.proofs.Common.{ℕ, List, ⊎_elim}
use Rattle.ref_tiles.specs.declared.rulebook.Rules.{Rules}
use Rattle.gcg_read.specs.declared.records.Record.{Record}
use Rattle.engine_stages.specs.declared.verdicts.Verdict.{Verdict}
use Rattle.engine_stages.specs.declared.verdicts.Verdict.TheVariants as verdict
use Rattle.engine.specs.Judging.{IsRefused}
use Rattle.engine.specs.laws.Verdicts.{own_as, done_own, refused_own}
use Rattle.engine_stages.specs.Reporting.{IsOwn}
use Rattle.engine.specs.Topping.{AreReported, IsToppedOn}

pub topped_own : (rules : Rules) (words : List (List ℕ)) (rack : List ℕ) (r : Record) (v : Verdict) (report : List ℕ) → IsToppedOn rules words rack r v report → IsOwn v
topped_own rules words rack r v report is =
    ⊎_elim
    (λ (done : AreReported rules words rack r v report). own_as v verdict.Done done.verdict_is done_own)
    (λ (refused : IsRefused rules words r v report). refused_own rules words r v report refused)
    is
