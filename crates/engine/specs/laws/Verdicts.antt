-- What more than one question needs to show that none of its answers is that an input is bad.
use Rattle.std.proofs.Common.{◌≡◌, ℕ, List, sym, subst}
use Rattle.ref_tiles.specs.declared.rulebook.Rules.{Rules}
use Rattle.gcg_read.specs.declared.records.Record.{Record}
use Rattle.engine_stages.specs.declared.verdicts.GameFault.{GameFault}
use Rattle.engine_stages.specs.declared.verdicts.GameFault.TheVariants as game
use Rattle.engine_stages.specs.declared.verdicts.Verdict.{Verdict}
use Rattle.engine_stages.specs.declared.verdicts.Verdict.TheVariants as verdict
use Rattle.engine.specs.Judging.{IsRefused}
use Rattle.engine_stages.specs.Reporting.{IsOwn}

pub own_as : (v what : Verdict) → v ≡ what → IsOwn what → IsOwn v
own_as v what is own = subst IsOwn (sym is) own

pub done_own : IsOwn verdict.Done
done_own = record { rules = λ bad. cc; words = λ bad. cc; lexicon = λ bad. cc; game = λ bad. cc }

pub illegal_own : (line : ℕ) (fault : GameFault) → IsOwn (verdict.Illegal line fault)
illegal_own line fault = record { rules = λ bad. cc; words = λ bad. cc; lexicon = λ bad. cc; game = λ bad. cc }

pub refused_own : (rules : Rules) (words : List (List ℕ)) (r : Record) (v : Verdict) (report : List ℕ) → IsRefused rules words r v report → IsOwn v
refused_own rules words r v report is = own_as v (verdict.Illegal is.line (game.Rule is.why)) is.reported.verdict_is (illegal_own is.line (game.Rule is.why))
