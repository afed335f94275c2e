-- Answers of a build, by the words of a list.
use Rattle.std.proofs.Common.{ℕ, List, Result, Ok, Err, IfOk, refl, inl, inr}
use Rattle.lex_build.specs.Builds.{IsBuiltOf, HasManyLabels}
use Rattle.engine_stages.specs.declared.decisions.Decision.{Decision}
use Rattle.engine_stages.specs.declared.verdicts.Verdict.TheVariants as verdict
use Rattle.engine.specs.Building.{IsBuiltBy}
use Rattle.engine_stages.specs.Reports.{too_many_arcs_line}
use Rattle.engine_stages.specs.Reporting.{IsReported}

pub built : (words : List (List ℕ)) (bytes : List ℕ) → IsBuiltOf words bytes → IsBuiltBy words verdict.Done bytes
built words bytes is = inl (record { verdict_is = refl; built = is })

pub too_large : {E : Type 0} (words : List (List ℕ)) (r : Result Decision E) → HasManyLabels words → IfOk r (λ d. IsReported verdict.BadFile too_many_arcs_line d.verdict d.report.items)
    → IfOk r (λ d. IsBuiltBy words d.verdict d.report.items)
too_large words (Ok d) many refused = inr (record { many = many; reported = refused })
too_large words (Err gone) many refused = tt
