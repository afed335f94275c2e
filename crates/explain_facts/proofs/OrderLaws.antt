-- The points of a missing line.
use Rattle.std.proofs.Common.{◌≡◌, ℤ, sym, ap, ◌∙◌}
use Rattle.std.specs.Prelude.{◌+ℤ◌, ◌-ℤ◌}
use Rattle.std.proofs.Math.IntN.{+ℤ_comm, -ℤ-+ℤ_cancel}

-- what a player has after a score
pub had_and : (total score own shown reported : ℤ) → shown ≡ total → reported ≡ score → own ≡ shown +ℤ reported → own ≡ total +ℤ score
had_and total score own shown reported same given is = is ∙ ap (λ n. n +ℤ reported) same ∙ ap (λ n. total +ℤ n) given

-- what a player had before a score
pub had_before : (total score had shown reported : ℤ) → shown ≡ total → reported ≡ score → had ≡ shown -ℤ reported → had ≡ total -ℤ score
had_before total score had shown reported same given is = is ∙ ap (λ n. n -ℤ reported) same ∙ ap (λ n. total -ℤ n) given

-- a total that is reached only with some more points
pub lacks : (total had gap next score : ℤ) → had ≡ next -ℤ score → gap ≡ had -ℤ total → next ≡ (total +ℤ gap) +ℤ score
lacks total had gap next score before is =
    sym (ap (λ n. n +ℤ score) (+ℤ_comm total gap ∙ ap (λ n. n +ℤ total) is ∙ -ℤ-+ℤ_cancel had total ∙ before) ∙ -ℤ-+ℤ_cancel next score)
