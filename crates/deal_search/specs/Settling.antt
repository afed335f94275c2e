-- What the answers of the search say.
use Rattle.std.specs.Prelude.{ℕ, ◌-◌, ◌<◌, ◌≤◌, List, length, take, vec_len}
use Rattle.ref_tiles.specs.declared.rulebook.Rules.{Rules}
use Rattle.deal_steps.specs.declared.deals.Held.{Held}
use Rattle.deal_steps.specs.declared.steps.Step.{Step}
use Rattle.deal_steps.specs.Fitting.{Fits}
use Rattle.deal_cuts.specs.Cutting.{HasNoDeal}
use Rattle.deal_cuts.specs.declared.earlier.Earlier.{Earlier}
use Rattle.deal_cuts.specs.declared.earlier.Earlier.TheVariants as known
use Rattle.deal_search.specs.declared.settling.Settling.{Settling}
use Rattle.deal_search.specs.declared.settling.Settling.TheVariants as settling

-- no racks fit the first `n` steps, which are at least one
pub record EndsDeals (rules : Rules) (steps : List Step) (n : ℕ) : Type 0 where
  pub some : 0 < n
  pub within : n ≤ length steps
  pub none : HasNoDeal rules (take n steps)

-- some racks fit steps
pub record HaveDeal (rules : Rules) (steps : List Step) : Type 0 where
  pub racks : List Held
  pub fit : Fits rules steps racks

-- what is known about the first steps: that some racks fit them, or nothing
abbrev pub IsKnownOf : Rules → List Step → ℕ → Earlier → Type 0
IsKnownOf rules steps n known.Dealt = HaveDeal rules (take n steps)
IsKnownOf rules steps n known.Unsettled = Unit {0}

-- No racks fit the first `n` steps, and this is known about these without the last one.
pub record IsCut (rules : Rules) (steps : List Step) (n : ℕ) (earlier : Earlier) : Type 0 where
  pub ends : EndsDeals rules steps n
  pub known : IsKnownOf rules steps (n - 1) earlier

-- A deal fits; or a cut shows that no racks fit the first steps, and some fit those before the last of them, if the answer says so.
abbrev pub IsSettled : Rules → List Step → Settling → Type 0
IsSettled rules steps (settling.Dealt deal) = Fits rules steps deal
IsSettled rules steps (settling.NoDeal cut earlier) = IsCut rules steps (vec_len cut.places) earlier
IsSettled rules steps settling.Unknown = Unit {0}
