-- Up to where a deal gives the racks that are shown, and what cannot be dealt, by the steps of a game.
use Rattle.std.specs.Prelude.{◌≡◌, ◌⊎◌, ℕ, ◌+◌, ◌-◌, ◌<◌, ◌==◌, List, [], ◌∷◌, ◌++◌, sum, take, slice_get, Some, None, IfSome, if◌then◌else◌}
use Rattle.std.specs.List.{flat_map}
use Rattle.ref_tiles.specs.declared.rulebook.Rules.{Rules}
use Rattle.ref_tiles.specs.Counting.{no_tiles, IsContainedIn}
use Rattle.deal_steps.specs.declared.steps.Motion.{Motion}
use Rattle.deal_steps.specs.declared.steps.Motion.TheVariants as motion
use Rattle.deal_steps.specs.declared.steps.Act.{Act}
use Rattle.deal_steps.specs.declared.steps.Act.TheVariants as act
use Rattle.deal_steps.specs.declared.steps.Step.{Step}
use Rattle.deal_steps.specs.declared.deals.Held.{Held}
use Rattle.deal_steps.specs.Bounds.{first_bound}
use Rattle.deal_steps.specs.Fitting.{Fits}
use Rattle.deal_cuts.specs.Cutting.{HasNoDeal}
use Rattle.explain_facts.specs.declared.facts.deals.DealFact.{DealFact}
use Rattle.explain_facts.specs.declared.facts.deals.DealFact.TheVariants as deal_fact
use Rattle.explain_facts.specs.declared.facts.deals.ExchangeLine.{ExchangeLine}
use Rattle.explain_facts.specs.declared.facts.deals.ClashLine.{ClashLine}
use Rattle.explain_facts.specs.Racks.{holder_of}

-- ---- exchanges

abbrev pub exchanged_by_motion : Motion → ℕ
exchanged_by_motion motion.Keeps = 0
exchanged_by_motion (motion.Lays used drawn) = 0
exchanged_by_motion (motion.Tries used) = 0
exchanged_by_motion (motion.Throws tiles) = sum tiles
exchanged_by_motion (motion.ThrowsUnknown n) = n

-- the number of tiles that a step exchanges
abbrev pub exchanged_by : Act → ℕ
exchanged_by (act.Turns shown what) = exchanged_by_motion what
exchanged_by (act.TakesBack used) = 0
exchanged_by (act.Ends holder tiles) = 0
exchanged_by act.Rests = 0

abbrev pub exchange_line : Step → List ExchangeLine
exchange_line s = if exchanged_by s.act == 0 then [] else record { line = s.line; player = s.player; tiles = exchanged_by s.act } ∷ []

-- the exchanges among some steps
abbrev pub exchange_lines : List Step → List ExchangeLine
exchange_lines steps = flat_map exchange_line steps

-- ---- what already cannot be together

-- what a line says about a rack: for a turn the tiles that it states, and for a last rack all
abbrev pub reported_by : Act → List ℕ
reported_by (act.Turns shown what) = shown
reported_by (act.TakesBack used) = no_tiles
reported_by (act.Ends holder tiles) = tiles
reported_by act.Rests = no_tiles

-- an act as it is, except that a turn states only some of its tiles, or that a last rack is not shown
abbrev pub ReportsPart : (less whole : Act) → Type 0
ReportsPart less (act.Turns shown what) = (some : List ℕ) × IsContainedIn some shown × (less ≡ act.Turns some what)
ReportsPart less (act.TakesBack used) = less ≡ act.TakesBack used
ReportsPart less (act.Ends holder tiles) = (less ≡ act.Ends holder tiles) ⊎ (less ≡ act.Rests)
ReportsPart less act.Rests = less ≡ act.Rests

abbrev pub IsPartOf : (less whole : Step) → Type 0
IsPartOf less whole = ReportsPart less.act whole.act × (less ≡ record whole { act = less.act })

-- the same steps, which show only a part of the racks
abbrev pub ArePartsOf : (less whole : List Step) → Type 0
ArePartsOf [] [] = Unit {0}
ArePartsOf [] (s ∷ steps) = ⊥
ArePartsOf (l ∷ less) [] = ⊥
ArePartsOf (l ∷ less) (s ∷ steps) = IsPartOf l s × ArePartsOf less steps

-- what a step says about a rack, if it says something
abbrev pub clash_line : Step → List ClashLine
clash_line s = if sum (reported_by s.act) == 0 then [] else record { line = s.line; player = holder_of s; tiles = reported_by s.act } ∷ []

abbrev pub clash_lines : List Step → List ClashLine
clash_lines steps = flat_map clash_line steps

-- These tiles on these lines already cannot be together: no racks fit the steps even if the lines show no more of the racks than
-- that. What is played, exchanged and taken back stays as it is.
pub record IsClash (rules : Rules) (steps : List Step) (lines : List ClashLine) : Type 0 where
  pub less : List Step
  pub parts : ArePartsOf less steps
  pub none : HasNoDeal rules less
  pub lines_are : lines ≡ clash_lines less

-- ---- each fact

-- the exchanges up to and including the step at a place
pub record AreExchanges (steps : List Step) (place : ℕ) (lines : List ExchangeLine) : Type 0 where
  pub step : Step
  pub there : slice_get steps place ≡ Some step
  pub lines_are : lines ≡ exchange_lines (take place steps) ++ exchange_line step

-- some racks fit the steps before a place, the last of which is on this line
pub record IsDealtTo (rules : Rules) (steps : List Step) (place line : ℕ) : Type 0 where
  pub step : Step
  pub some : 0 < place
  pub there : slice_get steps (place - 1) ≡ Some step
  pub on_line : line ≡ step.line
  pub racks : List Held
  pub fit : Fits rules (take place steps) racks

-- What each fact about deals says is true of the steps up to the one at a place. Where it says that no deal gives the racks, though no single line shows
-- too much, there is none, and no line exceeds a bound; and a clash that it names is one.
abbrev pub IsDealTrue : Rules → List Step → (place : ℕ) → DealFact → Type 0
IsDealTrue rules steps place (deal_fact.DealtTo line) = IsDealtTo rules steps place line
IsDealTrue rules steps place (deal_fact.NoDeal clash exchanges) =
    HasNoDeal rules (take (place + 1) steps) × AreExchanges steps place exchanges.items
    × IfSome clash (λ lines. IsClash rules (take (place + 1) steps) lines.items) × (first_bound rules (take (place + 1) steps) ≡ None)
