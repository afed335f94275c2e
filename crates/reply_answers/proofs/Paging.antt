-- The page of the case of a text.
use Rattle.std.proofs.Common.{◌≡◌, ℕ, Bool, List, Option, Result, Ok, Err, IfOk, subst}
use Rattle.ref_tiles.specs.declared.rulebook.Rules.{Rules}
use Rattle.game_case.specs.declared.explains.Case.{Case}
use Rattle.game_case.specs.Explaining.{IsCaseOf}
use Rattle.page_answers.specs.declared.cases.PagedCase.{PagedCase}
use Rattle.page_answers.specs.declared.makers.Maker.{Maker}
use Rattle.page_answers.specs.Pages.{IsLikelyAsked, IsPagedCase}
use Rattle.repair_answers.specs.declared.likely.Likely.{Likely}

-- the case stays as it is while its likely repair is looked for
pub paged : {E : Type 0} (maker : Maker) (rules : Rules) (list : List (List ℕ)) (likely : Bool) (case after : Case) (repair : Option Likely) (result : Result PagedCase E) → after ≡ case
    → IsLikelyAsked likely rules list case.text.items case.read repair
    → IfOk result (λ made. (text : List ℕ) (asked : Bool) → IsCaseOf rules list text after → IsLikelyAsked asked rules list text after.read repair → IsPagedCase asked maker rules list text made)
    → IfOk result (λ made. (text : List ℕ) → IsCaseOf rules list text case → IsPagedCase likely maker rules list text made)
paged maker rules list likely case after repair (Ok made) same is shows =
    λ text opened.
    let here = subst (λ c. (t : List ℕ) (asked : Bool) → IsCaseOf rules list t c → IsLikelyAsked asked rules list t c.read repair → IsPagedCase asked maker rules list t made) same shows in
    here text likely opened (subst (λ t. IsLikelyAsked likely rules list t case.read repair) opened.0 is)
paged maker rules list likely case after repair (Err why) same is shows = tt
