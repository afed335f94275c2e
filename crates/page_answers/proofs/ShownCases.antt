-- What a page shows of a case.
use Rattle.std.proofs.Common.{◌≡◌, ℕ, List, Option, Some, Result, Ok, sym, subst}
use Rattle.ref_tiles.specs.declared.rulebook.Rules.{Rules}
use Rattle.gcg_read.specs.declared.events.Event.{Event}
use Rattle.gcg_read.specs.declared.faults.ReadFault.{ReadFault}
use Rattle.game_walk.specs.declared.walking.Walk.{Walk}
use Rattle.game_walk.specs.Walks.{IsWalk, IsWalkOf}
use Rattle.game_case.specs.declared.entries.Entry.{Entry}
use Rattle.game_case.specs.declared.explains.Case.{Case}
use Rattle.game_case.specs.Explaining.{IsWalkFor, IsCaseOf}
use Rattle.repair_answers.specs.declared.likely.Likely.{Likely}
use Rattle.page_answers.specs.declared.contents.PageContents.{PageContents}
use Rattle.page_answers.specs.Pages.{ShowsEntry, IsShownOf}

-- if it is what the walk over the record gives, whatever the right numbers are, then it is what the case has
pub shown_for : (rules : Rules) (list : List (List ℕ)) (own text : List ℕ) (read : Result Entry ReadFault) (likely : Option Likely) (walked : Option Walk) (entry : Entry) (walk : Walk)
    (contents : PageContents) → read ≡ Ok entry → walked ≡ Some walk → own ≡ text → IsWalkFor rules list read walked
    → ((right : List Event) → IsWalk rules list entry.record.events right walk → ShowsEntry rules list own read likely entry contents)
    → IsShownOf rules list text read likely (Some contents)
shown_for rules list own text read likely walked entry walk contents is_read is_walked same goes shows =
    let of_entry : IsWalkFor rules list (Ok entry) walked = subst (λ (r : Result Entry ReadFault). IsWalkFor rules list r walked) is_read goes in
    let over : IsWalkOf rules list entry.record.events walk = subst (λ (w : Option Walk). IsWalkFor rules list (Ok entry) w) is_walked of_entry in
    let reported = subst (λ (r : Result Entry ReadFault). ShowsEntry rules list own r likely entry contents) is_read (shows over.right over.is) in
    let of_text = subst (λ (t : List ℕ). ShowsEntry rules list t (Ok entry) likely entry contents) same reported in
    subst (λ (r : Result Entry ReadFault). IsShownOf rules list text r likely (Some contents)) (sym is_read) of_text

-- the case of a text is also that of its own bytes
pub of_own : (rules : Rules) (list : List (List ℕ)) (text : List ℕ) (case : Case) → IsCaseOf rules list text case → IsCaseOf rules list case.text.items case
of_own rules list text case is = subst (λ (t : List ℕ). IsCaseOf rules list t case) (sym is.0) is
