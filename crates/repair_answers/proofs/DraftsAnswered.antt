-- What is answered of a draft, by the case of its sheet.
use Rattle.std.proofs.Common.{◌≡◌, ℕ, true, false, List, Option, Some, None, Result, Ok, Err, refl}
use Rattle.ref_tiles.specs.declared.rulebook.Rules.{Rules}
use Rattle.gcg_read.specs.declared.events.Event.{Event}
use Rattle.gcg_read.specs.declared.faults.ReadFault.{ReadFault}
use Rattle.game_walk.specs.declared.walking.Walk.{Walk}
use Rattle.game_case.specs.declared.entries.Entry.{Entry}
use Rattle.game_case.specs.declared.explains.Case.{Case}
use Rattle.game_case.specs.declared.findings.Finding.{Finding}
use Rattle.game_case.specs.declared.findings.Finding.TheVariants as finding
use Rattle.game_case.specs.Explaining.{IsWalkFor, HasItsWalk}
use Rattle.gcg_drafts.specs.declared.missing.Missing.{Missing}
use Rattle.repair_answers.specs.Answers.{is_illegal}
use Rattle.repair_answers.specs.declared.answers.Faulty.{Faulty}
use Rattle.repair_answers.specs.Drafts.{DraftRepairsIn, DraftRepairsBy, DraftRepairsOf}

pub none_legal : (what : Finding) (rules : Rules) (list : List (List ℕ)) (lacks : List Missing) (written : List Event) (walk : Walk) (most : ℕ) → is_illegal what ≡ false
    → DraftRepairsBy what rules list lacks written (Some walk) most None
none_legal finding.NoGame rules list lacks written walk most legal = refl
none_legal (finding.Legal complete) rules list lacks written walk most legal = refl
none_legal (finding.Illegal line fault) rules list lacks written walk most legal = cc
none_legal finding.Unsettled rules list lacks written walk most legal = refl

pub where_illegal : (what : Finding) (rules : Rules) (list : List (List ℕ)) (lacks : List Missing) (written : List Event) (walk : Walk) (most : ℕ) (f : Faulty) → is_illegal what ≡ true
    → DraftRepairsIn rules list lacks written walk most f → DraftRepairsBy what rules list lacks written (Some walk) most (Some f)
where_illegal finding.NoGame rules list lacks written walk most f illegal is = cc
where_illegal (finding.Legal complete) rules list lacks written walk most f illegal is = cc
where_illegal (finding.Illegal line fault) rules list lacks written walk most f illegal is = is
where_illegal finding.Unsettled rules list lacks written walk most f illegal is = cc

none_by : (read : Result Entry ReadFault) (rules : Rules) (list : List (List ℕ)) (lacks : List Missing) (walk : Option Walk) (most : ℕ) → walk ≡ None → IsWalkFor rules list read walk
    → DraftRepairsOf read rules list lacks walk most None
none_by (Ok entry) rules list lacks (Some walk) most none is = cc
none_by (Ok entry) rules list lacks None most none is = absurd is
none_by (Err fault) rules list lacks walk most none is = refl

-- if the sheet is not a record, there is no walk
pub none_walked : (rules : Rules) (list : List (List ℕ)) (lacks : List Missing) (case : Case) (most : ℕ) → HasItsWalk rules list case → case.walk ≡ None
    → DraftRepairsOf case.read rules list lacks case.walk most None
none_walked rules list lacks case most has none = none_by case.read rules list lacks case.walk most none has
