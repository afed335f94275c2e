-- What is answered of the case of a record.
use Rattle.std.proofs.Common.{◌≡◌, ℕ, true, false, List, Option, Some, None, Result, Ok, Err, refl, subst}
use Rattle.ref_tiles.specs.declared.rulebook.Rules.{Rules}
use Rattle.gcg_read.specs.declared.events.Event.{Event}
use Rattle.gcg_read.specs.declared.faults.ReadFault.{ReadFault}
use Rattle.game_walk.specs.Walks.{IsWalkOf}
use Rattle.game_walk.specs.declared.walking.Walk.{Walk}
use Rattle.game_case.specs.declared.entries.Entry.{Entry}
use Rattle.game_case.specs.declared.explains.Case.{Case}
use Rattle.game_case.specs.declared.findings.Finding.{Finding}
use Rattle.game_case.specs.declared.findings.Finding.TheVariants as finding
use Rattle.game_case.specs.Explaining.{IsWalkFor, HasItsWalk}
use Rattle.repair_answers.specs.Answers.{is_illegal, RepairsIn, RepairsBy, RepairsOf}
use Rattle.repair_answers.specs.Likely.{IsLikelyOfCase}
use Rattle.repair_answers.specs.declared.answers.Faulty.{Faulty}

pub none_legal : (what : Finding) (rules : Rules) (list : List (List ℕ)) (text : List ℕ) (written : List Event) (walk : Walk) (most : ℕ) → is_illegal what ≡ false
    → RepairsBy what rules list text written (Some walk) most None
none_legal finding.NoGame rules list text written walk most legal = refl
none_legal (finding.Legal complete) rules list text written walk most legal = refl
none_legal (finding.Illegal line fault) rules list text written walk most legal = cc
none_legal finding.Unsettled rules list text written walk most legal = refl

pub where_illegal : (what : Finding) (rules : Rules) (list : List (List ℕ)) (text : List ℕ) (written : List Event) (walk : Walk) (most : ℕ) (f : Faulty) → is_illegal what ≡ true
    → RepairsIn rules list text written walk most f → RepairsBy what rules list text written (Some walk) most (Some f)
where_illegal finding.NoGame rules list text written walk most f illegal is = cc
where_illegal (finding.Legal complete) rules list text written walk most f illegal is = cc
where_illegal (finding.Illegal line fault) rules list text written walk most f illegal is = is
where_illegal finding.Unsettled rules list text written walk most f illegal is = cc

none_by : (read : Result Entry ReadFault) (rules : Rules) (list : List (List ℕ)) (text : List ℕ) (walk : Option Walk) (most : ℕ) → walk ≡ None → IsWalkFor rules list read walk
    → RepairsOf read rules list text walk most None
none_by (Ok entry) rules list text (Some walk) most none is = cc
none_by (Ok entry) rules list text None most none is = absurd is
none_by (Err fault) rules list text walk most none is = refl

-- if the text is not a record, there is no walk
pub none_walked : (rules : Rules) (list : List (List ℕ)) (case : Case) (most : ℕ) → HasItsWalk rules list case → case.walk ≡ None → RepairsOf case.read rules list case.text.items case.walk most None
none_walked rules list case most has none = none_by case.read rules list case.text.items case.walk most none has

pub walked : (rules : Rules) (list : List (List ℕ)) (case : Case) (walk : Walk) → HasItsWalk rules list case → case.walk ≡ Some walk → IsWalkFor rules list case.read (Some walk)
walked rules list case walk has is = subst (IsWalkFor rules list case.read) is has

none_likely_by : (read : Result Entry ReadFault) (rules : Rules) (list : List (List ℕ)) (text : List ℕ) (walk : Option Walk) → walk ≡ None → IsWalkFor rules list read walk
    → IsLikelyOfCase rules list text read None
none_likely_by (Ok entry) rules list text (Some walk) none is = cc
none_likely_by (Ok entry) rules list text None none is = absurd is
none_likely_by (Err fault) rules list text walk none is = refl

pub none_likely : (rules : Rules) (list : List (List ℕ)) (case : Case) → HasItsWalk rules list case → case.walk ≡ None → IsLikelyOfCase rules list case.text.items case.read None
none_likely rules list case has none = none_likely_by case.read rules list case.text.items case.walk none has

pub walked_entry : (rules : Rules) (list : List (List ℕ)) (case : Case) (entry : Entry) (walk : Walk) → HasItsWalk rules list case → case.walk ≡ Some walk → case.read ≡ Ok entry
    → IsWalkOf rules list entry.record.events walk
walked_entry rules list case entry walk has there read = subst (λ r. IsWalkFor rules list r (Some walk)) read (walked rules list case walk has there)
