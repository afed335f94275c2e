-- What becomes of a candidate, by the correction that it has.
use Rattle.std.proofs.Common.{ℕ, List, subst}
use Rattle.std.specs.Prelude.{Result, Ok, Err, OnOk}
use Rattle.ref_tiles.specs.declared.rulebook.Rules.{Rules}
use Rattle.gcg_read.specs.declared.events.Event.{Event}
use Rattle.game_corrections.proofs.Fronts.{one_correction}
use Rattle.repair_changes.specs.Applied.{applied}
use Rattle.repair_single.specs.Reporting.{IsTriedWith, IsTried}
use Rattle.repair_single.specs.Trying.{IsWritable, HaveNone}
use Rattle.repair_single.specs.declared.candidate.Candidate.{Candidate}
use Rattle.repair_single.specs.declared.found.Found.{Found}
use Rattle.repair_single.specs.Remaining.{Weighing}

tried : (weigh : Weighing) (rules : Rules) (list : List (List ℕ)) (written : List Event) (c : Candidate) (right : List Event) (old new : Found) → IsWritable rules list (applied c.listed.change written) right
    → IsTriedWith weigh rules list written c.listed right old new → IsTried weigh rules list written c old new
tried weigh rules list written c right old new is with_right other of_other =
    subst (λ (es : List Event). IsTriedWith weigh rules list written c.listed es old new)
    (one_correction rules list (applied c.listed.change written) right other is.correction of_other.correction) with_right

pub tried_ok : {A E : Type 0} (weigh : Weighing) (rules : Rules) (list : List (List ℕ)) (written : List Event) (c : Candidate) (right : List Event) (old new : Found) (r : Result A E)
    → IsWritable rules list (applied c.listed.change written) right → OnOk r (IsTriedWith weigh rules list written c.listed right old new) → OnOk r (IsTried weigh rules list written c old new)
tried_ok weigh rules list written c right old new (Ok a) is with_right = tried weigh rules list written c right old new is with_right
tried_ok weigh rules list written c right old new (Err e) is with_right = tt

pub none_tried : (weigh : Weighing) (rules : Rules) (list : List (List ℕ)) (written : List Event) (c : Candidate) (old new : Found) → HaveNone rules list (applied c.listed.change written)
    → IsTried weigh rules list written c old new
none_tried weigh rules list written c old new none right is = absurd (none right is)
