-- The first of some repairs is one of them.
use Rattle.std.proofs.Common.{◌≡◌, List, [], ◌∷◌, Option, Some, sym, subst, arith}
use Rattle.std.specs.Prelude.{All, IfSome}
use Rattle.repair_single.specs.declared.repair.Repair.{Repair}
use Rattle.repair_pairs.specs.Chains.{IsFirst}

pub first_is : (P : Repair → Type 0) (found : List Repair) (first : Option Repair) → All P found → IsFirst found first → IfSome first P
first_is P [] first all is = subst (λ (o : Option Repair). IfSome o P) (sym is) tt
first_is P (repair ∷ rest) first all is = subst (λ (o : Option Repair). IfSome o P) (sym is) (all 0 repair (omega arith))
