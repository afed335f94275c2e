-- Tables of examples: what a definition gives, and next to it what it should give.
use Rattle.std.proofs.Common.{◌≡◌, List, map}

-- both are equal in each row
abbrev pub Agree : {A : Type 0} → List (A × A) → Type 0
Agree rows = map (λ row. row.0) rows ≡ map (λ row. row.1) rows
