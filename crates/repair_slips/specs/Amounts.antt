-- The amounts that a challenge or a penalty may have, and the numbers of tiles that may be exchanged.
use Rattle.std.specs.Prelude.{ℕ, ℤ, pos, neg_ℤ, ◌*◌, ◌==◌, List, [], ◌∷◌, if◌then◌else◌}
use Rattle.std.specs.Ordering.{int_eq}
use Rattle.ref_tiles.specs.declared.rulebook.Rules.{Rules}
use Rattle.repair_changes.specs.declared.slips.Slip.{Slip}
use Rattle.repair_changes.specs.declared.slips.Slip.TheVariants as slip
use Rattle.repair_changes.specs.declared.slips.CodeSlip.TheVariants as code
use Rattle.repair_slips.specs.Each.{lists_to}

-- the bonus for the challenge of a number of words
abbrev pub bonus_for : Rules → (words : ℕ) → ℤ
bonus_for rules words = pos (rules.challenge_unit * words)

-- the penalty of a number of steps, as the score of its line
abbrev pub penalty_of : Rules → (steps : ℕ) → ℤ
penalty_of rules steps = neg_ℤ (pos (rules.time_step * steps))

-- an amount other than the written one
abbrev pub other_amount : (written : ℤ) → (right : ℤ) → List Slip
other_amount written right = if int_eq right written then [] else slip.Amount right ∷ []

abbrev pub other_bonus : Rules → (written : ℤ) → (words : ℕ) → List Slip
other_bonus rules written words = other_amount written (bonus_for rules words)

abbrev pub other_penalty : Rules → (written : ℤ) → (steps : ℕ) → List Slip
other_penalty rules written steps = other_amount written (penalty_of rules steps)

-- the other bonuses for 1 to 8 words
unfoldable pub other_bonuses : Rules → (written : ℤ) → List Slip
other_bonuses rules written = lists_to (other_bonus rules written) 8

-- the other penalties of 1 to 20 steps
unfoldable pub other_penalties : Rules → (written : ℤ) → List Slip
other_penalties rules written = lists_to (other_penalty rules written) 20

-- an exchange of this number of tiles, if that is not the written number
abbrev pub other_number : (written : ℕ) → (tiles : ℕ) → List Slip
other_number written tiles = if tiles == written then [] else slip.Number tiles ∷ []

-- an exchange of another number of tiles, 1 to 7
unfoldable pub other_numbers : (written : ℕ) → List Slip
other_numbers written = lists_to (other_number written) 7

abbrev pub exchange_of : (tiles : ℕ) → List Slip
exchange_of tiles = slip.Code (code.Exchange tiles) ∷ []

-- an exchange of 1 to 7 tiles
unfoldable pub exchanges : List Slip
exchanges = lists_to exchange_of 7
