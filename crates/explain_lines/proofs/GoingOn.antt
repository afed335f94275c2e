-- A text with another after it, and more after that.
use Rattle.std.proofs.Common.{◌≡◌, ℕ, List, ◌++◌, ap, ◌∙◌}
use Rattle.explain_answers.specs.Openings.{GoesOn}

pub goes_on : (front old mid new more : List ℕ) → mid ≡ old ++ front → new ≡ mid ++ more → GoesOn front old new
goes_on front old mid new more first second = record { more = more; following = second ∙ ap (λ text. text ++ more) first }
