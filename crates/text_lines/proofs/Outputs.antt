-- What an output begins with, after several appends.
use Rattle.std.proofs.Common.{◌≡◌, ℕ, List, ◌++◌, arith}
use Rattle.std.proofs.lemmas.Grind.{common_steps}
use Rattle.text_lines.specs.Fronts.{IsFront}

-- what begins with a text that begins with another
front_of_front : (a b c : List ℕ) → IsFront a b → IsFront b c → IsFront a c
front_of_front a b c h k = grind (arith, common_steps)

front_of_longer : (a b t : List ℕ) → b ≡ a ++ t → IsFront a b
front_of_longer a b t e = grind (arith, common_steps)

-- what begins with a longer text begins with its front
pub front_through : (a b c t : List ℕ) → b ≡ a ++ t → IsFront b c → IsFront a c
front_through a b c t e h = front_of_front a b c (front_of_longer a b t e) h
