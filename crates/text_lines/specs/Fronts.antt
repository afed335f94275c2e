-- What a text begins with.
use Rattle.std.specs.Prelude.{◌≡◌, ℕ, List, length, take}

-- the text begins with this one
abbrev pub IsFront : List ℕ → List ℕ → Type 0
IsFront front text = take (length front) text ≡ front
