-- A list in which some neighbours are changed.
use Rattle.std.specs.Prelude.{ℕ, ◌+◌, nat_le, List, ◌++◌, length, take, drop, if◌then◌else◌}

-- The list with `many` elements, from a place on, changed by a function; the list itself if it has fewer there.
unfoldable pub spliced : {A : Type 0} → (place many : ℕ) → (List A → List A) → List A → List A
spliced place many f xs =
    if nat_le (place + many) (length xs) then take place xs ++ f (take many (drop place xs)) ++ drop (place + many) xs else xs
