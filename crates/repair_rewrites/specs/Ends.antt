-- The end of a text.
use Rattle.std.specs.Prelude.{ℕ, ◌-◌, eqb, List, [], ◌∷◌, length, take, if◌then◌else◌}
use Rattle.std.specs.List.{ends_with}

-- a text without the LF (10) at its end
abbrev pub without_last_feed : List ℕ → List ℕ
without_last_feed text = if ends_with eqb text (10 ∷ []) then take (length text - 1) text else text
