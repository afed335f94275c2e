-- A line with the place of its play.
use Rattle.std.specs.Prelude.{ℕ, List, ◌∷◌, ◌++◌, length, take, drop, Option, Some, None}
use Rattle.std.specs.Option.{option_map, option_and_then}
use Rattle.ref_board.specs.declared.directions.Dir.{Dir}
use Rattle.gcg_write.specs.Fields.{position_text}
use Rattle.gcg_numbers.specs.Numbers.{Last, last_field, after_colon, in_line}

-- where the last field of a text begins; none if all its bytes are blanks
abbrev pub last_start : List ℕ → Option ℕ
last_start text = option_map (λ (last : Last). length last.front) (last_field text)

-- where the third field from the end begins: the word of a play, behind which are its score and its total
abbrev pub word_start : List ℕ → Option ℕ
word_start text =
    option_and_then (λ (total : ℕ). option_and_then (λ (score : ℕ). last_start (take score (take total text))) (last_start (take total text))) (last_start text)

-- a text with a place put in there, and a blank (32) behind it
abbrev pub placed_at : (at : ℕ) → Dir → (text : List ℕ) → (start : Option ℕ) → List ℕ
placed_at at d text None = text
placed_at at d text (Some start) = take start text ++ (position_text at d ++ 32 ∷ drop start text)

-- A text with the place of its play before its word. If it has fewer than three fields, it stays as it is.
unfoldable pub with_place : (at : ℕ) → Dir → (text : List ℕ) → List ℕ
with_place at d text = placed_at at d text (word_start text)

-- A line with the place of its play, behind the first colon. A CR at its end stays there.
abbrev pub line_with_place : (at : ℕ) → Dir → List ℕ → List ℕ
line_with_place at d line = in_line (after_colon (with_place at d)) line
