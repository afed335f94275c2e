-- Entries: what a walk puts on the places of a line. 0 means no new tile; otherwise an entry is 1 + 2 * letter, with A as 0, plus
-- one if a blank shows the letter.
use Rattle.std.specs.Prelude.{ℕ, ◌+◌, ◌-◌, ◌/◌, ◌%◌, ◌==◌, Bool, List, [], ◌∷◌, if◌then◌else◌}

-- the letter that the new tile shows, 0 to 25
abbrev pub letter_of_entry : ℕ → ℕ
letter_of_entry e = (e - 1) / 2

-- its label in a lexicon, 1 to 26
abbrev pub label_of_entry : ℕ → ℕ
label_of_entry e = letter_of_entry e + 1

-- whether the new tile is a blank
abbrev pub is_blank_entry : ℕ → Bool
is_blank_entry e = (e - 1) % 2 == 1

-- the kind of the new tile: 0 to 25 for a letter, 26 for a blank
abbrev pub kind_of_entry : ℕ → ℕ
kind_of_entry e = if is_blank_entry e then 26 else letter_of_entry e

-- the number of tiles of a kind that some entries use
abbrev pub uses : ℕ → List ℕ → ℕ
uses k [] = 0
uses k (e ∷ os) = if e == 0 then uses k os else (if kind_of_entry e == k then 1 else 0) + uses k os
