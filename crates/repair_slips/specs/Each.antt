-- Lists one after another: for each number below another one or up to it, for each letter, and for each kind of tile.
use Rattle.std.specs.Prelude.{ℕ, ◌+◌, List, [], Option, Some, None}
use Rattle.std.specs.List.{flat_map, range_with_len}
use Rattle.ref_tiles.specs.declared.letters.Letter.{Letter}
use Rattle.ref_tiles.specs.declared.kinds.Kind.{Kind}
use Rattle.ref_tiles.specs.Letters.{letter_at}
use Rattle.ref_tiles.specs.Kinds.{kind_at}

-- the lists for 0, 1 and so on, up to the number before the end
unfoldable pub lists_below : {A : Type 0} → (ℕ → List A) → (end : ℕ) → List A
lists_below f end = flat_map f (range_with_len 0 end)

-- the list for the next number
abbrev pub for_next : {A : Type 0} → (ℕ → List A) → ℕ → List A
for_next f number = f (number + 1)

-- the lists for 1, 2 and so on, up to the last number
abbrev pub lists_to : {A : Type 0} → (ℕ → List A) → (last : ℕ) → List A
lists_to f last = lists_below (for_next f) last

abbrev pub on_letter : {A : Type 0} → (Letter → List A) → Option Letter → List A
on_letter f None = []
on_letter f (Some l) = f l

-- the list for the letter with this number
abbrev pub for_letter : {A : Type 0} → (Letter → List A) → ℕ → List A
for_letter f number = on_letter f (letter_at number)

-- the lists for A to Z
abbrev pub for_letters : {A : Type 0} → (Letter → List A) → List A
for_letters f = lists_below (for_letter f) 26

-- the list for the kind with this number
abbrev pub for_kind : {A : Type 0} → (Kind → List A) → ℕ → List A
for_kind f number = f (kind_at number)

-- the lists for A to Z and then the blank
abbrev pub for_kinds : {A : Type 0} → (Kind → List A) → List A
for_kinds f = lists_below (for_kind f) 27
