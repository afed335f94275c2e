-- Tiles as lists of 27 numbers, one for each kind.
use Rattle.std.specs.Prelude.{ℕ, ◌+◌, ◌-◌, max, List, map, slice_index}
use Rattle.std.specs.List.{range_with_len}

-- the numbers of the kinds: A to Z are 0 to 25, a blank is 26
unfoldable pub kinds : List ℕ
kinds = range_with_len 0 27

-- the list with this number for each kind
abbrev pub table : (ℕ → ℕ) → List ℕ
table f = map f kinds

-- both piles together
unfoldable pub joined : List ℕ → List ℕ → List ℕ
joined tiles others = table (λ k. slice_index tiles k + slice_index others k)

-- the first pile without the others; 0 of a kind if there are fewer
unfoldable pub without : List ℕ → List ℕ → List ℕ
without tiles others = table (λ k. slice_index tiles k - slice_index others k)

-- the greater number of each kind
unfoldable pub greater : List ℕ → List ℕ → List ℕ
greater tiles others = table (λ k. max (slice_index tiles k) (slice_index others k))
