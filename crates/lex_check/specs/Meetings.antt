-- How the strings of two sets that begin with one label compare, as far as one step decides.
use Rattle.std.specs.Prelude.{◌≡◌, ℕ, ◌≤◌, Bool, true, false, List, [], ◌∷◌, length}
use Rattle.lex_file.specs.Lexicons.{IsAfter}
use Rattle.lex_check.specs.declared.differences.Difference.{Difference}
use Rattle.lex_check.specs.declared.differences.Difference.TheVariants.{Missing, Extra}
use Rattle.lex_check.specs.declared.meetings.Meeting.{Meeting}
use Rattle.lex_check.specs.declared.meetings.Meeting.TheVariants.{Agree, Deeper, Differ}
use Rattle.lex_check.specs.Orders.{IsBefore}
use Rattle.lex_check.specs.Differences.{Differs, path_of}

-- the first difference among the strings that begin with the label
pub record IsFirstUnder (label : ℕ) (file list : List ℕ → Bool) (difference : Difference) : Type 0 where
  pub starts : (rest : List ℕ) × (path_of difference ≡ label ∷ rest)
  pub differs : Differs file list difference
  pub agree : (rest : List ℕ) → IsBefore (label ∷ rest) (path_of difference) → file (label ∷ rest) ≡ list (label ∷ rest)

-- the difference of one label, by whether it is the file that has it
abbrev pub IsEnded : ℕ → Bool → Difference → Type 0
IsEnded label in_file (Extra path) = (in_file ≡ true) × (path.items ≡ label ∷ [])
IsEnded label in_file (Missing path) = (in_file ≡ false) × (path.items ≡ label ∷ [])

-- What a meeting says about the tails of two nodes that begin with the label: they are the same; or the label alone is in both or
-- in neither, and these nodes come after it; or they differ first there.
abbrev pub MeetingGives : {M N : Type 0} → (M → Type 0) → (M → List ℕ → Bool) → (M → ℕ) → M → (N → Type 0) → (N → List ℕ → Bool) → (N → ℕ) → N → ℕ → Meeting M N → Type 0
MeetingGives is_m tail_m height_m m is_n tail_n height_n n label Agree = (rest : List ℕ) → tail_m m (label ∷ rest) ≡ tail_n n (label ∷ rest)
MeetingGives is_m tail_m height_m m is_n tail_n height_n n label (Deeper next listed_next) =
    IsAfter is_m tail_m height_m m label next × IsAfter is_n tail_n height_n n label listed_next
    × (tail_m m (label ∷ []) ≡ tail_n n (label ∷ []))
MeetingGives is_m tail_m height_m m is_n tail_n height_n n label (Differ difference) = IsFirstUnder label (tail_m m) (tail_n n) difference

-- the path of a difference has at most this number of labels
abbrev pub IsShort : {M N : Type 0} → ℕ → Meeting M N → Type 0
IsShort bound Agree = Unit {0}
IsShort bound (Deeper next listed_next) = Unit {0}
IsShort bound (Differ difference) = length (path_of difference) ≤ bound
