-- How a path is stored in a row of bytes: each label as the number above it, and zeros after the last.
use Rattle.std.specs.Prelude.{◌≡◌, ℕ, zero, suc, ◌≤◌, true, List, [], ◌∷◌, length}
use Rattle.std.specs.List.{list_all}
use Rattle.lex_file.specs.Lexicons.{is_label}

-- the row of the given number of bytes that holds a path
unfoldable pub held : ℕ → List ℕ → List ℕ
held zero path = []
held (suc count) [] = 0 ∷ held count []
held (suc count) (label ∷ path) = suc label ∷ held count path

-- the path that a row of bytes holds
unfoldable pub path_in : List ℕ → List ℕ
path_in [] = []
path_in (zero ∷ bytes) = []
path_in (suc label ∷ bytes) = label ∷ path_in bytes

-- 16 bytes hold a path of labels, and nothing after it
pub record IsHeld (bytes : List ℕ) : Type 0 where
  pub row : bytes ≡ held 16 (path_in bytes)
  pub few : length (path_in bytes) ≤ 16
  pub labels : list_all is_label (path_in bytes) ≡ true
