-- What a walk has written.
use Rattle.std.specs.Prelude.{◌≡◌, ℕ, ◌+◌, ◌<◌, ◌≤◌, Bool, true, List, length}
use Rattle.lex_file.specs.Nodes.{node_at}
use Rattle.lex_file.specs.Languages.{tail_in}
use Rattle.lex_file.specs.Formats.{most_arcs}
use Rattle.lex_build.specs.Bodies.{IsGrown, is_target}
use Rattle.lex_build.specs.Labels.{HasLabels}
use Rattle.lex_build.specs.declared.faults.BuildFault.{BuildFault}
use Rattle.lex_build.specs.declared.faults.BuildFault.TheVariants as why

-- A node whose tails are a set is written, or was written before; 0 names the node of the empty set, for which nothing is written.
-- What is new is no more than the labels of some strings of the set.
pub record IsWritten (old new : List ℕ) (has : List ℕ → Bool) (n : ℕ) : Type 0 where
  pub grown : IsGrown old new
  pub target : is_target new n ≡ true
  pub tails : (string : List ℕ) → tail_in (node_at new) n string ≡ has string
  pub nothing : n ≡ 0 → new ≡ old
  pub count : ℕ
  pub labels : HasLabels has count
  pub size : length new ≤ length old + count

-- some strings of the set have more labels than there is room for arcs
pub record HasTooMany (old : List ℕ) (has : List ℕ → Bool) : Type 0 where
  pub count : ℕ
  pub labels : HasLabels has count
  pub many : most_arcs < length old + count

-- Why no node is written. Lack of memory says nothing.
abbrev pub IsUnwritten : List ℕ → (List ℕ → Bool) → BuildFault → Type 0
IsUnwritten old has why.TooManyArcs = HasTooMany old has
IsUnwritten old has why.NoMemory = Unit {0}
