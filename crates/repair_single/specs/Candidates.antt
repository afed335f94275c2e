-- The changes with which a record has a correction, and which of them are repairs.
use Rattle.std.specs.Prelude.{◌≡◌, ℕ, ◌<◌, ◌≤◌, true, List, ◌++◌, All, AllPairs, Contains, Option}
use Rattle.ref_tiles.specs.declared.rulebook.Rules.{Rules}
use Rattle.gcg_read.specs.declared.events.Event.{Event}
use Rattle.game_deal.specs.Verdicts.{IsGame}
use Rattle.repair_changes.specs.Applied.{applied}
use Rattle.repair_changes.specs.declared.slips.Change.{Change}
use Rattle.repair_single.specs.Costs.{Rank, rank_at, is_earlier, is_ahead}
use Rattle.repair_single.specs.Remaining.{Weighing, AreFewer, count_by}
use Rattle.repair_single.specs.Repairs.{IsListed}
use Rattle.repair_single.specs.Trying.{IsWritable, IsWeighed}
use Rattle.repair_single.specs.declared.listed.Listed.{Listed}
use Rattle.repair_single.specs.declared.candidate.Candidate.{Candidate}

abbrev pub rank_in : Candidate → Rank
rank_in c = rank_at c.cost c.listed

-- a change of the list, with what it costs
pub record IsCandidate (weigh : Weighing) (rules : Rules) (list : List (List ℕ)) (written : List Event) (plays : List Change) (below : Option ℕ) (c : Candidate) : Type 0 where
  pub single : IsListed rules written plays c.listed
  pub weighed : IsWeighed weigh rules list written below c.listed.change c.cost

-- a change of the list with which the record has a correction that is a game and leaves few enough numbers and words wrong
pub record MayBeReported (weigh : Weighing) (rules : Rules) (list : List (List ℕ)) (written : List Event) (plays : List Change) (below : Option ℕ) (listed : Listed) : Type 0 where
  pub single : IsListed rules written plays listed
  pub right : List Event
  pub correction : IsWritable rules list (applied listed.change written) right
  pub fewer : AreFewer below (count_by weigh rules list listed.change written right)
  pub game : IsGame rules list right

-- a change has a candidate
pub record IsThere (found : List Candidate) (listed : Listed) : Type 0 where
  pub candidate : Candidate
  pub among : Contains found candidate
  pub same : candidate.listed ≡ listed

-- Candidates among the changes for which something holds, in the order of the list: all that make a game, and maybe others.
pub record AreAllOf (weigh : Weighing) (rules : Rules) (list : List (List ℕ)) (written : List Event) (plays : List Change) (below : Option ℕ) (Which : Listed → Type 0) (found : List Candidate) : Type 0 where
  pub each : All (λ (c : Candidate). IsCandidate weigh rules list written plays below c × Which c.listed) found
  pub ordered : AllPairs (λ (a b : Candidate). is_earlier (rank_in a) (rank_in b) ≡ true) found
  pub all : (listed : Listed) → Which listed → MayBeReported weigh rules list written plays below listed → IsThere found listed

-- a place from one on, and before another one
abbrev pub IsBetween : (from end : ℕ) → (place : ℕ) → Type 0
IsBetween from end place = (from ≤ place) × (place < end)

-- the candidates at such places
abbrev pub AreBetween : (weigh : Weighing) → Rules → (list : List (List ℕ)) → (written : List Event) → (plays : List Change) → (below : Option ℕ) → (from end : ℕ) → List Candidate → Type 0
AreBetween weigh rules list written plays below from end found = AreAllOf weigh rules list written plays below (λ listed. IsBetween from end listed.change.place) found

-- the candidates among some changes come after those that were found
pub record AddsAllOf (weigh : Weighing) (rules : Rules) (list : List (List ℕ)) (written : List Event) (plays : List Change) (below : Option ℕ) (Which : Listed → Type 0) (old new : List Candidate) : Type 0 where
  pub more : List Candidate
  pub added : new ≡ old ++ more
  pub are : AreAllOf weigh rules list written plays below Which more

-- those at a place
abbrev pub AddsCandidates : (weigh : Weighing) → Rules → (list : List (List ℕ)) → (written : List Event) → (plays : List Change) → (below : Option ℕ) → (place : ℕ) → (old new : List Candidate) → Type 0
AddsCandidates weigh rules list written plays below place old new = AddsAllOf weigh rules list written plays below (λ listed. listed.change.place ≡ place) old new

-- the candidate with a single change, or none
abbrev pub AddsListed : (weigh : Weighing) → Rules → (list : List (List ℕ)) → (written : List Event) → (plays : List Change) → (below : Option ℕ) → Listed → (old new : List Candidate) → Type 0
AddsListed weigh rules list written plays below one old new = AddsAllOf weigh rules list written plays below (λ listed. listed ≡ one) old new

-- Candidates at the places from one on, in the order in which they are given: all that make a game, and maybe others.
pub record AreCandidates (weigh : Weighing) (rules : Rules) (list : List (List ℕ)) (written : List Event) (plays : List Change) (below : Option ℕ) (from : ℕ) (found : List Candidate) : Type 0 where
  pub each : All (IsCandidate weigh rules list written plays below) found
  pub ordered : AllPairs (λ (a b : Candidate). is_ahead (rank_in a) (rank_in b) ≡ true) found
  pub all : (listed : Listed) → from ≤ listed.change.place → MayBeReported weigh rules list written plays below listed → IsThere found listed
