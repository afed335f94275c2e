-- What the steps of a record that passed respect: sizes, the board, and the play that is about to be taken back.
use Rattle.std.specs.Prelude.{◌≡◌, ℕ, ◌+◌, ◌-◌, ◌≤◌, min, List, [], ◌∷◌, sum, length}
use Rattle.ref_tiles.specs.declared.rulebook.Rules.{Rules}
use Rattle.ref_tiles.specs.Counting.{no_tiles}
use Rattle.gcg_read.specs.declared.events.Seat.{Seat}
use Rattle.gcg_read.specs.declared.events.Seat.TheVariants.{First, Second}
use Rattle.deal_steps.specs.declared.steps.Motion.{Motion}
use Rattle.deal_steps.specs.declared.steps.Motion.TheVariants as motion
use Rattle.deal_steps.specs.declared.steps.Act.{Act}
use Rattle.deal_steps.specs.declared.steps.Act.TheVariants as act
use Rattle.deal_steps.specs.declared.steps.Step.{Step}
use Rattle.deal_steps.specs.declared.deals.Racks.{Racks}
use Rattle.deal_steps.specs.Piles.{joined}
use Rattle.deal_steps.specs.Steps.{of_seat}

-- Between two steps: the sizes, the tiles of the plays that stand, and those of a play that does not.
pub record Course : Type 0 where
  pub first : ℕ
  pub second : ℕ
  pub bag : ℕ
  pub laid : List ℕ
  pub waiting : Racks

abbrev pub none_waiting : Racks
none_waiting = record { first = no_tiles; second = no_tiles }

abbrev pub waits : Seat → List ℕ → Racks
waits First tiles = record { first = tiles; second = no_tiles }
waits Second tiles = record { first = no_tiles; second = tiles }

abbrev pub size_in : Course → Seat → ℕ
size_in c seat = of_seat seat c.first c.second

abbrev pub with_size : Course → Seat → ℕ → Course
with_size c First n = record c { first = n }
with_size c Second n = record c { second = n }

-- what a turn respects
abbrev pub MayTurn : Course → Seat → Motion → Type 0
MayTurn c seat motion.Keeps = Unit {0}
MayTurn c seat (motion.Lays used drawn) = (drawn ≡ min (sum used) c.bag) × (sum used ≤ size_in c seat)
MayTurn c seat (motion.Tries used) = sum used ≤ size_in c seat
MayTurn c seat (motion.Throws tiles) = (sum tiles ≤ size_in c seat) × (sum tiles ≤ c.bag)
MayTurn c seat (motion.ThrowsUnknown n) = (n ≤ size_in c seat) × (n ≤ c.bag)

abbrev pub MayAct : Course → Seat → Act → Type 0
MayAct c seat (act.Turns shown what) = (c.waiting ≡ none_waiting) × MayTurn c seat what
MayAct c seat (act.TakesBack used) = c.waiting ≡ waits seat used
MayAct c seat (act.Ends holder tiles) = (c.waiting ≡ none_waiting) × (sum tiles ≡ size_in c holder)
MayAct c seat act.Rests = c.waiting ≡ none_waiting

abbrev pub turn_course : Course → Seat → Motion → Course
turn_course c seat motion.Keeps = c
turn_course c seat (motion.Lays used drawn) =
    record (with_size c seat (size_in c seat - sum used + drawn)) { bag = c.bag - drawn; laid = joined c.laid used }
turn_course c seat (motion.Tries used) = record (with_size c seat (size_in c seat - sum used)) { waiting = waits seat used }
turn_course c seat (motion.Throws tiles) = c
turn_course c seat (motion.ThrowsUnknown n) = c

abbrev pub act_course : Course → Seat → Act → Course
act_course c seat (act.Turns shown what) = turn_course c seat what
act_course c seat (act.TakesBack used) = record (with_size c seat (size_in c seat + sum used)) { waiting = none_waiting }
act_course c seat (act.Ends holder tiles) = c
act_course c seat act.Rests = c

-- a step on its course
pub record IsOnCourse (c : Course) (s : Step) : Type 0 where
  pub first : s.first ≡ c.first
  pub second : s.second ≡ c.second
  pub bag : s.bag ≡ c.bag
  pub board : s.board ≡ joined c.laid (joined c.waiting.first c.waiting.second)
  pub may : MayAct c s.player s.act

abbrev pub IsRunFrom : Course → List Step → Type 0
IsRunFrom c [] = Unit {0}
IsRunFrom c (s ∷ steps) = IsOnCourse c s × IsRunFrom (act_course c s.player s.act) steps

abbrev pub first_course : Rules → Course
first_course rules = record { first = 7; second = 7; bag = sum rules.counts - 14; laid = no_tiles; waiting = none_waiting }

-- the steps of a whole game
abbrev pub IsRun : Rules → List Step → Type 0
IsRun rules steps = IsRunFrom (first_course rules) steps

-- the lists of a step have a number for each kind
abbrev pub HasKindsBy : Motion → Type 0
HasKindsBy motion.Keeps = Unit {0}
HasKindsBy (motion.Lays used drawn) = length used ≡ 27
HasKindsBy (motion.Tries used) = length used ≡ 27
HasKindsBy (motion.Throws tiles) = length tiles ≡ 27
HasKindsBy (motion.ThrowsUnknown n) = Unit {0}

abbrev pub HasKinds : Act → Type 0
HasKinds (act.Turns shown what) = (length shown ≡ 27) × HasKindsBy what
HasKinds (act.TakesBack used) = length used ≡ 27
HasKinds (act.Ends holder tiles) = length tiles ≡ 27
HasKinds act.Rests = Unit {0}

abbrev pub HaveKinds : List Step → Type 0
HaveKinds [] = Unit {0}
HaveKinds (s ∷ steps) = HasKinds s.act × HaveKinds steps
