-- What a step does with the tiles of a rack, by numbers of tiles of chosen kinds, and the least number that stays in given places.
use Rattle.std.specs.Prelude.{◌≡◌, ◌⊎◌, ℕ, ◌+◌, ◌-◌, ◌<◌, ◌≤◌, min, ◌&&◌, not, Bool, List, [], ◌∷◌, Option, Some, None, if◌then◌else◌}
use Rattle.ref_tiles.specs.declared.rulebook.Rules.{Rules}
use Rattle.ref_tiles.specs.Counting.{no_tiles}
use Rattle.gcg_read.specs.declared.events.Seat.{Seat}
use Rattle.gcg_read.specs.declared.events.Seat.TheVariants.{First, Second}
use Rattle.deal_steps.specs.declared.steps.Motion.{Motion}
use Rattle.deal_steps.specs.declared.steps.Motion.TheVariants as motion
use Rattle.deal_steps.specs.declared.steps.Act.{Act}
use Rattle.deal_steps.specs.declared.steps.Act.TheVariants as act
use Rattle.deal_steps.specs.declared.steps.Step.{Step}
use Rattle.deal_steps.specs.Steps.{used_by, of_turn, of_act, swaps, is_by, needed, size_of}
use Rattle.deal_cuts.specs.declared.cuts.Places.{Places}
use Rattle.deal_cuts.specs.declared.flows.Flow.{Flow}
use Rattle.deal_cuts.specs.Cutting.{where_so, number_in, number_beside}

abbrev pub tiles_of : Option (List ℕ) → List ℕ
tiles_of None = no_tiles
tiles_of (Some tiles) = tiles

-- what is known to be on a rack at a step
abbrev pub known_at : Seat → Step → List ℕ
known_at seat s = tiles_of (needed seat s)

-- the known tiles that leave a rack at a step
abbrev pub leaving : Seat → Step → List ℕ
leaving seat s = if is_by seat s then of_act used_by s.act else no_tiles

abbrev pub taken_back : Act → List ℕ
taken_back (act.Turns shown what) = no_tiles
taken_back (act.TakesBack used) = used
taken_back (act.Ends holder tiles) = no_tiles
taken_back act.Rests = no_tiles

-- the tiles that come back from the board to a rack at a step
abbrev pub coming : Seat → Step → List ℕ
coming seat s = if is_by seat s then taken_back s.act else no_tiles

abbrev pub unknown_by : Motion → ℕ
unknown_by motion.Keeps = 0
unknown_by (motion.Lays used drawn) = 0
unknown_by (motion.Tries used) = 0
unknown_by (motion.Throws tiles) = 0
unknown_by (motion.ThrowsUnknown n) = n

abbrev pub unknown_of : Act → ℕ
unknown_of what = of_turn 0 unknown_by what

-- the number of unknown tiles that are thrown off a rack at a step
abbrev pub unknown_at : Seat → Step → ℕ
unknown_at seat s = if is_by seat s then unknown_of s.act else 0

-- what passes through a rack from before a step to before the next
unfoldable pub flow_of : (chosen : List Bool) → Seat → (s next : Step) → Flow
flow_of chosen seat s next =
    record {
      size = size_of s seat;
      known_in = number_in chosen (known_at seat s);
      known_beside = number_beside chosen (known_at seat s);
      remaining_in = number_in chosen (leaving seat s);
      remaining_beside = number_beside chosen (leaving seat s);
      to_bag = swaps s.act;
      unknown = unknown_at seat s;
      back_in = number_in chosen (coming seat s);
      drawn =
          size_of next seat + number_in chosen (leaving seat s) + number_beside chosen (leaving seat s) + unknown_at seat s
          - (size_of s seat + number_in chosen (coming seat s) + number_beside chosen (coming seat s));
    }

-- the tiles of a rack, except those that are known to leave it
unfoldable pub others_of : Flow → ℕ
others_of f = f.size - (f.remaining_in + f.remaining_beside)

-- the number of these that get outside, by whether rack and bag are inside afterwards
unfoldable pub strays_of : Flow → (stays bag : Bool) → ℕ
strays_of f stays bag = where_so (not stays) (others_of f - f.unknown) + where_so (not bag) f.unknown

-- the least number of tiles that come in by a rack, by whether it was inside
unfoldable pub gained_by : Flow → (was stays bag : Bool) → ℕ
gained_by f was stays bag =
    where_so (not was) (f.known_in - f.remaining_in - strays_of f stays bag) + where_so (f.to_bag && bag) f.remaining_in + where_so stays f.back_in

-- the greatest number that get out
unfoldable pub lost_by : Flow → (bag_was was stays bag : Bool) → ℕ
lost_by f bag_was was stays bag =
    where_so was (f.remaining_in + min (strays_of f stays bag) (others_of f - (f.known_beside - f.remaining_beside)))
    + where_so (bag_was && not stays) f.drawn

-- the board before the next step is as this step leaves it, counting tiles of the chosen kinds
unfoldable pub BoardFollows : (chosen : List Bool) → (s next : Step) → Type 0
BoardFollows chosen s next =
    number_in chosen next.board + ((flow_of chosen First s next).back_in + (flow_of chosen Second s next).back_in)
    ≡ number_in chosen s.board + where_so (not (swaps s.act)) ((flow_of chosen First s next).remaining_in + (flow_of chosen Second s next).remaining_in)

-- the least number inside before the next step, given a least number before a step; no more than 2^32 are counted
unfoldable pub carried_to : (chosen : List Bool) → (s next : Step) → (from to : Places) → (inside : ℕ) → ℕ
carried_to chosen s next from to inside =
    min
    (inside
    + (gained_by (flow_of chosen First s next) from.first to.first to.bag + gained_by (flow_of chosen Second s next) from.second to.second to.bag)
    - (lost_by (flow_of chosen First s next) from.bag from.first to.first to.bag + lost_by (flow_of chosen Second s next) from.bag from.second to.second to.bag
    + where_so (from.bag && not to.bag) (s.bag - ((flow_of chosen First s next).drawn + (flow_of chosen Second s next).drawn))))
    4294967296

-- the least number inside before a step: all except those on the board, and the sizes of the places outside
unfoldable pub at_least : (chosen : List Bool) → Places → Rules → Step → ℕ
at_least chosen places rules s =
    number_in chosen rules.counts - number_in chosen s.board
    - (where_so (not places.bag) s.bag + where_so (not places.first) s.first + where_so (not places.second) s.second)

-- More are inside than there can be: more than the sizes, minus the known tiles of other kinds; or more than all tiles of the
-- chosen kinds, minus those on the board and the known ones outside.
abbrev pub IsOver : (chosen : List Bool) → Places → Rules → Step → (inside : ℕ) → Type 0
IsOver chosen places rules s inside =
    (where_so places.bag s.bag + where_so places.first s.first + where_so places.second s.second
    < inside + where_so places.first (number_beside chosen (known_at First s)) + where_so places.second (number_beside chosen (known_at Second s)))
    ⊎ (number_in chosen rules.counts
    < number_in chosen s.board + inside + where_so (not places.first) (number_in chosen (known_at First s)) + where_so (not places.second) (number_in chosen (known_at Second s)))

-- the numbers of a step are small enough to be added up
pub record AreSmall (s : Step) : Type 0 where
  pub first : s.first < 65536
  pub second : s.second < 65536
  pub bag : s.bag < 65536
  pub first_unknown : unknown_at First s < 65536
  pub second_unknown : unknown_at Second s < 65536

-- and those of a flow
pub record IsSmall (f : Flow) : Type 0 where
  pub size : f.size < 65536
  pub known : f.known_in + f.known_beside ≤ 6885
  pub remaining : f.remaining_in + f.remaining_beside ≤ 6885
  pub unknown : f.unknown < 65536
  pub back : f.back_in ≤ 6885
  pub drawn : f.drawn < 262144

-- if `inside` tiles are inside before the first step, there are more than there can be before the last that has places
abbrev pub IsShown : (chosen : List Bool) → Rules → (inside : ℕ) → List Step → List Places → Type 0
IsShown chosen rules inside steps [] = ⊥
IsShown chosen rules inside [] (here ∷ places) = ⊥
IsShown chosen rules inside (s ∷ steps) (here ∷ []) = AreSmall s × IsOver chosen here rules s inside
IsShown chosen rules inside (s ∷ []) (here ∷ to ∷ places) = ⊥
IsShown chosen rules inside (s ∷ next ∷ steps) (here ∷ to ∷ places) =
    AreSmall s × AreSmall next × BoardFollows chosen s next
    × IsShown chosen rules (carried_to chosen s next here to inside) (next ∷ steps) (to ∷ places)

-- the places show that there are more tiles of the chosen kinds than there can be
abbrev pub IsCut : Rules → List Step → (chosen : List Bool) → List Places → Type 0
IsCut rules [] chosen places = ⊥
IsCut rules (s ∷ steps) chosen [] = ⊥
IsCut rules (s ∷ steps) chosen (here ∷ places) = AreSmall s × IsShown chosen rules (at_least chosen here rules s) (s ∷ steps) (here ∷ places)
