-- What is true of racks that cannot be dealt, by the steps of a game.
use Rattle.std.specs.Prelude.{◌≡◌, ℕ, ◌+◌, ◌-◌, ◌<◌, ◌==◌, ◌&&◌, ◌||◌, not, Bool, true, List, [], ◌∷◌, ◌++◌, length, sum, sum_by, take, reverse, slice_get, Option, Some, None, if◌then◌else◌}
use Rattle.std.specs.List.{list_any}
use Rattle.ref_tiles.specs.declared.rulebook.Rules.{Rules}
use Rattle.ref_tiles.specs.declared.kinds.Kind.{Kind}
use Rattle.ref_tiles.specs.Counting.{no_tiles, count_of}
use Rattle.gcg_read.specs.declared.events.Seat.{Seat}
use Rattle.gcg_read.specs.declared.events.Seat.TheVariants.{First, Second}
use Rattle.deal_steps.specs.declared.steps.Motion.{Motion}
use Rattle.deal_steps.specs.declared.steps.Motion.TheVariants as motion
use Rattle.deal_steps.specs.declared.steps.Act.{Act}
use Rattle.deal_steps.specs.declared.steps.Act.TheVariants as act
use Rattle.deal_steps.specs.declared.steps.Step.{Step}
use Rattle.deal_steps.specs.declared.known.Known.{Known}
use Rattle.deal_steps.specs.Piles.{greater, without, joined}
use Rattle.deal_steps.specs.Steps.{needed, ends_epoch, size_of}
use Rattle.deal_steps.specs.Bounds.{gone, low_at}
use Rattle.deal_steps.specs.Knowing.{IsShownAt}
use Rattle.explain_facts.specs.declared.facts.racks.RackFact.{RackFact}
use Rattle.explain_facts.specs.declared.facts.racks.RackFact.TheVariants as rack_fact
use Rattle.explain_facts.specs.declared.facts.racks.RackLine.{RackLine}
use Rattle.explain_facts.specs.declared.facts.racks.KindLine.{KindLine}
use Rattle.explain_facts.specs.declared.facts.racks.Leaving.{Leaving}
use Rattle.explain_facts.specs.declared.facts.racks.Leaving.TheVariants as leaves

-- ---- what the lines show of a rack

-- the player whose rack a step shows: the one who moves, or the holder of a last rack
abbrev pub holder_by : Seat → Act → Seat
holder_by player (act.Turns shown what) = player
holder_by player (act.TakesBack used) = player
holder_by player (act.Ends holder tiles) = holder
holder_by player act.Rests = player

abbrev pub holder_of : Step → Seat
holder_of s = holder_by s.player s.act

-- the tiles that a turn takes off a rack: those of a play that stands, and those of an exchange
abbrev pub leaving_by : Motion → Leaving
leaving_by motion.Keeps = leaves.Nothing
leaving_by (motion.Lays used drawn) = leaves.Plays used
leaving_by (motion.Tries used) = leaves.Nothing
leaving_by (motion.Throws tiles) = leaves.Exchanges tiles
leaving_by (motion.ThrowsUnknown n) = leaves.Nothing

abbrev pub leaving : Act → Leaving
leaving (act.Turns shown what) = leaving_by what
leaving (act.TakesBack used) = leaves.Nothing
leaving (act.Ends holder tiles) = leaves.Nothing
leaving act.Rests = leaves.Nothing

-- the tiles that leave
abbrev pub remaining_by : Leaving → List ℕ
remaining_by leaves.Nothing = no_tiles
remaining_by (leaves.Plays tiles) = tiles
remaining_by (leaves.Exchanges tiles) = tiles

abbrev pub rack_line_by : Step → Option (List ℕ) → List RackLine
rack_line_by s None = []
rack_line_by s (Some tiles) = if sum tiles == 0 then [] else record { line = s.line; shown = tiles; leaves = leaving s.act } ∷ []

-- what a step shows of a player's rack: the tiles that its line states and those that it uses, and which leave
abbrev pub rack_line : Seat → Step → List RackLine
rack_line seat s = rack_line_by s (needed seat s)

-- the same for the steps after the player's latest exchange of unknown tiles, in a past with the latest step first
abbrev pub rack_lines : Seat → (past : List Step) → List RackLine
rack_lines seat [] = []
rack_lines seat (s ∷ past) = if ends_epoch seat s then [] else rack_lines seat past ++ rack_line seat s

-- What some lines leave on a rack after the last of them, if it had these tiles before the first: from line to line, for each kind
-- the greater of what was there and what the line shows, less what leaves.
abbrev pub remaining_after : (known : List ℕ) → List RackLine → List ℕ
remaining_after known [] = known
remaining_after known (l ∷ lines) = remaining_after (without (greater known l.shown) (remaining_by l.leaves)) lines

-- What a rack must hold at a step, if it had these tiles before: for each kind no fewer than the step's own line shows, if it shows some.
abbrev pub together : (known : List ℕ) → (own : List RackLine) → List ℕ
together known [] = known
together known (l ∷ lines) = greater known l.shown

-- what the lines up to a step, after a past, together show that a player's rack must hold at it
abbrev pub held_at : Seat → (past : List Step) → Step → List ℕ
held_at seat past s = together (remaining_after no_tiles (rack_lines seat past)) (rack_line seat s)

-- A rack would have to hold more tiles than it has: the tiles that the lines together show, which, plus those that left it, are as
-- many as the game's moments up to the step have shown.
pub record IsTooBig (steps : List Step) (place : ℕ) (player : Seat) (size : ℕ) (tiles : List ℕ) (lines : List RackLine) : Type 0 where
  pub step : Step
  pub there : slice_get steps place ≡ Some step
  pub of : player ≡ holder_of step
  pub has : size ≡ size_of step player
  pub lines_are : lines ≡ rack_lines player (reverse (take place steps)) ++ rack_line player step
  pub shown : joined tiles (gone player (reverse (take place steps))) ≡ low_at player step (reverse (take place steps))
  pub adds_up : tiles ≡ held_at player (reverse (take place steps)) step
  pub more : size < sum tiles

-- the last of some lines
abbrev pub last_line : List RackLine → Option RackLine
last_line lines = slice_get lines (length lines - 1)

-- The line of the step shows the whole rack, and fewer tiles of a kind than the lines before it leave there.
pub record IsLeftOver (steps : List Step) (place : ℕ) (player : Seat) (before : ℕ) (remaining : List ℕ) (after : ℕ) (kind : Kind) (has had : ℕ) : Type 0 where
  pub step : Step
  pub there : slice_get steps place ≡ Some step
  pub of : player ≡ holder_of step
  pub latest : RackLine
  pub last : last_line (rack_lines player (reverse (take place steps))) ≡ Some latest
  pub on_line : before ≡ latest.line
  pub leaves : remaining ≡ remaining_after no_tiles (rack_lines player (reverse (take place steps)))
  pub on_next : after ≡ step.line
  pub shown : List ℕ
  pub shows : needed player step ≡ Some shown
  pub whole : sum shown ≡ size_of step player
  pub of_kind : has ≡ count_of shown kind
  pub of_remaining : had ≡ count_of remaining kind
  pub fewer : has < had

-- ---- what the lines show of a kind of tile

-- the number of tiles of a kind that a step puts on the board for good
abbrev pub laid_by : Kind → Leaving → ℕ
laid_by kind leaves.Nothing = 0
laid_by kind (leaves.Plays tiles) = count_of tiles kind
laid_by kind (leaves.Exchanges tiles) = 0

abbrev pub laid_in_kind : Kind → Step → ℕ
laid_in_kind kind s = laid_by kind (leaving s.act)

abbrev pub count_in : Kind → Option (List ℕ) → ℕ
count_in kind None = 0
count_in kind (Some tiles) = count_of tiles kind

-- the number of tiles of a kind that a step shows on its holder's rack
abbrev pub shown_in_kind : Kind → Step → ℕ
shown_in_kind kind s = count_in kind (needed (holder_of s) s)

-- what a step shows of a kind, if that counts or is played
abbrev pub kind_line : Kind → (counts : Bool) → Step → List KindLine
kind_line kind counts s =
    if shown_in_kind kind s == 0 || not counts && laid_in_kind kind s == 0 then []
    else record { line = s.line; player = holder_of s; shown = shown_in_kind kind s; played = laid_in_kind kind s } ∷ []

-- The same for steps in order: a line counts if no exchange of unknown tiles by its holder, its own or a later one, hides what it shows.
abbrev pub kind_lines : Kind → List Step → List KindLine
kind_lines kind [] = []
kind_lines kind (s ∷ later) = kind_line kind (not (list_any (ends_epoch (holder_of s)) (s ∷ later))) s ++ kind_lines kind later

-- the number of tiles of a kind that lines play
abbrev pub played_in : List KindLine → ℕ
played_in lines = sum_by (λ (l : KindLine). l.played) lines

-- There would have to be more tiles of a kind than the game has: on the board those that the lines before the step play, and on each rack those
-- that its lines together show at the step.
pub record IsShort (rules : Rules) (steps : List Step) (place : ℕ) (kind : Kind) (all many laid first second : ℕ) (lines : List KindLine) : Type 0 where
  pub step : Step
  pub there : slice_get steps place ≡ Some step
  pub known : Known
  pub shown : IsShownAt steps place known
  pub has : all ≡ count_of rules.counts kind
  pub on_board : laid ≡ count_of known.laid kind
  pub on_first : first ≡ count_of known.first kind
  pub on_second : second ≡ count_of known.second kind
  pub adds_up : many ≡ laid + first + second
  pub more : all < many
  pub lines_are : lines ≡ kind_lines kind (take place steps) ++ kind_line kind true step
  pub laid_by_lines : laid ≡ played_in (kind_lines kind (take place steps))
  pub first_by_lines : first ≡ count_of (held_at First (reverse (take place steps)) step) kind
  pub second_by_lines : second ≡ count_of (held_at Second (reverse (take place steps)) step) kind

-- ---- each fact

-- what each fact about racks says is true of the steps up to the one at a place
abbrev pub IsRackTrue : Rules → List Step → (place : ℕ) → RackFact → Type 0
IsRackTrue rules steps place (rack_fact.LeftOver player before remaining after kind has had) = IsLeftOver steps place player before remaining after kind has had
IsRackTrue rules steps place (rack_fact.TooBig player size tiles lines) = IsTooBig steps place player size tiles lines.items
IsRackTrue rules steps place (rack_fact.TilesShort kind all many laid first second lines) = IsShort rules steps place kind all many laid first second lines.items
