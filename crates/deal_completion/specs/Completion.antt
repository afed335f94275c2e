-- The deal that is tried for the steps of a game: by a fixed rule, which gives each player what the lines will ask for.
use Rattle.std.specs.Prelude.{ℕ, zero, suc, ◌+◌, ◌-◌, ◌==◌, nat_lt, nat_le, ◌&&◌, Bool, true, List, [], ◌∷◌, ◌++◌, sum, count_by, find, replicate, slice_index, slice_set, Option, Some, None, if◌then◌else◌}
use Rattle.std.specs.List.{flat_map, list_all}
use Rattle.std.specs.Option.{option_map, option_or}
use Rattle.ref_tiles.specs.Counting.{no_tiles}
use Rattle.ref_tiles.specs.declared.rulebook.Rules.{Rules}
use Rattle.gcg_read.specs.Players.{other_seat}
use Rattle.gcg_read.specs.declared.events.Seat.{Seat}
use Rattle.deal_steps.specs.Piles.{kinds, joined, without, greater}
use Rattle.deal_steps.specs.Steps.{used_by, needed, remaining_in, ends_epoch, opener}
use Rattle.deal_steps.specs.Fitting.{rack_of, with_rack}
use Rattle.deal_steps.specs.declared.steps.Motion.{Motion}
use Rattle.deal_steps.specs.declared.steps.Motion.TheVariants as motion
use Rattle.deal_steps.specs.declared.steps.Act.{Act}
use Rattle.deal_steps.specs.declared.steps.Act.TheVariants as act
use Rattle.deal_steps.specs.declared.steps.Step.{Step}
use Rattle.deal_steps.specs.declared.deals.Racks.{Racks}
use Rattle.deal_steps.specs.declared.deals.Held.{Held}
use Rattle.deal_completion.specs.declared.picking.Pick.{Pick}
use Rattle.deal_completion.specs.declared.hands.Hands.{Hands}

-- ---- want lists

-- the kinds of which there are more in the first than in the second, each as often as the difference, in order
unfoldable pub lacking : (asked have : List ℕ) → List ℕ
lacking asked have = flat_map (λ k. replicate (slice_index asked k - slice_index have k) k) kinds

-- what a moment asks for, plus what left the rack before it; otherwise nothing
abbrev pub with_gone : (gone : List ℕ) → Option (List ℕ) → List ℕ
with_gone gone None = no_tiles
with_gone gone (Some tiles) = joined gone tiles

-- The want list of a player: what the later moments ask for, plus what leaves the rack before them, as far as that exceeds what the
-- player has, the rack and the list so far. It ends with the player's next exchange of unknown tiles.
abbrev pub wanted : Seat → List Step → (gone have : List ℕ) → List ℕ
wanted seat [] gone have = []
wanted seat (s ∷ steps) gone have =
    lacking (with_gone gone (needed seat s)) have
    ++ (if ends_epoch seat s then []
    else wanted seat steps (joined gone (remaining_in seat s)) (greater have (with_gone gone (needed seat s))))

-- that of a player with a rack
abbrev pub want_list : Seat → List Step → (rack : List ℕ) → List ℕ
want_list seat steps rack = wanted seat steps no_tiles rack

-- ---- tiles that are taken from others

-- one more tile of a kind
unfoldable pub with_one : Pick → ℕ → Pick
with_one p k =
    record { taken = slice_set p.taken k (slice_index p.taken k + 1); remaining = slice_set p.remaining k (slice_index p.remaining k - 1) }

-- The tiles of a list are taken in order, each if it is there, until `number` are taken.
abbrev pub pick_listed : (list : List ℕ) (number : ℕ) → Pick → Pick
pick_listed [] number p = p
pick_listed (k ∷ list) number p =
    pick_listed list number (if nat_lt (sum p.taken) number && nat_lt 0 (slice_index p.remaining k) then with_one p k else p)

-- the first kind of which more are left than the reserved list has, otherwise the first kind that is left
abbrev pub next_kind : (reserved remaining : List ℕ) → Option ℕ
next_kind reserved remaining =
    option_or (find (λ k. nat_lt (count_by (λ j. j == k) reserved) (slice_index remaining k)) kinds)
    (find (λ k. nat_lt 0 (slice_index remaining k)) kinds)

abbrev pub with_next : Pick → Option ℕ → Pick
with_next p None = p
with_next p (Some k) = with_one p k

-- `more` further tiles
abbrev pub pick_more : (reserved : List ℕ) (more : ℕ) → Pick → Pick
pick_more reserved zero p = p
pick_more reserved (suc more) p = pick_more reserved more (with_next p (next_kind reserved p.remaining))

-- the tiles of a list first, and then others
abbrev pub pick_then : (reserved : List ℕ) (number : ℕ) → Pick → Pick
pick_then reserved number p = pick_more reserved (number - sum p.taken) p

unfoldable pub pick : (list reserved : List ℕ) (number : ℕ) (tiles : List ℕ) → Pick
pick list reserved number tiles = pick_then reserved number (pick_listed list number (record { taken = no_tiles; remaining = tiles }))

-- ---- draws

abbrev pub take_off : Seat → List ℕ → Hands → Hands
take_off seat tiles h = record h { racks = with_rack h.racks seat (without (rack_of h.racks seat) tiles) }

abbrev pub put_on : Seat → List ℕ → Hands → Hands
put_on seat tiles h = record h { racks = with_rack h.racks seat (joined (rack_of h.racks seat) tiles) }

-- what a player draws: what the player wants, and then what the other does not want
abbrev pub drawn : Seat → (number : ℕ) → List Step → Hands → Pick
drawn seat number steps h =
    pick (want_list seat steps (rack_of h.racks seat)) (want_list (other_seat seat) steps (rack_of h.racks (other_seat seat))) number h.bag

abbrev pub put_drawn : Seat → Hands → Pick → Hands
put_drawn seat h p = put_on seat p.taken (record h { bag = p.remaining })

unfoldable pub draw : Seat → (number : ℕ) → List Step → Hands → Hands
draw seat number steps h = put_drawn seat h (drawn seat number steps h)

-- An exchange: the tiles are off the rack when the draw begins, and go back to the bag after it.
abbrev pub back_to_bag : List ℕ → Hands → Hands
back_to_bag tiles h = record h { bag = joined h.bag tiles }

unfoldable pub exchange : Seat → (thrown : List ℕ) → List Step → Hands → Hands
exchange seat thrown steps h = back_to_bag thrown (draw seat (sum thrown) steps (take_off seat thrown h))

-- the tiles that a player throws when only their number is known: not those that an empty rack would want first
unfoldable pub chosen : Seat → (number : ℕ) → List Step → (rack : List ℕ) → List ℕ
chosen seat number steps rack = (pick (want_list seat steps no_tiles) [] (sum rack - number) rack).remaining

-- ---- the deal

-- the tiles that a turn throws
abbrev pub turn_throws : Seat → Motion → List Step → Racks → List ℕ
turn_throws seat motion.Keeps steps racks = no_tiles
turn_throws seat (motion.Lays used drawn) steps racks = no_tiles
turn_throws seat (motion.Tries used) steps racks = no_tiles
turn_throws seat (motion.Throws tiles) steps racks = tiles
turn_throws seat (motion.ThrowsUnknown n) steps racks = chosen seat n steps (rack_of racks seat)

abbrev pub throws : Seat → Act → List Step → Racks → List ℕ
throws seat (act.Turns shown what) steps racks = turn_throws seat what steps racks
throws seat (act.TakesBack used) steps racks = no_tiles
throws seat (act.Ends holder tiles) steps racks = no_tiles
throws seat act.Rests steps racks = no_tiles

-- what a turn does to the hands
abbrev pub turned : Seat → Motion → (thrown : List ℕ) → List Step → Hands → Hands
turned seat motion.Keeps thrown steps h = h
turned seat (motion.Lays used drawn) thrown steps h = draw seat drawn steps (take_off seat used h)
turned seat (motion.Tries used) thrown steps h = take_off seat used h
turned seat (motion.Throws tiles) thrown steps h = exchange seat thrown steps h
turned seat (motion.ThrowsUnknown n) thrown steps h = exchange seat thrown steps h

-- what an act does to the hands
abbrev pub acted : Seat → Act → (thrown : List ℕ) → List Step → Hands → Hands
acted seat (act.Turns shown what) thrown steps h = turned seat what thrown steps h
acted seat (act.TakesBack used) thrown steps h = put_on seat used h
acted seat (act.Ends holder tiles) thrown steps h = h
acted seat act.Rests thrown steps h = h

-- whether the first tiles are among the second
abbrev pub is_within : List ℕ → List ℕ → Bool
is_within tiles others = list_all (λ k. nat_le (slice_index tiles k) (slice_index others k)) kinds

-- whether a rack has what a moment shows, and no more if it is a last rack
abbrev pub is_met : Seat → Act → Racks → Bool
is_met seat (act.Turns shown what) racks = is_within (greater shown (used_by what)) (rack_of racks seat)
is_met seat (act.TakesBack used) racks = true
is_met seat (act.Ends holder tiles) racks = is_within tiles (rack_of racks holder) && is_within (rack_of racks holder) tiles
is_met seat act.Rests racks = true

abbrev pub held_at : Step → List Step → Racks → Held
held_at s steps racks = record { racks = racks; thrown = throws s.player s.act steps racks }

-- the deal of steps from these hands; none if a moment is not met
abbrev pub dealt_from : List Step → Hands → Option (List Held)
dealt_from [] h = Some []
dealt_from (s ∷ steps) h =
    if is_met s.player s.act h.racks
    then option_map (λ rest. held_at s steps h.racks ∷ rest) (dealt_from steps (acted s.player s.act (throws s.player s.act steps h.racks) steps h))
    else None

-- before any draw
abbrev pub undealt : Rules → Hands
undealt rules = record { bag = rules.counts; racks = record { first = no_tiles; second = no_tiles } }

-- after both players' first draws of seven tiles
unfoldable pub start : Rules → List Step → Hands
start rules steps = draw (other_seat (opener steps)) 7 steps (draw (opener steps) 7 steps (undealt rules))

-- the deal of a whole game
unfoldable pub dealt : Rules → List Step → Option (List Held)
dealt rules steps = dealt_from steps (start rules steps)
