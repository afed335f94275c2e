-- On which parts of a state the changes depend.
use Rattle.std.proofs.Common.{◌≡◌, ℕ, ◌+◌, List, ◌++◌, take, drop, slice_get, Option, Some, None, refl, ap, ◌∙◌}
use Rattle.ref_tiles.specs.declared.tiles.Tile.{Tile}
use Rattle.ref_tiles.specs.declared.rulebook.Rules.{Rules}
use Rattle.gcg_read.specs.declared.events.Event.{Event}
use Rattle.gcg_read.specs.declared.events.EventKind.{EventKind}
use Rattle.gcg_read.specs.declared.events.EventKind.TheVariants as kind
use Rattle.game_turns.specs.Tallies.{State}
use Rattle.repair_changes.specs.declared.slips.Slip.{Slip}
use Rattle.repair_slips.specs.Laying.{laying_slips}
use Rattle.repair_slips.specs.Rests.{rest_tiles, rest_for}
use Rattle.repair_slips.specs.Lines.{kind_slips, board_slips, rack_slips, line_slips, event_slips}
use Rattle.repair_slips.specs.Misreadings.{misread_slips}
use Rattle.repair_slips.specs.MissingLines.{missing_slips}
use Rattle.repair_slips.specs.Changes.{slips_of_event, slips_by}
use Rattle.repair_slips.specs.Laws.{SlipsAreByBoard}

-- what is read from the board
board_alone : (rules : Rules) (s t : State) (before following : List Event) (what : EventKind) → s.board ≡ t.board → board_slips rules s before following what ≡ board_slips rules t before following what
board_alone rules s t before following (kind.Play at d word) same = ap (λ (b : List (Option Tile)). laying_slips b d at word) same
board_alone rules s t before following (kind.LastRack tiles) same = ap (λ (b : List (Option Tile)). rest_for tiles (rest_tiles rules b before following)) same
board_alone rules s t before following kind.Pass same = refl
board_alone rules s t before following (kind.Exchange tiles) same = refl
board_alone rules s t before following (kind.ExchangeUnknown n) same = refl
board_alone rules s t before following kind.Withdraw same = refl
board_alone rules s t before following kind.Challenge same = refl
board_alone rules s t before following kind.Time same = refl

event_alone : (rules : Rules) (s t : State) (events : List Event) (place : ℕ) (o : Option Event) → s.board ≡ t.board → slips_of_event rules s events place o ≡ slips_of_event rules t events place o
unfolding event_slips
event_alone rules s t events place None same = refl
event_alone rules s t events place (Some e) same =
    ap (λ (xs : List Slip). kind_slips rules e e.kind ++ xs ++ rack_slips e ++ line_slips events place e ++ misread_slips e) (board_alone rules s t (take place events) (drop (place + 1) events) e.kind same)

missing_alone : (rules : Rules) (s t : State) (events : List Event) (place : ℕ) → s.board ≡ t.board → s.out ≡ t.out → s.complete ≡ t.complete → missing_slips rules s events place ≡ missing_slips rules t events place
unfolding missing_slips
missing_alone rules s t events place board out complete =
    rw (board, out, complete)

pub by_board : SlipsAreByBoard
unfolding slips_by
by_board rules s t events place board out complete =
    ap (λ (xs : List Slip). xs ++ missing_slips rules s events place) (event_alone rules s t events place (slice_get events place) board)
    ∙ ap (λ (xs : List Slip). slips_of_event rules t events place (slice_get events place) ++ xs) (missing_alone rules s t events place board out complete)
