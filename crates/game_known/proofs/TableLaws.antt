-- What a table keeps.
use Rattle.std.proofs.Common.{◌≡◌, ℕ, pos, ◌<◌, List, length, slice_index_or, All, Option, Some, None, IfSome, sym, ◌∙◌, subst}
use Rattle.ref_tiles.specs.declared.tiles.Tile.{Tile}
use Rattle.ref_tiles.specs.declared.rulebook.Rules.{Rules}
use Rattle.game_bests.specs.Bests.{IsBestBy}
use Rattle.game_known.specs.declared.known.KnownBest.{KnownBest}
use Rattle.game_known.specs.declared.known.KnownBests.{KnownBests}
use Rattle.game_known.specs.Known.{IsKnown, AreKnown}

-- nothing is known of an empty place
empty_known : (rules : Rules) (list : List (List ℕ)) (place : Option KnownBest) → place ≡ None → IfSome place (IsKnown rules list)
empty_known rules list None is = tt
empty_known rules list (Some kept) is = cc

pub nothing_known : (rules : Rules) (list : List (List ℕ)) (known : KnownBests) → All (λ (place : Option KnownBest). place ≡ None) known.places.items → AreKnown rules list known
nothing_known rules list known empty =
    record { each = λ k d below. empty_known rules list (slice_index_or known.places.items k d) (empty k d below) }

-- what is kept at a place is for its board and its rack
kept_there : (rules : Rules) (list : List (List ℕ)) (kept : KnownBest) (board : List (Option Tile)) (rack : List ℕ) → IsKnown rules list kept → kept.board ≡ board → kept.rack ≡ rack
    → IsBestBy rules list board rack (pos 0) kept.best
kept_there rules list kept board rack is boards racks =
    subst (λ (b : List (Option Tile)). IsBestBy rules list b rack (pos 0) kept.best) boards
    (subst (λ (r : List ℕ). IsBestBy rules list kept.board r (pos 0) kept.best) racks is)

pub is_found : (rules : Rules) (list : List (List ℕ)) (known : KnownBests) (k : ℕ) (place : Option KnownBest) (kept : KnownBest) (board : List (Option Tile)) (rack : List ℕ)
    → AreKnown rules list known → k < length known.places.items → place ≡ slice_index_or known.places.items k place → place ≡ Some kept → kept.board ≡ board → kept.rack ≡ rack
    → IsBestBy rules list board rack (pos 0) kept.best
is_found rules list known k place kept board rack are below read is boards racks =
    kept_there rules list kept board rack (subst (λ o. IfSome o (IsKnown rules list)) (sym read ∙ is) (are.each k place below)) boards racks
