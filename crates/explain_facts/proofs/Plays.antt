-- What is said about a play.
use Rattle.std.proofs.Common.{◌≡◌, ℕ, List, sym, subst}
use Rattle.ref_board.specs.declared.directions.Dir.{Dir}
use Rattle.ref_tiles.specs.declared.symbols.Symbol.{Symbol}
use Rattle.gcg_read.specs.declared.events.EventKind.{EventKind}
use Rattle.gcg_read.specs.declared.events.EventKind.TheVariants as kind
use Rattle.explain_facts.specs.Kinds.{OfPlay, OfLastRack}

-- what holds for the place at which a play begins, its direction and its text holds for the play
pub of_play : (what : EventKind) (at : ℕ) (dir : Dir) (word : List Symbol) (P : ℕ → Dir → List Symbol → Type 0) → what ≡ kind.Play at dir word → P at dir word → OfPlay what P
of_play what at dir word P is holds = subst (λ (k : EventKind). OfPlay k P) (sym is) holds

pub of_last_rack : (what : EventKind) (tiles : List ℕ) (P : List ℕ → Type 0) → what ≡ kind.LastRack tiles → P tiles → OfLastRack what P
of_last_rack what tiles P is holds = subst (λ (k : EventKind). OfLastRack k P) (sym is) holds
