-- Games with the same parts are in the same state.
use Rattle.std.proofs.Common.{◌≡◌, refl}
use Rattle.game_turns.specs.declared.machine.Machine.{Machine}
use Rattle.game_turns.specs.LatestEvents.{latest_of}
use Rattle.game_turns.specs.Machines.{state_of}

pub same_states : (a b : Machine) → (a.bag ≡ b.bag) × (a.zero_run ≡ b.zero_run) × (a.idle_pass ≡ b.idle_pass) × (a.complete ≡ b.complete) → (a.mover ≡ b.mover) × (a.out ≡ b.out)
    → a.sides ≡ b.sides → latest_of a.latest ≡ latest_of b.latest → a.board ≡ b.board → state_of a ≡ state_of b
same_states a b counts players sides latest board = rw (counts.0, counts.1, counts.2, counts.3, players.0, players.1, sides, latest, board) refl
