-- A record that was read, with other scores and totals, written and read again.
use Rattle.std.proofs.Common.{◌≡◌, ℕ, zero, suc, ◌<◌, ◌≤◌, List, [], ◌∷◌, length, get_or, slice_get, Some, refl, sym, subst}
use Rattle.std.proofs.lemmas.Option.{slice_get_within, slice_get-get_or, same_Some}
use Rattle.gcg_read.specs.declared.events.Event.{Event}
use Rattle.gcg_read.specs.declared.players.Players.{Players}
use Rattle.gcg_read.specs.declared.records.Record.{Record}
use Rattle.gcg_read.specs.Players.{player_of}
use Rattle.gcg_write.specs.Rounds.{IsRescored, HasOtherPoints, IsReadWithPoints, IsRescoredReadAgain}
use Rattle.gcg_write.proofs.Each.{Each}
use Rattle.gcg_write.proofs.Entries.{IsStated, IsKind, IsEvent}
use Rattle.gcg_write.proofs.Names.{ArePlayers}
use Rattle.gcg_write.proofs.EventReadings.{IsOf}
use Rattle.gcg_write.proofs.Readings.{record_read}
use Rattle.gcg_write.proofs.Records.{IsRecord, record_again}

-- ---- a fact about each item, place by place

each_at : {X : Type 0} (P : X → Type 0) (xs : List X) (place : ℕ) (x : X) → Each P xs → slice_get xs place ≡ Some x → P x
each_at P [] place x all is = absurd cc
each_at P (y ∷ ys) zero x all is = subst P (same_Some y x is) all.0
each_at P (y ∷ ys) (suc place) x all is = each_at P ys place x all.1 is

each_from : {X : Type 0} (P : X → Type 0) (xs : List X) → ((place : ℕ) (x : X) → slice_get xs place ≡ Some x → P x) → Each P xs
each_from P [] at = tt
each_from P (x ∷ xs) at = (at 0 x refl, each_from P xs (λ place y is. at (suc place) y is))

-- ---- the events

event_rescored : (players : Players) (a b : Event) → IsRescored a b → IsOf players a → IsOf players b
event_rescored players a b same own =
    let event : IsEvent b = record {
      rack = subst IsStated (sym same.rack) own.0.rack;
      what = subst IsKind (sym same.kind) own.0.what;
      score = same.score;
      total = same.total;
    } in
    (event, subst (λ seat. 0 < length (player_of players seat).nick) (sym same.player) own.1)

-- the event of the old record at the place of one of the new record
there : (xs ys : List Event) (place : ℕ) (x : Event) → length xs ≡ length ys → slice_get xs place ≡ Some x → slice_get ys place ≡ Some (get_or ys place x)
there xs ys place x as_many is = slice_get-get_or ys place x (subst (λ n. place < n) as_many (slice_get_within xs place x is))

events_rescored : (old new : Record) → HasOtherPoints old new → Each (IsOf old.players) old.events → Each (IsOf old.players) new.events
events_rescored old new same all =
    each_from (IsOf old.players) new.events (λ place b is.
    let a = get_or old.events place b in
    let at = there new.events old.events place b same.as_many is in
    event_rescored old.players a b (same.events place a b at is) (each_at (IsOf old.players) old.events place a all at))

rescored : (old new : Record) → HasOtherPoints old new → IsRecord old → IsRecord new
rescored old new same is =
    record {
      players = subst ArePlayers (sym same.players) is.players;
      events = subst (λ players. Each (IsOf players) new.events) (sym same.players) (events_rescored old new same is.events);
      few = subst (λ n. n ≤ 1000) (sym same.as_many) is.few;
    }

-- ---- the laws

pub points_read : IsReadWithPoints
points_read text r read place e is =
    let own = each_at (IsOf r.players) r.events place e (record_read text r read).events is in
    (own.0.score, own.0.total)

pub rescored_again : IsRescoredReadAgain
rescored_again text old new read same first second short =
    record_again new (rescored old new same (record_read text old read)) first second short
