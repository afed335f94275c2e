-- Players who have nicknames, event by event.
use Rattle.std.proofs.Common.{◌≡◌, ◌<◌, ◌≤◌, ◌+◌, ℕ, List, [], ◌∷◌, length, get_or, take, arith, sym, subst}
use Rattle.std.proofs.lemmas.List.{take_more, take_all}
use Rattle.std.proofs.lemmas.List.Elements.{All-append, All-get_or, All-cons, All-nil}
use Rattle.gcg_read.specs.declared.events.Event.{Event}
use Rattle.gcg_read.specs.declared.players.Players.{Players}
use Rattle.gcg_read.specs.Players.{player_of}
use Rattle.repair_rewrites.specs.Names.{AreNamed}

abbrev named : Players → Event → Type 0
named players e = 1 ≤ length (player_of players e.player).nick

pub named_more : (players : Players) (right : List Event) (i : ℕ) (e : Event) → AreNamed players (take i right) → i < length right → e ≡ get_or right i e
    → 1 ≤ length (player_of players e.player).nick → AreNamed players (take (i + 1) right)
named_more players right i e had within item is =
    let there : named players (get_or right i e) = subst (named players) item is in
    rw (take_more right i e within) (All-append (named players) (take i right) (get_or right i e ∷ []) had (All-cons (named players) (get_or right i e) [] there (All-nil (named players))))

pub unnamed : (players : Players) (right : List Event) (i : ℕ) (e : Event) → i < length right → e ≡ get_or right i e → length (player_of players e.player).nick ≡ 0 → AreNamed players right → ⊥
unnamed players right i e within item none all =
    let there = All-get_or (named players) right i e within all in
    let here : 1 ≤ length (player_of players e.player).nick = subst (named players) (sym item) there in
    omega arith

pub all_named : (players : Players) (right : List Event) (i : ℕ) → length right ≤ i → AreNamed players (take i right) → AreNamed players right
all_named players right i past all = subst (AreNamed players) (take_all i right past) all
