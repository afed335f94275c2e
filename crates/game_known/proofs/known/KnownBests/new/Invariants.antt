use Rattle.std.proofs.Common.{◌≡◌, All, Option, None}
use Rattle.game_known.specs.declared.known.KnownBest.{KnownBest}
use Rattle.game_known.proofs.known.KnownBests.new.Given as goal

abbrev pub invariant-loop : goal.invariant-loop
invariant-loop l = All (λ (place : Option KnownBest). place ≡ None) l.empty.items
