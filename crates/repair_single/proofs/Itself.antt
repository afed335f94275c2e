-- A record is the same as itself.
use Rattle.std.proofs.Common.{◌≡◌, inr, ℕ, List, slice_get, Some, refl, sym, ◌∙◌, subst}
use Rattle.std.proofs.lemmas.Option.{same_Some}
use Rattle.ref_tiles.specs.declared.symbols.Symbol.{Symbol}
use Rattle.gcg_read.specs.declared.events.Event.{Event}
use Rattle.gcg_read.specs.declared.events.EventKind.{EventKind}
use Rattle.gcg_read.specs.declared.events.EventKind.TheVariants as kind
use Rattle.gcg_read.specs.Alike.{AgreeSymbols, AgreeTexts}
use Rattle.repair_single.specs.Repairs.{SameKind, SameEvent, SameRecord}

-- something holds for each element of a list and itself
each_itself : {X : Type 0} (P : X → X → Type 0) → ((x : X) → P x x) → (xs : List X) (place : ℕ) (a b : X) → slice_get xs place ≡ Some a → slice_get xs place ≡ Some b → P a b
each_itself P all xs place a b of_a of_b = subst (P a) (same_Some a b (sym of_a ∙ of_b)) (all a)

text_itself : (word : List Symbol) → AgreeTexts word word
text_itself word = record { as_many = refl; each = λ place a b of_a of_b. each_itself AgreeSymbols (λ (x : Symbol). inr (inr refl)) word place a b of_a of_b }

kind_itself : (what : EventKind) → SameKind what what
kind_itself (kind.Play at dir word) = (refl, refl, text_itself word)
kind_itself kind.Pass = refl
kind_itself (kind.Exchange tiles) = refl
kind_itself (kind.ExchangeUnknown number) = refl
kind_itself kind.Withdraw = refl
kind_itself kind.Challenge = refl
kind_itself kind.Time = refl
kind_itself (kind.LastRack tiles) = refl

event_itself : (e : Event) → SameEvent e e
event_itself e = record { player = refl; rack = refl; score = refl; total = refl; kind = kind_itself e.kind }

record_itself : (events : List Event) → SameRecord events events
record_itself events = record { as_many = refl; each = λ place a b of_a of_b. each_itself SameEvent event_itself events place a b of_a of_b }

pub itself_as : (events others : List Event) → events ≡ others → SameRecord events others
itself_as events others same = subst (λ (es : List Event). SameRecord events es) same (record_itself events)
