-- What a text reads as, and whether it is kept.
use Rattle.std.proofs.Common.{◌≡◌, ◌⊎◌, ◌↔◌, ℕ, Bool, false, List, Result, Ok, Err, refl, sym, ap, ◌∙◌, subst, ⊎_elim}
use Rattle.std.specs.Prelude.{IsTrue}
use Rattle.gcg_read.specs.declared.events.Event.{Event}
use Rattle.gcg_read.specs.declared.faults.ReadFault.{ReadFault}
use Rattle.gcg_read.specs.declared.faults.Why.TheVariants as why
use Rattle.gcg_read.specs.declared.players.Players.{Players}
use Rattle.gcg_read.specs.declared.records.Record.{Record}
use Rattle.gcg_read.specs.Faults.{no_memory}
use Rattle.gcg_read.specs.Records.{record_of}
use Rattle.repair_rewrites.specs.Names.{AreNamed}
use Rattle.repair_rewrites.specs.Reading.{SameByName, SameBySeat, AreTheSame, ReadsByName, ReadsBySeat, IsKept, IsNotKept, IsKeptBySeat, IsNotKeptBySeat}

-- ---- reading

pub no_game : (text : List ℕ) (fault : ReadFault) → (fault ≡ no_memory) ⊎ (record_of text ≡ Err fault) → (fault.why ≡ why.NoMemory → ⊥) → Err fault ≡ record_of text
no_game text fault given known =
    ⊎_elim
    (λ (none : fault ≡ no_memory). absurd (known (ap (λ (f : ReadFault). f.why) none)))
    (λ (e : record_of text ≡ Err fault). sym e)
    given

abbrev game_or : Record → Result Record ReadFault → Record
game_or game (Ok other) = other
game_or game (Err fault) = game

one_game : (game read : Record) (found : Result Record ReadFault) → Ok game ≡ found → found ≡ Ok read → game ≡ read
one_game game read found is here = ap (game_or game) (is ∙ here)

abbrev IsBad : Result Record ReadFault → Type 0
IsBad (Ok game) = ⊥
IsBad (Err why) = Unit {0}

not_both : (fault : ReadFault) (read : Record) (found : Result Record ReadFault) → Err fault ≡ found → found ≡ Ok read → ⊥
not_both fault read found is here = subst IsBad (is ∙ here) tt

-- a text that is a record
pub by_name : (players : Players) (right events : List Event) (text : List ℕ) (game : Record) (found : Result Record ReadFault) (reads : Bool) → found ≡ record_of text → found ≡ Ok game
    → events ≡ game.events → IsTrue reads ↔ AreTheSame (SameByName players game.players) right events → IsTrue reads ↔ ReadsByName players right text
by_name players right events text game found reads of is all both = (
  λ it_does. record { read = game; is = sym of ∙ is; same = subst (AreTheSame (SameByName players game.players) right) all (both.0 it_does) },
  λ r.
      let same : AreTheSame (SameByName players game.players) right game.events =
      subst (λ (g : Record). AreTheSame (SameByName players g.players) right g.events) (sym (one_game game r.read (record_of text) (sym is ∙ of) r.is)) r.same in
      both.1 (subst (AreTheSame (SameByName players game.players) right) (sym all) same),
)

pub by_seat : (right events : List Event) (text : List ℕ) (game : Record) (found : Result Record ReadFault) (reads : Bool) → found ≡ record_of text → found ≡ Ok game
    → events ≡ game.events → IsTrue reads ↔ AreTheSame SameBySeat right events → IsTrue reads ↔ ReadsBySeat right text
by_seat right events text game found reads of is all both = (
  λ it_does. record { read = game; is = sym of ∙ is; same = subst (AreTheSame SameBySeat right) all (both.0 it_does) },
  λ r.
      let same : AreTheSame SameBySeat right game.events = subst (λ (g : Record). AreTheSame SameBySeat right g.events) (sym (one_game game r.read (record_of text) (sym is ∙ of) r.is)) r.same in
      both.1 (subst (AreTheSame SameBySeat right) (sym all) same),
)

-- a text that is none
pub nobody : (players : Players) (right : List Event) (text : List ℕ) (fault : ReadFault) (found : Result Record ReadFault) → found ≡ record_of text → found ≡ Err fault
    → IsTrue false ↔ ReadsByName players right text
nobody players right text fault found of is = (λ it_does. cc, λ r. absurd (not_both fault r.read (record_of text) (sym is ∙ of) r.is))

pub no_seat : (right : List Event) (text : List ℕ) (fault : ReadFault) (found : Result Record ReadFault) → found ≡ record_of text → found ≡ Err fault → IsTrue false ↔ ReadsBySeat right text
no_seat right text fault found of is = (λ it_does. cc, λ r. absurd (not_both fault r.read (record_of text) (sym is ∙ of) r.is))

-- ---- keeping

pub kept : (players : Players) (right : List Event) (made text : List ℕ) (named reads : Bool) → IsTrue named ↔ AreNamed players right → IsTrue named → text ≡ made
    → IsTrue reads ↔ ReadsByName players right text → IsTrue reads → IsKept players right made made
kept players right made text named reads of_named is_named is of_reads does =
    record { is = refl; named = of_named.0 is_named; reads = subst (ReadsByName players right) is (of_reads.0 does) }

pub unnamed : (players : Players) (right : List Event) (made : List ℕ) (named : Bool) → IsTrue named ↔ AreNamed players right → named ≡ false → IsNotKept players right made
unnamed players right made named of_named not_named = record { none = λ all reads. let is_named = of_named.1 all in cc }

pub unread : (players : Players) (right : List Event) (made text : List ℕ) (reads : Bool) → text ≡ made → IsTrue reads ↔ ReadsByName players right text → reads ≡ false
    → IsNotKept players right made
unread players right made text reads is of_reads does_not = record { none = λ all reads_so. let does = of_reads.1 (subst (ReadsByName players right) (sym is) reads_so) in cc }

pub kept_by_seat : (right : List Event) (made text : List ℕ) (reads : Bool) → text ≡ made → IsTrue reads ↔ ReadsBySeat right text → IsTrue reads → IsKeptBySeat right made made
kept_by_seat right made text reads is of_reads does = record { is = refl; reads = subst (ReadsBySeat right) is (of_reads.0 does) }

pub unread_by_seat : (right : List Event) (made text : List ℕ) (reads : Bool) → text ≡ made → IsTrue reads ↔ ReadsBySeat right text → reads ≡ false → IsNotKeptBySeat right made
unread_by_seat right made text reads is of_reads does_not = record { none = λ reads_so. let does = of_reads.1 (subst (ReadsBySeat right) (sym is) reads_so) in cc }
