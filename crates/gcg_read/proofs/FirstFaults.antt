-- The fault of a text is that of its first line with one.
use Rattle.std.proofs.Common.{◌≡◌, ℕ, ◌+◌, ◌==◌, ◌≤◌, Bool, true, false, nat_lt, List, [], ◌∷◌, ◌++◌, length, length-append, append_assoc, Option, Some, None, Result, Ok, Err, if◌then◌else◌, refl, sym, ap, ◌∙◌, subst, arith}
use Rattle.std.proofs.lemmas.Bool.Decides.{nat_tests}
use Rattle.gcg_read.specs.declared.faults.Why.{Why}
use Rattle.gcg_read.specs.declared.faults.Why.TheVariants as why
use Rattle.gcg_read.specs.declared.faults.ReadFault.{ReadFault}
use Rattle.gcg_read.specs.declared.records.Record.{Record}
use Rattle.gcg_read.specs.Faults.{◌>>=◌, on_line}
use Rattle.gcg_read.specs.Cutting.{lines_of}
use Rattle.gcg_read.specs.Pragmas.{Naming, naming_of}
use Rattle.gcg_read.specs.Records.{most_bytes, no_record, entry_of, with_event, players_with, with_naming, with_pragma, with_line, record_from, record_of}
use Rattle.gcg_read.specs.FirstFaults.{IsFirstFault}

-- ---- the line of a fault

line_in : Result Record ReadFault → ℕ
line_in (Ok r) = 0
line_in (Err fault) = fault.line

-- a fault on a line has that line
there : {A : Type 0} (line : ℕ) (r : Result A Why) (f : A → Record) (fault : ReadFault) → (on_line line r >>= λ x. Ok (f x)) ≡ Err fault → fault.line ≡ line
unfolding line_in
there line (Ok x) f fault e = absurd cc
there line (Err w) f fault e = sym (ap line_in e)

-- one of two
picked : (b : Bool) (x y : Result Record ReadFault) (fault : ReadFault) (n : ℕ) → (x ≡ Err fault → fault.line ≡ n) → (y ≡ Err fault → fault.line ≡ n)
    → (if b then x else y) ≡ Err fault → fault.line ≡ n
picked true x y fault n f g e = f e
picked false x y fault n f g e = g e

event_line : (so_far : Record) (n : ℕ) (text : List ℕ) (fault : ReadFault) → with_event so_far n text ≡ Err fault → fault.line ≡ n
unfolding with_event
event_line so_far n text fault e = there n (entry_of so_far n text) _ fault e

naming_line : (so_far : Record) (n : ℕ) (naming : Option Naming) (fault : ReadFault) → with_naming so_far n naming ≡ Err fault → fault.line ≡ n
naming_line so_far n None fault e = absurd cc
naming_line so_far n (Some naming) fault e = there n (players_with so_far.players naming) _ fault e

pragma_line : (so_far : Record) (n : ℕ) (text : List ℕ) (fault : ReadFault) → with_pragma so_far n text ≡ Err fault → fault.line ≡ n
unfolding with_pragma
pragma_line so_far n text fault e =
    picked (length so_far.events == 0) (with_naming so_far n (naming_of text)) (Ok so_far) fault n (naming_line so_far n (naming_of text) fault) (λ went_well. absurd cc) e

line_number : (so_far : Record) (n : ℕ) (line : List ℕ) (fault : ReadFault) → with_line so_far n line ≡ Err fault → fault.line ≡ n
unfolding with_line
line_number so_far n [] fault e = absurd cc
line_number so_far n (byte ∷ text) fault e =
    picked (byte == 62) (with_event so_far n text) (if byte == 35 then with_pragma so_far n text else Ok so_far) fault n (event_line so_far n text fault)
    (picked (byte == 35) (with_pragma so_far n text) (Ok so_far) fault n (pragma_line so_far n text fault) (λ went_well. absurd cc)) e

-- ---- one more line

same : (x y : Record) → (let r : Result Record ReadFault = Ok x in r) ≡ Ok y → x ≡ y
same x y e = cc

went : (r : Result Record ReadFault) (f : Record → Result Record ReadFault) (y : Record) → (r >>= f) ≡ Ok y → (x : Record) × ((r ≡ Ok x) × (f x ≡ Ok y))
went (Ok x) f y e = (x, (refl, e))
went (Err w) f y e = absurd cc

ended : (r : Result Record ReadFault) (next : Record) → r ≡ Ok next → (r >>= λ x. Ok x) ≡ Ok next
ended (Ok x) next e = e
ended (Err w) next e = absurd cc

from_more : (r : Record) (n : ℕ) (xs : List (List ℕ)) (line : List ℕ) (so_far next : Record) → record_from r n xs ≡ Ok so_far → with_line so_far (n + length xs) line ≡ Ok next
    → record_from r n (xs ++ line ∷ []) ≡ Ok next
unfolding record_from
from_more r n [] line so_far next done is =
    let number : n + 0 ≡ n = omega arith in
    ended (with_line r n line) next (subst (λ k. with_line r k line ≡ Ok next) number (subst (λ s. with_line s (n + 0) line ≡ Ok next) (sym (same r so_far done)) is))
from_more r n (x ∷ xs) line so_far next done is =
    let step = went (with_line r n x) (λ y. record_from y (n + 1) xs) so_far done in
    let number : n + length (x ∷ xs) ≡ n + 1 + length xs = omega arith in
    let rest = from_more step.0 (n + 1) xs line so_far next step.1.1 (subst (λ k. with_line so_far k line ≡ Ok next) number is) in
    ap (λ r. r >>= λ y. record_from y (n + 1) (xs ++ line ∷ [])) step.1.0 ∙ rest

-- ---- the first fault

first_step : (before : List (List ℕ)) (line : List ℕ) (rest : List (List ℕ)) (so_far : Record) (fault : ReadFault) (r : Result Record ReadFault)
    → with_line so_far (length before + 1) line ≡ r → record_from no_record 1 before ≡ Ok so_far → (r >>= λ next. record_from next (length before + 1 + 1) rest) ≡ Err fault
    → ((next : Record) → record_from no_record 1 (before ++ line ∷ []) ≡ Ok next → record_from next (length (before ++ line ∷ []) + 1) rest ≡ Err fault
    → IsFirstFault ((before ++ line ∷ []) ++ rest) fault)
    → IsFirstFault (before ++ line ∷ rest) fault
first_step before line rest so_far fault (Err w) is done e later =
    let fails : with_line so_far (length before + 1) line ≡ Err fault = is ∙ e in
    record {
      before = before;
      line = line;
      following = rest;
      so_far = so_far;
      whole = refl;
      earlier = done;
      number = line_number so_far (length before + 1) line fault fails;
      fails = fails;
    }
first_step before line rest so_far fault (Ok next) is done e later =
    let number : 1 + length before ≡ length before + 1 = omega arith in
    let further : length before + 1 + 1 ≡ length (before ++ line ∷ []) + 1 = omega (arith, length-append before (line ∷ [])) in
    let read = from_more no_record 1 before line so_far next done (subst (λ k. with_line so_far k line ≡ Ok next) (sym number) is) in
    subst (λ lines. IsFirstFault lines fault) (append_assoc before (line ∷ []) rest) (later next read (subst (λ k. record_from next k rest ≡ Err fault) further e))

first_from : (following before : List (List ℕ)) (so_far : Record) (fault : ReadFault) → record_from no_record 1 before ≡ Ok so_far → record_from so_far (length before + 1) following ≡ Err fault
    → IsFirstFault (before ++ following) fault
unfolding record_from
first_from [] before so_far fault done e = absurd cc
first_from (line ∷ rest) before so_far fault done e =
    first_step before line rest so_far fault (with_line so_far (length before + 1) line) refl done e (λ next read more. first_from rest (before ++ line ∷ []) next fault read more)

nothing_read : record_from no_record 1 [] ≡ Ok no_record
unfolding record_from
nothing_read = refl

not_long : (b : Bool) (x y : Result Record ReadFault) (fault : ReadFault) → b ≡ false → (if b then x else y) ≡ Err fault → y ≡ Err fault
not_long true x y fault short e = absurd cc
not_long false x y fault short e = e

pub fault_is_first : (text : List ℕ) (fault : ReadFault) → length text ≤ most_bytes → record_of text ≡ Err fault → IsFirstFault (lines_of text) fault
unfolding record_of
fault_is_first text fault short e =
    let fits : nat_lt most_bytes (length text) ≡ false = grind (arith, nat_tests) in
    first_from (lines_of text) [] no_record fault nothing_read
    (not_long (nat_lt most_bytes (length text)) (Err (record { line = 0; why = why.TooLong })) (record_from no_record 1 (lines_of text)) fault fits e)
