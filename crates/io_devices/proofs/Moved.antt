-- What several reads take from an input and several writes add to an output, one after the other.
use Rattle.std.proofs.Common.{◌≡◌, ℕ, ◌+◌, ◌-◌, ◌≤◌, List, ◌++◌, Option, None, Some, IfSome, length, take, drop, sym, ap, subst, ◌∙◌, append_assoc, append-nil, take_all, length-append, arith}
use Rattle.std.proofs.Math.Seq.{take-add}
use Rattle.std.proofs.lemmas.List.{take_rest, take_at}
use Rattle.std.specs.Io.KnownBytes.{Appends, Consumes, IsAtEnd}
use Rattle.io_devices.specs.Devices.{Device, HasWorked}
use Rattle.io_devices.specs.Inputs.{TakesAtMost}

pub appended_more : (a b c : Option (List ℕ)) (front back : List ℕ) → Appends a b front → Appends b c back → Appends a c (front ++ back)
appended_more None b c front back p q = tt
appended_more (Some x) None c front back p q = absurd p
appended_more (Some x) (Some y) None front back p q = absurd q
appended_more (Some x) (Some y) (Some z) front back p q = q ∙ ap (λ l. l ++ back) p ∙ append_assoc x front back

pub taken_more : (a b c : Option (List ℕ)) (front back : List ℕ) → Consumes a b front → Consumes b c back → Consumes a c (front ++ back)
taken_more None b c front back p q = tt
taken_more (Some x) None c front back p q = absurd p
taken_more (Some x) (Some y) None front back p q = absurd q
taken_more (Some x) (Some y) (Some z) front back p q = p ∙ ap (λ l. front ++ l) q ∙ sym (append_assoc front back z)

-- one more write of what is still to be sent
pub sent_more : (a b c : Option (List ℕ)) (bytes : List ℕ) (sent n : ℕ) → Appends a b (take sent bytes)
    → Appends b c (take n (take (length bytes - sent) (drop sent bytes))) → Appends a c (take (sent + n) bytes)
sent_more a b c bytes sent n p q =
    let rest = subst (λ l. Appends b c (take n l)) (take_rest bytes sent) q in
    subst (Appends a c) (sym (take-add sent n bytes)) (appended_more a b c _ _ p rest)

-- an input that is at its end gave all that it had
pub whole_at_end : (a b : Option (List ℕ)) (bytes : List ℕ) (most : ℕ) → Consumes a b bytes → IsAtEnd b → length bytes ≤ most
    → IfSome a (λ all. bytes ≡ take most all)
whole_at_end None b bytes most p e h = tt
whole_at_end (Some x) None bytes most p e h = absurd p
whole_at_end (Some x) (Some y) bytes most p e h =
    let all : x ≡ bytes = p ∙ ap (λ l. bytes ++ l) e ∙ append-nil bytes in
    sym (ap (take most) all ∙ take_all most bytes h)

-- an input that gave `most` bytes gave its first ones
pub whole_at_limit : (a b : Option (List ℕ)) (bytes : List ℕ) (most : ℕ) → Consumes a b bytes → length bytes ≡ most
    → IfSome a (λ all. bytes ≡ take most all)
whole_at_limit None b bytes most p h = tt
whole_at_limit (Some x) None bytes most p h = absurd p
whole_at_limit (Some x) (Some y) bytes most p h = sym (ap (take most) p ∙ take_at bytes y most h)

-- what was taken before and by one more call, together
pub takes_more : (old mid new : Device) (bytes : List ℕ) (few most : ℕ) → Consumes old.bytes mid.bytes bytes → TakesAtMost few mid new
    → length bytes + few ≤ most → TakesAtMost most old new
takes_more old mid new bytes few most p q h = record {
  taken = bytes ++ q.taken;
  bound = rw (length-append bytes q.taken) (omega (arith, q.bound));
  rest = taken_more _ _ _ bytes q.taken p q.rest;
}

pub worked_more : (old mid new : Device) → HasWorked old mid → HasWorked mid new → HasWorked old new
worked_more old mid new p q = record { failures = q.failures ∙ p.failures; stalls = q.stalls ∙ p.stalls }
