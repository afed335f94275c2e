-- What the later moments of a player ask for, kind by kind, in a game without exchanges.
use Rattle.std.proofs.Common.{◌≡◌, ◌<◌, ◌≤◌, ℕ, ◌+◌, ◌-◌, ◌*◌, ◌==◌, max, Bool, false, cond, List, [], ◌∷◌, ◌++◌, replicate, length, get_or, Option, Some, None, refl, sym, ap, ◌∙◌, subst, inl, inr, arith, zero, suc}
use Rattle.std.specs.Prelude.{if◌then◌else◌}
use Rattle.std.specs.List.{sum_by, count_by}
use Rattle.std.proofs.lemmas.Bool.{cases_eq, eq-eqb, ne_eqb}
use Rattle.std.proofs.lemmas.List.{append_assoc, length-append, length-replicate}
use Rattle.std.proofs.lemmas.List.Concat.{length-flat_map}
use Rattle.std.proofs.lemmas.List.Folds.{sum_by-replicate}
use Rattle.std.proofs.lemmas.List.Sums.{sum_by-cons, sum_by-append}
use Rattle.ref_tiles.specs.Counting.{no_tiles}
use Rattle.gcg_read.specs.declared.events.Seat.{Seat}
use Rattle.deal_steps.specs.declared.steps.Step.{Step}
use Rattle.deal_steps.specs.Piles.{kinds, joined, greater}
use Rattle.deal_steps.specs.Steps.{remaining_in, ends_epoch, needed}
use Rattle.deal_steps.proofs.PileLaws.{get-joined, get-greater, get-no_tiles, sum_of_sums, sum_kinds_same}
use Rattle.deal_completion.specs.Completion.{lacking, with_gone, wanted}
use Rattle.deal_completion.proofs.WantLaws.{lacks_from, asked_or_none, remaining_asked}

-- how often a kind is in a list
abbrev pub often : ℕ → List ℕ → ℕ
often k list = count_by (λ j. j == k) list

pub often-append : (k : ℕ) (xs ys : List ℕ) → often k (xs ++ ys) ≡ often k xs + often k ys
often-append k xs ys = sum_by-append (λ (j : ℕ). cond {A = ℕ} (j == k) 1 0) xs ys

pub often-cons : (k j : ℕ) (xs : List ℕ) → often k (j ∷ xs) ≡ cond (j == k) 1 0 + often k xs
often-cons k j xs = sum_by-cons (λ (j : ℕ). cond {A = ℕ} (j == k) 1 0) j xs

often_same : (k n : ℕ) → often k (replicate n k) ≡ n
often_same k n =
    let e = sum_by-replicate (λ (j : ℕ). cond {A = ℕ} (j == k) 1 0) n k in
    e ∙ ap (λ (b : Bool). n * cond {A = ℕ} b 1 0) (eq-eqb k k refl) ∙ omega arith

often_other : (k j n : ℕ) → (j ≡ k → ⊥) → often k (replicate n j) ≡ 0
often_other k j n ne =
    let e = sum_by-replicate (λ (j : ℕ). cond {A = ℕ} (j == k) 1 0) n j in
    e ∙ ap (λ (b : Bool). n * cond {A = ℕ} b 1 0) (ne_eqb j k ne) ∙ omega arith

often_below : (f : ℕ → ℕ) (a n k : ℕ) → k < a → often k (lacks_from f a n) ≡ 0
often_below f a zero k h = refl
often_below f a (suc n) k h =
    let e = often-append k (replicate (f a) a) (lacks_from f (a + 1) n) in
    let here = often_other k a (f a) (λ (e : a ≡ k). omega arith) in
    let rest = often_below f (a + 1) n k (omega arith) in
    omega arith

often_from : (f : ℕ → ℕ) (a n k : ℕ) → a ≤ k → k < a + n → often k (lacks_from f a n) ≡ f k
often_from f a zero k low high = absurd (omega arith)
often_from f a (suc n) k low high =
    let e = often-append k (replicate (f a) a) (lacks_from f (a + 1) n) in
    elim (cases_eq a k) [
      | inl same ↦
          let here = often_same a (f a) in
          let rest = often_below f (a + 1) n a (omega arith) in
          let at : often a (lacks_from f a (suc n)) ≡ f a = often-append a (replicate (f a) a) (lacks_from f (a + 1) n) ∙ omega arith in
          subst (λ j. often j (lacks_from f a (suc n)) ≡ f j) same at
      | inr ne ↦
          let here = often_other k a (f a) ne in
          let rest = often_from f (a + 1) n k (omega arith) (omega arith) in
          omega arith
    ]

-- the number of a kind in what is lacking
pub often-lacking : (asked have : List ℕ) (k : ℕ) → k < 27 → often k (lacking asked have) ≡ get_or asked k 0 - get_or have k 0
unfolding lacking kinds
often-lacking asked have k h = often_from (λ k. get_or asked k 0 - get_or have k 0) 0 27 k (omega arith) h

length-lacking : (asked have : List ℕ) → length (lacking asked have) ≡ sum_by (λ k. get_or asked k 0 - get_or have k 0) kinds
unfolding lacking
length-lacking asked have =
    length-flat_map (λ k. replicate (get_or asked k 0 - get_or have k 0) k) kinds
    ∙ sum_kinds_same (λ k. length (replicate (get_or asked k 0 - get_or have k 0) k)) (λ k. get_or asked k 0 - get_or have k 0)
    (λ k h. length-replicate (get_or asked k 0 - get_or have k 0) k)

-- ---- the closed form of want lists
-- for each kind, the most that is asked for at a later moment, plus what leaves the rack before it
abbrev pub demand : Seat → List Step → ℕ → ℕ
demand seat [] k = 0
demand seat (s ∷ steps) k = max (get_or (asked_or_none (needed seat s)) k 0) (get_or (remaining_in seat s) k 0 + demand seat steps k)

-- no exchange of unknown tiles
abbrev pub IsKnownThroughout : Seat → List Step → Type 0
IsKnownThroughout seat [] = Unit {0}
IsKnownThroughout seat (s ∷ steps) = (ends_epoch seat s ≡ false) × IsKnownThroughout seat steps

pub known_front : (seat : Seat) (xs ys : List Step) → IsKnownThroughout seat (xs ++ ys) → IsKnownThroughout seat xs
known_front seat [] ys known = tt
known_front seat (x ∷ xs) ys known = (known.0, known_front seat xs ys known.1)

-- what a moment adds to a want list, and what is had after it
wanted_step : (o : Option (List ℕ)) (gone have remaining : List ℕ) (d k : ℕ) → k < 27 → get_or gone k 0 ≤ get_or have k 0 → get_or remaining k 0 ≤ get_or (asked_or_none o) k 0
    → (get_or (with_gone gone o) k 0 - get_or have k 0) + ((get_or (joined gone remaining) k 0 + d) - get_or (greater have (with_gone gone o)) k 0)
    ≡ (get_or gone k 0 + max (get_or (asked_or_none o) k 0) (get_or remaining k 0 + d)) - get_or have k 0
wanted_step None gone have remaining d k h le less =
    let z = get-no_tiles k h in
    let a = get-joined gone remaining k h in
    let b = get-greater have no_tiles k h in
    omega arith
wanted_step (Some tiles) gone have remaining d k h le less =
    let a = get-joined gone remaining k h in
    let t = get-joined gone tiles k h in
    let b = get-greater have (joined gone tiles) k h in
    omega arith

had_step : (o : Option (List ℕ)) (gone have remaining : List ℕ) (k : ℕ) → k < 27 → get_or gone k 0 ≤ get_or have k 0 → get_or remaining k 0 ≤ get_or (asked_or_none o) k 0
    → get_or (joined gone remaining) k 0 ≤ get_or (greater have (with_gone gone o)) k 0
had_step None gone have remaining k h le less =
    let z = get-no_tiles k h in
    let a = get-joined gone remaining k h in
    let b = get-greater have no_tiles k h in
    omega arith
had_step (Some tiles) gone have remaining k h le less =
    let a = get-joined gone remaining k h in
    let t = get-joined gone tiles k h in
    let b = get-greater have (joined gone tiles) k h in
    omega arith

-- a want list if no epoch ends
wanted_on : (seat : Seat) (s : Step) (steps : List Step) (gone have : List ℕ) → ends_epoch seat s ≡ false
    → wanted seat (s ∷ steps) gone have
    ≡ lacking (with_gone gone (needed seat s)) have ++ wanted seat steps (joined gone (remaining_in seat s)) (greater have (with_gone gone (needed seat s)))
wanted_on seat s steps gone have known =
    ap (λ (b : Bool). lacking (with_gone gone (needed seat s)) have
    ++ (if b then [] else wanted seat steps (joined gone (remaining_in seat s)) (greater have (with_gone gone (needed seat s))))) known

-- The closed form: a kind is wanted as often as the later moments ask for it, minus what the player has.
pub often-wanted : (seat : Seat) (steps : List Step) (gone have : List ℕ) (k : ℕ) → IsKnownThroughout seat steps → k < 27 → get_or gone k 0 ≤ get_or have k 0
    → often k (wanted seat steps gone have) ≡ (get_or gone k 0 + demand seat steps k) - get_or have k 0
often-wanted seat [] gone have k known h le = omega arith
often-wanted seat (s ∷ steps) gone have k known h le =
    let o = needed seat s in
    let remaining = remaining_in seat s in
    let less : get_or remaining k 0 ≤ get_or (asked_or_none o) k 0 = remaining_asked seat s.player s.act k h in
    let more = had_step o gone have remaining k h le less in
    let rest = often-wanted seat steps (joined gone remaining) (greater have (with_gone gone o)) k known.1 h more in
    let here = often-lacking (with_gone gone o) have k h in
    let math = wanted_step o gone have remaining (demand seat steps k) k h le less in
    let both = often-append k (lacking (with_gone gone o) have) (wanted seat steps (joined gone remaining) (greater have (with_gone gone o))) in
    ap (often k) (wanted_on seat s steps gone have known.0) ∙ both ∙ ap (λ (n : ℕ). n + often k (wanted seat steps (joined gone remaining) (greater have (with_gone gone o)))) here
    ∙ ap (λ (n : ℕ). (get_or (with_gone gone o) k 0 - get_or have k 0) + n) rest ∙ math

pub sum_of_none : (xs : List ℕ) → sum_by (λ k. 0) xs ≡ 0
sum_of_none [] = refl
sum_of_none (x ∷ xs) = let e = sum_by-cons (λ (k : ℕ). 0) x xs in let f = sum_of_none xs in omega arith

-- the number of tiles that are wanted
abbrev pub shortage : (demand : ℕ → ℕ) (rack : List ℕ) → ℕ
shortage demand rack = sum_by (λ k. demand k - get_or rack k 0) kinds

-- the part of a want list up to a place is its front
pub wanted_front : (seat : Seat) (before after : List Step) (gone have : List ℕ) → IsKnownThroughout seat before
    → (rest : List ℕ) × (wanted seat (before ++ after) gone have ≡ wanted seat before gone have ++ rest)
wanted_front seat [] after gone have known = (wanted seat after gone have, refl)
wanted_front seat (s ∷ before) after gone have known =
    let o = needed seat s in
    let here = lacking (with_gone gone o) have in
    let went = joined gone (remaining_in seat s) in
    let had = greater have (with_gone gone o) in
    let following = wanted_front seat before after went had known.1 in (
      following.0,
      wanted_on seat s (before ++ after) gone have known.0 ∙ ap (λ (l : List ℕ). here ++ l) following.1
          ∙ sym (append_assoc here (wanted seat before went had) following.0)
          ∙ ap (λ (l : List ℕ). l ++ following.0) (sym (wanted_on seat s before gone have known.0)),
    )

-- the length of a want list
pub length-wanted : (seat : Seat) (steps : List Step) (gone have : List ℕ) → IsKnownThroughout seat steps → ((k : ℕ) → k < 27 → get_or gone k 0 ≤ get_or have k 0)
    → length (wanted seat steps gone have) ≡ sum_by (λ k. (get_or gone k 0 + demand seat steps k) - get_or have k 0) kinds
length-wanted seat [] gone have known le =
    sym (sum_kinds_same (λ k. (get_or gone k 0 + 0) - get_or have k 0) (λ k. 0) (λ k h. let l = le k h in omega arith) ∙ sum_of_none kinds)
length-wanted seat (s ∷ steps) gone have known le =
    let o = needed seat s in
    let remaining = remaining_in seat s in
    let went = joined gone remaining in
    let had = greater have (with_gone gone o) in
    let less : (k : ℕ) → k < 27 → get_or remaining k 0 ≤ get_or (asked_or_none o) k 0 = λ k h. remaining_asked seat s.player s.act k h in
    let rest = length-wanted seat steps went had known.1 (λ k h. had_step o gone have remaining k h (le k h) (less k h)) in
    let here = length-lacking (with_gone gone o) have in
    let f : ℕ → ℕ = λ k. get_or (with_gone gone o) k 0 - get_or have k 0 in
    let g : ℕ → ℕ = λ k. (get_or went k 0 + demand seat steps k) - get_or had k 0 in
    ap length (wanted_on seat s steps gone have known.0) ∙ length-append (lacking (with_gone gone o) have) (wanted seat steps went had)
    ∙ ap (λ (n : ℕ). n + length (wanted seat steps went had)) here ∙ ap (λ (n : ℕ). sum_by f kinds + n) rest
    ∙ sym (sum_of_sums f g kinds)
    ∙ sum_kinds_same (λ k. f k + g k) (λ k. (get_or gone k 0 + demand seat (s ∷ steps) k) - get_or have k 0)
    (λ k h. wanted_step o gone have remaining (demand seat steps k) k h (le k h) (less k h))
