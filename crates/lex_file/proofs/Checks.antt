-- Steps of the pass over the arcs of a file.
use Rattle.std.proofs.Common.{◌≡◌, ℕ, zero, suc, ◌+◌, ◌-◌, ◌<◌, ◌≤◌, ◌%◌, true, false, Bool, if◌then◌else◌, List, length, get_or, Some, None, inl, inr, refl, ◌∙◌, ◌||◌, ◌==◌, nat_le, nat_lt, arith, add-one, subst, sym, true≢false}
use Rattle.std.proofs.lemmas.Bool.{cases_lt}
use Rattle.lex_file.specs.declared.faults.FileFault.{FileFault}
use Rattle.lex_file.specs.Arcs.{arc_of, is_last}
use Rattle.lex_file.specs.Nodes.{start_at}
use Rattle.lex_file.specs.Formats.{greatest_label}
use Rattle.lex_file.specs.laws.Nodes.{arc_facts}
use Rattle.lex_file.specs.Shapes.{IsLeast, leads_back, arc_fault, arcs_fault, body_fault}

pub fine_none : (words : List ℕ) → arcs_fault words 0 ≡ None
unfolding arcs_fault
fine_none words = refl

pub fine_more : (words : List ℕ) (place : ℕ) → arcs_fault words place ≡ None → arc_fault words place ≡ None → arcs_fault words (place + 1) ≡ None
unfolding arcs_fault
fine_more words place before here = rw add-one (rw (before, here) refl)

fault_more : (words : List ℕ) (place : ℕ) (fault : FileFault) → arcs_fault words place ≡ None → arc_fault words place ≡ Some fault → arcs_fault words (suc place) ≡ Some fault
unfolding arcs_fault
fault_more words place fault before here = rw (before, here) refl

fault_stays : (words : List ℕ) (count more : ℕ) (fault : FileFault) → arcs_fault words count ≡ Some fault → count ≤ more → arcs_fault words more ≡ Some fault
unfolding arcs_fault
fault_stays words count zero fault e le = let same : count ≡ zero = omega arith in subst (λ (n : ℕ). arcs_fault words n ≡ Some fault) same e
fault_stays words count (suc more) fault e le =
    elim (cases_lt count (suc more)) [
      | inl before ↦ let there = fault_stays words count more fault e (omega arith) in rw there refl
      | inr after ↦ let same : count ≡ suc more = omega arith in subst (λ (n : ℕ). arcs_fault words n ≡ Some fault) same e
    ]

pub fault_here : (words : List ℕ) (place : ℕ) (fault : FileFault) → place < length words → arcs_fault words place ≡ None → arc_fault words place ≡ Some fault
    → body_fault words ≡ Some fault
unfolding body_fault
fault_here words place fault lt before here =
    let there = fault_stays words (suc place) (length words) fault (fault_more words place fault before here) (omega arith) in
    rw there refl

pub start_last : (words : List ℕ) (place : ℕ) → is_last (get_or words place 0) ≡ true → start_at words (place + 1) ≡ place + 2
unfolding start_at
start_last words place last = rw add-one (rw last refl)

pub start_same : (words : List ℕ) (place : ℕ) → is_last (get_or words place 0) ≡ false → start_at words (place + 1) ≡ start_at words place
unfolding start_at
start_same words place last = rw add-one (rw last refl)

start_low : (words : List ℕ) (place : ℕ) → 1 ≤ start_at words place
unfolding start_at
start_low words zero = omega arith
start_low words (suc place) = by (is_last (get_or words place 0)) (start_low words place)
  where
    by : (last : Bool) → 1 ≤ start_at words place → 1 ≤ (if last then place + 2 else start_at words place)
    by true low = omega arith
    by false low = low

pub start_below : (words : List ℕ) (place : ℕ) → start_at words place ≤ place + 1
unfolding start_at
start_below words zero = omega arith
start_below words (suc place) = by (is_last (get_or words place 0)) (start_below words place)
  where
    by : (last : Bool) → start_at words place ≤ place + 1 → (if last then place + 2 else start_at words place) ≤ suc place + 1
    by true below = omega arith
    by false below = omega arith

-- a node that begins with the first arc: the first arc is not the last of it, or is the arc itself
start_first : (words : List ℕ) (place : ℕ) → start_at words place ≡ 1 → 0 < place → is_last (get_or words 0 0) ≡ false
unfolding start_at
start_first words zero start some = absurd (omega arith)
start_first words (suc zero) start some = by (is_last (get_or words 0 0)) refl start
  where
    by : (last : Bool) → is_last (get_or words 0 0) ≡ last → (if last then zero + 2 else 1) ≡ 1 → is_last (get_or words 0 0) ≡ false
    by true e start = absurd (omega arith)
    by false e start = e
start_first words (suc (suc place)) start some = by (is_last (get_or words (suc place) 0)) (λ e. start_first words (suc place) e (omega arith)) start
  where
    by : (last : Bool) → (start_at words (suc place) ≡ 1 → is_last (get_or words 0 0) ≡ false) → (if last then suc place + 2 else start_at words (suc place)) ≡ 1
        → is_last (get_or words 0 0) ≡ false
    by true go start = absurd (omega arith)
    by false go start = go start

-- a node that begins with the second arc: the first arc is a node of its own
start_second : (words : List ℕ) (place : ℕ) → start_at words place ≡ 2 → is_last (get_or words 0 0) ≡ true
unfolding start_at
start_second words zero start = absurd (omega arith)
start_second words (suc place) start = by (is_last (get_or words place 0)) refl (start_second words place) start
  where
    by : (last : Bool) → is_last (get_or words place 0) ≡ last → (start_at words place ≡ 2 → is_last (get_or words 0 0) ≡ true)
        → (if last then place + 2 else start_at words place) ≡ 2 → is_last (get_or words 0 0) ≡ true
    by true e go start = let here : place ≡ 0 = omega arith in subst (λ (n : ℕ). is_last (get_or words n 0) ≡ true) here e
    by false e go start = go start

-- if the node before does not end after the first arc, a node begins with the second arc or with the first one
pub start_two : (words : List ℕ) (place : ℕ) → start_at words place - 2 ≡ 0 → 0 < place → is_last (get_or words 0 0) ≡ true → 2 ≡ start_at words place
start_two words place following some last =
    let low = start_low words place in
    elim (cases_lt (start_at words place) 2) [
      | inl one ↦ let e : start_at words place ≡ 1 = omega arith in absurd (true≢false (sym last ∙ start_first words place e some))
      | inr more ↦ omega arith
    ]

pub start_one : (words : List ℕ) (place : ℕ) → start_at words place - 2 ≡ 0 → (0 < place → is_last (get_or words 0 0) ≡ false) → 1 ≡ start_at words place
start_one words place following not =
    let low = start_low words place in
    let high = start_below words place in
    elim (cases_lt (start_at words place) 2) [
      | inl one ↦ omega arith
      | inr more ↦ let e : start_at words place ≡ 2 = omega arith in absurd (true≢false (sym (start_second words place e) ∙ not (omega arith)))
    ]

-- where the node of the next arc ends, and which labels are in order at that arc
pub next_of_last : (words : List ℕ) (place : ℕ) → is_last (get_or words place 0) ≡ true
    → (place ≡ start_at words (place + 1) - 2) × IsLeast words (place + 1) 0
next_of_last words place last = (rw (start_last words place last) (omega arith), λ label. rw add-one (rw last (grind arith)))

pub next_of_more : (words : List ℕ) (place room : ℕ) → is_last (get_or words place 0) ≡ false → room + (arc_of (get_or words place 0)).label ≡ greatest_label
    → (start_at words place - 2 ≡ start_at words (place + 1) - 2) × IsLeast words (place + 1) (27 - room)
next_of_more words place room last e =
    let least : 27 - room ≡ (arc_of (get_or words place 0)).label + 1 = omega arith in
    (rw (start_same words place last) refl, λ label. rw (add-one, least, add-one) (rw last refl))

pub start_none : (words : List ℕ) → 0 ≡ start_at words 0 - 2
unfolding start_at
start_none words = refl

pub least_none : (words : List ℕ) → IsLeast words 0 0
least_none words label = grind arith

-- the label of an arc without a fault
pub low_label : (words : List ℕ) (place : ℕ) → arc_fault words place ≡ None → (arc_of (get_or words place 0)).label ≤ greatest_label
unfolding arc_fault
low_label words place fine = (arc_facts words place fine).0.label

-- a target after the last arc of a node
pub leads_after : (words : List ℕ) (start target : ℕ) → 2 ≤ target → target < start → start ≤ length words → is_last (get_or words (target - 2) 0) ≡ true → leads_back words start target ≡ true
leads_after words start zero low below inside last = absurd (omega arith)
leads_after words start (suc zero) low below inside last = absurd (omega arith)
leads_after words start (suc (suc t)) low below inside last =
    let before : nat_lt (suc (suc t)) start ≡ true = grind arith in
    let within : nat_lt (suc t) (length words) ≡ true = grind arith in
    let following : suc (suc t) - 2 ≡ t = omega arith in
    let ends : is_last (get_or words t 0) ≡ true = subst (λ (n : ℕ). is_last (get_or words n 0) ≡ true) following last in
    rw (before, within, ends) (either (suc (suc t) == 0))
  where
    either : (b : Bool) → (b || true) ≡ true
    either true = refl
    either false = refl

-- an arc that passes each check has no fault
pub no_fault : (words : List ℕ) (place least : ℕ) → IsLeast words place least → nat_le (arc_of (get_or words place 0)).label greatest_label ≡ true → nat_le least (arc_of (get_or words place 0)).label ≡ true
    → leads_back words (start_at words place) (arc_of (get_or words place 0)).target ≡ true → ((arc_of (get_or words place 0)).accepts || nat_lt 0 (arc_of (get_or words place 0)).target) ≡ true
    → arc_fault words place ≡ None
unfolding arc_fault
no_fault words place least order low ordered back alive =
    rw (low, order (arc_of (get_or words place 0)).label ∙ ordered, back, alive) refl

-- a target that is the first arc of all
pub leads_to_first : (words : List ℕ) (start : ℕ) → 1 < start → 0 < length words → leads_back words start 1 ≡ true
leads_to_first words start below some =
    let before : nat_lt 1 start ≡ true = grind arith in
    let within : nat_lt 0 (length words) ≡ true = grind arith in
    rw (before, within) refl

-- What the tests of a label and of a target say; their differences wrap at 2 ^ 32 and 2 ^ 64.
pub in_order : (label room : ℕ) → label < 256 → room ≤ 27 → (label + room + 4294967269) % 4294967296 < room → (label ≤ greatest_label) × (27 - room ≤ label)
in_order label room low few h = (omega arith, omega arith)

pub lands : (target following : ℕ) → target < 4294967296 → following < 4611686018427387904 → (target + 18446744073709551614) % 18446744073709551616 < following
    → (2 ≤ target) × ((target + 18446744073709551614) % 18446744073709551616 ≡ target - 2)
lands target following low inside h = (omega arith, omega arith)
