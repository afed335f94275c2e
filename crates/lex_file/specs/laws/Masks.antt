-- The nodes of a GAD2 file without a fault are a sound graph: lemmas for the laws of a lexicon that is walked.
use Rattle.std.proofs.Common.{◌≡◌, ℕ, zero, suc, ◌+◌, ◌-◌, ◌*◌, ◌/◌, ◌%◌, ◌^◌, ◌<◌, ◌≤◌, Bool, true, false, cond, ◌&&◌, ◌||◌, eqb, ltb, leb, List, [], ◌∷◌, length, get_or, Option, Some, None, inl, inr, ◌⊎◌, refl, sym, ap, subst, ◌∙◌, arith}
use Rattle.std.specs.Prelude.{count_ones, bit_and}
use Rattle.std.specs.List.{Contains}
use Rattle.std.specs.Option.{option_or}
use Rattle.std.proofs.lemmas.Bool.{ltb-true, leb-true, eqb-true, eq-eqb, lt-ltb, false≢true, cases_lt, and_parts}
use Rattle.std.proofs.lemmas.Nat.{mod-pow-add, ones_cat, pow_pos, mod_below, and_le_r}
use Rattle.first_faults.specs.Checks.{first_fault}
use Rattle.first_faults.proofs.CheckLaws.{checked, or_none}
use Rattle.lex_file.specs.declared.arcs.Arc.{Arc}
use Rattle.lex_file.specs.declared.faults.FileFault.{FileFault}
use Rattle.lex_file.specs.declared.faults.FileFault.TheVariants as why
use Rattle.lex_file.specs.Formats.{most_body_words}
use Rattle.lex_file.specs.Graphs.{IsSoundArc, AreRising, IsSoundGraph}
use Rattle.lex_file.specs.laws.Graphs.{first_or_other, none_there, or_cases}
use Rattle.lex_file.specs.Masks.{has_bit, is_marked, labels_below, label_count, node_size, mask_arc, arcs_among, mask_node, is_mask_node}
use Rattle.lex_file.specs.MaskShapes.{is_mask, accepts_labels, points_back, label_fault, labels_fault, node_fault, nodes_fault}

-- ---- labels and their number

one_bit : (bit : ℕ) → bit < 2 → count_ones bit ≡ bit
unfolding lib.Count.ones
one_bit zero lt = refl
one_bit (suc zero) lt = refl
one_bit (suc (suc bit)) lt = absurd (omega arith)

pub below_more : (word label : ℕ) → labels_below (suc label) word ≡ labels_below label word + word / 2 ^ label % 2
below_more word label =
    let next : 1 + label ≡ suc label = omega arith in
    let split = subst (λ (n : ℕ). word % 2 ^ n ≡ word / 2 ^ label % 2 * 2 ^ label + word % 2 ^ label) next (mod-pow-add word 1 label) in
    let bit = one_bit (word / 2 ^ label % 2) (mod_below (word / 2 ^ label) 2 (omega arith)) in
    let cat = ones_cat label (word / 2 ^ label % 2) (word % 2 ^ label) (mod_below word (2 ^ label) (pow_pos label)) in
    let whole = ap count_ones split ∙ cat in
    omega (arith, whole, bit)

bit_one : (word label : ℕ) → has_bit word label ≡ true → word / 2 ^ label % 2 ≡ 1
bit_one word label is = eqb-true (word / 2 ^ label % 2) 1 is

none_below : (word : ℕ) → labels_below 0 word ≡ 0
none_below word =
    let rest : word % 1 ≡ 0 = let small = mod_below word 1 (omega arith) in omega (arith, small) in
    ap count_ones rest ∙ one_bit 0 (omega arith)

-- the label at a place among those of a word
pub record IsLabelAt (word place bound : ℕ) : Type 0 where
  pub label : ℕ
  pub below : label < bound
  pub has : has_bit word label ≡ true
  pub at_place : labels_below label word ≡ place

pub label_at : (word place bound : ℕ) → place < labels_below bound word → IsLabelAt word place bound
label_at word place zero lt = let none = none_below word in absurd (omega (arith, none, lt))
label_at word place (suc bound) lt =
    elim (cases_lt place (labels_below bound word)) [
      | inl inside ↦ let found = label_at word place bound inside in record { label = found.label; below = omega (arith, found.below); has = found.has; at_place = found.at_place }
      | inr last ↦
          let step = below_more word bound in
          let small = mod_below (word / 2 ^ bound) 2 (omega arith) in
          record { label = bound; below = omega arith; has = eq-eqb (word / 2 ^ bound % 2) 1 (omega (arith, step, small, lt, last)); at_place = omega (arith, step, small, lt, last) }
    ]

-- ---- the arcs of a node

pub among_has : (words : List ℕ) (place from count : ℕ) → has_bit (get_or words place 0) from ≡ true
    → arcs_among words place from (suc count) ≡ mask_arc words place from ∷ arcs_among words place (from + 1) count
unfolding arcs_among
among_has words place from count is = rw is refl

pub among_lacks : (words : List ℕ) (place from count : ℕ) → has_bit (get_or words place 0) from ≡ false
    → arcs_among words place from (suc count) ≡ arcs_among words place (from + 1) count
unfolding arcs_among
among_lacks words place from count is = rw is refl

pub among_none : (words : List ℕ) (place from : ℕ) → arcs_among words place from 0 ≡ []
unfolding arcs_among
among_none words place from = refl

-- an arc of a node is that of a label of its label word
pub record IsMaskArc (words : List ℕ) (place from end : ℕ) (arc : Arc) : Type 0 where
  pub label : ℕ
  pub reached : from ≤ label
  pub below : label < end
  pub has : has_bit (get_or words place 0) label ≡ true
  pub is : mask_arc words place label ≡ arc

pub arc_among : (words : List ℕ) (place from count : ℕ) (arc : Arc) → Contains (arcs_among words place from count) arc → IsMaskArc words place from (from + count) arc
arc_among words place from zero arc h = absurd (none_there arc (rw (among_none words place from) at h))
arc_among words place from (suc count) arc h = by (has_bit (get_or words place 0) from) refl (λ there. arc_among words place (from + 1) count arc there)
  where
    wider : IsMaskArc words place (from + 1) (from + 1 + count) arc → IsMaskArc words place from (from + suc count) arc
    wider found = record { label = found.label; reached = omega (arith, found.reached); below = omega (arith, found.below); has = found.has; is = found.is }

    by : (has : Bool) → has_bit (get_or words place 0) from ≡ has
        → (Contains (arcs_among words place (from + 1) count) arc → IsMaskArc words place (from + 1) (from + 1 + count) arc)
        → IsMaskArc words place from (from + suc count) arc
    by true is more = elim (first_or_other (mask_arc words place from) arc (arcs_among words place (from + 1) count) (rw (among_has words place from count is) at h)) [
      | inl same ↦ record { label = from; reached = omega arith; below = omega arith; has = is; is = same }
      | inr other ↦ wider (more other)
    ]
    by false is more = wider (more (rw (among_lacks words place from count is) at h))

-- the labels of a node's arcs rise
pub among_rising : (words : List ℕ) (place from count : ℕ) → AreRising (arcs_among words place from count)
among_rising words place from zero = rw (among_none words place from) tt
among_rising words place from (suc count) = by (has_bit (get_or words place 0) from) refl (among_rising words place (from + 1) count)
  where
    above : (after : Arc) → Contains (arcs_among words place (from + 1) count) after → from < after.label
    above after h =
        let found = arc_among words place (from + 1) count after h in
        let label : found.label ≡ after.label = ap (λ (x : Arc). x.label) found.is in
        omega (arith, found.reached, label)

    by : (has : Bool) → has_bit (get_or words place 0) from ≡ has → AreRising (arcs_among words place (from + 1) count) → AreRising (arcs_among words place from (suc count))
    by true is more = rw (among_has words place from count is) (above, more)
    by false is more = rw (among_lacks words place from count is) more

-- a node with a label has an arc
among_filled : (words : List ℕ) (place from count label : ℕ) → from ≤ label → label < from + count → has_bit (get_or words place 0) label ≡ true
    → 0 < length (arcs_among words place from count)
among_filled words place from zero label le lt is = absurd (omega arith)
among_filled words place from (suc count) label le lt is =
    by (has_bit (get_or words place 0) from) refl (λ reached. among_filled words place (from + 1) count label reached (omega arith) is)
  where
    by : (has : Bool) → has_bit (get_or words place 0) from ≡ has → (from + 1 ≤ label → 0 < length (arcs_among words place (from + 1) count))
        → 0 < length (arcs_among words place from (suc count))
    by true first more = rw (among_has words place from count first) (omega arith)
    by false first more =
        rw (among_lacks words place from count first)
        (more (elim (cases_lt from label) [
          | inl less ↦ omega arith
          | inr after ↦
              let same : from ≡ label = omega arith in
              absurd (false≢true (sym first ∙ subst (λ (l : ℕ). has_bit (get_or words place 0) l ≡ true) (sym same) is))
        ]))

-- ---- nodes without a fault

-- what the checks of a label say
pub label_facts : (words : List ℕ) (place label : ℕ) → label_fault words place label ≡ None
    → (points_back words (place + 1) (mask_arc words place label).target ≡ true)
    × (((mask_arc words place label).accepts || ltb 0 (mask_arc words place label).target) ≡ true)
unfolding label_fault
label_facts words place label e =
    let target = checked (points_back words (place + 1) (mask_arc words place label).target) why.Target _ e in
    let alive = checked ((mask_arc words place label).accepts || ltb 0 (mask_arc words place label).target) why.DeadArc _ target.1 in
    (target.0, alive.0)

pub label_fine : (words : List ℕ) (place count label : ℕ) → labels_fault words place count ≡ None → label < count → has_bit (get_or words place 0) label ≡ true
    → label_fault words place label ≡ None
unfolding labels_fault
label_fine words place zero label e lt is = absurd (omega arith)
label_fine words place (suc count) label e lt is =
    let parts = or_none (labels_fault words place count) (cond (has_bit (get_or words place 0) count) (label_fault words place count) None) e in
    elim (cases_lt label count) [
      | inl before ↦ label_fine words place count label parts.0 before is
      | inr after ↦ let same : label ≡ count = omega arith in rw same (rw (rw same at is) at parts.1)
    ]

-- what the checks of a node say
pub record IsFineNode (words : List ℕ) (place : ℕ) : Type 0 where
  pub marked : is_marked (get_or words place 0) ≡ true
  pub mask : is_mask (get_or words place 0) ≡ true
  pub room : place + node_size (get_or words place 0) ≤ length words
  pub accepts : accepts_labels (get_or words place 0) (get_or words (place + 1) 0) ≡ true
  pub labels : labels_fault words place 27 ≡ None

last_none : (fault : Option FileFault) → first_fault (fault ∷ []) ≡ None → fault ≡ None
last_none None e = refl
last_none (Some fault) e = absurd cc

pub node_facts : (words : List ℕ) (place : ℕ) → node_fault words place ≡ None → IsFineNode words place
unfolding node_fault
node_facts words place e =
    let marked = checked (is_marked (get_or words place 0)) why.NoMark _ e in
    let mask = checked (is_mask (get_or words place 0)) why.Mask _ marked.1 in
    let room = checked (leb (place + node_size (get_or words place 0)) (length words)) why.OpenRun _ mask.1 in
    let accepts = checked (accepts_labels (get_or words place 0) (get_or words (place + 1) 0)) why.Accept _ room.1 in
    record {
      marked = marked.0;
      mask = mask.0;
      room = leb-true (place + node_size (get_or words place 0)) (length words) room.0;
      accepts = accepts.0;
      labels = last_none (labels_fault words place 27) accepts.1;
    }

-- a word below 2 ^ 31 is not a label word
unmarked : (word : ℕ) → word < 2 ^ 31 → is_marked word ≡ true → ⊥
unmarked word low is = let bit = bit_one word 31 is in absurd (omega (arith, bit, low))

accept_unmarked : (words : List ℕ) (place : ℕ) → IsFineNode words place → is_marked (get_or words (place + 1) 0) ≡ true → ⊥
accept_unmarked words place fine =
    let same = eqb-true (bit_and (get_or words (place + 1) 0) (get_or words place 0 % 2 ^ 27)) (get_or words (place + 1) 0) fine.accepts in
    let low = and_le_r (get_or words (place + 1) 0) (get_or words place 0 % 2 ^ 27) in
    let mask = mod_below (get_or words place 0) (2 ^ 27) (omega arith) in
    unmarked (get_or words (place + 1) 0) (omega (arith, same, low, mask))

points_where : (words : List ℕ) (n target : ℕ) → points_back words n target ≡ true → (target ≡ 0) ⊎ ((target < n) × (is_mask_node words target ≡ true))
points_where words n target e =
    elim (or_cases (eqb target 0) (ltb target n && is_mask_node words target) e) [
      | inl none ↦ inl (eqb-true target 0 none)
      | inr some ↦ let parts = and_parts (ltb target n) (is_mask_node words target) some in inr (ltb-true target n parts.0, parts.1)
    ]

target_unmarked : (words : List ℕ) (place last : ℕ) → length words ≤ most_body_words → IsFineNode words place → last < label_count (get_or words place 0)
    → is_marked (get_or words (place + 2 + last) 0) ≡ true → ⊥
target_unmarked words place last few fine lt =
    let found = label_at (get_or words place 0) last 27 lt in
    let facts = label_facts words place found.label (label_fine words place 27 found.label fine.labels found.below found.has) in
    let low : (mask_arc words place found.label).target < 2 ^ 31 = elim (points_where words (place + 1) (mask_arc words place found.label).target facts.0) [
      | inl none ↦ omega (arith, none)
      | inr there ↦ omega (arith, there.0, fine.room, few)
    ] in
    let target : get_or words (place + 2 + last) 0 < 2 ^ 31 = subst (λ (n : ℕ). get_or words (place + 2 + n) 0 < 2 ^ 31) found.at_place low in
    unmarked (get_or words (place + 2 + last) 0) target

-- each label word is that of a node without a fault
pub marked_fine : (words : List ℕ) (remaining from place : ℕ) → length words ≤ most_body_words → nodes_fault words remaining from ≡ None → length words ≤ from + remaining
    → from ≤ place → place < length words → is_marked (get_or words place 0) ≡ true → IsFineNode words place
unfolding nodes_fault
marked_fine words zero from place few e size le lt is = absurd (omega arith)
marked_fine words (suc remaining) from place few e size le lt is =
    let inside = lt-ltb from (length words) (omega arith) in
    let whole : option_or (node_fault words from) (nodes_fault words remaining (from + node_size (get_or words from 0))) ≡ None = rw inside at e in
    let parts = or_none (node_fault words from) (nodes_fault words remaining (from + node_size (get_or words from 0))) whole in
    let fine = node_facts words from parts.0 in
    elim (cases_lt place (from + node_size (get_or words from 0))) [
      | inl within ↦ in_node fine within
      | inr following ↦ marked_fine words remaining (from + node_size (get_or words from 0)) place few parts.1 (omega arith) following lt is
    ]
  where
    in_node : IsFineNode words from → place < from + node_size (get_or words from 0) → IsFineNode words place
    in_node fine within =
        elim (cases_lt from place) [
          | inl after ↦ elim (cases_lt (from + 1) place) [
            | inl target ↦
                let same : place ≡ from + 2 + (place - (from + 2)) = omega arith in
                absurd (target_unmarked words from (place - (from + 2)) few fine (omega arith) (subst (λ (p : ℕ). is_marked (get_or words p 0) ≡ true) same is))
            | inr accept ↦
                let same : place ≡ from + 1 = omega arith in
                absurd (accept_unmarked words from fine (subst (λ (p : ℕ). is_marked (get_or words p 0) ≡ true) same is))
          ]
          | inr first ↦ let same : from ≡ place = omega arith in subst (λ (p : ℕ). IsFineNode words p) same fine
        ]

pub node_fine : (words : List ℕ) (place : ℕ) → length words ≤ most_body_words → nodes_fault words (length words) 0 ≡ None → is_mask_node words (suc place) ≡ true
    → IsFineNode words place
node_fine words place few e is =
    let parts = and_parts (ltb place (length words)) (is_marked (get_or words place 0)) is in
    marked_fine words (length words) 0 place few e (omega arith) (omega arith) (ltb-true place (length words) parts.0) parts.1

-- the nodes of a body without a fault are a sound graph
pub gad2_graph : (words : List ℕ) → length words ≤ most_body_words → nodes_fault words (length words) 0 ≡ None → IsSoundGraph (mask_node words) (is_mask_node words)
gad2_graph words few e = record { none = refl; some = filled; arcs = sound_arc; rising = rising_at }
  where
    filled : (n : ℕ) → 0 < n → is_mask_node words n ≡ true → 0 < length (mask_node words n)
    filled zero lt is = absurd (omega arith)
    filled (suc place) lt is =
        let fine = node_fine words place few e is in
        let parts = and_parts (eqb (get_or words place 0 / 2 ^ 27 % 16) 0) (ltb 0 (label_count (get_or words place 0))) fine.mask in
        let found = label_at (get_or words place 0) 0 27 (ltb-true 0 (label_count (get_or words place 0)) parts.1) in
        among_filled words place 0 27 found.label (omega arith) found.below found.has

    sound_arc : (n : ℕ) (arc : Arc) → is_mask_node words n ≡ true → Contains (mask_node words n) arc → IsSoundArc (is_mask_node words) n arc
    sound_arc zero arc is h = absurd (none_there arc h)
    sound_arc (suc place) arc is h =
        let fine = node_fine words place few e is in
        let found = arc_among words place 0 27 arc h in
        let facts = label_facts words place found.label (label_fine words place 27 found.label fine.labels found.below found.has) in
        let n : place + 1 ≡ suc place = omega arith in
        subst (λ (x : Arc). IsSoundArc (is_mask_node words) (suc place) x) found.is
        (record {
          label = omega (arith, found.below);
          target = points_where words (suc place) (mask_arc words place found.label).target (rw n at facts.0);
          alive = facts.1;
        })

    rising_at : (n : ℕ) → is_mask_node words n ≡ true → AreRising (mask_node words n)
    rising_at zero is = tt
    rising_at (suc place) is = among_rising words place 0 27
