-- The nodes of a file that is converted, one after another.
use Rattle.std.proofs.Common.{◌≡◌, ℕ, zero, suc, ◌+◌, ◌<◌, ◌≤◌, Bool, true, false, ◌||◌, ltb, List, [], ◌∷◌, length, map, get_or, Some, inl, inr, ◌⊎◌, refl, sym, ap, subst, ◌∙◌, arith}
use Rattle.std.specs.Prelude.{IsTrue, slice_index}
use Rattle.std.specs.List.{Contains}
use Rattle.std.proofs.lemmas.Bool.{ltb-true, lt-ltb, false≢true, and_parts, cases_lt}
use Rattle.lex_file.specs.declared.arcs.Arc.{Arc}
use Rattle.lex_file.specs.declared.formats.Format.{Format}
use Rattle.lex_file.specs.declared.formats.Format.TheVariants as form
use Rattle.lex_file.specs.Files.{IsNextNode}
use Rattle.lex_file.specs.FileWords.{body_of}
use Rattle.lex_file.specs.Graphs.{IsSoundGraph, AreRising}
use Rattle.lex_file.specs.laws.Graphs.{first_or_other, is_other, none_there}
use Rattle.lex_file.specs.Masks.{is_marked}
use Rattle.lex_file.specs.Nodes.{begins}
use Rattle.lex_file.specs.MaskShapes.{nodes_fault}
use Rattle.lex_file.specs.Shapes.{arcs_fault, nodes_by, names_node, file_node, is_file_node}
use Rattle.lex_build.specs.Stores.{limit_of, words_for, IsSoundBody, is_stored, IsNextArc, AreNextArcs, IsStoredNext}
use Rattle.lex_build.specs.Converts.{words_up_to, words_in_format, renamed}
use Rattle.lex_build.specs.Conversions.{IsNodeTo, IsConvertedTo, IsConvertedBefore, IsNumbered}

-- ---- the words of the nodes up to a number

-- if there is no node between two numbers, the nodes up to them take the same words
pub same_words : (format : Format) (bytes : List ℕ) (low high : ℕ) → low ≤ high → ((n : ℕ) → low < n → n ≤ high → is_file_node bytes n ≡ false)
    → words_up_to format bytes high ≡ words_up_to format bytes low
unfolding words_up_to
same_words format bytes low zero le none = let same : zero ≡ low = omega arith in ap (words_up_to format bytes) same
same_words format bytes low (suc high) le none =
    elim (cases_lt low (suc high)) [
      | inl less ↦
          let before = same_words format bytes low high (omega arith) (λ n above within. none n above (omega arith)) in
          rw (none (suc high) less (omega arith)) (omega (arith, before))
      | inr more ↦ let same : suc high ≡ low = omega arith in ap (words_up_to format bytes) same
    ]

pub rising_words : (format : Format) (bytes : List ℕ) (low high : ℕ) → low ≤ high → words_up_to format bytes low ≤ words_up_to format bytes high
unfolding words_up_to
rising_words format bytes low zero le = let same : low ≡ zero = omega arith in rw same (omega arith)
rising_words format bytes low (suc high) le =
    elim (cases_lt low (suc high)) [
      | inl less ↦ let before = rising_words format bytes low high (omega arith) in omega (arith, before)
      | inr more ↦ let same : low ≡ suc high = omega arith in rw same (omega arith)
    ]

pub next_words : (format : Format) (bytes : List ℕ) (low n : ℕ) → IsNextNode bytes low n
    → words_up_to format bytes n ≡ words_up_to format bytes low + words_for format (length (file_node bytes n))
unfolding words_up_to
next_words format bytes low zero next = let above = next.above in absurd (omega arith)
next_words format bytes low (suc n) next =
    let above = next.above in
    let before = same_words format bytes low n (omega arith) (λ m after within. next.next m after (omega arith)) in
    rw (next.node) (omega (arith, before))

-- ---- the arcs of the next node

renamed_there : (name : ℕ → ℕ) (arcs : List Arc) (x : Arc) → Contains (map (renamed name) arcs) x → (arc : Arc) × Contains arcs arc × (renamed name arc ≡ x)
renamed_there name [] x there = absurd (none_there x there)
renamed_there name (arc ∷ arcs) x there =
    elim (first_or_other (renamed name arc) x (map (renamed name) arcs) there) [
      | inl here ↦ (arc, (0, omega arith, refl), here)
      | inr later ↦ let found = renamed_there name arcs x later in (found.0, is_other arc found.0 arcs found.1, found.2)
    ]

rising_renamed : (name : ℕ → ℕ) (arcs : List Arc) → AreRising arcs → AreRising (map (renamed name) arcs)
rising_renamed name [] rising = tt
rising_renamed name (arc ∷ arcs) rising =
    (λ after there. let found = renamed_there name arcs after there in subst (λ (x : Arc). arc.label < x.label) found.2 (rising.0 found.0 found.1), rising_renamed name arcs rising.1)

pub renamed_length : (name : ℕ → ℕ) (arcs : List Arc) → length (map (renamed name) arcs) ≡ length arcs
renamed_length name [] = refl
renamed_length name (arc ∷ arcs) = ap suc (renamed_length name arcs)

-- a target of a node is none, or one of the nodes before it
pub target_before : (format : Format) (bytes words numbers : List ℕ) (last n target : ℕ) → IsConvertedTo format bytes words numbers last → IsNextNode bytes last n
    → (target ≡ 0) ⊎ ((target < n) × IsTrue (is_file_node bytes target)) → (target ≡ 0) ⊎ IsNodeTo bytes last target
target_before format bytes words numbers last n zero before next where_is = inl refl
target_before format bytes words numbers last n (suc place) before next where_is =
    elim where_is [
      | inl none ↦ absurd (omega arith)
      | inr there ↦ elim (cases_lt last (suc place)) [
        | inl above ↦ absurd (false≢true (sym (next.next (suc place) above there.0) ∙ there.1))
        | inr within ↦ inr (record { some = omega arith; within = within; node = there.1 })
      ]
    ]

or_from : (a b c : Bool) → (a || b) ≡ true → (b ≡ true → c ≡ true) → (a || c) ≡ true
or_from true b c e f = refl
or_from false b c e f = f e

pub next_arcs : (format : Format) (bytes words numbers : List ℕ) (n : ℕ) → IsSoundGraph (file_node bytes) (is_file_node bytes)
    → IsConvertedBefore format bytes words numbers n → AreNextArcs format words (map (renamed (slice_index numbers)) (file_node bytes n))
next_arcs format bytes words numbers n graph ready =
    record {
      some = rw (renamed_length (slice_index numbers) (file_node bytes n)) (graph.some n (omega (arith, ready.next.above)) ready.next.node);
      each = λ x there.
          let found = renamed_there (slice_index numbers) (file_node bytes n) x there in
          subst (IsNextArc format words) found.2 (next_arc found.0 found.1);
      rising = rising_renamed (slice_index numbers) (file_node bytes n) (graph.rising n ready.next.node);
    }
  where
    next_arc : (arc : Arc) → Contains (file_node bytes n) arc → IsNextArc format words (renamed (slice_index numbers) arc)
    next_arc arc there =
        let sound = graph.arcs n arc ready.next.node there in
        let where_is = target_before format bytes words numbers ready.last n arc.target ready.before ready.next sound.target in
        record {
          label = sound.label;
          target = elim where_is [
            | inl none ↦ rw (none, ready.before.none) refl
            | inr node ↦ ready.before.stored arc.target node
          ];
          alive = or_from arc.accepts (ltb 0 arc.target) (ltb 0 (slice_index numbers arc.target)) sound.alive
              (λ leads. elim where_is [
                | inl none ↦ absurd (let some = ltb-true 0 arc.target leads in omega (arith, none, some))
                | inr node ↦ lt-ltb 0 (slice_index numbers arc.target) (ready.before.positive arc.target node)
              ]);
        }

-- ---- one more node

-- a number other than 0 is stored if it names a node
pub stored_named : (format : Format) (words : List ℕ) (n : ℕ) → 0 < n → is_stored format words n ≡ names_node (Some format) words n
stored_named format words zero some = absurd (omega arith)
stored_named format words (suc place) some = refl

-- a number that is stored is that of a word
pub stored_within : (format : Format) (words : List ℕ) (n : ℕ) → is_stored format words n ≡ true → n ≤ length words
stored_within format words zero is = omega arith
stored_within form.Gad1 words (suc place) is =
    let lt = ltb-true place (length words) (and_parts (ltb place (length words)) (begins words place) is).0 in
    omega arith
stored_within form.Gad2 words (suc place) is =
    let lt = ltb-true place (length words) (and_parts (ltb place (length words)) (is_marked (get_or words place 0)) is).0 in
    omega arith

same_renamed : (name other : ℕ → ℕ) (arcs : List Arc) → ((arc : Arc) → Contains arcs arc → name arc.target ≡ other arc.target)
    → map (renamed name) arcs ≡ map (renamed other) arcs
same_renamed name other [] same = refl
same_renamed name other (arc ∷ arcs) same =
    ap
    (λ (target : ℕ). (record { label = arc.label; accepts = arc.accepts; target = target }) ∷ map (renamed name) arcs)
    (same arc (0, omega arith, refl))
    ∙ ap (λ (rest : List Arc). renamed other arc ∷ rest) (same_renamed name other arcs (λ x there. same x (is_other arc x arcs there)))

-- a node up to the next one is the next one, or one of those before
last_or_before : (bytes : List ℕ) (last n m : ℕ) → IsNextNode bytes last n → IsNodeTo bytes n m → (m ≡ n) ⊎ IsNodeTo bytes last m
last_or_before bytes last n m next node =
    elim (cases_lt m n) [
      | inl less ↦ elim (cases_lt last m) [
        | inl above ↦ absurd (false≢true (sym (next.next m above less) ∙ node.node))
        | inr within ↦ inr (record { some = node.some; within = within; node = node.node })
      ]
      | inr more ↦ inl (let within = node.within in omega arith)
    ]

module _ (format : Format) (bytes words new numbers numbered : List ℕ) (n : ℕ) (graph : IsSoundGraph (file_node bytes) (is_file_node bytes))
    (inside : n ≤ length (body_of bytes)) (ready : IsConvertedBefore format bytes words numbers n)
    (next : IsStoredNext format words new (map (renamed (slice_index numbers)) (file_node bytes n))) (number : IsNumbered numbers numbered n (length words + 1)) where
  kept : (m : ℕ) → m < n → slice_index numbered m ≡ slice_index numbers m
  kept m lt = number.same m (λ e. omega (arith, lt, e))

  kept_node : (m : ℕ) → IsNodeTo bytes ready.last m → slice_index numbered m ≡ slice_index numbers m
  kept_node m node = let above = ready.next.above in kept m (let within = node.within in omega arith)

  arcs_kept : (m : ℕ) → IsNodeTo bytes n m → map (renamed (slice_index numbered)) (file_node bytes m) ≡ map (renamed (slice_index numbers)) (file_node bytes m)
  arcs_kept m node = same_renamed (slice_index numbered) (slice_index numbers) (file_node bytes m) target_kept
    where
      target_kept : (arc : Arc) → Contains (file_node bytes m) arc → slice_index numbered arc.target ≡ slice_index numbers arc.target
      target_kept arc there =
          elim (graph.arcs m arc node.node there).target [
            | inl none ↦ kept arc.target (let above = ready.next.above in omega (arith, none))
            | inr some ↦ kept arc.target (let within = node.within in omega (arith, some.0))
          ]

  place_is : is_stored format new (length words + 1) ≡ true
  place_is = stored_named format new (length words + 1) (omega arith) ∙ next.is

  pub one_more : IsConvertedTo format bytes new numbered n
  one_more =
      let before = ready.before in
      record {
        sound = next.sound;
        size =
            let count = renamed_length (slice_index numbers) (file_node bytes n) in
            next.size ∙ ap (λ (c : ℕ). length words + words_for format c) count ∙ ap (λ (c : ℕ). c + words_for format (length (file_node bytes n))) before.size
            ∙ sym (next_words format bytes ready.last n ready.next);
        inside = inside;
        covers = number.size;
        none = kept 0 (let above = ready.next.above in omega arith) ∙ before.none;
        positive = λ m node. elim (last_or_before bytes ready.last n m ready.next node) [
          | inl here ↦ rw (here, number.here) (omega arith)
          | inr old ↦ rw (kept_node m old) (before.positive m old)
        ];
        stored = λ m node. elim (last_or_before bytes ready.last n m ready.next node) [
          | inl here ↦ rw (here, number.here) place_is
          | inr old ↦ rw (kept_node m old) (next.stays (slice_index numbers m) (before.stored m old))
        ];
        arcs = λ m node. elim (last_or_before bytes ready.last n m ready.next node) [
          | inl here ↦
              ap (nodes_by (Some format) new) (ap (slice_index numbered) here ∙ number.here)
              ∙ next.node
              ∙ ap (λ (k : ℕ). map (renamed (slice_index numbers)) (file_node bytes k)) (sym here)
              ∙ sym (arcs_kept m node)
          | inr old ↦
              ap (nodes_by (Some format) new) (kept_node m old)
              ∙ next.same (slice_index numbers m) (before.stored m old)
              ∙ before.arcs m old
              ∙ sym (arcs_kept m node)
        ];
        rising = λ m k low high less. elim (last_or_before bytes ready.last n k ready.next high) [
          | inl here ↦ elim (last_or_before bytes ready.last n m ready.next low) [
            | inl also ↦ absurd (omega (arith, less, here, also))
            | inr old ↦
                let within = stored_within format words (slice_index numbers m) (before.stored m old) in
                rw (here, number.here, kept_node m old) (omega (arith, within))
          ]
          | inr old ↦ elim (last_or_before bytes ready.last n m ready.next low) [
            | inl also ↦ absurd (omega (arith, less, also, old.within, ready.next.above))
            | inr older ↦ rw (kept_node m older, kept_node k old) (before.rising m k older old less)
          ]
        ];
        all = λ m some is. elim (next.alone m is) [
          | inl here ↦ (n, record { some = let above = ready.next.above in omega arith; within = omega arith; node = ready.next.node }, number.here ∙ sym here)
          | inr old ↦
              let found = before.all m some old in
              (found.0, record { some = found.1.some; within = omega (arith, found.1.within, ready.next.above); node = found.1.node }, kept_node found.0 found.1 ∙ found.2)
        ];
      }

-- ---- the start, and too many nodes

start_sound : (format : Format) → IsSoundBody format []
unfolding arcs_fault nodes_fault
start_sound form.Gad1 = record { fine = refl; closed = refl; few = omega arith }
start_sound form.Gad2 = record { fine = refl; few = omega arith }

pub started : (format : Format) (bytes words numbers : List ℕ) → words ≡ [] → numbers ≡ 0 ∷ [] → IsConvertedTo format bytes words numbers 0
unfolding words_up_to
started format bytes words numbers none only = rw (none, only) (record {
  sound = start_sound format;
  size = refl;
  inside = omega arith;
  covers = refl;
  none = refl;
  positive = λ n node. absurd (omega (arith, node.some, node.within));
  stored = λ n node. absurd (omega (arith, node.some, node.within));
  arcs = λ n node. absurd (omega (arith, node.some, node.within));
  rising = λ m n low high less. absurd (omega (arith, low.some, low.within));
  all = λ m some is. absurd (let within = stored_within format [] m is in omega (arith, some, within));
})

-- if the next node does not fit after those before it, not all nodes fit
pub too_many : (format : Format) (bytes words numbers : List ℕ) (n : ℕ) → n ≤ length (body_of bytes) → IsConvertedBefore format bytes words numbers n
    → limit_of format < length words + words_for format (length (file_node bytes n)) → limit_of format < words_in_format format bytes
too_many format bytes words numbers n inside ready over =
    let here = next_words format bytes ready.last n ready.next in
    let above = rising_words format bytes n (length (body_of bytes)) inside in
    let size = ready.before.size in
    omega (arith, here, above, size, over)
