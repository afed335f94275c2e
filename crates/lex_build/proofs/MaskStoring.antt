-- A node is stored in a GAD2 file, after all others.
use Rattle.std.proofs.Common.{◌≡◌, ℕ, zero, suc, ◌+◌, ◌-◌, ◌/◌, ◌%◌, ◌^◌, ◌<◌, ◌≤◌, true, false, eqb, ltb, List, [], ◌∷◌, ◌++◌, length, get_or, drop, None, inl, inr, ◌⊎◌, refl, sym, ap, subst, ◌∙◌, arith, append_assoc}
use Rattle.std.specs.Prelude.{bit_and}
use Rattle.std.proofs.Math.Seq.{drop-append_seam}
use Rattle.std.proofs.lemmas.List.{length-append, length-map, get_or-append-add}
use Rattle.std.proofs.lemmas.Nat.{ones-le, pow_pos, mod_below, and_le_r}
use Rattle.std.proofs.lemmas.Bool.{ne_eqb, ltb-true, lt-ltb, eqb-true, eq-eqb, cases_lt, cases_eq, and_parts, and_from}
use Rattle.std.specs.List.{Contains}
use Rattle.lex_file.specs.declared.arcs.Arc.{Arc}
use Rattle.lex_file.specs.declared.formats.Format.TheVariants as form
use Rattle.lex_file.specs.FileWords.{body_of}
use Rattle.lex_file.specs.Formats.{most_body_words}
use Rattle.lex_file.specs.laws.Graphs.{is_other}
use Rattle.lex_file.specs.Masks.{has_bit, is_marked, labels_below, label_count, node_size, mask_arc, mask_node, is_mask_node}
use Rattle.lex_file.specs.MaskShapes.{points_back, label_fault}
use Rattle.lex_file.specs.laws.Masks.{IsFineNode}
use Rattle.lex_build.specs.Bodies.{HasAppended}
use Rattle.lex_build.specs.NodeWords.{targets_of, IsLabelWord, IsAcceptWord}
use Rattle.lex_build.specs.Stores.{IsMaskBody, AreNextArcs, IsStoredNext, HasStored, is_stored}
use Rattle.lex_build.proofs.MaskBits.{marked, no_bits, no_other_accepts, accepts_each}
use Rattle.lex_build.proofs.MaskNodes.{word_there, words_after, AreFrom, HasFrom, have_arcs, among_contains, points_to_none, points_from, label_from, labels_from, node_from}
use Rattle.lex_build.proofs.MaskGrowth.{at_grown, names_grown, nodes_grown, node_grown}

few_bits : (word : ℕ) → labels_below 0 word ≡ 0
few_bits word = let none = ones-le 0 (word % 2 ^ 0) (mod_below word (2 ^ 0) (pow_pos 0)) in omega (arith, none)

low_unmarked : (word : ℕ) → word < 2 ^ 31 → is_marked word ≡ true → ⊥
low_unmarked word low is = let bit = eqb-true (word / 2 ^ 31 % 2) 1 is in absurd (omega (arith, bit, low))

targets_low : (arcs : List Arc) (most place : ℕ) → ((arc : Arc) → Contains arcs arc → arc.target ≤ most) → get_or (targets_of arcs) place 0 ≤ most
targets_low [] most place each = omega arith
targets_low (arc ∷ arcs) most zero each = each arc (0, omega arith, refl)
targets_low (arc ∷ arcs) most (suc place) each = targets_low arcs most place (λ x there. each x (is_other arc x arcs there))

-- a node that is to be stored, and its first two words
pub record IsNextMask (words : List ℕ) (arcs : List Arc) (labels accepts : ℕ) : Type 0 where
  pub sound : IsMaskBody words
  pub next : AreNextArcs form.Gad2 words arcs
  pub label : IsLabelWord arcs labels
  pub accept : IsAcceptWord arcs accepts
  pub small : accepts < 2 ^ 32
  pub room : length words + (2 + length arcs) ≤ most_body_words

module _ (words : List ℕ) (arcs : List Arc) (labels accepts : ℕ) (known : IsNextMask words arcs labels accepts) where
  few : (arc : Arc) → Contains arcs arc → arc.label ≤ 26
  few arc there = (known.next.each arc there).label

  seam : drop (length words) (words ++ labels ∷ accepts ∷ targets_of arcs) ≡ labels ∷ accepts ∷ targets_of arcs
  seam = drop-append_seam words (labels ∷ accepts ∷ targets_of arcs)

  first_word : get_or (words ++ labels ∷ accepts ∷ targets_of arcs) (length words) 0 ≡ labels
  first_word = word_there (words ++ labels ∷ accepts ∷ targets_of arcs) (length words) labels (accepts ∷ targets_of arcs) seam

  seam_after : drop (suc (length words)) (words ++ labels ∷ accepts ∷ targets_of arcs) ≡ accepts ∷ targets_of arcs
  seam_after = words_after (words ++ labels ∷ accepts ∷ targets_of arcs) (length words) labels (accepts ∷ targets_of arcs) seam

  second_word : get_or (words ++ labels ∷ accepts ∷ targets_of arcs) (length words + 1) 0 ≡ accepts
  second_word =
      let next : length words + 1 ≡ suc (length words) = omega arith in
      rw next (word_there (words ++ labels ∷ accepts ∷ targets_of arcs) (suc (length words)) accepts (targets_of arcs) seam_after)

  size_all : length (words ++ labels ∷ accepts ∷ targets_of arcs) ≡ length words + (2 + length arcs)
  size_all = let size = length-append words (labels ∷ accepts ∷ targets_of arcs) in let same = length-map arcs (λ (arc : Arc). arc.target) in omega (arith, size, same)

  remaining : AreFrom (words ++ labels ∷ accepts ∷ targets_of arcs) (length words) 0 arcs
  remaining = record {
    reached = λ arc there. omega arith;
    few = few;
    rising = known.next.rising;
    labels = λ label reached small.
        let other : eqb label 31 ≡ false = ne_eqb label 31 (λ e. omega (arith, e, small)) in
        rw first_word (known.label.has label (omega arith) ∙ rw other refl);
    accepts = λ arc there. rw second_word (accepts_each arcs labels accepts few known.label known.accept arc known.next.rising there);
    targets =
        let none = few_bits labels in
        let after : length words + 2 + 0 ≡ suc (suc (length words)) = omega arith in
        rw (first_word, none, after) (words_after (words ++ labels ∷ accepts ∷ targets_of arcs) (suc (length words)) accepts (targets_of arcs) seam_after);
  }

  has : HasFrom (words ++ labels ∷ accepts ∷ targets_of arcs) (length words) 0 27 arcs
  has = have_arcs (words ++ labels ∷ accepts ∷ targets_of arcs) (length words) 0 27 arcs (omega arith) remaining

  count_is : label_count labels ≡ length arcs
  count_is = let count = has.count_is in let none = few_bits labels in omega (arith, rw first_word at count, none)

  size_is : length words + node_size (get_or (words ++ labels ∷ accepts ∷ targets_of arcs) (length words) 0) ≡ length (words ++ labels ∷ accepts ∷ targets_of arcs)
  size_is = let count = count_is in let size = size_all in rw first_word (omega (arith, count, size))

  target_low : (arc : Arc) → Contains arcs arc → arc.target ≤ length words
  target_low arc there = by arc.target (known.next.each arc there).target
    where
      by : (target : ℕ) → is_stored form.Gad2 words target ≡ true → target ≤ length words
      by zero is = omega arith
      by (suc place) is = let inside = ltb-true place (length words) (and_parts (ltb place (length words)) (is_marked (get_or words place 0)) is).0 in omega (arith, inside)

  points_new : (target : ℕ) → is_stored form.Gad2 words target ≡ true → points_back (words ++ labels ∷ accepts ∷ targets_of arcs) (length words + 1) target ≡ true
  points_new zero is = points_to_none (words ++ labels ∷ accepts ∷ targets_of arcs) (length words + 1) 0 refl
  points_new (suc place) is =
      let inside = ltb-true place (length words) (and_parts (ltb place (length words)) (is_marked (get_or words place 0)) is).0 in
      points_from (words ++ labels ∷ accepts ∷ targets_of arcs) (length words + 1) (suc place) (omega (arith, inside))
      (names_grown words (labels ∷ accepts ∷ targets_of arcs) (suc place) (omega arith) is)

  label_new : (label : ℕ) → label < 27 → has_bit (get_or (words ++ labels ∷ accepts ∷ targets_of arcs) (length words) 0) label ≡ true
      → label_fault (words ++ labels ∷ accepts ∷ targets_of arcs) (length words) label ≡ None
  label_new label lt is =
      let one = among_contains (words ++ labels ∷ accepts ∷ targets_of arcs) (length words) label (omega arith) is in
      let there = subst (λ (xs : List Arc). Contains xs (mask_arc (words ++ labels ∷ accepts ∷ targets_of arcs) (length words) label)) has.arcs_are one in
      let arc = known.next.each (mask_arc (words ++ labels ∷ accepts ∷ targets_of arcs) (length words) label) there in
      label_from (words ++ labels ∷ accepts ∷ targets_of arcs) (length words) label
      (points_new (mask_arc (words ++ labels ∷ accepts ∷ targets_of arcs) (length words) label).target arc.target) arc.alive

  is_marked_new : is_marked (get_or (words ++ labels ∷ accepts ∷ targets_of arcs) (length words) 0) ≡ true
  is_marked_new = rw first_word (marked arcs labels accepts few known.label known.accept)

  fine_new : IsFineNode (words ++ labels ∷ accepts ∷ targets_of arcs) (length words)
  fine_new =
      let count = count_is in
      let size = size_is in
      let some = known.next.some in
      let low : eqb (labels / 2 ^ 27 % 16) 0 ≡ true = eq-eqb (labels / 2 ^ 27 % 16) 0 (no_bits arcs labels accepts few known.label known.accept) in
      let filled : ltb 0 (label_count labels) ≡ true = lt-ltb 0 (label_count labels) (omega (arith, count, some)) in
      record {
        marked = is_marked_new;
        mask = rw first_word (and_from (eqb (labels / 2 ^ 27 % 16) 0) (ltb 0 (label_count labels)) low filled);
        room = omega (arith, size);
        accepts = rw (first_word, second_word) (no_other_accepts arcs labels accepts few known.label known.accept known.small);
        labels = labels_from (words ++ labels ∷ accepts ∷ targets_of arcs) (length words) 27 label_new;
      }

  sound_new : IsMaskBody (words ++ labels ∷ accepts ∷ targets_of arcs)
  sound_new =
      let size = size_all in
      let room = known.room in
      record {
        fine =
            nodes_grown words (labels ∷ accepts ∷ targets_of arcs) (node_from (words ++ labels ∷ accepts ∷ targets_of arcs) (length words) fine_new) size_is (length words)
            (length (words ++ labels ∷ accepts ∷ targets_of arcs)) 0 known.sound.fine (omega arith) (omega arith) (omega arith);
        few = omega (arith, size, room);
      }

  names_new : is_mask_node (words ++ labels ∷ accepts ∷ targets_of arcs) (suc (length words)) ≡ true
  names_new =
      let size = size_all in
      and_from (ltb (length words) (length (words ++ labels ∷ accepts ∷ targets_of arcs))) (is_marked (get_or (words ++ labels ∷ accepts ∷ targets_of arcs) (length words) 0))
      (lt-ltb (length words) (length (words ++ labels ∷ accepts ∷ targets_of arcs)) (omega (arith, size))) is_marked_new

  stays_new : (n : ℕ) → is_stored form.Gad2 words n ≡ true → is_stored form.Gad2 (words ++ labels ∷ accepts ∷ targets_of arcs) n ≡ true
  stays_new zero is = refl
  stays_new (suc place) is = names_grown words (labels ∷ accepts ∷ targets_of arcs) (suc place) (omega arith) is

  same_new : (n : ℕ) → is_stored form.Gad2 words n ≡ true → mask_node (words ++ labels ∷ accepts ∷ targets_of arcs) n ≡ mask_node words n
  same_new zero is = refl
  same_new (suc place) is = node_grown words (labels ∷ accepts ∷ targets_of arcs) (suc place) known.sound is

  accepts_low : accepts < 2 ^ 31
  accepts_low =
      let same = eqb-true (bit_and accepts (labels % 2 ^ 27)) accepts (no_other_accepts arcs labels accepts few known.label known.accept known.small) in
      let low = and_le_r accepts (labels % 2 ^ 27) in
      let mask = mod_below labels (2 ^ 27) (pow_pos 27) in
      omega (arith, same, low, mask)

  -- no word of the node after its label word is a label word
  unmarked_after : (more : ℕ) → is_marked (get_or (words ++ labels ∷ accepts ∷ targets_of arcs) (length words + suc more) 0) ≡ true → ⊥
  unmarked_after more is = by more (rw (get_or-append-add words (labels ∷ accepts ∷ targets_of arcs) (suc more) 0) at is)
    where
      by : (more : ℕ) → is_marked (get_or (accepts ∷ targets_of arcs) more 0) ≡ true → ⊥
      by zero is = low_unmarked accepts accepts_low is
      by (suc more) is =
          let low = targets_low arcs (length words) more target_low in
          let few_words = known.sound.few in
          low_unmarked (get_or (targets_of arcs) more 0) (omega (arith, low, few_words)) is

  alone_new : (n : ℕ) → is_stored form.Gad2 (words ++ labels ∷ accepts ∷ targets_of arcs) n ≡ true → (n ≡ length words + 1) ⊎ (is_stored form.Gad2 words n ≡ true)
  alone_new zero is = inr refl
  alone_new (suc place) is =
      let parts = and_parts (ltb place (length (words ++ labels ∷ accepts ∷ targets_of arcs))) (is_marked (get_or (words ++ labels ∷ accepts ∷ targets_of arcs) place 0)) is in
      elim (cases_lt place (length words)) [
        | inl inside ↦
            let same = at_grown words (labels ∷ accepts ∷ targets_of arcs) place inside in
            inr (and_from (ltb place (length words)) (is_marked (get_or words place 0)) (lt-ltb place (length words) inside) (rw same at parts.1))
        | inr after ↦ elim (cases_eq place (length words)) [
          | inl same ↦ inl (omega arith)
          | inr other ↦
              let following : place ≡ length words + suc (place - length words - 1) = omega arith in
              absurd (unmarked_after (place - length words - 1)
              (subst (λ (p : ℕ). is_marked (get_or (words ++ labels ∷ accepts ∷ targets_of arcs) p 0) ≡ true) following parts.1))
        ]
      ]

  pub stored_mask : IsStoredNext form.Gad2 words (words ++ labels ∷ accepts ∷ targets_of arcs) arcs
  stored_mask =
      let number : suc (length words) ≡ length words + 1 = omega arith in
      record {
        sound = sound_new;
        grown = record { more = labels ∷ accepts ∷ targets_of arcs; is = refl };
        size = size_all;
        is = subst (λ (n : ℕ). is_mask_node (words ++ labels ∷ accepts ∷ targets_of arcs) n ≡ true) number names_new;
        node = subst (λ (n : ℕ). mask_node (words ++ labels ∷ accepts ∷ targets_of arcs) n ≡ arcs) number has.arcs_are;
        stays = stays_new;
        same = same_new;
        alone = alone_new;
      }

-- ---- the bytes

three_appended : (one two three four targets : List ℕ) (labels accepts : ℕ) → HasAppended one two (labels ∷ []) → HasAppended two three (accepts ∷ [])
    → HasAppended three four targets → HasAppended one four (labels ∷ accepts ∷ targets)
three_appended one two three four targets labels accepts first second third = record {
  whole = third.whole;
  body = third.body
      ∙ ap (λ (xs : List ℕ). xs ++ targets) (second.body ∙ ap (λ (xs : List ℕ). xs ++ accepts ∷ []) first.body)
      ∙ append_assoc (body_of one ++ labels ∷ []) (accepts ∷ []) targets
      ∙ append_assoc (body_of one) (labels ∷ []) (accepts ∷ targets);
}

pub has_stored_mask : (one two three four : List ℕ) (arcs : List Arc) (labels accepts : ℕ) → IsMaskBody (body_of one) → AreNextArcs form.Gad2 (body_of one) arcs
    → length (body_of one) + (2 + length arcs) ≤ most_body_words → IsLabelWord arcs labels → IsAcceptWord arcs accepts → accepts < 2 ^ 32
    → HasAppended one two (labels ∷ []) → HasAppended two three (accepts ∷ []) → HasAppended three four (targets_of arcs) → HasStored form.Gad2 one four arcs
has_stored_mask one two three four arcs labels accepts sound next room label accept small first second third =
    let all = three_appended one two three four (targets_of arcs) labels accepts first second third in
    let known : IsNextMask (body_of one) arcs labels accepts =
    record { sound = sound; next = next; label = label; accept = accept; small = small; room = room }
    in
    record { whole = all.whole; next = subst (λ (words : List ℕ). IsStoredNext form.Gad2 (body_of one) words arcs) (sym all.body) (stored_mask (body_of one) arcs labels accepts known) }
