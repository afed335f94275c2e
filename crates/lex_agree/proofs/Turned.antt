-- What is kept for each label: the steps after it and the first labels of the last front that was turned over to it.
use Rattle.std.proofs.Common.{◌≡◌, ℕ, ◌+◌, ◌<◌, ◌≤◌, List, [], ◌∷◌, ◌++◌, length, get_or, set, take, replicate, inl, inr, sym, ap, subst, ◌∙◌, arith}
use Rattle.std.proofs.lemmas.Bool.{cases_lt}
use Rattle.std.proofs.lemmas.List.{length-set, length-replicate, get_or-replicate, length-take-le, take_more, take_more_set, take-take, get_or-set_same, get_or-set_other}
use Rattle.lex_file.specs.declared.files.Node.{Node}
use Rattle.lex_file.specs.declared.lexicons.Step.{Step}
use Rattle.lex_file.specs.Walking.{strings, IsOpen}
use Rattle.lex_agree.specs.declared.kept.Kept.{Kept}
use Rattle.lex_agree.specs.Walks.{node_tail, no_step, no_kept, IsNodeOf, IsStepAt, AreAlike, AreTurned, IsKept, AreKept}
use Rattle.lex_agree.proofs.Walking.{step_more, each_more}

-- one more label of the front
pub turned_more : (bytes : List ℕ) (first : ℕ) (front : List ℕ) (split : ℕ) (steps : List (Step Node)) (step : Step Node) → length front < 15
    → split < length front → AreTurned bytes first front split steps → IsOpen (IsNodeOf bytes) step.next
    → ((t : List ℕ) → strings (node_tail bytes) (get_or steps split no_step) (get_or front split 0 ∷ t) ≡ strings (node_tail bytes) step t)
    → AreTurned bytes first front (split + 1) (set steps (split + 1) step)
turned_more bytes first front split steps step few inside before open_there walked =
    let room = before.room in
    record {
      room = length-set steps (split + 1) step ∙ room;
      each = each_more (λ count there. IsStepAt bytes (first ∷ take count front) there) steps split step (omega arith) before.each here;
    }
  where
    here : IsStepAt bytes (first ∷ take (split + 1) front) step
    here =
        subst (λ (labels : List ℕ). IsStepAt bytes (first ∷ labels) step) (sym (take_more front split 0 inside))
        (step_more bytes (first ∷ take split front) (get_or front split 0) (get_or steps split no_step) step (before.each split (omega arith)) open_there walked)

-- only the label
pub turned_none : (bytes : List ℕ) (first : ℕ) (front : List ℕ) (steps : List (Step Node)) (step : Step Node) → length steps ≡ 16
    → IsStepAt bytes (first ∷ []) step → AreTurned bytes first front 0 (set steps 0 step)
turned_none bytes first front steps step room here = record {
  room = length-set steps 0 step ∙ room;
  each = λ split le.
      let at : 0 ≡ split = omega arith in
      subst (λ (n : ℕ). IsStepAt bytes (first ∷ take n front) (get_or (set steps 0 step) n no_step)) at
      (subst (IsStepAt bytes (first ∷ [])) (sym (get_or-set_same steps 0 step no_step (omega arith))) here);
}

-- the labels in common with the front that is kept
pub turned_same : (bytes : List ℕ) (first : ℕ) (front : List ℕ) (kept : Kept) (last same : ℕ) → IsKept bytes first kept → kept.known ≡ last + 1
    → AreAlike (take last kept.front) front same → AreTurned bytes first front same kept.steps
turned_same bytes first front kept last same before known alike =
    let few = before.few in
    let letters = before.letters in
    let size : length (take last kept.front) ≡ last = length-take-le last kept.front (omega arith) in
    let low = alike.in_one in
    record {
      room = before.room;
      each = λ split le.
          let own : take split kept.front ≡ take split (take last kept.front) = sym (take-take split last kept.front (omega arith)) in
          let both : take split (take last kept.front) ≡ take split front =
          sym (take-take split same (take last kept.front) le) ∙ ap (take split) alike.alike ∙ take-take split same front le in
          subst (λ (labels : List ℕ). IsStepAt bytes (first ∷ labels) (get_or kept.steps split no_step)) (own ∙ both) (before.each split (omega arith));
    }

-- the labels of the front that is kept, up to where it differs from another
pub front_same : (labels front : List ℕ) (last same : ℕ) → last ≤ length labels → AreAlike (take last labels) front same → take same labels ≡ take same front
front_same labels front last same le alike =
    let size : length (take last labels) ≡ last = length-take-le last labels le in
    let low = alike.in_one in
    sym (take-take same last labels (omega arith)) ∙ alike.alike

-- one more of them
pub front_more : (labels front : List ℕ) (split : ℕ) → split < length labels → split < length front → take split labels ≡ take split front
    → take (split + 1) (set labels split (get_or front split 0)) ≡ take (split + 1) front
front_more labels front split room inside same =
    take_more_set labels split (get_or front split 0) room ∙ ap (λ (l : List ℕ). l ++ get_or front split 0 ∷ []) same ∙ sym (take_more front split 0 inside)

-- what is then kept
pub turned_kept : (bytes : List ℕ) (first : ℕ) (front : List ℕ) (kept : Kept) → length front < 15 → AreTurned bytes first front (length front) kept.steps
    → length kept.front ≡ 15 → take (length front) kept.front ≡ front → kept.known ≡ length front + 1 → IsKept bytes first kept
turned_kept bytes first front kept few there letters put known = record {
  letters = letters;
  room = there.room;
  few = omega arith;
  each = λ split lt.
      let labels : take split front ≡ take split kept.front =
      ap (take split) (sym put) ∙ take-take split (length front) kept.front (omega arith) in
      subst (λ (l : List ℕ). IsStepAt bytes (first ∷ l) (get_or kept.steps split no_step)) labels (there.each split (omega arith));
}

-- something else is kept for one label
pub kept_more : (bytes : List ℕ) (kept : List Kept) (label : ℕ) (one : Kept) → label < 27 → AreKept bytes kept → IsKept bytes label one
    → AreKept bytes (set kept label one)
kept_more bytes kept label one low before here =
    let room = before.room in
    record {
      room = length-set kept label one ∙ room;
      each = λ other lt. elim (cases_lt other label) [
        | inl less ↦ subst (IsKept bytes other) (sym (get_or-set_other kept label other one no_kept (λ e. omega arith))) (before.each other lt)
        | inr not_less ↦ elim (cases_lt label other) [
          | inl more ↦ subst (IsKept bytes other) (sym (get_or-set_other kept label other one no_kept (λ e. omega arith))) (before.each other lt)
          | inr reached ↦
              let same : label ≡ other = omega arith in
              subst (λ (n : ℕ). IsKept bytes n (get_or (set kept label one) n no_kept)) same
              (subst (IsKept bytes label) (sym (get_or-set_same kept label one no_kept (omega arith))) here)
        ]
      ];
    }

-- nothing is kept yet
pub kept_none : (bytes : List ℕ) (one : Kept) → length one.front ≡ 15 → length one.steps ≡ 16 → one.known ≡ 0 → AreKept bytes (replicate 27 one)
kept_none bytes one letters room none = record {
  room = length-replicate 27 one;
  each = λ label lt.
      subst (IsKept bytes label) (sym (get_or-replicate 27 label one no_kept lt))
      (record { letters = letters; room = room; few = omega arith; each = λ split low. absurd (omega arith) });
}
