-- Items in lines, one number after the other.
use Rattle.std.proofs.Common.{◌≡◌, ℕ, zero, suc, ◌+◌, ◌-◌, ◌<◌, ◌≤◌, not, Bool, true, false, List, [], ◌∷◌, ◌++◌, map, filter, length, refl, sym, ap, ◌∙◌, subst, arith, if◌then◌else◌}
use Rattle.std.specs.Prelude.{All}
use Rattle.std.specs.List.{list_all, range_with_len}
use Rattle.std.proofs.lemmas.List.{append-nil, length-append, length-map, map-append}
use Rattle.std.proofs.lemmas.List.Elements.{All-append}
use Rattle.repair_answers.specs.Lines.{like_at, is_first, those_like, others_of, IsLine, AddsOne, AddsBy, AddsLine, AreLines}
use Rattle.repair_answers.specs.declared.evidence.Reported.{Reported}
use Rattle.repair_answers.proofs.Ranges.{filter_more, filter_passed, filter_failed, all_more, not_all, first_passed, all_passed}

-- ---- like none before it

-- like none of the items before a number
abbrev pub AreUnlike : {T : Type 0} → (like : T → T → Bool) → List T → (index before : ℕ) → Type 0
AreUnlike like items index before = list_all (λ k. not (like_at like items k index)) (range_with_len 0 before) ≡ true

pub none_unlike : {T : Type 0} (like : T → T → Bool) (items : List T) (index : ℕ) → AreUnlike like items index 0
none_unlike like items index = refl

pub one_unlike : {T : Type 0} (like : T → T → Bool) (items : List T) (index before : ℕ) → AreUnlike like items index before → like_at like items before index ≡ false → AreUnlike like items index (before + 1)
one_unlike like items index before so_far here = all_more (λ k. not (like_at like items k index)) before so_far (ap not here)

pub like_before : {T : Type 0} (like : T → T → Bool) (items : List T) (index before : ℕ) → before < index → like_at like items before index ≡ true → false ≡ is_first like items index
like_before like items index before less here = sym (not_all (λ k. not (like_at like items k index)) before index less (ap not here))

pub all_unlike : {T : Type 0} (like : T → T → Bool) (items : List T) (index before : ℕ) → AreUnlike like items index before → before ≡ index → true ≡ is_first like items index
all_unlike like items index before so_far is = sym (subst (AreUnlike like items index) is so_far)

-- ---- later ones that are like it

abbrev pub like_to : {T : Type 0} → (like : T → T → Bool) → List T → (first end : ℕ) → List ℕ
like_to like items first end = filter (like_at like items first) (range_with_len (first + 1) (end - (first + 1)))

pub none_like : {T : Type 0} (like : T → T → Bool) (items : List T) (first : ℕ) → [] ≡ like_to like items first (first + 1)
none_like like items first = let none : 0 ≡ first + 1 - (first + 1) = omega arith in ap (λ n. filter (like_at like items first) (range_with_len (first + 1) n)) none

like_steps : {T : Type 0} (like : T → T → Bool) (items : List T) (first end : ℕ) → first < end → like_to like items first (end + 1) ≡ filter (like_at like items first) (range_with_len (first + 1) (end - (first + 1) + 1))
like_steps like items first end following =
    let more : end + 1 - (first + 1) ≡ end - (first + 1) + 1 = omega arith in ap (λ n. filter (like_at like items first) (range_with_len (first + 1) n)) more

pub one_added : {T : Type 0} (like : T → T → Bool) (items : List T) (first other : ℕ) (old new : List ℕ) → like_at like items first other ≡ true → new ≡ old ++ other ∷ [] → new ≡ old ++ those_like like items first other
one_added like items first other old new is added = added ∙ ap (λ b. old ++ (if b then (other ∷ []) else [])) (sym is)

pub none_added : {T : Type 0} (like : T → T → Bool) (items : List T) (first other : ℕ) (old : List ℕ) → like_at like items first other ≡ false → old ≡ old ++ those_like like items first other
none_added like items first other old is = sym (ap (λ b. old ++ (if b then (other ∷ []) else [])) is ∙ append-nil old)

pub like_more : {T : Type 0} (like : T → T → Bool) (items : List T) (first end : ℕ) (old new : List ℕ) → first < end → old ≡ like_to like items first end → new ≡ old ++ those_like like items first end
    → new ≡ like_to like items first (end + 1)
like_more like items first end old new following so_far more =
    more ∙ ap (λ (ns : List ℕ). ns ++ those_like like items first end) so_far ∙ sym (filter_more (like_at like items first) (first + 1) (end - (first + 1)) end (omega (arith, following)))
    ∙ sym (like_steps like items first end following)

pub all_like : {T : Type 0} (like : T → T → Bool) (items : List T) (first end : ℕ) (others : List ℕ) → others ≡ like_to like items first end → end ≡ length items → others ≡ others_of like items first
all_like like items first end others so_far is = subst (λ n. others ≡ like_to like items first n) is so_far

-- ---- a line more, or none

pub adds_none : {T : Type 0} (like : T → T → Bool) (items : List T) (index : ℕ) (lines : List Reported) → is_first like items index ≡ false → AddsLine like items index lines lines
adds_none like items index lines none = subst (λ b. AddsBy b like items index lines lines) (sym none) refl

pub adds_one : {T : Type 0} (like : T → T → Bool) (items : List T) (index : ℕ) (others : List ℕ) (line : Reported) (old new : List Reported) → is_first like items index ≡ true → others ≡ others_of like items index
    → line.first ≡ index → line.others.items ≡ others → new ≡ old ++ line ∷ [] → AddsLine like items index old new
adds_one like items index others line old new first are at with_others added =
    let is : IsLine like items line = with_others ∙ are ∙ ap (others_of like items) (sym at) in
    let one : AddsOne like items index old new = record { line = line; added = added; first = at; is = is } in
    subst (λ b. AddsBy b like items index old new) (sym first) one

-- ---- the lines of the items before a number

pub record AreLinesTo {T : Type 0} (like : T → T → Bool) (items : List T) (most index : ℕ) (lines : List Reported) : Type 0 where
  pub firsts : map (λ (line : Reported). line.first) lines ≡ filter (is_first like items) (range_with_len 0 index)
  pub each : All (IsLine like items) lines
  pub few : length lines ≤ most

pub no_lines : {T : Type 0} (like : T → T → Bool) (items : List T) (most : ℕ) → AreLinesTo like items most 0 []
no_lines like items most = record { firsts = refl; each = λ k d within. absurd (omega (arith, within)); few = omega arith }

only_line : {T : Type 0} (like : T → T → Bool) (items : List T) (line : Reported) → IsLine like items line → All (IsLine like items) (line ∷ [])
only_line like items line is zero d within = is
only_line like items line is (suc k) d within = absurd (omega (arith, within))

next_line : {T : Type 0} (like : T → T → Bool) (items : List T) (most index : ℕ) (old new : List Reported) → AreLinesTo like items most index old → length old < most → is_first like items index ≡ true
    → AddsOne like items index old new → AreLinesTo like items most (index + 1) new
next_line like items most index old new so_far room first adds =
    let line = adds.line in
    let long : length new ≡ length old + 1 = ap (λ (ls : List Reported). length ls) adds.added ∙ simp length-append in
    record {
      firsts = ap (map (λ (l : Reported). l.first)) adds.added ∙ map-append (λ (l : Reported). l.first) old (line ∷ [])
          ∙ ap (λ (ns : List ℕ). ns ++ line.first ∷ []) so_far.firsts ∙ ap (λ n. filter (is_first like items) (range_with_len 0 index) ++ n ∷ []) adds.first
          ∙ sym (filter_passed (is_first like items) 0 index index (omega arith) first);
      each = subst (All (IsLine like items)) (sym adds.added) (All-append (IsLine like items) old (line ∷ []) so_far.each (only_line like items line adds.is));
      few = omega arith;
    }

no_line : {T : Type 0} (like : T → T → Bool) (items : List T) (most index : ℕ) (old new : List Reported) → AreLinesTo like items most index old → is_first like items index ≡ false → new ≡ old → AreLinesTo like items most (index + 1) new
no_line like items most index old new so_far none same =
    subst (AreLinesTo like items most (index + 1)) (sym same)
    (record { firsts = so_far.firsts ∙ sym (filter_failed (is_first like items) 0 index index (omega arith) none); each = so_far.each; few = so_far.few })

lines_by : {T : Type 0} (like : T → T → Bool) (items : List T) (most index : ℕ) (old new : List Reported) (b : Bool) → is_first like items index ≡ b → AreLinesTo like items most index old → length old < most
    → AddsBy b like items index old new → AreLinesTo like items most (index + 1) new
lines_by like items most index old new true first so_far room adds = next_line like items most index old new so_far room first adds
lines_by like items most index old new false first so_far room same = no_line like items most index old new so_far first same

pub lines_more : {T : Type 0} (like : T → T → Bool) (items : List T) (most index : ℕ) (old new : List Reported) → AreLinesTo like items most index old → length old < most → AddsLine like items index old new
    → AreLinesTo like items most (index + 1) new
lines_more like items most index old new so_far room adds =
    lines_by like items most index old new (is_first like items index) refl so_far room adds

pub enough_lines : {T : Type 0} (like : T → T → Bool) (items : List T) (most index : ℕ) (lines : List Reported) → AreLinesTo like items most index lines → index ≤ length items → length lines ≡ most → AreLines like items most lines
enough_lines like items most index lines so_far within many =
    record {
      firsts = first_passed (is_first like items) index (length items) most (map (λ (l : Reported). l.first) lines) within so_far.firsts (length-map lines (λ (l : Reported). l.first) ∙ many);
      each = so_far.each;
    }

pub all_lines : {T : Type 0} (like : T → T → Bool) (items : List T) (most index : ℕ) (lines : List Reported) → AreLinesTo like items most index lines → index ≡ length items → AreLines like items most lines
all_lines like items most index lines so_far is =
    let whole = subst (λ n. AreLinesTo like items most n lines) is so_far in
    let few = so_far.few in
    record {
      firsts = all_passed (is_first like items) (length items) most (map (λ (l : Reported). l.first) lines) whole.firsts (subst (λ n. n ≤ most) (sym (length-map lines (λ (l : Reported). l.first))) few);
      each = so_far.each;
    }
