-- A node is stored in a GAD1 file, after all others.
use Rattle.std.proofs.Common.{◌≡◌, ℕ, zero, suc, ◌+◌, ◌-◌, ◌*◌, ◌/◌, ◌%◌, ◌<◌, ◌≤◌, Bool, true, false, cond, ◌||◌, eqb, ltb, List, [], ◌∷◌, ◌++◌, map, length, get_or, inl, inr, ◌⊎◌, refl, sym, ap, subst, ◌∙◌, arith, add-one}
use Rattle.std.proofs.lemmas.List.{length-append, length-map, map-append, get_or-append-add}
use Rattle.std.proofs.lemmas.Bool.{ltb-true, lt-ltb, eqb-true, eqb-false, false≢true, cases_lt, cases_eq, and_parts, and_from}
use Rattle.std.proofs.lemmas.List.Elements.{Contains-get_or, Contains-append_left, Contains-push}
use Rattle.std.specs.List.{Contains, IsLastAndRest}
use Rattle.lex_file.specs.declared.arcs.Arc.{Arc}
use Rattle.lex_file.specs.declared.formats.Format.TheVariants as form
use Rattle.lex_file.specs.Arcs.{arc_of, is_last}
use Rattle.lex_file.specs.FileWords.{body_of}
use Rattle.lex_file.specs.Formats.{most_arcs}
use Rattle.lex_file.specs.Graphs.{AreRising}
use Rattle.lex_file.specs.laws.Graphs.{is_other}
use Rattle.lex_file.specs.Nodes.{node_at, begins}
use Rattle.lex_file.specs.laws.Nodes.{node_of_first}
use Rattle.lex_build.specs.Bodies.{IsBody, IsOpenArc, IsArcList, is_target, run_with, IsNodeWith, HasAppended}
use Rattle.lex_build.specs.NodeWords.{HaveLabels, HaveTargets, word_of, words_of}
use Rattle.lex_build.specs.Stores.{AreNextArcs, IsStoredNext, HasStored, is_stored}
use Rattle.lex_build.proofs.Bytes.{run_appended}
use Rattle.lex_build.proofs.Growth.{begins_grown, first_grown, node_grown}
use Rattle.lex_build.proofs.Placing.{first_inside, run_length, run_inner, body_new, node_new}

-- ---- the word of an arc

arc_back : (arc : Arc) → arc.label < 32 → arc_of (word_of arc) ≡ arc
arc_back arc low =
    let label : word_of arc % 32 ≡ arc.label = by_label arc.accepts in
    let accepts : eqb (word_of arc / 32 % 2) 1 ≡ arc.accepts = by_accepts arc.accepts in
    let target : word_of arc / 128 ≡ arc.target = by_target arc.accepts in
    rw (label, accepts, target) refl
  where
    by_label : (b : Bool) → (128 * arc.target + cond b 32 0 + arc.label) % 32 ≡ arc.label
    by_label true = omega arith
    by_label false = omega arith

    by_accepts : (b : Bool) → eqb ((128 * arc.target + cond b 32 0 + arc.label) / 32 % 2) 1 ≡ b
    by_accepts true = let one : (128 * arc.target + 32 + arc.label) / 32 % 2 ≡ 1 = omega arith in rw one refl
    by_accepts false = let none : (128 * arc.target + 0 + arc.label) / 32 % 2 ≡ 0 = omega arith in rw none refl

    by_target : (b : Bool) → (128 * arc.target + cond b 32 0 + arc.label) / 128 ≡ arc.target
    by_target true = omega arith
    by_target false = omega arith

word_unmarked : (arc : Arc) → arc.label < 32 → is_last (word_of arc) ≡ false
word_unmarked arc low = by arc.accepts
  where
    by : (b : Bool) → eqb ((128 * arc.target + cond b 32 0 + arc.label) / 64 % 2) 1 ≡ false
    by true = let none : (128 * arc.target + 32 + arc.label) / 64 % 2 ≡ 0 = omega arith in rw none refl
    by false = let none : (128 * arc.target + 0 + arc.label) / 64 % 2 ≡ 0 = omega arith in rw none refl

-- a word that stores an arc, without the bit of a last one, is the one of that arc
pub word_is : (word : ℕ) (arc : Arc) → is_last word ≡ false → arc_of word ≡ arc → word ≡ word_of arc
word_is word arc unmarked same =
    by arc.accepts (ap (λ (x : Arc). x.accepts) same) (eqb-false (word / 64 % 2) 1 unmarked) (ap (λ (x : Arc). x.label) same) (ap (λ (x : Arc). x.target) same)
  where
    by : (b : Bool) → eqb (word / 32 % 2) 1 ≡ b → (word / 64 % 2 ≡ 1 → ⊥) → word % 32 ≡ arc.label → word / 128 ≡ arc.target → word ≡ 128 * arc.target + cond b 32 0 + arc.label
    by true accepts last label target = let bit = eqb-true (word / 32 % 2) 1 accepts in omega (arith, bit, last, label, target)
    by false accepts last label target = let bit = eqb-false (word / 32 % 2) 1 accepts in omega (arith, bit, last, label, target)

pub label_fits : (arcs : List Arc) (place : ℕ) (d : Arc) → HaveLabels arcs → place < length arcs → (get_or arcs place d).label ≤ 26
label_fits arcs place d have lt = have.each (get_or arcs place d) (Contains-get_or arcs place d lt)

pub target_fits : (arcs : List Arc) (place : ℕ) (d : Arc) → HaveTargets arcs → place < length arcs → (get_or arcs place d).target ≤ most_arcs
target_fits arcs place d have lt = have.each (get_or arcs place d) (Contains-get_or arcs place d lt)

-- ---- the words of arcs

-- the arc whose word is at a place
record IsWordAt (arcs : List Arc) (word : ℕ) : Type 0 where
  pub arc : Arc
  pub there : Contains arcs arc
  pub is : word ≡ word_of arc

word_there : (arcs : List Arc) (place : ℕ) → place < length (map word_of arcs) → IsWordAt arcs (get_or (map word_of arcs) place 0)
word_there [] place lt = absurd (omega arith)
word_there (arc ∷ arcs) zero lt = record { arc = arc; there = (0, omega arith, refl); is = refl }
word_there (arc ∷ arcs) (suc place) lt =
    let more = word_there arcs place (omega arith) in
    record { arc = more.arc; there = is_other arc more.arc arcs more.there; is = more.is }

words_rise : (arcs : List Arc) (place : ℕ) → AreRising arcs → ((arc : Arc) → Contains arcs arc → arc.label ≤ 26) → suc place < length (map word_of arcs)
    → (arc_of (get_or (map word_of arcs) place 0)).label < (arc_of (get_or (map word_of arcs) (suc place) 0)).label
words_rise [] place rising few lt = absurd (omega arith)
words_rise (arc ∷ arcs) zero rising few lt =
    let next = word_there arcs 0 (omega arith) in
    let above = rising.0 next.arc next.there in
    let low = few next.arc (is_other arc next.arc arcs next.there) in
    let first : (arc_of (word_of arc)).label ≡ arc.label = ap (λ (x : Arc). x.label) (arc_back arc (omega (arith, above, low))) in
    let second : (arc_of (get_or (map word_of arcs) 0 0)).label ≡ next.arc.label =
    ap (λ (word : ℕ). (arc_of word).label) next.is ∙ ap (λ (x : Arc). x.label) (arc_back next.arc (omega (arith, low)))
    in
    omega (arith, first, second, above)
words_rise (arc ∷ arcs) (suc place) rising few lt = words_rise arcs place rising.1 (λ x there. few x (is_other arc x arcs there)) (omega arith)

arcs_back : (arcs : List Arc) → ((arc : Arc) → Contains arcs arc → arc.label ≤ 26) → map arc_of (map word_of arcs) ≡ arcs
arcs_back [] few = refl
arcs_back (arc ∷ arcs) few =
    let low = few arc (0, omega arith, refl) in
    rw (arc_back arc (omega (arith, low)), arcs_back arcs (λ x there. few x (is_other arc x arcs there))) refl

module _ (words : List ℕ) (arcs : List Arc) (sound : IsBody words) (next : AreNextArcs form.Gad1 words arcs) where
  few : (arc : Arc) → Contains arcs arc → arc.label ≤ 26
  few arc there = (next.each arc there).label

  is_target_of : (n : ℕ) → is_stored form.Gad1 words n ≡ true → is_target words n ≡ true
  is_target_of zero is = refl
  is_target_of (suc place) is = is

  open_word : (place : ℕ) → place < length (map word_of arcs) → IsOpenArc words (get_or (map word_of arcs) place 0)
  open_word place lt =
      let at = word_there arcs place lt in
      let known = next.each at.arc at.there in
      let low = few at.arc at.there in
      let same = ap arc_of at.is ∙ arc_back at.arc (omega (arith, low)) in
      record {
        label = subst (λ (x : Arc). x.label ≤ 26) (sym same) low;
        target = subst (λ (x : Arc). is_target words x.target ≡ true) (sym same) (is_target_of at.arc.target known.target);
        alive = subst (λ (x : Arc). (x.accepts || ltb 0 x.target) ≡ true) (sym same) known.alive;
        unmarked = ap is_last at.is ∙ word_unmarked at.arc (omega (arith, low));
      }

  list : IsArcList words (map word_of arcs)
  list = record {
    each = open_word;
    rising = λ place lt. rw add-one (words_rise arcs place next.rising few (omega arith));
  }

  each_unmarked : (place : ℕ) → place < length (map word_of arcs) → is_last (get_or (map word_of arcs) place 0) ≡ false
  each_unmarked place lt = (open_word place lt).unmarked

  size_all : length (words ++ run_with (map word_of arcs)) ≡ length words + length arcs
  size_all =
      let size = length-append words (run_with (map word_of arcs)) in
      let run = run_length (map word_of arcs) in
      let same = length-map arcs word_of in
      omega (arith, size, run, same)

  filled : 0 < length (map word_of arcs)
  filled = let same = length-map arcs word_of in let some = next.some in omega (arith, same, some)

  node_is : IsNodeWith (words ++ run_with (map word_of arcs)) (map word_of arcs) (length words + 1)
  node_is = node_new words (map word_of arcs) sound list filled

  stays_new : (n : ℕ) → is_stored form.Gad1 words n ≡ true → is_stored form.Gad1 (words ++ run_with (map word_of arcs)) n ≡ true
  stays_new zero is = refl
  stays_new (suc place) is = first_grown words (run_with (map word_of arcs)) (suc place) is

  same_new : (n : ℕ) → is_stored form.Gad1 words n ≡ true → node_at (words ++ run_with (map word_of arcs)) n ≡ node_at words n
  same_new zero is = refl
  same_new (suc place) is = node_grown words (run_with (map word_of arcs)) (suc place) sound.closed is

  -- only the last word of the node ends it
  inner_open : (more : ℕ) → more + 1 < length arcs → begins (words ++ run_with (map word_of arcs)) (length words + suc more) ≡ true → ⊥
  inner_open more lt is =
      let same = length-map arcs word_of in
      let at : length words + suc more ≡ suc (length words + more) = omega arith in
      let word = get_or-append-add words (run_with (map word_of arcs)) more 0 in
      let inner = run_inner (map word_of arcs) more each_unmarked (omega (arith, same, lt)) in
      absurd (false≢true (sym (ap is_last word ∙ inner) ∙ rw at at is))

  alone_new : (n : ℕ) → is_stored form.Gad1 (words ++ run_with (map word_of arcs)) n ≡ true → (n ≡ length words + 1) ⊎ (is_stored form.Gad1 words n ≡ true)
  alone_new zero is = inr refl
  alone_new (suc place) is =
      let parts = and_parts (ltb place (length (words ++ run_with (map word_of arcs)))) (begins (words ++ run_with (map word_of arcs)) place) is in
      let inside = ltb-true place (length (words ++ run_with (map word_of arcs))) parts.0 in
      let size = size_all in
      elim (cases_lt place (length words)) [
        | inl before ↦
            let same = begins_grown words (run_with (map word_of arcs)) place (omega arith) in
            inr (and_from (ltb place (length words)) (begins words place) (lt-ltb place (length words) before) (sym same ∙ parts.1))
        | inr after ↦ elim (cases_eq place (length words)) [
          | inl same ↦ inl (omega arith)
          | inr other ↦
              let following : place ≡ length words + suc (place - length words - 1) = omega arith in
              absurd (inner_open (place - length words - 1) (omega (arith, size, inside))
              (subst (λ (p : ℕ). begins (words ++ run_with (map word_of arcs)) p ≡ true) following parts.1))
        ]
      ]

  stored_run : length words + length arcs ≤ most_arcs → IsStoredNext form.Gad1 words (words ++ run_with (map word_of arcs)) arcs
  stored_run room =
      let same = length-map arcs word_of in
      record {
        sound = body_new words (map word_of arcs) sound list filled (omega (arith, same, room));
        grown = record { more = run_with (map word_of arcs); is = refl };
        size = size_all;
        is = node_of_first (words ++ run_with (map word_of arcs)) (length words + 1) node_is.first;
        node = node_is.node ∙ arcs_back arcs few;
        stays = stays_new;
        same = same_new;
        alone = alone_new;
      }

-- ---- the bytes

target_inside : (words : List ℕ) (n : ℕ) → is_stored form.Gad1 words n ≡ true → n ≤ length words
target_inside words zero is = omega arith
target_inside words (suc place) is = first_inside words (suc place) is

module _ (words : List ℕ) (arcs inner : List Arc) (last : Arc) (sound : IsBody words) (next : AreNextArcs form.Gad1 words arcs) (split : IsLastAndRest arcs last inner) where
  each_small : (arc : Arc) → Contains arcs arc → arc.target ≤ most_arcs
  each_small arc there = let inside = target_inside words arc.target (next.each arc there).target in let most = sound.few in omega (arith, inside, most)

  is_front : (arc : Arc) → Contains inner arc → Contains arcs arc
  is_front arc there = subst (λ (xs : List Arc). Contains xs arc) (sym split.0) (Contains-append_left inner (last ∷ []) arc there)

  is_last_one : Contains arcs last
  is_last_one = subst (λ (xs : List Arc). Contains xs last) (sym split.0) (Contains-push inner last)

  pub front_fits : HaveLabels inner × HaveTargets inner
  front_fits = (
    record { each = λ arc there. (next.each arc (is_front arc there)).label },
    record { each = λ arc there. each_small arc (is_front arc there) },
  )

  pub last_fits : (last.label ≤ 26) × (last.target ≤ most_arcs)
  last_fits = ((next.each last is_last_one).label, each_small last is_last_one)

  pub last_unmarked : (word : ℕ) → word ≡ word_of last → is_last word ≡ false
  last_unmarked word is = let low = last_fits.0 in ap is_last is ∙ word_unmarked last (omega (arith, low))

pub has_stored_run : (old mid new : List ℕ) (arcs inner : List Arc) (last : Arc) (word marked : ℕ) → IsBody (body_of old) → AreNextArcs form.Gad1 (body_of old) arcs
    → length (body_of old) + length arcs ≤ most_arcs → IsLastAndRest arcs last inner → HasAppended old mid (words_of inner) → word ≡ word_of last → marked ≡ word + 64
    → HasAppended mid new (marked ∷ []) → HasStored form.Gad1 old new arcs
has_stored_run old mid new arcs inner last word marked sound next room split before is marked_is here =
    let words : words_of arcs ≡ words_of inner ++ word_of last ∷ [] = ap words_of split.0 ∙ map-append word_of inner (last ∷ []) in
    let size : length (words_of inner) + 1 ≡ length (words_of arcs) =
    let front = length-map inner word_of in let all = length-map arcs word_of in let parts = split.1 in omega (arith, front, all, parts)
    in
    let all = run_appended old mid new (words_of arcs) (words_of inner) (word_of last) marked (words, size) before here (marked_is ∙ ap (λ (n : ℕ). n + 64) is) in
    record { whole = all.whole; next = subst (λ (xs : List ℕ). IsStoredNext form.Gad1 (body_of old) xs arcs) (sym all.body) (stored_run (body_of old) arcs sound next room) }
