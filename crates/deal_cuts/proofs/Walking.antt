-- From step to step: the least number of tiles inside before each, in every deal that fits.
use Rattle.std.proofs.Common.{◌≡◌, ℕ, zero, suc, add-one, ◌+◌, ◌<◌, ◌≤◌, Bool, false, List, [], ◌∷◌, length, get_or, take, drop, drop-cons, sym, ap, subst, ◌∙◌, arith}
use Rattle.std.proofs.lemmas.List.{drop-drop}
use Rattle.std.proofs.Math.ListN.{drop_of_length-le}
use Rattle.ref_tiles.specs.declared.rulebook.Rules.{Rules}
use Rattle.deal_steps.specs.declared.steps.Step.{Step}
use Rattle.deal_steps.specs.declared.deals.Held.{Held}
use Rattle.deal_steps.specs.Fitting.{Fits}
use Rattle.deal_cuts.specs.declared.cuts.Places.{Places}
use Rattle.deal_cuts.specs.Cutting.{HasNoDeal, inside_of, AreInside, Carries, AreTooMany}
use Rattle.deal_cuts.specs.Flowing.{AreSmall, BoardFollows, at_least, carried_to, IsOver, IsShown, IsCut}

-- the places past the end of a list
abbrev pub no_places : Places
no_places = record { bag = false; first = false; second = false }

-- ---- the head of three lists

-- at least `inside` tiles are inside before the first step
HasHead : (chosen : List Bool) → Rules → (inside : ℕ) → List Step → List Places → List Held → Type 0
HasHead chosen rules inside [] places deal = Unit {0}
HasHead chosen rules inside (s ∷ steps) [] deal = Unit {0}
HasHead chosen rules inside (s ∷ steps) (here ∷ places) [] = Unit {0}
HasHead chosen rules inside (s ∷ steps) (here ∷ places) (held ∷ rest) = inside ≤ inside_of chosen here rules s held.racks

-- at least this many are inside before the step at a place, in every deal that fits
pub IsReached : (chosen : List Bool) → Rules → (inside : ℕ) → List Step → List Places → ℕ → Type 0
IsReached chosen rules inside steps places i =
    (deal : List Held) → Fits rules steps deal → HasHead chosen rules inside (drop i steps) (drop i places) (drop i deal)

-- the racks from a place on fit the steps from there on
fits_from : (rules : Rules) (steps : List Step) (deal : List Held) (i : ℕ) → Fits rules steps deal → Fits rules (drop i steps) (drop i deal)
fits_from rules steps deal zero fits = fits
fits_from rules [] [] (suc i) fits = tt
fits_from rules [] (held ∷ rest) (suc i) fits = absurd fits
fits_from rules (s ∷ steps) [] (suc i) fits = absurd fits
fits_from rules (s ∷ steps) (held ∷ rest) (suc i) fits = fits_from rules steps rest i fits.2

-- a list from a place on
split_at : {T : Type 0} → (xs : List T) (i : ℕ) (x d : T) → i < length xs → x ≡ get_or xs i d → drop i xs ≡ x ∷ drop (i + 1) xs
split_at {T} xs i x d inside is = drop-cons xs i d inside ∙ rw (add-one i) (ap (λ (y : T). y ∷ drop (suc i) xs) (sym is))

split_two : {T : Type 0} → (xs : List T) (i : ℕ) (x y d e : T) → i + 1 < length xs → x ≡ get_or xs i d → y ≡ get_or xs (i + 1) e → drop i xs ≡ x ∷ y ∷ drop (i + 2) xs
split_two {T} xs i x y d e inside is is2 =
    let rest : drop (i + 1) xs ≡ y ∷ drop (i + 1 + 1) xs = split_at xs (i + 1) y e inside is2 in
    let places : i + 1 + 1 ≡ i + 2 = omega arith in
    split_at xs i x d (omega arith) is ∙ ap (λ (ys : List T). x ∷ ys) (rest ∙ ap (λ (n : ℕ). y ∷ drop n xs) places)

-- ---- at the start

head_starts : (chosen : List Bool) (rules : Rules) (inside : ℕ) (s : Step) (steps : List Step) (here : Places) (places : List Places)
    → AreInside chosen here rules s inside → (deal : List Held) → Fits rules (s ∷ steps) deal → HasHead chosen rules inside (s ∷ steps) (here ∷ places) deal
unfolding HasHead
head_starts chosen rules inside s steps here places is [] fits = tt
head_starts chosen rules inside s steps here places is (held ∷ rest) fits = is held fits.0

pub reached_at_start : (chosen : List Bool) (rules : Rules) (inside : ℕ) (steps : List Step) (places : List Places) (s : Step) (here : Places)
    → 0 < length steps → 0 < length places → s ≡ get_or steps 0 s → here ≡ get_or places 0 no_places → AreInside chosen here rules s inside
    → IsReached chosen rules inside steps places 0
unfolding IsReached
reached_at_start chosen rules inside steps places s here there there2 is is2 least deal fits =
    let one : drop 0 steps ≡ s ∷ drop (0 + 1) steps = split_at steps 0 s s there is in
    let two : drop 0 places ≡ here ∷ drop (0 + 1) places = split_at places 0 here no_places there2 is2 in
    let fits_here : Fits rules (s ∷ drop (0 + 1) steps) (drop 0 deal) = subst (λ (xs : List Step). Fits rules xs (drop 0 deal)) one (fits_from rules steps deal 0 fits) in
    rw one (rw two (head_starts chosen rules inside s (drop (0 + 1) steps) here (drop (0 + 1) places) least (drop 0 deal) fits_here))

-- ---- one more step

head_more : (chosen : List Bool) (rules : Rules) (inside after : ℕ) (s next : Step) (steps : List Step) (from to : Places) (places : List Places)
    → length rules.counts ≡ 27 → Carries chosen s next from to inside after
    → (deal : List Held) → Fits rules (s ∷ next ∷ steps) deal → HasHead chosen rules inside (s ∷ next ∷ steps) (from ∷ to ∷ places) deal
    → HasHead chosen rules after (next ∷ steps) (to ∷ places) (drop 1 deal)
unfolding HasHead
head_more chosen rules inside after s next steps from to places long carries [] fits has = tt
head_more chosen rules inside after s next steps from to places long carries (held ∷ []) fits has = tt
head_more chosen rules inside after s next steps from to places long carries (held ∷ next_held ∷ rest) fits has =
    carries rules held next_held long fits.0 fits.1 fits.2.0 has

pub reached_more : (chosen : List Bool) (rules : Rules) (inside after : ℕ) (steps : List Step) (places : List Places) (i : ℕ) (s next : Step) (from to : Places)
    → i + 1 < length steps → i + 1 < length places → s ≡ get_or steps i s → next ≡ get_or steps (i + 1) next → from ≡ get_or places i no_places → to ≡ get_or places (i + 1) no_places
    → length rules.counts ≡ 27 → Carries chosen s next from to inside after
    → IsReached chosen rules inside steps places i → IsReached chosen rules after steps places (i + 1)
unfolding IsReached
reached_more chosen rules inside after steps places i s next from to there there2 is is2 is3 is4 long carries reached deal fits =
    let one : drop i steps ≡ s ∷ next ∷ drop (i + 2) steps = split_two steps i s next s next there is is2 in
    let two : drop i places ≡ from ∷ to ∷ drop (i + 2) places = split_two places i from to no_places no_places there2 is3 is4 in
    let fits_here : Fits rules (s ∷ next ∷ drop (i + 2) steps) (drop i deal) = subst (λ (xs : List Step). Fits rules xs (drop i deal)) one (fits_from rules steps deal i fits) in
    let has : HasHead chosen rules inside (s ∷ next ∷ drop (i + 2) steps) (from ∷ to ∷ drop (i + 2) places) (drop i deal) =
    subst (λ (xs : List Step). HasHead chosen rules inside xs (from ∷ to ∷ drop (i + 2) places) (drop i deal)) one
    (subst (λ (ys : List Places). HasHead chosen rules inside (drop i steps) ys (drop i deal)) two (reached deal fits)) in
    let more = head_more chosen rules inside after s next (drop (i + 2) steps) from to (drop (i + 2) places) long carries (drop i deal) fits_here has in
    let steps_on : drop (i + 1) steps ≡ next ∷ drop (i + 2) steps = sym (drop-drop 1 i steps) ∙ ap (drop 1) one in
    let places_on : drop (i + 1) places ≡ to ∷ drop (i + 2) places = sym (drop-drop 1 i places) ∙ ap (drop 1) two in
    rw steps_on (rw places_on (rw (sym (drop-drop 1 i deal)) more))

-- ---- at the end

head_ends : (chosen : List Bool) (rules : Rules) (inside : ℕ) (s : Step) (steps : List Step) (here : Places) (places : List Places)
    → AreTooMany chosen here rules s inside → (deal : List Held) → Fits rules (s ∷ steps) deal → HasHead chosen rules inside (s ∷ steps) (here ∷ places) deal → ⊥
unfolding HasHead
head_ends chosen rules inside s steps here places many [] fits has = fits
head_ends chosen rules inside s steps here places many (held ∷ rest) fits has = many held fits.0 has

pub none_where_too_many : (chosen : List Bool) (rules : Rules) (inside : ℕ) (steps : List Step) (places : List Places) (i : ℕ) (s : Step) (here : Places)
    → i < length steps → i < length places → s ≡ get_or steps i s → here ≡ get_or places i no_places → AreTooMany chosen here rules s inside
    → IsReached chosen rules inside steps places i → HasNoDeal rules steps
unfolding IsReached
none_where_too_many chosen rules inside steps places i s here there there2 is is2 many reached deal fits =
    let one : drop i steps ≡ s ∷ drop (i + 1) steps = split_at steps i s s there is in
    let two : drop i places ≡ here ∷ drop (i + 1) places = split_at places i here no_places there2 is2 in
    let fits_here : Fits rules (s ∷ drop (i + 1) steps) (drop i deal) = subst (λ (xs : List Step). Fits rules xs (drop i deal)) one (fits_from rules steps deal i fits) in
    let has : HasHead chosen rules inside (s ∷ drop (i + 1) steps) (here ∷ drop (i + 1) places) (drop i deal) =
    subst (λ (xs : List Step). HasHead chosen rules inside xs (here ∷ drop (i + 1) places) (drop i deal)) one
    (subst (λ (ys : List Places). HasHead chosen rules inside (drop i steps) ys (drop i deal)) two (reached deal fits)) in
    head_ends chosen rules inside s (drop (i + 1) steps) here (drop (i + 1) places) many (drop i deal) fits_here has

-- ---- each cut is found

pub shown_at_start : (rules : Rules) (chosen : List Bool) (inside : ℕ) (steps : List Step) (places : List Places) (s : Step) (here : Places)
    → 0 < length steps → 0 < length places → s ≡ get_or steps 0 s → here ≡ get_or places 0 no_places
    → (AreSmall s → inside ≡ at_least chosen here rules s) → IsCut rules steps chosen places
    → IsShown chosen rules inside (drop 0 steps) (drop 0 places)
shown_at_start rules chosen inside steps places s here there there2 is is2 least cut =
    let one : drop 0 steps ≡ s ∷ drop (0 + 1) steps = split_at steps 0 s s there is in
    let two : drop 0 places ≡ here ∷ drop (0 + 1) places = split_at places 0 here no_places there2 is2 in
    let here_cut : IsCut rules (s ∷ drop (0 + 1) steps) chosen (here ∷ drop (0 + 1) places) =
    subst (λ (xs : List Step). IsCut rules xs chosen (here ∷ drop (0 + 1) places)) one (subst (λ (ys : List Places). IsCut rules (drop 0 steps) chosen ys) two cut) in
    rw one (rw two (subst (λ (n : ℕ). IsShown chosen rules n (s ∷ drop (0 + 1) steps) (here ∷ drop (0 + 1) places)) (sym (least here_cut.0)) here_cut.1))

pub shown_more : (rules : Rules) (chosen : List Bool) (inside after : ℕ) (steps : List Step) (places : List Places) (i : ℕ) (s next : Step) (from to : Places)
    → i + 1 < length steps → i + 1 < length places → s ≡ get_or steps i s → next ≡ get_or steps (i + 1) next → from ≡ get_or places i no_places → to ≡ get_or places (i + 1) no_places
    → (AreSmall s → AreSmall next → BoardFollows chosen s next → after ≡ carried_to chosen s next from to inside)
    → IsShown chosen rules inside (drop i steps) (drop i places) → IsShown chosen rules after (drop (i + 1) steps) (drop (i + 1) places)
shown_more rules chosen inside after steps places i s next from to there there2 is is2 is3 is4 carried shown =
    let one : drop i steps ≡ s ∷ next ∷ drop (i + 2) steps = split_two steps i s next s next there is is2 in
    let two : drop i places ≡ from ∷ to ∷ drop (i + 2) places = split_two places i from to no_places no_places there2 is3 is4 in
    let here : IsShown chosen rules inside (s ∷ next ∷ drop (i + 2) steps) (from ∷ to ∷ drop (i + 2) places) =
    subst (λ (xs : List Step). IsShown chosen rules inside xs (from ∷ to ∷ drop (i + 2) places)) one (subst (λ (ys : List Places). IsShown chosen rules inside (drop i steps) ys) two shown) in
    let steps_on : drop (i + 1) steps ≡ next ∷ drop (i + 2) steps = sym (drop-drop 1 i steps) ∙ ap (drop 1) one in
    let places_on : drop (i + 1) places ≡ to ∷ drop (i + 2) places = sym (drop-drop 1 i places) ∙ ap (drop 1) two in
    rw steps_on (rw places_on (subst (λ (n : ℕ). IsShown chosen rules n (next ∷ drop (i + 2) steps) (to ∷ drop (i + 2) places)) (sym (carried here.0 here.1 here.2)) here.3))

pub over_at_end : (rules : Rules) (chosen : List Bool) (inside : ℕ) (steps : List Step) (places : List Places) (i : ℕ) (s : Step) (here : Places)
    → length steps ≡ i + 1 → length places ≡ i + 1 → s ≡ get_or steps i s → here ≡ get_or places i no_places
    → IsShown chosen rules inside (drop i steps) (drop i places) → AreSmall s × IsOver chosen here rules s inside
over_at_end rules chosen inside steps places i s here long long2 is is2 shown =
    let one : drop i steps ≡ s ∷ drop (i + 1) steps = split_at steps i s s (omega arith) is in
    let two : drop i places ≡ here ∷ drop (i + 1) places = split_at places i here no_places (omega arith) is2 in
    let past : drop (i + 1) steps ≡ [] = drop_of_length-le steps (omega arith) in
    let past2 : drop (i + 1) places ≡ [] = drop_of_length-le places (omega arith) in
    let one_remaining : drop i steps ≡ s ∷ [] = one ∙ ap (λ (xs : List Step). s ∷ xs) past in
    let two_remaining : drop i places ≡ here ∷ [] = two ∙ ap (λ (ys : List Places). here ∷ ys) past2 in
    subst (λ (xs : List Step). IsShown chosen rules inside xs (here ∷ [])) one_remaining (subst (λ (ys : List Places). IsShown chosen rules inside (drop i steps) ys) two_remaining shown)

-- a cut depends on no more steps than it has places
shown_in_front : (rules : Rules) (chosen : List Bool) (inside : ℕ) (steps : List Step) (places : List Places) → IsShown chosen rules inside steps places
    → IsShown chosen rules inside (take (length places) steps) places
shown_in_front rules chosen inside [] [] shown = absurd shown
shown_in_front rules chosen inside [] (here ∷ places) shown = absurd shown
shown_in_front rules chosen inside (s ∷ steps) [] shown = absurd shown
shown_in_front rules chosen inside (s ∷ steps) (here ∷ []) shown = shown
shown_in_front rules chosen inside (s ∷ []) (here ∷ to ∷ places) shown = absurd shown
shown_in_front rules chosen inside (s ∷ next ∷ steps) (here ∷ to ∷ places) shown =
    (shown.0, shown.1, shown.2, shown_in_front rules chosen (carried_to chosen s next here to inside) (next ∷ steps) (to ∷ places) shown.3)

pub cut_in_front : (rules : Rules) (chosen : List Bool) (steps : List Step) (places : List Places) → IsCut rules steps chosen places → IsCut rules (take (length places) steps) chosen places
cut_in_front rules chosen [] places cut = absurd cut
cut_in_front rules chosen (s ∷ steps) [] cut = absurd cut
cut_in_front rules chosen (s ∷ steps) (here ∷ places) cut =
    (cut.0, shown_in_front rules chosen (at_least chosen here rules s) (s ∷ steps) (here ∷ places) cut.1)

-- and there are at least as many steps
shown_length : (rules : Rules) (chosen : List Bool) (inside : ℕ) (steps : List Step) (places : List Places) → IsShown chosen rules inside steps places → length places ≤ length steps
shown_length rules chosen inside [] [] shown = absurd shown
shown_length rules chosen inside [] (here ∷ places) shown = absurd shown
shown_length rules chosen inside (s ∷ steps) [] shown = absurd shown
shown_length rules chosen inside (s ∷ steps) (here ∷ []) shown = omega arith
shown_length rules chosen inside (s ∷ []) (here ∷ to ∷ places) shown = absurd shown
shown_length rules chosen inside (s ∷ next ∷ steps) (here ∷ to ∷ places) shown =
    let rest = shown_length rules chosen (carried_to chosen s next here to inside) (next ∷ steps) (to ∷ places) shown.3 in
    omega (arith, rest)

pub cut_length : (rules : Rules) (chosen : List Bool) (steps : List Step) (places : List Places) → IsCut rules steps chosen places → (0 < length places) × (length places ≤ length steps)
cut_length rules chosen [] places cut = absurd cut
cut_length rules chosen (s ∷ steps) [] cut = absurd cut
cut_length rules chosen (s ∷ steps) (here ∷ places) cut =
    (omega arith, shown_length rules chosen (at_least chosen here rules s) (s ∷ steps) (here ∷ places) cut.1)
