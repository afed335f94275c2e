-- The best of the choices, with one more choice.
use Rattle.std.proofs.Common.{◌≡◌, ◌⊎◌, inl, inr, ℕ, ◌+◌, ◌<◌, ◌≤◌, List, [], ◌∷◌, ◌++◌, Option, Some, None, refl, sym, ap, ◌∙◌, subst, arith, rules}
use Rattle.std.specs.Prelude.{All, Contains}
use Rattle.std.proofs.lemmas.Bool.{cases_lt}
use Rattle.std.proofs.lemmas.List.Elements.{All-append, All-contains, Contains-append_left, Contains-append_right}
use Rattle.ref_tiles.specs.declared.rulebook.Rules.{Rules}
use Rattle.gcg_read.specs.declared.events.Event.{Event}
use Rattle.game_corrections.specs.Laws.{OneCorrection}
use Rattle.game_deal.specs.Verdicts.{IsGame, IsUnsettled}
use Rattle.compare_alignments.specs.declared.merging.NumbersOf.TheVariants.{Taken}
use Rattle.compare_alignments.specs.Merging.{count_other_racks}
use Rattle.compare_choices.specs.declared.sheets.Sheets.{Sheets}
use Rattle.compare_choices.specs.declared.best.Best.{Best}
use Rattle.compare_choices.specs.declared.finds.Find.{Find}
use Rattle.compare_choices.specs.Choices.{choice_events, IsRight, cost_of}
use Rattle.compare_choices.specs.Finds.{IsGameOf, HasBest, IsRivalOf, IsAfter, IsAsGood, IsReported, IsOpen, IsAccounted, IsFoundTo}

pub none_found : (rules : Rules) (list : List (List ℕ)) (s : Sheets) (f : Find) → f.best ≡ None → f.rivals.items ≡ [] → f.remaining.items ≡ [] → IsFoundTo rules list s 0 f
none_found law list s f none rivals remaining =
    record {
      best = subst (HasBest law list s 0) (sym none) tt;
      rivals = subst (All (IsRivalOf law list s f.best)) (sym rivals) (search rules);
      remaining = subst (All (IsOpen law list s)) (sym remaining) (search rules);
      others = λ choice right before is. absurd (omega (arith, before));
    }

-- ---- the right numbers of a choice are the only ones

one_right : OneCorrection → (rules : Rules) (list : List (List ℕ)) (written a b : List Event) → IsRight rules list written a → IsRight rules list written b → a ≡ b
one_right one rules list written a b of_a of_b = one rules list written a b of_a.correction of_b.correction

-- ---- what held before holds with one more choice

later_best : (rules : Rules) (list : List (List ℕ)) (s : Sheets) (end : ℕ) (o : Option Best) → HasBest rules list s end o → HasBest rules list s (end + 1) o
later_best rules list s end None has = tt
later_best rules list s end (Some b) has = let before = has.before in record { is = has.is; before = omega (arith, before) }

abbrev AreAccounted : Rules → (list : List (List ℕ)) → Sheets → Option Best → (rivals remaining : List ℕ) → (end : ℕ) → Type 0
AreAccounted rules list s best rivals remaining end =
    (choice : ℕ) (right : List Event) → choice < end → IsRight rules list (choice_events s Taken choice) right → IsAccounted rules list right best rivals remaining choice (cost_of rules list s choice right)

abbrev IsAccountedAt : Rules → (list : List (List ℕ)) → Sheets → Option Best → (rivals remaining : List ℕ) → (choice : ℕ) → Type 0
IsAccountedAt rules list s best rivals remaining choice =
    (right : List Event) → IsRight rules list (choice_events s Taken choice) right → IsAccounted rules list right best rivals remaining choice (cost_of rules list s choice right)

others_by : (rules : Rules) (list : List (List ℕ)) (s : Sheets) (end : ℕ) (best : Option Best) (rivals remaining : List ℕ) → AreAccounted rules list s best rivals remaining end
    → IsAccountedAt rules list s best rivals remaining end → (choice : ℕ) (right : List Event) → choice < end + 1 → IsRight rules list (choice_events s Taken choice) right
    → (choice < end) ⊎ (end ≤ choice) → IsAccounted rules list right best rivals remaining choice (cost_of rules list s choice right)
others_by rules list s end best rivals remaining old here choice right before is (inl less) = old choice right less is
others_by rules list s end best rivals remaining old here choice right before is (inr following) =
    let same : end ≡ choice = omega (arith, before, following) in
    subst (IsAccountedAt rules list s best rivals remaining) same here right is

found_by : (rules : Rules) (list : List (List ℕ)) (s : Sheets) (end : ℕ) (new : Find) → HasBest rules list s (end + 1) new.best → All (IsRivalOf rules list s new.best) new.rivals.items
    → All (IsOpen rules list s) new.remaining.items → AreAccounted rules list s new.best new.rivals.items new.remaining.items end → IsAccountedAt rules list s new.best new.rivals.items new.remaining.items end
    → IsFoundTo rules list s (end + 1) new
found_by rules list s end new best rivals remaining old here =
    record {
      best = best;
      rivals = rivals;
      remaining = remaining;
      others = λ choice right before is. others_by rules list s end new.best new.rivals.items new.remaining.items old here choice right before is (cases_lt choice end);
    }

-- nothing is added for a choice that is accounted for as it is
as_before : (rules : Rules) (list : List (List ℕ)) (s : Sheets) (end : ℕ) (f : Find) → IsFoundTo rules list s end f → IsAccountedAt rules list s f.best f.rivals.items f.remaining.items end
    → IsFoundTo rules list s (end + 1) f
as_before rules list s end f is here = found_by rules list s end f (later_best rules list s end f.best is.best) is.rivals is.remaining is.others here

-- ---- the choice has no right numbers

pub none_right : (rules : Rules) (list : List (List ℕ)) (s : Sheets) (end : ℕ) (f : Find) → IsFoundTo rules list s end f
    → ((other : List Event) → IsRight rules list (choice_events s Taken end) other → ⊥) → IsFoundTo rules list s (end + 1) f
none_right rules list s end f is none = as_before rules list s end f is (λ right fits. absurd (none right fits))

-- ---- the choice costs more than the best

reported_after : (o : Option Best) (rivals : List ℕ) (choice cost : ℕ) → IsAfter o cost → IsReported o rivals choice cost
reported_after None rivals choice cost following = absurd following
reported_after (Some b) rivals choice cost following = inr (inl following)

pub one_after : OneCorrection → (rules : Rules) (list : List (List ℕ)) (s : Sheets) (end : ℕ) (f : Find) (right : List Event) (cost : ℕ) → IsFoundTo rules list s end f
    → IsRight rules list (choice_events s Taken end) right → cost ≡ cost_of rules list s end right → IsAfter f.best cost → IsFoundTo rules list s (end + 1) f
one_after one rules list s end f right cost is fits costs following =
    let more : IsAfter f.best (cost_of rules list s end right) = subst (IsAfter f.best) costs following in
    as_before rules list s end f is
    (λ other of_other.
    inr (inr (reported_after f.best f.rivals.items end (cost_of rules list s end other)
    (subst (λ (r : List Event). IsAfter f.best (cost_of rules list s end r)) (one_right one rules list (choice_events s Taken end) right other fits of_other) more))))

-- ---- the racks that are not of the players' own sheets cost more than the best

dearer : (o : Option Best) (racks cost : ℕ) → IsAfter o racks → racks ≤ cost → IsAfter o cost
dearer None racks cost following less = absurd following
dearer (Some b) racks cost following less = omega (arith, following, less)

racks_cost : (rules : Rules) (list : List (List ℕ)) (s : Sheets) (choice : ℕ) (right : List Event) → count_other_racks choice s.pairs.items ≤ cost_of rules list s choice right
unfolding cost_of
racks_cost rules list s choice right = omega arith

pub dear_racks : (rules : Rules) (list : List (List ℕ)) (s : Sheets) (end : ℕ) (f : Find) (racks : ℕ) → IsFoundTo rules list s end f → racks ≡ count_other_racks end s.pairs.items → IsAfter f.best racks
    → IsFoundTo rules list s (end + 1) f
dear_racks rules list s end f racks is many following =
    let more : IsAfter f.best (count_other_racks end s.pairs.items) = subst (IsAfter f.best) many following in
    as_before rules list s end f is
    (λ right fits.
    inr (inr (reported_after f.best f.rivals.items end (cost_of rules list s end right)
    (dearer f.best (count_other_racks end s.pairs.items) (cost_of rules list s end right) more (racks_cost rules list s end right)))))

-- ---- no deal fits

pub no_game : OneCorrection → (rules : Rules) (list : List (List ℕ)) (s : Sheets) (end : ℕ) (f : Find) (right : List Event) → IsFoundTo rules list s end f
    → IsRight rules list (choice_events s Taken end) right → (IsGame rules list right → ⊥) → IsFoundTo rules list s (end + 1) f
no_game one rules list s end f right is fits none =
    as_before rules list s end f is
    (λ other of_other. inl (subst (λ (r : List Event). IsGame rules list r → ⊥) (one_right one rules list (choice_events s Taken end) right other fits of_other) none))

-- ---- it is not known whether one fits

all_more : {X : Type 0} (P : X → Type 0) (xs : List X) (x : X) → All P xs → P x → All P (xs ++ x ∷ [])
all_more P xs x all is = All-append P xs (x ∷ []) all (grind (arith, is))

last_there : (xs : List ℕ) (x : ℕ) → Contains (xs ++ x ∷ []) x
last_there xs x = Contains-append_right xs (x ∷ []) x (search rules)

remaining_kept : (rules : Rules) (list : List (List ℕ)) (right : List Event) (best : Option Best) (rivals remaining more : List ℕ) (choice cost : ℕ) → IsAccounted rules list right best rivals remaining choice cost
    → IsAccounted rules list right best rivals (remaining ++ more) choice cost
remaining_kept rules list right best rivals remaining more choice cost (inl none) = inl none
remaining_kept rules list right best rivals remaining more choice cost (inr (inl there)) = inr (inl (Contains-append_left remaining more choice there))
remaining_kept rules list right best rivals remaining more choice cost (inr (inr reported)) = inr (inr reported)

pub remains_open : (rules : Rules) (list : List (List ℕ)) (s : Sheets) (end : ℕ) (f new : Find) (right : List Event) → IsFoundTo rules list s end f
    → IsRight rules list (choice_events s Taken end) right → IsUnsettled rules list right → new.best ≡ f.best → new.rivals.items ≡ f.rivals.items → new.remaining.items ≡ f.remaining.items ++ end ∷ []
    → IsFoundTo rules list s (end + 1) new
remains_open rules list s end f new right is fits unsettled best rivals remaining =
    found_by rules list s end new (subst (HasBest rules list s (end + 1)) (sym best) (later_best rules list s end f.best is.best))
    (subst (λ (o : Option Best). All (IsRivalOf rules list s o) new.rivals.items) (sym best) (subst (All (IsRivalOf rules list s f.best)) (sym rivals) is.rivals))
    (subst (All (IsOpen rules list s)) (sym remaining) (all_more (IsOpen rules list s) f.remaining.items end is.remaining (record { right = right; is = fits; unsettled = unsettled })))
    (λ choice other before of_other.
    subst (λ (o : Option Best). IsAccounted rules list other o new.rivals.items new.remaining.items choice (cost_of rules list s choice other)) (sym best)
    (subst (λ (xs : List ℕ). IsAccounted rules list other f.best xs new.remaining.items choice (cost_of rules list s choice other)) (sym rivals)
    (subst (λ (xs : List ℕ). IsAccounted rules list other f.best f.rivals.items xs choice (cost_of rules list s choice other)) (sym remaining)
    (remaining_kept rules list other f.best f.rivals.items f.remaining.items (end ∷ []) choice (cost_of rules list s choice other) (is.others choice other before of_other)))))
    (λ other of_other. inr (inl (subst (λ (xs : List ℕ). Contains xs end) (sym remaining) (last_there f.remaining.items end))))

-- ---- it makes a game, and costs as little as the best

rivals_kept : (rules : Rules) (list : List (List ℕ)) (right : List Event) (best : Option Best) (rivals more remaining : List ℕ) (choice cost : ℕ) → IsAccounted rules list right best rivals remaining choice cost
    → IsAccounted rules list right best (rivals ++ more) remaining choice cost
rivals_kept rules list right best rivals more remaining choice cost (inl none) = inl none
rivals_kept rules list right best rivals more remaining choice cost (inr (inl there)) = inr (inl there)
rivals_kept rules list right None rivals more remaining choice cost (inr (inr reported)) = absurd reported
rivals_kept rules list right (Some b) rivals more remaining choice cost (inr (inr (inl it))) = inr (inr (inl it))
rivals_kept rules list right (Some b) rivals more remaining choice cost (inr (inr (inr (inl following)))) = inr (inr (inr (inl following)))
rivals_kept rules list right (Some b) rivals more remaining choice cost (inr (inr (inr (inr there)))) = inr (inr (inr (inr (Contains-append_left rivals more choice there))))

rival_by : (rules : Rules) (list : List (List ℕ)) (s : Sheets) (o : Option Best) (game : Best) → IsGameOf rules list s game → IsAsGood o game.cost → IsRivalOf rules list s o game.choice
rival_by rules list s None game is good = absurd good
rival_by rules list s (Some b) game is good = record { right = game.right; makes = is.makes; costs = sym is.costs ∙ sym good }

reported_rival : (o : Option Best) (rivals : List ℕ) (choice cost good : ℕ) → IsAsGood o good → Contains rivals choice → IsReported o rivals choice cost
reported_rival None rivals choice cost good is there = absurd is
reported_rival (Some b) rivals choice cost good is there = inr (inr there)

pub one_rival : (rules : Rules) (list : List (List ℕ)) (s : Sheets) (f new : Find) (game : Best) → IsFoundTo rules list s game.choice f → IsGameOf rules list s game → IsAsGood f.best game.cost
    → new.best ≡ f.best → new.rivals.items ≡ f.rivals.items ++ game.choice ∷ [] → new.remaining.items ≡ f.remaining.items → IsFoundTo rules list s (game.choice + 1) new
one_rival rules list s f new game is of_game good best rivals remaining =
    let end = game.choice in
    found_by rules list s end new (subst (HasBest rules list s (end + 1)) (sym best) (later_best rules list s end f.best is.best))
    (subst (λ (o : Option Best). All (IsRivalOf rules list s o) new.rivals.items) (sym best)
    (subst (All (IsRivalOf rules list s f.best)) (sym rivals) (all_more (IsRivalOf rules list s f.best) f.rivals.items end is.rivals (rival_by rules list s f.best game of_game good))))
    (subst (All (IsOpen rules list s)) (sym remaining) is.remaining)
    (λ choice other before of_other.
    subst (λ (o : Option Best). IsAccounted rules list other o new.rivals.items new.remaining.items choice (cost_of rules list s choice other)) (sym best)
    (subst (λ (xs : List ℕ). IsAccounted rules list other f.best xs new.remaining.items choice (cost_of rules list s choice other)) (sym rivals)
    (subst (λ (xs : List ℕ). IsAccounted rules list other f.best (f.rivals.items ++ end ∷ []) xs choice (cost_of rules list s choice other)) (sym remaining)
    (rivals_kept rules list other f.best f.rivals.items (end ∷ []) f.remaining.items choice (cost_of rules list s choice other) (is.others choice other before of_other)))))
    (λ other of_other.
    inr (inr (subst (λ (o : Option Best). IsReported o new.rivals.items end (cost_of rules list s end other)) (sym best)
    (reported_rival f.best new.rivals.items end (cost_of rules list s end other) game.cost good (subst (λ (xs : List ℕ). Contains xs end) (sym rivals) (last_there f.rivals.items end))))))

-- ---- it makes a game, and costs less than the best

less_by : (b : Best) (cost : ℕ) → (IsAfter (Some b) cost → ⊥) → (IsAsGood (Some b) cost → ⊥) → cost < b.cost
less_by b cost none good = grind (arith, none, good)

reported_cost : OneCorrection → (rules : Rules) (list : List (List ℕ)) (s : Sheets) (b : Best) (rivals : List ℕ) (choice : ℕ) (right : List Event) → IsGameOf rules list s b → All (IsRivalOf rules list s (Some b)) rivals
    → IsRight rules list (choice_events s Taken choice) right → IsReported (Some b) rivals choice (cost_of rules list s choice right) → b.cost ≤ cost_of rules list s choice right
reported_cost one rules list s b rivals choice right of_best of_rivals is (inl it) =
    let same : right ≡ b.right = one_right one rules list (choice_events s Taken choice) right b.right is (subst (λ c. IsRight rules list (choice_events s Taken c) b.right) (sym it) of_best.makes.is) in
    let costs : cost_of rules list s choice right ≡ b.cost = ap (λ c. cost_of rules list s c right) it ∙ ap (cost_of rules list s b.choice) same ∙ sym of_best.costs in
    omega (arith, costs)
reported_cost one rules list s b rivals choice right of_best of_rivals is (inr (inl following)) = omega (arith, following)
reported_cost one rules list s b rivals choice right of_best of_rivals is (inr (inr there)) =
    let rival = All-contains (IsRivalOf rules list s (Some b)) rivals choice of_rivals there in
    let same : right ≡ rival.right = one_right one rules list (choice_events s Taken choice) right rival.right is rival.makes.is in
    let costs : cost_of rules list s choice right ≡ b.cost = ap (cost_of rules list s choice) same ∙ rival.costs in
    omega (arith, costs)

better_than : OneCorrection → (rules : Rules) (list : List (List ℕ)) (s : Sheets) (end : ℕ) (o : Option Best) (rivals remaining : List ℕ) (game : Best) (choice : ℕ) (right : List Event) → HasBest rules list s end o
    → All (IsRivalOf rules list s o) rivals → (IsAfter o game.cost → ⊥) → (IsAsGood o game.cost → ⊥) → IsRight rules list (choice_events s Taken choice) right
    → IsAccounted rules list right o rivals remaining choice (cost_of rules list s choice right) → IsAccounted rules list right (Some game) [] remaining choice (cost_of rules list s choice right)
better_than one rules list s end o rivals remaining game choice right has of_rivals none good is (inl lacks) = inl lacks
better_than one rules list s end o rivals remaining game choice right has of_rivals none good is (inr (inl there)) = inr (inl there)
better_than one rules list s end None rivals remaining game choice right has of_rivals none good is (inr (inr reported)) = absurd reported
better_than one rules list s end (Some b) rivals remaining game choice right has of_rivals none good is (inr (inr reported)) =
    let less = less_by b game.cost none good in
    let most = reported_cost one rules list s b rivals choice right has.is of_rivals is reported in
    inr (inr (inr (inl (omega (arith, less, most)))))

pub one_better : OneCorrection → (rules : Rules) (list : List (List ℕ)) (s : Sheets) (f new : Find) (game : Best) → IsFoundTo rules list s game.choice f → IsGameOf rules list s game
    → (IsAfter f.best game.cost → ⊥) → (IsAsGood f.best game.cost → ⊥) → new.best ≡ Some game → new.rivals.items ≡ [] → new.remaining.items ≡ f.remaining.items → IsFoundTo rules list s (game.choice + 1) new
one_better one law list s f new game is of_game none good best rivals remaining =
    let end = game.choice in
    found_by law list s end new (subst (HasBest law list s (end + 1)) (sym best) (record { is = of_game; before = omega arith }))
    (subst (All (IsRivalOf law list s new.best)) (sym rivals) (search rules))
    (subst (All (IsOpen law list s)) (sym remaining) is.remaining)
    (λ choice other before of_other.
    subst (λ (o : Option Best). IsAccounted law list other o new.rivals.items new.remaining.items choice (cost_of law list s choice other)) (sym best)
    (subst (λ (xs : List ℕ). IsAccounted law list other (Some game) xs new.remaining.items choice (cost_of law list s choice other)) (sym rivals)
    (subst (λ (xs : List ℕ). IsAccounted law list other (Some game) [] xs choice (cost_of law list s choice other)) (sym remaining)
    (better_than one law list s end f.best f.rivals.items f.remaining.items game choice other is.best is.rivals none good of_other (is.others choice other before of_other)))))
    (λ other of_other. inr (inr (subst (λ (o : Option Best). IsReported o new.rivals.items end (cost_of law list s end other)) (sym best) (inl refl))))
