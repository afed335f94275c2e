use Rattle.std.proofs.Common.{ℕ, rules, refl, arith}
use Rattle.std.specs.Prelude.{Contains}
use Rattle.std.proofs.lemmas.List.Elements.{All-contains, All-contains_itself}
use Rattle.std.proofs.lemmas.List.Sorted.{IsNonDecreasingBy-from_sort_by_key, All-permutation}
use Rattle.repair_pairs.specs.declared.found.Pair.{Pair}
use Rattle.repair_pairs.proofs.Adding.{first_of_all}
use Rattle.repair_pairs.proofs.finding.first_of.Goals as goal

pub first_pairs-requires : goal.first_pairs-requires
first_pairs-requires c =
    let key : Pair → ℕ = λ (p : Pair). p.cost in
    let rises = IsNonDecreasingBy-from_sort_by_key key c.sort_by_key.new.self.items c.in_ok-sort_by_key.ensures.sorted (λ a r f k. search rules) in
    λ i j d less within. rises i j d (omega (arith, less)) within

pub returns : goal.returns
returns c =
    let all = c.args.pairs.reported.items in
    let sorted = c.sort_by_key.new.self.items in
    let each = All-permutation (Contains all) all sorted c.sort_by_key.ensures.permutation (All-contains_itself all) in
    record { heads = refl; reported = first_of_all all sorted c.in_ok-reported.reported.items c.args.most (λ p among. All-contains (Contains all) sorted p each among) c.in_ok-reported.ensures }
