use Rattle.std.proofs.Common.{ℕ, rules}
use Rattle.std.proofs.lemmas.List.Sorted.{IsNonDecreasingBy-from_sort_by_key, answers_always}
use Rattle.repair_single.specs.Weighers.{wrong_by}
use Rattle.repair_single.specs.declared.candidate.Candidate.{Candidate}
use Rattle.repair_single.proofs.SortedOnes.{sorted_ones}
use Rattle.repair_single.proofs.candidates.all_candidates.Goals as goal

pub returns-clause-found : goal.returns-clause-found
returns-clause-found c =
    let key : Candidate → ℕ = λ (x : Candidate). x.cost in
    let rises = IsNonDecreasingBy-from_sort_by_key key c.sort_by_key.new.self.items c.in_ok-sort_by_key.ensures.sorted (λ a r f k. search rules) in
    sorted_ones (wrong_by c.args.weigher.now) c.args.rules.now c.args.list.now c.args.events.now c.args.plays.now c.args.below c.in_ok-all.all.from c.count_places-end.result c.in_ok-all.all.found.items c.sort_by_key.new.self.items
    (λ l may. c.count_places-end.ensures.all (wrong_by c.args.weigher.now) c.args.rules.now c.args.list.now c.args.events.now c.args.plays.now c.args.below l c.requires (c.in_ok-stop.ensures c.args.list.now c.requires) may) c.in_ok-all.ensures.found c.sort_by_key.ensures.permutation rises
    (c.sort_by_key.ensures.stable key (answers_always _ _ _ (λ f a r g h. search rules)))
