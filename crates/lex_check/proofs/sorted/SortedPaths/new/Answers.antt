use Rattle.std.proofs.Common.{rules}
use Rattle.std.proofs.lemmas.List.Filters.{dedup_is}
use Rattle.std.proofs.lemmas.List.Sorted.{answers_always}
use Rattle.lex_check.proofs.Held.{number_of}
use Rattle.lex_check.proofs.Rotations.{in_order, kept_list, kept_paths}
use Rattle.lex_check.proofs.sorted.SortedPaths.new.Goals as goal

pub invariant_of-result : goal.invariant_of-result
invariant_of-result c =
    let sort = c.sort_unstable_by_key in
    kept_list c.args.list.now c.in_ok-paths.paths.items sort.new.self.items c.dedup.new.self.items c.len-words.ensures.proper.each c.in_ok-paths.ensures
    (in_order c.args.list.now c.in_ok-paths.paths.items sort.new.self.items c.dedup.new.self.items c.len-words.ensures.proper.each c.in_ok-paths.ensures
    sort.ensures.permutation (sort.ensures.sorted number_of (answers_always _ _ _ (λ f a r g h. search rules))) (dedup_is _ _ _ c.dedup.ensures.filtered))

pub returns : goal.returns
returns c =
    let sort = c.sort_unstable_by_key in
    kept_paths c.args.list.now c.in_ok-paths.paths.items sort.new.self.items c.dedup.new.self.items c.len-words.ensures.proper.each c.in_ok-paths.ensures
    (in_order c.args.list.now c.in_ok-paths.paths.items sort.new.self.items c.dedup.new.self.items c.len-words.ensures.proper.each c.in_ok-paths.ensures
    sort.ensures.permutation (sort.ensures.sorted number_of (answers_always _ _ _ (λ f a r g h. search rules))) (dedup_is _ _ _ c.dedup.ensures.filtered))
    c.law_of_paths.ensures.tested
