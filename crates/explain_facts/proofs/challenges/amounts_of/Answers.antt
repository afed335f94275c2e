use Rattle.std.proofs.Common.{◌≡◌, ℕ, ◌+◌, ◌*◌, ◌++◌, [], ◌∷◌, map, ap, sym, ◌∙◌, arith}
use Rattle.std.specs.List.{range_with_len}
use Rattle.std.proofs.lemmas.List.FromFn.{map-range_with_len_more}
use Rattle.explain_facts.proofs.Reporting.{one_unit_more}
use Rattle.explain_facts.proofs.challenges.amounts_of.Goals as goal

pub loop-k-preserved : goal.loop-k-preserved
loop-k-preserved c =
    let unit = c.args.unit in
    let k = c.loop-k.k in
    let next = one_unit_more unit k c.loop-k.amount c.in-Some.next c.loop-k.invariant.last c.in-Some.ensures.1 in
    let same : 1 + k ≡ k + 1 = omega arith in
    let f : ℕ → ℕ = λ n. unit * n in
    record {
      amounts = c.in_ok-push.ensures.items ∙ ap (λ xs. xs ++ c.in-Some.next ∷ []) c.loop-k.invariant.amounts ∙ ap (λ n. map f (range_with_len 1 k) ++ n ∷ []) next
          ∙ sym (map-range_with_len_more f 1 k (k + 1) same);
      last = next;
    }
