use Rattle.std.proofs.Common.{◌≡◌, ℕ, ◌+◌, ◌-◌, ◌++◌, List, get_or, replicate, ap, ◌∙◌, arith}
use Rattle.deal_completion.proofs.WantLaws.{lacks_from, lacking_is, lack_more}
use Rattle.deal_completion.proofs.wanting.push_lacking.Goals as goal

pub loop-kind-init : goal.loop-kind-init
loop-kind-init c = ap (λ (xs : List ℕ). c.args.list.now.items ++ xs) (lacking_is c.args.asked.now c.args.have.now)

pub loop-kind-preserved : goal.loop-kind-preserved
loop-kind-preserved c =
    let kind : ℕ = c.loop-kind.kind in
    let asked = c.args.asked.now in
    let have = c.args.have.now in
    let xs = c.loop-kind.list.items in
    let of_asked = ap (λ (tiles : List ℕ). get_or tiles kind 0) c.numbers-wanted.ensures.numbers in
    let of_have = ap (λ (tiles : List ℕ). get_or tiles kind 0) c.numbers-there.ensures.numbers in
    let at_asked : get_or c.numbers-wanted.result c.from-place.result 0 ≡ get_or c.numbers-wanted.result kind 0 = ap (λ (k : ℕ). get_or c.numbers-wanted.result k 0) c.from-place.ensures in
    let at_have : get_or c.numbers-there.result c.from-place.result 0 ≡ get_or c.numbers-there.result kind 0 = ap (λ (k : ℕ). get_or c.numbers-there.result k 0) c.from-place.ensures in
    let number : c.saturating_sub.result ≡ get_or asked kind 0 - get_or have kind 0 = omega arith in
    let pushed : c.push_times.new.list.items ≡ xs ++ replicate (get_or asked kind 0 - get_or have kind 0) kind =
    c.in_ok-push_times.ensures ∙ ap (λ (n : ℕ). xs ++ replicate n kind) number in
    ap (λ (zs : List ℕ). zs ++ lacks_from (λ k. get_or asked k 0 - get_or have k 0) (kind + 1) (27 - (kind + 1))) pushed
    ∙ lack_more (λ k. get_or asked k 0 - get_or have k 0) xs _ kind (omega arith) c.loop-kind.invariant
