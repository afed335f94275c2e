use Rattle.std.proofs.Common.{◌≡◌, ℕ, ◌+◌, ◌-◌, List, get_or, sum, sym, subst, ap, ◌∙◌, arith, drop}
use Rattle.std.proofs.lemmas.List.{get_or_past}
use Rattle.deal_completion.specs.declared.picking.Pick.{Pick}
use Rattle.deal_completion.specs.Completion.{pick_listed, with_one}
use Rattle.deal_completion.specs.Taking.{HasRoomIn}
use Rattle.deal_completion.proofs.PickLoops.{listed_enough, listed_take, listed_skip}
use Rattle.deal_completion.proofs.picking.Pick.take_listed.Goals as goal
use Rattle.deal_completion.proofs.picking.Pick.take_listed.Goals.{then-kind-lt-KINDS+then-remaining-kind-gt0, else-kind-lt-KINDS, else-kind-lt-KINDS-via-then-kind-lt-KINDS+else-remaining-kind-gt0, else-kind-lt-KINDS-via-else-kind-lt-KINDS}

pub returns-then-more-eq0-clause-taken : goal.returns-then-more-eq0-clause-taken
returns-then-more-eq0-clause-taken c =
    sym (listed_enough (drop c.loop-kind.kind-index c.args.list.now) c.args.number c.loop-kind.self (omega arith)) ∙ c.loop-kind.invariant.rest

pub loop-kind-preserved : goal.loop-kind-preserved
loop-kind-preserved c =
    let list = c.args.list.now in
    let i = c.loop-kind.kind-index in
    let kind : ℕ = c.from-kind.result in
    let p = c.loop-kind.self in
    let here : get_or list i 0 ≡ kind = sym c.from-kind.ensures in
    let number_remaining : get_or c.numbers-remaining.result kind 0 ≡ get_or p.remaining kind 0 = ap (λ (xs : List ℕ). get_or xs kind 0) c.numbers-remaining.ensures.numbers in
    elim c.if-kind-lt-KINDS.branch [
      | then-kind-lt-KINDS+then-remaining-kind-gt0 w ↦
          let next : c.if-kind-lt-KINDS.self ≡ with_one p kind = w.self-is ∙ w.take_one.ensures.taken in
          let total : sum c.if-kind-lt-KINDS.self.taken ≡ sum p.taken + 1 = ap (λ (q : Pick). sum q.taken) w.self-is ∙ w.take_one.ensures.total in
          record {
            rest = ap (λ (q : Pick). pick_listed (drop (i + 1) list) c.args.number q) next
                ∙ listed_take list i kind c.args.number p _ (omega arith) here (omega arith) (omega arith) c.loop-kind.invariant.rest;
            more = omega arith;
            room = subst HasRoomIn (sym w.self-is) w.take_one.ensures.room;
          }
      | else-kind-lt-KINDS w ↦
          let none : get_or p.remaining kind 0 ≡ 0 =
          elim w.else-kind-lt-KINDS.branch [
            | else-kind-lt-KINDS-via-then-kind-lt-KINDS+else-remaining-kind-gt0 v ↦ omega arith
            | else-kind-lt-KINDS-via-else-kind-lt-KINDS v ↦ get_or_past p.remaining kind 0 (omega arith)
          ] in
          record {
            rest = ap (λ (q : Pick). pick_listed (drop (i + 1) list) c.args.number q) w.self-is
                ∙ listed_skip list i kind c.args.number p _ (omega arith) here none c.loop-kind.invariant.rest;
            more = w.more-is ∙ c.loop-kind.invariant.more ∙ ap (λ (q : Pick). c.args.number - sum q.taken) (sym w.self-is);
            room = subst HasRoomIn (sym w.self-is) c.loop-kind.invariant.room;
          }
    ]
