use Rattle.std.proofs.Common.{◌≡◌, ◌<◌, ◌++◌, ◌∙◌, List, ℕ, length, sym, ap, arith}
use Rattle.game_turns.proofs.PlaceLaws.{start_tally}
use Rattle.game_turns.specs.Unlisted.{letters_in}
use Rattle.repair_single.specs.Remaining.{unlisted_at}
use Rattle.repair_single.proofs.StayingWrong.{one_more, never_refused, next_tally, words_there, all_words}
use Rattle.repair_single.proofs.remaining.unlisted_words.Goals as goal

pub loop-place-init : goal.loop-place-init
loop-place-init c =
    record {
      by = c.new-machine.ensures.rules;
      state = c.new-machine.ensures.state ∙ start_tally c.args.rules.now c.args.right.now;
      so_far = ap letters_in c.new-words.ensures.items;
    }

pub unreachable-requires : goal.unreachable-requires
unreachable-requires c =
    let within : c.loop-place.place < length c.args.right.now = omega arith in
    never_refused c.args.rules.now c.args.list.now c.args.right.now c.loop-place.place c.loop-place.machine c.take.result c.requires within c.loop-place.invariant.by c.loop-place.invariant.state
    c.take.ensures.reported (sym c.is_err.ensures.value ∙ c.if-is_err.true)

pub loop-place-preserved : goal.loop-place-preserved
loop-place-preserved c =
    let rules = c.args.rules.now in
    let list = c.args.list.now in
    let right = c.args.right.now in
    let place = c.loop-place.place in
    let within : place < length right = omega arith in
    let next = next_tally c.law_of_tallies.ensures rules list right place c.loop-place.machine c.take.new.machine c.take.result c.requires within c.loop-place.invariant.by c.loop-place.invariant.state
    c.take.ensures.state (sym c.is_err.ensures.value ∙ c.if-is_err.false) in
    let more = words_there rules list right place c.take.new.machine _ (letters_in c.in_ok-more.more.items) next c.in_ok-more.ensures c.standing_words.ensures in
    record {
      by = c.take.ensures.rules ∙ c.loop-place.invariant.by;
      state = next;
      so_far = one_more (unlisted_at rules list right) place (letters_in c.loop-place.words.items) (letters_in c.push_words.new.words.items) c.loop-place.invariant.so_far
          (c.in_ok-push_words.ensures ∙ ap (λ (ws : List (List ℕ)). letters_in c.loop-place.words.items ++ ws) more);
    }

pub returns : goal.returns
returns c =
    let last : c.loop-place.place ≡ length c.args.right.now = omega arith in
    all_words c.args.rules.now c.args.list.now c.args.right.now c.loop-place.place (letters_in c.loop-place.words.items) c.loop-place.invariant.so_far last
