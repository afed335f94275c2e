use Rattle.std.proofs.Common.{List, map, nat_le, ap, ◌∙◌}
use Rattle.game_turns.specs.Machines.{state_of}
use Rattle.game_turns.specs.Passing.{rules_in, record_in, list_in}
use Rattle.explain_facts.specs.declared.facts.Fact.TheVariants as fact
use Rattle.explain_facts.specs.declared.facts.games.GameFact.TheVariants as game_fact
use Rattle.explain_facts.specs.declared.facts.games.UnlistedPlay.{UnlistedPlay}
use Rattle.explain_facts.specs.Wholes.{UnlistedValue, play_in, words_in}
use Rattle.explain_facts.proofs.WholeLaws.{all_reported}
use Rattle.explain_facts.proofs.wholes.push_notes.Goals as goal

pub returns : goal.returns
returns c =
    let passed = c.args.passed.now in
    let ten = c.has_many-many.ensures ∙ ap (λ (ps : List UnlistedPlay). nat_le 10 (words_in (map play_in ps))) c.as_slice.ensures.value
    ∙ ap (λ (ps : List UnlistedValue). nat_le 10 (words_in ps)) c.in_ok-plays.ensures in
    all_reported (rules_in passed) (list_in passed) (record_in passed).events c.args.facts.now.items _ _ _ _ (fact.Game (game_fact.Unlisted c.in_ok-plays.plays)) c.in_ok-hidden.hidden
    (state_of c.end_of-end.result) c.has_many-many.result c.in_ok-plays.ensures c.in_ok-hidden.ensures c.end_of-end.ensures ten c.in_ok-push.ensures.items
    c.in_ok-push_other_list.ensures c.in_ok-push-2.ensures.items c.in_ok-push_due.ensures
