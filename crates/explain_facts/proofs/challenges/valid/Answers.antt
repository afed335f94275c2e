use Rattle.std.proofs.Common.{rules, ◌≡◌, length, arith, Some, None, ap, sym, ◌∙◌}
use Rattle.std.proofs.lemmas.Bool.{eqb-true}
use Rattle.std.proofs.lemmas.List.{length-map}
use Rattle.game_turns.specs.LatestEvents.{latest_words}
use Rattle.game_turns.specs.Machines.{state_of}
use Rattle.game_turns.specs.declared.unlisted.SpelledWord.{SpelledWord}
use Rattle.explain_facts.specs.Challenges.{play_before}
use Rattle.game_turns.specs.Unlisted.{letters_in}
use Rattle.explain_facts.proofs.FaultFactLaws.{no_play_before, some_words, valid_is_play}
use Rattle.explain_facts.proofs.challenges.valid.Goals as goal

pub returns-in_default-clause-named : goal.returns-in_default-clause-named
returns-in_default-clause-named c = λ adds.
    let scene = c.args.scene.now in
    let s = state_of scene.machine.now in
    let none : play_before scene.past.now ≡ None = search rules in
    absurd (no_play_before scene.rules.now s scene.event.now scene.past.now adds.0 none (valid_is_play scene.rules.now scene.list.now s scene.event.now c.requires.fails))

pub returns-then-is_empty-clause-named : goal.returns-then-is_empty-clause-named
returns-then-is_empty-clause-named c = λ adds.
    let scene = c.args.scene.now in
    let s = state_of scene.machine.now in
    let words = c.in_ok-words.words in
    let before : play_before scene.past.now ≡ Some c.in-Some.event.now = search rules in
    let some = some_words scene.rules.now scene.list.now s scene.event.now scene.past.now c.in-Some.event.now adds.0 adds.1 before in
    let same : letters_in words.items ≡ latest_words s.latest = search rules in
    let many = ap length same in
    let size = length-map words.items (λ (word : SpelledWord). word.letters.items) in
    let nothing = eqb-true words.len 0 (sym c.is_empty.ensures ∙ c.if-is_empty.true) in
    let ok = words.ok in
    absurd (omega (arith, some, many, size, nothing, ok))
