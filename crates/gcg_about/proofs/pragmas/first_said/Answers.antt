use Rattle.std.proofs.Common.{rules, ◌≡◌, ◌∙◌, sym, Some}
use Rattle.text_lines.specs.Lines.{lines_remaining}
use Rattle.gcg_about.specs.Pragmas.{said}
use Rattle.gcg_about.proofs.Steps.{said_here}
use Rattle.gcg_about.proofs.pragmas.first_said.Goals as goal

pub returns-in-Some-said : goal.returns-in-Some-said
returns-in-Some-said c =
    let here : said c.args.word.now c.in-Some.line.now ≡ Some c.in-Some-said.text.now = search rules in
    sym (said_here c.args.word.now (lines_remaining c.loop-line.line-iterator) c.in-Some.line.now (lines_remaining c.next.new.self) c.in-Some-said.text.now (search rules) here) ∙ c.loop-line.invariant
