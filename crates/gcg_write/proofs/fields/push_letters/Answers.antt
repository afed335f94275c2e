use Rattle.std.proofs.Common.{◌≡◌, ◌+◌, arith, refl, ◌∙◌}
use Rattle.std.proofs.lemmas.List.{append-nil, append_assoc}
use Rattle.gcg_write.specs.Fields.{letter_text, letters_to}
use Rattle.gcg_write.proofs.Texts.{letters_start, letters_more}
use Rattle.text_lines.proofs.Outputs.{front_through}
use Rattle.gcg_write.proofs.fields.push_letters.Goals as goal

pub loop-index-init : goal.loop-index-init
loop-index-init c = rw (letters_start c.args.tiles.now, append-nil c.args.out.now.items) refl

pub loop-index-preserved : goal.loop-index-preserved
loop-index-preserved c =
    let n = c.loop-index.index in
    let byte : c.capital.result ≡ 65 + n = omega (arith, c.capital.ensures) in
    c.in_ok-push_times.ensures.done
    ∙ rw (c.loop-index.invariant, c.count.ensures, byte, letters_more c.args.tiles.now n, append_assoc c.args.out.now.items (letters_to c.args.tiles.now n) (letter_text c.args.tiles.now n)) refl

pub returns-in_err-push_times-clause-kept : goal.returns-in_err-push_times-clause-kept
returns-in_err-push_times-clause-kept c =
    front_through c.args.out.now.items c.loop-index.out.items c.push_times.new.out.items (letters_to c.args.tiles.now c.loop-index.index) c.loop-index.invariant c.push_times.ensures.kept
