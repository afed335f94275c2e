use Rattle.std.proofs.lemmas.Bool.{OnTrue_at, OnTrue_from}
use Rattle.lex_list.specs.RotatedPaths.{StandsFor}
use Rattle.lex_file.specs.Languages.{language_of}
use Rattle.lex_agree.proofs.Paths.{reported}
use Rattle.lex_agree.proofs.Splits.{holds}
use Rattle.lex_agree.proofs.agreeing.agree.Goals as goal

pub returns : goal.returns
returns c =
    let words = c.args.list.now in
    let has = language_of c.args.file.now.bytes.now in
    let letters = c.letter_count-letters.ensures in
    OnTrue_from c.all_turn_over.result (StandsFor has words)
    (λ turned.
    reported words has c.in-Ok.strings c.letter_count-letters.result letters.proper c.in-Ok.ensures letters.number letters.few c.if-strings-letters.false
    (holds words has letters.proper.each (OnTrue_at turned c.all_turn_over.ensures) c.if-not-has_firsts.ensures))
