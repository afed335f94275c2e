use Rattle.lex_file.specs.declared.formats.Format.TheVariants as form
use Rattle.lex_file.specs.FileWords.{body_of}
use Rattle.lex_build.proofs.MaskBits.{labels_of}
use Rattle.lex_build.proofs.MaskStoring.{has_stored_mask}
use Rattle.lex_build.proofs.mask_writing.store_mask.Goals as goal

pub label_word-requires : goal.label_word-requires
label_word-requires c = labels_of form.Gad2 (body_of c.args.bytes.now.items) c.args.arcs.now c.requires.arcs

pub accept_word-requires : goal.accept_word-requires
accept_word-requires c = labels_of form.Gad2 (body_of c.args.bytes.now.items) c.args.arcs.now c.requires.arcs

pub returns : goal.returns
returns c =
    has_stored_mask c.args.bytes.now.items c.push_word.new.bytes.items c.push_word-2.new.bytes.items c.push_targets.new.bytes.items c.args.arcs.now
    c.label_word.result c.accept_word.result c.requires.sound c.requires.arcs c.requires.room c.label_word.ensures c.accept_word.ensures c.accept_word.type_inv
    c.in_ok-push_word.ensures c.in_ok-push_word-2.ensures c.in_ok-push_targets.ensures
