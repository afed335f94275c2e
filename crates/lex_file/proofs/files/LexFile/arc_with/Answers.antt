use Rattle.std.proofs.Common.{sym, ap, ◌∙◌, List}
use Rattle.lex_file.specs.declared.arcs.Arc.{Arc}
use Rattle.lex_file.specs.declared.formats.Format.TheVariants as form
use Rattle.lex_file.specs.Arcs as arcs
use Rattle.lex_file.proofs.Views.{nodes_are, mask_room}
use Rattle.lex_file.proofs.files.LexFile.arc_with.Goals as goal

pub arc_with_mask-requires : goal.arc_with_mask-requires
arc_with_mask-requires c = mask_room c.args.self.now c.args.node.first c.body-in-Gad2.result.now c.in-Gad2.is c.body-in-Gad2.ensures c.requires

pub returns-in_err-on-in-Gad1 : goal.returns-in_err-on-in-Gad1
returns-in_err-on-in-Gad1 c =
    c.from_residual.ensures
    ∙ sym c.in_err-on-in-Gad1.ensures.none
    ∙ ap (λ (found : List Arc). arcs.arc_with c.args.label found) (nodes_are c.args.self.now form.Gad1 c.args.node.first c.body.result.now c.in-Gad1.is c.body.ensures)

pub returns-in_ok-on-in-Gad1 : goal.returns-in_ok-on-in-Gad1
returns-in_ok-on-in-Gad1 c =
    sym c.in_ok-on-in-Gad1.ensures.arc
    ∙ ap (λ (found : List Arc). arcs.arc_with c.args.label found) (nodes_are c.args.self.now form.Gad1 c.args.node.first c.body.result.now c.in-Gad1.is c.body.ensures)

pub returns-in-Gad2 : goal.returns-in-Gad2
returns-in-Gad2 c =
    c.arc_with_mask.ensures
    ∙ ap (λ (found : List Arc). arcs.arc_with c.args.label found) (nodes_are c.args.self.now form.Gad2 c.args.node.first c.body-in-Gad2.result.now c.in-Gad2.is c.body-in-Gad2.ensures)
