use Rattle.std.proofs.Common.{◌≡◌, ◌==◌, rules, tests, ◌∙◌, ap}
use Rattle.std.proofs.lemmas.Iterator.{YieldsList-from_slice}
use Rattle.std.proofs.lemmas.Iterator.Search.{find_from_yields_List}
use Rattle.std.specs.Option.{option_map}
use Rattle.std.specs.Borrow.{Bor}
use Rattle.ref_play.specs.declared.placed.Placed.{Placed}
use Rattle.ref_play.proofs.WrittenTexts.{tile_found}
use Rattle.ref_play.proofs.writing.tile_in.Goals as goal

pub returns : goal.returns
returns c =
    let mapped : c.map.result ≡ option_map (λ (p : Placed). p.tile) (option_map (λ (x : Bor Placed). x.now) c.find.result) = search (rules, tests) in
    mapped
    ∙ ap (option_map (λ (p : Placed). p.tile))
    (find_from_yields_List (λ (p : Placed). p.square == c.args.square) _ _ c.find.result c.find.ensures.ran (YieldsList-from_slice c.args.tiles.now cc) (λ x b q k. search (rules, tests)))
    ∙ tile_found c.args.tiles.now c.args.square
