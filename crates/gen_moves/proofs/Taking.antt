-- What a sink has once the play of a line's entries was given to it.
use Rattle.std.proofs.Common.{Option, ◌≡◌, ℕ, ℤ, Bool, true, false, List, [], ◌∷◌, refl, sym, ap, ◌∙◌, Some, None, Result, Ok, Err}
use Rattle.std.specs.Prelude.{pos, OnOk, OnErr, if◌then◌else◌}
use Rattle.ref_tiles.specs.declared.rulebook.Rules.{Rules}
use Rattle.ref_tiles.specs.declared.tiles.Tile.{Tile}
use Rattle.ref_board.specs.declared.directions.Dir.{Dir}
use Rattle.ref_play.specs.declared.placed.Placed.{Placed}
use Rattle.ref_play.specs.declared.plays.Play.{Play}
use Rattle.ref_play.specs.Scores.{score_of}
use Rattle.ref_play.specs.Directions.{is_wanted}
use Rattle.ref_play.specs.Best.{Given}
use Rattle.gen_line.specs.Walk.{Took, add_all}
use Rattle.gen_sinks.specs.Sinks.{seen}
use Rattle.gen_moves.specs.LineTiles.{line_tiles, tiles_of}
use Rattle.gen_moves.specs.Findings.{reported}
use Rattle.gen_moves.specs.Reporting.{report, PlayIs}

abbrev reported_as : Rules → List (Option Tile) → Dir → ℕ → List ℕ → Given
reported_as rules board d line y =
    record { dir = d; tiles = tiles_of d line y; score = pos (score_of rules board (tiles_of d line y)) }

abbrev wants : List (Option Tile) → Dir → ℕ → List ℕ → Bool
wants board d line y = is_wanted board d (tiles_of d line y)

reported_by : (rules : Rules) (board : List (Option Tile)) (d : Dir) (line : ℕ) (y : List ℕ) (b : Bool) → wants board d line y ≡ b → reported rules board d line y ≡ (if b then reported_as rules board d line y ∷ [] else [])
unfolding reported
reported_by rules board d line y b e = ap (λ (c : Bool). if c then reported_as rules board d line y ∷ [] else []) e

-- nothing is given for entries whose play is not wanted
pub report_none : (rules : Rules) (board : List (Option Tile)) (d : Dir) (line : ℕ) (add : List Given → Given → List Given) (items : List Given) (y : List ℕ) → PlayIs board d line (line_tiles y) None → items ≡ report rules board d line add items y
report_none rules board d line add items y none = sym (ap (add_all add items) (reported_by rules board d line y false none))

-- and for others the play
report_one : (rules : Rules) (board : List (Option Tile)) (d : Dir) (line : ℕ) (add : List Given → Given → List Given) (items : List Given) (y : List ℕ) (play : Play) (points : ℤ) → PlayIs board d line (line_tiles y) (Some play)
    → points ≡ pos (score_of rules board play.tiles.items) → report rules board d line add items y ≡ add items (seen play points)
report_one rules board d line add items y play points is score =
    let made : Given = seen play points in
    let same : reported_as rules board d line y ≡ made =
    sym
    (ap (λ (e : Dir). let g : Given = record { dir = e; tiles = play.tiles.items; score = points } in g) is.1
    ∙ ap (λ (p : ℤ). let g : Given = record { dir = d; tiles = play.tiles.items; score = p } in g) score
    ∙ ap (λ (ps : List Placed). let g : Given = record { dir = d; tiles = ps; score = pos (score_of rules board ps) } in g) is.2) in
    ap (add_all add items) (reported_by rules board d line y true is.0) ∙ ap (add items) same

pub took_one : {U E : Type 0} (r : Result U E) (rules : Rules) (board : List (Option Tile)) (d : Dir) (line : ℕ) (add : List Given → Given → List Given) (old new : List Given) (y : List ℕ) (play : Play) (points : ℤ)
    → PlayIs board d line (line_tiles y) (Some play) → points ≡ pos (score_of rules board play.tiles.items) → OnOk r (new ≡ add old (seen play points)) → OnErr r (new ≡ old)
    → Took (report rules board d line add) old (y ∷ []) new r
took_one (Ok u) rules board d line add old new y play points is score taken refused = taken ∙ sym (report_one rules board d line add old y play points is score)
took_one (Err why) rules board d line add old new y play points is score taken refused =
    record { front = []; rest = y ∷ []; parts = refl; items = refused }
