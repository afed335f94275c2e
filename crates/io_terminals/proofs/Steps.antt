-- What is shown, byte by byte.
use Rattle.std.proofs.Common.{◌≡◌, ℕ, suc, ◌+◌, List, [], ◌++◌, length, refl, ap, ◌∙◌, arith}
use Rattle.io_terminals.specs.Showing.{shown_at, shown_to, shown}

pub none_shown : (bytes : List ℕ) → [] ≡ shown_to bytes 0
unfolding shown_to
none_shown bytes = refl

pub more_shown : (bytes out : List ℕ) (place : ℕ) (more : List ℕ) → out ≡ shown_to bytes place → more ≡ out ++ shown_at bytes place → more ≡ shown_to bytes (place + 1)
unfolding shown_to
more_shown bytes out place more so_far is =
    let next : suc place ≡ place + 1 = omega arith in
    is ∙ ap (λ l. l ++ shown_at bytes place) so_far ∙ ap (shown_to bytes) next

pub all_shown : (bytes out : List ℕ) (place : ℕ) → place ≡ length bytes → out ≡ shown_to bytes place → out ≡ shown bytes
all_shown bytes out place last is = is ∙ ap (shown_to bytes) last
