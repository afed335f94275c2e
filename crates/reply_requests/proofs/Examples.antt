-- Requests and refusals as the definitions give them, computed.
use Rattle.std.proofs.Common.{◌≡◌, inl, inr, ℕ, true, false, List, codes, Some, None, refl, sym, subst}
use Rattle.std.specs.Borrow.{Bor}
use Rattle.serde_json.specs.Data.{Data, unsigned, null, boolean, number, string, array, object, Members, no_members, member, no_items}
use Rattle.serde_json.proofs.OnLiterals.{serde_json_on_literals}
use Rattle.reply_requests.specs.declared.commands.Command.TheVariants as command
use Rattle.reply_requests.specs.declared.refusals.Refusal.TheVariants as refusal
use Rattle.reply_requests.specs.declared.requests.Request.TheVariants as request
use Rattle.reply_requests.specs.Said.{text_said}
use Rattle.reply_requests.specs.Asked.{IsRequestIn, HasOnlyKeysOf, MayHave}
use Rattle.reply_requests.specs.Reasons.{IsReason, IsReasonOfId}

-- an object that asks for this command
abbrev asking : (name : List ℕ) → Members → Data
asking name more = object (member (codes "do") (string name) more)

-- {"do": "board", "game": "A", "line": 3}
abbrev a_board : Data
a_board = asking (codes "board") (member (codes "game") (string (codes "A")) (member (codes "line") (number (unsigned 3)) no_members))

its_keys : HasOnlyKeysOf command.Board a_board
its_keys key (inl is) = inr (inl is)
its_keys key (inr (inl is)) = inr (inr (inl is))
its_keys key (inr (inr (inl is))) = inr (inr (inr (inl is)))
its_keys key (inr (inr (inr none))) = absurd none

board_is_asked_for : (game : Bor (List ℕ)) → game.now ≡ codes "A" → IsRequestIn a_board (request.Board game (Some 3) false)
unfolding serde_json_on_literals
board_is_asked_for game is =
    record { named = refl; keys = its_keys; says = (subst (λ text. text_said (codes "game") a_board ≡ Some (Some text)) (sym is) refl, refl, (None, refl, refl)) }

-- {"do": "board", "draft": true, "game": "A"}: the board of a draft
abbrev a_draft : Data
a_draft = asking (codes "board") (member (codes "draft") (boolean true) (member (codes "game") (string (codes "A")) no_members))

draft_keys : HasOnlyKeysOf command.Board a_draft
draft_keys key (inl is) = inr (inl is)
draft_keys key (inr (inl is)) = inr (inr (inr (inr (inl is))))
draft_keys key (inr (inr (inl is))) = inr (inr (inl is))
draft_keys key (inr (inr (inr none))) = absurd none

draft_is_asked_for : (game : Bor (List ℕ)) → game.now ≡ codes "A" → IsRequestIn a_draft (request.Board game None true)
unfolding serde_json_on_literals
draft_is_asked_for game is =
    record { named = refl; keys = draft_keys; says = (subst (λ text. text_said (codes "game") a_draft ≡ Some (Some text)) (sym is) refl, refl, (Some true, refl, refl)) }

-- {"do": "board", "settle": true}: a board has no `settle`; and a game is missing
abbrev settled_board : Data
settled_board = asking (codes "board") (member (codes "settle") (boolean true) no_members)

no_settle : MayHave command.Board (codes "settle") → ⊥
no_settle (inl is) = cc
no_settle (inr (inl is)) = cc
no_settle (inr (inr (inl is))) = cc
no_settle (inr (inr (inr (inl is)))) = cc
no_settle (inr (inr (inr (inr (inl is))))) = cc
no_settle (inr (inr (inr (inr (inr none))))) = absurd none

settle_is_refused : (key : Bor (List ℕ)) → key.now ≡ codes "settle" → IsReason settled_board (refusal.NoSuchKey command.Board key)
unfolding serde_json_on_literals
settle_is_refused key is = inr (inr (command.Board, refl, inl (key, refl, inr (inl (sym is)), λ may. no_settle (subst (MayHave command.Board) is may))))

game_is_missing : (key : Bor (List ℕ)) → key.now ≡ codes "game" → IsReason settled_board (refusal.Missing command.Board key)
unfolding serde_json_on_literals
game_is_missing key is = inr (inr (command.Board, refl, inr (inl (inr (key, refl, is, refl)))))

-- {"do": "top", "game": "A", "rack": null}: null counts as missing
rack_is_missing : (key : Bor (List ℕ)) → key.now ≡ codes "rack or line"
    → IsReason (asking (codes "top") (member (codes "game") (string (codes "A")) (member (codes "rack") null no_members))) (refusal.Missing command.Top key)
unfolding serde_json_on_literals
rack_is_missing key is = inr (inr (command.Top, refl, inr (inr (inr (inr (inr (key, refl, is, refl, refl)))))))

-- {"do": "word", "words": []}: no word is asked about
words_are_missing : (key : Bor (List ℕ)) → key.now ≡ codes "words"
    → IsReason (asking (codes "word") (member (codes "words") (array no_items) no_members)) (refusal.Missing command.Word key)
unfolding serde_json_on_literals
words_are_missing key is = inr (inr (command.Word, refl, inr (inr (inl (key, refl, is, inr refl)))))

-- []: no object; and {}: an object that names no command
no_object : IsReason (array no_items) refusal.NoObject
no_object = inl (inl (refl, refl))

no_command : IsReason (object no_members) refusal.NoCommand
no_command = inl (inr (inl (refl, refl)))

-- {"id": true}: neither a text nor a number
no_id : IsReasonOfId (object (member (codes "id") (boolean true) no_members)) refusal.NoId
unfolding serde_json_on_literals
no_id = (refl, (boolean true, refl, refl))
