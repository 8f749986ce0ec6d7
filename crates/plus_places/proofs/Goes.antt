-- The table on the tokens of a text, with room for so many more parentheses: what is left of them behind the last symbol,
-- or the first that is refused.
use Rattle.std.specs.Prelude.{ℕ, suc, ◌-◌, ◌==◌, ◌&&◌, List, [], ◌∷◌, ◌++◌, Some, None, Result, Ok, Err, if◌then◌else◌}
use Rattle.plus_tokens.specs.declared.token.Kind.{Kind}
use Rattle.plus_tokens.specs.declared.token.Kind.TheVariants as kinds
use Rattle.plus_tree.specs.declared.faults.TextFault.{TextFault}
use Rattle.plus_tree.specs.declared.faults.TextFault.TheVariants as faults
use Rattle.plus_tokens.specs.Items.{Piece, Item, tok, bad}
use Rattle.plus_parser.specs.Phrases.Reading.{is_open}
use Rattle.plus_places.specs.declared.symbols.Symbol.{Symbol}
use Rattle.plus_places.specs.Table.{Wanted, step}

abbrev pub room_next : Kind → ℕ → ℕ
room_next kinds.Open room = room - 1
room_next kinds.Close room = suc room
room_next _ room = room

abbrev pub Rest : Type 0
Rest = Result (List Item) TextFault

abbrev pub taken : Wanted → Piece → (List Symbol → Rest) → Rest
taken None p more = Err (faults.Form p.span)
taken (Some ks) p more = more ks

unfoldable pub goes : ℕ → List Symbol → List Item → Rest
goes room [] items = Ok items
goes room (s ∷ st) [] = Err faults.Unclosed
goes room (s ∷ st) (bad f ∷ rest) = Err (faults.Lex f)
goes room (s ∷ st) (tok p ∷ rest) =
    if is_open p.kind && (room == 0) then Err (faults.Depth p.span.start)
    else taken (step s p) p (λ ks. goes (room_next p.kind room) (ks ++ st) rest)
