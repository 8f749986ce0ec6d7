-- The tokens of a whole line, whose bytes read as tokens wherever they stand.
use Rattle.std.proofs.Common.{◌≡◌, ℕ, ◌+◌, List, [], length, drop, None, Ok, sym, ap, ◌∙◌, arith, inl}
use Rattle.std.specs.Prelude.{map}
use Rattle.std.proofs.lemmas.List.{append-nil, drop_all}
use Rattle.plus_tokens.specs.First.{first_token}
use Rattle.plus_tokens.specs.Items.{Piece, tok, items_at, items_of}
use Rattle.plus_tokens.proofs.Items.{at_none}
use Rattle.plus_tokens.proofs.Read.{none}
use Rattle.plus_parser.proofs.PhraseLemmas.Tokens.{toks, toks_all}
use Rattle.plus_canonical.proofs.Lexes.{Ended, at_end, Reads}

nothing_behind : (text : List ℕ) → first_token text (length text) ≡ Ok None
nothing_behind text =
    let left : drop (length text) text ≡ [] = drop_all (length text) text (omega arith) in
    (none text (length text)).1 (inl ([], tt, left))

-- the tokens of a line that reads
pub record Whole (bytes : List ℕ) (P : List Piece → Type 0) : Type 0 where
  pub ts : List Piece
  pub are : P ts
  pub items : items_of bytes ≡ map tok ts

pub whole : {P : List Piece → Type 0} (bytes : List ℕ) → Reads Ended bytes P → Whole bytes P
whole bytes r =
    let x = r bytes 0 [] (omega arith) (sym (append-nil bytes)) at_end in
    let n : 0 + length bytes ≡ length bytes = omega arith in
    record {
      ts = x.ts;
      are = x.are;
      items = x.items ∙ ap (toks x.ts) (ap (items_at bytes) n ∙ at_none bytes (length bytes) (omega arith) (nothing_behind bytes)) ∙ toks_all x.ts;
    }
