-- What a token is, by what its word says.
use Rattle.std.proofs.Common.{◌≡◌, ℕ, Bool, true, false, List, refl, sym, ap, ◌∙◌}
use Rattle.std.specs.Prelude.{◌&&◌}
use Rattle.std.specs.Str.{bytes_eq}
use Rattle.std.proofs.lemmas.Bool.{and_parts}
use Rattle.std.proofs.lemmas.Slice.Eq.{bytes_eq-Decides}
use Rattle.plus_tokens.specs.declared.token.Kind.{Kind}
use Rattle.plus_tokens.specs.declared.token.Kind.TheVariants as kinds
use Rattle.plus_tokens.specs.declared.token.Op.{Op}
use Rattle.plus_tokens.specs.declared.token.Op.TheVariants as ops
use Rattle.plus_tokens.specs.Items.{Piece}
use Rattle.plus_parser.specs.Phrases.Words.{is_name, is_keyword, is_plain_head, op_head, kind_head, is_word}
use Rattle.plus_parser.specs.Phrases.Spells.{IsName, IsWord, IsPlain}

plain_op : (op : Op) → is_plain_head (op_head op) ≡ true → ⊥
plain_op ops.Less e = cc
plain_op ops.AtMost e = cc
plain_op ops.Equal e = cc
plain_op ops.AtLeast e = cc
plain_op ops.Greater e = cc
plain_op _ e = cc

plain_kind : (k : Kind) (w : List ℕ) → is_plain_head (kind_head k w) ≡ true → k ≡ kinds.Name
plain_kind kinds.Name w e = refl
plain_kind (kinds.Op op) w e = absurd (plain_op op e)
plain_kind _ w e = absurd cc

pub plain_name : (p : Piece) → IsPlain p → IsName p
plain_name p e = plain_kind p.kind p.word e

pub name_kind : (k : Kind) → is_name k ≡ true → k ≡ kinds.Name
name_kind kinds.Name e = refl
name_kind _ e = absurd cc

pub word_is : (w : List ℕ) (p : Piece) → is_word w p ≡ true → IsWord w p
word_is w p e =
    let both = and_parts (is_name p.kind) (bytes_eq p.word w) e in (name_kind p.kind both.0, (bytes_eq-Decides p.word w).0 both.1)

pub word_fits : (w : List ℕ) (p : Piece) → IsWord w p → is_word w p ≡ true
word_fits w p h = ap (λ k. is_name k && bytes_eq p.word w) h.0 ∙ (bytes_eq-Decides p.word w).1 h.1

pub keyword_is : (k : Kind) → is_keyword k ≡ true → k ≡ kinds.Keyword
keyword_is kinds.Keyword e = refl
keyword_is _ e = absurd cc

-- what is said by a keyword alone is said of a keyword
pub keyword_says : {A : Type 0} (of : Piece → A) (other : A) → ((p : Piece) → is_keyword p.kind ≡ false → of p ≡ other) → (p : Piece) (h : A) → of p ≡ h → (other ≡ h → ⊥) → p.kind ≡ kinds.Keyword
keyword_says of other else_other p h e apart = at_test (is_keyword p.kind) refl
  where
    at_test : (b : Bool) → is_keyword p.kind ≡ b → p.kind ≡ kinds.Keyword
    at_test true k = keyword_is p.kind k
    at_test false k = absurd (apart (sym (else_other p k) ∙ e))
