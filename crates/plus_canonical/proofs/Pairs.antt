-- Forms with a word or a sign and two parts behind it.
use Rattle.std.proofs.Common.{◌≡◌, ℕ, suc, true, List, [], ◌∷◌, ◌++◌, subst, append_assoc}
use Rattle.plus_tokens.specs.declared.token.Kind.{Kind}
use Rattle.plus_tokens.specs.declared.span.Span.{Span}
use Rattle.plus_tokens.specs.Items.{Piece}
use Rattle.plus_parser.specs.Phrases.Spells.{Wrapped}
use Rattle.plus_canonical.proofs.Lexes.{Ended, at_space, Any, Reads, Both, both, turn, join, piece, IsToken}
use Rattle.plus_parser.proofs.PhraseLemmas.Level.{Even, is_flat, even_append}
use Rattle.plus_canonical.proofs.Smalls.{even_form}
use Rattle.plus_canonical.proofs.Forms.{spaced_before, spaced_behind, HeadForm, head_reads}

-- a form whose first token is of this kind, with two parts behind it
pub record PairForm (k : Kind) (w : List ℕ) (A B : List Piece → Type 0) (ts : List Piece) : Type 0 where
  pub span : Span
  pub at : Span
  pub front : List Piece
  pub back : List Piece
  pub front_is : A front
  pub back_is : B back
  pub wrapped : Wrapped span (piece k w at ∷ (front ++ back)) ts

-- what it leaves where both parts leave as much room as they find
pub pair_even : {k : Kind} {w : List ℕ} {A B : List Piece → Type 0} (m : ℕ) (ts : List Piece) (p : PairForm k w A B ts) → is_flat k ≡ true → Even m p.front → Even m p.back → Even (suc m) ts
pair_even {k} {w} m ts p flat a b = even_form m p.span (piece k w p.at) (p.front ++ p.back) ts flat p.wrapped (even_append m p.front p.back a b)

pair_made : {k : Kind} {w : List ℕ} {A B : List Piece → Type 0} (ts : List Piece) → HeadForm k w (Both A B) ts → PairForm k w A B ts
pair_made {k} {w} {A} {B} ts f = of f.body f.body_is f.wrapped where
  of : (body : List Piece) → Both A B body → Wrapped f.span (piece k w f.at ∷ body) ts → PairForm k w A B ts
  of body (both a b p q e) wrapped = record {
    span = f.span;
    at = f.at;
    front = a;
    back = b;
    front_is = p;
    back_is = q;
    wrapped = subst (λ l. Wrapped f.span (piece k w f.at ∷ l) ts) e wrapped;
  }

-- a head with the space behind it, and two parts with a space between them
pub pair_reads : {k : Kind} {w : List ℕ} {A B : List Piece → Type 0} (head a b : List ℕ) → Reads Ended head (IsToken k w) → Reads Ended a A → Reads Ended b B
    → Reads Any (40 ∷ ((head ++ 32 ∷ []) ++ (a ++ (32 ∷ (b ++ 41 ∷ []))))) (PairForm k w A B)
pair_reads {k} {w} {A} {B} head a b h x y =
    subst (λ l. Reads Any (40 ∷ ((head ++ 32 ∷ []) ++ l)) (PairForm k w A B)) (append_assoc a (32 ∷ b) (41 ∷ []))
    (turn {after = Any} (40 ∷ ((head ++ 32 ∷ []) ++ ((a ++ (32 ∷ b)) ++ 41 ∷ []))) pair_made
    (head_reads {S = Any} {k = k} {w = w} {B = Both A B} (head ++ 32 ∷ []) (a ++ (32 ∷ b)) (spaced_behind head h)
    (join {S = Ended} {T = Ended} a (32 ∷ b) x (spaced_before {S = Ended} b y) (λ rest ok. at_space)) (λ rest ok. tt)))

-- a head with the space behind it, and one part
pub one_reads : {k : Kind} {w : List ℕ} {A : List Piece → Type 0} (head a : List ℕ) → Reads Ended head (IsToken k w) → Reads Ended a A
    → Reads Any (40 ∷ ((head ++ 32 ∷ []) ++ (a ++ 41 ∷ []))) (HeadForm k w A)
one_reads {k} {w} {A} head a h x = head_reads {S = Any} {k = k} {w = w} {B = A} (head ++ 32 ∷ []) a (spaced_behind head h) x (λ rest ok. tt)
