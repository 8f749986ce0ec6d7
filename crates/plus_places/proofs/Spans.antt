-- Where a token stands says nothing of what it spells.
use Rattle.std.proofs.Common.{◌≡◌, ℕ, ◌+◌, List, [], ◌∷◌, ◌++◌, length, Option, Some, None, refl, ap, ◌∙◌}
use Rattle.std.specs.Prelude.{◌&&◌, is_some, if◌then◌else◌}
use Rattle.plus_tokens.specs.declared.token.Kind.{Kind}
use Rattle.plus_tokens.specs.declared.span.Span.{Span}
use Rattle.plus_tokens.specs.declared.numeral.Numeral.{Numeral}
use Rattle.plus_tokens.specs.Numeral.{kind_numeral}
use Rattle.plus_tokens.specs.Items.{Piece}
use Rattle.plus_parser.specs.Phrases.Literals.{kind_literal, numeral_literal}
use Rattle.plus_parser.specs.Phrases.Words.{is_term}
use Rattle.plus_places.specs.declared.symbols.Symbol.{Symbol}
use Rattle.plus_places.specs.declared.symbols.Symbol.TheVariants as sy
use Rattle.plus_places.specs.Table.{Wanted, accept, close_or, expr_kind, step, run_with, run}
use Rattle.plus_places.proofs.Texts.{put, placed}

numeral_same : (n : Option Numeral) (a b : Span) → is_some (numeral_literal n a) ≡ is_some (numeral_literal n b)
numeral_same (Some n) a b = refl
numeral_same None a b = refl

number_same : (k : Kind) (w : List ℕ) (a b : Span) → is_some (kind_literal k w a) ≡ is_some (kind_literal k w b)
unfolding kind_literal
number_same k w a b = numeral_same (kind_numeral k w) a b

expr_same : (k : Kind) (w : List ℕ) (a b : Span) (behind : List Symbol) → expr_kind k (is_some (kind_literal k w a)) behind ≡ expr_kind k (is_some (kind_literal k w b)) behind
expr_same k w a b behind = ap (λ n. expr_kind k n behind) (number_same k w a b)

abbrev piece : Kind → List ℕ → Span → Piece
piece k w s = record { kind = k; word = w; span = s }

step_same : (s : Symbol) (k : Kind) (w : List ℕ) (a b : Span) → step s (piece k w a) ≡ step s (piece k w b)
step_same sy.Number k w a b = ap (λ n. accept n []) (number_same k w a b)
step_same sy.Expr k w a b = expr_same k w a b []
step_same sy.Exprs k w a b = ap (close_or k) (expr_same k w a b (sy.Exprs ∷ []))
step_same sy.MinusEnd k w a b = ap (close_or k) (expr_same k w a b (sy.Close ∷ []))
step_same (sy.Compared same) k w a b =
    ap (λ v. if same && is_term k then Some (sy.Term ∷ sy.Close ∷ []) else v) (expr_same k w a b (sy.Expr ∷ sy.Close ∷ []))
step_same _ k w a b = refl

pub run_placed : (ps : List Piece) (at : ℕ) (st : List Symbol) → run st (placed at ps) ≡ run st ps
unfolding run placed
run_placed [] at st = refl
run_placed (p ∷ ps) at [] = refl
run_placed (p ∷ ps) at (s ∷ st) =
    ap (λ w. run_with w (λ ks. run (ks ++ st) (placed (at + 1 + length p.word) ps))) (step_same s p.kind p.word (put at p).span p.span)
    ∙ at_wanted (step s p) (λ ks. run_placed ps (at + 1 + length p.word) (ks ++ st))
  where
    at_wanted : (w : Wanted) → ((ks : List Symbol) → run (ks ++ st) (placed (at + 1 + length p.word) ps) ≡ run (ks ++ st) ps)
        → run_with w (λ ks. run (ks ++ st) (placed (at + 1 + length p.word) ps)) ≡ run_with w (λ ks. run (ks ++ st) ps)
    at_wanted None h = refl
    at_wanted (Some ks) h = h ks
