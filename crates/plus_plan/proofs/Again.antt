-- What is spelled is read.
use Rattle.std.proofs.Common.{arith, ◌^◌, ◌≤◌, ◌≡◌, ℕ, ◌<◌, List, [], ◌∷◌, ◌++◌, Ok, refl, sym, ap, ◌∙◌, ⊎_elim}
use Rattle.std.specs.Prelude.{nat_lt, All}
use Rattle.std.proofs.Math.Nat.{pow-le-pow_right}
use Rattle.std.proofs.lemmas.Bool.{cond-true, lt-ltb}
use Rattle.std.proofs.lemmas.List.Elements.{All-head, All-tail}
use Rattle.plus_tokens.specs.declared.token.Kind.{Kind}
use Rattle.plus_tokens.specs.declared.token.Kind.TheVariants as kinds
use Rattle.plus_tokens.specs.declared.span.Span.{Span}
use Rattle.plus_tree.specs.declared.trees.Call.{Call}
use Rattle.plus_plan.specs.declared.forms.Time.{Time}
use Rattle.plus_plan.specs.declared.forms.Line.{Line}
use Rattle.plus_plan.specs.declared.forms.Line.TheVariants as lines
use Rattle.plus_plan.specs.declared.forms.PlanForm.{PlanForm}
use Rattle.plus_plan.specs.declared.forms.PlanForm.TheVariants.{Timed, Untimed}
use Rattle.plus_tokens.specs.Items.{Piece, Item, tok}
use Rattle.plus_plan.specs.Reading.{◌>>=◌, Read, next_of}
use Rattle.plus_plan.specs.Grammar.{around, time, as_colon, colon_of, as_divisor, divisor_of, quotient_of, time_with, time_behind, time_of, as_name, name_of, with_name, args_with, args_of, call_of, end_of, as_number, number_of, as_close_square, close_square_of, duration_with, duration_of, timed_with, timed_line, untimed_with, untimed_line, line_of}
use Rattle.plus_plan.specs.Spells.{IsUnsigned, SpellsDecimal, SpellsQuotient, SpellsTime, IsName, SpellsCall, SpellsDuration, SpellsTimed, SpellsUntimed, SpellsTokens}
use Rattle.plus_plan.proofs.Found.{toks, toks-append, words_of}

-- ---- the time

colon_again : (p : Piece) (rest : List Item) → p.kind ≡ kinds.Colon → colon_of (tok p ∷ rest) ≡ Ok (tt, rest)
unfolding colon_of
colon_again p rest e = ap (as_colon p.span rest) e

divisor_again : (p : Piece) (rest : List Item) (d : ℕ) → IsUnsigned d 0 p → 0 < d → divisor_of (tok p ∷ rest) ≡ Ok ((d, p.span), rest)
unfolding divisor_of
divisor_again p rest d e lt = ap (as_divisor p.span rest) e ∙ cond-true (nat_lt 0 d) _ _ (lt-ltb 0 d lt)

quotient_again : (d : ℕ) (front : Span) (q colon : Piece) (rest : List Item) (bottom : ℕ) → IsUnsigned bottom 0 q → 0 < bottom → colon.kind ≡ kinds.Colon → quotient_of d front (tok q ∷ tok colon ∷ rest) ≡ Ok (time d bottom (around front q.span), rest)
unfolding quotient_of
quotient_again d front q colon rest bottom e lt c = rw (divisor_again q (tok colon ∷ rest) bottom e lt, colon_again colon rest c) refl

-- the time, behind its first token, and its colon
decimal_again : (t : Time) (ts : List Piece) (colon : Piece) (rest : List Item) → SpellsDecimal t ts → colon.kind ≡ kinds.Colon → (p : Piece) × (inner : List Piece) × (ts ≡ p ∷ inner) × (time_of p (toks inner (tok colon ∷ rest)) ≡ Ok (t, rest))
unfolding time_of
decimal_again t ts colon rest h c = (
  h.0,
  [],
  h.5,
  ap (time_behind h.0.span (tok colon ∷ rest)) h.3
      ∙ ap (time_with h.1 h.2 h.0.span colon.span rest) c
      ∙ ap (λ x. Ok (x, rest)) (sym h.4),
)

quotient_time_again : (t : Time) (ts : List Piece) (colon : Piece) (rest : List Item) → SpellsQuotient t ts → colon.kind ≡ kinds.Colon → (p : Piece) × (inner : List Piece) × (ts ≡ p ∷ inner) × (time_of p (toks inner (tok colon ∷ rest)) ≡ Ok (t, rest))
unfolding time_of
quotient_time_again t ts colon rest h c = (
  h.0,
  h.1 ∷ h.2 ∷ [],
  h.10,
  ap (time_behind h.0.span (tok h.1 ∷ tok h.2 ∷ tok colon ∷ rest)) h.5
      ∙ ap (time_with h.3 0 h.0.span h.1.span (tok h.2 ∷ tok colon ∷ rest)) h.6
      ∙ quotient_again h.3 h.0.span h.2 colon rest h.4 h.7 h.8 c
      ∙ ap (λ x. Ok (x, rest)) (sym h.9),
)

time_again : (t : Time) (ts : List Piece) (colon : Piece) (rest : List Item) → SpellsTime t ts → colon.kind ≡ kinds.Colon → (p : Piece) × (inner : List Piece) × (ts ≡ p ∷ inner) × (time_of p (toks inner (tok colon ∷ rest)) ≡ Ok (t, rest))
time_again t ts colon rest h c = ⊎_elim (λ d. decimal_again t ts colon rest d c) (λ q. quotient_time_again t ts colon rest q c) h

decimal_above : (t : Time) (ts : List Piece) → SpellsDecimal t ts → 0 < t.bottom
decimal_above t ts h =
    let one : 10 ^ 0 ≤ 10 ^ h.2 = pow-le-pow_right {n = 10} (omega arith) {i = 0} {j = h.2} (omega arith) in
    let e : t.bottom ≡ 10 ^ h.2 = ap (λ (x : Time). x.bottom) h.4 in
    omega (arith, one, e)

quotient_above : (t : Time) (ts : List Piece) → SpellsQuotient t ts → 0 < t.bottom
quotient_above t ts h = let e : t.bottom ≡ h.4 = ap (λ (x : Time). x.bottom) h.9 in omega (arith, h.8, e)

-- the bottom of a time is above 0
pub time_above : (t : Time) (ts : List Piece) → SpellsTime t ts → 0 < t.bottom
time_above t ts h = ⊎_elim (decimal_above t ts) (quotient_above t ts) h

-- ---- the call

name_again : (p : Piece) (rest : List Item) → IsName p → name_of (tok p ∷ rest) ≡ Ok (p.word, rest)
unfolding name_of
name_again p rest e = ap (as_name p rest) e

pub args_again : (args : List Piece) (last : Piece) (rest : List Item) → All IsName args → last.kind ≡ kinds.Close → args_of (toks args (tok last ∷ rest)) ≡ Ok (words_of args, rest)
unfolding args_of
args_again [] last rest names c = ap (args_with last rest (args_of rest)) c
args_again (p ∷ args) last rest names c =
    ap (args_with p (toks args (tok last ∷ rest)) (args_of (toks args (tok last ∷ rest)))) (All-head IsName p args names)
    ∙ ap (with_name p.word) (args_again args last rest (All-tail IsName p args names) c)

pub call_again : (c : Call) (ts : List Piece) (rest : List Item) → SpellsCall c ts → (first : Piece) × (inner : List Piece) × (first.kind ≡ kinds.Open) × (ts ≡ first ∷ inner) × (call_of (toks inner rest) ≡ Ok (c, rest))
unfolding call_of
call_again c ts rest h =
    let behind = toks h.args (tok h.last ∷ rest) in
    let split : toks (h.args ++ h.last ∷ []) rest ≡ behind = toks-append h.args (h.last ∷ []) rest in (
      h.first,
      h.name ∷ (h.args ++ h.last ∷ []),
      h.opens,
      h.whole,
      rw (split, name_again h.name behind h.named, args_again h.args h.last rest h.names h.closes) (ap (λ (x : Call). Ok (x, rest)) (sym h.is)),
    )

-- ---- the end of the line

end_again : end_of [] ≡ Ok (tt, [])
unfolding end_of
end_again = refl

duration_none : duration_of [] ≡ Ok (tt, [])
unfolding duration_of
duration_none = refl

duration_some : (first p last : Piece) → first.kind ≡ kinds.OpenSquare → p.kind ≡ kinds.Number → last.kind ≡ kinds.CloseSquare → duration_of (tok first ∷ tok p ∷ tok last ∷ []) ≡ Ok (tt, [])
unfolding duration_of number_of close_square_of end_of
duration_some first p last o n c =
    ap (duration_with first.span (tok p ∷ tok last ∷ [])) o
    ∙ ap (λ (k : Kind). as_number p.span (tok last ∷ []) k >>= λ n. close_square_of n.1 >>= λ c. end_of c.1) n
    ∙ ap (λ (k : Kind). as_close_square last.span [] k >>= λ c. end_of c.1) c

duration_again : (ts : List Piece) → SpellsDuration ts → duration_of (toks ts []) ≡ Ok (tt, [])
duration_again ts h =
    ⊎_elim (λ e. ap (λ (ps : List Piece). duration_of (toks ps [])) e ∙ duration_none)
    (λ s. ap (λ (ps : List Piece). duration_of (toks ps [])) s.6 ∙ duration_some s.0 s.1 s.2 s.3 s.4 s.5) h

-- ---- the line

act_again : (n m : ℕ) (t : Time) (c : Call) (ts : List Piece) → SpellsTimed n (lines.Act m t c) ts → timed_line n (toks ts []) ≡ Ok (lines.Act m t c)
unfolding timed_line
act_again n m t c ts h =
    let x = call_again c h.2 (toks h.3 []) h.7 in
    let a = time_again t h.0 h.1 (toks h.2 (toks h.3 [])) h.5 h.6 in
    let split : toks ts [] ≡ tok a.0 ∷ toks a.1 (tok h.1 ∷ tok x.0 ∷ toks x.1 (toks h.3 [])) =
    ap (λ (ps : List Piece). toks ps []) h.9
    ∙ toks-append h.0 (h.1 ∷ (h.2 ++ h.3)) []
    ∙ ap (λ (is : List Item). toks h.0 (tok h.1 ∷ is)) (toks-append h.2 h.3 [])
    ∙ ap (λ (ps : List Piece). toks ps (tok h.1 ∷ toks h.2 (toks h.3 []))) a.2
    ∙ ap (λ (ps : List Piece). tok a.0 ∷ toks a.1 (tok h.1 ∷ toks ps (toks h.3 []))) x.3 in
    let read : time_of a.0 (toks a.1 (tok h.1 ∷ tok x.0 ∷ toks x.1 (toks h.3 []))) ≡ Ok (t, tok x.0 ∷ toks x.1 (toks h.3 [])) =
    ap (λ (ps : List Piece). time_of a.0 (toks a.1 (tok h.1 ∷ toks ps (toks h.3 [])))) (sym x.3)
    ∙ a.3
    ∙ ap (λ (ps : List Piece). Ok (t, toks ps (toks h.3 []))) x.3 in
    ap (timed_line n) split
    ∙ ap (λ (r : Read Time). r >>= λ t. next_of t.1 >>= λ f. timed_with n t.0 f.0.span f.1 f.0.kind) read
    ∙ ap (timed_with n t x.0.span (toks x.1 (toks h.3 []))) x.2
    ∙ rw (x.4, duration_again h.3 h.8) (ap (λ k. Ok (lines.Act k t c)) (sym h.4))

end_line_again : (n m : ℕ) (t : Time) (ts : List Piece) → SpellsTimed n (lines.End m t) ts → timed_line n (toks ts []) ≡ Ok (lines.End m t)
unfolding timed_line
end_line_again n m t ts h =
    let a = time_again t h.0 h.1 (tok h.2 ∷ []) h.4 h.5 in
    let split : toks ts [] ≡ tok a.0 ∷ toks a.1 (tok h.1 ∷ tok h.2 ∷ []) =
    ap (λ (ps : List Piece). toks ps []) h.7
    ∙ toks-append h.0 (h.1 ∷ h.2 ∷ []) []
    ∙ ap (λ (ps : List Piece). toks ps (tok h.1 ∷ tok h.2 ∷ [])) a.2 in
    ap (timed_line n) split
    ∙ ap (λ (r : Read Time). r >>= λ t. next_of t.1 >>= λ f. timed_with n t.0 f.0.span f.1 f.0.kind) a.3
    ∙ ap (timed_with n t h.2.span []) h.6
    ∙ rw end_again (ap (λ k. Ok (lines.End k t)) (sym h.3))

blank_again : (n : ℕ) (ts : List Piece) → ts ≡ [] → timed_line n (toks ts []) ≡ Ok lines.Blank
unfolding timed_line
blank_again n ts e = ap (λ (ps : List Piece). timed_line n (toks ps [])) e

timed_again : (n : ℕ) (l : Line) (ts : List Piece) → SpellsTimed n l ts → timed_line n (toks ts []) ≡ Ok l
timed_again n lines.Blank ts h = blank_again n ts h
timed_again n (lines.Act m t c) ts h = act_again n m t c ts h
timed_again n (lines.End m t) ts h = end_line_again n m t ts h
timed_again n (lines.Step m c) ts h = absurd h

step_again : (n m : ℕ) (c : Call) (ts : List Piece) → SpellsUntimed n (lines.Step m c) ts → untimed_line n (toks ts []) ≡ Ok (lines.Step m c)
unfolding untimed_line
step_again n m c ts h =
    let x = call_again c ts [] h.1 in
    ap (λ (ps : List Piece). untimed_line n (toks ps [])) x.3
    ∙ ap (untimed_with n x.0.span (toks x.1 [])) x.2
    ∙ rw (x.4, end_again) (ap (λ k. Ok (lines.Step k c)) (sym h.0))

no_step_again : (n : ℕ) (ts : List Piece) → ts ≡ [] → untimed_line n (toks ts []) ≡ Ok lines.Blank
unfolding untimed_line
no_step_again n ts e = ap (λ (ps : List Piece). untimed_line n (toks ps [])) e

untimed_again : (n : ℕ) (l : Line) (ts : List Piece) → SpellsUntimed n l ts → untimed_line n (toks ts []) ≡ Ok l
untimed_again n lines.Blank ts h = no_step_again n ts h
untimed_again n (lines.Step m c) ts h = step_again n m c ts h
untimed_again n (lines.Act m t c) ts h = absurd h
untimed_again n (lines.End m t) ts h = absurd h

pub line_again : (form : PlanForm) (n : ℕ) (l : Line) (ts : List Piece) → SpellsTokens form n l ts → line_of form n (toks ts []) ≡ Ok l
line_again Timed n l ts h = timed_again n l ts h
line_again Untimed n l ts h = untimed_again n l ts h
