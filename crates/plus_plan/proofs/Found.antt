-- What is read is spelled so.
use Rattle.std.proofs.Common.{◌≡◌, ℕ, ◌<◌, ◌^◌, Bool, true, false, cond, not, List, [], ◌∷◌, ◌++◌, map, Option, Some, None, Result, Ok, Err, refl, sym, ap, ◌∙◌, inl, inr, arith}
use Rattle.std.specs.Prelude.{◌&&◌, ◌==◌, nat_lt, All}
use Rattle.std.proofs.lemmas.Bool.{and_parts, ltb-true, eqb-true}
use Rattle.std.proofs.lemmas.List.Elements.{All-nil, All-cons}
use Rattle.plus_tokens.specs.declared.token.Kind.{Kind}
use Rattle.plus_tokens.specs.declared.token.Kind.TheVariants as kinds
use Rattle.plus_tokens.specs.declared.token.Op.TheVariants as ops
use Rattle.plus_tokens.specs.declared.span.Span.{Span}
use Rattle.plus_tree.specs.declared.trees.Call.{Call}
use Rattle.plus_plan.specs.declared.forms.Time.{Time}
use Rattle.plus_plan.specs.declared.forms.Line.{Line}
use Rattle.plus_plan.specs.declared.forms.Line.TheVariants as lines
use Rattle.plus_plan.specs.declared.forms.PlanForm.{PlanForm}
use Rattle.plus_plan.specs.declared.forms.PlanForm.TheVariants.{Timed, Untimed}
use Rattle.plus_plan.specs.declared.reader.Refusal.{Refusal}
use Rattle.plus_plan.specs.declared.reader.Refusal.TheVariants as refusals
use Rattle.plus_tokens.specs.Items.{Piece, Item, tok, bad}
use Rattle.plus_tokens.specs.declared.numeral.Numeral.{Numeral}
use Rattle.plus_tokens.specs.Numeral.{numeral, piece_numeral}
use Rattle.plus_plan.specs.Reading.{◌>>=◌, Read, next_of}
use Rattle.plus_plan.specs.Grammar.{around, time, as_colon, colon_of, as_divisor, divisor_of, quotient_of, time_with, time_rest, time_behind, time_of, as_name, name_of, args_with, args_of, call_of, end_of, as_number, number_of, as_close_square, close_square_of, duration_with, duration_of, timed_with, timed_from, timed_line, untimed_with, untimed_line, line_of}
use Rattle.plus_plan.specs.Spells.{IsUnsigned, SpellsTime, IsName, SpellsCall, SpellsDuration, SpellsTokens}

-- tokens, and then more
abbrev pub toks : List Piece → List Item → List Item
toks [] rest = rest
toks (p ∷ ps) rest = tok p ∷ toks ps rest

pub toks-append : (a b : List Piece) (rest : List Item) → toks (a ++ b) rest ≡ toks a (toks b rest)
toks-append [] b rest = refl
toks-append (p ∷ a) b rest = ap (λ is. tok p ∷ is) (toks-append a b rest)

pub toks-all : (ts : List Piece) → toks ts [] ≡ map tok ts
toks-all [] = refl
toks-all (p ∷ ps) = ap (λ is. tok p ∷ is) (toks-all ps)

pub bind_ok : {A B : Type 0} (r : Result A Refusal) (f : A → Result B Refusal) (y : B) → (r >>= f) ≡ Ok y → (x : A) × (r ≡ Ok x) × (f x ≡ Ok y)
bind_ok (Ok x) f y e = (x, refl, e)
bind_ok (Err d) f y e = absurd cc

abbrev pub done : {A : Type 0} → A → Result A Refusal
done x = Ok x

pub ok_is : {A : Type 0} (x y : A) → done x ≡ done y → x ≡ y
ok_is x y e = cc

-- what a step took from the front: a value and what is left
pub rest_is : {A : Type 0} (x y : A) (r rest : List Item) → done {A = A × List Item} (x, r) ≡ done {A = A × List Item} (y, rest) → r ≡ rest
rest_is {A} x y r rest e = ap (λ (z : A × List Item). z.1) (ok_is (x, r) (y, rest) e)

pub value_is : {A : Type 0} (x y : A) (r rest : List Item) → done {A = A × List Item} (x, r) ≡ done {A = A × List Item} (y, rest) → x ≡ y
value_is {A} x y r rest e = ap (λ (z : A × List Item). z.0) (ok_is (x, r) (y, rest) e)

-- a token was read, and then this was answered
pub after_next : {B : Type 0} (items : List Item) (f : Piece → List Item → Result B Refusal) (y : B) → (next_of items >>= λ p. f p.0 p.1) ≡ Ok y → (p : Piece) × (rest : List Item) × (items ≡ tok p ∷ rest) × (f p rest ≡ Ok y)
after_next [] f y e = absurd cc
after_next (bad g ∷ rest) f y e = absurd cc
after_next (tok p ∷ rest) f y e = (p, rest, refl, e)

-- ---- the time

as_colon_ok : (s : Span) (r rest : List Item) (u : Unit {0}) (k : Kind) → as_colon s r k ≡ Ok (u, rest) → (k ≡ kinds.Colon) × (r ≡ rest)
as_colon_ok s r rest u kinds.Colon e = (refl, rest_is tt u r rest e)
as_colon_ok s r rest u _ e = absurd cc

colon_ok : (items rest : List Item) (u : Unit {0}) → colon_of items ≡ Ok (u, rest) → (p : Piece) × (p.kind ≡ kinds.Colon) × (items ≡ tok p ∷ rest)
unfolding colon_of
colon_ok items rest u e =
    let a = after_next items (λ (p : Piece) (r : List Item). as_colon p.span r p.kind) (u, rest) e in
    let b = as_colon_ok a.0.span a.1 rest u a.0.kind a.3 in
    (a.0, b.0, a.2 ∙ ap (λ r. tok a.0 ∷ r) b.1)

is_false : (b : Bool) → not b ≡ true → b ≡ false
is_false true e = sym e
is_false false e = refl

numeral_is : (n : Numeral) (negative : Bool) (digits places : ℕ) → n.negative ≡ negative → n.digits ≡ digits → n.places ≡ places → Some n ≡ Some (numeral negative digits places)
numeral_is n negative digits places a b c = λ i. Some (record { negative = a i; digits = b i; places = c i })

-- what a divisor is
record Divisor (n : Option Numeral) (s : Span) (r : List Item) (d : ℕ) (t : Span) (rest : List Item) : Type 0 where
  is : n ≡ Some (numeral false d 0)
  above : 0 < d
  place : s ≡ t
  left : r ≡ rest

as_divisor_ok : (s t : Span) (r rest : List Item) (d : ℕ) (o : Option Numeral) → as_divisor s r o ≡ Ok ((d, t), rest) → Divisor o s r d t rest
as_divisor_ok s t r rest d None e = absurd cc
as_divisor_ok s t r rest d (Some n) e = at_test ((not n.negative && (n.places == 0)) && nat_lt 0 n.digits) refl e
  where
    at_test : (b : Bool) → ((not n.negative && (n.places == 0)) && nat_lt 0 n.digits) ≡ b → cond {A = Read (ℕ × Span)} b (Ok ((n.digits, s), r)) (Err (refusals.At s)) ≡ Ok ((d, t), rest) → Divisor (Some n) s r d t rest
    at_test true h e =
        let both = and_parts (not n.negative && (n.places == 0)) (nat_lt 0 n.digits) h in
        let first = and_parts (not n.negative) (n.places == 0) both.0 in
        let v = value_is (n.digits, s) (d, t) r rest e in
        let same : n.digits ≡ d = ap (λ (z : ℕ × Span). z.0) v in
        let lt : 0 < n.digits = ltb-true 0 n.digits both.1 in
        record {
          is = numeral_is n false d 0 (is_false n.negative first.0) same (eqb-true n.places 0 first.1);
          above = omega (arith, lt, same);
          place = ap (λ (z : ℕ × Span). z.1) v;
          left = rest_is (n.digits, s) (d, t) r rest e;
        }
    at_test false h e = absurd cc

divisor_ok : (items rest : List Item) (d : ℕ) (t : Span) → divisor_of items ≡ Ok ((d, t), rest) → (p : Piece) × IsUnsigned d 0 p × (0 < d) × (p.span ≡ t) × (items ≡ tok p ∷ rest)
unfolding divisor_of
divisor_ok items rest d t e =
    let a = after_next items (λ (p : Piece) (r : List Item). as_divisor p.span r (piece_numeral p)) ((d, t), rest) e in
    let b = as_divisor_ok a.0.span t a.1 rest d (piece_numeral a.0) a.3 in
    (a.0, b.is, b.above, b.place, a.2 ∙ ap (λ r. tok a.0 ∷ r) b.left)

quotient_ok : (d : ℕ) (front : Span) (items rest : List Item) (t : Time) → quotient_of d front items ≡ Ok (t, rest) → (q : Piece) × (colon : Piece) × (bottom : ℕ) × IsUnsigned bottom 0 q × (0 < bottom) × (colon.kind ≡ kinds.Colon) × (t ≡ time d bottom (around front q.span)) × (items ≡ tok q ∷ tok colon ∷ rest)
unfolding quotient_of
quotient_ok d front items rest t e =
    let a = bind_ok (divisor_of items) (λ q. colon_of q.1 >>= λ c. Ok (time d q.0.0 (around front q.0.1), c.1)) (t, rest) e in
    let b = bind_ok (colon_of a.0.1) (λ c. Ok (time d a.0.0.0 (around front a.0.0.1), c.1)) (t, rest) a.2 in
    let q = divisor_ok items a.0.1 a.0.0.0 a.0.0.1 a.1 in
    let c = colon_ok a.0.1 b.0.1 b.0.0 b.1 in
    let t_is = value_is (time d a.0.0.0 (around front a.0.0.1)) t b.0.1 rest b.2 in
    let r_is = rest_is (time d a.0.0.0 (around front a.0.0.1)) t b.0.1 rest b.2 in (
      q.0,
      c.0,
      a.0.0.0,
      q.1,
      q.2,
      c.1,
      sym t_is ∙ ap (λ s. time d a.0.0.0 (around front s)) (sym q.3),
      q.4 ∙ ap (λ r. tok q.0 ∷ r) (c.2 ∙ ap (λ r. tok c.0 ∷ r) r_is),
    )

-- a time behind its first token, up to its colon
pub record TookTime (p : Piece) (t : Time) (items rest : List Item) : Type 0 where
  pub inner : List Piece
  pub colon : Piece
  pub spelled : SpellsTime t (p ∷ inner)
  pub is : colon.kind ≡ kinds.Colon
  pub whole : items ≡ toks inner (tok colon ∷ rest)

time_with_ok : (p q : Piece) (d k : ℕ) (r rest : List Item) (t : Time) → IsUnsigned d k p → (kind : Kind) → q.kind ≡ kind → time_with d k p.span q.span r kind ≡ Ok (t, rest) → TookTime p t (tok q ∷ r) rest
time_with_ok p q d k r rest t h kinds.Colon c e =
    record {
      inner = [];
      colon = q;
      spelled = inl (p, d, k, h, sym (value_is (time d (10 ^ k) p.span) t r rest e), refl);
      is = c;
      whole = ap (λ is. tok q ∷ is) (rest_is (time d (10 ^ k) p.span) t r rest e);
    }
time_with_ok p q d k r rest t h (kinds.Op ops.Divide) c e = at_test (k == 0) refl e
  where
    at_test : (b : Bool) → (k == 0) ≡ b → cond {A = Read Time} b (quotient_of d p.span r) (Err (refusals.At q.span)) ≡ Ok (t, rest) → TookTime p t (tok q ∷ r) rest
    at_test true z e =
        let a = quotient_ok d p.span r rest t e in
        record {
          inner = q ∷ a.0 ∷ [];
          colon = a.1;
          spelled = inr (p, q, a.0, d, a.2, h ∙ ap (λ m. Some (numeral false d m)) (eqb-true k 0 z), c, a.3, a.4, a.6, refl);
          is = a.5;
          whole = ap (λ is. tok q ∷ is) a.7;
        }
    at_test false z e = absurd cc
time_with_ok p q d k r rest t h _ c e = absurd cc

time_rest_ok : (p : Piece) (items rest : List Item) (t : Time) (d k : ℕ) → IsUnsigned d k p → time_rest d k p.span items ≡ Ok (t, rest) → TookTime p t items rest
time_rest_ok p items rest t d k h e =
    let a = after_next items (λ (q : Piece) (r : List Item). time_with d k p.span q.span r q.kind) (t, rest) e in
    let b = time_with_ok p a.0 d k a.1 rest t h a.0.kind refl a.3 in
    record { inner = b.inner; colon = b.colon; spelled = b.spelled; is = b.is; whole = a.2 ∙ b.whole }

time_behind_ok : (p : Piece) (items rest : List Item) (t : Time) (o : Option Numeral) → piece_numeral p ≡ o → time_behind p.span items o ≡ Ok (t, rest) → TookTime p t items rest
time_behind_ok p items rest t None h e = absurd cc
time_behind_ok p items rest t (Some n) h e = at_sign n.negative refl e
  where
    at_sign : (b : Bool) → n.negative ≡ b → cond {A = Read Time} b (Err (refusals.At p.span)) (time_rest n.digits n.places p.span items) ≡ Ok (t, rest) → TookTime p t items rest
    at_sign true s e = absurd cc
    at_sign false s e = time_rest_ok p items rest t n.digits n.places (h ∙ numeral_is n false n.digits n.places s refl refl) e

pub time_ok : (p : Piece) (items rest : List Item) (t : Time) → time_of p items ≡ Ok (t, rest) → TookTime p t items rest
unfolding time_of
time_ok p items rest t e = time_behind_ok p items rest t (piece_numeral p) refl e

-- ---- the call

as_name_ok : (p : Piece) (r rest : List Item) (w : List ℕ) (k : Kind) → as_name p r k ≡ Ok (w, rest) → (k ≡ kinds.Name) × (p.word ≡ w) × (r ≡ rest)
as_name_ok p r rest w kinds.Name e = (refl, value_is p.word w r rest e, rest_is p.word w r rest e)
as_name_ok p r rest w _ e = absurd cc

name_ok : (items rest : List Item) (w : List ℕ) → name_of items ≡ Ok (w, rest) → (p : Piece) × IsName p × (p.word ≡ w) × (items ≡ tok p ∷ rest)
unfolding name_of
name_ok items rest w e =
    let a = after_next items (λ (p : Piece) (r : List Item). as_name p r p.kind) (w, rest) e in
    let b = as_name_ok a.0 a.1 rest w a.0.kind a.3 in
    (a.0, b.0, b.1, a.2 ∙ ap (λ r. tok a.0 ∷ r) b.2)

abbrev pub words_of : List Piece → List (List ℕ)
words_of ps = map (λ (p : Piece). p.word) ps

-- names up to the token that closes
pub record TookArgs (ws : List (List ℕ)) (items rest : List Item) : Type 0 where
  pub args : List Piece
  pub last : Piece
  pub names : All IsName args
  pub closes : last.kind ≡ kinds.Close
  pub words : ws ≡ words_of args
  pub whole : items ≡ toks args (tok last ∷ rest)

pub args_ok : (items rest : List Item) (ws : List (List ℕ)) → args_of items ≡ Ok (ws, rest) → TookArgs ws items rest
unfolding args_of
args_ok [] rest ws e = absurd cc
args_ok (bad f ∷ is) rest ws e = absurd cc
args_ok (tok p ∷ is) rest ws e = at_kind (λ r vs. args_ok is r vs) p.kind refl e
  where
    at_kind : ((r : List Item) (vs : List (List ℕ)) → args_of is ≡ Ok (vs, r) → TookArgs vs is r) → (k : Kind) → p.kind ≡ k → args_with p is (args_of is) k ≡ Ok (ws, rest) → TookArgs ws (tok p ∷ is) rest
    at_kind more kinds.Close h e =
        record {
          args = [];
          last = p;
          names = All-nil IsName;
          closes = h;
          words = sym (value_is [] ws is rest e);
          whole = ap (λ r. tok p ∷ r) (rest_is {A = List (List ℕ)} [] ws is rest e);
        }
    at_kind more kinds.Name h e =
        let a = bind_ok (args_of is) (λ vs. Ok (p.word ∷ vs.0, vs.1)) (ws, rest) e in
        let t = more a.0.1 a.0.0 a.1 in
        record {
          args = p ∷ t.args;
          last = t.last;
          names = All-cons IsName p t.args h t.names;
          closes = t.closes;
          words = sym (value_is (p.word ∷ a.0.0) ws a.0.1 rest a.2) ∙ ap (λ vs. p.word ∷ vs) t.words;
          whole = ap (λ r. tok p ∷ r) (t.whole ∙ ap (λ r. toks t.args (tok t.last ∷ r)) (rest_is (p.word ∷ a.0.0) ws a.0.1 rest a.2));
        }
    at_kind more _ h e = absurd cc

-- a call behind its opening parenthesis
pub record TookCall (c : Call) (items rest : List Item) : Type 0 where
  pub inner : List Piece
  pub spelled : (first : Piece) → first.kind ≡ kinds.Open → SpellsCall c (first ∷ inner)
  pub whole : items ≡ toks inner rest

pub call_ok : (items rest : List Item) (c : Call) → call_of items ≡ Ok (c, rest) → TookCall c items rest
unfolding call_of
call_ok items rest c e =
    let a = bind_ok (name_of items) (λ n. args_of n.1 >>= λ ws. Ok (record { name = n.0; args = ws.0 }, ws.1)) (c, rest) e in
    let b = bind_ok (args_of a.0.1) (λ ws. Ok (record { name = a.0.0; args = ws.0 }, ws.1)) (c, rest) a.2 in
    let n = name_ok items a.0.1 a.0.0 a.1 in
    let t = args_ok a.0.1 b.0.1 b.0.0 b.1 in
    let made : Call = record { name = a.0.0; args = b.0.0 } in
    let c_is : made ≡ c = value_is made c b.0.1 rest b.2 in
    let r_is : b.0.1 ≡ rest = rest_is made c b.0.1 rest b.2 in
    record {
      inner = n.0 ∷ (t.args ++ t.last ∷ []);
      spelled = λ first o. record {
        first = first;
        name = n.0;
        args = t.args;
        last = t.last;
        opens = o;
        named = n.1;
        names = t.names;
        closes = t.closes;
        is = sym c_is ∙ (λ i. record { name = sym n.2 i; args = t.words i });
        whole = refl;
      };
      whole = n.3 ∙ ap (λ r. tok n.0 ∷ r) (t.whole ∙ ap (λ r. toks t.args (tok t.last ∷ r)) r_is ∙ sym (toks-append t.args (t.last ∷ []) rest));
    }

-- ---- the end of the line

pub end_ok : (items rest : List Item) (u : Unit {0}) → end_of items ≡ Ok (u, rest) → items ≡ []
unfolding end_of
end_ok [] rest u e = refl
end_ok (bad f ∷ is) rest u e = absurd cc
end_ok (tok p ∷ is) rest u e = absurd cc

as_number_ok : (s : Span) (r rest : List Item) (u : Unit {0}) (k : Kind) → as_number s r k ≡ Ok (u, rest) → (k ≡ kinds.Number) × (r ≡ rest)
as_number_ok s r rest u kinds.Number e = (refl, rest_is tt u r rest e)
as_number_ok s r rest u _ e = absurd cc

number_ok : (items rest : List Item) (u : Unit {0}) → number_of items ≡ Ok (u, rest) → (p : Piece) × (p.kind ≡ kinds.Number) × (items ≡ tok p ∷ rest)
unfolding number_of
number_ok items rest u e =
    let a = after_next items (λ (p : Piece) (r : List Item). as_number p.span r p.kind) (u, rest) e in
    let b = as_number_ok a.0.span a.1 rest u a.0.kind a.3 in
    (a.0, b.0, a.2 ∙ ap (λ r. tok a.0 ∷ r) b.1)

as_close_square_ok : (s : Span) (r rest : List Item) (u : Unit {0}) (k : Kind) → as_close_square s r k ≡ Ok (u, rest) → (k ≡ kinds.CloseSquare) × (r ≡ rest)
as_close_square_ok s r rest u kinds.CloseSquare e = (refl, rest_is tt u r rest e)
as_close_square_ok s r rest u _ e = absurd cc

close_square_ok : (items rest : List Item) (u : Unit {0}) → close_square_of items ≡ Ok (u, rest) → (p : Piece) × (p.kind ≡ kinds.CloseSquare) × (items ≡ tok p ∷ rest)
unfolding close_square_of
close_square_ok items rest u e =
    let a = after_next items (λ (p : Piece) (r : List Item). as_close_square p.span r p.kind) (u, rest) e in
    let b = as_close_square_ok a.0.span a.1 rest u a.0.kind a.3 in
    (a.0, b.0, a.2 ∙ ap (λ r. tok a.0 ∷ r) b.1)

-- a duration, which ends the line
record TookDuration (items : List Item) : Type 0 where
  pieces : List Piece
  spelled : SpellsDuration pieces
  whole : items ≡ toks pieces []

duration_with_ok : (p : Piece) (r rest : List Item) (u : Unit {0}) (k : Kind) → p.kind ≡ k → duration_with p.span r k ≡ Ok (u, rest) → TookDuration (tok p ∷ r)
duration_with_ok p r rest u kinds.OpenSquare h e =
    let a = bind_ok (number_of r) (λ n. close_square_of n.1 >>= λ c. end_of c.1) (u, rest) e in
    let b = bind_ok (close_square_of a.0.1) (λ c. end_of c.1) (u, rest) a.2 in
    let n = number_ok r a.0.1 a.0.0 a.1 in
    let c = close_square_ok a.0.1 b.0.1 b.0.0 b.1 in
    let z = end_ok b.0.1 rest u b.2 in
    record {
      pieces = p ∷ n.0 ∷ c.0 ∷ [];
      spelled = inr (p, n.0, c.0, h, n.1, c.1, refl);
      whole = ap (λ is. tok p ∷ is) (n.2 ∙ ap (λ is. tok n.0 ∷ is) (c.2 ∙ ap (λ is. tok c.0 ∷ is) z));
    }
duration_with_ok p r rest u _ h e = absurd cc

duration_ok : (items rest : List Item) (u : Unit {0}) → duration_of items ≡ Ok (u, rest) → TookDuration items
unfolding duration_of
duration_ok [] rest u e = record { pieces = []; spelled = inl refl; whole = refl }
duration_ok (bad f ∷ is) rest u e = absurd cc
duration_ok (tok p ∷ is) rest u e = duration_with_ok p is rest u p.kind refl e

-- ---- the line

-- tokens that spell the line, and nothing else
pub record TookLine (form : PlanForm) (n : ℕ) (l : Line) (items : List Item) : Type 0 where
  pub pieces : List Piece
  pub spelled : SpellsTokens form n l pieces
  pub whole : items ≡ toks pieces []

timed_with_ok : (n : ℕ) (t : Time) (q : Piece) (r : List Item) (l : Line) (front : List Piece) (colon : Piece) → SpellsTime t front → colon.kind ≡ kinds.Colon → (k : Kind) → q.kind ≡ k → timed_with n t q.span r k ≡ Ok l → TookLine Timed n l (toks front (tok colon ∷ tok q ∷ r))
timed_with_ok n t q r l front colon f c kinds.Open h e =
    let a = bind_ok (call_of r) (λ x. duration_of x.1 >>= λ d. Ok (lines.Act n t x.0)) l e in
    let b = bind_ok (duration_of a.0.1) (λ d. Ok (lines.Act n t a.0.0)) l a.2 in
    let x = call_ok r a.0.1 a.0.0 a.1 in
    let d = duration_ok a.0.1 b.0.1 b.0.0 b.1 in
    let l_is : lines.Act n t a.0.0 ≡ l = ok_is (lines.Act n t a.0.0) l b.2 in
    rw (← l_is) (record {
      pieces = front ++ colon ∷ ((q ∷ x.inner) ++ d.pieces);
      spelled = (front, colon, q ∷ x.inner, d.pieces, refl, f, c, x.spelled q h, d.spelled, refl);
      whole =
          ap (λ is. toks front (tok colon ∷ tok q ∷ is)) (x.whole ∙ ap (toks x.inner) d.whole ∙ sym (toks-append x.inner d.pieces []))
          ∙ sym (toks-append front (colon ∷ ((q ∷ x.inner) ++ d.pieces)) []);
    })
timed_with_ok n t q r l front colon f c kinds.End h e =
    let a = bind_ok (end_of r) (λ x. Ok (lines.End n t)) l e in
    let z = end_ok r a.0.1 a.0.0 a.1 in
    let l_is : lines.End n t ≡ l = ok_is (lines.End n t) l a.2 in
    rw (← l_is) (record {
      pieces = front ++ colon ∷ q ∷ [];
      spelled = (front, colon, q, refl, f, c, h, refl);
      whole = ap (λ is. toks front (tok colon ∷ tok q ∷ is)) z ∙ sym (toks-append front (colon ∷ q ∷ []) []);
    })
timed_with_ok n t q r l front colon f c _ h e = absurd cc

timed_from_ok : (n : ℕ) (p : Piece) (r : List Item) (l : Line) → timed_from n (Some p) r ≡ Ok l → TookLine Timed n l (tok p ∷ r)
timed_from_ok n p r l e =
    let a = bind_ok (time_of p r) (λ t. next_of t.1 >>= λ f. timed_with n t.0 f.0.span f.1 f.0.kind) l e in
    let t = time_ok p r a.0.1 a.0.0 a.1 in
    let b = after_next a.0.1 (λ (q : Piece) (is : List Item). timed_with n a.0.0 q.span is q.kind) l a.2 in
    let w = timed_with_ok n a.0.0 b.0 b.1 l (p ∷ t.inner) t.colon t.spelled t.is b.0.kind refl b.3 in
    record { pieces = w.pieces; spelled = w.spelled; whole = ap (λ is. tok p ∷ is) (t.whole ∙ ap (λ is. toks t.inner (tok t.colon ∷ is)) b.2) ∙ w.whole }

timed_ok : (n : ℕ) (items : List Item) (l : Line) → timed_line n items ≡ Ok l → TookLine Timed n l items
unfolding timed_line
timed_ok n [] l e =
    let l_is : lines.Blank ≡ l = ok_is lines.Blank l e in
    rw (← l_is) (record { pieces = []; spelled = refl; whole = refl })
timed_ok n (bad f ∷ is) l e = absurd cc
timed_ok n (tok p ∷ is) l e = timed_from_ok n p is l e

untimed_with_ok : (n : ℕ) (q : Piece) (r : List Item) (l : Line) (k : Kind) → q.kind ≡ k → untimed_with n q.span r k ≡ Ok l → TookLine Untimed n l (tok q ∷ r)
untimed_with_ok n q r l kinds.Open h e =
    let a = bind_ok (call_of r) (λ x. end_of x.1 >>= λ d. Ok (lines.Step n x.0)) l e in
    let b = bind_ok (end_of a.0.1) (λ d. Ok (lines.Step n a.0.0)) l a.2 in
    let x = call_ok r a.0.1 a.0.0 a.1 in
    let z = end_ok a.0.1 b.0.1 b.0.0 b.1 in
    let l_is : lines.Step n a.0.0 ≡ l = ok_is (lines.Step n a.0.0) l b.2 in
    rw (← l_is) (record {
      pieces = q ∷ x.inner;
      spelled = (refl, x.spelled q h);
      whole = ap (λ is. tok q ∷ is) (x.whole ∙ ap (toks x.inner) z);
    })
untimed_with_ok n q r l _ h e = absurd cc

untimed_ok : (n : ℕ) (items : List Item) (l : Line) → untimed_line n items ≡ Ok l → TookLine Untimed n l items
unfolding untimed_line
untimed_ok n [] l e =
    let l_is : lines.Blank ≡ l = ok_is lines.Blank l e in
    rw (← l_is) (record { pieces = []; spelled = refl; whole = refl })
untimed_ok n (bad f ∷ is) l e = absurd cc
untimed_ok n (tok p ∷ is) l e = untimed_with_ok n p is l p.kind refl e

pub line_ok : (form : PlanForm) (n : ℕ) (items : List Item) (l : Line) → line_of form n items ≡ Ok l → TookLine form n l items
line_ok Timed n items l e = timed_ok n items l e
line_ok Untimed n items l e = untimed_ok n items l e
