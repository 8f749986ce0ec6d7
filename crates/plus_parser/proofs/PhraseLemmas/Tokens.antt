-- Reading one token, and lists of tokens.
use Rattle.std.proofs.Common.{◌≡◌, ℕ, zero, suc, ◌+◌, ◌<◌, Bool, true, false, cond, List, [], ◌∷◌, ◌++◌, length, Result, Ok, Err, refl, sym, ap, ◌∙◌, arith}
use Rattle.std.specs.Prelude.{◌&&◌, ◌==◌, map}
use Rattle.std.proofs.lemmas.Bool.{cond-false, cond-true, ne_eqb}
use Rattle.plus_tokens.specs.declared.token.Kind.{Kind}
use Rattle.plus_tokens.specs.declared.token.Kind.TheVariants as kinds
use Rattle.plus_tree.specs.declared.faults.TextFault.{TextFault}
use Rattle.plus_tree.specs.declared.faults.TextFault.TheVariants as faults
use Rattle.plus_tokens.specs.Items.{Piece, Item, tok, bad}
use Rattle.plus_parser.specs.Phrases.Reading.{◌>>=◌, Read, next_of, is_open}
use Rattle.plus_parser.specs.Phrases.Words.{is_close}
use Rattle.plus_parser.specs.Phrases.Grammar.{token_of}
use Rattle.plus_parser.specs.Phrases.Spells.{IsOpen}

-- tokens, and then more
abbrev pub toks : List Piece → List Item → List Item
toks [] rest = rest
toks (p ∷ ps) rest = tok p ∷ toks ps rest

pub toks-append : (a b : List Piece) (rest : List Item) → toks (a ++ b) rest ≡ toks a (toks b rest)
toks-append [] b rest = refl
toks-append (p ∷ a) b rest = ap (λ is. tok p ∷ is) (toks-append a b rest)

pub toks-length : (a : List Piece) (rest : List Item) → length (toks a rest) ≡ length a + length rest
toks-length [] rest = omega arith
toks-length (p ∷ a) rest = omega (arith, toks-length a rest)

pub toks_last : (body : List Piece) (last : Piece) (rest : List Item) → toks body (tok last ∷ rest) ≡ toks (body ++ last ∷ []) rest
toks_last body last rest = sym (toks-append body (last ∷ []) rest)

pub toks_all : (ts : List Piece) → toks ts [] ≡ map tok ts
toks_all [] = refl
toks_all (p ∷ ts) = ap (λ (is : List Item). tok p ∷ is) (toks_all ts)

pub enough : (ts : List Piece) (last : Piece) (rest : List Item) → length ts < length (toks ts (tok last ∷ rest))
enough ts last rest = omega (arith, toks-length ts (tok last ∷ rest))

-- ---- what each step needs

pub bind_ok : {A B : Type 0} (r : Result A TextFault) (f : A → Result B TextFault) (y : B) → (r >>= f) ≡ Ok y → (x : A) × (r ≡ Ok x) × (f x ≡ Ok y)
bind_ok (Ok x) f y e = (x, refl, e)
bind_ok (Err d) f y e = absurd cc

abbrev pub done : {A : Type 0} → A → Result A TextFault
done x = Ok x

pub ok_is : {A : Type 0} (x y : A) → done x ≡ done y → x ≡ y
ok_is x y e = cc

pub next_ok : (room : ℕ) (items : List Item) (p : Piece) (rest : List Item) → next_of room items ≡ Ok (p, rest) → items ≡ tok p ∷ rest
next_ok room [] p rest e = absurd cc
next_ok room (bad f ∷ is) p rest e = absurd cc
next_ok room (tok q ∷ is) p rest e = at_test (is_open q.kind && (room == 0)) e
  where
    at_test : (b : Bool) → cond {A = Read Piece} b (Err (faults.Depth q.span.start)) (Ok (q, is)) ≡ Ok (p, rest) → tok q ∷ is ≡ tok p ∷ rest
    at_test true e = absurd cc
    at_test false e = ap (λ (x : Piece × List Item). tok x.0 ∷ x.1) (ok_is (q, is) (p, rest) e)

-- an opening parenthesis is read only where room is left
pub next_some : (room : ℕ) (items : List Item) (p : Piece) (rest : List Item) → next_of room items ≡ Ok (p, rest) → is_open p.kind ≡ true → 0 < room
next_some (suc room) items p rest e o = omega arith
next_some zero [] p rest e o = absurd cc
next_some zero (bad f ∷ is) p rest e o = absurd cc
next_some zero (tok q ∷ is) p rest e o =
    let same : q ≡ p = at_test (is_open q.kind) e in
    absurd (full (is_open q.kind) (ap (λ (x : Piece). is_open x.kind) same ∙ o) e)
  where
    at_test : (b : Bool) → cond {A = Read Piece} (b && true) (Err (faults.Depth q.span.start)) (Ok (q, is)) ≡ Ok (p, rest) → q ≡ p
    at_test true e = absurd cc
    at_test false e = ap (λ (x : Piece × List Item). x.0) (ok_is (q, is) (p, rest) e)

    full : (b : Bool) → b ≡ true → cond {A = Read Piece} (b && true) (Err (faults.Depth q.span.start)) (Ok (q, is)) ≡ Ok (p, rest) → ⊥
    full true o e = cc
    full false o e = cc

pub next_there : (room : ℕ) (p : Piece) (rest : List Item) → (is_open p.kind ≡ true → 0 < room) → next_of room (tok p ∷ rest) ≡ Ok (p, rest)
next_there room p rest left = cond-false (is_open p.kind && (room == 0)) (Err (faults.Depth p.span.start)) (Ok (p, rest)) (fits (is_open p.kind) left)
  where
    fits : (b : Bool) → (b ≡ true → 0 < room) → (b && (room == 0)) ≡ false
    fits true f = ne_eqb room 0 (λ z. let lt : 0 < room = f refl in omega (arith, lt, z))
    fits false f = refl

pub next_again : (room : ℕ) (p : Piece) (rest : List Item) → is_open p.kind ≡ false → next_of room (tok p ∷ rest) ≡ Ok (p, rest)
next_again room p rest e = next_there room p rest (λ o. absurd (let no : true ≡ false = sym o ∙ e in cc))

pub next_open : (room : ℕ) (p : Piece) (rest : List Item) → IsOpen p → 0 < room → next_of room (tok p ∷ rest) ≡ Ok (p, rest)
next_open room p rest e lt = next_there room p rest (λ o. lt)

-- a test that refuses, and a test that lets through
pub refused : {A : Type 0} (b : Bool) (f : TextFault) (r : Result A TextFault) (y : A) → cond b (Err f) r ≡ Ok y → (b ≡ false) × (r ≡ Ok y)
refused true f r y e = absurd cc
refused false f r y e = (refl, e)

pub wanted : {A : Type 0} (b : Bool) (f : TextFault) (r : Result A TextFault) (y : A) → cond b r (Err f) ≡ Ok y → (b ≡ true) × (r ≡ Ok y)
wanted true f r y e = (refl, e)
wanted false f r y e = absurd cc

pub open_kind : (k : Kind) → is_open k ≡ true → k ≡ kinds.Open
open_kind kinds.Open e = refl
open_kind _ e = absurd cc

pub close_kind : (k : Kind) → is_close k ≡ true → k ≡ kinds.Close
close_kind kinds.Close e = refl
close_kind _ e = absurd cc

-- a token that was wanted
pub record Token (fit : Piece → Bool) (room : ℕ) (p : Piece) (items rest : List Item) : Type 0 where
  pub fits : fit p ≡ true
  pub whole : items ≡ tok p ∷ rest
  pub room_left : is_open p.kind ≡ true → 0 < room

pub token_takes : (fit : Piece → Bool) (room : ℕ) (p : Piece) (items rest : List Item) → token_of fit room items ≡ Ok (p, rest) → Token fit room p items rest
unfolding token_of
token_takes fit room p items rest e =
    let a = bind_ok (next_of room items) (λ q. cond (fit q.0) (Ok (q.0, q.1)) (Err (faults.Form q.0.span))) (p, rest) e in
    let b = wanted (fit a.0.0) (faults.Form a.0.0.span) (Ok (a.0.0, a.0.1)) (p, rest) a.2 in
    let both = ok_is (a.0.0, a.0.1) (p, rest) b.1 in
    let same : a.0.0 ≡ p = ap (λ (x : Piece × List Item). x.0) both in
    record {
      fits = ap fit (sym same) ∙ b.0;
      whole = next_ok room items a.0.0 a.0.1 a.1 ∙ ap (λ (x : Piece × List Item). tok x.0 ∷ x.1) both;
      room_left = λ o. next_some room items a.0.0 a.0.1 a.1 (ap (λ (x : Piece). is_open x.kind) same ∙ o);
    }

pub token_again : (fit : Piece → Bool) (room : ℕ) (p : Piece) (rest : List Item) → fit p ≡ true → (is_open p.kind ≡ true → 0 < room) → token_of fit room (tok p ∷ rest) ≡ Ok (p, rest)
unfolding token_of
token_again fit room p rest e left =
    ap (λ (r : Read Piece). r >>= λ q. cond (fit q.0) (Ok (q.0, q.1)) (Err (faults.Form q.0.span))) (next_there room p rest left)
    ∙ cond-true (fit p) (Ok (p, rest)) (Err (faults.Form p.span)) e
