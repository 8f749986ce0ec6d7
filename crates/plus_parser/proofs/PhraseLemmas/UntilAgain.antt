-- What is spelled thing by thing is read by a loop up to the closing parenthesis.
use Rattle.std.proofs.Common.{◌≡◌, ℕ, zero, suc, ◌+◌, ◌<◌, true, false, List, [], ◌∷◌, ◌++◌, length, Option, Some, None, Ok, refl, sym, ap, ◌∙◌, inl, length-append, arith}
use Rattle.std.specs.Prelude.{option_and_then}
use Rattle.plus_tokens.specs.declared.span.Span.{Span}
use Rattle.plus_tokens.specs.Items.{Piece, Item, tok}
use Rattle.plus_parser.specs.Phrases.Reading.{next_of, is_open}
use Rattle.plus_parser.specs.Phrases.Words.{is_close}
use Rattle.plus_parser.specs.Phrases.Grammar.{Step, until_close}
use Rattle.plus_parser.specs.Phrases.Spells.{IsClose, room_after}
use Rattle.plus_parser.specs.Phrases.Spells.{Chain, added}
use Rattle.plus_parser.proofs.PhraseLemmas.Level.{Even, Level, level_at, level_append, split_append}
use Rattle.plus_parser.proofs.PhraseLemmas.Tokens.{toks, toks-append, next_again}

pub some_of : {A B : Type 0} (o : Option A) (f : A → Option B) (y : B) → option_and_then f o ≡ Some y → (x : A) × (o ≡ Some x) × (f x ≡ Some y)
some_of None f y e = absurd cc
some_of (Some x) f y e = (x, refl, e)

module _ {S X : Type 0} (P : X → List Piece → Type 0) (add : S → X → Option S) (step : Step S) (room : ℕ) where
  -- what one step reads again
  pub record Reads (s s' : S) (ts : List Piece) (rest : List Item) : Type 0 where
    pub first : Piece
    pub inner : List Piece
    pub whole : ts ≡ first ∷ inner
    pub next : next_of room (tok first ∷ toks inner rest) ≡ Ok (first, toks inner rest)
    pub goes : is_close first.kind ≡ false
    pub steps : step s first (toks inner rest) ≡ Ok (s', rest)

  abbrev pub Again : Type 0
  Again = (s s' : S) (x : X) (ts : List Piece) (rest : List Item) → P x ts → Even room ts → add s x ≡ Some s' → Reads s s' ts rest

  abbrev pub Levels : Type 0
  Levels = (x : X) (ts : List Piece) → P x ts → Level ts

  pub level_chain : Levels → (xs : List X) (ts : List Piece) → Chain P xs ts → Level ts
  level_chain level [] ts h = level_at ts [] h (λ r. inl refl)
  level_chain level (x ∷ xs) ts h = level_at ts (h.0 ++ h.1) h.4 (level_append h.0 h.1 (level x h.0 h.2) (level_chain level xs h.1 h.3))

  turn : (n : ℕ) (s s' t : S) (k : Span) (p : Piece) (items r1 r2 r3 : List Item) → next_of room items ≡ Ok (p, r1) → is_close p.kind ≡ false → step s p r1 ≡ Ok (s', r2) → until_close step room n s' r2 ≡ Ok ((t, k), r3) → until_close step room (suc n) s items ≡ Ok ((t, k), r3)
  unfolding until_close
  turn n s s' t k p items r1 r2 r3 e c e1 e2 = rw (e, c, e1, e2) refl

  last_turn : (n : ℕ) (s : S) (p : Piece) (items r1 : List Item) → next_of room items ≡ Ok (p, r1) → is_close p.kind ≡ true → until_close step room (suc n) s items ≡ Ok ((s, p.span), r1)
  unfolding until_close
  last_turn n s p items r1 e c = rw (e, c) refl

  pub until_again : Levels → Again → (n : ℕ) (s s' : S) (xs : List X) (ts : List Piece) (last : Piece) (rest : List Item) → Chain P xs ts → Even room ts → added add s xs ≡ Some s' → IsClose last → length ts < n → until_close step room n s (toks ts (tok last ∷ rest)) ≡ Ok ((s', last.span), rest)
  until_again level again zero s s' xs ts last rest h ev a close lt = absurd (omega arith)
  until_again level again (suc n) s s' [] ts last rest h ev a close lt =
      let same : s ≡ s' = cc in
      ap (λ (ps : List Piece). until_close step room (suc n) s (toks ps (tok last ∷ rest))) h
      ∙ last_turn n s last (tok last ∷ rest) rest (next_again room last rest (ap is_open close)) (ap is_close close)
      ∙ ap (λ (t : S). Ok ((t, last.span), rest)) same
  until_again level again (suc n) s s' (x ∷ xs) ts last rest h ev a close lt =
      let front = h.0 in
      let back = h.1 in
      let both = split_append room front back (level x front h.2) (ap (room_after room) (sym h.4) ∙ ev) in
      let o = some_of (add s x) (λ t. added add t xs) s' a in
      let left = toks back (tok last ∷ rest) in
      let r = again s o.0 x front left h.2 both.0 o.1 in
      let shape : toks ts (tok last ∷ rest) ≡ tok r.first ∷ toks r.inner left = ap (λ (ps : List Piece). toks ps (tok last ∷ rest)) h.4 ∙ toks-append front back (tok last ∷ rest) ∙ ap (λ (ps : List Piece). toks ps left) r.whole in
      let lens : length ts ≡ length front + length back = ap length h.4 ∙ length-append front back in
      let one : length front ≡ suc (length r.inner) = ap length r.whole in
      ap (until_close step room (suc n) s) shape
      ∙ turn n s o.0 s' last.span r.first (tok r.first ∷ toks r.inner left) (toks r.inner left) left rest r.next r.goes r.steps (until_again level again n o.0 s' xs back last rest h.3 both.1 o.2 close (omega (arith, lens, one)))
