-- What a loop up to the closing parenthesis reads is spelled so, thing by thing.
use Rattle.std.proofs.Common.{◌≡◌, ℕ, zero, suc, ◌<◌, Bool, true, false, List, [], ◌∷◌, ◌++◌, Option, Some, Ok, refl, sym, ap, ◌∙◌}
use Rattle.std.specs.Prelude.{option_and_then}
use Rattle.plus_tokens.specs.declared.span.Span.{Span}
use Rattle.plus_tokens.specs.Items.{Piece, Item, tok}
use Rattle.plus_parser.specs.Phrases.Reading.{next_of, is_open}
use Rattle.plus_parser.specs.Phrases.Words.{is_close}
use Rattle.plus_parser.specs.Phrases.Grammar.{Step, at_close, until_close}
use Rattle.plus_parser.specs.Phrases.Spells.{IsClose}
use Rattle.plus_parser.specs.Phrases.Spells.{Chain, added}
use Rattle.plus_parser.proofs.PhraseLemmas.Level.{Even, even_append}
use Rattle.plus_parser.proofs.PhraseLemmas.Tokens.{toks, toks-append, bind_ok, ok_is, next_ok, next_some, close_kind}

module _ {S X : Type 0} (P : X → List Piece → Type 0) (add : S → X → Option S) (step : Step S) (room : ℕ) where
  -- what one step takes, with its first token
  pub record Took (s s' : S) (p : Piece) (r r' : List Item) : Type 0 where
    pub thing : X
    pub inner : List Piece
    pub whole : r ≡ toks inner r'
    pub spelled : P thing (p ∷ inner)
    pub adds : add s thing ≡ Some s'
    pub even : Even room (p ∷ inner)

  abbrev pub Takes : Type 0
  Takes = (s s' : S) (p : Piece) (r r' : List Item) → (is_open p.kind ≡ true → 0 < room) → step s p r ≡ Ok (s', r') → Took s s' p r r'

  pub record TookAll (s s' : S) (k : Span) (items rest : List Item) : Type 0 where
    pub things : List X
    pub inner : List Piece
    pub last : Piece
    pub closes : IsClose last
    pub place : last.span ≡ k
    pub whole : items ≡ toks inner (tok last ∷ rest)
    pub spelled : Chain P things inner
    pub adds : added add s things ≡ Some s'
    pub even : Even room inner

  pub until_takes : Takes → (n : ℕ) (s s' : S) (k : Span) (items rest : List Item) → until_close step room n s items ≡ Ok ((s', k), rest) → TookAll s s' k items rest
  unfolding until_close
  until_takes takes zero s s' k items rest e = absurd cc
  until_takes takes (suc n) s s' k items rest e =
      let a = bind_ok (next_of room items) (λ p. at_close step (until_close step room n) s p.0 p.1 (is_close p.0.kind)) ((s', k), rest) e in
      at_token (until_takes takes n) a.0.0 a.0.1 (next_ok room items a.0.0 a.0.1 a.1) (next_some room items a.0.0 a.0.1 a.1) (is_close a.0.0.kind) refl a.2
    where
      at_token : ((s s' : S) (k : Span) (items rest : List Item) → until_close step room n s items ≡ Ok ((s', k), rest) → TookAll s s' k items rest)
          → (p : Piece) (r : List Item) → items ≡ tok p ∷ r → (is_open p.kind ≡ true → 0 < room) → (b : Bool) → is_close p.kind ≡ b → at_close step (until_close step room n) s p r b ≡ Ok ((s', k), rest) → TookAll s s' k items rest
      at_token again p r whole room_left true c e =
          let both = ok_is ((s, p.span), r) ((s', k), rest) e in
          record {
            things = [];
            inner = [];
            last = p;
            closes = close_kind p.kind c;
            place = ap (λ (x : (S × Span) × List Item). x.0.1) both;
            whole = whole ∙ ap (λ (x : (S × Span) × List Item). tok p ∷ x.1) both;
            spelled = refl;
            adds = ap (λ (x : (S × Span) × List Item). Some x.0.0) both;
            even = refl;
          }
      at_token again p r whole room_left false c e =
          let a = bind_ok (step s p r) (λ x. until_close step room n x.0 x.1) ((s', k), rest) e in
          let one = takes s a.0.0 p r a.0.1 room_left a.1 in
          let more = again a.0.0 s' k a.0.1 rest a.2 in
          record {
            things = one.thing ∷ more.things;
            inner = (p ∷ one.inner) ++ more.inner;
            last = more.last;
            closes = more.closes;
            place = more.place;
            whole = whole ∙ ap (λ (is : List Item). tok p ∷ is) (one.whole ∙ ap (toks one.inner) more.whole ∙ sym (toks-append one.inner more.inner (tok more.last ∷ rest)));
            spelled = (p ∷ one.inner, more.inner, one.spelled, more.spelled, refl);
            adds = ap (option_and_then (λ t. added add t more.things)) one.adds ∙ more.adds;
            even = even_append room (p ∷ one.inner) more.inner one.even more.even;
          }
