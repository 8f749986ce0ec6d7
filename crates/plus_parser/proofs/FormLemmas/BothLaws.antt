-- One form after another: what is taken is spelled so, and what is spelled so is read.
use Rattle.std.proofs.Common.{◌≡◌, ℕ, suc, true, List, [], ◌∷◌, ◌++◌, Ok, refl, sym, ap, ◌∙◌, subst, arith}
use Rattle.plus_tokens.specs.declared.span.Span.{Span}
use Rattle.plus_tokens.specs.Items.{Piece, Item, tok}
use Rattle.plus_parser.specs.Phrases.Reading.{◌>>=◌, Read}
use Rattle.plus_parser.specs.Phrases.Words.{is_close}
use Rattle.plus_parser.specs.Phrases.Grammar.{around, open_of, close_of, Former}
use Rattle.plus_parser.specs.Phrases.Spells.{IsClose, Wrapped}
use Rattle.plus_parser.proofs.PhraseLemmas.Tokens.{toks, toks-append, bind_ok, ok_is, close_kind, token_takes}
use Rattle.plus_parser.proofs.PhraseLemmas.Level.{Even, Level, is_flat, after_flat, even_append, split_append}
use Rattle.plus_parser.proofs.PhraseLemmas.Forms.{FormTook, FormTakes, FormAgain, Begins, close_took}
use Rattle.plus_parser.proofs.PhraseLemmas.Starts.{close_again, Opened, opened_takes, opened_again}
use Rattle.plus_parser.specs.Forms.ReadingForms.{form_next, both_of}

-- behind a token that is no parenthesis
pub even_behind : (room r : ℕ) (a : Piece) (ts : List Piece) → is_flat a.kind ≡ true → suc r ≡ suc room → Even r (a ∷ ts) → Even room ts
even_behind room r a ts f under er =
    let same : r ≡ room = omega (arith, under) in subst (λ n. Even n ts) same (sym (after_flat r a ts f) ∙ er)

module _ {A : Type 0} (P : A → List Piece → Type 0) (room : ℕ) where
  -- what a reader takes, and what it reads again
  abbrev pub NextTakes : (List Item → Read A) → Type 0
  NextTakes read = (items : List Item) (x : A) (rest : List Item) → read items ≡ Ok (x, rest) → Opened P room x items rest

  abbrev pub NextAgain : (List Item → Read A) → Type 0
  NextAgain read = (x : A) (ts : List Piece) (rest : List Item) → P x ts → Even room ts → read (toks ts rest) ≡ Ok (x, rest)

  pub form_next_takes : (read : Former A) → FormTakes P room read → NextTakes (form_next room read)
  unfolding form_next
  form_next_takes read takes items x rest e =
      let a = bind_ok (open_of room items) (λ o. read o.0.span o.1) (x, rest) e in
      opened_takes P room read takes a.0.0 x items a.0.1 rest a.1 a.2

  next_step : (read : Former A) (o : Piece) (x : A) (items r rest : List Item) → open_of room items ≡ Ok (o, r) → read o.span r ≡ Ok (x, rest) → form_next room read items ≡ Ok (x, rest)
  unfolding form_next
  next_step read o x items r rest e1 e2 = rw e1 e2

  pub form_next_again : (read : Former A) → Begins P room → FormAgain P room read → NextAgain (form_next room read)
  form_next_again read begins again x ts rest h ev =
      let o = opened_again P room read begins again x ts rest h ev in next_step read o.0 x (toks ts rest) o.1 rest o.2 o.3

module _ {A B : Type 0} (P : A → List Piece → Type 0) (Q : B → List Piece → Type 0) (room : ℕ) (first : List Item → Read A) (second : List Item → Read B) where
  -- two things up to the closing parenthesis
  pub record BothTook (x : A) (y : B) (k : Span) (items rest : List Item) : Type 0 where
    pub left : List Piece
    pub right : List Piece
    pub last : Piece
    pub closes : IsClose last
    pub place : last.span ≡ k
    pub whole : items ≡ toks (left ++ right) (tok last ∷ rest)
    pub one : P x left
    pub other : Q y right
    pub even : Even room (left ++ right)

  pub both_takes : NextTakes P room first → NextTakes Q room second → (items : List Item) (x : (A × B) × Span) (rest : List Item) → both_of room first second items ≡ Ok (x, rest) → BothTook x.0.0 x.0.1 x.1 items rest
  unfolding both_of
  both_takes takes takes' items x rest e =
      let a = bind_ok (first items) (λ a. second a.1 >>= λ b. close_of room b.1 >>= λ k. Ok (((a.0, b.0), k.0.span), k.1)) (x, rest) e in
      let b = bind_ok (second a.0.1) (λ b. close_of room b.1 >>= λ k. Ok (((a.0.0, b.0), k.0.span), k.1)) (x, rest) a.2 in
      let d = bind_ok (close_of room b.0.1) (λ k. Ok (((a.0.0, b.0.0), k.0.span), k.1)) (x, rest) b.2 in
      let both = ok_is (((a.0.0, b.0.0), d.0.0.span), d.0.1) (x, rest) d.2 in
      let t = takes items a.0.0 a.0.1 a.1 in
      let u = takes' a.0.1 b.0.0 b.0.1 b.1 in
      let k = token_takes (λ q. is_close q.kind) room d.0.0 b.0.1 d.0.1 d.1 in
      subst (λ (y : ((A × B) × Span) × List Item). BothTook y.0.0.0 y.0.0.1 y.0.1 items y.1) both
      (record {
        left = t.inner;
        right = u.inner;
        last = d.0.0;
        closes = close_kind d.0.0.kind k.fits;
        place = refl;
        whole = t.whole ∙ ap (toks t.inner) (u.whole ∙ ap (toks u.inner) k.whole) ∙ sym (toks-append t.inner u.inner (tok d.0.0 ∷ d.0.1));
        one = t.spelled;
        other = u.spelled;
        even = even_append room t.inner u.inner t.even u.even;
      })

  -- what two things up to the closing parenthesis make
  abbrev pub made_of : {C : Type 0} → (A → B → Span → C) → Span → List Item → Read C
  made_of made s items = both_of room first second items >>= λ x. Ok (made x.0.0.0 x.0.0.1 (around s x.0.1), x.1)

  -- a form that a token begins and two things make up
  pub both_form :
      {C : Type 0} (R : C → List Piece → Type 0) (made : A → B → Span → C) (outer : ℕ) → suc room ≡ outer → (s : Span) (p : Piece) (items r : List Item) (c : C) (rest : List Item) → items ≡ tok p ∷ r → is_flat p.kind ≡ true
      → ((x : A) (y : B) (k : Span) (left right ts : List Piece) → Wrapped k (p ∷ (left ++ right)) ts → P x left → Q y right → R (made x y k) ts)
      → NextTakes P room first → NextTakes Q room second
      → made_of made s r ≡ Ok (c, rest) → FormTook R outer c s items rest
  both_form {C} R made outer under s p items r c rest whole flat spell takes takes' e =
      let a = bind_ok (both_of room first second r) (λ x. Ok (made x.0.0.0 x.0.0.1 (around s x.0.1), x.1)) (c, rest) e in
      let t = both_takes takes takes' r a.0.0 a.0.1 a.1 in
      let d = made a.0.0.0.0 a.0.0.0.1 (around s t.last.span) in
      let same : (let x : C × List Item = (d, a.0.1) in x) ≡ (c, rest) = (λ i. (made a.0.0.0.0 a.0.0.0.1 (around s (t.place i)), a.0.1)) ∙ ok_is (made a.0.0.0.0 a.0.0.0.1 (around s a.0.0.1), a.0.1) (c, rest) a.2 in
      subst (λ (x : C × List Item). FormTook R outer x.0 s items x.1) same
      (close_took R outer room under d s (p ∷ (t.left ++ t.right)) t.last items a.0.1 t.closes (whole ∙ ap (λ (is : List Item). tok p ∷ is) t.whole) (after_flat room p (t.left ++ t.right) flat ∙ t.even)
      (λ head opens place w. spell a.0.0.0.0 a.0.0.0.1 (around s t.last.span) t.left t.right (head ∷ ((p ∷ (t.left ++ t.right)) ++ t.last ∷ [])) w t.one t.other))

  both_step : (x : A) (y : B) (k : Piece) (items r1 r2 r3 : List Item) → first items ≡ Ok (x, r1) → second r1 ≡ Ok (y, r2) → close_of room r2 ≡ Ok (k, r3) → both_of room first second items ≡ Ok (((x, y), k.span), r3)
  unfolding both_of
  both_step x y k items r1 r2 r3 e1 e2 e3 = rw (e1, e2, e3) refl

  pub both_again :
      ((x : A) (ts : List Piece) → P x ts → Level ts) → NextAgain P room first → NextAgain Q room second
      → (x : A) (y : B) (left right : List Piece) (last : Piece) (rest : List Item) → P x left → Q y right → Even room (left ++ right) → IsClose last
      → both_of room first second (toks (left ++ right) (tok last ∷ rest)) ≡ Ok (((x, y), last.span), rest)
  both_again level again again' x y left right last rest hx hy ev close =
      let k = tok last ∷ rest in
      let both = split_append room left right (level x left hx) ev in
      ap (both_of room first second) (toks-append left right k)
      ∙ both_step x y last (toks left (toks right k)) (toks right k) k rest (again x left (toks right k) hx both.0) (again' y right k hy both.1) (close_again room last rest close)
