-- Reading up to the closing parenthesis, as a loop does.
use Rattle.std.proofs.Common.{◌≡◌, ℕ, zero, suc, ◌<◌, ◌≤◌, Bool, true, false, List, [], ◌∷◌, length, Result, Ok, Err, refl, sym, ap, ◌∙◌, arith}
use Rattle.plus_tokens.specs.declared.span.Span.{Span}
use Rattle.plus_tree.specs.declared.faults.TextFault.{TextFault}
use Rattle.plus_tree.specs.declared.faults.TextFault.TheVariants as faults
use Rattle.plus_tokens.specs.Items.{Piece, Item}
use Rattle.plus_parser.specs.Phrases.Reading.{◌>>=◌, Read, Fails, next_of}
use Rattle.plus_parser.specs.Phrases.Words.{is_close}
use Rattle.plus_parser.specs.Phrases.Grammar.{Step, at_close, until_close}

-- a fault that passes through
pub fails_along : {X Y : Type 0} (e : TextFault) (r : Result X TextFault) (total : Result Y TextFault) → ((f : TextFault) → r ≡ Err f → total ≡ Err f) → Fails e r → Fails e total
fails_along (faults.Lex f) r total go h = go (faults.Lex f) h
fails_along faults.Unclosed r total go h = go faults.Unclosed h
fails_along (faults.Depth at) r total go h = go (faults.Depth at) h
fails_along (faults.Form s) r total go h = go (faults.Form s) h
fails_along faults.Memory r total go h = tt

module _ {S : Type 0} (step : Step S) (room : ℕ) where
  -- the loop stands at s, and what is left gives the whole answer
  pub record Stays (s : S) (rest : List Item) (total : Read (S × Span)) (most : ℕ) : Type 0 where
    pub turns : ℕ
    pub enough : length rest ≤ turns
    pub no_longer : length rest ≤ most
    pub same : until_close step room turns s rest ≡ total

  nothing_left : (rest : List Item) → length rest ≤ 0 → rest ≡ []
  nothing_left [] le = refl
  nothing_left (i ∷ is) le = absurd (omega arith)

  pub stops : (s : S) (rest : List Item) (total : Read (S × Span)) (most : ℕ) (f : TextFault) → Stays s rest total most → next_of room rest ≡ Err f → total ≡ Err f
  unfolding until_close
  stops s rest total most f g e = at_turns g.turns g.enough g.same
    where
      at_turns : (n : ℕ) → length rest ≤ n → until_close step room n s rest ≡ total → total ≡ Err f
      at_turns zero le same =
          let none : faults.Unclosed ≡ f = (let h : next_of room [] ≡ Err f = ap (next_of room) (sym (nothing_left rest le)) ∙ e in cc) in
          sym same ∙ ap Err none
      at_turns (suc n) le same =
          sym same ∙ ap (λ (r : Read Piece). r >>= λ p. at_close step (until_close step room n) s p.0 p.1 (is_close p.0.kind)) e

  at_token : (s : S) (rest rest' : List Item) (total : Read (S × Span)) (most : ℕ) (p : Piece) (b : Bool) → Stays s rest total most → length rest' < length rest → next_of room rest ≡ Ok (p, rest') → is_close p.kind ≡ b → (n : ℕ) × (length rest' ≤ n) × (at_close step (until_close step room n) s p rest' b ≡ total)
  unfolding until_close
  at_token s rest rest' total most p b g lt e c = at_turns g.turns g.enough g.same
    where
      at_turns : (n : ℕ) → length rest ≤ n → until_close step room n s rest ≡ total → (k : ℕ) × (length rest' ≤ k) × (at_close step (until_close step room k) s p rest' b ≡ total)
      at_turns zero le same = absurd (omega arith)
      at_turns (suc n) le same =
          (n, omega arith, ap (at_close step (until_close step room n) s p rest') (sym c) ∙ sym (ap (λ (r : Read Piece). r >>= λ p. at_close step (until_close step room n) s p.0 p.1 (is_close p.0.kind)) e) ∙ same)

  pub closes : (s : S) (rest rest' : List Item) (total : Read (S × Span)) (most : ℕ) (p : Piece) → Stays s rest total most → length rest' < length rest → next_of room rest ≡ Ok (p, rest') → is_close p.kind ≡ true → total ≡ Ok ((s, p.span), rest')
  closes s rest rest' total most p g lt e c = let h = at_token s rest rest' total most p true g lt e c in sym h.2

  pub fails : (s : S) (rest rest' : List Item) (total : Read (S × Span)) (most : ℕ) (p : Piece) (f : TextFault) → Stays s rest total most → length rest' < length rest → next_of room rest ≡ Ok (p, rest') → is_close p.kind ≡ false → step s p rest' ≡ Err f → total ≡ Err f
  fails s rest rest' total most p f g lt e c none =
      let h = at_token s rest rest' total most p false g lt e c in
      sym h.2 ∙ ap (λ (r : Read S). r >>= λ x. until_close step room h.0 x.0 x.1) none

  pub goes_on : (s s' : S) (rest rest' after : List Item) (total : Read (S × Span)) (most : ℕ) (p : Piece) → Stays s rest total most → length rest' < length rest → length after ≤ length rest' → next_of room rest ≡ Ok (p, rest') → is_close p.kind ≡ false → step s p rest' ≡ Ok (s', after) → Stays s' after total most
  goes_on s s' rest rest' after total most p g lt le e c one =
      let h = at_token s rest rest' total most p false g lt e c in
      record {
        turns = h.0;
        enough = omega (arith, h.1);
        no_longer = omega (arith, g.no_longer);
        same = sym (ap (λ (r : Read S). r >>= λ x. until_close step room h.0 x.0 x.1) one) ∙ h.2;
      }
