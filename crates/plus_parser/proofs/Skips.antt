-- Skipping tokens up to a closing parenthesis: as a loop does, and against the relation.
use Rattle.std.proofs.Common.{◌≡◌, ℕ, zero, suc, ◌+◌, ◌-◌, ◌<◌, ◌≤◌, true, false, List, [], ◌∷◌, length, Some, None, Ok, Err, refl, sym, ap, ◌∙◌, inl, inr, ⊎_elim, arith}
use Rattle.std.specs.Prelude.{◌⊎◌}
use Rattle.plus_tokens.specs.declared.token.Kind.{Kind}
use Rattle.plus_tokens.specs.declared.token.Kind.TheVariants as kinds
use Rattle.plus_tokens.specs.declared.span.Span.{Span}
use Rattle.plus_tree.specs.declared.faults.TextFault.{TextFault}
use Rattle.plus_tree.specs.declared.faults.TextFault.TheVariants as faults
use Rattle.plus_tokens.specs.Items.{Piece, Item, tok}
use Rattle.plus_parser.specs.Phrases.Reading.{◌>>=◌, Read, next_of, is_open}
use Rattle.plus_parser.specs.Phrases.Words.{is_close}
use Rattle.plus_parser.specs.Phrases.Spells.{IsClose, room_step, room_after}
use Rattle.plus_parser.proofs.PhraseLemmas.Tokens.{toks, bind_ok, ok_is, next_ok, next_some, next_again, next_there, open_kind, close_kind}
use Rattle.plus_parser.proofs.PhraseLemmas.Level.{Level}
use Rattle.plus_parser.specs.Balanced.{open_step, open_after, IsBalanced, Skipper, skip_with, skip, skipped}

nothing_left : (rest : List Item) → length rest ≤ 0 → rest ≡ []
nothing_left [] le = refl
nothing_left (x ∷ xs) le = absurd (omega (arith, le))

-- ---- as a loop does

pub record Skips (room n : ℕ) (rest : List Item) (total : Read Span) (most : ℕ) : Type 0 where
  pub turns : ℕ
  pub enough : length rest ≤ turns
  pub no_longer : length rest ≤ most
  pub same : skip turns room n rest ≡ total

pub skip_stops : (room n : ℕ) (rest : List Item) (total : Read Span) (most : ℕ) (f : TextFault) → Skips room n rest total most → next_of room rest ≡ Err f → total ≡ Err f
unfolding skip
skip_stops room n rest total most f g e = at_turns g.turns g.enough g.same
  where
    at_turns : (k : ℕ) → length rest ≤ k → skip k room n rest ≡ total → total ≡ Err f
    at_turns zero le same =
        let none : faults.Unclosed ≡ f = (let h : next_of room [] ≡ Err f = ap (next_of room) (sym (nothing_left rest le)) ∙ e in cc) in
        sym same ∙ ap Err none
    at_turns (suc k) le same = sym same ∙ ap (λ (r : Read Piece). r >>= λ p. skip_with p.0.kind (skip k) room n p.0.span p.1) e

at_token : (room n : ℕ) (rest rest' : List Item) (total : Read Span) (most : ℕ) (p : Piece) (kind : Kind) → Skips room n rest total most → length rest' < length rest → next_of room rest ≡ Ok (p, rest') → p.kind ≡ kind → (k : ℕ) × (length rest' ≤ k) × (skip_with kind (skip k) room n p.span rest' ≡ total)
unfolding skip
at_token room n rest rest' total most p kind g lt e is = at_turns g.turns g.enough g.same
  where
    at_turns : (k : ℕ) → length rest ≤ k → skip k room n rest ≡ total → (k : ℕ) × (length rest' ≤ k) × (skip_with kind (skip k) room n p.span rest' ≡ total)
    at_turns zero le same = absurd (omega arith)
    at_turns (suc k) le same =
        (k, omega arith, ap (λ q. skip_with q (skip k) room n p.span rest') (sym is) ∙ sym (ap (λ (r : Read Piece). r >>= λ p. skip_with p.0.kind (skip k) room n p.0.span p.1) e) ∙ same)

pub skip_opens : (room n : ℕ) (rest rest' : List Item) (total : Read Span) (most : ℕ) (p : Piece) → Skips room n rest total most → length rest' < length rest → next_of room rest ≡ Ok (p, rest') → is_open p.kind ≡ true → Skips (room - 1) (n + 1) rest' total most
skip_opens room n rest rest' total most p g lt e o =
    let h = at_token room n rest rest' total most p kinds.Open g lt e (open_kind p.kind o) in
    let more : n + 1 ≡ suc n = omega arith in
    record { turns = h.0; enough = h.1; no_longer = omega (arith, g.no_longer); same = ap (λ m. skip h.0 (room - 1) m rest') more ∙ h.2 }

pub skip_ends : (room n : ℕ) (rest rest' : List Item) (total : Read Span) (most : ℕ) (p : Piece) → Skips room n rest total most → n ≡ 0 → length rest' < length rest → next_of room rest ≡ Ok (p, rest') → is_close p.kind ≡ true → total ≡ Ok (p.span, rest')
skip_ends room n rest rest' total most p g none lt e c =
    let h = at_token room n rest rest' total most p kinds.Close g lt e (close_kind p.kind c) in
    sym h.2 ∙ ap (λ m. skip_with kinds.Close (skip h.0) room m p.span rest') none

pub skip_closes : (room n : ℕ) (rest rest' : List Item) (total : Read Span) (most : ℕ) (p : Piece) → Skips room n rest total most → 0 < n → length rest' < length rest → next_of room rest ≡ Ok (p, rest') → is_close p.kind ≡ true → Skips (room + 1) (n - 1) rest' total most
skip_closes room zero rest rest' total most p g some lt e c = absurd (omega (arith, some))
skip_closes room (suc n) rest rest' total most p g some lt e c =
    let h = at_token room (suc n) rest rest' total most p kinds.Close g lt e (close_kind p.kind c) in
    let less : n ≡ suc n - 1 = omega arith in
    record { turns = h.0; enough = h.1; no_longer = omega (arith, g.no_longer); same = ap (λ m. skip h.0 (room + 1) m rest') (sym less) ∙ h.2 }

flat_way : (k : Kind) (more : Skipper) (room n : ℕ) (s : Span) (rest : List Item) → is_open k ≡ false → is_close k ≡ false → skip_with k more room n s rest ≡ more room n rest
flat_way kinds.Open more room n s rest o c = absurd cc
flat_way kinds.Close more room n s rest o c = absurd cc
flat_way _ more room n s rest o c = refl

pub skip_passes : (room n : ℕ) (rest rest' : List Item) (total : Read Span) (most : ℕ) (p : Piece) → Skips room n rest total most → length rest' < length rest → next_of room rest ≡ Ok (p, rest') → is_open p.kind ≡ false → is_close p.kind ≡ false → Skips room n rest' total most
skip_passes room n rest rest' total most p g lt e o c =
    let h = at_token room n rest rest' total most p p.kind g lt e refl in
    record { turns = h.0; enough = h.1; no_longer = omega (arith, g.no_longer); same = sym (flat_way p.kind (skip h.0) room n p.span rest' o c) ∙ h.2 }

-- ---- against the relation

pub record SkipTook (room n : ℕ) (k : Span) (items rest : List Item) : Type 0 where
  pub inner : List Piece
  pub last : Piece
  pub closes : IsClose last
  pub place : last.span ≡ k
  pub whole : items ≡ toks inner (tok last ∷ rest)
  pub balanced : open_after n inner ≡ Some 0
  pub even : room_after room inner ≡ Some (room + n)

more_took : (room n room' n' : ℕ) (k : Span) (p : Piece) (items r rest : List Item) → items ≡ tok p ∷ r
    → ((ps : List Piece) → open_after n (p ∷ ps) ≡ open_after n' ps) → ((ps : List Piece) → room_after room (p ∷ ps) ≡ room_after room' ps) → room' + n' ≡ room + n
    → SkipTook room' n' k r rest → SkipTook room n k items rest
more_took room n room' n' k p items r rest whole opens rooms sum t = record {
  inner = p ∷ t.inner;
  last = t.last;
  closes = t.closes;
  place = t.place;
  whole = whole ∙ ap (λ (is : List Item). tok p ∷ is) t.whole;
  balanced = opens t.inner ∙ t.balanced;
  even = rooms t.inner ∙ t.even ∙ ap Some sum;
}

open_room : (room : ℕ) → 0 < room → (ps : List Piece) → room_step kinds.Open room (λ j. room_after j ps) ≡ room_after (room - 1) ps
open_room zero lt ps = absurd (omega (arith, lt))
open_room (suc room) lt ps = let less : room ≡ suc room - 1 = omega arith in ap (λ j. room_after j ps) less

pub skip_takes : (turns room n : ℕ) (k : Span) (items rest : List Item) → skip turns room n items ≡ Ok (k, rest) → SkipTook room n k items rest
unfolding skip
skip_takes zero room n k items rest e = absurd cc
skip_takes (suc turns) room n k items rest e =
    let a = bind_ok (next_of room items) (λ p. skip_with p.0.kind (skip turns) room n p.0.span p.1) (k, rest) e in
    at_kind (skip_takes turns) a.0.0 a.0.1 (next_ok room items a.0.0 a.0.1 a.1) (next_some room items a.0.0 a.0.1 a.1) n refl a.0.0.kind refl a.2
  where
    at_kind : ((room n : ℕ) (k : Span) (items rest : List Item) → skip turns room n items ≡ Ok (k, rest) → SkipTook room n k items rest)
        → (p : Piece) (r : List Item) → items ≡ tok p ∷ r → (is_open p.kind ≡ true → 0 < room) → (m : ℕ) → n ≡ m → (kind : Kind) → p.kind ≡ kind → skip_with kind (skip turns) room m p.span r ≡ Ok (k, rest) → SkipTook room n k items rest
    at_kind again p r whole some m is kinds.Open o e =
        let lt : 0 < room = some (ap is_open o) in
        let sum : (room - 1) + suc m ≡ room + n = omega (arith, lt, is) in
        more_took room n (room - 1) (suc m) k p items r rest whole (λ ps. ap (λ q. open_step q n (λ j. open_after j ps)) o ∙ ap (λ j. open_after (suc j) ps) is)
        (λ ps. ap (λ q. room_step q room (λ j. room_after j ps)) o ∙ open_room room lt ps) sum (again (room - 1) (suc m) k r rest e)
    at_kind again p r whole some zero is kinds.Close o e =
        let both = ok_is (p.span, r) (k, rest) e in
        record {
          inner = [];
          last = p;
          closes = o;
          place = ap (λ (x : Span × List Item). x.0) both;
          whole = whole ∙ ap (λ (x : Span × List Item). tok p ∷ x.1) both;
          balanced = ap Some is;
          even = (let sum : room ≡ room + n = omega (arith, is) in ap Some sum);
        }
    at_kind again p r whole some (suc m) is kinds.Close o e =
        let sum : (room + 1) + m ≡ room + n = omega (arith, is) in
        more_took room n (room + 1) m k p items r rest whole (λ ps. ap (λ q. open_step q n (λ j. open_after j ps)) o ∙ ap (λ j. open_step kinds.Close j (λ i. open_after i ps)) is)
        (λ ps. ap (λ q. room_step q room (λ j. room_after j ps)) o) sum (again (room + 1) m k r rest e)
    at_kind again p r whole some m is _ o e =
        let sum : room + m ≡ room + n = omega (arith, is) in
        more_took room n room m k p items r rest whole (λ ps. ap (λ q. open_step q n (λ j. open_after j ps)) o ∙ ap (λ j. open_after j ps) is)
        (λ ps. ap (λ q. room_step q room (λ j. room_after j ps)) o) sum (again room m k r rest e)

turn : (turns room n : ℕ) (p : Piece) (items r : List Item) (k : Span) (rest : List Item) → next_of room items ≡ Ok (p, r) → skip_with p.kind (skip turns) room n p.span r ≡ Ok (k, rest) → skip (suc turns) room n items ≡ Ok (k, rest)
unfolding skip
turn turns room n p items r k rest e f = ap (λ (q : Read Piece). q >>= λ p. skip_with p.0.kind (skip turns) room n p.0.span p.1) e ∙ f

pub skip_again : (turns room n : ℕ) (ts : List Piece) (last : Piece) (rest : List Item) → open_after n ts ≡ Some 0 → room_after room ts ≡ Some (room + n) → IsClose last → length ts < turns → skip turns room n (toks ts (tok last ∷ rest)) ≡ Ok (last.span, rest)
skip_again zero room n ts last rest b ev close lt = absurd (omega (arith, lt))
skip_again (suc turns) room n [] last rest b ev close lt =
    let none : n ≡ 0 = cc in
    turn turns room n last (tok last ∷ rest) rest last.span rest (next_again room last rest (ap is_open close))
    (ap (λ q. skip_with q (skip turns) room n last.span rest) close ∙ ap (λ m. skip_with kinds.Close (skip turns) room m last.span rest) none)
skip_again (suc turns) room n (p ∷ ps) last rest b ev close lt = at_kind (skip_again turns) room n p.kind refl b ev
  where
    left : List Item
    left = toks ps (tok last ∷ rest)

    at_kind : ((room n : ℕ) (ts : List Piece) (last : Piece) (rest : List Item) → open_after n ts ≡ Some 0 → room_after room ts ≡ Some (room + n) → IsClose last → length ts < turns → skip turns room n (toks ts (tok last ∷ rest)) ≡ Ok (last.span, rest))
        → (room n : ℕ) → (kind : Kind) → p.kind ≡ kind → open_step kind n (λ m. open_after m ps) ≡ Some 0 → room_step kind room (λ m. room_after m ps) ≡ Some (room + n) → skip (suc turns) room n (tok p ∷ toks ps (tok last ∷ rest)) ≡ Ok (last.span, rest)
    at_kind again zero n kinds.Open o b ev = absurd cc
    at_kind again (suc room) n kinds.Open o b ev =
        let less : room ≡ suc room - 1 = omega arith in
        let sum : suc room + n ≡ room + suc n = omega arith in
        let some : 0 < suc room = omega arith in
        turn turns (suc room) n p (tok p ∷ left) left last.span rest (next_there (suc room) p left (λ x. some))
        (ap (λ q. skip_with q (skip turns) (suc room) n p.span left) o ∙ ap (λ m. skip turns m (suc n) left) (sym less) ∙ again room (suc n) ps last rest b (ev ∙ ap Some sum) close (omega (arith, lt)))
    at_kind again room zero kinds.Close o b ev = absurd cc
    at_kind again room (suc n) kinds.Close o b ev =
        let sum : room + suc n ≡ (room + 1) + n = omega arith in
        turn turns room (suc n) p (tok p ∷ left) left last.span rest (next_again room p left (ap is_open o))
        (ap (λ q. skip_with q (skip turns) room (suc n) p.span left) o ∙ again (room + 1) n ps last rest b (ev ∙ ap Some sum) close (omega (arith, lt)))
    at_kind again room n _ o b ev =
        turn turns room n p (tok p ∷ left) left last.span rest (next_again room p left (ap is_open o))
        (ap (λ q. skip_with q (skip turns) room n p.span left) o ∙ again room n ps last rest b ev close (omega (arith, lt)))

-- balanced tokens leave as much room as they find, where it is enough
level_after : (ts : List Piece) (room n : ℕ) → open_after n ts ≡ Some 0 → (room_after room ts ≡ Some (room + n)) ⊎ (room_after room ts ≡ None)
level_after [] room n b =
    let none : n ≡ 0 = cc in
    let sum : room ≡ room + n = omega (arith, none) in
    inl (ap Some sum)
level_after (p ∷ ps) room n b = at_kind (level_after ps) p.kind room n b
  where
    at_kind : ((room n : ℕ) → open_after n ps ≡ Some 0 → (room_after room ps ≡ Some (room + n)) ⊎ (room_after room ps ≡ None))
        → (kind : Kind) (room n : ℕ) → open_step kind n (λ m. open_after m ps) ≡ Some 0 → (room_step kind room (λ m. room_after m ps) ≡ Some (room + n)) ⊎ (room_step kind room (λ m. room_after m ps) ≡ None)
    at_kind again kinds.Open zero n b = inr refl
    at_kind again kinds.Open (suc room) n b = let sum : room + suc n ≡ suc room + n = omega arith in ⊎_elim (λ e. inl (e ∙ ap Some sum)) (λ e. inr e) (again room (suc n) b)
    at_kind again kinds.Close room zero b = absurd cc
    at_kind again kinds.Close room (suc n) b = let sum : (room + 1) + n ≡ room + suc n = omega arith in ⊎_elim (λ e. inl (e ∙ ap Some sum)) (λ e. inr e) (again (room + 1) n b)
    at_kind again _ room n b = again room n b

pub level_balanced : (ts : List Piece) → IsBalanced ts → Level ts
level_balanced ts b room = let sum : room + 0 ≡ room = omega arith in ⊎_elim (λ e. inl (e ∙ ap Some sum)) (λ e. inr e) (level_after ts room 0 b)
