-- The table against conditions.
use Rattle.std.proofs.Common.{◌≡◌, ℕ, zero, suc, ◌-◌, ◌<◌, Bool, true, false, cond, List, [], ◌∷◌, ◌++◌, length, Some, Ok, Err, refl, sym, ap, ◌∙◌, arith}
use Rattle.std.specs.Prelude.{◌&&◌}
use Rattle.std.proofs.lemmas.Bool.{and_parts}
use Rattle.plus_tokens.specs.declared.token.Kind.{Kind}
use Rattle.plus_tokens.specs.declared.token.Kind.TheVariants as kinds
use Rattle.plus_tokens.specs.declared.span.Span.{Span}
use Rattle.plus_tree.specs.declared.terms.Term.{Term}
use Rattle.plus_tree.specs.declared.terms.Comparison.{Comparison}
use Rattle.plus_tree.specs.declared.faults.TextFault.TheVariants as faults
use Rattle.plus_tree.specs.Cond.{Cond, c_all, c_any, c_not, c_imply, c_forall, c_exists, c_same, c_atom, c_compare, conds_of}
use Rattle.plus_parser.specs.declared.phrases.words.Allowed.TheVariants as allows
use Rattle.plus_parser.specs.declared.phrases.words.HeadWord.{HeadWord}
use Rattle.plus_parser.specs.declared.phrases.words.HeadWord.TheVariants.{Nothing, And, Or, Not, Imply, ForAll, Exists, When, Change, Compare, Plain, Other}
use Rattle.plus_tokens.specs.Items.{Piece, Item}
use Rattle.plus_parser.specs.Phrases.Reading.{◌>>=◌, Read, is_open}
use Rattle.plus_parser.specs.Phrases.Words.{kind_head, head_of, is_term}
use Rattle.plus_parser.specs.Phrases.Grammar.{around, term_of, close_of, until_close, Former, form_step, variables_of, use_end, expr_from, expr_next, expr_at}
use Rattle.plus_parser.specs.Forms.ReadingForms.{form_next, both_of, may_be_same, term_next, compared_with, compared_of, cond_with, cond_body, cond_at}
use Rattle.plus_parser.proofs.PhraseLemmas.Level.{is_flat, allowed_flat}
use Rattle.plus_parser.proofs.PhraseLemmas.Tokens.{next_some}
use Rattle.plus_parser.proofs.PhraseLemmas.Heads.{nothing_closes}
use Rattle.plus_places.specs.declared.symbols.Symbol.{Symbol}
use Rattle.plus_places.specs.declared.symbols.Symbol.TheVariants as sy
use Rattle.plus_places.specs.Table.{accept, step, expr_first, cond_inside}
use Rattle.plus_places.proofs.Goes.{room_next, Rest, taken, goes}
use Rattle.plus_places.proofs.Follows.{Follows, follows_token, follows_open, follows_close, flat_room}
use Rattle.plus_places.proofs.Turns.{after, in_turn, in_turns, then_same, Inside, forms_follow, args_follow}
use Rattle.plus_places.proofs.Lists.{variables_follow}
use Rattle.plus_places.proofs.Exprs.{from_follows, expr_follow, expr_inside_follow}

-- a form in parentheses
pub next_follow : {A : Type 0} (outer inside : Symbol) → ((p : Piece) → step outer p ≡ accept (is_open p.kind) (inside ∷ [])) → (room : ℕ) (read : Former A) → Inside inside room read → Follows room room (outer ∷ []) (form_next room read)
unfolding form_next
next_follow outer inside steps room read F st items =
    follows_open room outer (inside ∷ []) st items (λ o. read o.0.span o.1) (λ x. goes room st x.1) steps (λ lt o rest. F lt o.span st rest)

-- two things and a closing parenthesis
pub both_follow : {A B : Type 0} (room : ℕ) (s t : Symbol) (first : List Item → Read A) (second : List Item → Read B) → Follows room room (s ∷ []) first → Follows room room (t ∷ []) second → Follows room (suc room) (s ∷ t ∷ sy.Close ∷ []) (both_of room first second)
unfolding both_of
both_follow {A} {B} room s t first second F G st items =
    let k = λ (x : ((A × B) × Span) × List Item). goes (suc room) st x.1 in
    in_turn room room s (t ∷ sy.Close ∷ st) items first (λ x. second x.1 >>= λ y. close_of room y.1 >>= λ e. Ok (((x.0, y.0), e.0.span), e.1)) k F (λ x.
    in_turn room room t (sy.Close ∷ st) x.1 second (λ y. close_of room y.1 >>= λ e. Ok (((x.0, y.0), e.0.span), e.1)) k G (λ y.
    follows_close room st y.1 (λ e. Ok (((x.0, y.0), e.0.span), e.1)) k (λ e rest. refl)))

pub term_follow : (room : ℕ) → Follows room room (sy.Term ∷ []) (term_next room)
unfolding term_next
term_follow room st items =
    follows_token room sy.Term st items (λ p. cond {A = Read Term} (is_term p.0.kind) (Ok (term_of p.0, p.1)) (Err (faults.Form p.0.span))) (λ x. goes room st x.1) (λ p rest e. at_test p rest (is_term p.kind) refl)
  where
    at_test : (p : Piece) (rest : List Item) (b : Bool) → is_term p.kind ≡ b → taken (accept b []) p (after room p st rest) ≡ (cond {A = Read Term} b (Ok (term_of p, rest)) (Err (faults.Form p.span)) >>= λ x. goes room st x.1)
    at_test p rest true e = ap (λ r. goes r st rest) (flat_room p.kind room (allowed_flat allows.Terms p.kind e))
    at_test p rest false e = refl

compared_follow : (sign : Comparison) (room : ℕ) (front : Span) → Follows room (suc room) (sy.Compared (may_be_same sign) ∷ []) (compared_of sign room front)
unfolding compared_of
compared_follow sign room front st items =
    follows_token room (sy.Compared (may_be_same sign)) st items (λ p. compared_with sign room front p.0 p.1 (may_be_same sign && is_term p.0.kind)) (λ x. goes (suc room) st x.1) (λ p rest e. at_test p rest (next_some room items p rest e) (may_be_same sign && is_term p.kind) refl)
  where
    at_test : (p : Piece) (rest : List Item) → (is_open p.kind ≡ true → 0 < room) → (b : Bool) → (may_be_same sign && is_term p.kind) ≡ b
        → taken (cond b (Some (sy.Term ∷ sy.Close ∷ [])) (expr_first p (sy.Expr ∷ sy.Close ∷ []))) p (after room p st rest) ≡ (compared_with sign room front p rest b >>= λ x. goes (suc room) st x.1)
    at_test p rest left true e =
        ap (λ r. goes r (sy.Term ∷ sy.Close ∷ st) rest) (flat_room p.kind room (allowed_flat allows.Terms p.kind (and_parts (may_be_same sign) (is_term p.kind) e).1))
        ∙ in_turn room room sy.Term (sy.Close ∷ st) rest (term_next room) (λ t. close_of room t.1 >>= λ e. Ok (c_same (term_of p) t.0 (around front e.0.span), e.1)) (λ x. goes (suc room) st x.1) (term_follow room) (λ t.
        follows_close room st t.1 (λ e. Ok (c_same (term_of p) t.0 (around front e.0.span), e.1)) (λ x. goes (suc room) st x.1) (λ e rest. refl))
    at_test p rest left false e =
        from_follows room (expr_at room) (expr_inside_follow room) p (sy.Expr ∷ sy.Close ∷ []) st rest left
        ∙ then_same (expr_from (expr_at room) p rest) (λ x. goes room (sy.Expr ∷ sy.Close ∷ st) x.1) (λ x. expr_next room (expr_at room) x.1 >>= λ y. close_of room y.1 >>= λ e. Ok (c_compare sign x.0 y.0 (around front e.0.span), e.1)) (λ x. goes (suc room) st x.1) (λ x.
        in_turn room room sy.Expr (sy.Close ∷ st) x.1 (expr_next room (expr_at room)) (λ y. close_of room y.1 >>= λ e. Ok (c_compare sign x.0 y.0 (around front e.0.span), e.1)) (λ x. goes (suc room) st x.1) (expr_follow room (expr_at room) (expr_inside_follow room)) (λ y.
        follows_close room st y.1 (λ e. Ok (c_compare sign x.0 y.0 (around front e.0.span), e.1)) (λ x. goes (suc room) st x.1) (λ e rest. refl)))

pub flat_head : (k : Kind) (w : List ℕ) (h : HeadWord) → kind_head k w ≡ h → (Other ≡ h → ⊥) → (Nothing ≡ h → ⊥) → is_flat k ≡ true
flat_head kinds.Open w h e n m = absurd (n e)
flat_head kinds.Close w h e n m = absurd (m e)
flat_head _ w h e n m = refl

module _ (room : ℕ) (nested : Former Cond) (N : Inside sy.CondInside room nested) where
  cond_follow : Follows room room (sy.Cond ∷ []) (form_next room nested)
  cond_follow = next_follow sy.Cond sy.CondInside (λ p. refl) room nested N

  conds_follow : Follows room (suc room) (sy.Conds ∷ []) (λ items. until_close (form_step nested) room (length items) [] items)
  conds_follow = forms_follow sy.Conds sy.CondInside (λ p. refl) room nested N

  body_follow : (front : Span) → Follows room (suc room) (sy.CondInside ∷ []) (cond_body room nested front)
  unfolding cond_body
  body_follow front st items =
      follows_token room sy.CondInside st items (λ p. cond_with room nested front p.0 p.1 (head_of p.0)) (λ x. goes (suc room) st x.1) (λ p rest e. at_head p rest (head_of p) refl)
    where
      k : Cond × List Item → Rest
      k x = goes (suc room) st x.1

      flat : (p : Piece) (rest : List Item) (h : HeadWord) (ks : List Symbol) → head_of p ≡ h → (Other ≡ h → ⊥) → (Nothing ≡ h → ⊥) → goes (room_next p.kind room) (ks ++ st) rest ≡ goes room (ks ++ st) rest
      flat p rest h ks e n m = ap (λ r. goes r (ks ++ st) rest) (flat_room p.kind room (flat_head p.kind p.word h e n m))

      at_head : (p : Piece) (rest : List Item) (h : HeadWord) → head_of p ≡ h → taken (cond_inside h) p (after room p st rest) ≡ (cond_with room nested front p rest h >>= λ x. goes (suc room) st x.1)
      at_head p rest Nothing h = ap (λ q. goes (room_next q room) st rest) (nothing_closes p h)
      at_head p rest And h =
          flat p rest And (sy.Conds ∷ []) h (λ z. cc) (λ z. cc)
          ∙ in_turn room (suc room) sy.Conds st rest (λ items. until_close (form_step nested) room (length items) [] items) (λ cs. Ok (c_all (conds_of cs.0.0) (around front cs.0.1), cs.1)) (λ x. goes (suc room) st x.1) conds_follow (λ x. refl)
      at_head p rest Or h =
          flat p rest Or (sy.Conds ∷ []) h (λ z. cc) (λ z. cc)
          ∙ in_turn room (suc room) sy.Conds st rest (λ items. until_close (form_step nested) room (length items) [] items) (λ cs. Ok (c_any (conds_of cs.0.0) (around front cs.0.1), cs.1)) (λ x. goes (suc room) st x.1) conds_follow (λ x. refl)
      at_head p rest Not h =
          flat p rest Not (sy.Cond ∷ sy.Close ∷ []) h (λ z. cc) (λ z. cc)
          ∙ follows_open room sy.Cond (sy.CondInside ∷ []) (sy.Close ∷ st) rest (λ o. nested o.0.span o.1 >>= λ c. close_of room c.1 >>= λ e. Ok (c_not c.0 (around front e.0.span), e.1)) (λ x. goes (suc room) st x.1) (λ p. refl) (λ lt o rest.
          in_turn (room - 1) room sy.CondInside (sy.Close ∷ st) rest (nested o.span) (λ c. close_of room c.1 >>= λ e. Ok (c_not c.0 (around front e.0.span), e.1)) (λ x. goes (suc room) st x.1) (N lt o.span) (λ c.
          follows_close room st c.1 (λ e. Ok (c_not c.0 (around front e.0.span), e.1)) (λ x. goes (suc room) st x.1) (λ e rest. refl)))
      at_head p rest Imply h =
          flat p rest Imply (sy.Cond ∷ sy.Cond ∷ sy.Close ∷ []) h (λ z. cc) (λ z. cc)
          ∙ in_turns room (suc room) (sy.Cond ∷ sy.Cond ∷ sy.Close ∷ []) st rest (both_of room (form_next room nested) (form_next room nested)) (λ x. Ok (c_imply x.0.0.0 x.0.0.1 (around front x.0.1), x.1)) (λ x. goes (suc room) st x.1)
          (both_follow room sy.Cond sy.Cond (form_next room nested) (form_next room nested) cond_follow cond_follow) (λ x. refl)
      at_head p rest ForAll h =
          flat p rest ForAll (sy.Variables ∷ sy.Cond ∷ sy.Close ∷ []) h (λ z. cc) (λ z. cc)
          ∙ in_turns room (suc room) (sy.Variables ∷ sy.Cond ∷ sy.Close ∷ []) st rest (both_of room (variables_of room) (form_next room nested)) (λ x. Ok (c_forall x.0.0.0 x.0.0.1 (around front x.0.1), x.1)) (λ x. goes (suc room) st x.1)
          (both_follow room sy.Variables sy.Cond (variables_of room) (form_next room nested) (variables_follow room) cond_follow) (λ x. refl)
      at_head p rest Exists h =
          flat p rest Exists (sy.Variables ∷ sy.Cond ∷ sy.Close ∷ []) h (λ z. cc) (λ z. cc)
          ∙ in_turns room (suc room) (sy.Variables ∷ sy.Cond ∷ sy.Close ∷ []) st rest (both_of room (variables_of room) (form_next room nested)) (λ x. Ok (c_exists x.0.0.0 x.0.0.1 (around front x.0.1), x.1)) (λ x. goes (suc room) st x.1)
          (both_follow room sy.Variables sy.Cond (variables_of room) (form_next room nested) (variables_follow room) cond_follow) (λ x. refl)
      at_head p rest (Compare sign) h =
          flat p rest (Compare sign) (sy.Compared (may_be_same sign) ∷ []) h (λ z. cc) (λ z. cc)
          ∙ compared_follow sign room front st rest
      at_head p rest Plain h =
          flat p rest Plain (sy.Arguments allows.Terms ∷ []) h (λ z. cc) (λ z. cc)
          ∙ in_turn room (suc room) (sy.Arguments allows.Terms) st rest (use_end allows.Terms room front p) (λ u. Ok (c_atom u.0 u.0.span, u.1)) (λ x. goes (suc room) st x.1) (args_follow allows.Terms room front p) (λ x. refl)
      at_head p rest When h = refl
      at_head p rest (Change change) h = refl
      at_head p rest Other h = refl

-- behind the parenthesis that takes one of so many places
pub cond_inside_follow : (room : ℕ) → Inside sy.CondInside room (cond_at room)
unfolding cond_at
cond_inside_follow zero lt front st items = absurd (omega (arith, lt))
cond_inside_follow (suc room) lt front st items =
    let same : room ≡ suc room - 1 = omega arith in
    ap (λ r. goes r (sy.CondInside ∷ st) items) (sym same) ∙ body_follow room (cond_at room) (cond_inside_follow room) front st items
