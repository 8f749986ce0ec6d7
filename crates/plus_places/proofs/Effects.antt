-- The table against leaves and effects.
use Rattle.std.proofs.Common.{◌≡◌, ℕ, zero, suc, ◌-◌, List, [], ◌∷◌, ◌++◌, length, Ok, refl, sym, ap, ◌∙◌, arith}
use Rattle.plus_tokens.specs.declared.span.Span.{Span}
use Rattle.plus_tree.specs.declared.trees.Leaf.{Leaf}
use Rattle.plus_tree.specs.Effect.{Effect, e_all, e_forall, e_when, e_leaf, effects_of}
use Rattle.plus_parser.specs.declared.phrases.words.Allowed.TheVariants as allows
use Rattle.plus_parser.specs.declared.phrases.words.HeadWord.{HeadWord}
use Rattle.plus_parser.specs.declared.phrases.words.HeadWord.TheVariants.{Nothing, And, Not, ForAll, When, Change, Plain, Other}
use Rattle.plus_tokens.specs.Items.{Piece, Item}
use Rattle.plus_parser.specs.Phrases.Reading.{◌>>=◌, Read, next_of}
use Rattle.plus_parser.specs.Phrases.Words.{head_of}
use Rattle.plus_parser.specs.Phrases.Grammar.{around, close_of, until_close, Former, form_step, variables_of, use_end, use_form, expr_next, expr_at}
use Rattle.plus_parser.specs.Forms.ReadingForms.{form_next, both_of, cond_at, add_of, delete_of, change_of, leaf_with, leaf_behind, leaf_at, simple_with, simple_at, effect_with, effect_body, effect_at}
use Rattle.plus_parser.proofs.PhraseLemmas.Heads.{nothing_closes}
use Rattle.plus_places.specs.declared.symbols.Symbol.{Symbol}
use Rattle.plus_places.specs.declared.symbols.Symbol.TheVariants as sy
use Rattle.plus_places.specs.Table.{leaf_inside, simple_inside, effect_inside}
use Rattle.plus_places.proofs.Goes.{room_next, Rest, taken, goes}
use Rattle.plus_places.proofs.Follows.{bind_assoc, Follows, follows_token, follows_close, flat_room}
use Rattle.plus_places.proofs.Turns.{after, in_turn, in_turns, Inside, forms_follow, under, args_follow, use_follow}
use Rattle.plus_places.proofs.Lists.{variables_follow}
use Rattle.plus_places.proofs.Exprs.{expr_follow, expr_inside_follow}
use Rattle.plus_places.proofs.Conds.{flat_head, next_follow, both_follow, cond_inside_follow}

module _ (room : ℕ) (front : Span) (st : List Symbol) where
  flat : (p : Piece) (rest : List Item) (h : HeadWord) (ks : List Symbol) → head_of p ≡ h → (Other ≡ h → ⊥) → (Nothing ≡ h → ⊥) → goes (room_next p.kind room) (ks ++ st) rest ≡ goes room (ks ++ st) rest
  flat p rest h ks e n m = ap (λ r. goes r (ks ++ st) rest) (flat_room p.kind room (flat_head p.kind p.word h e n m))

  abbrev k : {A : Type 0} → A × List Item → Rest
  k x = goes (suc room) st x.1

  leaf_head : (p : Piece) (rest : List Item) (h : HeadWord) → head_of p ≡ h → taken (leaf_inside h) p (after room p st rest) ≡ (leaf_with room front p rest h >>= k)
  leaf_head p rest Not h =
      flat p rest Not (sy.Use allows.Terms ∷ sy.Close ∷ []) h (λ z. cc) (λ z. cc)
      ∙ in_turn room room (sy.Use allows.Terms) (sy.Close ∷ st) rest (use_form allows.Terms room) (λ u. close_of room u.1 >>= λ e. Ok (delete_of u.0 (around front e.0.span), e.1)) k (use_follow allows.Terms room) (λ u.
      follows_close room st u.1 (λ e. Ok (delete_of u.0 (around front e.0.span), e.1)) k (λ e rest. refl))
  leaf_head p rest (Change change) h =
      flat p rest (Change change) (sy.Use allows.Terms ∷ sy.Expr ∷ sy.Close ∷ []) h (λ z. cc) (λ z. cc)
      ∙ in_turns room (suc room) (sy.Use allows.Terms ∷ sy.Expr ∷ sy.Close ∷ []) st rest (both_of room (use_form allows.Terms room) (expr_next room (expr_at room))) (λ x. Ok (change_of change x.0.0.0 x.0.0.1 (around front x.0.1), x.1)) k
      (both_follow room (sy.Use allows.Terms) sy.Expr (use_form allows.Terms room) (expr_next room (expr_at room)) (use_follow allows.Terms room) (expr_follow room (expr_at room) (expr_inside_follow room))) (λ x. refl)
  leaf_head p rest Plain h =
      flat p rest Plain (sy.Arguments allows.Terms ∷ []) h (λ z. cc) (λ z. cc)
      ∙ in_turn room (suc room) (sy.Arguments allows.Terms) st rest (use_end allows.Terms room front p) (λ u. Ok (add_of u.0, u.1)) k (args_follow allows.Terms room front p) (λ x. refl)
  leaf_head p rest h e = refl

  -- behind the token that tells
  behind_head : (p : Piece) (rest : List Item) (h : HeadWord) → head_of p ≡ h → taken (leaf_inside h) p (after room p st rest) ≡ (leaf_behind room front p rest >>= k)
  unfolding leaf_behind
  behind_head p rest h e = leaf_head p rest h e ∙ ap (λ w. leaf_with room front p rest w >>= k) (sym e)

abbrev a_leaf : Leaf × List Item → Read (List Leaf)
a_leaf l = Ok (l.0 ∷ [], l.1)

abbrev leaf_effect : Leaf × List Item → Read Effect
leaf_effect l = Ok (e_leaf l.0 l.0.span, l.1)

leaf_follow : (room : ℕ) (front : Span) → Follows room (suc room) (sy.LeafInside ∷ []) (λ items. next_of room items >>= λ p. leaf_behind room front p.0 p.1)
leaf_follow room front st items = follows_token room sy.LeafInside st items (λ p. leaf_behind room front p.0 p.1) (λ x. goes (suc room) st x.1) (λ p rest e. behind_head room front st p rest (head_of p) refl)

leaf_inside_follow : (room : ℕ) → Inside sy.LeafInside room (leaf_at room)
unfolding leaf_at
leaf_inside_follow room lt front = under room (sy.LeafInside ∷ []) (leaf_at room front) lt (leaf_follow (room - 1) front)

leaves_follow : (room : ℕ) → Follows room (suc room) (sy.Leaves ∷ []) (λ items. until_close (form_step (leaf_at room)) room (length items) [] items)
leaves_follow room = forms_follow sy.Leaves sy.LeafInside (λ p. refl) room (leaf_at room) (leaf_inside_follow room)

simple_follow : (room : ℕ) (front : Span) → Follows room (suc room) (sy.SimpleInside ∷ []) (λ items. next_of room items >>= λ p. simple_with room front p.0 p.1 (head_of p.0))
simple_follow room front st items =
    follows_token room sy.SimpleInside st items (λ p. simple_with room front p.0 p.1 (head_of p.0)) (λ x. goes (suc room) st x.1) (λ p rest e. at_head p rest (head_of p) refl)
  where
    one : (p : Piece) (rest : List Item) (h : HeadWord) → head_of p ≡ h → taken (leaf_inside h) p (after room p st rest) ≡ ((leaf_behind room front p rest >>= a_leaf) >>= λ x. goes (suc room) st x.1)
    one p rest h e = behind_head room front st p rest h e ∙ sym (bind_assoc (leaf_behind room front p rest) a_leaf (λ x. goes (suc room) st x.1))

    at_head : (p : Piece) (rest : List Item) (h : HeadWord) → head_of p ≡ h → taken (simple_inside h) p (after room p st rest) ≡ (simple_with room front p rest h >>= λ x. goes (suc room) st x.1)
    at_head p rest Nothing h = ap (λ q. goes (room_next q room) st rest) (nothing_closes p h)
    at_head p rest And h =
        flat room front st p rest And (sy.Leaves ∷ []) h (λ z. cc) (λ z. cc)
        ∙ in_turn room (suc room) sy.Leaves st rest (λ items. until_close (form_step (leaf_at room)) room (length items) [] items) (λ ls. Ok (ls.0.0, ls.1)) (λ x. goes (suc room) st x.1) (leaves_follow room) (λ x. refl)
    at_head p rest h e = one p rest h e

simple_inside_follow : (room : ℕ) → Inside sy.SimpleInside room (simple_at room)
unfolding simple_at
simple_inside_follow room lt front = under room (sy.SimpleInside ∷ []) (simple_at room front) lt (simple_follow (room - 1) front)

module _ (room : ℕ) (nested : Former Effect) (N : Inside sy.EffectInside room nested) where
  effect_follow : Follows room room (sy.Effect ∷ []) (form_next room nested)
  effect_follow = next_follow sy.Effect sy.EffectInside (λ p. refl) room nested N

  body_follow : (front : Span) → Follows room (suc room) (sy.EffectInside ∷ []) (effect_body room nested front)
  unfolding effect_body
  body_follow front st items =
      follows_token room sy.EffectInside st items (λ p. effect_with room nested front p.0 p.1 (head_of p.0)) (λ x. goes (suc room) st x.1) (λ p rest e. at_head p rest (head_of p) refl)
    where
      one : (p : Piece) (rest : List Item) (h : HeadWord) → head_of p ≡ h → taken (leaf_inside h) p (after room p st rest) ≡ ((leaf_behind room front p rest >>= leaf_effect) >>= λ x. goes (suc room) st x.1)
      one p rest h e = behind_head room front st p rest h e ∙ sym (bind_assoc (leaf_behind room front p rest) leaf_effect (λ x. goes (suc room) st x.1))

      at_head : (p : Piece) (rest : List Item) (h : HeadWord) → head_of p ≡ h → taken (effect_inside h) p (after room p st rest) ≡ (effect_with room nested front p rest h >>= λ x. goes (suc room) st x.1)
      at_head p rest Nothing h = ap (λ q. goes (room_next q room) st rest) (nothing_closes p h)
      at_head p rest And h =
          flat room front st p rest And (sy.Effects ∷ []) h (λ z. cc) (λ z. cc)
          ∙ in_turn room (suc room) sy.Effects st rest (λ items. until_close (form_step nested) room (length items) [] items) (λ es. Ok (e_all (effects_of es.0.0) (around front es.0.1), es.1)) (λ x. goes (suc room) st x.1)
          (forms_follow sy.Effects sy.EffectInside (λ p. refl) room nested N) (λ x. refl)
      at_head p rest ForAll h =
          flat room front st p rest ForAll (sy.Variables ∷ sy.Effect ∷ sy.Close ∷ []) h (λ z. cc) (λ z. cc)
          ∙ in_turns room (suc room) (sy.Variables ∷ sy.Effect ∷ sy.Close ∷ []) st rest (both_of room (variables_of room) (form_next room nested)) (λ x. Ok (e_forall x.0.0.0 x.0.0.1 (around front x.0.1), x.1)) (λ x. goes (suc room) st x.1)
          (both_follow room sy.Variables sy.Effect (variables_of room) (form_next room nested) (variables_follow room) effect_follow) (λ x. refl)
      at_head p rest When h =
          flat room front st p rest When (sy.Cond ∷ sy.Simple ∷ sy.Close ∷ []) h (λ z. cc) (λ z. cc)
          ∙ in_turns room (suc room) (sy.Cond ∷ sy.Simple ∷ sy.Close ∷ []) st rest (both_of room (form_next room (cond_at room)) (form_next room (simple_at room))) (λ x. Ok (e_when x.0.0.0 x.0.0.1 (around front x.0.1), x.1)) (λ x. goes (suc room) st x.1)
          (both_follow room sy.Cond sy.Simple (form_next room (cond_at room)) (form_next room (simple_at room)) (next_follow sy.Cond sy.CondInside (λ p. refl) room (cond_at room) (cond_inside_follow room)) (next_follow sy.Simple sy.SimpleInside (λ p. refl) room (simple_at room) (simple_inside_follow room))) (λ x. refl)
      at_head p rest h e = one p rest h e

-- behind the parenthesis that takes one of so many places
pub effect_inside_follow : (room : ℕ) → Inside sy.EffectInside room (effect_at room)
unfolding effect_at
effect_inside_follow zero lt front st items = absurd (omega (arith, lt))
effect_inside_follow (suc room) lt front st items =
    let same : room ≡ suc room - 1 = omega arith in
    ap (λ r. goes r (sy.EffectInside ∷ st) items) (sym same) ∙ body_follow room (effect_at room) (effect_inside_follow room) front st items
