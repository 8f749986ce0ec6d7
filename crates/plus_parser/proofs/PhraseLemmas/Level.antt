-- Spelled tokens close as many parentheses as they open.
use Rattle.std.proofs.Common.{◌≡◌, ℕ, zero, suc, ◌+◌, ◌<◌, ◌≤◌, Bool, true, false, List, [], ◌∷◌, ◌++◌, length, Option, Some, None, refl, sym, ap, ◌∙◌, subst, inl, inr, ⊎_elim, add-one, arith}
use Rattle.std.specs.Prelude.{◌⊎◌}
use Rattle.plus_tokens.specs.declared.token.Kind.{Kind}
use Rattle.plus_tokens.specs.declared.token.Kind.TheVariants as kinds
use Rattle.plus_tokens.specs.declared.span.Span.{Span}
use Rattle.plus_tree.specs.declared.terms.Literal.{Literal}
use Rattle.plus_tree.specs.declared.terms.Term.{Term}
use Rattle.plus_tree.specs.declared.terms.Use.{Use}
use Rattle.plus_tree.specs.Expr.{Expr, x_number, x_clock, x_fluent, x_sum, x_product, x_minus, x_difference, x_quotient, Exprs, no_exprs, more_exprs}
use Rattle.plus_parser.specs.declared.phrases.words.Allowed.{Allowed}
use Rattle.plus_parser.specs.declared.phrases.words.Allowed.TheVariants.{Terms, Variables, Names}
use Rattle.plus_tokens.specs.Items.{Piece}
use Rattle.plus_parser.specs.Phrases.Literals.{kind_literal}
use Rattle.plus_parser.specs.Phrases.Words.{is_name, is_variable, is_term, is_allowed}
use Rattle.plus_parser.specs.Phrases.Spells.{IsOpen, IsClose, Wrapped, Chain, IsNumber, SpellsArgument, SpellsUse, SpellsExpr, SpellsExprs, room_step, room_after}
use Rattle.plus_parser.proofs.PhraseLemmas.Names.{plain_name}

-- tokens that leave as much room as they find
abbrev pub Even : ℕ → List Piece → Type 0
Even room ts = room_after room ts ≡ Some room

-- they do so wherever room is enough
abbrev pub Level : List Piece → Type 0
Level ts = (room : ℕ) → Even room ts ⊎ (room_after room ts ≡ None)

abbrev then_room : Option ℕ → List Piece → Option ℕ
then_room None ts = None
then_room (Some r) ts = room_after r ts

step_then : (k : Kind) (room : ℕ) (f g : ℕ → Option ℕ) (b : List Piece) → ((r : ℕ) → f r ≡ then_room (g r) b) → room_step k room f ≡ then_room (room_step k room g) b
step_then kinds.Open zero f g b h = refl
step_then kinds.Open (suc room) f g b h = h room
step_then kinds.Close room f g b h = h (room + 1)
step_then _ room f g b h = h room

room_after-append : (room : ℕ) (a b : List Piece) → room_after room (a ++ b) ≡ then_room (room_after room a) b
room_after-append room [] b = refl
room_after-append room (p ∷ a) b = step_then p.kind room (λ r. room_after r (a ++ b)) (λ r. room_after r a) b (λ r. room_after-append r a b)

pub after_even : (room : ℕ) (a b : List Piece) → Even room a → room_after room (a ++ b) ≡ room_after room b
after_even room a b e = room_after-append room a b ∙ ap (λ o. then_room o b) e

pub after_none : (room : ℕ) (a b : List Piece) → room_after room a ≡ None → room_after room (a ++ b) ≡ None
after_none room a b e = room_after-append room a b ∙ ap (λ o. then_room o b) e

pub level_append : (a b : List Piece) → Level a → Level b → Level (a ++ b)
level_append a b la lb room =
    ⊎_elim (λ ea. ⊎_elim (λ eb. inl (after_even room a b ea ∙ eb)) (λ n. inr (after_even room a b ea ∙ n)) (lb room)) (λ n. inr (after_none room a b n)) (la room)

pub split_append : (room : ℕ) (a b : List Piece) → Level a → Even room (a ++ b) → Even room a × Even room b
split_append room a b la e =
    ⊎_elim (λ ea. (ea, sym (after_even room a b ea) ∙ e)) (λ n. absurd (let no : Some room ≡ None = sym e ∙ after_none room a b n in cc)) (la room)

pub after_name : (room : ℕ) (p : Piece) (ts : List Piece) → p.kind ≡ kinds.Name → room_after room (p ∷ ts) ≡ room_after room ts
after_name room p ts e = ap (λ k. room_step k room (λ r. room_after r ts)) e

pub level_name : (p : Piece) (ts : List Piece) → p.kind ≡ kinds.Name → Level ts → Level (p ∷ ts)
level_name p ts e l room = ⊎_elim (λ ev. inl (after_name room p ts e ∙ ev)) (λ n. inr (after_name room p ts e ∙ n)) (l room)

-- no room for what stands between parentheses
wrapped_zero : (s : Span) (body ts : List Piece) → Wrapped s body ts → room_after 0 ts ≡ None
wrapped_zero s body ts w =
    ap (room_after 0) w.whole ∙ ap (λ k. room_step k 0 (λ r. room_after r (body ++ w.last ∷ []))) w.opens

pub wrapped_suc : (room : ℕ) (s : Span) (body ts : List Piece) → (w : Wrapped s body ts) → room_after (suc room) ts ≡ room_after room (body ++ w.last ∷ [])
wrapped_suc room s body ts w =
    ap (room_after (suc room)) w.whole ∙ ap (λ k. room_step k (suc room) (λ r. room_after r (body ++ w.last ∷ []))) w.opens

pub last_even : (room : ℕ) (body : List Piece) (last : Piece) → IsClose last → Even room body → room_after room (body ++ last ∷ []) ≡ Some (suc room)
last_even room body last e ev =
    after_even room body (last ∷ []) ev ∙ ap (λ k. room_step k room (λ r. Some r)) e ∙ ap Some (add-one room)

pub level_wrapped : (s : Span) (body ts : List Piece) → Wrapped s body ts → Level body → Level ts
level_wrapped s body ts w l zero = inr (wrapped_zero s body ts w)
level_wrapped s body ts w l (suc room) =
    ⊎_elim (λ ev. inl (wrapped_suc room s body ts w ∙ last_even room body w.last w.closes ev)) (λ n. inr (wrapped_suc room s body ts w ∙ after_none room body (w.last ∷ []) n)) (l room)

pub split_wrapped : (room : ℕ) (s : Span) (body ts : List Piece) → Wrapped s body ts → Level body → Even room ts → (r : ℕ) × (room ≡ suc r) × Even r body
split_wrapped zero s body ts w l e = absurd (let no : Some 0 ≡ None = sym e ∙ wrapped_zero s body ts w in cc)
split_wrapped (suc room) s body ts w l e =
    (room, refl, ⊎_elim (λ ev. ev) (λ n. absurd (let no : Some (suc room) ≡ None = sym e ∙ wrapped_suc room s body ts w ∙ after_none room body (w.last ∷ []) n in cc)) (l room))

pub level_at : (a b : List Piece) → a ≡ b → Level b → Level a
level_at a b e l = subst Level (sym e) l

-- ---- tokens that are no parenthesis

abbrev pub is_flat : Kind → Bool
is_flat kinds.Open = false
is_flat kinds.Close = false
is_flat _ = true

flat_step : (k : Kind) (room : ℕ) (after : ℕ → Option ℕ) → is_flat k ≡ true → room_step k room after ≡ after room
flat_step kinds.Open room after e = absurd cc
flat_step kinds.Close room after e = absurd cc
flat_step _ room after e = refl

pub after_flat : (room : ℕ) (p : Piece) (ts : List Piece) → is_flat p.kind ≡ true → room_after room (p ∷ ts) ≡ room_after room ts
after_flat room p ts e = flat_step p.kind room (λ r. room_after r ts) e

pub level_flat : (p : Piece) (ts : List Piece) → is_flat p.kind ≡ true → Level ts → Level (p ∷ ts)
level_flat p ts e l room = ⊎_elim (λ ev. inl (after_flat room p ts e ∙ ev)) (λ n. inr (after_flat room p ts e ∙ n)) (l room)

pub level_none : Level []
level_none room = inl refl

number_kind_flat : (k : Kind) (w : List ℕ) (s : Span) (n : Literal) → kind_literal k w s ≡ Some n → is_flat k ≡ true
unfolding kind_literal
number_kind_flat kinds.Open w s n e = absurd cc
number_kind_flat kinds.Close w s n e = absurd cc
number_kind_flat _ w s n e = refl

pub number_flat : (p : Piece) (n : Literal) → IsNumber n p → is_flat p.kind ≡ true
number_flat p n e = number_kind_flat p.kind p.word p.span n e

-- ---- arguments

variable_flat : (k : Kind) → is_variable k ≡ true → is_flat k ≡ true
variable_flat kinds.Open e = absurd cc
variable_flat kinds.Close e = absurd cc
variable_flat _ e = refl

term_flat : (k : Kind) → is_term k ≡ true → is_flat k ≡ true
term_flat kinds.Open e = absurd cc
term_flat kinds.Close e = absurd cc
term_flat _ e = refl

name_flat : (k : Kind) → is_name k ≡ true → is_flat k ≡ true
name_flat kinds.Open e = absurd cc
name_flat kinds.Close e = absurd cc
name_flat _ e = refl

-- a term is no parenthesis
pub allowed_flat : (allowed : Allowed) (k : Kind) → is_allowed allowed k ≡ true → is_flat k ≡ true
allowed_flat Terms k e = term_flat k e
allowed_flat Variables k e = variable_flat k e
allowed_flat Names k e = name_flat k e

pub args_even : (allowed : Allowed) (room : ℕ) (xs : List Term) (ts : List Piece) → Chain (SpellsArgument allowed) xs ts → Even room ts
args_even allowed room [] ts h = ap (room_after room) h
args_even allowed room (x ∷ xs) ts h =
    let one = h.2 in
    let shape : ts ≡ one.0 ∷ h.1 = h.4 ∙ ap (λ (ps : List Piece). ps ++ h.1) one.3 in
    ap (room_after room) shape ∙ after_flat room one.0 h.1 (allowed_flat allowed one.0.kind one.1) ∙ args_even allowed room xs h.1 h.3

pub level_args : (allowed : Allowed) (xs : List Term) (ts : List Piece) → Chain (SpellsArgument allowed) xs ts → Level ts
level_args allowed xs ts h room = inl (args_even allowed room xs ts h)

pub level_use : (allowed : Allowed) (u : Use) (ts : List Piece) → SpellsUse allowed u ts → Level ts
level_use allowed u ts h = level_wrapped u.span (h.0 ∷ h.1) ts h.3 (level_name h.0 h.1 (plain_name h.0 h.2) (level_args allowed u.args h.1 h.5))

-- ---- expressions

mutual
  pub level_expr : (x : Expr) (ts : List Piece) → SpellsExpr x ts → Level ts
  level_expr (x_number n s) ts h = level_at ts (h.0 ∷ []) h.3 (level_flat h.0 [] (number_flat h.0 n h.1) level_none)
  level_expr (x_clock s) ts h = level_at ts (h.0 ∷ []) h.3 (level_flat h.0 [] (ap is_flat h.1) level_none)
  level_expr (x_fluent u s) ts h = level_use Terms u ts h.1
  level_expr (x_sum es s) ts h = level_wrapped s (h.0 ∷ h.1) ts h.3 (level_flat h.0 h.1 (ap is_flat h.2) (level_exprs es h.1 h.5))
  level_expr (x_product es s) ts h = level_wrapped s (h.0 ∷ h.1) ts h.3 (level_flat h.0 h.1 (ap is_flat h.2) (level_exprs es h.1 h.5))
  level_expr (x_minus x s) ts h = level_wrapped s (h.0 ∷ h.1) ts h.3 (level_flat h.0 h.1 (ap is_flat h.2) (level_expr x h.1 h.4))
  level_expr (x_difference x y s) ts h =
      level_wrapped s (h.0 ∷ (h.1 ++ h.2)) ts h.4 (level_flat h.0 (h.1 ++ h.2) (ap is_flat h.3) (level_append h.1 h.2 (level_expr x h.1 h.5) (level_expr y h.2 h.6)))
  level_expr (x_quotient x y s) ts h =
      level_wrapped s (h.0 ∷ (h.1 ++ h.2)) ts h.4 (level_flat h.0 (h.1 ++ h.2) (ap is_flat h.3) (level_append h.1 h.2 (level_expr x h.1 h.5) (level_expr y h.2 h.6)))

  pub level_exprs : (xs : Exprs) (ts : List Piece) → SpellsExprs xs ts → Level ts
  level_exprs no_exprs ts h = level_at ts [] h level_none
  level_exprs (more_exprs x xs) ts h = level_at ts (h.0 ++ h.1) h.4 (level_append h.0 h.1 (level_expr x h.0 h.2) (level_exprs xs h.1 h.3))

pub even_wrapped : (room : ℕ) (s : Span) (body ts : List Piece) → Wrapped s body ts → Even room body → Even (suc room) ts
even_wrapped room s body ts w ev = wrapped_suc room s body ts w ∙ last_even room body w.last w.closes ev

pub even_append : (room : ℕ) (a b : List Piece) → Even room a → Even room b → Even room (a ++ b)
even_append room a b ea eb = after_even room a b ea ∙ eb

pub even_open : (room : ℕ) (first : Piece) (inner : List Piece) → IsOpen first → Even room (first ∷ inner) → 0 < room
even_open zero first inner e ev = absurd (let no : Some 0 ≡ None = sym ev ∙ ap (λ k. room_step k 0 (λ r. room_after r inner)) e in cc)
even_open (suc room) first inner e ev = omega arith

-- where room is enough for each token, none is one too many
step_none : (k : Kind) (room n : ℕ) (after : ℕ → Option ℕ) → suc n ≤ room → ((r : ℕ) → n ≤ r → after r ≡ None → ⊥) → room_step k room after ≡ None → ⊥
step_none kinds.Open zero n after le ih e = omega (arith, le)
step_none kinds.Open (suc room) n after le ih e = ih room (omega (arith, le)) e
step_none kinds.Close room n after le ih e = ih (room + 1) (omega (arith, le)) e
step_none _ room n after le ih e = ih room (omega (arith, le)) e

pub enough_room : (ts : List Piece) (room : ℕ) → length ts ≤ room → room_after room ts ≡ None → ⊥
enough_room [] room le e = cc
enough_room (p ∷ ts) room le e = step_none p.kind room (length ts) (λ r. room_after r ts) (omega (arith, le)) (enough_room ts) e

pub even_there : (ts : List Piece) (room : ℕ) → Level ts → length ts ≤ room → Even room ts
even_there ts room level le = ⊎_elim (λ ev. ev) (λ n. absurd (enough_room ts room le n)) (level room)
