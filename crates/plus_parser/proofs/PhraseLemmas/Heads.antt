-- What the head of a form says of its token, and what a token says of its head.
use Rattle.std.proofs.Common.{◌≡◌, ℕ, Bool, true, false, cond, List, [], ◌∷◌, refl, sym, ap, ◌∙◌, inl, inr, ⊎_elim}
use Rattle.std.specs.Prelude.{◌⊎◌, codes}
use Rattle.std.specs.Str.{bytes_eq}
use Rattle.std.proofs.lemmas.Bool.{cond-true}
use Rattle.std.proofs.lemmas.Slice.Eq.{bytes_eq-Decides}
use Rattle.plus_tokens.specs.declared.token.Kind.{Kind}
use Rattle.plus_tokens.specs.declared.token.Kind.TheVariants as kinds
use Rattle.plus_tokens.specs.declared.token.Op.{Op}
use Rattle.plus_tokens.specs.declared.token.Op.TheVariants as ops
use Rattle.plus_tree.specs.declared.terms.Comparison.{Comparison}
use Rattle.plus_tree.specs.declared.terms.Comparison.TheVariants as comparisons
use Rattle.plus_parser.specs.declared.phrases.words.HeadWord.{HeadWord}
use Rattle.plus_parser.specs.declared.phrases.words.HeadWord.TheVariants.{Nothing, And, Or, Not, Imply, ForAll, Exists, When, Change, Compare, Plain, Other}
use Rattle.plus_parser.specs.declared.phrases.words.Change.TheVariants.{Assign, Increase, Decrease, ScaleUp, ScaleDown}
use Rattle.plus_parser.specs.declared.phrases.words.ExprWord.{ExprWord}
use Rattle.plus_parser.specs.declared.phrases.words.ExprWord.TheVariants as exprs
use Rattle.plus_tokens.specs.Items.{Piece}
use Rattle.plus_parser.specs.Phrases.Words.{look, changes, connectives, word_head, op_head, kind_head, head_of, is_plain_head, sign_expr, kind_expr, expr_head}
use Rattle.plus_parser.specs.Phrases.Spells.{IsClose, IsWord, IsSign, IsPlain, sign_of}
use Rattle.plus_parser.proofs.PhraseLemmas.Names.{plain_name}

-- the word of a head; the others have none
abbrev pub word_for : HeadWord → List ℕ
word_for And = codes "and"
word_for Or = codes "or"
word_for Not = codes "not"
word_for Imply = codes "imply"
word_for ForAll = codes "forall"
word_for Exists = codes "exists"
word_for When = codes "when"
word_for (Change Assign) = codes "assign"
word_for (Change Increase) = codes "increase"
word_for (Change Decrease) = codes "decrease"
word_for (Change ScaleUp) = codes "scale-up"
word_for (Change ScaleDown) = codes "scale-down"
word_for _ = []

abbrev pub has_word : HeadWord → Bool
has_word Nothing = false
has_word (Compare sign) = false
has_word Plain = false
has_word Other = false
has_word _ = true

-- a head that a name has
abbrev is_named : HeadWord → Bool
is_named Nothing = false
is_named (Compare sign) = false
is_named Other = false
is_named _ = true

pub no_way : {A : Type 0} → false ≡ true → A
no_way e = absurd cc

-- ---- tables

module _ {A : Type 0} (word : A → List ℕ) where
  -- a table in which each thing stands beside its word
  abbrev pub Named : List (List ℕ × A) → Type 0
  Named [] = Unit {0}
  Named (x ∷ more) = (x.0 ≡ word x.1) × Named more

  pub look_word : (w : List ℕ) (table : List (List ℕ × A)) (rest h : A) → Named table → look w table rest ≡ h → (rest ≡ h) ⊎ (w ≡ word h)
  look_word w [] rest h n e = inl e
  look_word w (x ∷ more) rest h n e = at_test (look_word w more rest h n.1) (bytes_eq w x.0) refl e
    where
      at_test : (look w more rest ≡ h → (rest ≡ h) ⊎ (w ≡ word h)) → (b : Bool) → bytes_eq w x.0 ≡ b → cond b x.1 (look w more rest) ≡ h → (rest ≡ h) ⊎ (w ≡ word h)
      at_test more true t e = inr ((bytes_eq-Decides w x.0).0 t ∙ n.0 ∙ ap word e)
      at_test more false t e = more e

abbrev Passing : (HeadWord → Bool) → List (List ℕ × HeadWord) → Type 0
Passing t [] = Unit {0}
Passing t (x ∷ more) = (t x.1 ≡ true) × Passing t more

look_passes : (t : HeadWord → Bool) (w : List ℕ) (table : List (List ℕ × HeadWord)) (rest : HeadWord) → Passing t table → t rest ≡ true → t (look w table rest) ≡ true
look_passes t w [] rest p o = o
look_passes t w (x ∷ more) rest p o = at_test (look_passes t w more rest p.1 o) (bytes_eq w x.0)
  where
    at_test : t (look w more rest) ≡ true → (b : Bool) → t (cond b x.1 (look w more rest)) ≡ true
    at_test q true = p.0
    at_test q false = q

changes_named : Named word_for changes
changes_named = (refl, (refl, (refl, (refl, (refl, tt)))))

connectives_named : Named word_for connectives
connectives_named = (refl, (refl, (refl, (refl, (refl, (refl, (refl, tt)))))))

named_word : (w : List ℕ) → is_named (word_head w) ≡ true
named_word w =
    look_passes is_named w connectives (look w changes Plain) (refl, (refl, (refl, (refl, (refl, (refl, (refl, tt)))))))
    (look_passes is_named w changes Plain (refl, (refl, (refl, (refl, (refl, tt))))) refl)

word_of : (w : List ℕ) (h : HeadWord) → word_head w ≡ h → (Plain ≡ h) ⊎ (w ≡ word_for h)
word_of w h e =
    ⊎_elim (λ o. look_word word_for w changes Plain h changes_named o) (λ o. inr o) (look_word word_for w connectives (look w changes Plain) h connectives_named e)

-- ---- what a head says

op_heads : (op : Op) → (op_head op ≡ Other) ⊎ ((c : Comparison) × (op_head op ≡ Compare c) × (op ≡ sign_of c))
op_heads ops.Less = inr (comparisons.Less, refl, refl)
op_heads ops.AtMost = inr (comparisons.AtMost, refl, refl)
op_heads ops.Equal = inr (comparisons.Equal, refl, refl)
op_heads ops.AtLeast = inr (comparisons.AtLeast, refl, refl)
op_heads ops.Greater = inr (comparisons.Greater, refl, refl)
op_heads _ = inl refl

op_has_no_word : (op : Op) → has_word (op_head op) ≡ false
op_has_no_word ops.Less = refl
op_has_no_word ops.AtMost = refl
op_has_no_word ops.Equal = refl
op_has_no_word ops.AtLeast = refl
op_has_no_word ops.Greater = refl
op_has_no_word _ = refl

worded_kind : (k : Kind) (w : List ℕ) (h : HeadWord) → kind_head k w ≡ h → has_word h ≡ true → (k ≡ kinds.Name) × (w ≡ word_for h)
worded_kind kinds.Name w h e t = (refl, ⊎_elim (λ p. no_way (ap has_word p ∙ t)) (λ o. o) (word_of w h e))
worded_kind kinds.Close w h e t = no_way (ap has_word e ∙ t)
worded_kind (kinds.Op op) w h e t = no_way (sym (op_has_no_word op) ∙ ap has_word e ∙ t)
worded_kind _ w h e t = no_way (ap has_word e ∙ t)

-- the token of a head that has a word is this word
pub worded : (p : Piece) (h : HeadWord) → head_of p ≡ h → has_word h ≡ true → IsWord (word_for h) p
worded p h e t = worded_kind p.kind p.word h e t

op_named : (op : Op) → op_head op ≡ Nothing → ⊥
op_named op e = ⊎_elim (λ o. let no : Other ≡ Nothing = sym o ∙ e in cc) (λ o. let no : Compare o.0 ≡ Nothing = sym o.1 ∙ e in cc) (op_heads op)

nothing_kind : (k : Kind) (w : List ℕ) → kind_head k w ≡ Nothing → k ≡ kinds.Close
nothing_kind kinds.Close w e = refl
nothing_kind kinds.Name w e = no_way (sym (ap is_named e) ∙ named_word w)
nothing_kind (kinds.Op op) w e = absurd (op_named op e)
nothing_kind _ w e = absurd cc

pub nothing_closes : (p : Piece) → head_of p ≡ Nothing → IsClose p
nothing_closes p e = nothing_kind p.kind p.word e

compare_kind : (k : Kind) (w : List ℕ) (c : Comparison) → kind_head k w ≡ Compare c → k ≡ kinds.Op (sign_of c)
compare_kind kinds.Name w c e = no_way (sym (ap is_named e) ∙ named_word w)
compare_kind kinds.Close w c e = absurd cc
compare_kind (kinds.Op op) w c e =
    ⊎_elim (λ o. absurd (let no : Other ≡ Compare c = sym o ∙ e in cc))
    (λ o. let both : Compare o.0 ≡ Compare c = sym o.1 ∙ e in let same : o.0 ≡ c = cc in ap kinds.Op (o.2 ∙ ap sign_of same)) (op_heads op)
compare_kind _ w c e = absurd cc

-- the token of a comparison is its sign
pub compare_is : (p : Piece) (c : Comparison) → head_of p ≡ Compare c → IsSign (sign_of c) p
compare_is p c e = compare_kind p.kind p.word c e

pub plain_is : (p : Piece) → head_of p ≡ Plain → IsPlain p
plain_is p e = ap is_plain_head e

-- ---- what a token says

plain_alone : (h : HeadWord) → is_plain_head h ≡ true → h ≡ Plain
plain_alone Plain e = refl
plain_alone _ e = absurd cc

pub plain_head : (p : Piece) → IsPlain p → head_of p ≡ Plain
plain_head p e = plain_alone (head_of p) e

pub close_head : (p : Piece) → IsClose p → head_of p ≡ Nothing
close_head p e = ap (λ k. kind_head k p.word) e

heads_again : (h : HeadWord) → has_word h ≡ true → word_head (word_for h) ≡ h
heads_again And t = refl
heads_again Or t = refl
heads_again Not t = refl
heads_again Imply t = refl
heads_again ForAll t = refl
heads_again Exists t = refl
heads_again When t = refl
heads_again (Change Assign) t = refl
heads_again (Change Increase) t = refl
heads_again (Change Decrease) t = refl
heads_again (Change ScaleUp) t = refl
heads_again (Change ScaleDown) t = refl
heads_again _ t = no_way t

pub word_heads : (p : Piece) (h : HeadWord) → IsWord (word_for h) p → has_word h ≡ true → head_of p ≡ h
word_heads p h e t = ap (λ k. kind_head k p.word) e.0 ∙ ap word_head e.1 ∙ heads_again h t

sign_again : (c : Comparison) → op_head (sign_of c) ≡ Compare c
sign_again comparisons.Less = refl
sign_again comparisons.AtMost = refl
sign_again comparisons.Equal = refl
sign_again comparisons.AtLeast = refl
sign_again comparisons.Greater = refl

pub sign_heads : (p : Piece) (c : Comparison) → IsSign (sign_of c) p → head_of p ≡ Compare c
sign_heads p c e = ap (λ k. kind_head k p.word) e ∙ sign_again c

-- ---- expressions

-- the sign of an expression's head
abbrev pub expr_sign : ExprWord → Op
expr_sign exprs.Sum = ops.Plus
expr_sign exprs.Product = ops.Times
expr_sign exprs.Minus = ops.Minus
expr_sign _ = ops.Divide

abbrev pub has_sign : ExprWord → Bool
has_sign exprs.Plain = false
has_sign exprs.Other = false
has_sign _ = true

sign_kind : (op : Op) (h : ExprWord) → sign_expr op ≡ h → has_sign h ≡ true → op ≡ expr_sign h
sign_kind ops.Plus h e t = ap expr_sign e
sign_kind ops.Times h e t = ap expr_sign e
sign_kind ops.Minus h e t = ap expr_sign e
sign_kind ops.Divide h e t = ap expr_sign e
sign_kind _ h e t = no_way (ap has_sign e ∙ t)

name_sign : (b : Bool) (h : ExprWord) → cond b exprs.Plain exprs.Other ≡ h → has_sign h ≡ true → ⊥
name_sign true h e t = no_way (ap has_sign e ∙ t)
name_sign false h e t = no_way (ap has_sign e ∙ t)

signed_kind : (k : Kind) (w : List ℕ) (h : ExprWord) → kind_expr k w ≡ h → has_sign h ≡ true → k ≡ kinds.Op (expr_sign h)
signed_kind (kinds.Op op) w h e t = ap kinds.Op (sign_kind op h e t)
signed_kind kinds.Name w h e t = absurd (name_sign (is_plain_head (word_head w)) h e t)
signed_kind _ w h e t = no_way (ap has_sign e ∙ t)

pub signed : (p : Piece) (h : ExprWord) → expr_head p ≡ h → has_sign h ≡ true → IsSign (expr_sign h) p
signed p h e t = signed_kind p.kind p.word h e t

plain_sign : (op : Op) → sign_expr op ≡ exprs.Plain → ⊥
plain_sign ops.Plus e = cc
plain_sign ops.Times e = cc
plain_sign ops.Minus e = cc
plain_sign ops.Divide e = cc
plain_sign _ e = cc

plain_name_expr : (b : Bool) → cond b exprs.Plain exprs.Other ≡ exprs.Plain → b ≡ true
plain_name_expr true e = refl
plain_name_expr false e = absurd cc

plain_expr_kind : (k : Kind) (w : List ℕ) → kind_expr k w ≡ exprs.Plain → is_plain_head (kind_head k w) ≡ true
plain_expr_kind (kinds.Op op) w e = absurd (plain_sign op e)
plain_expr_kind kinds.Name w e = plain_name_expr (is_plain_head (word_head w)) e
plain_expr_kind _ w e = absurd cc

pub plain_expr_is : (p : Piece) → expr_head p ≡ exprs.Plain → IsPlain p
plain_expr_is p e = plain_expr_kind p.kind p.word e

pub signed_expr : (p : Piece) (op : Op) → IsSign op p → expr_head p ≡ sign_expr op
signed_expr p op e = ap (λ k. kind_expr k p.word) e

plain_kind_expr : (k : Kind) (w : List ℕ) → k ≡ kinds.Name → is_plain_head (kind_head k w) ≡ true → kind_expr k w ≡ exprs.Plain
plain_kind_expr kinds.Name w n e = cond-true (is_plain_head (word_head w)) exprs.Plain exprs.Other e
plain_kind_expr _ w n e = absurd cc

pub plain_expr : (p : Piece) → IsPlain p → expr_head p ≡ exprs.Plain
plain_expr p e = plain_kind_expr p.kind p.word (plain_name p e) e
