-- Terms and uses read again.
use Rattle.std.proofs.Common.{◌≡◌, ◌⊎◌, ℕ, suc, true, List, [], ◌∷◌, ◌++◌, length, refl, sym, ap, ◌∙◌, subst, inl, inr, ⊎_elim}
use Rattle.std.specs.Prelude.{map, nat_le, if◌then◌else◌}
use Rattle.std.specs.List.{list_all}
use Rattle.std.proofs.lemmas.Bool.{or_cases, leb-true}
use Rattle.plus_tokens.specs.declared.token.Kind.{Kind}
use Rattle.plus_tokens.specs.declared.token.Kind.TheVariants as kinds
use Rattle.plus_tokens.specs.declared.token.Op.{Op}
use Rattle.plus_tokens.specs.declared.token.Op.TheVariants as ops
use Rattle.plus_tokens.specs.Bytes.{is_letter, is_name_byte}
use Rattle.plus_tree.specs.declared.names.Spelled.{Spelled}
use Rattle.plus_tree.specs.declared.terms.Term.{Term}
use Rattle.plus_tree.specs.declared.terms.Term.TheVariants.{Object, Variable}
use Rattle.plus_tree.specs.declared.terms.Use.{Use}
use Rattle.plus_tokens.specs.Lowered.{lowered}
use Rattle.plus_parser.specs.declared.phrases.words.Allowed.{Allowed}
use Rattle.plus_parser.specs.declared.phrases.words.Allowed.TheVariants as allows
use Rattle.plus_tokens.specs.Items.{Piece}
use Rattle.plus_parser.specs.Phrases.Words.{is_name, is_variable, is_allowed, is_plain, is_plain_head, kind_head, word_head, op_head}
use Rattle.plus_parser.specs.Phrases.Grammar.{spelled_of, bare_of, named_of, term_of}
use Rattle.plus_parser.specs.Phrases.Spells.{Chain, SpellsArgument, SpellsUse}
use Rattle.plus_printer.specs.Words.{word, spaced, term_text, use_text}
use Rattle.plus_canonical.specs.Same.{bare_spelled, bare_term, bare_use}
use Rattle.plus_canonical.proofs.Lexes.{Ended, Any, Reads, turn, piece}
use Rattle.plus_parser.proofs.PhraseLemmas.Level.{is_flat, level_args}
use Rattle.plus_canonical.proofs.Smalls.{Fine, fine_form, even_token, IsSmall, Lexical, AreLexical, name_small, variable_small, within, lexical_at}
use Rattle.plus_canonical.proofs.Forms.{head_even, name_reads, variable_reads, HeadForm, head_reads, Again, AllOf, chain_all, spaced_leads, spaced_again}

-- a word of the language is a small name
pub fixed : (b : ℕ) (bs : List ℕ) → is_letter b ≡ true → list_all is_name_byte bs ≡ true → lowered (b ∷ bs) ≡ b ∷ bs → nat_le (length (b ∷ bs)) 64 ≡ true → IsSmall (b ∷ bs)
fixed b bs letter bytes same few = record {
  name = record { first = b; others = bs; letter = letter; name_bytes = bytes; spelled = refl; within = leb-true (length (b ∷ bs)) 64 few };
  same = same;
}

-- ---- kinds

name_kind : (k : Kind) → is_name k ≡ true → k ≡ kinds.Name
name_kind kinds.Name e = refl
name_kind _ e = absurd cc

variable_kind : (k : Kind) → is_variable k ≡ true → k ≡ kinds.Variable
variable_kind kinds.Variable e = refl
variable_kind _ e = absurd cc

pub allowed_kind : (allowed : Allowed) (k : Kind) → is_allowed allowed k ≡ true → (k ≡ kinds.Name) ⊎ (k ≡ kinds.Variable)
allowed_kind allows.Terms k e = ⊎_elim (λ v. inr (variable_kind k v)) (λ n. inl (name_kind k n)) (or_cases (is_variable k) (is_name k) e)
allowed_kind allows.Variables k e = inr (variable_kind k e)
allowed_kind allows.Names k e = inl (name_kind k e)

pub named_small : (allowed : Allowed) (p : Piece) → Lexical p → is_allowed allowed p.kind ≡ true → IsSmall (named_of p).name
named_small allowed p l e = by (allowed_kind allowed p.kind e) where
  by : (p.kind ≡ kinds.Name) ⊎ (p.kind ≡ kinds.Variable) → IsSmall (named_of p).name
  by (inl n) = subst (λ k. IsSmall (if is_variable k then bare_of p else spelled_of p).name) (sym n) (name_small p l n)
  by (inr v) = subst (λ k. IsSmall (if is_variable k then bare_of p else spelled_of p).name) (sym v) (variable_small p l v)

-- ---- terms

abbrev pub TermAgain : ℕ → Allowed → Term → Type 0
TermAgain n allowed t = Reads Ended (term_text t) (Again n Term (SpellsArgument allowed) bare_term t)

pub object_again : (n : ℕ) (allowed : Allowed) (x : Spelled) → is_allowed allowed kinds.Name ≡ true → IsSmall x.name → TermAgain n allowed (Object x)
unfolding term_text
object_again n allowed x ok small =
    turn {after = Ended} x.name (λ ts t. record {
      again = Object (record { name = x.name; span = t.span });
      spelled = (piece kinds.Name x.name t.span, ok, refl, t.whole);
      even = even_token n (piece kinds.Name x.name t.span) ts refl t.whole;
      same = refl;
    }) (name_reads x.name small)

pub variable_again : (n : ℕ) (allowed : Allowed) (x : Spelled) → is_allowed allowed kinds.Variable ≡ true → IsSmall x.name → TermAgain n allowed (Variable x)
unfolding term_text word
variable_again n allowed x ok small =
    turn {after = Ended} (63 ∷ x.name) (λ ts t. record {
      again = Variable (record { name = x.name; span = t.span });
      spelled = (piece kinds.Variable (63 ∷ x.name) t.span, ok, refl, t.whole);
      even = even_token n (piece kinds.Variable (63 ∷ x.name) t.span) ts refl t.whole;
      same = refl;
    }) (variable_reads x.name small)

pub term_again : (n : ℕ) (allowed : Allowed) (t : Term) (ts : List Piece) → AreLexical ts → SpellsArgument allowed t ts → TermAgain n allowed t
term_again n allowed t ts l (p, ok, is, whole) = by (allowed_kind allowed p.kind ok) where
  lex : AreLexical (p ∷ [])
  lex = lexical_at ts (p ∷ []) whole l

  by : (p.kind ≡ kinds.Name) ⊎ (p.kind ≡ kinds.Variable) → TermAgain n allowed t
  by (inl m) =
      let e : term_of p ≡ Object (spelled_of p) = ap (λ k. if is_variable k then Variable (bare_of p) else Object (spelled_of p)) m in
      subst (TermAgain n allowed) (sym (is ∙ e)) (object_again n allowed (spelled_of p) (sym (ap (is_allowed allowed) m) ∙ ok) (name_small p lex.0 m))
  by (inr v) =
      let e : term_of p ≡ Variable (bare_of p) = ap (λ k. if is_variable k then Variable (bare_of p) else Object (spelled_of p)) v in
      subst (TermAgain n allowed) (sym (is ∙ e)) (variable_again n allowed (bare_of p) (sym (ap (is_allowed allowed) v) ∙ ok) (variable_small p lex.0 v))

-- ---- uses

-- a name that may be that of a predicate
pub record PlainName (w : List ℕ) : Type 0 where
  pub small : IsSmall w
  pub plain : is_plain_head (word_head w) ≡ true

plain_kind : (k : Kind) (w : List ℕ) → is_plain_head (kind_head k w) ≡ true → (k ≡ kinds.Name) × (is_plain_head (word_head w) ≡ true)
plain_kind kinds.Name w e = (refl, e)
plain_kind kinds.Close w e = absurd cc
plain_kind (kinds.Op op) w e = absurd (no_op op e) where
  no_op : (op : Op) → is_plain_head (op_head op) ≡ true → ⊥
  no_op ops.Less e = cc
  no_op ops.AtMost e = cc
  no_op ops.Equal e = cc
  no_op ops.AtLeast e = cc
  no_op ops.Greater e = cc
  no_op _ e = cc
plain_kind _ w e = absurd cc

pub plain_name : (p : Piece) → Lexical p → is_plain p ≡ true → PlainName p.word
plain_name p l e = let k = plain_kind p.kind p.word e in record { small = name_small p l k.0; plain = k.1 }

abbrev pub UseAgain : ℕ → Allowed → Use → Type 0
UseAgain n allowed u = Reads Any (use_text u) (Again n Use (SpellsUse allowed) bare_use u)

use_made : (m : ℕ) (allowed : Allowed) (u : Use) → is_plain_head (word_head u.head.name) ≡ true → (ts : List Piece)
    → HeadForm kinds.Name u.head.name (Again m (List Term) (Chain (SpellsArgument allowed)) (map bare_term) u.args) ts → Again (suc m) Use (SpellsUse allowed) bare_use u ts
use_made m allowed u plain ts f = record {
  again = record { head = record { name = u.head.name; span = f.at }; args = f.body_is.again; span = f.span };
  spelled = (piece kinds.Name u.head.name f.at, f.body, plain, f.wrapped, refl, f.body_is.spelled);
  even = head_even m ts f refl f.body_is.even;
  same = ap (λ (ts : List Term). record { head = bare_spelled u.head; args = ts; span = record { start = 0; «end» = 0 } }) f.body_is.same;
}

pub use_reads : (m : ℕ) (allowed : Allowed) (u : Use) → PlainName u.head.name → AllOf (TermAgain m allowed) u.args → UseAgain (suc m) allowed u
unfolding use_text word
use_reads m allowed u name args =
    turn {after = Any} (40 ∷ (u.head.name ++ (spaced term_text u.args ++ 41 ∷ []))) (use_made m allowed u name.plain)
    (head_reads {S = Ended} u.head.name (spaced term_text u.args) (name_reads u.head.name name.small)
    (spaced_again m Term (SpellsArgument allowed) bare_term term_text u.args args) (spaced_leads Term term_text u.args))

pub use_again : (n : ℕ) (allowed : Allowed) (u : Use) (ts : List Piece) → Fine n ts → SpellsUse allowed u ts → UseAgain n allowed u
use_again n allowed u ts l (a, inner, plain, wrapped, head, args) =
    let lex : AreLexical (a ∷ inner) = within u.span (a ∷ inner) ts wrapped l.words in
    let flat : is_flat a.kind ≡ true = ap is_flat (plain_kind a.kind a.word plain).0 in
    let i = fine_form n u.span a inner ts flat wrapped (level_args allowed u.args inner args) l in
    subst (λ m. UseAgain m allowed u) i.under
    (use_reads i.room allowed u (subst PlainName (sym (ap (λ (x : Spelled). x.name) head)) (plain_name a lex.0 plain))
    (chain_all Term (SpellsArgument allowed) (TermAgain i.room allowed) (term_again i.room allowed) u.args inner lex.1 args))
