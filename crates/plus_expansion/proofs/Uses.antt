-- A use without a fault names a ground atom or fluent that is there.
use Rattle.std.proofs.Common.{◌≡◌, ℕ, ◌<◌, Bool, true, false, not, ◌==◌, ◌&&◌, List, [], ◌∷◌, map, ap, sym, refl, ◌∙◌, subst, Option, Some, None, length, arith, eqb-true}
use Rattle.plus_tokens.specs.declared.span.Span.{Span}
use Rattle.plus_tree.specs.declared.terms.Term.{Term}
use Rattle.plus_tree.specs.declared.terms.Term.TheVariants.{Object, Variable}
use Rattle.plus_tree.specs.declared.terms.TypedName.{TypedName}
use Rattle.plus_tree.specs.declared.terms.Use.{Use}
use Rattle.plus_tree.specs.declared.trees.Head.{Head}
use Rattle.plus_types.specs.declared.faults.File.{File}
use Rattle.plus_types.specs.declared.faults.Wrong.{Wrong}
use Rattle.plus_types.specs.Types.{Binding, kind_of, is_under}
use Rattle.plus_types.specs.Faults.{Context, fault_where, params_of, kind_of_faults, argument_faults, arguments_faults, declared_faults, use_faults}
use Rattle.plus_types.proofs.SoundLemmas.{left-none, right-none}
use Rattle.plus_expansion.specs.Objects.{extents_of}
use Rattle.plus_expansion.specs.Numbers.{ground_names, number_of}
use Rattle.plus_expansion.proofs.Places.{are_members}
use Rattle.plus_expansion.proofs.Within.{number-within}
use Rattle.plus_expansion.specs.Environments.{Environment, term_object, use_objects, atom_number, fluent_number}
use Rattle.plus_expansion.proofs.Members.{Stands, is_member, member-under, place-member, bound-member}

-- The second context declares the same as the first, and at least its objects. What is without a fault in the first
-- has its meaning in the second.
pub record Widens (c m : Context) : Type 0 where
  pub types : c.types ≡ m.types
  pub predicates : c.predicates ≡ m.predicates
  pub functions : c.functions ≡ m.functions
  pub objects : (name kind : List ℕ) → kind_of c.objects name ≡ Some kind → kind_of m.objects name ≡ Some kind
  pub through : (low mid high : List ℕ) → is_under m.types low mid ≡ true → is_under m.types mid high ≡ true → is_under m.types low high ≡ true

-- no fault: the rule holds
pub rule-holds : (b : Bool) (wrong : Wrong) (file : File) (s : Span) → fault_where (not b) wrong file s ≡ [] → b ≡ true
rule-holds true wrong file s e = refl
rule-holds false wrong file s e = cc

pub argument-member :
    (c m : Context) → Widens c m → (vars : List Binding) (env : Environment) (param : List ℕ) (t : Term) → Stands m vars env
    → argument_faults c vars param t ≡ [] → is_member m param (term_object m env t) ≡ true
argument-member c m w vars env param (Object x) s e = by (kind_of c.objects x.name) refl e
  where
    by : (o : Option (List ℕ)) → kind_of c.objects x.name ≡ o → kind_of_faults c param (Object x) o ≡ [] → is_member m param (term_object m env (Object x)) ≡ true
    by None is f = cc
    by (Some k) is f =
        place-member m x.name k param (w.objects x.name k is)
        (ap (λ types. is_under types k param) (sym w.types) ∙ rule-holds (is_under c.types k param) _ _ _ f)
argument-member c m w vars env param (Variable x) s e = by (kind_of vars x.name) refl e
  where
    by : (o : Option (List ℕ)) → kind_of vars x.name ≡ o → kind_of_faults c param (Variable x) o ≡ [] → is_member m param (term_object m env (Variable x)) ≡ true
    by None is f = cc
    by (Some k) is f =
        let up : is_under m.types k param ≡ true = ap (λ types. is_under types k param) (sym w.types) ∙ rule-holds (is_under c.types k param) _ _ _ f in
        member-under m k param (λ low u. w.through low k param u up) (term_object m env (Variable x))
        (bound-member m (length m.objects) vars env x.name k s is)

pub arguments-members :
    (c m : Context) → Widens c m → (vars : List Binding) (env : Environment) → Stands m vars env → (params : List TypedName) (args : List Term)
    → length args ≡ length params → arguments_faults c vars params args ≡ []
    → are_members (extents_of m params) (map (term_object m env) args) ≡ true
arguments-members c m w vars env s [] [] n e = refl
arguments-members c m w vars env s [] (t ∷ ts) n e = absurd (omega arith)
arguments-members c m w vars env s (p ∷ ps) [] n e = absurd (omega arith)
arguments-members c m w vars env s (p ∷ ps) (t ∷ ts) n e =
    ap (λ b. b && are_members (extents_of m ps) (map (term_object m env) ts))
    (argument-member c m w vars env p.kind.name t s (left-none (argument_faults c vars p.kind.name t) _ e))
    ∙ arguments-members c m w vars env s ps ts (omega arith) (right-none (argument_faults c vars p.kind.name t) _ e)

pub use-within :
    (c m : Context) → Widens c m → (vars : List Binding) (env : Environment) (heads : List Head) (u : Use) → Stands m vars env
    → use_faults c vars heads u ≡ [] → number_of m heads u.head.name (use_objects m env u) < length (ground_names m heads)
use-within c m w vars env heads u s e = by (params_of heads u.head.name) refl e
  where
    by :
        (o : Option (List TypedName)) → params_of heads u.head.name ≡ o → declared_faults c vars u o ≡ []
        → number_of m heads u.head.name (use_objects m env u) < length (ground_names m heads)
    by None is f = cc
    by (Some params) is f =
        let few : length u.args ≡ length params =
        eqb-true (length u.args) (length params) (rule-holds (length u.args == length params) _ _ _ (left-none (fault_where (not (length u.args == length params)) _ _ _) _ f)) in
        number-within m heads u.head.name (use_objects m env u) params is
        (arguments-members c m w vars env s params u.args few (right-none (fault_where (not (length u.args == length params)) _ _ _) _ f))

pub atom-within :
    (c m : Context) → Widens c m → (vars : List Binding) (env : Environment) (u : Use) → Stands m vars env
    → use_faults c vars c.predicates u ≡ [] → atom_number m env u < length (ground_names m m.predicates)
atom-within c m w vars env u s e = use-within c m w vars env m.predicates u s (subst (λ heads. use_faults c vars heads u ≡ []) w.predicates e)

pub fluent-within :
    (c m : Context) → Widens c m → (vars : List Binding) (env : Environment) (u : Use) → Stands m vars env
    → use_faults c vars c.functions u ≡ [] → fluent_number m env u < length (ground_names m m.functions)
fluent-within c m w vars env u s e = use-within c m w vars env m.functions u s (subst (λ heads. use_faults c vars heads u ≡ []) w.functions e)
