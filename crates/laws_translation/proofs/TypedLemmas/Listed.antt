-- Lists of variables and of objects: without faults they have new names and known types.
use Rattle.std.proofs.Common.{◌≡◌, ℕ, Bool, true, false, not, cond, ◌||◌, List, [], ◌∷◌, ◌++◌, refl, ap, ap₂, sym, subst, ◌∙◌, append_assoc, append-nil, Option, Some, None}
use Rattle.std.specs.Str.{bytes_eq}
use Rattle.plus_tokens.specs.declared.span.Span.{Span}
use Rattle.plus_tree.specs.declared.names.Spelled.{Spelled}
use Rattle.plus_tree.specs.declared.terms.TypedName.{TypedName}
use Rattle.plus_types.specs.declared.faults.File.{File}
use Rattle.plus_types.specs.declared.faults.Wrong.{Wrong}
use Rattle.plus_types.specs.declared.faults.Wrong.TheVariants.{Twice, Shadowed, UnknownType}
use Rattle.plus_types.specs.declared.faults.TypeFault.{TypeFault}
use Rattle.plus_types.specs.declared.faults.TypeFault.TheVariants.{At}
use Rattle.plus_types.specs.Types.{Binding, bindings_of, bound_names, is_among, is_type, kind_of}
use Rattle.plus_types.specs.Faults.{Context, fault_where, bound_faults, member_faults, list_faults, variables_faults}
use Rattle.plus_types.proofs.SoundLemmas.{left-none, right-none}

pub both_none : (xs ys : List TypeFault) → xs ≡ [] → ys ≡ [] → xs ++ ys ≡ []
both_none xs ys e f = ap₂ (λ a b. a ++ b) e f

-- a rule that is not broken
pub rule_kept : (b : Bool) (w : Wrong) (f : File) (s : Span) → fault_where b w f s ≡ [] → b ≡ false
rule_kept true w f s e = absurd cc
rule_kept false w f s e = refl

pub no_rule : (b : Bool) (w : Wrong) (f : File) (s : Span) → b ≡ false → fault_where b w f s ≡ []
no_rule b w f s e = ap (λ x. fault_where x w f s) e

pub not_false : (b : Bool) → not b ≡ false → b ≡ true
not_false true e = refl
not_false false e = cc

-- ---- kinds of names

pub kind_kept : (vs ws : List Binding) (x kind : List ℕ) → kind_of vs x ≡ Some kind → kind_of (vs ++ ws) x ≡ Some kind
kind_kept [] ws x kind e = absurd cc
kind_kept (v ∷ vs) ws x kind e = by (bytes_eq x v.0) e (kind_kept vs ws x kind)
  where
    by : (b : Bool) → cond b (Some v.1) (kind_of vs x) ≡ Some kind → (kind_of vs x ≡ Some kind → kind_of (vs ++ ws) x ≡ Some kind) → cond b (Some v.1) (kind_of (vs ++ ws) x) ≡ Some kind
    by true f more = f
    by false f more = more f

pub kind_behind : (vs ws : List Binding) (x : List ℕ) → kind_of vs x ≡ None → kind_of (vs ++ ws) x ≡ kind_of ws x
kind_behind [] ws x e = refl
kind_behind (v ∷ vs) ws x e = by (bytes_eq x v.0) e (kind_behind vs ws x)
  where
    by : (b : Bool) → cond b (Some v.1) (kind_of vs x) ≡ None → (kind_of vs x ≡ None → kind_of (vs ++ ws) x ≡ kind_of ws x) → cond b (Some v.1) (kind_of (vs ++ ws) x) ≡ kind_of ws x
    by true f more = absurd cc
    by false f more = more f

pub none_before : (vs ws : List Binding) (x : List ℕ) → kind_of (vs ++ ws) x ≡ None → kind_of vs x ≡ None
none_before vs ws x e = by (kind_of vs x) refl
  where
    by : (o : Option (List ℕ)) → kind_of vs x ≡ o → kind_of vs x ≡ None
    by None f = f
    by (Some kind) f = absurd (let h : Some kind ≡ None = sym (kind_kept vs ws x kind f) ∙ e in cc)

pub none_behind : (vs ws : List Binding) (x : List ℕ) → kind_of (vs ++ ws) x ≡ None → kind_of ws x ≡ None
none_behind vs ws x e = sym (kind_behind vs ws x (none_before vs ws x e)) ∙ e

pub among_none : (vs : List Binding) (x : List ℕ) → kind_of vs x ≡ None → is_among (bound_names vs) x ≡ false
among_none [] x e = refl
among_none (v ∷ vs) x e = by (bytes_eq x v.0) e (among_none vs x)
  where
    by : (b : Bool) → cond b (Some v.1) (kind_of vs x) ≡ None → (kind_of vs x ≡ None → is_among (bound_names vs) x ≡ false) → (b || is_among (bound_names vs) x) ≡ false
    by true f more = absurd cc
    by false f more = more f

pub none_among : (vs : List Binding) (x : List ℕ) → is_among (bound_names vs) x ≡ false → kind_of vs x ≡ None
none_among [] x e = refl
none_among (v ∷ vs) x e = by (bytes_eq x v.0) e (none_among vs x)
  where
    by : (b : Bool) → (b || is_among (bound_names vs) x) ≡ false → (is_among (bound_names vs) x ≡ false → kind_of vs x ≡ None) → cond b (Some v.1) (kind_of vs x) ≡ None
    by true f more = absurd cc
    by false f more = more f

-- ---- lists

-- each name is new, outside and in the list, and has a known type
abbrev pub ListTyped : List Binding → List Binding → List TypedName → Type 0
ListTyped types vars [] = Unit {0}
ListTyped types vars (v ∷ vs) = (kind_of vars v.name.name ≡ None) × (is_type types v.kind.name ≡ true) × ListTyped types (vars ++ (v.name.name, v.kind.name) ∷ []) vs

bound_free : (file : File) (outer earlier : List (List ℕ)) (x : Spelled) → bound_faults file outer earlier x ≡ [] → (is_among outer x.name ≡ false) × (is_among earlier x.name ≡ false)
bound_free file outer earlier x e = by (is_among outer x.name) (is_among earlier x.name) e
  where
    by : (a b : Bool) → cond a (At Shadowed file x.span ∷ []) (fault_where b Twice file x.span) ≡ [] → (a ≡ false) × (b ≡ false)
    by true b e = cc
    by false true e = cc
    by false false e = (refl, refl)

free_bound : (file : File) (outer earlier : List (List ℕ)) (x : Spelled) → is_among outer x.name ≡ false → is_among earlier x.name ≡ false → bound_faults file outer earlier x ≡ []
free_bound file outer earlier x e f = ap₂ (λ a b. cond a (At Shadowed file x.span ∷ []) (fault_where b Twice file x.span)) e f

names_more : (done : List Binding) (b : Binding) → bound_names done ++ b.0 ∷ [] ≡ bound_names (done ++ b ∷ [])
names_more [] b = refl
names_more (d ∷ done) b = ap (λ xs. d.0 ∷ xs) (names_more done b)

pub list_from : (types : List Binding) (file : File) (vars done : List Binding) (vs : List TypedName) → list_faults types file (bound_names vars) (bound_names done) vs ≡ [] → ListTyped types (vars ++ done) vs
unfolding member_faults
list_from types file vars done [] e = tt
list_from types file vars done (v ∷ vs) e =
    let first = left-none (member_faults types file (bound_names vars) (bound_names done) v) _ e in
    let free = bound_free file (bound_names vars) (bound_names done) v.name (left-none (bound_faults file (bound_names vars) (bound_names done) v.name) _ first) in
    let kind = rule_kept (not (is_type types v.kind.name)) UnknownType file v.kind.span (right-none (bound_faults file (bound_names vars) (bound_names done) v.name) _ first) in
    let rest = right-none (member_faults types file (bound_names vars) (bound_names done) v) _ e in (
      kind_behind vars done v.name.name (none_among vars v.name.name free.0) ∙ none_among done v.name.name free.1,
      not_false (is_type types v.kind.name) kind,
      subst (λ x. ListTyped types x vs) (sym (append_assoc vars done ((v.name.name, v.kind.name) ∷ [])))
          (list_from types file vars (done ++ (v.name.name, v.kind.name) ∷ []) vs
          (subst (λ x. list_faults types file (bound_names vars) x vs ≡ []) (names_more done (v.name.name, v.kind.name)) rest)),
    )

pub list_to : (types : List Binding) (file : File) (vars done : List Binding) (vs : List TypedName) → ListTyped types (vars ++ done) vs → list_faults types file (bound_names vars) (bound_names done) vs ≡ []
unfolding member_faults
list_to types file vars done [] t = refl
list_to types file vars done (v ∷ vs) t =
    both_none (member_faults types file (bound_names vars) (bound_names done) v) _
    (both_none (bound_faults file (bound_names vars) (bound_names done) v.name) _
    (free_bound file (bound_names vars) (bound_names done) v.name (among_none vars v.name.name (none_before vars done v.name.name t.0)) (among_none done v.name.name (none_behind vars done v.name.name t.0)))
    (no_rule (not (is_type types v.kind.name)) UnknownType file v.kind.span (ap not t.1)))
    (subst (λ x. list_faults types file (bound_names vars) x vs ≡ []) (sym (names_more done (v.name.name, v.kind.name)))
    (list_to types file vars (done ++ (v.name.name, v.kind.name) ∷ []) vs (subst (λ x. ListTyped types x vs) (append_assoc vars done ((v.name.name, v.kind.name) ∷ [])) t.2)))

pub variables_from : (c : Context) (vars : List Binding) (vs : List TypedName) → variables_faults c vars vs ≡ [] → ListTyped c.types vars vs
variables_from c vars vs e = subst (λ x. ListTyped c.types x vs) (append-nil vars) (list_from c.types c.file vars [] vs e)

pub variables_to : (c : Context) (vars : List Binding) (vs : List TypedName) → ListTyped c.types vars vs → variables_faults c vars vs ≡ []
variables_to c vars vs t = list_to c.types c.file vars [] vs (subst (λ x. ListTyped c.types x vs) (sym (append-nil vars)) t)

pub list_append : (types vars : List Binding) (xs ys : List TypedName) → ListTyped types vars xs → ListTyped types (vars ++ bindings_of xs) ys → ListTyped types vars (xs ++ ys)
list_append types vars [] ys t u = subst (λ v. ListTyped types v ys) (append-nil vars) u
list_append types vars (x ∷ xs) ys t u =
    (t.0, t.1, list_append types (vars ++ (x.name.name, x.kind.name) ∷ []) xs ys t.2 (subst (λ v. ListTyped types v ys) (sym (append_assoc vars ((x.name.name, x.kind.name) ∷ []) (bindings_of xs))) u))
