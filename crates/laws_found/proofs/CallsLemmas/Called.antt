-- A call that names an instance: its name is that of an action, its arguments are names of objects, and its label is the instance's.
use Rattle.std.proofs.Common.{◌≡◌, ℕ, zero, suc, ◌+◌, ◌<◌, Bool, true, false, not, cond, nat_eq, List, [], ◌∷◌, ◌++◌, length, map, Option, Some, None, slice_get, get_or, All, arith, refl, ap, sym, subst, ◌∙◌, append-nil, append_assoc}
use Rattle.std.specs.Prelude.{Contains, if◌then◌else◌}
use Rattle.std.specs.List.{list_any, position_or_len}
use Rattle.std.specs.Str.{bytes_eq}
use Rattle.std.proofs.lemmas.List.{map-append}
use Rattle.std.proofs.lemmas.List.Elements.{All-nil, All-cons}
use Rattle.std.proofs.lemmas.List.Sums.{passes_at_first}
use Rattle.plus_model.specs.Terms.{Action}
use Rattle.plus_model.specs.Plan.{Instance}
use Rattle.plus_tree.specs.declared.terms.TypedName.{TypedName}
use Rattle.plus_tree.specs.declared.trees.Call.{Call}
use Rattle.plus_tree.specs.declared.trees.Schema.{Schema}
use Rattle.plus_tree.specs.declared.trees.Domain.{Domain}
use Rattle.plus_tree.specs.declared.trees.Problem.{Problem}
use Rattle.plus_types.specs.Types.{bound_names, objects_of}
use Rattle.plus_types.specs.Faults.{Context, problem_context, action_names}
use Rattle.plus_types.proofs.TypesLemmas.{same-bytes}
use Rattle.plus_typing.proofs.Lists.{names_bound}
use Rattle.plus_expansion.specs.Objects.{members_of, object_place, object_names}
use Rattle.plus_expansion.specs.Numbers.{label_of}
use Rattle.plus_expansion.specs.Environments.{Environment}
use Rattle.plus_expansion.specs.Expansion.{action_meant}
use Rattle.plus_expansion.specs.Calls.{bound_by, called_in, called_by, called_of}
use Rattle.plus_actions.proofs.MeantLemmas.{within}
use Rattle.laws_found.specs.Calls.Calls.{IsCalledBy}

-- ---- the action that has the name

abbrev schema_names : List Schema → List (List ℕ)
schema_names xs = map (λ a. a.name.name) xs

-- what stands at the first place of a name has it
pub first_named : (name : List ℕ) (xs : List Schema) (a : Schema) → slice_get xs (position_or_len (bytes_eq name) (schema_names xs)) ≡ Some a → name ≡ a.name.name
first_named name [] a e = cc e
first_named name (x ∷ xs) a e = by (bytes_eq name x.name.name) refl e (first_named name xs a)
  where
    by :
        (b : Bool) → bytes_eq name x.name.name ≡ b → slice_get (x ∷ xs) (cond (not b) (1 + position_or_len (bytes_eq name) (schema_names xs)) 0) ≡ Some a
        → (slice_get xs (position_or_len (bytes_eq name) (schema_names xs)) ≡ Some a → name ≡ a.name.name) → name ≡ a.name.name
    by true h f more = same-bytes name x.name.name h ∙ ap (λ (y : Schema). y.name.name) (let s : x ≡ a = cc f in s)
    by false h f more =
        let next : 1 + position_or_len (bytes_eq name) (schema_names xs) ≡ suc (position_or_len (bytes_eq name) (schema_names xs)) = omega arith in
        more (subst (λ (k : ℕ). slice_get (x ∷ xs) k ≡ Some a) next f)

held : (xs : List Schema) (k : ℕ) (a : Schema) → slice_get xs k ≡ Some a → Contains (schema_names xs) a.name.name
held [] k a e = cc e
held (x ∷ xs) zero a e = (0, omega arith, ap (λ (y : Schema). y.name.name) (let s : x ≡ a = cc e in s))
held (x ∷ xs) (suc k) a e = let m = held xs k a e in (suc m.0, omega (arith, m.1), m.2)

-- ---- the objects that have the names

-- what stands at the place of a name that is there
pub name_at : (name : List ℕ) (ns : List (List ℕ)) (d : List ℕ) → position_or_len (bytes_eq name) ns < length ns → get_or ns (position_or_len (bytes_eq name) ns) d ≡ name
name_at name ns d h = sym (same-bytes name _ (passes_at_first (bytes_eq name) ns d h))

pub is_there : (c : Context) (kind name : List ℕ) → list_any (nat_eq (object_place c name)) (members_of c kind) ≡ true → object_place c name < length (bound_names c.objects)
is_there c kind name e = within c kind (object_place c name) e

abbrev objects_in : Environment → List ℕ
objects_in env = map (λ b. b.1) env

one_more :
    (c : Context) (env : Environment) (variable : List ℕ) (o : ℕ)
    → object_names c (objects_in (env ++ (variable, o) ∷ [])) ≡ object_names c (objects_in env) ++ get_or (bound_names c.objects) o [] ∷ []
one_more c env variable o =
    ap (object_names c) (map-append (λ (b : List ℕ × ℕ). b.1) env ((variable, o) ∷ []))
    ∙ map-append (λ (k : ℕ). get_or (bound_names c.objects) k []) (objects_in env) (o ∷ [])

pub first_some : (b : Bool) (r : Option Environment) (x : Environment) → (if b then r else None) ≡ Some x → (b ≡ true) × (r ≡ Some x)
first_some true r x e = (refl, e)
first_some false r x e = cc e

-- the arguments are names of objects, those for which the parameters then stand
bound :
    (c : Context) (vs : List TypedName) (args : List (List ℕ)) (env out : Environment) → bound_by c vs args env ≡ Some out
    → All (Contains (bound_names c.objects)) args × (object_names c (objects_in out) ≡ object_names c (objects_in env) ++ args)
bound c [] [] env out e = (
  All-nil (Contains (bound_names c.objects)),
  ap (λ (x : Environment). object_names c (objects_in x)) (let s : out ≡ env = cc e in s) ∙ sym (append-nil (object_names c (objects_in env))),
)
bound c [] (a ∷ more) env out e = cc e
bound c (v ∷ vs) [] env out e = cc e
bound c (v ∷ vs) (a ∷ more) env out e =
    let inner : Environment = env ++ (v.name.name, object_place c a) ∷ [] in
    let f = first_some (list_any (nat_eq (object_place c a)) (members_of c v.kind.name)) (bound_by c vs more inner) out e in
    let there = is_there c v.kind.name a f.0 in
    let rest = bound c vs more inner out f.1 in
    let one = one_more c env v.name.name (object_place c a) ∙ ap (λ (n : List ℕ). object_names c (objects_in env) ++ n ∷ []) (name_at a (bound_names c.objects) [] there) in (
      All-cons (Contains (bound_names c.objects)) a more (object_place c a, there, name_at a (bound_names c.objects) a there) rest.0,
      rest.1 ∙ ap (λ (ns : List (List ℕ)). ns ++ more) one ∙ append_assoc (object_names c (objects_in env)) (a ∷ []) more,
    )

-- ---- the call

record Made (c : Context) (name : List ℕ) (args : List (List ℕ)) (action : Action) : Type 0 where
  label : label_of name args ≡ action.label
  objects : All (Contains (bound_names c.objects)) args

made :
    (c : Context) (name : List ℕ) (args : List (List ℕ)) (a : Schema) (r : Option Environment) (action : Action)
    → name ≡ a.name.name → bound_by c a.params args [] ≡ r → called_in c name a r ≡ Instance action → Made c name args action
made c name args a None action n b e = cc e
made c name args a (Some env) action n b e =
    let m = bound c a.params args [] env b in
    let same : action_meant c a env ≡ action = cc e in
    record {
      label = ap (λ (w : List ℕ). label_of w args) n ∙ ap (label_of a.name.name) (sym m.1) ∙ ap (λ (x : Action). x.label) same;
      objects = m.0;
    }

named :
    (c : Context) (name : List ℕ) (args : List (List ℕ)) (xs : List Schema) (o : Option Schema) (action : Action)
    → slice_get xs (position_or_len (bytes_eq name) (schema_names xs)) ≡ o → called_by c name args o ≡ Instance action
    → Made c name args action × Contains (schema_names xs) name
named c name args xs None action s e = cc e
named c name args xs (Some a) action s e =
    let n = first_named name xs a s in
    (made c name args a (bound_by c a.params args []) action n refl e, subst (Contains (schema_names xs)) (sym n) (held xs (position_or_len (bytes_eq name) (schema_names xs)) a s))

pub instance_is_called_so : (d : Domain) (p : Problem) (action : Action) (call : Call) → called_of d p call.name call.args ≡ Instance action → IsCalledBy d p action call
instance_is_called_so d p action call e =
    let m = named (problem_context d p) call.name call.args d.actions (slice_get d.actions (position_or_len (bytes_eq call.name) (action_names d))) action refl e in
    record {
      called = e;
      label = m.0.label;
      name = m.1;
      args = subst (λ (ns : List (List ℕ)). All (Contains ns) call.args) (names_bound (objects_of d p)) m.0.objects;
    }
