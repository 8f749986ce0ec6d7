-- Where the ground actions are inside the limits, all passes that is asked of the instance that a call names.
use Rattle.std.proofs.Common.{◌≡◌, ℕ, zero, suc, ◌*◌, ◌≤◌, true, false, nat_eq, List, [], ◌∷◌, ◌++◌, length, Option, Some, None, slice_get, All, arith, refl, ap, sym, subst, ◌∙◌}
use Rattle.std.specs.List.{sum_by, flat_map, list_any, position_or_len}
use Rattle.std.specs.Str.{bytes_eq}
use Rattle.std.proofs.lemmas.List.Sums.{sum_by-cons}
use Rattle.std.proofs.lemmas.List.Elements.{All-nil}
use Rattle.plus_model.specs.Terms.{Action}
use Rattle.plus_model.specs.Plan.{Instance}
use Rattle.plus_number.specs.Frac.{IsFrac64}
use Rattle.plus_tree.specs.declared.terms.Literal.{Literal}
use Rattle.plus_tree.specs.declared.terms.TypedName.{TypedName}
use Rattle.plus_tree.specs.declared.trees.Call.{Call}
use Rattle.plus_tree.specs.declared.trees.Schema.{Schema}
use Rattle.plus_tree.specs.declared.trees.Domain.{Domain}
use Rattle.plus_tree.specs.declared.trees.Problem.{Problem}
use Rattle.plus_types.specs.Faults.{Context, problem_context, action_names}
use Rattle.plus_literal.specs.Value.{LiteralFits}
use Rattle.plus_expansion.specs.Objects.{members_of, object_place}
use Rattle.plus_expansion.specs.Environments.{Environment}
use Rattle.plus_expansion.specs.Expansion.{action_meant}
use Rattle.plus_expansion.specs.Calls.{bound_by, called_in, called_by, called_of}
use Rattle.plus_expansion.specs.Nodes.{action_nodes}
use Rattle.plus_expansion.specs.Literals.{schema_literals, literals_in}
use Rattle.plus_ground.proofs.ExpressionsLemmas.{all_left, all_right}
use Rattle.plus_numbering.specs.Sizes.{choices, schema_size, schemas_size}
use Rattle.plus_stretch.specs.Tests.{AllPass}
use Rattle.plus_actions.specs.Actions.{IsGroundable}
use Rattle.plus_actions.proofs.CountingLemmas.{action-nodes, few_nodes}
use Rattle.plus_validator.specs.Plans.{pair}
use Rattle.plus_validator.specs.Asking.{call_tests}
use Rattle.laws_found.specs.Calls.Calls.{IsCalledBy}
use Rattle.laws_found.proofs.CallsLemmas.Called.{first_some}
use Rattle.plus_validator.proofs.CalledTests.{call_passes}

-- ---- its literals are values

of_schema : (P : Literal → Type 0) (xs : List Schema) (k : ℕ) (a : Schema) → slice_get xs k ≡ Some a → All P (flat_map schema_literals xs) → All P (schema_literals a)
of_schema P [] k a e h = cc e
of_schema P (x ∷ xs) zero a e h = subst (λ (y : Schema). All P (schema_literals y)) (let f : x ≡ a = cc e in f) (all_left P (schema_literals x) (flat_map schema_literals xs) h)
of_schema P (x ∷ xs) (suc k) a e h = of_schema P xs k a e (all_right P (schema_literals x) (flat_map schema_literals xs) h)

of_call : (P : Literal → Type 0) (xs : List Schema) (k : ℕ) (o : Option Schema) → slice_get xs k ≡ o → All P (flat_map schema_literals xs) → All P (literals_in o)
of_call P xs k None e h = All-nil P
of_call P xs k (Some a) e h = of_schema P xs k a e h

-- ---- its size is allowed

nonempty : (n : ℕ) (xs : List ℕ) → list_any (nat_eq n) xs ≡ true → 1 ≤ length xs
nonempty n [] e = absurd (let f : false ≡ true = e in cc f)
nonempty n (x ∷ xs) e = omega arith

both_some : (a b : ℕ) → 1 ≤ a → 1 ≤ b → 1 ≤ a * b
both_some zero b h k = absurd (omega arith)
both_some (suc a) zero h k = absurd (omega arith)
both_some (suc a) (suc b) h k = omega arith

some_choice : (c : Context) (vs : List TypedName) (args : List (List ℕ)) (env out : Environment) → bound_by c vs args env ≡ Some out → 1 ≤ choices c vs
some_choice c [] args env out e = omega arith
some_choice c (v ∷ vs) [] env out e = cc e
some_choice c (v ∷ vs) (a ∷ more) env out e =
    let inner = env ++ (v.name.name, object_place c a) ∷ [] in
    let f = first_some (list_any (nat_eq (object_place c a)) (members_of c v.kind.name)) (bound_by c vs more inner) out e in
    both_some (length (members_of c v.kind.name)) (choices c vs) (nonempty (object_place c a) (members_of c v.kind.name) f.0) (some_choice c vs more inner out f.1)

at_least : (a b : ℕ) → 1 ≤ a → b ≤ a * b
at_least zero b h = absurd (omega arith)
at_least (suc a) b h = omega arith

in_sum : {X : Type 0} (f : X → ℕ) (xs : List X) (k : ℕ) (x : X) → slice_get xs k ≡ Some x → f x ≤ sum_by f xs
in_sum f [] zero x e = cc e
in_sum f [] (suc k) x e = cc e
in_sum f (y ∷ ys) zero x e = (let s = sum_by-cons f y ys in let m : f y ≡ f x = ap f (let g : y ≡ x = cc e in g) in omega arith)
in_sum f (y ∷ ys) (suc k) x e = (let s = sum_by-cons f y ys in let m = in_sum f ys k x e in omega arith)

bound_size : (c : Context) (name : List ℕ) (a : Schema) (r : Option Environment) (action : Action) → ((env : Environment) → r ≡ Some env → 1 ≤ choices c a.params) → called_in c name a r ≡ Instance action → action_nodes action ≤ choices c a.params * schema_size c false a
bound_size c name a None action h e = cc e
bound_size c name a (Some env) action h e =
    subst (λ n. n ≤ choices c a.params * schema_size c false a)
    (sym (action-nodes c a env) ∙ ap action_nodes (let s : action_meant c a env ≡ action = cc e in s))
    (at_least (choices c a.params) (schema_size c false a) (h env refl))

called_size : (c : Context) (name : List ℕ) (args : List (List ℕ)) (schemas : List Schema) (k : ℕ) (o : Option Schema) (action : Action) → slice_get schemas k ≡ o → called_by c name args o ≡ Instance action → action_nodes action ≤ schemas_size c (schema_size c false) schemas
called_size c name args schemas k None action s e = cc e
called_size c name args schemas k (Some a) action s e =
    let one = bound_size c name a (bound_by c a.params args []) action (λ env f. some_choice c a.params args [] env f) e in
    let all = in_sum (λ (x : Schema). choices c x.params * schema_size c false x) schemas k a s in
    at_most _ _ _ one all
  where
    at_most : (x y z : ℕ) → x ≤ y → y ≤ z → x ≤ z
    at_most x y z h k = omega arith

small : (d : Domain) (p : Problem) (name : List ℕ) (args : List (List ℕ)) (action : Action) → IsGroundable IsFrac64 d p → called_of d p name args ≡ Instance action → action_nodes action ≤ 1000000
small d p name args action g e =
    let k = position_or_len (bytes_eq name) (action_names d) in
    let size = called_size (problem_context d p) name args d.actions k (slice_get d.actions k) action refl e in
    let few = few_nodes d p g.counts in
    omega (arith, size, few)

pub called_instance_is_within :
    (d : Domain) (p : Problem) (action : Action) (call : Call) → IsGroundable IsFrac64 d p → IsCalledBy d p action call → AllPass IsFrac64 (call_tests (pair d p) call)
called_instance_is_within d p action call g c =
    let k = position_or_len (bytes_eq call.name) (action_names d) in
    call_passes (pair d p) call action
    (record {
      is = c.called;
      small = small d p call.name call.args action g c.called;
      literals = of_call (LiteralFits IsFrac64) d.actions k (slice_get d.actions k) refl g.literals;
    })
