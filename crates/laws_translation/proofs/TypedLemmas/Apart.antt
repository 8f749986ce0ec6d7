-- Where the translated pair is well typed, no list around a rate of a process binds a variable that its condition binds.
use Rattle.std.proofs.Common.{◌≡◌, ℕ, Bool, true, false, cond, ◌||◌, List, [], ◌∷◌, ◌++◌, map, refl, ap, ap₂, sym, subst, ◌∙◌, append_assoc, append-nil, Some, None, flat_map, All}
use Rattle.std.specs.Str.{bytes_eq}
use Rattle.std.proofs.lemmas.List.Elements.{All-nil, All-cons}
use Rattle.std.proofs.lemmas.List.Folds.{list_any-append}
use Rattle.plus_fraction.specs.Fraction.{Fraction}
use Rattle.plus_tree.specs.declared.terms.TypedName.{TypedName}
use Rattle.plus_tree.specs.declared.trees.Schema.{Schema}
use Rattle.plus_tree.specs.declared.trees.Domain.{Domain}
use Rattle.plus_tree.specs.Cond.{Cond, Conds, c_all, c_any, c_not, c_imply, c_forall, c_exists, c_atom, c_same, c_compare, no_conds, more_conds}
use Rattle.plus_tree.specs.Effect.{Effect, e_when, effects_of}
use Rattle.plus_types.specs.declared.faults.Wrong.TheVariants.{RateForm}
use Rattle.plus_types.specs.Types.{Binding, bindings_of, names_of, is_among, kind_of}
use Rattle.plus_types.specs.Faults.{Context, domain_context, fault_where, twice_faults, variables_faults, cond_faults, conds_faults, leaves_faults, effect_faults, effects_faults, schema_faults, schemas_faults, declaration_faults, rule_faults}
use Rattle.plus_types.proofs.SoundLemmas.{left-none, right-none}
use Rattle.plus_types.proofs.TypesLemmas.{same-bytes, bytes-self}
use Rattle.plus_expansion.proofs.WellTyped.{no-type-fault}
use Rattle.plus_translation.specs.Renamed.{nowhere, renamed_from}
use Rattle.plus_translation.specs.Leaves.{over_effect, nested, Placed, leaves_of}
use Rattle.plus_translation.specs.Translated.{leaf, length_of_step, flow_node, flows, due_by, clears, none_hold, clock_effects, old_translated, translated_domain, translated_problem}
use Rattle.laws_translation.specs.Typed.Laws.{bound_in, bound_among, AreApart, NoRateShadows, TypedIsApart}
use Rattle.laws_translation.proofs.TypedLemmas.Listed.{kind_kept, ListTyped, variables_from}
use Rattle.laws_translation.proofs.TypedLemmas.Nested.{bindings_all}

-- ---- names that are bound

abbrev IsIn : List Binding → List ℕ → Type 0
IsIn vars x = (kind : List ℕ) × (kind_of vars x ≡ Some kind)

in_more : (b : Binding) (vars : List Binding) (x : List ℕ) → IsIn vars x → IsIn (b ∷ vars) x
in_more b vars x i = by (bytes_eq x b.0)
  where
    by : (t : Bool) → (kind : List ℕ) × (cond t (Some b.1) (kind_of vars x) ≡ Some kind)
    by true = (b.1, refl)
    by false = i

in_behind : (vars more : List Binding) (x : List ℕ) → IsIn more x → IsIn (vars ++ more) x
in_behind [] more x i = i
in_behind (b ∷ vars) more x i = in_more b (vars ++ more) x (in_behind vars more x i)

in_front : (vars more : List Binding) (x : List ℕ) → IsIn vars x → IsIn (vars ++ more) x
in_front vars more x i = (i.0, kind_kept vars more x i.0 i.1)

in_here : (b : Binding) (vars : List Binding) → IsIn (b ∷ vars) b.0
in_here b vars = (b.1, ap (λ t. cond t (Some b.1) (kind_of vars b.0)) (bytes-self b.0))

-- ---- a condition without faults binds none of them

list_free : (types vars : List Binding) (vs : List TypedName) (x : List ℕ) → ListTyped types vars vs → IsIn vars x → is_among (names_of vs) x ≡ false
list_free types vars [] x t i = refl
list_free types vars (v ∷ vs) x t i =
    let rest = list_free types (vars ++ (v.name.name, v.kind.name) ∷ []) vs x t.2 (in_front vars ((v.name.name, v.kind.name) ∷ []) x i) in
    ap₂ (λ a b. a || b) (by (bytes_eq x v.name.name) refl) rest
  where
    by : (b : Bool) → bytes_eq x v.name.name ≡ b → bytes_eq x v.name.name ≡ false
    by false e = e
    by true e =
        let f : Some i.0 ≡ None = sym i.1 ∙ ap (kind_of vars) (same-bytes x v.name.name e) ∙ t.0 in
        cc f

free_of : (xs ys : List (List ℕ)) (x : List ℕ) → (is_among xs x ≡ false) × (is_among ys x ≡ false) → is_among (xs ++ ys) x ≡ false
free_of xs ys x f = list_any-append (bytes_eq x) xs ys ∙ ap₂ (λ p q. p || q) f.0 f.1

mutual
  outside : (c : Context) (vars : List Binding) (g : Cond) (x : List ℕ) → cond_faults c vars g ≡ [] → IsIn vars x → is_among (bound_in g) x ≡ false
  outside c vars (c_all gs s) x f i = all_outside c vars gs x f i
  outside c vars (c_any gs s) x f i = all_outside c vars gs x f i
  outside c vars (c_not g s) x f i = outside c vars g x f i
  outside c vars (c_imply g h s) x f i =
      free_of (bound_in g) (bound_in h) x (outside c vars g x (left-none (cond_faults c vars g) _ f) i, outside c vars h x (right-none (cond_faults c vars g) _ f) i)
  outside c vars (c_forall vs g s) x f i =
      free_of (names_of vs) (bound_in g) x (
        list_free c.types vars vs x (variables_from c vars vs (left-none (variables_faults c vars vs) _ f)) i,
        outside c (vars ++ bindings_of vs) g x (right-none (variables_faults c vars vs) _ f) (in_front vars (bindings_of vs) x i),
      )
  outside c vars (c_exists vs g s) x f i =
      free_of (names_of vs) (bound_in g) x (
        list_free c.types vars vs x (variables_from c vars vs (left-none (variables_faults c vars vs) _ f)) i,
        outside c (vars ++ bindings_of vs) g x (right-none (variables_faults c vars vs) _ f) (in_front vars (bindings_of vs) x i),
      )
  outside c vars (c_atom u s) x f i = refl
  outside c vars (c_same t u s) x f i = refl
  outside c vars (c_compare op e h s) x f i = refl

  all_outside : (c : Context) (vars : List Binding) (gs : Conds) (x : List ℕ) → conds_faults c vars gs ≡ [] → IsIn vars x → is_among (bound_among gs) x ≡ false
  all_outside c vars no_conds x f i = refl
  all_outside c vars (more_conds g gs) x f i =
      free_of (bound_in g) (bound_among gs) x (outside c vars g x (left-none (cond_faults c vars g) _ f) i, all_outside c vars gs x (right-none (cond_faults c vars g) _ f) i)

-- ---- lists around it

module _ (g : Cond) where
  list_apart : (vs : List TypedName) → ((x : List ℕ) → IsIn (bindings_of vs) x → is_among (bound_in g) x ≡ false) → AreApart g vs
  list_apart [] f = All-nil (λ (v : TypedName). is_among (bound_in g) v.name.name ≡ false)
  list_apart (v ∷ vs) f =
      All-cons (λ (w : TypedName). is_among (bound_in g) w.name.name ≡ false) v vs (f v.name.name (in_here (v.name.name, v.kind.name) (bindings_of vs)))
      (list_apart vs (λ x i. f x (in_more (v.name.name, v.kind.name) (bindings_of vs) x i)))

  lists_apart : (lists : List (List TypedName)) → ((x : List ℕ) → IsIn (bindings_all lists) x → is_among (bound_in g) x ≡ false) → All (AreApart g) lists
  lists_apart [] f = All-nil (AreApart g)
  lists_apart (vs ∷ rest) f =
      All-cons (AreApart g) vs rest (list_apart vs (λ x i. f x (in_front (bindings_of vs) (bindings_all rest) x i)))
      (lists_apart rest (λ x i. f x (in_behind (bindings_of vs) (bindings_all rest) x i)))

-- ---- an effect inside its lists

over_inner : (c : Context) (vars : List Binding) (vs : List TypedName) (e : Effect) → effect_faults c vars false (over_effect vs e) ≡ [] → effect_faults c (vars ++ bindings_of vs) false e ≡ []
over_inner c vars [] e f = subst (λ xs. effect_faults c xs false e ≡ []) (sym (append-nil vars)) f
over_inner c vars (v ∷ vs) e f = right-none (variables_faults c vars (v ∷ vs)) _ f

nested_inner : (c : Context) (vars : List Binding) (lists : List (List TypedName)) (e : Effect) → effect_faults c vars false (nested lists e) ≡ [] → effect_faults c (vars ++ bindings_all lists) false e ≡ []
nested_inner c vars [] e f = subst (λ xs. effect_faults c xs false e ≡ []) (sym (append-nil vars)) f
nested_inner c vars (vs ∷ rest) e f =
    subst (λ xs. effect_faults c xs false e ≡ []) (append_assoc vars (bindings_of vs) (bindings_all rest))
    (nested_inner c (vars ++ bindings_of vs) rest e (over_inner c vars vs (nested rest e) f))

module _ (q : Fraction) (c : Context) (a : Schema) where
  abbrev flow_of : Placed → Effect
  flow_of p = over_effect a.params (nested p.lists (e_when a.condition (leaf (flow_node (length_of_step q) p.leaf.node) ∷ []) nowhere))

  flow_apart : (p : Placed) → effect_faults c [] false (flow_of p) ≡ [] → All (AreApart a.condition) p.lists
  flow_apart p f =
      let vars = bindings_of a.params in
      let all = vars ++ bindings_all p.lists in
      let ls = leaf (flow_node (length_of_step q) p.leaf.node) ∷ [] in
      let inner : effect_faults c all false (e_when a.condition ls nowhere) ≡ [] =
      nested_inner c vars p.lists (e_when a.condition ls nowhere) (over_inner c [] a.params (nested p.lists (e_when a.condition ls nowhere)) f) in
      let g : cond_faults c all a.condition ≡ [] =
      left-none (cond_faults c all a.condition) (leaves_faults c all false ls) (right-none (fault_where false RateForm c.file nowhere) _ inner) in
      lists_apart a.condition p.lists (λ x i. outside c all a.condition x g (in_behind vars (bindings_all p.lists) x i))

  flows_apart : (ps : List Placed) (rest : List Effect) → effects_faults c [] false (effects_of (map flow_of ps ++ rest)) ≡ [] → All (λ (p : Placed). All (AreApart a.condition) p.lists) ps × (effects_faults c [] false (effects_of rest) ≡ [])
  flows_apart [] rest f = (All-nil (λ (p : Placed). All (AreApart a.condition) p.lists), f)
  flows_apart (p ∷ ps) rest f =
      let more = flows_apart ps rest (right-none (effect_faults c [] false (flow_of p)) _ f) in
      (All-cons (λ (p : Placed). All (AreApart a.condition) p.lists) p ps (flow_apart p (left-none (effect_faults c [] false (flow_of p)) _ f)) more.0, more.1)

processes_apart : (q : Fraction) (c : Context) (ss : List Schema) (rest : List Effect) → effects_faults c [] false (effects_of (flat_map (flows (length_of_step q)) ss ++ rest)) ≡ [] → All NoRateShadows ss
processes_apart q c [] rest f = All-nil NoRateShadows
processes_apart q c (a ∷ ss) rest f =
    let behind = flat_map (flows (length_of_step q)) ss ++ rest in
    let split : effects_faults c [] false (effects_of (map (flow_of q c a) (leaves_of a.effect) ++ behind)) ≡ [] =
    subst (λ (es : List Effect). effects_faults c [] false (effects_of es) ≡ []) (append_assoc (flows (length_of_step q) a) (flat_map (flows (length_of_step q)) ss) rest) f in
    let one = flows_apart q c a (leaves_of a.effect) behind split in
    All-cons NoRateShadows a ss one.0 (processes_apart q c ss rest one.1)

-- ---- the action of a step

schema_effect : (c : Context) (earlier : List (List ℕ)) (a : Schema) → schema_faults c false earlier a ≡ [] → effect_faults c (bindings_of a.params) false a.effect ≡ []
unfolding schema_faults
schema_effect c earlier a f =
    right-none (cond_faults c (bindings_of a.params) a.condition) _ (right-none (variables_faults c [] a.params) _ (right-none (twice_faults earlier a.name) _ f))

behind_schemas : (c : Context) (earlier : List (List ℕ)) (xs : List Schema) (a : Schema) (ys : List Schema) → schemas_faults c false earlier (xs ++ a ∷ ys) ≡ [] → effect_faults c (bindings_of a.params) false a.effect ≡ []
behind_schemas c earlier [] a ys f = schema_effect c earlier a (left-none (schema_faults c false earlier a) _ f)
behind_schemas c earlier (x ∷ xs) a ys f = behind_schemas c (earlier ++ x.name.name ∷ []) xs a ys (right-none (schema_faults c false earlier x) _ f)

actions_typed : (d : Domain) → rule_faults d ≡ [] → schemas_faults (domain_context d) false [] d.actions ≡ []
unfolding rule_faults
actions_typed d f = left-none (schemas_faults (domain_context d) false [] d.actions) _ f

pub typed_is_apart : TypedIsApart
typed_is_apart d p q h =
    let t = translated_domain q d p in
    let u = translated_problem q d p in
    let events = renamed_from 1 d.events in
    let due = flat_map (due_by q) p.init in
    let rules : rule_faults t ≡ [] = left-none (rule_faults t) _ (right-none (declaration_faults t) _ (no-type-fault t u h)) in
    processes_apart q (domain_context t) d.processes (clock_effects due ++ clears 1 events)
    (behind_schemas (domain_context t) [] (map (old_translated (none_hold events) (clears 1 events)) d.actions) _ _ (actions_typed t rules))
