-- The calls of the translation are the old ones, and the two that join.
use Rattle.std.proofs.Common.{◌≡◌, ℕ, suc, ◌+◌, Bool, true, false, not, cond, ◌&&◌, ◌||◌, List, [], ◌∷◌, ◌++◌, map, length, refl, ap, ap₂, sym, subst, ◌∙◌, arith, append-nil, flat_map, filter, pos, Option, Some, None, nat_eq}
use Rattle.std.specs.Prelude.{codes, slice_get, if◌then◌else◌}
use Rattle.std.specs.List.{list_any, position_or_len}
use Rattle.std.specs.Str.{bytes_eq}
use Rattle.plus_fraction.specs.Fraction.{Fraction, whole, ◌<ℚ◌}
use Rattle.plus_model.specs.Terms as model
use Rattle.plus_model.specs.Terms.{Number, Always, Action, Condition, Effect, Event, State, Problem}
use Rattle.plus_model.specs.Plan.{Called, Instance, UnknownAction}
use Rattle.plus_tree.specs.declared.terms.TypedName.{TypedName}
use Rattle.plus_tree.specs.declared.trees.LeafNode.TheVariants.{Increase}
use Rattle.plus_tree.specs.declared.trees.Schema.{Schema}
use Rattle.plus_tree.specs.declared.trees.Domain.{Domain}
use Rattle.plus_tree.specs.declared.trees.Problem as tree
use Rattle.plus_tree.specs.Expr.{x_number}
use Rattle.plus_tree.specs.Cond.{c_any, conds_of}
use Rattle.plus_types.specs.Types.{Binding, bindings_of, bound_names}
use Rattle.plus_types.specs.Faults.{Context, domain_context, problem_context, type_faults}
use Rattle.plus_types.proofs.TypesLemmas.{same-bytes}
use Rattle.plus_expansion.specs.Objects.{object_place}
use Rattle.plus_expansion.specs.Numbers.{ground_names, head_names}
use Rattle.plus_expansion.specs.Environments.{Environment, fluent_number}
use Rattle.plus_expansion.specs.Expansion.{effects_meant, timed_by, action_meant, expanded}
use Rattle.plus_expansion.specs.Calls.{bound_by, called_in, called_by, called_of}
use Rattle.plus_expansion.proofs.Members.{Stands, bound-stands}
use Rattle.plus_expansion.proofs.WellTyped.{SchemaTyped, PairTyped, pair-typed, schema-at}
use Rattle.plus_steps.specs.Laws.{CallName}
use Rattle.plus_steps.specs.Translation as ground
use Rattle.plus_model.specs.Value.{holds}
use Rattle.plus_steps.specs.Translation.{whenever, literals_at_steps, flows_of, Part, Old, Step, Fire, old_action, old_called, step_action, fire_action, part_meant, clears_from, fires_from, fresh_from}
use Rattle.plus_steps.proofs.Same.{Same, SameAction, Instead, same_refl, same_sym, same_trans, same_append, same_equal}
use Rattle.plus_steps.proofs.Lists.{same_action, from_old}
use Rattle.plus_translation.specs.Renamed.{nowhere, renamed_from}
use Rattle.plus_translation.specs.Leaves.{some}
use Rattle.plus_translation.specs.Translated.{Due, natural, leaf, writes, clock_use, due_by, is_later, due_effect, clock_effects, translated_domain, translated_problem, both, flows, length_of_step, mark_name, mark_heads, none_hold, none_repeats, clears, fires, old_translated, without_params}
use Rattle.plus_translation.proofs.Numbers.{SameWorld, members_same, ground_names_more}
use Rattle.plus_translation.proofs.Meant.{Contexts}
use Rattle.plus_translation.proofs.StepLength.{step_is}
use Rattle.plus_translation.proofs.Clock.{AllOnGrid, later_any, all_due, ordered_due, ordered_any}
use Rattle.plus_translation.proofs.Beginning.{clock_heads, clock_is}
use Rattle.plus_translation.proofs.Actions.{step_condition, step_effects, fire_condition, fire_effects, old_same}

pub same_action_sym : (a b : Action) → SameAction a b → SameAction b a
same_action_sym a b h = record { condition = λ t. sym (h.condition t); effects = same_sym a.effects b.effects h.effects }

abbrev pub step_name : List ℕ
step_name = codes "pp-step"

abbrev pub fire_name : List ℕ
fire_name = codes "pp-fire"

abbrev pub part_of : CallName → Part CallName
part_of call = if bytes_eq call.0 step_name then Step else (if bytes_eq call.0 fire_name then Fire else Old call)

abbrev pub call_of : Part CallName → CallName
call_of (Old call) = call
call_of Step = (step_name, [])
call_of Fire = (fire_name, [])

-- ---- where a name is found
abbrev pub name_of : Schema → List ℕ
name_of a = a.name.name

abbrev find : List ℕ → List Schema → Option Schema
find name xs = slice_get xs (position_or_len (bytes_eq name) (map name_of xs))

abbrev or_else : Option Schema → (Schema → Schema) → Option Schema → Option Schema
or_else None f o = o
or_else (Some a) f o = Some (f a)

found : (f : Schema → Schema) → ((a : Schema) → name_of (f a) ≡ name_of a) → (name : List ℕ) (xs more : List Schema) → find name (map f xs ++ more) ≡ or_else (find name xs) f (find name more)
found f k name [] more = refl
found f k name (x ∷ xs) more =
    ap (λ n. slice_get (f x ∷ (map f xs ++ more)) (cond (not (bytes_eq name n)) (1 + position_or_len (bytes_eq name) (map name_of (map f xs ++ more))) 0)) (k x)
    ∙ by (bytes_eq name (name_of x)) (found f k name xs more)
  where
    later : {X : Type 0} (y : X) (ys : List X) (k : ℕ) → slice_get (y ∷ ys) (1 + k) ≡ slice_get ys k
    later y ys k = let e : 1 + k ≡ suc k = omega arith in ap (slice_get (y ∷ ys)) e

    by : (b : Bool) → find name (map f xs ++ more) ≡ or_else (find name xs) f (find name more)
        → slice_get (f x ∷ (map f xs ++ more)) (cond (not b) (1 + position_or_len (bytes_eq name) (map name_of (map f xs ++ more))) 0) ≡ or_else (slice_get (x ∷ xs) (cond (not b) (1 + position_or_len (bytes_eq name) (map name_of xs)) 0)) f (find name more)
    by true h = refl
    by false h = later (f x) (map f xs ++ more) (position_or_len (bytes_eq name) (map name_of (map f xs ++ more))) ∙ h
        ∙ ap (λ o. or_else o f (find name more)) (sym (later x xs (position_or_len (bytes_eq name) (map name_of xs))))

nowhere_found : (name : List ℕ) (xs : List Schema) → list_any (bytes_eq name) (map name_of xs) ≡ false → find name xs ≡ None
nowhere_found name [] e = refl
nowhere_found name (x ∷ xs) e = by (bytes_eq name (name_of x)) e (nowhere_found name xs)
  where
    later : {X : Type 0} (y : X) (ys : List X) (k : ℕ) → slice_get (y ∷ ys) (1 + k) ≡ slice_get ys k
    later y ys k = let e : 1 + k ≡ suc k = omega arith in ap (slice_get (y ∷ ys)) e

    by : (b : Bool) → (b || list_any (bytes_eq name) (map name_of xs)) ≡ false → (list_any (bytes_eq name) (map name_of xs) ≡ false → find name xs ≡ None) → slice_get (x ∷ xs) (cond (not b) (1 + position_or_len (bytes_eq name) (map name_of xs)) 0) ≡ None
    by true h more = cc
    by false h more = later x xs (position_or_len (bytes_eq name) (map name_of xs)) ∙ more h

bound_same : (c c' : Context) → SameWorld c c' → (params : List TypedName) (args : List (List ℕ)) (env : Environment) → bound_by c' params args env ≡ bound_by c params args env
bound_same c c' w [] [] env = refl
bound_same c c' w [] (a ∷ args) env = refl
bound_same c c' w (v ∷ vs) [] env = refl
bound_same c c' w (v ∷ vs) (a ∷ args) env =
    let place : object_place c' a ≡ object_place c a = ap (λ (os : List Binding). position_or_len (bytes_eq a) (bound_names os)) w.objects in
    ap₂ (λ (b : Bool) o. if b then o else None)
    (ap₂ (λ (k : ℕ) ms. list_any (nat_eq k) ms) place (members_same c c' w v.kind.name))
    (ap (λ (k : ℕ). bound_by c' vs args (env ++ (v.name.name, k) ∷ [])) place ∙ bound_same c c' w vs args (env ++ (v.name.name, object_place c a) ∷ []))

-- ---- the pair

-- what is asked of a pair and of a step
pub record Given (d : Domain) (p : tree.Problem) (q : Fraction) : Type 0 where
  pub positive : whole (pos 0) <ℚ q
  pub typed : type_faults d p ≡ []
  pub marks : (k : ℕ) → list_any (bytes_eq (mark_name k)) (head_names d.predicates) ≡ false
  pub clock : list_any (bytes_eq (codes "pp-clock")) (head_names d.functions) ≡ false
  pub no_step : list_any (bytes_eq step_name) (map name_of d.actions) ≡ false
  pub no_fire : list_any (bytes_eq fire_name) (map name_of d.actions) ≡ false
  pub grid : AllOnGrid q p.init

module _ (d : Domain) (p : tree.Problem) (q : Fraction) (g : Given d p q) where
  abbrev pub due : List Due
  due = flat_map (due_by q) p.init

  abbrev pub c : Context
  c = problem_context d p

  abbrev pub d1 : Domain
  d1 = translated_domain q d p

  abbrev pub p1 : tree.Problem
  p1 = translated_problem q d p

  abbrev pub c' : Context
  c' = problem_context d1 p1

  abbrev pub P : Problem
  P = expanded d p

  pub t : PairTyped d p
  t = pair-typed d p g.typed

  -- the objects are the same, in the domain or in the problem
  objects_same : (later : Bool) → bindings_of ((d.constants ++ (if later then p.objects else [])) ++ (if later then [] else p.objects)) ≡ bindings_of (d.constants ++ p.objects)
  objects_same true = ap bindings_of (append-nil (d.constants ++ p.objects))
  objects_same false = ap (λ xs. bindings_of (xs ++ p.objects)) (append-nil d.constants)

  pub contexts : Contexts (domain_context d) c c'
  contexts = record {
    widens = t.widens;
    world = record { types = refl; objects = objects_same (list_any is_later due) };
    marks = mark_heads 1 (renamed_from 1 d.events);
    predicates = refl;
    clocks = clock_heads (list_any is_later due);
    functions = refl;
  }

  -- the same in the problem
  pub here : Contexts c c c'
  here = record { widens = t.same; world = contexts.world; marks = contexts.marks; predicates = contexts.predicates; clocks = contexts.clocks; functions = contexts.functions }

  pub base_is : length (ground_names c' c.predicates) ≡ P.atoms
  base_is = ap length (ap (ground_names c') (sym (append-nil c.predicates)) ∙ ground_names_more c c' contexts.world c.predicates [] ∙ append-nil (ground_names c c.predicates))

  abbrev step_schema : Schema
  step_schema = without_params step_name (both (none_hold (renamed_from 1 d.events))) (flat_map (flows (length_of_step q)) d.processes ++ (clock_effects due ++ clears 1 (renamed_from 1 d.events)))

  abbrev fire_schema : Schema
  fire_schema = without_params fire_name (both (c_any (conds_of (map (λ a. some a.params a.condition) (renamed_from 1 d.events))) nowhere ∷ none_repeats 1 (renamed_from 1 d.events))) (fires 1 (renamed_from 1 d.events))

  abbrev old_schema : Schema → Schema
  old_schema a = old_translated (none_hold (renamed_from 1 d.events)) (clears 1 (renamed_from 1 d.events)) a

  -- ---- the clock and the literals
  pub later_is : ground.has_clock P ≡ list_any is_later due
  later_is = ordered_any ground.is_later (flat_map (timed_by c) p.init) ∙ later_any q g.positive c p.init g.grid

  clock_like : Same (flat_map (effects_meant c' []) (clock_effects due)) (ground.clock_effects P q)
  clock_like = by (list_any is_later due) refl
    where
      by : (b : Bool) → list_any is_later due ≡ b → Same (flat_map (effects_meant c' []) (clock_effects due)) (ground.clock_effects P q)
      by false e = same_trans _ _ _
          (same_equal _ _ (ap (λ (b : Bool). flat_map (effects_meant c' []) (if b then writes (leaf (Increase clock_use (x_number (natural 1) nowhere))) ∷ map due_effect (filter is_later due) else [])) e))
          (same_equal _ _ (sym (ap (λ (b : Bool). if b then whenever Always (model.Increase P.fluents (Number (whole (pos 1)))) ∷ literals_at_steps q P.fluents P.timed else []) (later_is ∙ e))))
      by true e =
          let number : fluent_number c' [] clock_use ≡ P.fluents = clock_is c c' here d.events refl q g.positive p.init t.init g.grid refl g.clock e in
          same_trans _ _ _ (same_equal _ _ (ap (λ (b : Bool). flat_map (effects_meant c' []) (if b then writes (leaf (Increase clock_use (x_number (natural 1) nowhere))) ∷ map due_effect (filter is_later due) else [])) e))
          (same_trans _ _ _ (same_equal _ _ (ap₂ (λ (k : ℕ) es. whenever Always (model.Increase k (Number (whole (pos 1)))) ∷ es) number
          (all_due q g.positive c c' here [] p.init t.init g.grid ∙ ap (λ (k : ℕ). literals_at_steps q k (flat_map (timed_by c) p.init)) number)))
          (same_trans _ _ _ (same_append (whenever Always (model.Increase P.fluents (Number (whole (pos 1)))) ∷ []) (whenever Always (model.Increase P.fluents (Number (whole (pos 1)))) ∷ []) _ _ (same_refl _) (same_sym _ _ (ordered_due q P.fluents (flat_map (timed_by c) p.init))))
          (same_equal _ _ (sym (ap (λ (b : Bool). if b then whenever Always (model.Increase P.fluents (Number (whole (pos 1)))) ∷ literals_at_steps q P.fluents P.timed else []) (later_is ∙ e))))))

  step_like : SameAction (action_meant c' step_schema []) (step_action P q)
  step_like = record {
    condition = step_condition (domain_context d) c c' contexts d.events refl g.marks t.events;
    effects = subst (λ (k : ℕ). Same (action_meant c' step_schema []).effects (flat_map (flows_of q) P.processes ++ (ground.clock_effects P q ++ clears_from k P.events))) base_is
        (step_effects (domain_context d) c c' contexts d.events refl g.marks t.events q (length_of_step q) (step_is q g.positive c') d.processes t.processes (clock_effects due) (ground.clock_effects P q) clock_like);
  }

  fire_like : SameAction (action_meant c' fire_schema []) (fire_action P)
  fire_like = record {
    condition = subst (λ (k : ℕ). (u : State) → holds (action_meant c' fire_schema []).condition u ≡ (holds (ground.some_hold P.events) u && holds (fresh_from k P.events) u)) base_is
        (fire_condition (domain_context d) c c' contexts d.events refl g.marks t.events);
    effects = subst (λ (k : ℕ). Same (action_meant c' fire_schema []).effects (fires_from k P.events)) base_is (fire_effects (domain_context d) c c' contexts d.events refl g.marks t.events);
  }

  old_like : (s : Schema) → SchemaTyped (domain_context d) false s → (env : Environment) → Stands c (bindings_of s.params) env → SameAction (action_meant c' (old_schema s) env) (old_action P (action_meant c s env))
  old_like s st env stands =
      let h = old_same (domain_context d) c c' contexts d.events refl g.marks t.events s st env env stands (λ x kind e. refl) in
      record {
        condition = h.condition;
        effects = subst (λ (k : ℕ). Same (action_meant c' (old_schema s) env).effects (effects_meant c env s.effect ++ clears_from k P.events)) base_is h.effects;
      }

  -- ---- calls
  abbrev pub called : CallName → Called
  called call = called_of d p call.0 call.1

  abbrev pub called' : CallName → Called
  called' call = called_of d1 p1 call.0 call.1

  abbrev both_new : List Schema
  both_new = step_schema ∷ fire_schema ∷ []

  lookup : (name : List ℕ) → find name d1.actions ≡ or_else (find name d.actions) old_schema (find name both_new)
  lookup name = found old_schema (λ a. refl) name d.actions both_new

  -- of an old action
  old_instead : (name : List ℕ) (args : List (List ℕ)) (s : Schema) → SchemaTyped (domain_context d) false s → (o : Option Environment) → bound_by c s.params args [] ≡ o → (a : Action) → called_in c' name (old_schema s) o ≡ Instance a
      → Instead (old_called P (called_in c name s o)) a
  old_instead name args s st None e a h = cc
  old_instead name args s st (Some env) e a h =
      let same : action_meant c' (old_schema s) env ≡ a = same_action (action_meant c' (old_schema s) env) a h in
      record {
        action = old_action P (action_meant c s env);
        is = refl;
        same = subst (λ x. SameAction x (old_action P (action_meant c s env))) same (old_like s st env (bound-stands c s.params args [] [] env tt st.variables e));
      }

  old_called_is : (name : List ℕ) (args : List (List ℕ)) (o : Option Schema) → find name d.actions ≡ o → find name both_new ≡ None → (a : Action) → called' (name, args) ≡ Instance a → Instead (old_called P (called (name, args))) a
  old_called_is name args None e n a h = absurd (let u : UnknownAction name ≡ Instance a = ap (called_by c' name args) (sym (lookup name ∙ ap₂ (λ x y. or_else x old_schema y) e n)) ∙ h in cc)
  old_called_is name args (Some s) e n a h =
      let st = schema-at (domain_context d) false d.actions _ s t.actions e in
      let there : called_in c' name (old_schema s) (bound_by c s.params args []) ≡ Instance a =
      ap (called_in c' name (old_schema s)) (sym (bound_same c c' contexts.world s.params args []))
      ∙ ap (called_by c' name args) (sym (lookup name ∙ ap (λ x. or_else x old_schema (find name both_new)) e)) ∙ h in
      subst (λ x. Instead (old_called P (called_by c name args x)) a) (sym e) (old_instead name args s st (bound_by c s.params args []) refl a there)

  -- ---- the two that join
  step_there : find step_name d1.actions ≡ Some step_schema
  step_there = lookup step_name ∙ ap (λ x. or_else x old_schema (Some step_schema)) (nowhere_found step_name d.actions g.no_step)

  fire_there : find fire_name d1.actions ≡ Some fire_schema
  fire_there = lookup fire_name ∙ ap (λ x. or_else x old_schema (Some fire_schema)) (nowhere_found fire_name d.actions g.no_fire)

  none_joins : (name : List ℕ) → bytes_eq name step_name ≡ false → bytes_eq name fire_name ≡ false → find name both_new ≡ None
  none_joins name s f = ap₂ (λ a b. slice_get both_new (cond (not a) (1 + cond (not b) (1 + 0) 0) 0)) s f

  step_instead : (args : List (List ℕ)) (a : Action) → called' (step_name, args) ≡ Instance a → Instead (Instance (step_action P q)) a
  step_instead args a h = by args (ap (called_by c' step_name args) (sym step_there) ∙ h)
    where
      by : (args : List (List ℕ)) → called_in c' step_name step_schema (bound_by c' [] args []) ≡ Instance a → Instead (Instance (step_action P q)) a
      by [] e = record { action = step_action P q; is = refl; same = subst (λ x. SameAction x (step_action P q)) (same_action (action_meant c' step_schema []) a e) step_like }
      by (x ∷ xs) e = cc

  fire_instead : (args : List (List ℕ)) (a : Action) → called' (fire_name, args) ≡ Instance a → Instead (Instance (fire_action P)) a
  fire_instead args a h = by args (ap (called_by c' fire_name args) (sym fire_there) ∙ h)
    where
      by : (args : List (List ℕ)) → called_in c' fire_name fire_schema (bound_by c' [] args []) ≡ Instance a → Instead (Instance (fire_action P)) a
      by [] e = record { action = fire_action P; is = refl; same = subst (λ x. SameAction x (fire_action P)) (same_action (action_meant c' fire_schema []) a e) fire_like }
      by (x ∷ xs) e = cc

  -- a call of the translation, as a part
  pub to_part : (call : CallName) (a : Action) → called' call ≡ Instance a → Instead (part_meant P q called (part_of call)) a
  to_part call a h = by (bytes_eq call.0 step_name) refl (bytes_eq call.0 fire_name) refl
    where
      by : (s : Bool) → bytes_eq call.0 step_name ≡ s → (f : Bool) → bytes_eq call.0 fire_name ≡ f → Instead (part_meant P q called (part_of call)) a
      by true s f g =
          subst (λ b. Instead (part_meant P q called (if b then Step else (if bytes_eq call.0 fire_name then Fire else Old call))) a) (sym s)
          (step_instead call.1 a (ap (λ n. called' (n, call.1)) (sym (same-bytes call.0 step_name s)) ∙ h))
      by false s true f =
          subst (λ b. Instead (part_meant P q called (if b then Step else (if bytes_eq call.0 fire_name then Fire else Old call))) a) (sym s)
          (subst (λ b. Instead (part_meant P q called (if b then Fire else Old call)) a) (sym f)
          (fire_instead call.1 a (ap (λ n. called' (n, call.1)) (sym (same-bytes call.0 fire_name f)) ∙ h)))
      by false s false f =
          subst (λ b. Instead (part_meant P q called (if b then Step else (if bytes_eq call.0 fire_name then Fire else Old call))) a) (sym s)
          (subst (λ b. Instead (part_meant P q called (if b then Fire else Old call)) a) (sym f)
          (old_called_is call.0 call.1 (find call.0 d.actions) refl (none_joins call.0 s f) a h))

  old_back : (name : List ℕ) (args : List (List ℕ)) (o : Option Schema) → find name d.actions ≡ o → (a0 : Action) → called_by c name args o ≡ Instance a0 → Instead (called' (name, args)) (old_action P a0)
  old_back name args None e a0 h = cc
  old_back name args (Some s) e a0 h = by (bound_by c s.params args []) refl h
    where
      st : SchemaTyped (domain_context d) false s
      st = schema-at (domain_context d) false d.actions _ s t.actions e

      by : (o : Option Environment) → bound_by c s.params args [] ≡ o → called_in c name s o ≡ Instance a0 → Instead (called' (name, args)) (old_action P a0)
      by None b g = cc
      by (Some env) b g =
          let same : action_meant c s env ≡ a0 = same_action (action_meant c s env) a0 g in
          record {
            action = action_meant c' (old_schema s) env;
            is = ap (called_by c' name args) (lookup name ∙ ap (λ x. or_else x old_schema (find name both_new)) e) ∙ ap (called_in c' name (old_schema s)) (bound_same c c' contexts.world s.params args [] ∙ b);
            same = subst (λ x. SameAction (old_action P x) (action_meant c' (old_schema s) env)) same (same_action_sym _ _ (old_like s st env (bound-stands c s.params args [] [] env tt st.variables b)));
          }

  pub from_part : (part : Part CallName) (a : Action) → part_meant P q called part ≡ Instance a → Instead (called' (call_of part)) a
  from_part (Old call) a h =
      let f = from_old P (called call) a h in
      subst (λ x. Instead (called' call) x) (sym f.is) (old_back call.0 call.1 (find call.0 d.actions) refl f.action f.called_is)
  from_part Step a h = record {
    action = action_meant c' step_schema [];
    is = ap (called_by c' step_name []) step_there;
    same = subst (λ x. SameAction x (action_meant c' step_schema [])) (same_action (step_action P q) a h) (same_action_sym _ _ step_like);
  }
  from_part Fire a h = record {
    action = action_meant c' fire_schema [];
    is = ap (called_by c' fire_name []) fire_there;
    same = subst (λ x. SameAction x (action_meant c' fire_schema [])) (same_action (fire_action P) a h) (same_action_sym _ _ fire_like);
  }

  -- back and forth, where there is an instance
  pub part_back : (part : Part CallName) (a : Action) → part_meant P q called part ≡ Instance a → part_of (call_of part) ≡ part
  part_back Step a h = refl
  part_back Fire a h = refl
  part_back (Old call) a h = by (bytes_eq call.0 step_name) refl (bytes_eq call.0 fire_name) refl
    where
      unknown : (name : List ℕ) → list_any (bytes_eq name) (map name_of d.actions) ≡ false → call.0 ≡ name → ⊥
      unknown name n e =
          let u : find call.0 d.actions ≡ None = ap (λ x. find x d.actions) e ∙ nowhere_found name d.actions n in
          let h' : old_called P (UnknownAction call.0) ≡ Instance a = ap (λ o. old_called P (called_by c call.0 call.1 o)) (sym u) ∙ h in
          cc

      by : (s : Bool) → bytes_eq call.0 step_name ≡ s → (f : Bool) → bytes_eq call.0 fire_name ≡ f → part_of call ≡ Old call
      by true s f e = absurd (unknown step_name g.no_step (same-bytes call.0 step_name s))
      by false s true f = absurd (unknown fire_name g.no_fire (same-bytes call.0 fire_name f))
      by false s false f = ap₂ (λ (x y : Bool). if x then Step else (if y then Fire else Old call)) s f

  pub call_back : (call : CallName) (a : Action) → called' call ≡ Instance a → call_of (part_of call) ≡ call
  call_back call a h = by (bytes_eq call.0 step_name) refl (bytes_eq call.0 fire_name) refl
    where
      no_args : (args : List (List ℕ)) (s : Schema) → s.params ≡ [] → called_in c' s.name.name s (bound_by c' s.params args []) ≡ Instance a → args ≡ []
      no_args [] s e g = refl
      no_args (x ∷ xs) s e g = absurd (let w : called_in c' s.name.name s (bound_by c' [] (x ∷ xs) []) ≡ Instance a = ap (λ ps. called_in c' s.name.name s (bound_by c' ps (x ∷ xs) [])) (sym e) ∙ g in cc)

      by : (s : Bool) → bytes_eq call.0 step_name ≡ s → (f : Bool) → bytes_eq call.0 fire_name ≡ f → call_of (part_of call) ≡ call
      by true s f g =
          let n : call.0 ≡ step_name = same-bytes call.0 step_name s in
          let e : call.1 ≡ [] = no_args call.1 step_schema refl (ap (called_by c' step_name call.1) (sym step_there) ∙ ap (λ n. called' (n, call.1)) (sym n) ∙ h) in
          ap (λ (x : Bool). call_of (if x then Step else (if bytes_eq call.0 fire_name then Fire else Old call))) s ∙ ap₂ (λ x y. (x, y)) (sym n) (sym e)
      by false s true f =
          let n : call.0 ≡ fire_name = same-bytes call.0 fire_name f in
          let e : call.1 ≡ [] = no_args call.1 fire_schema refl (ap (called_by c' fire_name call.1) (sym fire_there) ∙ ap (λ n. called' (n, call.1)) (sym n) ∙ h) in
          ap₂ (λ (x y : Bool). call_of (if x then Step else (if y then Fire else Old call))) s f ∙ ap₂ (λ x y. (x, y)) (sym n) (sym e)
      by false s false f = ap₂ (λ (x y : Bool). call_of (if x then Step else (if y then Fire else Old call))) s f
