-- The conditions, marks and rounds of events: without faults in the translation.
use Rattle.std.proofs.Common.{◌≡◌, ℕ, suc, ◌<◌, ◌≤◌, ◌+◌, Bool, true, false, not, cond, ◌||◌, List, [], ◌∷◌, ◌++◌, map, length, refl, ap, sym, subst, ◌∙◌, arith, append_assoc, Some, None, eq-eqb}
use Rattle.std.specs.Prelude.{◌==◌, codes}
use Rattle.std.specs.List.{AllByRecursion}
use Rattle.std.specs.Str.{bytes_eq}
use Rattle.std.proofs.lemmas.List.{append_cancel_left}
use Rattle.plus_tree.specs.declared.terms.TypedName.{TypedName}
use Rattle.plus_tree.specs.declared.trees.Head.{Head}
use Rattle.plus_tree.specs.declared.trees.LeafNode.TheVariants.{Add, Delete}
use Rattle.plus_tree.specs.declared.trees.Schema.{Schema}
use Rattle.plus_tree.specs.Cond.{Cond, c_not, c_atom}
use Rattle.plus_tree.specs.Effect.{e_when}
use Rattle.plus_types.specs.declared.faults.Wrong.TheVariants.{Arity, WrongType}
use Rattle.plus_types.specs.Types.{Binding, bindings_of, bound_names, is_above, is_under, kind_of}
use Rattle.plus_types.specs.Faults.{Context, fault_where, params_of, term_span, kind_of_faults, argument_faults, arguments_faults, declared_faults, use_faults, cond_faults, leaf_faults, effect_faults}
use Rattle.plus_types.proofs.TypesLemmas.{same-bytes, bytes-self}
use Rattle.plus_translation.specs.Names.{is_taken}
use Rattle.plus_translation.specs.Renamed.{nowhere, numeral, fresh_name, scope_with, renamed_list, bindings_in, effect_bindings, renamed_event, renamed_from}
use Rattle.plus_translation.specs.Leaves.{some, over_effect, nested, Placed, leaves_of}
use Rattle.plus_translation.specs.Translated.{both, writes, leaf, variable_of, mark_name, mark_of, mark_heads, none_hold, none_repeats, clears, event_guard, event_fires, fires}
use Rattle.plus_translation.proofs.Names.{numeral_injective}
use Rattle.laws_translation.proofs.TypedLemmas.Listed.{both_none, no_rule, kind_behind, ListTyped}
use Rattle.laws_translation.proofs.TypedLemmas.Wider.{Declares, EachName, Binds, cond_wider}
use Rattle.laws_translation.proofs.TypedLemmas.RenamedTyped.{Renaming, renaming_later, list_renamed, cond_renamed, effect_renamed, IsFresh, FreshPlaced, cond_names, effect_names}
use Rattle.laws_translation.proofs.TypedLemmas.Nested.{all_conds, all_both, over_typed, some_typed, over_effect_typed, nested_typed, bindings_all, wider_behind, PlacedTyped, leaves_typed, fresh_binds}

-- ---- names

pub mark_apart : (i m : ℕ) → i < m → bytes_eq (mark_name m) (mark_name i) ≡ false
mark_apart i m l = by (bytes_eq (mark_name m) (mark_name i)) refl
  where
    by : (b : Bool) → bytes_eq (mark_name m) (mark_name i) ≡ b → bytes_eq (mark_name m) (mark_name i) ≡ false
    by false e = e
    by true e =
        absurd (let n : m ≡ i = numeral_injective m i (append_cancel_left (codes "pp-f") (numeral m) (numeral i) (same-bytes (mark_name m) (mark_name i) e)) in omega (arith, n))

-- no new variable is in force
abbrev pub OutFree : List Binding → Type 0
OutFree out = (i m : ℕ) → kind_of out (fresh_name i m) ≡ None

fresh_taken : (i m : ℕ) → is_taken (fresh_name i m) ≡ true
fresh_taken i m = refl

pub list_free : (vs : List TypedName) → EachName (λ x. is_taken x ≡ false) vs → OutFree (bindings_of vs)
list_free [] f i m = refl
list_free (v ∷ vs) f i m = by (bytes_eq (fresh_name i m) v.name.name) refl (list_free vs f.1 i m)
  where
    by : (b : Bool) → bytes_eq (fresh_name i m) v.name.name ≡ b → kind_of (bindings_of vs) (fresh_name i m) ≡ None → cond (bytes_eq (fresh_name i m) v.name.name) (Some v.kind.name) (kind_of (bindings_of vs) (fresh_name i m)) ≡ None
    by false e h = ap (λ b. cond b (Some v.kind.name) (kind_of (bindings_of vs) (fresh_name i m))) e ∙ h
    by true e h = absurd (let t : true ≡ false = sym (fresh_taken i m) ∙ ap is_taken (same-bytes (fresh_name i m) v.name.name e) ∙ f.0 in cc)

-- ---- variables as arguments

under_self : (types : List Binding) (kind : List ℕ) → is_under types kind kind ≡ true
unfolding is_under
under_self types kind = ap (λ b. b || is_above types kind kind) (bytes-self kind)

arguments_own : (c : Context) (vars : List Binding) (vs : List TypedName) → ListTyped c.types vars vs → arguments_faults c (vars ++ bindings_of vs) vs (map variable_of vs) ≡ []
arguments_own c vars [] t = refl
arguments_own c vars (v ∷ vs) t =
    let x = v.name.name in
    let kind = v.kind.name in
    let all = vars ++ (x, kind) ∷ bindings_of vs in
    let known : kind_of all x ≡ Some kind = kind_behind vars ((x, kind) ∷ bindings_of vs) x t.0 ∙ ap (λ b. cond b (Some kind) (kind_of (bindings_of vs) x)) (bytes-self x) in
    both_none (argument_faults c all kind (variable_of v)) _
    (ap (kind_of_faults c kind (variable_of v)) known ∙ no_rule (not (is_under c.types kind kind)) WrongType c.file (term_span (variable_of v)) (ap not (under_self c.types kind)))
    (subst (λ xs. arguments_faults c xs vs (map variable_of vs) ≡ []) (append_assoc vars ((x, kind) ∷ []) (bindings_of vs)) (arguments_own c (vars ++ (x, kind) ∷ []) vs t.2))

length_variables : (vs : List TypedName) → length (map variable_of vs) ≡ length vs
length_variables [] = refl
length_variables (v ∷ vs) = ap suc (length_variables vs)

mark_typed : (c : Context) (vars : List Binding) (i : ℕ) (a : Schema) → params_of c.predicates (mark_name i) ≡ Some a.params → ListTyped c.types vars a.params → use_faults c (vars ++ bindings_of a.params) c.predicates (mark_of i a) ≡ []
mark_typed c vars i a known t =
    ap (declared_faults c (vars ++ bindings_of a.params) (mark_of i a)) known
    ∙ both_none (fault_where (not (length (map variable_of a.params) == length a.params)) Arity c.file nowhere) _
    (no_rule (not (length (map variable_of a.params) == length a.params)) Arity c.file nowhere (ap not (eq-eqb (length (map variable_of a.params)) (length a.params) (length_variables a.params))))
    (arguments_own c vars a.params t)

-- ---- the predicates of the marks

abbrev pub MarksKnown : List Head → ℕ → List Schema → Type 0
MarksKnown heads i [] = Unit {0}
MarksKnown heads i (a ∷ more) = (params_of heads (mark_name i) ≡ Some a.params) × MarksKnown heads (suc i) more

pub params_behind : (hs more : List Head) (x : List ℕ) → params_of hs x ≡ None → params_of (hs ++ more) x ≡ params_of more x
params_behind [] more x e = refl
params_behind (h ∷ hs) more x e = by (bytes_eq x h.name.name) e (params_behind hs more x)
  where
    by : (b : Bool) → cond b (Some h.params) (params_of hs x) ≡ None → (params_of hs x ≡ None → params_of (hs ++ more) x ≡ params_of more x) → cond b (Some h.params) (params_of (hs ++ more) x) ≡ params_of more x
    by true f go = absurd cc
    by false f go = go f

pub params_kept : (hs more : List Head) (x : List ℕ) (params : List TypedName) → params_of hs x ≡ Some params → params_of (hs ++ more) x ≡ Some params
params_kept [] more x params e = absurd cc
params_kept (h ∷ hs) more x params e = by (bytes_eq x h.name.name) e (params_kept hs more x params)
  where
    by : (b : Bool) → cond b (Some h.params) (params_of hs x) ≡ Some params → (params_of hs x ≡ Some params → params_of (hs ++ more) x ≡ Some params) → cond b (Some h.params) (params_of (hs ++ more) x) ≡ Some params
    by true f go = f
    by false f go = go f

pub marks_known : (before : List Head) (i : ℕ) (events : List Schema) → ((m : ℕ) → i ≤ m → params_of before (mark_name m) ≡ None) → MarksKnown (before ++ mark_heads i events) i events
marks_known before i [] none = tt
marks_known before i (a ∷ more) none =
    let h : Head = record { name = record { name = mark_name i; span = nowhere }; params = a.params; span = nowhere } in
    let later : (m : ℕ) → suc i ≤ m → params_of (before ++ h ∷ []) (mark_name m) ≡ None =
    λ m l. params_behind before (h ∷ []) (mark_name m) (none m (omega arith)) ∙ ap (λ b. cond b (Some a.params) None) (mark_apart i m (omega arith)) in (
      params_behind before (mark_heads i (a ∷ more)) (mark_name i) (none i (omega arith)) ∙ ap (λ b. cond b (Some a.params) (params_of (mark_heads (suc i) more) (mark_name i))) (bytes-self (mark_name i)),
      subst (λ hs. MarksKnown hs (suc i) more) (append_assoc before (h ∷ []) (mark_heads (suc i) more)) (marks_known (before ++ h ∷ []) (suc i) more later),
    )

-- ---- one event

-- it has no faults
pub record EventTyped (c : Context) (a : Schema) : Type 0 where
  pub params : ListTyped c.types [] a.params
  pub condition : cond_faults c (bindings_of a.params) a.condition ≡ []
  pub effect : effect_faults c (bindings_of a.params) false a.effect ≡ []

-- renamed it has none, inside other variables
record InsideTyped (c : Context) (out : List Binding) (a : Schema) : Type 0 where
  params : ListTyped c.types out a.params
  condition : cond_faults c (out ++ bindings_of a.params) a.condition ≡ []
  effect : effect_faults c (out ++ bindings_of a.params) false a.effect ≡ []

declares_self : (c : Context) → Declares c c
declares_self c = record { types = refl; objects = λ x kind e. e; predicates = λ x ps e. e; functions = λ x ps e. e }

module _ (c c' : Context) (w : Declares c c') where
  inside_typed : (i : ℕ) (out : List Binding) → OutFree out → (a : Schema) → EventTyped c a → InsideTyped c' out (renamed_event i a)
  inside_typed i out free a t =
      let r : Renaming i 1 [] [] out = record { some = λ x kind e. absurd cc; free = λ m l. free i m } in
      let b = list_renamed c c' w i 1 [] [] out a.params r t.params in
      let scope = scope_with i 1 a.params [] in
      let vars' = out ++ bindings_of (renamed_list i 1 a.params) in
      let k : ℕ = 1 + length a.params in
      record {
        params = b.list;
        condition = cond_renamed c c' w i k (bindings_of a.params) scope vars' b.inside a.condition t.condition;
        effect = effect_renamed c c' w i (k + bindings_in a.condition) (bindings_of a.params) scope vars' (renaming_later i k (k + bindings_in a.condition) (bindings_of a.params) scope vars' (omega arith) b.inside) a.effect t.effect;
      }

  pub renamed_params : (i : ℕ) (a : Schema) → EventTyped c a → ListTyped c'.types [] (renamed_event i a).params
  renamed_params i a t = (inside_typed i [] (λ j m. refl) a t).params

  abbrev pub AllEvents : List Schema → Type 0
  AllEvents events = AllByRecursion (EventTyped c) events

  -- ---- conditions, inside other variables

  module _ (out : List Binding) (free : OutFree out) where
    pub none_typed : (i : ℕ) (events : List Schema) → AllEvents events → AllByRecursion (λ g. cond_faults c' out g ≡ []) (none_hold (renamed_from i events))
    none_typed i [] t = tt
    none_typed i (a ∷ more) t =
        let e = inside_typed i out free a t.0 in
        (over_typed c' out (renamed_event i a).params (c_not (renamed_event i a).condition nowhere) e.params e.condition, none_typed (suc i) more t.1)

    pub clears_typed : (i : ℕ) (events : List Schema) → AllEvents events → MarksKnown c'.predicates i (renamed_from i events) → AllByRecursion (λ e. effect_faults c' out false e ≡ []) (clears i (renamed_from i events))
    unfolding leaf_faults
    clears_typed i [] t k = tt
    clears_typed i (a ∷ more) t k =
        let e = inside_typed i out free a t.0 in
        (over_effect_typed c' out (renamed_event i a).params (writes (leaf (Delete (mark_of i (renamed_event i a))))) e.params (mark_typed c' out i (renamed_event i a) k.0 e.params), clears_typed (suc i) more t.1 k.1)

    pub some_all_typed : (i : ℕ) (events : List Schema) → AllEvents events → AllByRecursion (λ g. cond_faults c' out g ≡ []) (map (λ a. some a.params a.condition) (renamed_from i events))
    some_all_typed i [] t = tt
    some_all_typed i (a ∷ more) t =
        let e = inside_typed i out free a t.0 in
        (some_typed c' out (renamed_event i a).params (renamed_event i a).condition e.params e.condition, some_all_typed (suc i) more t.1)

    pub repeats_typed : (i : ℕ) (events : List Schema) → AllEvents events → MarksKnown c'.predicates i (renamed_from i events) → AllByRecursion (λ g. cond_faults c' out g ≡ []) (none_repeats i (renamed_from i events))
    repeats_typed i [] t k = tt
    repeats_typed i (a ∷ more) t k =
        let e = inside_typed i out free a t.0 in
        let b = renamed_event i a in
        let all = out ++ bindings_of b.params in (
          over_typed c' out b.params (c_not (both (b.condition ∷ c_atom (mark_of i b) nowhere ∷ [])) nowhere) e.params
              (all_conds c' all (b.condition ∷ c_atom (mark_of i b) nowhere ∷ []) (e.condition, (mark_typed c' out i b k.0 e.params, tt))),
          repeats_typed (suc i) more t.1 k.1,
        )

  -- ---- rounds

  guard_typed : (all : List Binding) (g : Cond) (gs : List Cond) → cond_faults c' all g ≡ [] → AllByRecursion (λ h. cond_faults c' all h ≡ []) gs → cond_faults c' all (event_guard g gs) ≡ []
  guard_typed all g [] f h = f
  guard_typed all g (x ∷ xs) f h = all_conds c' all (g ∷ x ∷ xs) (f, h)

  fired_typed : (i low middle high : ℕ) (b : Schema) (ps : List Placed) → InsideTyped c' [] b → Binds (IsFresh i low middle) b.condition → FreshPlaced i middle high ps
      → AllByRecursion (PlacedTyped c' (bindings_of b.params) false) ps
      → AllByRecursion (λ e. effect_faults c' [] false e ≡ []) (map (λ p. over_effect b.params (nested p.lists (e_when (event_guard b.condition p.guards) (p.leaf ∷ []) nowhere))) ps)
  fired_typed i low middle high b [] t n f q = tt
  fired_typed i low middle high b (p ∷ ps) t n f q =
      let vars = bindings_of b.params in
      let all = vars ++ bindings_all p.lists in
      let condition : cond_faults c' all b.condition ≡ [] =
      cond_wider c' c' (declares_self c') (bound_names (bindings_all p.lists)) vars all (wider_behind vars (bindings_all p.lists)) b.condition (fresh_binds i low middle high b.condition p.lists n f.0) t.condition in
      let inner : effect_faults c' all false (e_when (event_guard b.condition p.guards) (p.leaf ∷ []) nowhere) ≡ [] =
      both_none (cond_faults c' all (event_guard b.condition p.guards)) _ (guard_typed all b.condition p.guards condition q.0.guards) (both_none (leaf_faults c' all false p.leaf) [] q.0.write refl) in (
        over_effect_typed c' [] b.params _ t.params (nested_typed c' vars p.lists _ q.0.lists inner),
        fired_typed i low middle high b ps t n f.1 q.1,
      )

  pub fires_typed : (i : ℕ) (events : List Schema) → AllEvents events → MarksKnown c'.predicates i (renamed_from i events) → AllByRecursion (λ e. effect_faults c' [] false e ≡ []) (fires i (renamed_from i events))
  unfolding leaf_faults
  fires_typed i [] t k = tt
  fires_typed i (a ∷ more) t k =
      let b = renamed_event i a in
      let e = inside_typed i [] (λ j m. refl) a t.0 in
      let scope = scope_with i 1 a.params [] in
      let low : ℕ = 1 + length a.params in
      let middle : ℕ = 1 + length a.params + bindings_in a.condition in
      let high : ℕ = middle + effect_bindings a.effect in
      let last : effect_faults c' (bindings_of b.params) false (e_when b.condition (leaf (Add (mark_of i b)) ∷ []) nowhere) ≡ [] =
      both_none (cond_faults c' (bindings_of b.params) b.condition) _ e.condition (both_none (use_faults c' (bindings_of b.params) c'.predicates (mark_of i b)) [] (mark_typed c' [] i b k.0 e.params) refl) in
      all_both (λ x. effect_faults c' [] false x ≡ []) (event_fires i b) (fires (suc i) (renamed_from (suc i) more))
      (all_both (λ x. effect_faults c' [] false x ≡ []) (map (λ p. over_effect b.params (nested p.lists (e_when (event_guard b.condition p.guards) (p.leaf ∷ []) nowhere))) (leaves_of b.effect)) (over_effect b.params (e_when b.condition (leaf (Add (mark_of i b)) ∷ []) nowhere) ∷ [])
      (fired_typed i low middle high b (leaves_of b.effect) e (cond_names i low middle scope low a.condition (omega arith) (omega arith)) (effect_names i middle high scope middle a.effect (omega arith) (omega arith))
      (leaves_typed c' false (bindings_of b.params) b.effect e.effect))
      (over_effect_typed c' [] b.params _ e.params last, tt))
      (fires_typed (suc i) more t.1 k.1)
