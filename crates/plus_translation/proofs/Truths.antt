-- Conditions over all events: that none holds, that one holds, and that none repeats.
use Rattle.std.proofs.Common.{◌≡◌, ℕ, suc, ◌+◌, Bool, true, false, not, ◌&&◌, ◌||◌, List, [], ◌∷◌, ◌++◌, map, length, refl, ap, ap₂, sym, ◌∙◌, arith, nat_eq}
use Rattle.plus_model.specs.Terms as model
use Rattle.plus_model.specs.Terms.{Condition, Always, Never, Both, Either, Event, State}
use Rattle.plus_model.specs.Value.{holds, signed, stand, value, atom_of}
use Rattle.plus_state.specs.Tests.{joined}
use Rattle.plus_tree.specs.declared.terms.TypedName.{TypedName}
use Rattle.plus_tree.specs.declared.trees.Schema.{Schema}
use Rattle.plus_tree.specs.Cond.{Cond, Conds, c_all, c_any, c_not, c_imply, c_forall, c_exists, c_atom, c_same, c_compare, no_conds, more_conds, conds_of}
use Rattle.plus_types.specs.Faults.{Context}
use Rattle.plus_expansion.specs.Environments.{Environment, environments, term_object, atom_number}
use Rattle.plus_expansion.specs.Expansion.{expression_meant, test_meant, condition_meant, conditions_meant, event_meant}
use Rattle.plus_steps.specs.Translation.{negated, all_of, any_of, fresh_from}
use Rattle.plus_steps.proofs.Conds.{holds_negated, not_and}
use Rattle.plus_translation.specs.Leaves.{over, some}
use Rattle.plus_translation.proofs.MarkNumbers.{Indexed}

abbrev pub all_hold : State → List Condition → Bool
all_hold t [] = true
all_hold t (c ∷ cs) = holds c t && all_hold t cs

abbrev pub some_hold : State → List Condition → Bool
some_hold t [] = false
some_hold t (c ∷ cs) = holds c t || some_hold t cs

-- `all_hold` or `some_hold`
abbrev pub both_hold : Bool → State → List Condition → Bool
both_hold true t cs = all_hold t cs
both_hold false t cs = some_hold t cs

pub joined_holds : (all : Bool) (t : State) (cs : List Condition) → holds (joined all cs) t ≡ both_hold all t cs
joined_holds true t [] = refl
joined_holds false t [] = refl
joined_holds true t (c ∷ cs) = ap (λ b. holds c t && b) (joined_holds true t cs)
joined_holds false t (c ∷ cs) = ap (λ b. holds c t || b) (joined_holds false t cs)

pub all_append : (t : State) (cs ds : List Condition) → all_hold t (cs ++ ds) ≡ all_hold t cs && all_hold t ds
all_append t [] ds = refl
all_append t (c ∷ cs) ds = ap (λ b. holds c t && b) (all_append t cs ds) ∙ and_assoc (holds c t) (all_hold t cs) (all_hold t ds)
  where
    and_assoc : (x y z : Bool) → x && (y && z) ≡ (x && y) && z
    and_assoc true y z = refl
    and_assoc false y z = refl

pub some_append : (t : State) (cs ds : List Condition) → some_hold t (cs ++ ds) ≡ some_hold t cs || some_hold t ds
some_append t [] ds = refl
some_append t (c ∷ cs) ds = ap (λ b. holds c t || b) (some_append t cs ds) ∙ or_assoc (holds c t) (some_hold t cs) (some_hold t ds)
  where
    or_assoc : (x y z : Bool) → x || (y || z) ≡ (x || y) || z
    or_assoc true y z = refl
    or_assoc false y z = refl

pub all_of_holds : (t : State) (cs : List Condition) → holds (all_of cs) t ≡ all_hold t cs
all_of_holds t [] = refl
all_of_holds t (c ∷ cs) = ap (λ b. holds c t && b) (all_of_holds t cs)

pub any_of_holds : (t : State) (cs : List Condition) → holds (any_of cs) t ≡ some_hold t cs
any_of_holds t [] = refl
any_of_holds t (c ∷ cs) = ap (λ b. holds c t || b) (any_of_holds t cs)

pub conditions_map : (c : Context) (env : Environment) (positive : Bool) (fs : List Cond) → conditions_meant c env positive (conds_of fs) ≡ map (condition_meant c env positive) fs
conditions_map c env positive [] = refl
conditions_map c env positive (f ∷ fs) = ap (λ xs. condition_meant c env positive f ∷ xs) (conditions_map c env positive fs)

and_true : (x : Bool) → x ≡ x && true
and_true true = refl
and_true false = refl

or_false : (x : Bool) → x ≡ x || false
or_false true = refl
or_false false = refl

pub over_holds : (c : Context) (env : Environment) (t : State) (vs : List TypedName) (f : Cond) → holds (condition_meant c env true (over vs f)) t ≡ all_hold t (map (λ e. condition_meant c e true f) (environments c vs env))
over_holds c env t [] f = and_true (holds (condition_meant c env true f) t)
over_holds c env t (v ∷ vs) f = joined_holds true t (map (λ e. condition_meant c e true f) (environments c (v ∷ vs) env))

pub some_holds : (c : Context) (env : Environment) (t : State) (vs : List TypedName) (f : Cond) → holds (condition_meant c env true (some vs f)) t ≡ some_hold t (map (λ e. condition_meant c e true f) (environments c vs env))
some_holds c env t [] f = or_false (holds (condition_meant c env true f) t)
some_holds c env t (v ∷ vs) f = joined_holds false t (map (λ e. condition_meant c e true f) (environments c (v ∷ vs) env))

-- ---- a negation holds where what it negates does not
opposite : Bool → State → List Condition → List Condition → Type 0
opposite all t cs ds = both_hold (not all) t cs ≡ not (both_hold all t ds)

not_or : (x y : Bool) → not x && not y ≡ not (x || y)
not_or true y = refl
not_or false y = refl

signed_not : (positive b : Bool) → signed (not positive) b ≡ not (signed positive b)
signed_not true b = refl
signed_not false true = refl
signed_not false false = refl

opposite_joined : (all : Bool) (t : State) (cs ds : List Condition) → opposite all t cs ds → holds (joined (not all) cs) t ≡ not (holds (joined all ds) t)
unfolding opposite
opposite_joined all t cs ds h = joined_holds (not all) t cs ∙ h ∙ ap not (sym (joined_holds all t ds))

opposite_more : (all : Bool) (t : State) (c d : Condition) (cs ds : List Condition) → holds c t ≡ not (holds d t) → opposite all t cs ds → opposite all t (c ∷ cs) (d ∷ ds)
unfolding opposite
opposite_more true t c d cs ds e h = ap₂ (λ x y. x || y) e h ∙ not_and (holds d t) (all_hold t ds)
opposite_more false t c d cs ds e h = ap₂ (λ x y. x && y) e h ∙ not_or (holds d t) (some_hold t ds)

opposite_none : (all : Bool) (t : State) → opposite all t [] []
unfolding opposite
opposite_none true t = refl
opposite_none false t = refl

opposite_map : {X : Type 0} (all : Bool) (t : State) (f g : X → Condition) (xs : List X) → ((x : X) → holds (f x) t ≡ not (holds (g x) t)) → opposite all t (map f xs) (map g xs)
opposite_map all t f g [] h = opposite_none all t
opposite_map all t f g (x ∷ xs) h = opposite_more all t (f x) (g x) (map f xs) (map g xs) (h x) (opposite_map all t f g xs h)

mutual
  pub negation : (c : Context) (t : State) (f : Cond) (env : Environment) (positive : Bool) → holds (condition_meant c env (not positive) f) t ≡ not (holds (condition_meant c env positive f) t)
  negation c t (c_all fs s) env positive = opposite_joined positive t _ _ (negations c t fs env positive positive)
  negation c t (c_any fs s) env positive = opposite_joined (not positive) t _ _ (negations c t fs env positive (not positive))
  negation c t (c_not f s) env positive = negation c t f env (not positive)
  negation c t (c_imply f g s) env positive =
      opposite_joined (not positive) t _ _ (opposite_more (not positive) t _ _ _ _ (negation c t f env (not positive)) (opposite_more (not positive) t _ _ _ _ (negation c t g env positive) (opposite_none (not positive) t)))
  negation c t (c_forall vs f s) env positive = opposite_joined positive t _ _ (opposite_map positive t _ _ (environments c vs env) (λ e. negation c t f e positive))
  negation c t (c_exists vs f s) env positive = opposite_joined (not positive) t _ _ (opposite_map (not positive) t _ _ (environments c vs env) (λ e. negation c t f e positive))
  negation c t (c_atom u s) env positive = signed_not positive (atom_of t (atom_number c env u))
  negation c t (c_same x y s) env positive = by positive (nat_eq (term_object c env x) (term_object c env y))
    where
      by : (p b : Bool) → holds (joined (signed (not p) b) []) t ≡ not (holds (joined (signed p b) []) t)
      by true true = refl
      by true false = refl
      by false true = refl
      by false false = refl
  negation c t (c_compare test e f s) env positive = signed_not positive (stand (test_meant test) (value (expression_meant c env e) t) (value (expression_meant c env f) t))

  negations : (c : Context) (t : State) (fs : Conds) (env : Environment) (positive all : Bool) → opposite all t (conditions_meant c env (not positive) fs) (conditions_meant c env positive fs)
  negations c t no_conds env positive all = opposite_none all t
  negations c t (more_conds f fs) env positive all = opposite_more all t _ _ _ _ (negation c t f env positive) (negations c t fs env positive all)

-- ---- of the instances of one event
module _ (c : Context) (t : State) (a : Schema) where
  pub none_instances : (envs : List Environment) → all_hold t (map (λ e. condition_meant c e false a.condition) envs) ≡ all_hold t (map (λ (e : Event). negated e.condition) (map (event_meant c a) envs))
  none_instances [] = refl
  none_instances (e ∷ envs) = ap₂ (λ x y. x && y) (negation c t a.condition e true ∙ sym (holds_negated (condition_meant c e true a.condition) t)) (none_instances envs)

  pub some_instances : (envs : List Environment) → some_hold t (map (λ e. condition_meant c e true a.condition) envs) ≡ some_hold t (map (λ (e : Event). e.condition) (map (event_meant c a) envs))
  some_instances [] = refl
  some_instances (e ∷ envs) = ap (λ y. holds (condition_meant c e true a.condition) t || y) (some_instances envs)

  -- that no instance holds with its mark
  pub fresh_instances : {X : Type 0} (f : X → Condition) (g : X → ℕ) (n : ℕ) (xs : List X) (envs : List Environment) → map f xs ≡ map (λ e. condition_meant c e false a.condition) envs → Indexed g n xs
      → all_hold t (map (λ x. joined false (f x ∷ model.Atom (g x) false ∷ [])) xs) ≡ holds (fresh_from n (map (event_meant c a) envs)) t
  fresh_instances f g n [] [] m i = refl
  fresh_instances f g n [] (e ∷ envs) m i = cc
  fresh_instances f g n (x ∷ xs) [] m i = cc
  fresh_instances f g n (x ∷ xs) (e ∷ envs) m i =
      let h : f x ≡ condition_meant c e false a.condition = cc in
      let r : map f xs ≡ map (λ e. condition_meant c e false a.condition) envs = cc in
      ap₂ (λ x y. x && y)
      (ap₂ (λ (y : Bool) (k : ℕ). y || (not (atom_of t k) || false)) (ap (λ y. holds y t) h ∙ negation c t a.condition e true ∙ sym (holds_negated (condition_meant c e true a.condition) t)) i.0
      ∙ ap (λ y. holds (negated (condition_meant c e true a.condition)) t || y) (sym (or_false (not (atom_of t n)))))
      (fresh_instances f g (suc n) xs envs r i.1)

pub fresh_append : (t : State) (n : ℕ) (xs ys : List Event) → holds (fresh_from n (xs ++ ys)) t ≡ holds (fresh_from n xs) t && holds (fresh_from (n + length xs) ys) t
fresh_append t n [] ys = let e : n ≡ n + 0 = omega arith in ap (λ (k : ℕ). holds (fresh_from k ys) t) e
fresh_append t n (x ∷ xs) ys =
    let e : suc n + length xs ≡ n + suc (length xs) = omega arith in
    ap (λ b. holds (Either (negated x.condition) (model.Atom n false)) t && b) (fresh_append t (suc n) xs ys ∙ ap (λ (k : ℕ). holds (fresh_from (suc n) xs) t && holds (fresh_from k ys) t) e)
    ∙ and_assoc (holds (Either (negated x.condition) (model.Atom n false)) t) (holds (fresh_from (suc n) xs) t) (holds (fresh_from (n + suc (length xs)) ys) t)
  where
    and_assoc : (x y z : Bool) → x && (y && z) ≡ (x && y) && z
    and_assoc true y z = refl
    and_assoc false y z = refl
