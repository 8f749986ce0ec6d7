-- How the faults of forms that are walked one after the other come together.
use Rattle.std.proofs.Common.{◌≡◌, ℕ, suc, ◌<◌, List, [], ◌∷◌, ◌++◌, ◌∙◌, ap, sym, length, drop, get_or, drop-cons, IsTrue, rules}
use Rattle.plus_types.specs.declared.faults.TypeFault.{TypeFault}
use Rattle.plus_types.specs.declared.faults.TypeFault.TheVariants.{At, Memory}
use Rattle.plus_tree.specs.declared.terms.Term.{Term}
use Rattle.plus_tree.specs.declared.terms.TypedName.{TypedName}
use Rattle.plus_tree.specs.declared.trees.Domain.{Domain}
use Rattle.plus_tree.specs.declared.trees.Problem.{Problem}
use Rattle.plus_types.specs.Types.{Binding, bindings_of, bound_names}
use Rattle.plus_types.specs.Faults.{IsFirstFault, Context, argument_faults, arguments_faults, type_faults, is_well_typed, list_faults, problem_faults, state_faults, domain_name_faults}
use Rattle.plus_types.specs.declared.faults.File.TheVariants as files

-- the first form has none, and neither has the rest
pub none_more : (xs ys : List TypeFault) → xs ≡ [] → ys ≡ [] → xs ++ ys ≡ []
none_more [] ys e f = f
none_more (x ∷ xs) ys e f = cc

-- the first form has a fault
pub first_here : (xs ys : List TypeFault) (e : TypeFault) → IsFirstFault xs e → IsFirstFault (xs ++ ys) e
first_here xs ys Memory h = tt
first_here [] ys (At w f s) h = cc
first_here (x ∷ xs) ys (At w f s) h = h

-- the first form has none, and the rest has one
pub first_later : (xs ys : List TypeFault) (e : TypeFault) → xs ≡ [] → IsFirstFault ys e → IsFirstFault (xs ++ ys) e
first_later [] ys e n h = h
first_later (x ∷ xs) ys e n h = cc

pub ruleset walking = (none_more, first_here, first_later)

-- the same, where a walk carries more than the list
pub walk_err :
    {X : Type 0} (whole : List TypeFault) (all : List X → List TypeFault) (one : X → List TypeFault) (rest : X → List X → List TypeFault)
    → ((x : X) (xs : List X) → all (x ∷ xs) ≡ one x ++ rest x xs)
    → (xs : List X) (i : ℕ) (x : X) (e : TypeFault) → i < length xs → x ≡ get_or xs i x → whole ≡ all (drop i xs)
    → IsFirstFault (one x) e → IsFirstFault whole e
walk_err whole all one rest step xs i x e h m w f =
    let d : drop i xs ≡ x ∷ drop (suc i) xs = drop-cons xs i x h ∙ ap (λ y. y ∷ drop (suc i) xs) (sym m) in
    rw w (rw d (rw (step x (drop (suc i) xs)) (first_here _ _ e f)))

-- an argument does not fit its parameter, and those before it do
pub pairs_err :
    (c : Context) (vars : List Binding) (whole : List TypeFault) (ps : List TypedName) (ts : List Term) (i : ℕ) (p : TypedName) (t : Term) (e : TypeFault)
    → i < length ps → i < length ts → p ≡ get_or ps i p → t ≡ get_or ts i t
    → whole ≡ arguments_faults c vars (drop i ps) (drop i ts) → IsFirstFault (argument_faults c vars p.kind.name t) e → IsFirstFault whole e
pairs_err c vars whole ps ts i p t e h k m n w f =
    let d : drop i ps ≡ p ∷ drop (suc i) ps = drop-cons ps i p h ∙ ap (λ y. y ∷ drop (suc i) ps) (sym m) in
    let g : drop i ts ≡ t ∷ drop (suc i) ts = drop-cons ts i t k ∙ ap (λ y. y ∷ drop (suc i) ts) (sym n) in
    rw w (rw (d, g) (first_here _ _ e f))

-- a pair without faults is well typed
pub well_typed_if_none : (d : Domain) (p : Problem) → type_faults d p ≡ [] → IsTrue (is_well_typed d p)
well_typed_if_none d p e = rw e search rules

-- the objects, the name of the domain, the initial state and the goal
pub problem_none :
    (d : Domain) (p : Problem) → list_faults (bindings_of d.types) files.Problem [] (bound_names (bindings_of d.constants)) p.objects ≡ [] → domain_name_faults d p ≡ [] → state_faults d p ≡ []
    → problem_faults d p ≡ []
unfolding problem_faults
problem_none d p a b c = none_more _ _ a (none_more _ _ b c)

pub problem_objects :
    (d : Domain) (p : Problem) (f : TypeFault) → IsFirstFault (list_faults (bindings_of d.types) files.Problem [] (bound_names (bindings_of d.constants)) p.objects) f
    → IsFirstFault (problem_faults d p) f
unfolding problem_faults
problem_objects d p f h = first_here _ _ f h

pub problem_name :
    (d : Domain) (p : Problem) (f : TypeFault) → list_faults (bindings_of d.types) files.Problem [] (bound_names (bindings_of d.constants)) p.objects ≡ []
    → IsFirstFault (domain_name_faults d p) f → IsFirstFault (problem_faults d p) f
unfolding problem_faults
problem_name d p f a h = first_later _ _ f a (first_here _ _ f h)

pub problem_state :
    (d : Domain) (p : Problem) (f : TypeFault) → list_faults (bindings_of d.types) files.Problem [] (bound_names (bindings_of d.constants)) p.objects ≡ [] → domain_name_faults d p ≡ []
    → IsFirstFault (state_faults d p) f → IsFirstFault (problem_faults d p) f
unfolding problem_faults
problem_state d p f a b h = first_later _ _ f a (first_later _ _ f b h)

pub ruleset walking_problem = (problem_none, problem_objects, problem_name, problem_state)
