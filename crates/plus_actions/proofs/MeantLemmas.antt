-- In a well-typed pair the instances that calls name are all instances, one for each choice of objects.
use Rattle.std.proofs.Common.{◌≡◌, ℕ, suc, ◌+◌, ◌<◌, Bool, true, false, cond, ◌||◌, nat_eq, List, [], ◌∷◌, ◌++◌, length, map, Option, Some, None, slice_get, get_or, IsTrue, arith, refl, ap, ap₂, sym, subst, ◌∙◌, append-nil, append_assoc}
use Rattle.std.specs.Prelude.{if◌then◌else◌}
use Rattle.std.specs.List.{list_any, flat_map, position_or_len}
use Rattle.std.specs.Str.{bytes_eq}
use Rattle.std.proofs.lemmas.List.{map-append, length-map}
use Rattle.std.proofs.lemmas.Grind.{flat_map-append}
use Rattle.std.proofs.lemmas.Bool.Decides.{Decides-eqb}
use Rattle.plus_model.specs.Terms.{Action}
use Rattle.plus_model.specs.Plan.{Instance}
use Rattle.plus_tree.specs.declared.terms.TypedName.{TypedName}
use Rattle.plus_tree.specs.declared.trees.Schema.{Schema}
use Rattle.plus_tree.specs.declared.trees.Domain.{Domain}
use Rattle.plus_tree.specs.declared.trees.Problem.{Problem}
use Rattle.plus_types.specs.Types.{Binding, bound_names, is_under}
use Rattle.plus_types.specs.Faults.{Context, problem_context, action_names, is_well_typed}
use Rattle.plus_types.proofs.TypesLemmas.{or-right}
use Rattle.plus_expansion.specs.Objects.{places_from, members_of, object_place, object_names}
use Rattle.plus_expansion.specs.Environments.{Environment, environments}
use Rattle.plus_expansion.specs.Expansion.{action_meant, instances_of}
use Rattle.plus_expansion.specs.Calls.{bound_by, called_in, called_by, called_of}
use Rattle.plus_expansion.proofs.Places.{same-number}
use Rattle.plus_actions.specs.Actions.{choices_from, instance_in, named_by, ground_actions}
use Rattle.plus_actions.proofs.NamesLemmas.{IsDistinct, NamesDiffer, typed_differ, place_of, action_place}

-- ---- objects of parameters

-- the places of the objects of a type are below how many objects there are
pub below : (types : List Binding) (kind : List ℕ) (o n : ℕ) (os : List Binding) → list_any (nat_eq o) (places_from types kind n os) ≡ true → o < n + length os
below types kind o n [] e = absurd (let f : false ≡ true = e in cc f)
below types kind o n (x ∷ xs) e = by (is_under types x.1 kind) e (below types kind o (suc n) xs)
  where
    first :
        (b : Bool) → nat_eq o n ≡ b → (b || list_any (nat_eq o) (places_from types kind (suc n) xs)) ≡ true
        → (list_any (nat_eq o) (places_from types kind (suc n) xs) ≡ true → o < suc n + length xs) → o < n + length (x ∷ xs)
    first true h f more = let s : o ≡ n = (Decides-eqb o n).0 h in omega arith
    first false h f more = let l : o < suc n + length xs = more f in omega arith

    by :
        (b : Bool) → list_any (nat_eq o) (cond b (n ∷ places_from types kind (suc n) xs) (places_from types kind (suc n) xs)) ≡ true
        → (list_any (nat_eq o) (places_from types kind (suc n) xs) ≡ true → o < suc n + length xs) → o < n + length (x ∷ xs)
    by true f more = first (nat_eq o n) refl f more
    by false f more = let l : o < suc n + length xs = more f in omega arith

pub within : (c : Context) (kind : List ℕ) (o : ℕ) → list_any (nat_eq o) (members_of c kind) ≡ true → o < length (bound_names c.objects)
within c kind o e =
    let b = below c.types kind o 0 c.objects e in
    let l = length-map c.objects (λ (x : Binding). x.0) in
    omega (arith, b, l)

-- as many objects as parameters, and each of its parameter's type
abbrev pub Picks : Context → List TypedName → List ℕ → Type 0
Picks c [] [] = Unit {0}
Picks c [] (o ∷ os) = ⊥
Picks c (v ∷ vs) [] = ⊥
Picks c (v ∷ vs) (o ∷ os) = (list_any (nat_eq o) (members_of c v.kind.name) ≡ true) × Picks c vs os

-- the environment in which these parameters, inside those of another, stand for these objects
abbrev pub given : List TypedName → List ℕ → Environment → Environment
given [] os env = env
given (v ∷ vs) [] env = env
given (v ∷ vs) (o ∷ os) env = given vs os (env ++ (v.name.name, o) ∷ [])

-- ---- the call with these objects

if_true : (b : Bool) (r : Option Environment) (x : Environment) → b ≡ true → r ≡ Some x → (if b then r else None) ≡ Some x
if_true true r x e f = f
if_true false r x e f = cc e

bound_given : (c : Context) → IsDistinct (bound_names c.objects) → (vs : List TypedName) (os : List ℕ) (env : Environment) → Picks c vs os → bound_by c vs (object_names c os) env ≡ Some (given vs os env)
bound_given c d [] [] env p = refl
bound_given c d [] (o ∷ os) env p = absurd p
bound_given c d (v ∷ vs) [] env p = absurd p
bound_given c d (v ∷ vs) (o ∷ os) env p =
    let at : object_place c (get_or (bound_names c.objects) o []) ≡ o = place_of (bound_names c.objects) d o (within c v.kind.name o p.0) in
    let inner : Environment = env ++ (v.name.name, o) ∷ [] in
    subst
    (λ (x : ℕ). (if list_any (nat_eq x) (members_of c v.kind.name) then bound_by c vs (object_names c os) (env ++ (v.name.name, x) ∷ []) else None) ≡ Some (given vs os inner))
    (sym at) (if_true (list_any (nat_eq o) (members_of c v.kind.name)) (bound_by c vs (object_names c os) inner) (given vs os inner) p.0 (bound_given c d vs os inner p.1))

-- it names the instance with them
pub called_given :
    (d : Domain) (p : Problem) → NamesDiffer d p → (i : ℕ) (a : Schema) (os : List ℕ) → slice_get d.actions i ≡ Some a → Picks (problem_context d p) a.params os
    → called_of d p a.name.name (object_names (problem_context d p) os) ≡ Instance (action_meant (problem_context d p) a (given a.params os []))
called_given d p differ i a os e picks =
    let c = problem_context d p in
    let at : slice_get d.actions (position_or_len (bytes_eq a.name.name) (action_names d)) ≡ Some a = subst (λ k. slice_get d.actions k ≡ Some a) (sym (action_place d differ.actions i a e)) e in
    ap (called_by c a.name.name (object_names c os)) at ∙ ap (called_in c a.name.name a) (bound_given c differ.objects a.params os [] picks)

-- ---- all choices

each_choice :
    {X Y A : Type 0} (f : X → List A) (g : Y → A) (xs : ℕ → List X) (ys : ℕ → List Y) (os : List ℕ)
    → ((o : ℕ) → list_any (nat_eq o) os ≡ true → flat_map f (xs o) ≡ map g (ys o)) → flat_map f (flat_map xs os) ≡ map g (flat_map ys os)
each_choice f g xs ys [] h = refl
each_choice f g xs ys (o ∷ os) h =
    flat_map-append f (xs o) (flat_map xs os)
    ∙ ap₂ (λ a b. a ++ b) (h o (ap (λ b. b || list_any (nat_eq o) os) (same-number o))) (each_choice f g xs ys os (λ m e. h m (or-right (nat_eq m o) (list_any (nat_eq m) os) e)))
    ∙ sym (map-append g (ys o) (flat_map ys os))

-- what is made of the choices one by one is made in the environments
of_choices :
    {A : Type 0} (c : Context) (vs : List TypedName) (chosen : List ℕ) (env : Environment) (f : List ℕ → List A) (g : Environment → A)
    → ((os : List ℕ) → Picks c vs os → f (chosen ++ os) ≡ g (given vs os env) ∷ []) → flat_map f (choices_from c vs chosen) ≡ map g (environments c vs env)
of_choices c [] chosen env f g h = append-nil (f chosen) ∙ ap f (sym (append-nil chosen)) ∙ h [] tt
of_choices c (v ∷ vs) chosen env f g h =
    each_choice f g (λ o. choices_from c vs (chosen ++ o ∷ [])) (λ o. environments c vs (env ++ (v.name.name, o) ∷ [])) (members_of c v.kind.name)
    (λ o e. of_choices c vs (chosen ++ o ∷ []) (env ++ (v.name.name, o) ∷ []) f g (λ os p. ap f (append_assoc chosen (o ∷ []) os) ∙ h (o ∷ os) (e, p)))

named_meant :
    (d : Domain) (p : Problem) → NamesDiffer d p → (i : ℕ) (a : Schema) → slice_get d.actions i ≡ Some a
    → named_by d p a ≡ map (action_meant (problem_context d p) a) (environments (problem_context d p) a.params [])
named_meant d p differ i a e =
    let c = problem_context d p in
    of_choices c a.params [] [] (λ objects. instance_in (called_of d p a.name.name (object_names c objects))) (action_meant c a)
    (λ os picks. ap instance_in (called_given d p differ i a os e picks))

each_meant :
    (d : Domain) (p : Problem) (xs : List Schema)
    → ((i : ℕ) (a : Schema) → slice_get xs i ≡ Some a → named_by d p a ≡ map (action_meant (problem_context d p) a) (environments (problem_context d p) a.params []))
    → flat_map (named_by d p) xs ≡ instances_of (problem_context d p) (action_meant (problem_context d p)) xs
each_meant d p [] h = refl
each_meant d p (a ∷ xs) h = ap₂ (λ ys zs. ys ++ zs) (h 0 a refl) (each_meant d p xs (λ i b e. h (suc i) b e))

-- what stands for all instances are the ground actions
pub all_meant :
    (d : Domain) (p : Problem) (xs : List Schema) (ys : List Action) → IsTrue (is_well_typed d p) → xs ≡ d.actions
    → ys ≡ instances_of (problem_context d p) (action_meant (problem_context d p)) xs → ys ≡ ground_actions d p
all_meant d p xs ys typed s e =
    e ∙ ap (instances_of (problem_context d p) (action_meant (problem_context d p))) s
    ∙ sym (each_meant d p d.actions (named_meant d p (typed_differ d p typed)))
