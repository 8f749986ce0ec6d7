-- What variables stand for.
use Rattle.std.proofs.Common.{◌≡◌, ℕ, ◌≤◌, ◌<◌, ◌+◌, ◌-◌, Bool, true, false, cond, List, [], ◌∷◌, ◌++◌, ◌∙◌, ap, refl, sym, length, take, drop, get_or, None, Some, Option, nat_lt, arith, add-one, append_assoc, map, suc}
use Rattle.std.proofs.Math.Seq.{take-suc}
use Rattle.std.proofs.lemmas.List.{append-nil, map-append, take_all}
use Rattle.std.proofs.lemmas.Bool.Decides.{nat_tests}
use Rattle.std.proofs.lemmas.Grind.{flat_map-append}
use Rattle.std.specs.List.{flat_map}
use Rattle.std.specs.Str.{bytes_eq}
use Rattle.plus_types.specs.Faults.{Context}
use Rattle.plus_tree.specs.declared.terms.TypedName.{TypedName}
use Rattle.plus_tree.specs.declared.terms.Term.{Term}
use Rattle.plus_tree.specs.declared.terms.Use.{Use}
use Rattle.plus_expansion.specs.Objects.{members_of}
use Rattle.plus_expansion.specs.Numbers.{number_of}
use Rattle.plus_expansion.specs.Counts.{first_over, name_counts}
use Rattle.plus_expansion.specs.Environments.{Environment, environments, bound_object, term_object, use_objects, atom_number, fluent_number}

not_first : {A : Type 0} (b : Bool) (x : A) (r : Option A) → cond b (Some x) r ≡ None → b ≡ false
not_first true x r e = cc
not_first false x r e = refl

-- the counts of a numbering are inside the limits
pub few_objects : (c : Context) → first_over (name_counts c) ≡ None → length c.objects ≤ 10000
few_objects c e = let h : nat_lt 10000 (length c.objects) ≡ false = not_first (nat_lt 10000 (length c.objects)) _ _ e in grind (arith, nat_tests)

-- one more member of a list adds what it gives
pub more_given :
    {X A : Type 0} (f : X → List A) (start before after : List A) (xs : List X) (i : ℕ) (x : X)
    → i < length xs → x ≡ get_or xs i x
    → before ≡ start ++ flat_map f (take i xs) → after ≡ before ++ f x
    → after ≡ start ++ flat_map f (take (i + 1) xs)
more_given f start before after xs i x h m b a =
    let next : take (i + 1) xs ≡ take i xs ++ x ∷ [] = rw add-one (take-suc xs i x h ∙ ap (λ y. take i xs ++ y ∷ []) (sym m)) in
    let one : flat_map f (take i xs ++ x ∷ []) ≡ flat_map f (take i xs) ++ f x = flat_map-append f (take i xs) (x ∷ []) ∙ ap (λ ys. flat_map f (take i xs) ++ ys) (append-nil (f x)) in
    a ∙ ap (λ ys. ys ++ f x) b ∙ append_assoc start (flat_map f (take i xs)) (f x) ∙ ap (λ ys. start ++ ys) (sym one) ∙ ap (λ ys. start ++ flat_map f ys) (sym next)

-- before the first member nothing is added
pub none_given : {X A : Type 0} (f : X → List A) (start : List A) (xs : List X) → start ≡ start ++ flat_map f (take 0 xs)
none_given f start xs = sym (append-nil start)

-- the environments of the first variable's members, all of which were seen, are those of the list
pub all_given :
    (c : Context) (vars rest : List TypedName) (first : TypedName) (env : Environment) (name kind members : List ℕ) (i : ℕ) (start after : List Environment)
    → 1 ≤ length vars → first ≡ get_or vars 0 first → name ≡ first.name.name → kind ≡ first.kind.name
    → members ≡ members_of c kind → length members ≤ i
    → after ≡ start ++ flat_map (λ o. environments c rest (env ++ (name, o) ∷ [])) (take i members)
    → rest ≡ drop 1 vars
    → after ≡ start ++ environments c vars env
all_given c [] rest first env name kind members i start after h f n k m t s r = absurd (omega arith)
all_given c (v ∷ vs) rest first env name kind members i start after h f n k m t s r =
    let named : name ≡ v.name.name = n ∙ ap (λ (x : TypedName). x.name.name) f in
    let all : take i members ≡ members_of c v.kind.name = take_all i members t ∙ m ∙ ap (members_of c) (k ∙ ap (λ (x : TypedName). x.kind.name) f) in
    s ∙ ap (λ os. start ++ flat_map (λ o. environments c rest (env ++ (name, o) ∷ [])) os) all
    ∙ ap (λ vs. start ++ flat_map (λ o. environments c vs (env ++ (name, o) ∷ [])) (members_of c v.kind.name)) r
    ∙ ap (λ x. start ++ flat_map (λ o. environments c vs (env ++ (x, o) ∷ [])) (members_of c v.kind.name)) named

pub ruleset giving = (more_given, none_given)

-- what is made of each member of lists put together
map_given : {X Y Z : Type 0} (f : Y → Z) (g : X → List Y) (xs : List X) → map f (flat_map g xs) ≡ flat_map (λ x. map f (g x)) xs
map_given f g [] = refl
map_given f g (x ∷ xs) = map-append f (g x) (flat_map g xs) ∙ ap (λ ys. map f (g x) ++ ys) (map_given f g xs)

-- the same of what is made in each environment
pub all_made :
    {A : Type 0} (f : Environment → A) (c : Context) (vars rest : List TypedName) (first : TypedName) (env : Environment) (name kind members : List ℕ) (i : ℕ) (start after : List A)
    → 1 ≤ length vars → first ≡ get_or vars 0 first → name ≡ first.name.name → kind ≡ first.kind.name
    → members ≡ members_of c kind → length members ≤ i
    → after ≡ start ++ flat_map (λ o. map f (environments c rest (env ++ (name, o) ∷ []))) (take i members)
    → rest ≡ drop 1 vars
    → after ≡ start ++ map f (environments c vars env)
all_made f c vars rest first env name kind members i start after h g n k m t s r =
    let all : flat_map (λ o. environments c rest (env ++ (name, o) ∷ [])) (take i members) ≡ environments c vars env = all_given c vars rest first env name kind members i [] _ h g n k m t refl r in
    s ∙ ap (λ ys. start ++ ys) (sym (map_given f (λ o. environments c rest (env ++ (name, o) ∷ [])) (take i members)) ∙ ap (map f) all)

-- the number of a name with the objects of a use is that of the use
pub atom_named :
    (c : Context) (env : Environment) (u : Use) (n : ℕ) (name objects : List ℕ)
    → n ≡ number_of c c.predicates name objects → name ≡ u.head.name → objects ≡ use_objects c env u → n ≡ atom_number c env u
atom_named c env u n name objects e f g = e ∙ ap (λ os. number_of c c.predicates name os) g ∙ ap (λ m. number_of c c.predicates m (use_objects c env u)) f

pub fluent_named :
    (c : Context) (env : Environment) (u : Use) (n : ℕ) (name objects : List ℕ)
    → n ≡ number_of c c.functions name objects → name ≡ u.head.name → objects ≡ use_objects c env u → n ≡ fluent_number c env u
fluent_named c env u n name objects e f g = e ∙ ap (λ os. number_of c c.functions name os) g ∙ ap (λ m. number_of c c.functions m (use_objects c env u)) f

-- the objects of a use with one argument
pub one_object :
    (c : Context) (env : Environment) (u : Use) (args : List Term) (only : Term) (o : ℕ)
    → 1 ≤ length args → length args < 2 → only ≡ get_or args 0 only → args ≡ u.args → o ≡ term_object c env only → o ∷ [] ≡ use_objects c env u
one_object c env u [] only o l m h e t = absurd (omega (arith, l))
one_object c env u (x ∷ []) only o l m h e t = ap (λ y. y ∷ []) (t ∙ ap (term_object c env) h) ∙ ap (map (term_object c env)) e
one_object c env u (x ∷ y ∷ xs) only o l m h e t = absurd (omega (arith, m))

-- the last of the variables comes first
last_first :
    (none : ℕ) (bs : Environment) (b : List ℕ × ℕ) (name : List ℕ)
    → bound_object none (bs ++ b ∷ []) name ≡ cond (bytes_eq name b.0) b.1 (bound_object none bs name)
last_first none [] b name = refl
last_first none (x ∷ xs) b name = last_first (cond (bytes_eq name x.0) x.1 none) xs b name

-- what the last of the variables that are left makes of the object
at_last :
    {X : Type 0} (f : X → List ℕ × ℕ) (none : ℕ) (xs : List X) (i : ℕ) (d : X) (name : List ℕ)
    → i < length xs
    → bound_object none (map f (take (suc i) xs)) name
    ≡ cond (bytes_eq name (f (get_or xs i d)).0) (f (get_or xs i d)).1 (bound_object none (map f (take i xs)) name)
at_last f none xs i d name h =
    ap (λ ys. bound_object none (map f ys) name) (take-suc xs i d h)
    ∙ ap (λ bs. bound_object none bs name) (map-append f (take i xs) (get_or xs i d ∷ []))
    ∙ last_first none (map f (take i xs)) (f (get_or xs i d)) name

-- the last of the variables that are left has the name
pub found_last :
    {X : Type 0} (f : X → List ℕ × ℕ) (none : ℕ) (xs : List X) (left i : ℕ) (d : X) (name : List ℕ)
    → left ≡ suc i → left ≤ length xs → bytes_eq name (f (get_or xs i d)).0 ≡ true
    → bound_object none (map f xs) name ≡ bound_object none (map f (take left xs)) name
    → (f (get_or xs i d)).1 ≡ bound_object none (map f xs) name
found_last f none xs left i d name n h e s =
    sym (s ∙ ap (λ (m : ℕ). bound_object none (map f (take m xs)) name) n ∙ at_last f none xs i d name (omega arith)
    ∙ ap (λ b. cond b (f (get_or xs i d)).1 (bound_object none (map f (take i xs)) name)) e)

-- the last of the variables that are left has another name
pub passed_last :
    {X : Type 0} (f : X → List ℕ × ℕ) (none : ℕ) (xs : List X) (left i : ℕ) (d : X) (name : List ℕ)
    → left ≡ suc i → left ≤ length xs → bytes_eq name (f (get_or xs i d)).0 ≡ false
    → bound_object none (map f xs) name ≡ bound_object none (map f (take left xs)) name
    → bound_object none (map f xs) name ≡ bound_object none (map f (take i xs)) name
passed_last f none xs left i d name n h e s =
    s ∙ ap (λ (m : ℕ). bound_object none (map f (take m xs)) name) n ∙ at_last f none xs i d name (omega arith)
    ∙ ap (λ b. cond b (f (get_or xs i d)).1 (bound_object none (map f (take i xs)) name)) e
