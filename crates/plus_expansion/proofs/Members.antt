-- Objects of types: what stands under a type, and what the variables and names of a form stand for.
use Rattle.std.proofs.Common.{◌≡◌, ℕ, suc, ◌+◌, Bool, true, false, not, cond, ◌||◌, List, [], ◌∷◌, ◌++◌, Option, ap, ap₂, sym, refl, ◌∙◌, subst, true≢false, Some, None, arith, nat_eq, eq-eqb, All, flat_map, append-nil, append_assoc}
use Rattle.std.specs.List.{list_any, position_or_len}
use Rattle.std.specs.Str.{bytes_eq}
use Rattle.std.proofs.lemmas.List.Elements.{All-nil, All-cons, All-append, All-weaker, All-head, All-tail}
use Rattle.std.proofs.lemmas.List.Folds.{list_any_at}
use Rattle.plus_tree.specs.declared.terms.TypedName.{TypedName}
use Rattle.plus_tree.specs.declared.names.Spelled.{Spelled}
use Rattle.plus_types.specs.declared.faults.File.{File}
use Rattle.plus_types.specs.declared.faults.Wrong.TheVariants.{Twice, Shadowed}
use Rattle.plus_types.specs.declared.faults.TypeFault.TheVariants.{At}
use Rattle.plus_types.specs.Types.{is_among, Binding, bindings_of, bound_names, kind_of, is_under}
use Rattle.plus_types.specs.Faults.{Context, fault_where, bound_faults, member_faults, list_faults, variables_faults}
use Rattle.plus_types.proofs.SoundLemmas.{left-none, right-none}
use Rattle.plus_types.proofs.TypesLemmas.{or-right, bytes-swap, same-bytes}
use Rattle.plus_expansion.specs.Objects.{places_from, members_of, object_place}
use Rattle.plus_expansion.specs.Environments.{Environment, environments, bound_object}
use Rattle.plus_expansion.specs.Calls.{bound_by}
use Rattle.plus_expansion.proofs.Above.{or-map}

abbrev pub is_member : Context → List ℕ → ℕ → Bool
is_member c kind o = list_any (nat_eq o) (members_of c kind)

-- an object of a type is one of each type above
places-under :
    (types : List Binding) (low high : List ℕ) → ((k : List ℕ) → is_under types k low ≡ true → is_under types k high ≡ true) → (o n : ℕ) (os : List Binding)
    → list_any (nat_eq o) (places_from types low n os) ≡ true → list_any (nat_eq o) (places_from types high n os) ≡ true
places-under types low high h o n [] e = e
places-under types low high h o n (x ∷ xs) e =
    by (is_under types x.1 low) (is_under types x.1 high) (h x.1) e (places-under types low high h o (suc n) xs)
  where
    by :
        (a b : Bool) → (a ≡ true → b ≡ true)
        → list_any (nat_eq o) (cond a (n ∷ places_from types low (suc n) xs) (places_from types low (suc n) xs)) ≡ true
        → (list_any (nat_eq o) (places_from types low (suc n) xs) ≡ true → list_any (nat_eq o) (places_from types high (suc n) xs) ≡ true)
        → list_any (nat_eq o) (cond b (n ∷ places_from types high (suc n) xs) (places_from types high (suc n) xs)) ≡ true
    by true true f w more = or-map (nat_eq o n) _ _ more w
    by true false f w more = absurd (true≢false (sym (f refl)))
    by false true f w more = or-right (nat_eq o n) _ (more w)
    by false false f w more = more w

pub member-under :
    (c : Context) (low high : List ℕ) → ((k : List ℕ) → is_under c.types k low ≡ true → is_under c.types k high ≡ true) → (o : ℕ)
    → is_member c low o ≡ true → is_member c high o ≡ true
member-under c low high h o e = places-under c.types low high h o 0 c.objects e

-- the object with a name is one of each type that its own is under
place-there :
    (types : List Binding) (name own high : List ℕ) → is_under types own high ≡ true → (n : ℕ) (os : List Binding) → kind_of os name ≡ Some own
    → list_any (nat_eq (n + position_or_len (bytes_eq name) (bound_names os))) (places_from types high n os) ≡ true
place-there types name own high u n [] e = cc
place-there types name own high u n (x ∷ xs) e =
    by (bytes_eq name x.0) (is_under types x.1 high) refl e (place-there types name own high u (suc n) xs)
  where
    by :
        (a b : Bool) → is_under types x.1 high ≡ b → cond a (Some x.1) (kind_of xs name) ≡ Some own
        → (kind_of xs name ≡ Some own → list_any (nat_eq (suc n + position_or_len (bytes_eq name) (bound_names xs))) (places_from types high (suc n) xs) ≡ true)
        → list_any (nat_eq (n + cond (not a) (1 + position_or_len (bytes_eq name) (bound_names xs)) 0))
        (cond b (n ∷ places_from types high (suc n) xs) (places_from types high (suc n) xs)) ≡ true
    by true true is w more = ap (λ t. t || list_any (nat_eq (n + 0)) (places_from types high (suc n) xs)) (eq-eqb (n + 0) n (omega arith))
    by true false is w more = let same : x.1 ≡ own = cc in absurd (true≢false (sym u ∙ ap (λ k. is_under types k high) (sym same) ∙ is))
    by false b is w more =
        let at : n + (1 + position_or_len (bytes_eq name) (bound_names xs)) ≡ suc n + position_or_len (bytes_eq name) (bound_names xs) = omega arith in
        rw at (either b (more w))
      where
        either :
            (b : Bool) → list_any (nat_eq (suc n + position_or_len (bytes_eq name) (bound_names xs))) (places_from types high (suc n) xs) ≡ true
            → list_any (nat_eq (suc n + position_or_len (bytes_eq name) (bound_names xs))) (cond b (n ∷ places_from types high (suc n) xs) (places_from types high (suc n) xs)) ≡ true
        either true v = or-right _ _ v
        either false v = v

pub place-member :
    (c : Context) (name own high : List ℕ) → kind_of c.objects name ≡ Some own → is_under c.types own high ≡ true
    → is_member c high (object_place c name) ≡ true
place-member c name own high e u =
    let at : 0 + object_place c name ≡ object_place c name = omega arith in
    subst (λ i. list_any (nat_eq i) (members_of c high) ≡ true) at (place-there c.types name own high u 0 c.objects e)

-- ---- what variables stand for

-- each variable stands for an object of its type, and has a name of its own
abbrev pub Stands : Context → List Binding → Environment → Type 0
Stands c [] [] = Unit {0}
Stands c (v ∷ vs) (b ∷ bs) = (b.0 ≡ v.0) × (is_member c v.1 b.1 ≡ true) × (kind_of vs v.0 ≡ None) × Stands c vs bs
Stands c [] (b ∷ bs) = ⊥
Stands c (v ∷ vs) [] = ⊥

-- the variables of a list have names of their own, inside others
abbrev pub AreNew : List Binding → List TypedName → Type 0
AreNew vars [] = Unit {0}
AreNew vars (v ∷ vs) = (kind_of vars v.name.name ≡ None) × AreNew (vars ++ (v.name.name, v.kind.name) ∷ []) vs

none-first : (b : Bool) (k : List ℕ) (o : Option (List ℕ)) → cond b (Some k) o ≡ None → (b ≡ false) × (o ≡ None)
none-first true k o e = cc
none-first false k o e = (refl, e)

none-more : (vs : List Binding) (name kind x : List ℕ) → kind_of vs x ≡ None → bytes_eq x name ≡ false → kind_of (vs ++ (name, kind) ∷ []) x ≡ None
none-more [] name kind x e n = ap (λ b. cond b (Some kind) None) n
none-more (v ∷ vs) name kind x e n =
    let h = none-first (bytes_eq x v.0) v.1 (kind_of vs x) e in
    ap (λ b. cond b (Some v.1) (kind_of (vs ++ (name, kind) ∷ []) x)) h.0 ∙ none-more vs name kind x h.1 n

pub stands-more :
    (c : Context) (vars : List Binding) (env : Environment) (name kind : List ℕ) (o : ℕ) → Stands c vars env → is_member c kind o ≡ true → kind_of vars name ≡ None
    → Stands c (vars ++ (name, kind) ∷ []) (env ++ (name, o) ∷ [])
stands-more c [] [] name kind o s e n = (refl, e, refl, tt)
stands-more c [] (b ∷ bs) name kind o s e n = absurd s
stands-more c (v ∷ vs) [] name kind o s e n = absurd s
stands-more c (v ∷ vs) (b ∷ bs) name kind o s e n =
    let h = none-first (bytes_eq name v.0) v.1 (kind_of vs name) n in
    (s.0, s.1, none-more vs name kind v.0 s.2 (bytes-swap v.0 name ∙ h.0), stands-more c vs bs name kind o s.3 e h.1)

-- a name that is not bound stands for nothing
bound-none : (c : Context) (none : ℕ) (vars : List Binding) (env : Environment) (name : List ℕ) → Stands c vars env → kind_of vars name ≡ None → bound_object none env name ≡ none
bound-none c none [] [] name s e = refl
bound-none c none [] (b ∷ bs) name s e = absurd s
bound-none c none (v ∷ vs) [] name s e = absurd s
bound-none c none (v ∷ vs) (b ∷ bs) name s e =
    let h = none-first (bytes_eq name v.0) v.1 (kind_of vs name) e in
    ap (λ a. bound_object (cond a b.1 none) bs name) (ap (bytes_eq name) s.0 ∙ h.0) ∙ bound-none c none vs bs name s.3 h.1

-- the object of a variable is one of its type
pub bound-member :
    (c : Context) (none : ℕ) (vars : List Binding) (env : Environment) (name kind : List ℕ) → Stands c vars env → kind_of vars name ≡ Some kind
    → is_member c kind (bound_object none env name) ≡ true
bound-member c none [] env name kind s e = cc
bound-member c none (v ∷ vs) [] name kind s e = absurd s
bound-member c none (v ∷ vs) (b ∷ bs) name kind s e =
    by (bytes_eq name v.0) refl (bytes_eq name b.0) (ap (bytes_eq name) s.0) e (λ n. bound-member c n vs bs name kind s.3) (λ n h. bound-none c n vs bs name s.3 h)
  where
    by :
        (a : Bool) → bytes_eq name v.0 ≡ a → (d : Bool) → d ≡ bytes_eq name v.0 → cond a (Some v.1) (kind_of vs name) ≡ Some kind
        → ((n : ℕ) → kind_of vs name ≡ Some kind → is_member c kind (bound_object n bs name) ≡ true)
        → ((n : ℕ) → kind_of vs name ≡ None → bound_object n bs name ≡ n)
        → is_member c kind (bound_object (cond d b.1 none) bs name) ≡ true
    by true is true q w more alone =
        let same : v.1 ≡ kind = cc in
        let n : name ≡ v.0 = same-bytes name v.0 is in
        ap₂ (λ k o. is_member c k o) (sym same) (alone b.1 (ap (kind_of vs) n ∙ s.2)) ∙ s.1
    by true is false q w more alone = absurd (true≢false (sym is ∙ sym q))
    by false is true q w more alone = absurd (true≢false (q ∙ is))
    by false is false q w more alone = more none w

-- ---- environments

all-members : (os : List ℕ) → All (λ o. list_any (nat_eq o) os ≡ true) os
all-members os = λ k d h. list_any_at (nat_eq _) os k d h (eq-eqb _ _ refl)

pub all-flat : {A B : Type 0} (P : B → Type 0) (f : A → List B) (xs : List A) → All (λ x. All P (f x)) xs → All P (flat_map f xs)
all-flat P f [] h = All-nil P
all-flat P f (x ∷ xs) h =
    All-append P (f x) (flat_map f xs) (All-head (λ x. All P (f x)) x xs h) (all-flat P f xs (All-tail (λ x. All P (f x)) x xs h))

pub environments-stand :
    (c : Context) (vs : List TypedName) (vars : List Binding) (env : Environment) → Stands c vars env → AreNew vars vs
    → All (Stands c (vars ++ bindings_of vs)) (environments c vs env)
environments-stand c [] vars env s n =
    All-cons (Stands c (vars ++ [])) env [] (subst (λ x. Stands c x env) (sym (append-nil vars)) s) (All-nil (Stands c (vars ++ [])))
environments-stand c (v ∷ vs) vars env s n =
    all-flat (Stands c (vars ++ (v.name.name, v.kind.name) ∷ bindings_of vs)) (λ o. environments c vs (env ++ (v.name.name, o) ∷ [])) (members_of c v.kind.name)
    (All-weaker (λ o. is_member c v.kind.name o ≡ true) (λ o. All (Stands c (vars ++ (v.name.name, v.kind.name) ∷ bindings_of vs)) (environments c vs (env ++ (v.name.name, o) ∷ [])))
    (λ o e. subst (λ x. All (Stands c x) (environments c vs (env ++ (v.name.name, o) ∷ []))) (append_assoc vars ((v.name.name, v.kind.name) ∷ []) (bindings_of vs))
    (environments-stand c vs (vars ++ (v.name.name, v.kind.name) ∷ []) (env ++ (v.name.name, o) ∷ []) (stands-more c vars env v.name.name v.kind.name o s e n.0) n.1))
    (members_of c v.kind.name) (all-members (members_of c v.kind.name)))

-- and so does the environment of a call
pub bound-stands :
    (c : Context) (vs : List TypedName) (args : List (List ℕ)) (vars : List Binding) (env out : Environment) → Stands c vars env → AreNew vars vs
    → bound_by c vs args env ≡ Some out → Stands c (vars ++ bindings_of vs) out
bound-stands c [] [] vars env out s n e =
    let same : env ≡ out = cc in subst (Stands c (vars ++ [])) same (subst (λ x. Stands c x env) (sym (append-nil vars)) s)
bound-stands c [] (a ∷ more) vars env out s n e = cc
bound-stands c (v ∷ vs) [] vars env out s n e = cc
bound-stands c (v ∷ vs) (a ∷ more) vars env out s n e =
    by (is_member c v.kind.name (object_place c a)) refl e
    (λ t w. bound-stands c vs more (vars ++ (v.name.name, v.kind.name) ∷ []) (env ++ (v.name.name, object_place c a) ∷ []) out (stands-more c vars env v.name.name v.kind.name (object_place c a) s t n.0) n.1 w)
  where
    by :
        (b : Bool) → is_member c v.kind.name (object_place c a) ≡ b
        → cond b (bound_by c vs more (env ++ (v.name.name, object_place c a) ∷ [])) None ≡ Some out
        → (is_member c v.kind.name (object_place c a) ≡ true → bound_by c vs more (env ++ (v.name.name, object_place c a) ∷ []) ≡ Some out
        → Stands c ((vars ++ (v.name.name, v.kind.name) ∷ []) ++ bindings_of vs) out)
        → Stands c (vars ++ (v.name.name, v.kind.name) ∷ bindings_of vs) out
    by true is w rest = subst (λ x. Stands c x out) (append_assoc vars ((v.name.name, v.kind.name) ∷ []) (bindings_of vs)) (rest is w)
    by false is w rest = cc

-- ---- a list without a fault binds new names

not-among : (vars : List Binding) (x : List ℕ) → is_among (bound_names vars) x ≡ false → kind_of vars x ≡ None
not-among [] x e = refl
not-among (v ∷ vs) x e =
    let h = neither (bytes_eq x v.0) (is_among (bound_names vs) x) e in
    ap (λ b. cond b (Some v.1) (kind_of vs x)) h.0 ∙ not-among vs x h.1
  where
    neither : (a b : Bool) → (a || b) ≡ false → (a ≡ false) × (b ≡ false)
    neither true b e = cc
    neither false b e = (refl, e)

none-both : (us vs : List Binding) (x : List ℕ) → kind_of us x ≡ None → kind_of vs x ≡ None → kind_of (us ++ vs) x ≡ None
none-both [] vs x e h = h
none-both (u ∷ us) vs x e h =
    let k = none-first (bytes_eq x u.0) u.1 (kind_of us x) e in
    ap (λ b. cond b (Some u.1) (kind_of (us ++ vs) x)) k.0 ∙ none-both us vs x k.1 h

bound-new : (file : File) (outer earlier : List (List ℕ)) (x : Spelled) → bound_faults file outer earlier x ≡ [] → (is_among outer x.name ≡ false) × (is_among earlier x.name ≡ false)
bound-new file outer earlier x e = by (is_among outer x.name) (is_among earlier x.name) e
  where
    by : (a b : Bool) → cond a (At Shadowed file x.span ∷ []) (fault_where b Twice file x.span) ≡ [] → (a ≡ false) × (b ≡ false)
    by true b e = cc
    by false true e = cc
    by false false e = (refl, refl)

list-new : (types : List Binding) (file : File) (vars done : List Binding) (vs : List TypedName) → list_faults types file (bound_names vars) (bound_names done) vs ≡ [] → AreNew (vars ++ done) vs
unfolding member_faults
list-new types file vars done [] e = tt
list-new types file vars done (v ∷ vs) e =
    let first = left-none (member_faults types file (bound_names vars) (bound_names done) v) _ e in
    let h = bound-new file (bound_names vars) (bound_names done) v.name (left-none (bound_faults file (bound_names vars) (bound_names done) v.name) _ first) in
    let rest = right-none (member_faults types file (bound_names vars) (bound_names done) v) _ e in (
      none-both vars done v.name.name (not-among vars v.name.name h.0) (not-among done v.name.name h.1),
      subst (λ x. AreNew x vs) (sym (append_assoc vars done ((v.name.name, v.kind.name) ∷ [])))
          (list-new types file vars (done ++ (v.name.name, v.kind.name) ∷ []) vs
          (subst (λ x. list_faults types file (bound_names vars) x vs ≡ []) (names-more done (v.name.name, v.kind.name)) rest)),
    )
  where
    names-more : (done : List Binding) (b : Binding) → bound_names done ++ b.0 ∷ [] ≡ bound_names (done ++ b ∷ [])
    names-more [] b = refl
    names-more (d ∷ done) b = ap (λ xs. d.0 ∷ xs) (names-more done b)

pub variables-new : (c : Context) (vars : List Binding) (vs : List TypedName) → variables_faults c vars vs ≡ [] → AreNew vars vs
variables-new c vars vs e = subst (λ x. AreNew x vs) (append-nil vars) (list-new c.types c.file vars [] vs e)
