-- Forms inside lists of variables, and the writes of an effect one by one.
use Rattle.std.proofs.Common.{◌≡◌, ℕ, Bool, true, false, ◌||◌, List, [], ◌∷◌, ◌++◌, map, refl, ap, ap₂, sym, subst, ◌∙◌, arith, append_assoc, append-nil, flat_map, All}
use Rattle.std.specs.List.{AllByRecursion}
use Rattle.std.specs.Str.{bytes_eq}
use Rattle.std.proofs.lemmas.List.Elements.{All-head, All-tail}
use Rattle.plus_tree.specs.declared.terms.TypedName.{TypedName}
use Rattle.plus_tree.specs.declared.trees.Leaf.{Leaf}
use Rattle.plus_tree.specs.Cond.{Cond, Conds, c_all, c_any, c_not, c_imply, c_forall, c_exists, c_atom, c_same, c_compare, no_conds, more_conds, conds_of}
use Rattle.plus_tree.specs.Effect.{Effect, Effects, e_all, e_forall, e_when, e_leaf, no_effects, more_effects, effects_of}
use Rattle.plus_types.specs.declared.faults.Wrong.TheVariants.{RateForm}
use Rattle.plus_types.specs.Types.{Binding, bindings_of, bound_names, names_of, is_among}
use Rattle.plus_types.specs.Faults.{Context, fault_where, variables_faults, cond_faults, conds_faults, leaf_faults, leaves_faults, effect_faults, effects_faults}
use Rattle.plus_types.proofs.SoundLemmas.{left-none, right-none}
use Rattle.plus_translation.specs.Leaves.{over, some, over_effect, nested, Placed, inside, leaves_of, leaves_among}
use Rattle.plus_translation.proofs.Names.{fresh_apart}
use Rattle.laws_translation.specs.Typed.Laws.{bound_in, bound_among, AreApart}
use Rattle.laws_translation.proofs.TypedLemmas.Listed.{both_none, kind_kept, kind_behind, none_among, ListTyped, variables_from, variables_to}
use Rattle.laws_translation.proofs.TypedLemmas.Wider.{WiderVars, EachName, Binds, BindAll}
use Rattle.laws_translation.proofs.TypedLemmas.RenamedTyped.{IsFresh, EachList, eq_swap}

-- ---- lists of conditions and effects

pub all_conds : (c : Context) (vars : List Binding) (gs : List Cond) → AllByRecursion (λ g. cond_faults c vars g ≡ []) gs → conds_faults c vars (conds_of gs) ≡ []
all_conds c vars [] t = refl
all_conds c vars (g ∷ gs) t = both_none (cond_faults c vars g) _ t.0 (all_conds c vars gs t.1)

pub all_effects : (c : Context) (vars : List Binding) (es : List Effect) → AllByRecursion (λ e. effect_faults c vars false e ≡ []) es → effects_faults c vars false (effects_of es) ≡ []
all_effects c vars [] t = refl
all_effects c vars (e ∷ es) t = both_none (effect_faults c vars false e) _ t.0 (all_effects c vars es t.1)

pub all_both : {X : Type 0} (P : X → Type 0) (xs ys : List X) → AllByRecursion P xs → AllByRecursion P ys → AllByRecursion P (xs ++ ys)
all_both P [] ys a b = b
all_both P (x ∷ xs) ys a b = (a.0, all_both P xs ys a.1 b)

-- ---- one list around a form

pub over_typed : (c : Context) (vars : List Binding) (vs : List TypedName) (g : Cond) → ListTyped c.types vars vs → cond_faults c (vars ++ bindings_of vs) g ≡ [] → cond_faults c vars (over vs g) ≡ []
over_typed c vars [] g t f = subst (λ xs. cond_faults c xs g ≡ []) (append-nil vars) f
over_typed c vars (v ∷ vs) g t f = both_none (variables_faults c vars (v ∷ vs)) _ (variables_to c vars (v ∷ vs) t) f

pub some_typed : (c : Context) (vars : List Binding) (vs : List TypedName) (g : Cond) → ListTyped c.types vars vs → cond_faults c (vars ++ bindings_of vs) g ≡ [] → cond_faults c vars (some vs g) ≡ []
some_typed c vars [] g t f = subst (λ xs. cond_faults c xs g ≡ []) (append-nil vars) f
some_typed c vars (v ∷ vs) g t f = both_none (variables_faults c vars (v ∷ vs)) _ (variables_to c vars (v ∷ vs) t) f

pub over_effect_typed : (c : Context) (vars : List Binding) (vs : List TypedName) (e : Effect) → ListTyped c.types vars vs → effect_faults c (vars ++ bindings_of vs) false e ≡ [] → effect_faults c vars false (over_effect vs e) ≡ []
over_effect_typed c vars [] e t f = subst (λ xs. effect_faults c xs false e ≡ []) (append-nil vars) f
over_effect_typed c vars (v ∷ vs) e t f = both_none (variables_faults c vars (v ∷ vs)) _ (variables_to c vars (v ∷ vs) t) f

-- ---- several lists

abbrev pub bindings_all : List (List TypedName) → List Binding
bindings_all lists = flat_map bindings_of lists

abbrev pub NestTyped : List Binding → List Binding → List (List TypedName) → Type 0
NestTyped types vars [] = Unit {0}
NestTyped types vars (vs ∷ rest) = ListTyped types vars vs × NestTyped types (vars ++ bindings_of vs) rest

pub nested_typed : (c : Context) (vars : List Binding) (lists : List (List TypedName)) (e : Effect) → NestTyped c.types vars lists → effect_faults c (vars ++ bindings_all lists) false e ≡ [] → effect_faults c vars false (nested lists e) ≡ []
nested_typed c vars [] e t f = subst (λ xs. effect_faults c xs false e ≡ []) (append-nil vars) f
nested_typed c vars (vs ∷ rest) e t f =
    over_effect_typed c vars vs (nested rest e) t.0
    (nested_typed c (vars ++ bindings_of vs) rest e t.1 (subst (λ xs. effect_faults c xs false e ≡ []) (sym (append_assoc vars (bindings_of vs) (bindings_all rest))) f))

-- more variables, of other names
pub wider_behind : (vars ws : List Binding) → WiderVars (bound_names ws) vars (vars ++ ws)
wider_behind vars ws = record {
  some = λ x kind e. kind_kept vars ws x kind e;
  none = λ x e f. kind_behind vars ws x e ∙ none_among ws x f;
}

pub wider_same : (vars : List Binding) → WiderVars [] vars vars
wider_same vars = record { some = λ x kind e. e; none = λ x e f. e }

-- ---- a write with its lists

pub record PlacedTyped (c : Context) (vars : List Binding) (process : Bool) (p : Placed) : Type 0 where
  pub lists : NestTyped c.types vars p.lists
  pub guards : AllByRecursion (λ g. cond_faults c (vars ++ bindings_all p.lists) g ≡ []) p.guards
  pub write : leaf_faults c (vars ++ bindings_all p.lists) process p.leaf ≡ []

module _ (c : Context) (process : Bool) where
  abbrev pub AllPlaced : List Binding → List Placed → Type 0
  AllPlaced vars ps = AllByRecursion (PlacedTyped c vars process) ps

  inside_typed : (vars : List Binding) (vs : List TypedName) (ps : List Placed) → ListTyped c.types vars vs → AllPlaced (vars ++ bindings_of vs) ps → AllPlaced vars (map (inside vs) ps)
  inside_typed vars vs [] t a = tt
  inside_typed vars vs (p ∷ ps) t a =
      let e = append_assoc vars (bindings_of vs) (bindings_all p.lists) in (
        record {
          lists = (t, a.0.lists);
          guards = subst (λ xs. AllByRecursion (λ g. cond_faults c xs g ≡ []) p.guards) e a.0.guards;
          write = subst (λ xs. leaf_faults c xs process p.leaf ≡ []) e a.0.write;
        },
        inside_typed vars vs ps t a.1,
      )

  when_typed : (vars : List Binding) (g : Cond) (ls : List Leaf) → cond_faults c vars g ≡ [] → leaves_faults c vars process ls ≡ [] → AllPlaced vars (map (λ (l : Leaf). record { lists = []; guards = g ∷ []; leaf = l }) ls)
  when_typed vars g [] f h = tt
  when_typed vars g (l ∷ ls) f h =
      let e = sym (append-nil vars) in (
        record {
          lists = tt;
          guards = (subst (λ xs. cond_faults c xs g ≡ []) e f, tt);
          write = subst (λ xs. leaf_faults c xs process l ≡ []) e (left-none (leaf_faults c vars process l) _ h);
        },
        when_typed vars g ls f (right-none (leaf_faults c vars process l) _ h),
      )

  mutual
    pub leaves_typed : (vars : List Binding) (e : Effect) → effect_faults c vars process e ≡ [] → AllPlaced vars (leaves_of e)
    leaves_typed vars (e_all es s) f = leaves_among_typed vars es f
    leaves_typed vars (e_forall vs e s) f =
        inside_typed vars vs (leaves_of e) (variables_from c vars vs (left-none (variables_faults c vars vs) _ f)) (leaves_typed (vars ++ bindings_of vs) e (right-none (variables_faults c vars vs) _ f))
    leaves_typed vars (e_when g ls s) f =
        let rest = right-none (fault_where process RateForm c.file s) _ f in
        when_typed vars g ls (left-none (cond_faults c vars g) _ rest) (right-none (cond_faults c vars g) _ rest)
    leaves_typed vars (e_leaf l s) f = (record { lists = tt; guards = tt; write = subst (λ xs. leaf_faults c xs process l ≡ []) (sym (append-nil vars)) f }, tt)

    pub leaves_among_typed : (vars : List Binding) (es : Effects) → effects_faults c vars process es ≡ [] → AllPlaced vars (leaves_among es)
    leaves_among_typed vars no_effects f = tt
    leaves_among_typed vars (more_effects e es) f =
        all_both (PlacedTyped c vars process) (leaves_of e) (leaves_among es) (leaves_typed vars e (left-none (effect_faults c vars process e) _ f)) (leaves_among_typed vars es (right-none (effect_faults c vars process e) _ f))

-- ---- names that a condition binds, and names of lists

pub binds_more : (P Q : List ℕ → Type 0) → ((x : List ℕ) → P x → Q x) → (vs : List TypedName) → EachName P vs → EachName Q vs
binds_more P Q h [] b = tt
binds_more P Q h (v ∷ vs) b = (h v.name.name b.0, binds_more P Q h vs b.1)

mutual
  pub cond_binds_more : (P Q : List ℕ → Type 0) → ((x : List ℕ) → P x → Q x) → (g : Cond) → Binds P g → Binds Q g
  cond_binds_more P Q h (c_all gs s) b = conds_bind_more P Q h gs b
  cond_binds_more P Q h (c_any gs s) b = conds_bind_more P Q h gs b
  cond_binds_more P Q h (c_not g s) b = cond_binds_more P Q h g b
  cond_binds_more P Q h (c_imply g f s) b = (cond_binds_more P Q h g b.0, cond_binds_more P Q h f b.1)
  cond_binds_more P Q h (c_forall vs g s) b = (binds_more P Q h vs b.0, cond_binds_more P Q h g b.1)
  cond_binds_more P Q h (c_exists vs g s) b = (binds_more P Q h vs b.0, cond_binds_more P Q h g b.1)
  cond_binds_more P Q h (c_atom u s) b = tt
  cond_binds_more P Q h (c_same t u s) b = tt
  cond_binds_more P Q h (c_compare op e f s) b = tt

  pub conds_bind_more : (P Q : List ℕ → Type 0) → ((x : List ℕ) → P x → Q x) → (gs : Conds) → BindAll P gs → BindAll Q gs
  conds_bind_more P Q h no_conds b = tt
  conds_bind_more P Q h (more_conds g gs) b = (cond_binds_more P Q h g b.0, conds_bind_more P Q h gs b.1)

-- no name of the lists is one of these
or_none : (a b : Bool) → a ≡ false → b ≡ false → (a || b) ≡ false
or_none a b e f = ap₂ (λ x y. x || y) e f

among_both : (xs ys : List (List ℕ)) (x : List ℕ) → is_among xs x ≡ false → is_among ys x ≡ false → is_among (xs ++ ys) x ≡ false
among_both [] ys x e f = f
among_both (y ∷ xs) ys x e f = by (bytes_eq x y) e (among_both xs ys x)
  where
    by : (b : Bool) → (b || is_among xs x) ≡ false → (is_among xs x ≡ false → is_among ys x ≡ false → is_among (xs ++ ys) x ≡ false) → (b || is_among (xs ++ ys) x) ≡ false
    by true e more = absurd cc
    by false e more = more e f

bound_append : (vs ws : List Binding) → bound_names (vs ++ ws) ≡ bound_names vs ++ bound_names ws
bound_append [] ws = refl
bound_append (v ∷ vs) ws = ap (λ xs. v.0 ∷ xs) (bound_append vs ws)

-- where each name of the lists differs from x
differ_list : (x : List ℕ) (vs : List TypedName) → EachName (λ y. bytes_eq x y ≡ false) vs → is_among (bound_names (bindings_of vs)) x ≡ false
differ_list x [] d = refl
differ_list x (v ∷ vs) d = or_none (bytes_eq x v.name.name) _ d.0 (differ_list x vs d.1)

pub differ_all : (x : List ℕ) (lists : List (List TypedName)) → EachList (λ y. bytes_eq x y ≡ false) lists → is_among (bound_names (bindings_all lists)) x ≡ false
differ_all x [] d = refl
differ_all x (vs ∷ rest) d =
    ap (λ xs. is_among xs x) (bound_append (bindings_of vs) (bindings_all rest)) ∙ among_both (bound_names (bindings_of vs)) (bound_names (bindings_all rest)) x (differ_list x vs d.0) (differ_all x rest d.1)

lists_more : (P Q : List ℕ → Type 0) → ((x : List ℕ) → P x → Q x) → (lists : List (List TypedName)) → EachList P lists → EachList Q lists
lists_more P Q h [] b = tt
lists_more P Q h (vs ∷ rest) b = (binds_more P Q h vs b.0, lists_more P Q h rest b.1)

-- new names before those of the lists
pub fresh_binds : (i low middle high : ℕ) (g : Cond) (lists : List (List TypedName)) → Binds (IsFresh i low middle) g → EachList (IsFresh i middle high) lists → Binds (λ x. is_among (bound_names (bindings_all lists)) x ≡ false) g
fresh_binds i low middle high g lists b l =
    cond_binds_more (IsFresh i low middle) (λ x. is_among (bound_names (bindings_all lists)) x ≡ false)
    (λ x f. differ_all x lists (lists_more (IsFresh i middle high) (λ y. bytes_eq x y ≡ false)
    (λ y h. ap₂ bytes_eq f.name h.name ∙ fresh_apart i f.place h.place (let a = f.below in let z = h.above in omega arith)) lists l)) g b

-- ---- names that are apart, as the law asks for

abbrev ApartNames : List (List ℕ) → List (List TypedName) → Type 0
ApartNames names lists = EachList (λ x. is_among names x ≡ false) lists

split_none : (xs ys : List (List ℕ)) (x : List ℕ) → is_among (xs ++ ys) x ≡ false → (is_among xs x ≡ false) × (is_among ys x ≡ false)
split_none [] ys x e = (refl, e)
split_none (y ∷ xs) ys x e = by (bytes_eq x y) e (split_none xs ys x)
  where
    by : (b : Bool) → (b || is_among (xs ++ ys) x) ≡ false → (is_among (xs ++ ys) x ≡ false → (is_among xs x ≡ false) × (is_among ys x ≡ false)) → ((b || is_among xs x) ≡ false) × (is_among ys x ≡ false)
    by true e more = absurd cc
    by false e more = more e

apart_left : (xs ys : List (List ℕ)) (lists : List (List TypedName)) → ApartNames (xs ++ ys) lists → ApartNames xs lists
apart_left xs ys lists a = lists_more (λ x. is_among (xs ++ ys) x ≡ false) (λ x. is_among xs x ≡ false) (λ x e. (split_none xs ys x e).0) lists a

apart_right : (xs ys : List (List ℕ)) (lists : List (List TypedName)) → ApartNames (xs ++ ys) lists → ApartNames ys lists
apart_right xs ys lists a = lists_more (λ x. is_among (xs ++ ys) x ≡ false) (λ x. is_among ys x ≡ false) (λ x e. (split_none xs ys x e).1) lists a

abbrev IsOut : List (List TypedName) → List ℕ → Type 0
IsOut lists x = is_among (bound_names (bindings_all lists)) x ≡ false

list_apart : (lists : List (List TypedName)) (vs : List TypedName) → ApartNames (names_of vs) lists → EachName (IsOut lists) vs
list_apart lists [] a = tt
list_apart lists (v ∷ vs) a = (
  differ_all v.name.name lists (lists_more (λ x. is_among (names_of (v ∷ vs)) x ≡ false) (λ y. bytes_eq v.name.name y ≡ false)
      (λ y e. eq_swap y v.name.name (first (bytes_eq y v.name.name) _ e)) lists a),
  list_apart lists vs (lists_more (λ x. is_among (names_of (v ∷ vs)) x ≡ false) (λ x. is_among (names_of vs) x ≡ false) (λ y e. second (bytes_eq y v.name.name) _ e) lists a),
)
  where
    first : (a b : Bool) → (a || b) ≡ false → a ≡ false
    first true b e = e
    first false b e = refl

    second : (a b : Bool) → (a || b) ≡ false → b ≡ false
    second true b e = absurd cc
    second false b e = e

mutual
  apart_binds : (lists : List (List TypedName)) (g : Cond) → ApartNames (bound_in g) lists → Binds (IsOut lists) g
  apart_binds lists (c_all gs s) a = apart_bind_all lists gs a
  apart_binds lists (c_any gs s) a = apart_bind_all lists gs a
  apart_binds lists (c_not g s) a = apart_binds lists g a
  apart_binds lists (c_imply g f s) a = (apart_binds lists g (apart_left (bound_in g) (bound_in f) lists a), apart_binds lists f (apart_right (bound_in g) (bound_in f) lists a))
  apart_binds lists (c_forall vs g s) a = (list_apart lists vs (apart_left (names_of vs) (bound_in g) lists a), apart_binds lists g (apart_right (names_of vs) (bound_in g) lists a))
  apart_binds lists (c_exists vs g s) a = (list_apart lists vs (apart_left (names_of vs) (bound_in g) lists a), apart_binds lists g (apart_right (names_of vs) (bound_in g) lists a))
  apart_binds lists (c_atom u s) a = tt
  apart_binds lists (c_same t u s) a = tt
  apart_binds lists (c_compare op e f s) a = tt

  apart_bind_all : (lists : List (List TypedName)) (gs : Conds) → ApartNames (bound_among gs) lists → BindAll (IsOut lists) gs
  apart_bind_all lists no_conds a = tt
  apart_bind_all lists (more_conds g gs) a = (apart_binds lists g (apart_left (bound_in g) (bound_among gs) lists a), apart_bind_all lists gs (apart_right (bound_in g) (bound_among gs) lists a))

apart_each : (g : Cond) (vs : List TypedName) → AreApart g vs → EachName (λ x. is_among (bound_in g) x ≡ false) vs
apart_each g [] a = tt
apart_each g (v ∷ vs) a =
    (All-head (λ (v : TypedName). is_among (bound_in g) v.name.name ≡ false) v vs a, apart_each g vs (All-tail (λ (v : TypedName). is_among (bound_in g) v.name.name ≡ false) v vs a))

apart_lists : (g : Cond) (lists : List (List TypedName)) → All (AreApart g) lists → ApartNames (bound_in g) lists
apart_lists g [] a = tt
apart_lists g (vs ∷ rest) a = (apart_each g vs (All-head (AreApart g) vs rest a), apart_lists g rest (All-tail (AreApart g) vs rest a))

pub apart_out : (g : Cond) (lists : List (List TypedName)) → All (AreApart g) lists → Binds (λ x. is_among (bound_names (bindings_all lists)) x ≡ false) g
apart_out g lists a = apart_binds lists g (apart_lists g lists a)
