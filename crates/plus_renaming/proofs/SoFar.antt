-- What is renamed so far, member by member: what is done and what is left make the whole.
use Rattle.std.specs.Prelude.{◌≡◌, ℕ, zero, suc, ◌+◌, ◌<◌, ◌≤◌, List, [], ◌∷◌, ◌++◌, length, take, drop, map, get_or, refl}
use Rattle.std.proofs.lemmas.List.{drop_all, take_all}
use Rattle.std.proofs.Common.{ap, sym, ◌∙◌, subst, arith, drop-cons, append_assoc, append-nil}
use Rattle.plus_tree.specs.declared.terms.TypedName.{TypedName}
use Rattle.plus_tree.specs.Expr.{Expr, exprs_of, more_exprs}
use Rattle.plus_tree.specs.Cond.{Cond, Conds, no_conds, more_conds, conds_of}
use Rattle.plus_tree.specs.Effect.{Effect, Effects, no_effects, more_effects, effects_of}
use Rattle.plus_translation.specs.Renamed.{Scope, spelled, fresh_name, scope_with, bindings_in, bindings_among, effect_bindings, effects_bindings, renamed_list, renamed_expr, renamed_exprs, renamed_cond, renamed_conds, renamed_effect, renamed_effects}
use Rattle.plus_renaming.specs.declared.renaming.Renamer.{Renamer}

-- ---- a list of which one member more is done

front : {A : Type 0} (xs : List A) (i : ℕ) (x : A) → i < length xs → x ≡ get_or xs i x → drop i xs ≡ x ∷ drop (suc i) xs
front xs i x h m = drop-cons xs i x h ∙ ap (λ y. y ∷ drop (suc i) xs) (sym m)

one_done : {B : Type 0} (done whole : List B) (y : B) (rest left : List B) → done ++ left ≡ whole → left ≡ y ∷ rest → (done ++ y ∷ []) ++ rest ≡ whole
one_done done whole y rest left h e = append_assoc done (y ∷ []) rest ∙ ap (λ r. done ++ r) (sym e) ∙ h

all_done : {B : Type 0} (done whole left : List B) → done ++ left ≡ whole → left ≡ [] → done ≡ whole
all_done done whole left h e = sym (append-nil done) ∙ ap (λ r. done ++ r) (sym e) ∙ h

-- ---- expressions

pub exprs : (scope : Scope) (es : List Expr) → renamed_exprs scope (exprs_of es) ≡ exprs_of (map (renamed_expr scope) es)
exprs scope [] = refl
exprs scope (e ∷ es) = ap (λ r. more_exprs (renamed_expr scope e) r) (exprs scope es)

pub exprs_done : (scope : Scope) (items copy : List Expr) (i : ℕ) → length items ≤ i → copy ≡ map (renamed_expr scope) (take i items) → exprs_of copy ≡ renamed_exprs scope (exprs_of items)
exprs_done scope items copy i h e =
    ap exprs_of (e ∙ ap (map (renamed_expr scope)) (take_all i items h)) ∙ sym (exprs scope items)

pub ruleset expressions = (exprs, exprs_done)

-- ---- a typed list

pub record ListSoFar (start now : Renamer) (list : List TypedName) (i : ℕ) (names : List TypedName) : Type 0 where
  pub event : now.event ≡ start.event
  pub made : names ++ renamed_list now.event now.next (drop i list) ≡ renamed_list start.event start.next list
  pub scope : scope_with now.event now.next (drop i list) now.scope ≡ scope_with start.event start.next list start.scope
  pub count : now.next + length (drop i list) ≡ start.next + length list

abbrev pub bound_one : Renamer → TypedName → Renamer
bound_one now x = record now { next = suc now.next; scope = (x.name.name, fresh_name now.event now.next) ∷ now.scope }

abbrev pub renamed_one : Renamer → TypedName → TypedName
renamed_one now x = record { name = spelled (fresh_name now.event now.next); kind = x.kind }

pub list_begin : (start : Renamer) (list : List TypedName) → ListSoFar start start list 0 []
list_begin start list = record { event = refl; made = refl; scope = refl; count = refl }

list_core :
    (start now : Renamer) (list : List TypedName) (i : ℕ) (x : TypedName) (names : List TypedName) → i < length list → x ≡ get_or list i x
    → ListSoFar start now list i names → ListSoFar start (bound_one now x) list (suc i) (names ++ renamed_one now x ∷ [])
list_core start now list i x names h m inv = record {
  event = inv.event;
  made = one_done names _ (renamed_one now x) _ _ inv.made (ap (renamed_list now.event now.next) (front list i x h m));
  scope = ap (λ vs. scope_with now.event now.next vs now.scope) (sym (front list i x h m)) ∙ inv.scope;
  count = let e : length (drop i list) ≡ suc (length (drop (suc i) list)) = ap length (front list i x h m) in omega (arith, inv.count, e);
}

pub list_step :
    (start now next : Renamer) (list : List TypedName) (i : ℕ) (x y : TypedName) (names : List TypedName) → i < length list → x ≡ get_or list i x
    → ListSoFar start now list i names → y ≡ renamed_one now x → next ≡ bound_one now x → ListSoFar start next list (suc i) (names ++ y ∷ [])
list_step start now next list i x y names h m inv y_is next_is =
    subst (λ r. ListSoFar start r list (suc i) (names ++ y ∷ [])) (sym next_is)
    (subst (λ v. ListSoFar start (bound_one now x) list (suc i) (names ++ v ∷ [])) (sym y_is) (list_core start now list i x names h m inv))

pub list_names : (start now : Renamer) (list : List TypedName) (i : ℕ) (names : List TypedName) → length list ≤ i
    → ListSoFar start now list i names → names ≡ renamed_list start.event start.next list
list_names start now list i names h inv = all_done names _ _ inv.made (ap (renamed_list now.event now.next) (drop_all i list h))

pub list_after : (start now : Renamer) (list : List TypedName) (i : ℕ) (names : List TypedName) → length list ≤ i → ListSoFar start now list i names
    → now ≡ record start { next = start.next + length list; scope = scope_with start.event start.next list start.scope }
list_after start now list i names h inv =
    let none : length (drop i list) ≡ 0 = ap length (drop_all i list h) in
    let n : now.next ≡ start.next + length list = omega (arith, inv.count, none) in
    let s : now.scope ≡ scope_with start.event start.next list start.scope =
    ap (λ vs. scope_with now.event now.next vs now.scope) (sym (drop_all i list h)) ∙ inv.scope in
    λ j. record { event = inv.event j; next = n j; scope = s j }

pub ruleset binding = (list_begin, list_step, list_names, list_after)

absurd_list : {A : Type 0} (x : A) (ys : List A) → [] ≡ x ∷ ys → ⊥
absurd_list x ys h = cc

nothing : {A : Type 0} (n : ℕ) (x : A) (ys : List A) → drop n [] ≡ x ∷ ys → ⊥
nothing zero x ys h = absurd_list x ys h
nothing (suc n) x ys h = absurd_list x ys h

behind : {A : Type 0} (n : ℕ) (xs : List A) (x : A) (ys : List A) → drop n xs ≡ x ∷ ys → drop (suc n) xs ≡ ys
behind n [] x ys h = elim (nothing n x ys h) [ ]
behind zero (y ∷ xs) x ys h = ap (drop 1) h
behind (suc n) (y ∷ xs) x ys h = behind n xs x ys h

-- the variables of a list go again
pub scope_left : (e k : ℕ) (vs : List TypedName) (scope : Scope) → drop (length vs) (scope_with e k vs scope) ≡ scope
scope_left e k [] scope = refl
scope_left e k (v ∷ vs) scope =
    behind (length vs) (scope_with e (suc k) vs ((v.name.name, fresh_name e k) ∷ scope)) (v.name.name, fresh_name e k) scope
    (scope_left e (suc k) vs ((v.name.name, fresh_name e k) ∷ scope))

-- ---- conditions

abbrev pub cond_list : Conds → List Cond
cond_list no_conds = []
cond_list (more_conds c cs) = c ∷ cond_list cs

conds_back : (cs : Conds) → conds_of (cond_list cs) ≡ cs
conds_back no_conds = refl
conds_back (more_conds c cs) = ap (more_conds c) (conds_back cs)

pub record CondsSoFar (start now : Renamer) (items : List Cond) (i : ℕ) (copy : List Cond) : Type 0 where
  pub event : now.event ≡ start.event
  pub scope : now.scope ≡ start.scope
  pub made : copy ++ cond_list (renamed_conds now.event now.scope now.next (conds_of (drop i items))) ≡ cond_list (renamed_conds start.event start.scope start.next (conds_of items))
  pub count : now.next + bindings_among (conds_of (drop i items)) ≡ start.next + bindings_among (conds_of items)

abbrev pub past : Renamer → ℕ → Renamer
past now n = record now { next = now.next + n }

pub conds_begin : (start : Renamer) (items : List Cond) → CondsSoFar start start items 0 []
conds_begin start items = record { event = refl; scope = refl; made = refl; count = refl }

conds_core :
    (start now : Renamer) (items : List Cond) (i : ℕ) (x : Cond) (copy : List Cond) → i < length items → x ≡ get_or items i x
    → CondsSoFar start now items i copy → CondsSoFar start (past now (bindings_in x)) items (suc i) (copy ++ renamed_cond now.event now.scope now.next x ∷ [])
conds_core start now items i x copy h m inv = record {
  event = inv.event;
  scope = inv.scope;
  made = one_done copy _ (renamed_cond now.event now.scope now.next x) _ _ inv.made
      (ap (λ xs. cond_list (renamed_conds now.event now.scope now.next (conds_of xs))) (front items i x h m));
  count = let e : bindings_among (conds_of (drop i items)) ≡ bindings_in x + bindings_among (conds_of (drop (suc i) items)) = ap (λ xs. bindings_among (conds_of xs)) (front items i x h m) in
      omega (arith, inv.count, e);
}

pub conds_step :
    (start now next : Renamer) (items : List Cond) (i : ℕ) (x y : Cond) (copy : List Cond) → i < length items → x ≡ get_or items i x
    → CondsSoFar start now items i copy → y ≡ renamed_cond now.event now.scope now.next x → next ≡ past now (bindings_in x)
    → CondsSoFar start next items (suc i) (copy ++ y ∷ [])
conds_step start now next items i x y copy h m inv y_is next_is =
    subst (λ r. CondsSoFar start r items (suc i) (copy ++ y ∷ [])) (sym next_is)
    (subst (λ v. CondsSoFar start (past now (bindings_in x)) items (suc i) (copy ++ v ∷ [])) (sym y_is) (conds_core start now items i x copy h m inv))

pub conds_done : (start now : Renamer) (items : List Cond) (i : ℕ) (copy : List Cond) → length items ≤ i
    → CondsSoFar start now items i copy → conds_of copy ≡ renamed_conds start.event start.scope start.next (conds_of items)
conds_done start now items i copy h inv =
    ap conds_of (all_done copy _ _ inv.made (ap (λ xs. cond_list (renamed_conds now.event now.scope now.next (conds_of xs))) (drop_all i items h)))
    ∙ conds_back _

pub conds_after : (start now : Renamer) (items : List Cond) (i : ℕ) (copy : List Cond) → length items ≤ i → CondsSoFar start now items i copy
    → now ≡ past start (bindings_among (conds_of items))
conds_after start now items i copy h inv =
    let none : bindings_among (conds_of (drop i items)) ≡ 0 = ap (λ xs. bindings_among (conds_of xs)) (drop_all i items h) in
    let n : now.next ≡ start.next + bindings_among (conds_of items) = omega (arith, inv.count, none) in
    λ j. record { event = inv.event j; next = n j; scope = inv.scope j }

pub ruleset conds = (conds_begin, conds_step, conds_done, conds_after, scope_left)

-- ---- effects

abbrev pub effect_list : Effects → List Effect
effect_list no_effects = []
effect_list (more_effects e es) = e ∷ effect_list es

effects_back : (es : Effects) → effects_of (effect_list es) ≡ es
effects_back no_effects = refl
effects_back (more_effects e es) = ap (more_effects e) (effects_back es)

pub record EffectsSoFar (start now : Renamer) (items : List Effect) (i : ℕ) (copy : List Effect) : Type 0 where
  pub event : now.event ≡ start.event
  pub scope : now.scope ≡ start.scope
  pub made : copy ++ effect_list (renamed_effects now.event now.scope now.next (effects_of (drop i items))) ≡ effect_list (renamed_effects start.event start.scope start.next (effects_of items))
  pub count : now.next + effects_bindings (effects_of (drop i items)) ≡ start.next + effects_bindings (effects_of items)

pub effects_begin : (start : Renamer) (items : List Effect) → EffectsSoFar start start items 0 []
effects_begin start items = record { event = refl; scope = refl; made = refl; count = refl }

effects_core :
    (start now : Renamer) (items : List Effect) (i : ℕ) (x : Effect) (copy : List Effect) → i < length items → x ≡ get_or items i x
    → EffectsSoFar start now items i copy → EffectsSoFar start (past now (effect_bindings x)) items (suc i) (copy ++ renamed_effect now.event now.scope now.next x ∷ [])
effects_core start now items i x copy h m inv = record {
  event = inv.event;
  scope = inv.scope;
  made = one_done copy _ (renamed_effect now.event now.scope now.next x) _ _ inv.made
      (ap (λ xs. effect_list (renamed_effects now.event now.scope now.next (effects_of xs))) (front items i x h m));
  count = let e : effects_bindings (effects_of (drop i items)) ≡ effect_bindings x + effects_bindings (effects_of (drop (suc i) items)) = ap (λ xs. effects_bindings (effects_of xs)) (front items i x h m) in
      omega (arith, inv.count, e);
}

pub effects_step :
    (start now next : Renamer) (items : List Effect) (i : ℕ) (x y : Effect) (copy : List Effect) → i < length items → x ≡ get_or items i x
    → EffectsSoFar start now items i copy → y ≡ renamed_effect now.event now.scope now.next x → next ≡ past now (effect_bindings x)
    → EffectsSoFar start next items (suc i) (copy ++ y ∷ [])
effects_step start now next items i x y copy h m inv y_is next_is =
    subst (λ r. EffectsSoFar start r items (suc i) (copy ++ y ∷ [])) (sym next_is)
    (subst (λ v. EffectsSoFar start (past now (effect_bindings x)) items (suc i) (copy ++ v ∷ [])) (sym y_is) (effects_core start now items i x copy h m inv))

pub effects_done : (start now : Renamer) (items : List Effect) (i : ℕ) (copy : List Effect) → length items ≤ i
    → EffectsSoFar start now items i copy → effects_of copy ≡ renamed_effects start.event start.scope start.next (effects_of items)
effects_done start now items i copy h inv =
    ap effects_of (all_done copy _ _ inv.made (ap (λ xs. effect_list (renamed_effects now.event now.scope now.next (effects_of xs))) (drop_all i items h)))
    ∙ effects_back _

pub effects_after : (start now : Renamer) (items : List Effect) (i : ℕ) (copy : List Effect) → length items ≤ i → EffectsSoFar start now items i copy
    → now ≡ past start (effects_bindings (effects_of items))
effects_after start now items i copy h inv =
    let none : effects_bindings (effects_of (drop i items)) ≡ 0 = ap (λ xs. effects_bindings (effects_of xs)) (drop_all i items h) in
    let n : now.next ≡ start.next + effects_bindings (effects_of items) = omega (arith, inv.count, none) in
    λ j. record { event = inv.event j; next = n j; scope = inv.scope j }

pub ruleset effects = (effects_begin, effects_step, effects_done, effects_after, scope_left)
