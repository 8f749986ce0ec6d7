-- What is found in forms that are looked at one after the other.
use Rattle.std.specs.Prelude.{◌≡◌, ℕ, suc, ◌+◌, ◌<◌, ◌≤◌, min, List, [], ◌∷◌, ◌++◌, length, take, drop, get_or, refl, Option, Some, None, slice_get}
use Rattle.std.specs.List.{flat_map}
use Rattle.std.proofs.lemmas.List.{drop_all}
use Rattle.std.proofs.Common.{ap, sym, ◌∙◌, subst, arith, drop-cons, add-one}
use Rattle.plus_tree.specs.declared.terms.TypedName.{TypedName}
use Rattle.plus_tree.specs.declared.trees.Head.{Head}
use Rattle.plus_tree.specs.declared.trees.Schema.{Schema}
use Rattle.plus_tree.specs.Cond.{Cond, conds_of}
use Rattle.plus_tree.specs.Effect.{Effect, effects_of}
use Rattle.plus_types.specs.declared.faults.File.{File}
use Rattle.plus_translation.specs.Names.{Place, taken_name, taken_list, taken_in, taken_among, taken_in_effect, taken_in_effects, taken_head, taken_schema, taken_action}
use Rattle.plus_translate.specs.Found.{first_of}

pub front_of : (name : List ℕ) → take (min (length name) 3) name ≡ take 3 name
front_of [] = refl
front_of (a ∷ []) = refl
front_of (a ∷ b ∷ []) = refl
front_of (a ∷ b ∷ c ∷ more) = ap (λ n. take n (a ∷ b ∷ c ∷ more)) (let e : min (length (a ∷ b ∷ c ∷ more)) 3 ≡ 3 = omega arith in e)

-- one form after the other
pub first_of-append : (o : Option Place) (xs ys : List Place) → first_of (first_of o xs) ys ≡ first_of o (xs ++ ys)
first_of-append (Some p) xs ys = refl
first_of-append None [] ys = refl
first_of-append None (x ∷ xs) ys = refl

-- nothing more is found
pub first_of-nil : (o : Option Place) → first_of o [] ≡ o
first_of-nil (Some p) = refl
first_of-nil None = refl

pub first_of-none : (xs : List Place) → first_of None xs ≡ slice_get xs 0
first_of-none [] = refl
first_of-none (x ∷ xs) = refl

pub ruleset joined = (first_of-append, first_of-nil, first_of-none)

-- what is found so far, and what is left to look at, make the whole
pub record Looked (found whole : Option Place) (left : List Place) : Type 0 where
  pub whole_is : first_of found left ≡ whole

front : {A : Type 0} (xs : List A) (i : ℕ) (x : A) → i < length xs → x ≡ get_or xs i x → drop i xs ≡ x ∷ drop (suc i) xs
front xs i x h m = drop-cons xs i x h ∙ ap (λ y. y ∷ drop (suc i) xs) (sym m)

step : {A : Type 0} (f : A → List Place) (F : List A → List Place) → ((x : A) (xs : List A) → F (x ∷ xs) ≡ f x ++ F xs)
    → (xs : List A) (i : ℕ) (x : A) (found new whole : Option Place) → i < length xs → x ≡ get_or xs i x
    → Looked found whole (F (drop i xs)) → new ≡ first_of found (f x) → Looked new whole (F (drop (suc i) xs))
step f F law xs i x found new whole h m k e = record {
  whole_is = ap (λ o. first_of o (F (drop (suc i) xs))) e ∙ first_of-append found (f x) (F (drop (suc i) xs))
      ∙ ap (first_of found) (sym (ap F (front xs i x h m) ∙ law x (drop (suc i) xs))) ∙ k.whole_is;
}

ended : {A : Type 0} (F : List A → List Place) → F [] ≡ [] → (xs : List A) (i : ℕ) (found whole : Option Place) → length xs ≤ i
    → Looked found whole (F (drop i xs)) → found ≡ whole
ended F none xs i found whole h k = sym (first_of-nil found) ∙ ap (first_of found) (sym (ap F (drop_all i xs h) ∙ none)) ∙ k.whole_is

-- lists
pub lists_begin : (file : File) (xs : List TypedName) (found : Option Place) → Looked found (first_of found (taken_list file xs)) (taken_list file xs)
lists_begin file xs found = record { whole_is = refl }

pub lists_step :
    (file : File) (xs : List TypedName) (i : ℕ) (x : TypedName) (found new whole : Option Place) → i < length xs → x ≡ get_or xs i x
    → Looked found whole (taken_list file (drop i xs)) → new ≡ first_of found (taken_name file x.name) → Looked new whole (taken_list file (drop (suc i) xs))
lists_step file xs i x found new whole h m k e = step (λ v. taken_name file v.name) (taken_list file) (λ x xs. refl) xs i x found new whole h m k e

pub lists_end : (file : File) (xs : List TypedName) (i : ℕ) (found whole : Option Place) → length xs ≤ i → Looked found whole (taken_list file (drop i xs)) → found ≡ whole
lists_end file xs i found whole h k = ended (taken_list file) refl xs i found whole h k

pub ruleset in_lists = (first_of-append, first_of-nil, lists_begin, lists_step, lists_end)

-- conds
pub conds_begin : (file : File) (xs : List Cond) (found : Option Place) → Looked found (first_of found (taken_among file (conds_of xs))) (taken_among file (conds_of xs))
conds_begin file xs found = record { whole_is = refl }

pub conds_step :
    (file : File) (xs : List Cond) (i : ℕ) (x : Cond) (found new whole : Option Place) → i < length xs → x ≡ get_or xs i x
    → Looked found whole (taken_among file (conds_of (drop i xs))) → new ≡ first_of found (taken_in file x) → Looked new whole (taken_among file (conds_of (drop (suc i) xs)))
conds_step file xs i x found new whole h m k e = step (taken_in file) (λ cs. taken_among file (conds_of cs)) (λ x xs. refl) xs i x found new whole h m k e

pub conds_end : (file : File) (xs : List Cond) (i : ℕ) (found whole : Option Place) → length xs ≤ i → Looked found whole (taken_among file (conds_of (drop i xs))) → found ≡ whole
conds_end file xs i found whole h k = ended (λ cs. taken_among file (conds_of cs)) refl xs i found whole h k

pub ruleset in_conds = (first_of-append, first_of-nil, conds_begin, conds_step, conds_end)

-- effects
pub effects_begin : (file : File) (xs : List Effect) (found : Option Place) → Looked found (first_of found (taken_in_effects file (effects_of xs))) (taken_in_effects file (effects_of xs))
effects_begin file xs found = record { whole_is = refl }

pub effects_step :
    (file : File) (xs : List Effect) (i : ℕ) (x : Effect) (found new whole : Option Place) → i < length xs → x ≡ get_or xs i x
    → Looked found whole (taken_in_effects file (effects_of (drop i xs))) → new ≡ first_of found (taken_in_effect file x) → Looked new whole (taken_in_effects file (effects_of (drop (suc i) xs)))
effects_step file xs i x found new whole h m k e = step (taken_in_effect file) (λ es. taken_in_effects file (effects_of es)) (λ x xs. refl) xs i x found new whole h m k e

pub effects_end : (file : File) (xs : List Effect) (i : ℕ) (found whole : Option Place) → length xs ≤ i → Looked found whole (taken_in_effects file (effects_of (drop i xs))) → found ≡ whole
effects_end file xs i found whole h k = ended (λ es. taken_in_effects file (effects_of es)) refl xs i found whole h k

pub ruleset in_effects = (first_of-append, first_of-nil, effects_begin, effects_step, effects_end)

-- heads
pub heads_begin : (xs : List Head) (found : Option Place) → Looked found (first_of found (flat_map taken_head xs)) (flat_map taken_head xs)
heads_begin xs found = record { whole_is = refl }

pub heads_step :
    (xs : List Head) (i : ℕ) (x : Head) (found new whole : Option Place) → i < length xs → x ≡ get_or xs i x
    → Looked found whole (flat_map taken_head (drop i xs)) → new ≡ first_of found (taken_head x) → Looked new whole (flat_map taken_head (drop (suc i) xs))
heads_step xs i x found new whole h m k e = step taken_head (flat_map taken_head) (λ x xs. refl) xs i x found new whole h m k e

pub heads_more :
    (xs : List Head) (i : ℕ) (x : Head) (found new whole : Option Place) → i < length xs → x ≡ get_or xs i x
    → Looked found whole (flat_map taken_head (drop i xs)) → new ≡ first_of found (taken_head x) → Looked new whole (flat_map taken_head (drop (i + 1) xs))
heads_more xs i x found new whole h m k e = subst (λ (j : ℕ). Looked new whole (flat_map taken_head (drop j xs))) (sym (add-one i)) (heads_step xs i x found new whole h m k e)

pub heads_end : (xs : List Head) (i : ℕ) (found whole : Option Place) → length xs ≤ i → Looked found whole (flat_map taken_head (drop i xs)) → found ≡ whole
heads_end xs i found whole h k = ended (flat_map taken_head) refl xs i found whole h k

pub ruleset in_heads = (first_of-append, first_of-nil, heads_begin, heads_step, heads_end)

-- schemas
pub schemas_begin : (xs : List Schema) (found : Option Place) → Looked found (first_of found (flat_map taken_schema xs)) (flat_map taken_schema xs)
schemas_begin xs found = record { whole_is = refl }

pub schemas_step :
    (xs : List Schema) (i : ℕ) (x : Schema) (found new whole : Option Place) → i < length xs → x ≡ get_or xs i x
    → Looked found whole (flat_map taken_schema (drop i xs)) → new ≡ first_of found (taken_schema x) → Looked new whole (flat_map taken_schema (drop (suc i) xs))
schemas_step xs i x found new whole h m k e = step taken_schema (flat_map taken_schema) (λ x xs. refl) xs i x found new whole h m k e

pub schemas_more :
    (xs : List Schema) (i : ℕ) (x : Schema) (found new whole : Option Place) → i < length xs → x ≡ get_or xs i x
    → Looked found whole (flat_map taken_schema (drop i xs)) → new ≡ first_of found (taken_schema x) → Looked new whole (flat_map taken_schema (drop (i + 1) xs))
schemas_more xs i x found new whole h m k e = subst (λ (j : ℕ). Looked new whole (flat_map taken_schema (drop j xs))) (sym (add-one i)) (schemas_step xs i x found new whole h m k e)

pub schemas_end : (xs : List Schema) (i : ℕ) (found whole : Option Place) → length xs ≤ i → Looked found whole (flat_map taken_schema (drop i xs)) → found ≡ whole
schemas_end xs i found whole h k = ended (flat_map taken_schema) refl xs i found whole h k

pub ruleset in_schemas = (first_of-append, first_of-nil, schemas_begin, schemas_step, schemas_end)

-- actions
pub actions_begin : (xs : List Schema) (found : Option Place) → Looked found (first_of found (flat_map taken_action xs)) (flat_map taken_action xs)
actions_begin xs found = record { whole_is = refl }

pub actions_step :
    (xs : List Schema) (i : ℕ) (x : Schema) (found new whole : Option Place) → i < length xs → x ≡ get_or xs i x
    → Looked found whole (flat_map taken_action (drop i xs)) → new ≡ first_of found (taken_action x) → Looked new whole (flat_map taken_action (drop (suc i) xs))
actions_step xs i x found new whole h m k e = step taken_action (flat_map taken_action) (λ x xs. refl) xs i x found new whole h m k e

pub actions_more :
    (xs : List Schema) (i : ℕ) (x : Schema) (found new whole : Option Place) → i < length xs → x ≡ get_or xs i x
    → Looked found whole (flat_map taken_action (drop i xs)) → new ≡ first_of found (taken_action x) → Looked new whole (flat_map taken_action (drop (i + 1) xs))
actions_more xs i x found new whole h m k e = subst (λ (j : ℕ). Looked new whole (flat_map taken_action (drop j xs))) (sym (add-one i)) (actions_step xs i x found new whole h m k e)

pub actions_end : (xs : List Schema) (i : ℕ) (found whole : Option Place) → length xs ≤ i → Looked found whole (flat_map taken_action (drop i xs)) → found ≡ whole
actions_end xs i found whole h k = ended (flat_map taken_action) refl xs i found whole h k

pub ruleset in_actions = (first_of-append, first_of-nil, actions_begin, actions_step, actions_end)
