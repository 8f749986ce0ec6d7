-- The mark of an event's instance has the place of the instance among all.
use Rattle.std.proofs.Common.{◌≡◌, ℕ, suc, ◌<◌, ◌≤◌, ◌+◌, Bool, true, false, not, cond, ◌&&◌, ◌||◌, List, [], ◌∷◌, ◌++◌, map, length, refl, ap, ap₂, sym, subst, ◌∙◌, arith, append_assoc, append-nil, length-append, flat_map, All, nat_eq, get_or}
use Rattle.std.specs.Prelude.{codes}
use Rattle.std.proofs.lemmas.List.{append_cancel_left}
use Rattle.std.specs.List.{list_any, position_or_len}
use Rattle.std.specs.Str.{bytes_eq}
use Rattle.std.proofs.lemmas.List.{map-append}
use Rattle.std.proofs.lemmas.List.Elements.{All-nil, All-cons, All-weaker}
use Rattle.std.proofs.lemmas.List.Folds.{list_any-append}
use Rattle.std.proofs.lemmas.Grind.{flat_map-append}
use Rattle.std.proofs.lemmas.Bool.Decides.{nat_tests}
use Rattle.plus_tree.specs.declared.terms.TypedName.{TypedName}
use Rattle.plus_tree.specs.declared.trees.Head.{Head}
use Rattle.plus_tree.specs.declared.trees.Schema.{Schema}
use Rattle.plus_types.specs.Faults.{Context}
use Rattle.plus_types.proofs.TypesLemmas.{bytes-self, same-bytes}
use Rattle.plus_expansion.specs.Objects.{members_of, extents_of, tuples}
use Rattle.plus_expansion.specs.Numbers.{ground_names_from, ground_names, is_same, head_names, number_of}
use Rattle.plus_expansion.proofs.ObjectsLemmas.{Rises, rises-places}
use Rattle.plus_expansion.proofs.Places.{any-begun, any-blocks, place-here, place-there}
use Rattle.plus_expansion.proofs.GroundNames.{own, length-own, ground-here, ground-other, ground-none, length-names}
use Rattle.plus_expansion.specs.Environments.{Environment, environments, bound_object}
use Rattle.plus_expansion.proofs.Members.{all-flat}
use Rattle.plus_translation.specs.Renamed.{numeral, fresh_name, renamed_list}
use Rattle.plus_translation.specs.Translated.{mark_name, mark_heads}
use Rattle.plus_translation.proofs.Numbers.{ground_names_more}
use Rattle.plus_translation.proofs.Names.{fresh_apart, numeral_injective}
use Rattle.plus_translation.proofs.Meant.{bound-last}

-- ---- each of several has the next number
abbrev pub Indexed : {X : Type 0} → (X → ℕ) → ℕ → List X → Type 0
Indexed f n [] = Unit {0}
Indexed f n (x ∷ xs) = (f x ≡ n) × Indexed f (suc n) xs

-- ---- no list stands twice among tuples
abbrev pub Placed : List (List ℕ) → List (List ℕ) → Type 0
Placed pre [] = Unit {0}
Placed pre (t ∷ ts) = (list_any (bytes_eq t) pre ≡ false) × Placed (pre ++ t ∷ []) ts

nowhere : {X : Type 0} (p : X → Bool) (xs : List X) → list_any p xs ≡ false → position_or_len p xs ≡ length xs
nowhere p [] e = refl
nowhere p (x ∷ xs) e = by (p x) e (nowhere p xs)
  where
    by : (b : Bool) → (b || list_any p xs) ≡ false → (list_any p xs ≡ false → position_or_len p xs ≡ length xs) → cond (not b) (1 + position_or_len p xs) 0 ≡ length (x ∷ xs)
    by true f more = cc
    by false f more = let h = more f in omega (arith, h)

pub placed_indexed : (pre ts whole : List (List ℕ)) → Placed pre ts → whole ≡ pre ++ ts → Indexed (λ t. position_or_len (bytes_eq t) whole) (length pre) ts
placed_indexed pre [] whole p e = tt
placed_indexed pre (t ∷ ts) whole p e =
    let there : position_or_len (bytes_eq t) (pre ++ t ∷ ts) ≡ length pre + position_or_len (bytes_eq t) (t ∷ ts) = place-there (bytes_eq t) pre (t ∷ ts) (nowhere (bytes_eq t) pre p.0) in
    let here : position_or_len (bytes_eq t) (t ∷ ts) ≡ 0 = ap (λ b. cond (not b) (1 + position_or_len (bytes_eq t) ts) 0) (bytes-self t) in
    let long : length (pre ++ t ∷ []) ≡ suc (length pre) = omega (arith, length-append pre (t ∷ [])) in (
      ap (position_or_len (bytes_eq t)) e ∙ omega (arith, there, here),
      subst (λ (n : ℕ). Indexed (λ t. position_or_len (bytes_eq t) whole) n ts) long (placed_indexed (pre ++ t ∷ []) ts whole p.1 (e ∙ sym (append_assoc pre (t ∷ []) ts))),
    )

placed_append : (pre xs ys : List (List ℕ)) → Placed pre xs → Placed (pre ++ xs) ys → Placed pre (xs ++ ys)
placed_append pre [] ys p q = subst (λ z. Placed z ys) (append-nil pre) q
placed_append pre (x ∷ xs) ys p q = (p.0, placed_append (pre ++ x ∷ []) xs ys p.1 (subst (λ z. Placed z ys) (sym (append_assoc pre (x ∷ []) xs)) q))

abbrev blocks : List (List ℕ) → List ℕ → List (List ℕ)
blocks ts xs = flat_map (λ x. map (λ t. x ∷ t) ts) xs

-- no object stands twice
abbrev Apart : List ℕ → List ℕ → Type 0
Apart done [] = Unit {0}
Apart done (x ∷ xs) = (list_any (nat_eq x) done ≡ false) × Apart (done ++ x ∷ []) xs

and_false : (b : Bool) → b && false ≡ false
and_false true = refl
and_false false = refl

block_placed : (x : ℕ) (pre done ts : List (List ℕ)) → ((t : List ℕ) → list_any (bytes_eq (x ∷ t)) pre ≡ false) → Placed done ts → Placed (pre ++ map (λ t. x ∷ t) done) (map (λ t. x ∷ t) ts)
block_placed x pre done [] h p = tt
block_placed x pre done (t ∷ ts) h p = (
  list_any-append (bytes_eq (x ∷ t)) pre (map (λ t. x ∷ t) done)
      ∙ ap₂ (λ a b. a || b) (h t) (any-begun x x t done ∙ ap (λ b. nat_eq x x && b) p.0 ∙ and_false (nat_eq x x)),
  subst (λ z. Placed z (map (λ t. x ∷ t) ts)) (ap (λ z. pre ++ z) (map-append (λ t. x ∷ t) done (t ∷ [])) ∙ sym (append_assoc pre (map (λ t. x ∷ t) done) ((x ∷ t) ∷ [])))
      (block_placed x pre (done ++ t ∷ []) ts h p.1),
)

blocks_placed : (ts : List (List ℕ)) → Placed [] ts → (done xs : List ℕ) → Apart done xs → Placed (blocks ts done) (blocks ts xs)
blocks_placed ts p done [] a = tt
blocks_placed ts p done (x ∷ xs) a =
    placed_append (blocks ts done) (map (λ t. x ∷ t) ts) (blocks ts xs)
    (subst (λ z. Placed z (map (λ t. x ∷ t) ts)) (append-nil (blocks ts done))
    (block_placed x (blocks ts done) [] ts (λ t. any-blocks x t done ts ∙ ap (λ b. b && list_any (bytes_eq t) ts) a.0) p))
    (subst (λ z. Placed z (blocks ts xs)) (flat_map-append (λ y. map (λ t. y ∷ t) ts) done (x ∷ []) ∙ ap (λ z. blocks ts done ++ z) (append-nil (map (λ t. x ∷ t) ts)))
    (blocks_placed ts p (done ++ x ∷ []) xs a.1))

abbrev AllApart : List (List ℕ) → Type 0
AllApart [] = Unit {0}
AllApart (xs ∷ xss) = Apart [] xs × AllApart xss

pub tuples_placed : (xss : List (List ℕ)) → AllApart xss → Placed [] (tuples xss)
tuples_placed [] a = (refl, tt)
tuples_placed (xs ∷ xss) a = blocks_placed (tuples xss) (tuples_placed xss a.1) [] xs a.0

apart_by : (n : ℕ) (done xs : List ℕ) → ((y : ℕ) → n ≤ y → list_any (nat_eq y) done ≡ false) → Rises n xs → Apart done xs
apart_by n done [] h r = tt
apart_by n done (x ∷ xs) h r = (
  h x r.0,
  apart_by (suc x) (done ++ x ∷ []) xs (λ y l.
      list_any-append (nat_eq y) done (x ∷ []) ∙ ap₂ (λ a b. a || b) (h y (let k = r.0 in omega arith)) (ap (λ b. b || false) (above y x l))) r.1,
)
  where
    above : (y x : ℕ) → suc x ≤ y → nat_eq y x ≡ false
    above y x l = grind (arith, nat_tests)

pub extents_apart : (c : Context) (params : List TypedName) → AllApart (extents_of c params)
extents_apart c [] = tt
extents_apart c (p ∷ params) = (apart_by 0 [] (members_of c p.kind.name) (λ y l. refl) (rises-places c.types p.kind.name 0 c.objects), extents_apart c params)

-- ---- the objects of environments are the tuples
abbrev pub objects : Environment → List ℕ
objects env = map (λ b. b.1) env

map_map : {X Y Z : Type 0} (g : Y → Z) (f : X → Y) (xs : List X) → map g (map f xs) ≡ map (λ x. g (f x)) xs
map_map g f [] = refl
map_map g f (x ∷ xs) = ap (λ ys. g (f x) ∷ ys) (map_map g f xs)

map_flat : {X Y Z : Type 0} (f : Y → Z) (g : X → List Y) (xs : List X) → map f (flat_map g xs) ≡ flat_map (λ x. map f (g x)) xs
map_flat f g [] = refl
map_flat f g (x ∷ xs) = map-append f (g x) (flat_map g xs) ∙ ap (λ ys. map f (g x) ++ ys) (map_flat f g xs)

flat_alike : {X Y : Type 0} (f g : X → List Y) (xs : List X) → ((x : X) → f x ≡ g x) → flat_map f xs ≡ flat_map g xs
flat_alike f g [] h = refl
flat_alike f g (x ∷ xs) h = ap₂ (λ a b. a ++ b) (h x) (flat_alike f g xs h)

map_alike : {X Y : Type 0} (f g : X → Y) (xs : List X) → ((x : X) → f x ≡ g x) → map f xs ≡ map g xs
map_alike f g [] h = refl
map_alike f g (x ∷ xs) h = ap₂ (λ a b. a ∷ b) (h x) (map_alike f g xs h)

pub environments_objects : (c : Context) (vs : List TypedName) (env : Environment) → map objects (environments c vs env) ≡ map (λ t. objects env ++ t) (tuples (extents_of c vs))
environments_objects c [] env = ap (λ xs. xs ∷ []) (sym (append-nil (objects env)))
environments_objects c (v ∷ vs) env =
    map_flat objects (λ o. environments c vs (env ++ (v.name.name, o) ∷ [])) (members_of c v.kind.name)
    ∙ flat_alike (λ o. map objects (environments c vs (env ++ (v.name.name, o) ∷ []))) (λ o. map (λ t. objects env ++ t) (map (λ t. o ∷ t) (tuples (extents_of c vs)))) (members_of c v.kind.name)
    (λ o. environments_objects c vs (env ++ (v.name.name, o) ∷ [])
    ∙ map_alike (λ t. objects (env ++ (v.name.name, o) ∷ []) ++ t) (λ t. objects env ++ (o ∷ t)) (tuples (extents_of c vs))
    (λ t. ap (λ z. z ++ t) (map-append (λ b. b.1) env ((v.name.name, o) ∷ [])) ∙ append_assoc (objects env) (o ∷ []) t)
    ∙ sym (map_map (λ t. objects env ++ t) (λ t. o ∷ t) (tuples (extents_of c vs))))
    ∙ sym (map_flat (λ t. objects env ++ t) (λ o. map (λ t. o ∷ t) (tuples (extents_of c vs))) (members_of c v.kind.name))

pub indexed_map : {X Y : Type 0} (g : X → Y) (f : Y → ℕ) (n : ℕ) (xs : List X) (ys : List Y) → map g xs ≡ ys → Indexed f n ys → Indexed (λ x. f (g x)) n xs
indexed_map g f n xs ys e h = by xs n (subst (Indexed f n) (sym e) h)
  where
    by : (xs : List _) (n : ℕ) → Indexed f n (map g xs) → Indexed (λ x. f (g x)) n xs
    by [] n h = tt
    by (x ∷ xs) n h = (h.0, by xs (suc n) h.1)

pub map_self : (ts : List (List ℕ)) → map (λ t. [] ++ t) ts ≡ ts
map_self [] = refl
map_self (t ∷ ts) = ap (λ xs. t ∷ xs) (map_self ts)

-- ---- the objects of the variables of a mark
pub all_both : {X : Type 0} (P Q : X → Type 0) (xs : List X) → All P xs → All Q xs → All (λ x. P x × Q x) xs
all_both P Q xs a b = λ k d h. (a k d h, b k d h)

keep_all : (c : Context) (Keeps : Environment → Type 0) (i from : ℕ) → ((e : Environment) (m o : ℕ) → from ≤ m → Keeps e → Keeps (e ++ (fresh_name i m, o) ∷ [])) → (vs : List TypedName) (k : ℕ) (env : Environment) → from ≤ k → Keeps env → All Keeps (environments c (renamed_list i k vs) env)
keep_all c Keeps i from keep [] k env l p = All-cons Keeps env [] p (All-nil Keeps)
keep_all c Keeps i from keep (v ∷ vs) k env l p =
    all-flat Keeps (λ o. environments c (renamed_list i (suc k) vs) (env ++ (fresh_name i k, o) ∷ [])) (members_of c v.kind.name)
    (λ j o h. keep_all c Keeps i from keep vs (suc k) (env ++ (fresh_name i k, _) ∷ []) (omega arith) (keep env k _ l p))

module _ (c : Context) (none i : ℕ) where
  abbrev pub seen : Environment → List TypedName → List ℕ
  seen e vs = map (λ v. bound_object none e v.name.name) vs

  first_stays : (vs : List TypedName) (k o : ℕ) (env : Environment) → All (λ e. bound_object none e (fresh_name i k) ≡ o) (environments c (renamed_list i (suc k) vs) (env ++ (fresh_name i k, o) ∷ []))
  first_stays vs k o env =
      keep_all c (λ e. bound_object none e (fresh_name i k) ≡ o) i (suc k)
      (λ e m o' l p. bound-last none e (fresh_name i m) o' (fresh_name i k) ∙ ap (λ b. cond b o' (bound_object none e (fresh_name i k))) (fresh_apart i k m l) ∙ p)
      vs (suc k) (env ++ (fresh_name i k, o) ∷ []) (omega arith)
      (bound-last none env (fresh_name i k) o (fresh_name i k) ∙ ap (λ b. cond b o (bound_object none env (fresh_name i k))) (bytes-self (fresh_name i k)))

  pub seen_objects : (vs : List TypedName) (k : ℕ) (env : Environment) → All (λ e. objects e ≡ objects env ++ seen e (renamed_list i k vs)) (environments c (renamed_list i k vs) env)
  seen_objects [] k env = All-cons (λ e. objects e ≡ objects env ++ []) env [] (sym (append-nil (objects env))) (All-nil (λ e. objects e ≡ objects env ++ []))
  seen_objects (v ∷ vs) k env =
      all-flat (λ e. objects e ≡ objects env ++ seen e (renamed_list i k (v ∷ vs))) (λ o. environments c (renamed_list i (suc k) vs) (env ++ (fresh_name i k, o) ∷ [])) (members_of c v.kind.name)
      (λ j d h. each (get_or (members_of c v.kind.name) j d) (seen_objects vs (suc k) (env ++ (fresh_name i k, get_or (members_of c v.kind.name) j d) ∷ [])))
    where
      each : (o : ℕ) → All (λ e. objects e ≡ objects (env ++ (fresh_name i k, o) ∷ []) ++ seen e (renamed_list i (suc k) vs)) (environments c (renamed_list i (suc k) vs) (env ++ (fresh_name i k, o) ∷ []))
          → All (λ e. objects e ≡ objects env ++ seen e (renamed_list i k (v ∷ vs))) (environments c (renamed_list i (suc k) vs) (env ++ (fresh_name i k, o) ∷ []))
      each o later =
          All-weaker (λ e. (bound_object none e (fresh_name i k) ≡ o) × (objects e ≡ objects (env ++ (fresh_name i k, o) ∷ []) ++ seen e (renamed_list i (suc k) vs))) (λ e. objects e ≡ objects env ++ seen e (renamed_list i k (v ∷ vs)))
          (λ e p. p.1 ∙ ap (λ z. z ++ seen e (renamed_list i (suc k) vs)) (map-append (λ b. b.1) env ((fresh_name i k, o) ∷ [])) ∙ append_assoc (objects env) (o ∷ []) (seen e (renamed_list i (suc k) vs)) ∙ ap (λ x. objects env ++ (x ∷ seen e (renamed_list i (suc k) vs))) (sym p.0))
          (environments c (renamed_list i (suc k) vs) (env ++ (fresh_name i k, o) ∷ []))
          (all_both (λ e. bound_object none e (fresh_name i k) ≡ o) (λ e. objects e ≡ objects (env ++ (fresh_name i k, o) ∷ []) ++ seen e (renamed_list i (suc k) vs)) (environments c (renamed_list i (suc k) vs) (env ++ (fresh_name i k, o) ∷ [])) (first_stays vs k o env) later)

-- ---- the number of a mark
mark_injective : (j k : ℕ) → mark_name j ≡ mark_name k → j ≡ k
mark_injective j k e = numeral_injective j k (append_cancel_left (codes "pp-f") (numeral j) (numeral k) e)

marks_apart : (j k : ℕ) → (j ≡ k → ⊥) → bytes_eq (mark_name j) (mark_name k) ≡ false
marks_apart j k h = by (bytes_eq (mark_name j) (mark_name k)) refl
  where
    by : (b : Bool) → bytes_eq (mark_name j) (mark_name k) ≡ b → bytes_eq (mark_name j) (mark_name k) ≡ false
    by false e = e
    by true e = absurd (h (mark_injective j k (same-bytes (mark_name j) (mark_name k) e)))

-- how many instances the events before have
abbrev pub instances_before : Context → List Schema → ℕ
instances_before c [] = 0
instances_before c (a ∷ more) = length (tuples (extents_of c a.params)) + instances_before c more

name_place : (i : ℕ) (pre post : List Schema) (a : Schema) → position_or_len (bytes_eq (mark_name (i + length pre))) (head_names (mark_heads i (pre ++ a ∷ post))) ≡ length pre
name_place i [] post a =
    let i0 : i + 0 ≡ i = omega arith in
    ap (λ (k : ℕ). cond (not (bytes_eq (mark_name k) (mark_name i))) (1 + position_or_len (bytes_eq (mark_name k)) (head_names (mark_heads (suc i) post))) 0) i0
    ∙ ap (λ b. cond (not b) (1 + position_or_len (bytes_eq (mark_name i)) (head_names (mark_heads (suc i) post))) 0) (bytes-self (mark_name i))
name_place i (p ∷ pre) post a =
    let k : i + suc (length pre) ≡ suc i + length pre = omega arith in
    let one : 1 + length pre ≡ suc (length pre) = omega arith in
    ap (λ (n : ℕ). cond (not (bytes_eq (mark_name n) (mark_name i))) (1 + position_or_len (bytes_eq (mark_name n)) (head_names (mark_heads (suc i) (pre ++ a ∷ post)))) 0) k
    ∙ ap₂ (λ b n. cond (not b) (1 + n) 0) (marks_apart (suc i + length pre) i (λ e. absurd (omega arith))) (name_place (suc i) pre post a) ∙ one

module _ (c : Context) (place : List ℕ) where
  among_marks : (n i : ℕ) (pre post : List Schema) (a : Schema) → position_or_len (bytes_eq place) (tuples (extents_of c a.params)) < length (tuples (extents_of c a.params))
      → position_or_len (is_same (n + length pre, place)) (ground_names_from c n (mark_heads i (pre ++ a ∷ post))) ≡ instances_before c pre + position_or_len (bytes_eq place) (tuples (extents_of c a.params))
  among_marks n i [] post a h =
      let n0 : n + 0 ≡ n = omega arith in
      let ts = tuples (extents_of c a.params) in
      let z : position_or_len (bytes_eq place) ts ≡ 0 + position_or_len (bytes_eq place) ts = omega arith in
      let here = ground-here n place ts in
      let long = length-own n ts in
      ap (λ (k : ℕ). position_or_len (is_same (k, place)) (own n ts ++ ground_names_from c (suc n) (mark_heads (suc i) post))) n0
      ∙ place-here (is_same (n, place)) (own n ts) (ground_names_from c (suc n) (mark_heads (suc i) post)) (omega (arith, here, long, h)) ∙ here ∙ z
  among_marks n i (p ∷ pre) post a h =
      let k : n + suc (length pre) ≡ suc n + length pre = omega arith in
      let ts = tuples (extents_of c p.params) in
      let rest = ground_names_from c (suc n) (mark_heads (suc i) (pre ++ a ∷ post)) in
      let long = length-own n ts in
      let more = among_marks (suc n) (suc i) pre post a h in
      let before = place-there (is_same (suc n + length pre, place)) (own n ts) rest (ground-other (suc n + length pre) n place ts (λ e. absurd (omega arith))) in
      ap (λ (m : ℕ). position_or_len (is_same (m, place)) (own n ts ++ rest)) k ∙ omega (arith, before, long, more)

-- the number of a mark: behind the old atoms and the marks of the events before
pub mark_number : (c : Context) (old : List Head) (i : ℕ) (pre post : List Schema) (a : Schema) (place : List ℕ)
    → list_any (bytes_eq (mark_name (i + length pre))) (head_names old) ≡ false
    → position_or_len (bytes_eq place) (tuples (extents_of c a.params)) < length (tuples (extents_of c a.params))
    → number_of c (old ++ mark_heads i (pre ++ a ∷ post)) (mark_name (i + length pre)) place ≡ length (ground_names c old) + (instances_before c pre + position_or_len (bytes_eq place) (tuples (extents_of c a.params)))
mark_number c old i pre post a place new h =
    let name = mark_name (i + length pre) in
    let marks = mark_heads i (pre ++ a ∷ post) in
    let there = place-there (bytes_eq name) (head_names old) (head_names marks) (nowhere (bytes_eq name) (head_names old) new) in
    let long = length-names old in
    let inside = name_place i pre post a in
    let k : position_or_len (bytes_eq name) (head_names (old ++ marks)) ≡ 0 + length old + length pre = ap (position_or_len (bytes_eq name)) (map-append (λ (x : Head). x.name.name) old marks) ∙ omega (arith, there, long, inside) in
    let none = ground-none c 0 (0 + length old + length pre) old place (λ j l e. absurd (omega arith)) in
    let before = place-there (is_same (0 + length old + length pre, place)) (ground_names c old) (ground_names_from c (0 + length old) marks) none in
    let rest = among_marks c place (0 + length old) i pre post a h in
    ap₂ (λ (m : ℕ) xs. position_or_len (is_same (m, place)) xs) k (ground_names_more c c (record { types = refl; objects = refl }) old marks)
    ∙ before ∙ ap (λ (m : ℕ). length (ground_names c old) + m) rest
