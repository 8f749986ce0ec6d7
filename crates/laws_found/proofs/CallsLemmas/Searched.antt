-- The ground actions are the instances of all calls that name one, call by call, and no call stands twice.
use Rattle.std.proofs.Common.{◌≡◌, ◌⊎◌, inl, inr, ℕ, zero, suc, ◌≤◌, Bool, true, false, cond, ◌||◌, nat_eq, List, [], ◌∷◌, ◌++◌, map, Option, Some, None, slice_get, get_or, arith, refl, ap, sym, subst, ◌∙◌, append-nil, append_assoc}
use Rattle.std.specs.List.{list_any, flat_map, position_or_len}
use Rattle.std.specs.Str.{bytes_eq}
use Rattle.std.proofs.lemmas.List.{append_cancel_left}
use Rattle.std.proofs.lemmas.List.Folds.{flat_map-map}
use Rattle.std.proofs.lemmas.Grind.{flat_map-append}
use Rattle.std.proofs.lemmas.Bool.Decides.{Decides-eqb}
use Rattle.plus_model.specs.Terms.{Action}
use Rattle.plus_model.specs.Plan.{Instance}
use Rattle.plus_tree.specs.declared.terms.TypedName.{TypedName}
use Rattle.plus_tree.specs.declared.trees.Schema.{Schema}
use Rattle.plus_tree.specs.declared.trees.Domain.{Domain}
use Rattle.plus_tree.specs.declared.trees.Problem.{Problem}
use Rattle.plus_types.specs.Types.{Binding, bound_names, is_under}
use Rattle.plus_types.specs.Faults.{Context, problem_context, action_names}
use Rattle.plus_expansion.specs.Objects.{places_from, members_of, object_place, object_names}
use Rattle.plus_expansion.specs.Environments.{Environment}
use Rattle.plus_expansion.specs.Expansion.{action_meant}
use Rattle.plus_expansion.specs.Calls.{bound_by, called_in, called_by, called_of}
use Rattle.plus_actions.specs.Actions.{choices_from, instance_in, named_by}
use Rattle.plus_actions.proofs.NamesLemmas.{IsDistinct, NamesDiffer, names_differ, names_at}
use Rattle.plus_actions.proofs.MeantLemmas.{within, Picks, given, called_given}
use Rattle.plus_typing.specs.WellTyped.{IsWellTyped}
use Rattle.laws_found.specs.Calls.Searched.{CallName, calls_for, all_calls, Has, Differ, AreCallsOfGround}
use Rattle.laws_found.proofs.CallsLemmas.Called.{first_named, name_at, is_there, first_some}

-- ---- a member of a list, by its place

has_front : {X : Type 0} (xs ys : List X) (x : X) → Has xs x → Has (xs ++ ys) x
has_front [] ys x h = cc (h.1)
has_front (y ∷ xs) ys x (zero, e) = (zero, e)
has_front (y ∷ xs) ys x (suc k, e) = let m = has_front xs ys x (k, e) in (suc m.0, m.1)

has_back : {X : Type 0} (xs ys : List X) (x : X) → Has ys x → Has (xs ++ ys) x
has_back [] ys x h = h
has_back (y ∷ xs) ys x h = let m = has_back xs ys x h in (suc m.0, m.1)

has_flat : {X Y : Type 0} (f : X → List Y) (xs : List X) (x : X) (y : Y) → Has xs x → Has (f x) y → Has (flat_map f xs) y
has_flat f [] x y h g = cc (h.1)
has_flat f (z ∷ xs) x y (zero, e) g = has_front (f z) (flat_map f xs) y (subst (λ w. Has (f w) y) (let s : x ≡ z = cc e in s) g)
has_flat f (z ∷ xs) x y (suc k, e) g = has_back (f z) (flat_map f xs) y (has_flat f xs x y (k, e) g)

has_number : (o : ℕ) (xs : List ℕ) → list_any (nat_eq o) xs ≡ true → Has xs o
has_number o [] e = cc e
has_number o (x ∷ xs) e = by (nat_eq o x) refl e (has_number o xs)
  where
    by : (b : Bool) → nat_eq o x ≡ b → (b || list_any (nat_eq o) xs) ≡ true → (list_any (nat_eq o) xs ≡ true → Has xs o) → Has (x ∷ xs) o
    by true h f more = let s : o ≡ x = (Decides-eqb o x).0 h in (zero, ap Some (sym s))
    by false h f more = let m = more f in (suc m.0, m.1)

-- ---- the objects that have the names

abbrev places : Context → List (List ℕ) → List ℕ
places c args = map (object_place c) args

-- the objects of arguments that are bound are one of the choices, and their names are the arguments
record IsChoice (c : Context) (vs : List TypedName) (args : List (List ℕ)) (chosen : List ℕ) : Type 0 where
  among : Has (choices_from c vs chosen) (chosen ++ places c args)
  names : object_names c (places c args) ≡ args

chosen_by : (c : Context) (vs : List TypedName) (args : List (List ℕ)) (env out : Environment) (chosen : List ℕ) → bound_by c vs args env ≡ Some out → IsChoice c vs args chosen
chosen_by c [] [] env out chosen e = record { among = (zero, ap Some (sym (append-nil chosen))); names = refl }
chosen_by c [] (a ∷ more) env out chosen e = cc e
chosen_by c (v ∷ vs) [] env out chosen e = cc e
chosen_by c (v ∷ vs) (a ∷ more) env out chosen e =
    let o : ℕ = object_place c a in
    let inner : Environment = env ++ (v.name.name, o) ∷ [] in
    let f = first_some (list_any (nat_eq o) (members_of c v.kind.name)) (bound_by c vs more inner) out e in
    let rest = chosen_by c vs more inner out (chosen ++ o ∷ []) f.1 in
    let there = is_there c v.kind.name a f.0 in
    let tail : Has (choices_from c vs (chosen ++ o ∷ [])) (chosen ++ places c (a ∷ more)) =
    subst (Has (choices_from c vs (chosen ++ o ∷ []))) (append_assoc chosen (o ∷ []) (places c more)) rest.among in
    record {
      among = has_flat (λ (x : ℕ). choices_from c vs (chosen ++ x ∷ [])) (members_of c v.kind.name) o (chosen ++ places c (a ∷ more)) (has_number o (members_of c v.kind.name) f.0) tail;
      names = ap (λ (n : List ℕ). n ∷ object_names c (places c more)) (name_at a (bound_names c.objects) [] there) ∙ ap (λ (ns : List (List ℕ)). a ∷ ns) rest.names;
    }

-- ---- members

from_append : {X : Type 0} (xs ys : List X) (x : X) → Has (xs ++ ys) x → Has xs x ⊎ Has ys x
from_append [] ys x h = inr h
from_append (z ∷ xs) ys x (zero, e) = inl (zero, e)
from_append (z ∷ xs) ys x (suc k, e) = by (from_append xs ys x (k, e))
  where
    by : Has xs x ⊎ Has ys x → Has (z ∷ xs) x ⊎ Has ys x
    by (inl h) = inl (suc h.0, h.1)
    by (inr h) = inr h

from_flat : {X Y : Type 0} (f : X → List Y) (xs : List X) (y : Y) → Has (flat_map f xs) y → (x : X) × Has xs x × Has (f x) y
from_flat f [] y h = cc (h.1)
from_flat f (x ∷ xs) y h = by (from_append (f x) (flat_map f xs) y h) (from_flat f xs y)
  where
    by : Has (f x) y ⊎ Has (flat_map f xs) y → (Has (flat_map f xs) y → (z : _) × Has xs z × Has (f z) y) → (z : _) × Has (x ∷ xs) z × Has (f z) y
    by (inl g) more = (x, (zero, refl), g)
    by (inr g) more = let m = more g in (m.0, (suc m.1.0, m.1.1), m.2)

from_map : {X Y : Type 0} (f : X → Y) (xs : List X) (y : Y) → Has (map f xs) y → (x : X) × Has xs x × (f x ≡ y)
from_map f [] y h = cc (h.1)
from_map f (x ∷ xs) y (zero, e) = (x, (zero, refl), let s : f x ≡ y = cc e in s)
from_map f (x ∷ xs) y (suc k, e) = let m = from_map f xs y (k, e) in (m.0, (suc m.1.0, m.1.1), m.2)

has_map : {X Y : Type 0} (f : X → Y) (xs : List X) (x : X) → Has xs x → Has (map f xs) (f x)
has_map f [] x h = cc (h.1)
has_map f (z ∷ xs) x (zero, e) = (zero, ap (λ w. Some (f w)) (let s : z ≡ x = cc e in s))
has_map f (z ∷ xs) x (suc k, e) = let m = has_map f xs x (k, e) in (suc m.0, m.1)

number_has : (o : ℕ) (xs : List ℕ) → Has xs o → list_any (nat_eq o) xs ≡ true
number_has o [] h = cc (h.1)
number_has o (x ∷ xs) (zero, e) = let s : x ≡ o = cc e in let t : nat_eq o x ≡ true = (Decides-eqb o x).1 (sym s) in ap (λ b. b || list_any (nat_eq o) xs) t
number_has o (x ∷ xs) (suc k, e) = by (nat_eq o x) (number_has o xs (k, e))
  where
    by : (b : Bool) → list_any (nat_eq o) xs ≡ true → (b || list_any (nat_eq o) xs) ≡ true
    by true h = refl
    by false h = h

-- ---- no member twice

differ_append : {X : Type 0} (xs ys : List X) → Differ xs → Differ ys → ((x : X) → Has xs x → Has ys x → ⊥) → Differ (xs ++ ys)
differ_append [] ys d e n = e
differ_append (x ∷ xs) ys d e n = (λ h. by (from_append xs ys x h), differ_append xs ys d.1 e (λ z h g. n z (suc h.0, h.1) g))
  where
    by : Has xs x ⊎ Has ys x → ⊥
    by (inl h) = d.0 h
    by (inr h) = n x (zero, refl) h

differ_map : {X Y : Type 0} (f : X → Y) (xs : List X) → Differ xs → ((x z : X) → Has xs x → Has xs z → f x ≡ f z → x ≡ z) → Differ (map f xs)
differ_map f [] d i = tt
differ_map f (x ∷ xs) d i = (
  λ h. (let m = from_map f xs (f x) h in d.0 (subst (Has xs) (i m.0 x (suc m.1.0, m.1.1) (zero, refl) m.2) m.1)),
  differ_map f xs d.1 (λ y z h g. i y z (suc h.0, h.1) (suc g.0, g.1)),
)

differ_flat :
    {X Y : Type 0} (f : X → List Y) (xs : List X) → Differ xs → ((x : X) → Has xs x → Differ (f x))
    → ((x z : X) (y : Y) → Has xs x → Has xs z → Has (f x) y → Has (f z) y → x ≡ z) → Differ (flat_map f xs)
differ_flat f [] d e i = tt
differ_flat f (x ∷ xs) d e i =
    differ_append (f x) (flat_map f xs) (e x (zero, refl)) (differ_flat f xs d.1 (λ z h. e z (suc h.0, h.1)) (λ y z w h g. i y z w (suc h.0, h.1) (suc g.0, g.1)))
    (λ y h g. (let m = from_flat f xs y g in d.0 (subst (Has xs) (i m.0 x y (suc m.1.0, m.1.1) (zero, refl) m.2 h) m.1)))

rising : (types : List Binding) (kind : List ℕ) (n : ℕ) (os : List Binding) (o : ℕ) → Has (places_from types kind n os) o → n ≤ o
rising types kind n [] o h = cc (h.1)
rising types kind n (x ∷ xs) o h = by (is_under types x.1 kind) h (rising types kind (suc n) xs o)
  where
    first : Has (n ∷ places_from types kind (suc n) xs) o → (Has (places_from types kind (suc n) xs) o → suc n ≤ o) → n ≤ o
    first (zero, e) more = let s : n ≡ o = cc e in omega (arith, s)
    first (suc k, e) more = let l = more (k, e) in omega (arith, l)

    by : (b : Bool) → Has (cond b (n ∷ places_from types kind (suc n) xs) (places_from types kind (suc n) xs)) o → (Has (places_from types kind (suc n) xs) o → suc n ≤ o) → n ≤ o
    by true g more = first g more
    by false g more = let l = more g in omega (arith, l)

members_differ : (types : List Binding) (kind : List ℕ) (n : ℕ) (os : List Binding) → Differ (places_from types kind n os)
members_differ types kind n [] = tt
members_differ types kind n (x ∷ xs) = by (is_under types x.1 kind) (members_differ types kind (suc n) xs)
  where
    by : (b : Bool) → Differ (places_from types kind (suc n) xs) → Differ (cond b (n ∷ places_from types kind (suc n) xs) (places_from types kind (suc n) xs))
    by true d = (λ h. (let l = rising types kind (suc n) xs n h in absurd (omega (arith, l))), d)
    by false d = d

-- ---- choices

record IsPick (c : Context) (vs : List TypedName) (chosen y : List ℕ) : Type 0 where
  picked : List ℕ
  is : y ≡ chosen ++ picked
  picks : Picks c vs picked

pick_first : (c : Context) (v : TypedName) (vs : List TypedName) (chosen y : List ℕ) (o : ℕ) → Has (members_of c v.kind.name) o → IsPick c vs (chosen ++ o ∷ []) y → IsPick c (v ∷ vs) chosen y
pick_first c v vs chosen y o h p = record {
  picked = o ∷ p.picked;
  is = p.is ∙ append_assoc chosen (o ∷ []) p.picked;
  picks = (number_has o (members_of c v.kind.name) h, p.picks);
}

all_picks : (c : Context) (vs : List TypedName) (chosen y : List ℕ) → Has (choices_from c vs chosen) y → IsPick c vs chosen y
all_picks c [] chosen y (zero, e) = record { picked = []; is = (let s : chosen ≡ y = cc e in sym s) ∙ sym (append-nil chosen); picks = tt }
all_picks c [] chosen y (suc k, e) = cc e
all_picks c (v ∷ vs) chosen y h =
    let m = from_flat (λ (o : ℕ). choices_from c vs (chosen ++ o ∷ [])) (members_of c v.kind.name) y h in
    pick_first c v vs chosen y m.0 m.1 (all_picks c vs (chosen ++ m.0 ∷ []) y m.2)

same_first : (chosen : List ℕ) (o p : ℕ) (os ps y : List ℕ) → y ≡ (chosen ++ o ∷ []) ++ os → y ≡ (chosen ++ p ∷ []) ++ ps → o ≡ p
same_first chosen o p os ps y e f =
    let g : chosen ++ (o ∷ os) ≡ chosen ++ (p ∷ ps) = sym (append_assoc chosen (o ∷ []) os) ∙ sym e ∙ f ∙ append_assoc chosen (p ∷ []) ps in
    let h : o ∷ os ≡ p ∷ ps = append_cancel_left chosen (o ∷ os) (p ∷ ps) g in
    cc h

choices_differ : (c : Context) (vs : List TypedName) (chosen : List ℕ) → Differ (choices_from c vs chosen)
choices_differ c [] chosen = (λ h. (let e = h.1 in cc e), tt)
choices_differ c (v ∷ vs) chosen =
    differ_flat (λ (o : ℕ). choices_from c vs (chosen ++ o ∷ [])) (members_of c v.kind.name) (members_differ c.types v.kind.name 0 c.objects)
    (λ o h. choices_differ c vs (chosen ++ o ∷ []))
    (λ o p y h g a b. (let x = all_picks c vs (chosen ++ o ∷ []) y a in let z = all_picks c vs (chosen ++ p ∷ []) y b in same_first chosen o p x.picked z.picked y x.is z.is))

-- ---- names

tail_of : {X : Type 0} (x y : X) (xs ys : List X) → x ∷ xs ≡ y ∷ ys → (x ≡ y) × (xs ≡ ys)
tail_of x y xs ys e = (cc e, cc e)

same_objects : (c : Context) → IsDistinct (bound_names c.objects) → (vs : List TypedName) (os ps : List ℕ) → Picks c vs os → Picks c vs ps → object_names c os ≡ object_names c ps → os ≡ ps
same_objects c d [] [] [] a b e = refl
same_objects c d [] [] (p ∷ ps) a b e = absurd b
same_objects c d [] (o ∷ os) ps a b e = absurd a
same_objects c d (v ∷ vs) [] ps a b e = absurd a
same_objects c d (v ∷ vs) (o ∷ os) [] a b e = absurd b
same_objects c d (v ∷ vs) (o ∷ os) (p ∷ ps) a b e =
    let t = tail_of (get_or (bound_names c.objects) o []) (get_or (bound_names c.objects) p []) (object_names c os) (object_names c ps) e in
    let s : o ≡ p = d o p (within c v.kind.name o a.0) (within c v.kind.name p b.0) t.0 in
    ap (λ x. x ∷ os) s ∙ ap (λ xs. p ∷ xs) (same_objects c d vs os ps a.1 b.1 t.1)

-- ---- the calls

module _ (dom : Domain) (prob : Problem) (differ : NamesDiffer dom prob) where
  named_all : (call : CallName) → Has (all_calls dom prob) call → (action : Action) × (called_of dom prob call.0 call.1 ≡ Instance action)
  named_all call h =
      let m = from_flat (calls_for dom prob) dom.actions call h in
      let n = from_map (λ (objects : List ℕ). (m.0.name.name, object_names (problem_context dom prob) objects)) (choices_from (problem_context dom prob) m.0.params []) call m.2 in
      let p = all_picks (problem_context dom prob) m.0.params [] n.0 n.1 in
      let action : Action = action_meant (problem_context dom prob) m.0 (given m.0.params p.picked []) in
      let r = called_given dom prob differ m.1.0 m.0 p.picked m.1.1 p.picks in
      let same : (m.0.name.name, object_names (problem_context dom prob) p.picked) ≡ call = ap (λ (objects : List ℕ). (m.0.name.name, object_names (problem_context dom prob) objects)) (sym p.is) ∙ n.2 in
      (action, subst (λ (x : CallName). called_of dom prob x.0 x.1 ≡ Instance action) same r)

  one_action : (a : Schema) → Differ (calls_for dom prob a)
  one_action a =
      differ_map (λ (objects : List ℕ). (a.name.name, object_names (problem_context dom prob) objects)) (choices_from (problem_context dom prob) a.params []) (choices_differ (problem_context dom prob) a.params [])
      (λ x z h g e. (let p = all_picks (problem_context dom prob) a.params [] x h in let q = all_picks (problem_context dom prob) a.params [] z g in
      let f : object_names (problem_context dom prob) x ≡ object_names (problem_context dom prob) z = ap (λ (w : CallName). w.1) e in
      let k : object_names (problem_context dom prob) p.picked ≡ object_names (problem_context dom prob) q.picked = ap (object_names (problem_context dom prob)) (sym p.is) ∙ f ∙ ap (object_names (problem_context dom prob)) q.is in
      p.is ∙ same_objects (problem_context dom prob) differ.objects a.params p.picked q.picked p.picks q.picks k ∙ sym q.is))

  first_of : (a : Schema) (call : CallName) → Has (calls_for dom prob a) call → call.0 ≡ a.name.name
  first_of a call h = let m = from_map (λ (objects : List ℕ). (a.name.name, object_names (problem_context dom prob) objects)) (choices_from (problem_context dom prob) a.params []) call h in ap (λ (w : CallName). w.0) (sym m.2)

  same_place : (a b : Schema) → Has dom.actions a → Has dom.actions b → a.name.name ≡ b.name.name → a ≡ b
  same_place a b h g e =
      let n = names_at dom h.0 a h.1 in
      let m = names_at dom g.0 b g.1 in
      let k : h.0 ≡ g.0 = differ.actions h.0 g.0 n.0 m.0 (n.1 ∙ e ∙ sym m.1) in
      let f : Some a ≡ Some b = sym h.1 ∙ ap (slice_get dom.actions) k ∙ g.1 in
      cc f

  schemas_differ : Differ dom.actions
  schemas_differ = by dom.actions 0 (λ i j a e f. alike i j a e f)
    where
      alike : (i j : ℕ) (a : Schema) → slice_get dom.actions i ≡ Some a → slice_get dom.actions j ≡ Some a → i ≡ j
      alike i j a e f = let n = names_at dom i a e in let m = names_at dom j a f in differ.actions i j n.0 m.0 (n.1 ∙ sym m.1)

      by : (xs : List Schema) (n : ℕ) → ((i j : ℕ) (a : Schema) → slice_get xs i ≡ Some a → slice_get xs j ≡ Some a → i ≡ j) → Differ xs
      by [] n u = tt
      by (x ∷ xs) n u = (λ h. (let s = u 0 (suc h.0) x refl h.1 in absurd (omega (arith, s))), by xs n (λ i j a e f. (let s = u (suc i) (suc j) a e f in omega (arith, s))))

  all_differ : Differ (all_calls dom prob)
  all_differ =
      differ_flat (calls_for dom prob) dom.actions schemas_differ (λ a h. one_action a)
      (λ a b call h g x y. same_place a b h g (sym (first_of a call x) ∙ first_of b call y))

  -- ---- one by one

  aligned_from : (xs : List Schema) → flat_map (named_by dom prob) xs ≡ flat_map (λ (call : CallName). instance_in (called_of dom prob call.0 call.1)) (flat_map (calls_for dom prob) xs)
  aligned_from [] = refl
  aligned_from (a ∷ xs) =
      let H : CallName → List Action = λ call. instance_in (called_of dom prob call.0 call.1) in
      let one : named_by dom prob a ≡ flat_map H (calls_for dom prob a) = sym (flat_map-map H (λ (objects : List ℕ). (a.name.name, object_names (problem_context dom prob) objects)) (choices_from (problem_context dom prob) a.params [])) in
      ap (λ ys. ys ++ flat_map (named_by dom prob) xs) one ∙ ap (λ ys. flat_map H (calls_for dom prob a) ++ ys) (aligned_from xs) ∙ sym (flat_map-append H (calls_for dom prob a) (flat_map (calls_for dom prob) xs))

  by_schema : (name : List ℕ) (args : List (List ℕ)) (action : Action) (o : Option Schema) → slice_get dom.actions (position_or_len (bytes_eq name) (action_names dom)) ≡ o → called_by (problem_context dom prob) name args o ≡ Instance action → Has (all_calls dom prob) (name, args)
  by_schema name args action None s e = cc e
  by_schema name args action (Some a) s e = bound (bound_by (problem_context dom prob) a.params args []) refl e
    where
      n : name ≡ a.name.name
      n = first_named name dom.actions a s

      bound : (r : Option Environment) → bound_by (problem_context dom prob) a.params args [] ≡ r → called_in (problem_context dom prob) name a r ≡ Instance action → Has (all_calls dom prob) (name, args)
      bound None b f = cc f
      bound (Some env) b f =
          let k = chosen_by (problem_context dom prob) a.params args [] env [] b in
          let one = has_map (λ (objects : List ℕ). (a.name.name, object_names (problem_context dom prob) objects)) (choices_from (problem_context dom prob) a.params []) (places (problem_context dom prob) args) k.among in
          let same : (a.name.name, object_names (problem_context dom prob) (places (problem_context dom prob) args)) ≡ (name, args) = ap (λ (ns : List (List ℕ)). (a.name.name, ns)) k.names ∙ ap (λ (w : List ℕ). (w, args)) (sym n) in
          has_flat (calls_for dom prob) dom.actions a (name, args) (position_or_len (bytes_eq name) (action_names dom), s) (subst (Has (calls_for dom prob a)) same one)

pub all_calls_are_searched : (d : Domain) (p : Problem) → IsWellTyped d p → AreCallsOfGround d p
all_calls_are_searched d p typed =
    let differ = names_differ d p typed.nothing_twice in
    record {
      aligned = aligned_from d p differ d.actions;
      named = named_all d p differ;
      differ = all_differ d p differ;
      complete = λ name args action h. by_schema d p differ name args action (slice_get d.actions (position_or_len (bytes_eq name) (action_names d))) refl h;
    }
