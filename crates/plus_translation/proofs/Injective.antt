-- Two typed uses of objects that have one number have the same names.
use Rattle.std.proofs.Common.{◌≡◌, ℕ, suc, ◌<◌, ◌+◌, Bool, true, false, not, cond, ◌&&◌, ◌⊎◌, inl, inr, List, [], ◌∷◌, map, length, get_or, refl, ap, ap₂, sym, subst, ◌∙◌, arith, nat_eq, Option, Some, None}
use Rattle.std.specs.List.{position_or_len}
use Rattle.std.specs.Str.{bytes_eq}
use Rattle.std.proofs.Math.Nat.{eq-or-lt_of_le}
use Rattle.std.proofs.lemmas.Bool.{eqb-true}
use Rattle.plus_tree.specs.declared.terms.Term.{Term}
use Rattle.plus_tree.specs.declared.terms.Term.TheVariants.{Object, Variable}
use Rattle.plus_tree.specs.declared.terms.TypedName.{TypedName}
use Rattle.plus_tree.specs.declared.trees.Head.{Head}
use Rattle.plus_types.specs.Types.{Binding, bound_names, kind_of}
use Rattle.plus_types.specs.Faults.{Context, term_name, term_faults, known_faults, kind_of_faults, argument_faults, arguments_faults}
use Rattle.plus_types.proofs.SoundLemmas.{left-none, right-none}
use Rattle.plus_types.proofs.TypesLemmas.{same-bytes}
use Rattle.plus_expansion.specs.Numbers.{ground_names, head_names, is_same, number_of}
use Rattle.plus_expansion.proofs.Places.{place-below}
use Rattle.plus_expansion.proofs.GroundNames.{ground-none, length-names}
use Rattle.plus_expansion.specs.Environments.{term_object}

-- what stands at a place that was found passes the test
at_place : {X : Type 0} (p : X → Bool) (xs : List X) (d : X) → position_or_len p xs < length xs → p (get_or xs (position_or_len p xs) d) ≡ true
at_place p [] d h = absurd (omega arith)
at_place p (x ∷ xs) d h = by (p x) refl h (at_place p xs d)
  where
    later : (k : ℕ) → get_or (x ∷ xs) (1 + k) d ≡ get_or xs k d
    later k = let e : 1 + k ≡ suc k = omega arith in ap (λ (n : ℕ). get_or (x ∷ xs) n d) e

    by : (b : Bool) → p x ≡ b → cond (not b) (1 + position_or_len p xs) 0 < length (x ∷ xs) → (position_or_len p xs < length xs → p (get_or xs (position_or_len p xs) d) ≡ true)
        → p (get_or (x ∷ xs) (cond (not b) (1 + position_or_len p xs) 0) d) ≡ true
    by true e l more = e
    by false e l more = ap p (later (position_or_len p xs)) ∙ more (omega arith)

both_true : (x y : Bool) → x && y ≡ true → (x ≡ true) × (y ≡ true)
both_true true true h = (refl, refl)
both_true true false h = cc
both_true false y h = cc

-- two names at one place are the same
same_at : (n m : List ℕ) (xs : List (List ℕ)) → position_or_len (bytes_eq n) xs < length xs → position_or_len (bytes_eq n) xs ≡ position_or_len (bytes_eq m) xs → n ≡ m
same_at n m xs h e =
    same-bytes n (get_or xs (position_or_len (bytes_eq n) xs) []) (at_place (bytes_eq n) xs [] h)
    ∙ sym (same-bytes m (get_or xs (position_or_len (bytes_eq n) xs) []) (subst (λ (k : ℕ). bytes_eq m (get_or xs k []) ≡ true) (sym e) (at_place (bytes_eq m) xs [] (subst (λ (k : ℕ). k < length xs) e h))))

-- one number: one head and the same objects
pub number_injective : (c : Context) (heads : List Head) (n m : List ℕ) (us vs : List ℕ) → number_of c heads n us < length (ground_names c heads) → number_of c heads n us ≡ number_of c heads m vs → (n ≡ m) × (us ≡ vs)
number_injective c heads n m us vs h e =
    let k = position_or_len (bytes_eq n) (head_names heads) in
    let j = position_or_len (bytes_eq m) (head_names heads) in
    let g = get_or (ground_names c heads) (number_of c heads n us) (0, []) in
    let x = both_true (nat_eq k g.0) (bytes_eq us g.1) (at_place (is_same (k, us)) (ground_names c heads) (0, []) h) in
    let y = both_true (nat_eq j g.0) (bytes_eq vs g.1)
    (subst (λ (i : ℕ). is_same (j, vs) (get_or (ground_names c heads) i (0, [])) ≡ true) (sym e) (at_place (is_same (j, vs)) (ground_names c heads) (0, []) (subst (λ (i : ℕ). i < length (ground_names c heads)) e h))) in
    let same : k ≡ j = eqb-true k g.0 x.0 ∙ sym (eqb-true j g.0 y.0) in
    (by (eq-or-lt_of_le (place-below (bytes_eq n) (head_names heads))) same, same-bytes us g.1 x.1 ∙ sym (same-bytes vs g.1 y.1))
  where
    by : (position_or_len (bytes_eq n) (head_names heads) ≡ length (head_names heads)) ⊎ (position_or_len (bytes_eq n) (head_names heads) < length (head_names heads)) → position_or_len (bytes_eq n) (head_names heads) ≡ position_or_len (bytes_eq m) (head_names heads) → n ≡ m
    by (inr l) s = same_at n m (head_names heads) l s
    by (inl l) s = absurd (let t = length-names heads in let f = ground-none c 0 (position_or_len (bytes_eq n) (head_names heads)) heads us (λ i b q. absurd (omega (arith, t, l, b, q))) in omega (arith, f, h))

-- a declared object has a place
declared : (os : List Binding) (x kind : List ℕ) → kind_of os x ≡ Some kind → position_or_len (bytes_eq x) (bound_names os) < length (bound_names os)
declared [] x kind e = cc
declared (o ∷ os) x kind e = by (bytes_eq x o.0) e (declared os x kind)
  where
    by : (b : Bool) → cond b (Some o.1) (kind_of os x) ≡ Some kind → (kind_of os x ≡ Some kind → position_or_len (bytes_eq x) (bound_names os) < length (bound_names os)) → cond (not b) (1 + position_or_len (bytes_eq x) (bound_names os)) 0 < length (bound_names (o ∷ os))
    by true f more = omega arith
    by false f more = let h = more f in omega (arith, h)

-- objects of terms without variables are known by their names
pub terms_injective : (c : Context) (params : List TypedName) (ts us : List Term) → arguments_faults c [] params ts ≡ [] → arguments_faults c [] params us ≡ [] → map (term_object c []) ts ≡ map (term_object c []) us → map term_name ts ≡ map term_name us
terms_injective c params [] [] f g e = refl
terms_injective c params [] (u ∷ us) f g e = cc
terms_injective c params (t ∷ ts) [] f g e = cc
terms_injective c [] (t ∷ ts) (u ∷ us) f g e =
    ap₂ (λ x xs. x ∷ xs) (one t u (left-none (term_faults c [] t) _ f) (left-none (term_faults c [] u) _ g) (let h : term_object c [] t ≡ term_object c [] u = cc in h))
    (terms_injective c [] ts us (right-none (term_faults c [] t) _ f) (right-none (term_faults c [] u) _ g) (let h : map (term_object c []) ts ≡ map (term_object c []) us = cc in h))
  where
    one : (t u : Term) → term_faults c [] t ≡ [] → term_faults c [] u ≡ [] → term_object c [] t ≡ term_object c [] u → term_name t ≡ term_name u
    one (Variable x) u f g e = cc
    one (Object x) (Variable y) f g e = cc
    one (Object x) (Object y) f g e = by (kind_of c.objects x.name) refl f
      where
        by : (o : Option (List ℕ)) → kind_of c.objects x.name ≡ o → known_faults c.file (Object x) o ≡ [] → x.name ≡ y.name
        by None k h = cc
        by (Some kind) k h = same_at x.name y.name (bound_names c.objects) (declared c.objects x.name kind k) e
terms_injective c (p ∷ ps) (t ∷ ts) (u ∷ us) f g e =
    ap₂ (λ x xs. x ∷ xs) (one t u (left-none (argument_faults c [] p.kind.name t) _ f) (left-none (argument_faults c [] p.kind.name u) _ g) (let h : term_object c [] t ≡ term_object c [] u = cc in h))
    (terms_injective c ps ts us (right-none (argument_faults c [] p.kind.name t) _ f) (right-none (argument_faults c [] p.kind.name u) _ g) (let h : map (term_object c []) ts ≡ map (term_object c []) us = cc in h))
  where
    one : (t u : Term) → argument_faults c [] p.kind.name t ≡ [] → argument_faults c [] p.kind.name u ≡ [] → term_object c [] t ≡ term_object c [] u → term_name t ≡ term_name u
    one (Variable x) u f g e = cc
    one (Object x) (Variable y) f g e = cc
    one (Object x) (Object y) f g e = by (kind_of c.objects x.name) refl f
      where
        by : (o : Option (List ℕ)) → kind_of c.objects x.name ≡ o → kind_of_faults c p.kind.name (Object x) o ≡ [] → x.name ≡ y.name
        by None k h = cc
        by (Some kind) k h = same_at x.name y.name (bound_names c.objects) (declared c.objects x.name kind k) e
