-- Types without a fault are well listed.
use Rattle.std.proofs.Common.{◌≡◌, ℕ, zero, suc, Bool, true, false, List, [], ◌∷◌, ◌++◌, ap, sym, refl, ◌∙◌, cond, ◌||◌, true≢false, Option, Some, None, length, ◌+◌, ◌<◌, get_or, take, add-one, append_assoc, position, arith}
use Rattle.std.proofs.Math.Seq.{take-suc}
use Rattle.plus_types.proofs.KindsLemmas.{map-append}
use Rattle.std.specs.List.{list_any}
use Rattle.std.specs.Str.{bytes_eq}
use Rattle.std.proofs.lemmas.List.{length-map}
use Rattle.std.proofs.lemmas.List.Folds.{list_any-append}
use Rattle.plus_tree.specs.declared.terms.TypedName.{TypedName}
use Rattle.plus_types.specs.declared.faults.TypeFault.{TypeFault}
use Rattle.plus_types.specs.declared.faults.File.TheVariants as files
use Rattle.plus_types.specs.declared.faults.Wrong.TheVariants.{Twice, TypeLoop}
use Rattle.plus_types.specs.declared.faults.TypeFault.TheVariants.{At}
use Rattle.plus_types.specs.Types.{is_among, Binding, bindings_of, bound_names, bound_kinds, kind_of, object_name, right_above, is_above_within, is_above}
use Rattle.plus_types.specs.Listed.{under_object, one_above, name_at, IsListed}
use Rattle.plus_types.specs.Faults.{listed_faults, types_faults}
use Rattle.plus_types.proofs.TypesLemmas.{same-bytes, above-is, within-suc, object-above, or-right, or-false, bytes-swap}
use Rattle.plus_types.proofs.ListLemmas.{length-names}
use Rattle.plus_types.proofs.PlaceLemmas.{own-place}

pub left-none : (xs ys : List TypeFault) → xs ++ ys ≡ [] → xs ≡ []
left-none [] ys e = refl
left-none (x ∷ xs) ys e = cc

pub right-none : (xs ys : List TypeFault) → xs ++ ys ≡ [] → ys ≡ []
right-none [] ys e = e
right-none (x ∷ xs) ys e = cc

-- a listed type without a fault is new, and is not above itself
pub listed-new : (all : List Binding) (earlier : List (List ℕ)) (t : TypedName) → listed_faults all earlier t ≡ [] → is_among earlier t.name.name ≡ false
unfolding listed_faults
listed-new all earlier t e = by (is_among earlier t.name.name) (is_above all t.name.name t.name.name) e
  where
    by : (b d : Bool) → cond b (At Twice files.Domain t.name.span ∷ []) (cond d (At TypeLoop files.Domain t.name.span ∷ []) []) ≡ [] → b ≡ false
    by true d e = cc
    by false d e = refl

pub listed-low : (all : List Binding) (earlier : List (List ℕ)) (t : TypedName) → listed_faults all earlier t ≡ [] → is_above all t.name.name t.name.name ≡ false
unfolding listed_faults
listed-low all earlier t e = by (is_among earlier t.name.name) (is_above all t.name.name t.name.name) e
  where
    by : (b d : Bool) → cond b (At Twice files.Domain t.name.span ∷ []) (cond d (At TypeLoop files.Domain t.name.span ∷ []) []) ≡ [] → d ≡ false
    by true d e = cc
    by false true e = cc
    by false false e = refl

pub among-grown : (earlier : List (List ℕ)) (name k : List ℕ) → is_among earlier k ≡ true → is_among (earlier ++ name ∷ []) k ≡ true
among-grown earlier name k h = list_any-append (bytes_eq k) earlier (name ∷ []) ∙ ap (λ b. b || (bytes_eq k name || false)) h

pub among-last : (earlier : List (List ℕ)) (name k : List ℕ) → bytes_eq k name ≡ true → is_among (earlier ++ name ∷ []) k ≡ true
among-last earlier name k h = list_any-append (bytes_eq k) earlier (name ∷ []) ∙ or-right (is_among earlier k) _ (ap (λ b. b || false) h)

-- what was listed before is not listed again
pub not-later :
    (all : List Binding) (earlier : List (List ℕ)) (ts : List TypedName) (k : List ℕ) → types_faults all earlier ts ≡ [] → is_among earlier k ≡ true
    → right_above (bindings_of ts) k ≡ under_object k
not-later all earlier [] k e h = refl
not-later all earlier (t ∷ ts) k e h =
    by (bytes_eq k t.name.name) refl
    (not-later all (earlier ++ t.name.name ∷ []) ts k (right-none (listed_faults all earlier t) _ e) (among-grown earlier t.name.name k h))
    (listed-new all earlier t (left-none (listed_faults all earlier t) _ e))
  where
    by :
        (b : Bool) → bytes_eq k t.name.name ≡ b → right_above (bindings_of ts) k ≡ under_object k → is_among earlier t.name.name ≡ false
        → cond b (t.kind.name ∷ right_above (bindings_of ts) k) (right_above (bindings_of ts) k) ≡ under_object k
    by true q more new = absurd (true≢false (sym h ∙ ap (is_among earlier) (same-bytes k t.name.name q) ∙ new))
    by false q more new = more

pub one-chain :
    (all : List Binding) (earlier : List (List ℕ)) (ts : List TypedName) (k : List ℕ) → types_faults all earlier ts ≡ []
    → right_above (bindings_of ts) k ≡ one_above (kind_of (bindings_of ts) k) k
one-chain all earlier [] k e = refl
one-chain all earlier (t ∷ ts) k e =
    by (bytes_eq k t.name.name) refl (one-chain all (earlier ++ t.name.name ∷ []) ts k (right-none (listed_faults all earlier t) _ e))
    (not-later all (earlier ++ t.name.name ∷ []) ts k (right-none (listed_faults all earlier t) _ e))
  where
    by :
        (b : Bool) → bytes_eq k t.name.name ≡ b → right_above (bindings_of ts) k ≡ one_above (kind_of (bindings_of ts) k) k
        → (is_among (earlier ++ t.name.name ∷ []) k ≡ true → right_above (bindings_of ts) k ≡ under_object k)
        → cond b (t.kind.name ∷ right_above (bindings_of ts) k) (right_above (bindings_of ts) k) ≡ one_above (cond b (Some t.kind.name) (kind_of (bindings_of ts) k)) k
    by true q more last = ap (λ xs. t.kind.name ∷ xs) (last (among-last earlier t.name.name k q))
    by false q more last = more

-- where `object` is above itself, it is not listed without a fault
pub object-unlisted :
    (all : List Binding) (earlier : List (List ℕ)) (ts : List TypedName) → types_faults all earlier ts ≡ [] → is_above all object_name object_name ≡ true
    → kind_of (bindings_of ts) object_name ≡ None
object-unlisted all earlier [] e h = refl
object-unlisted all earlier (t ∷ ts) e h =
    by (bytes_eq object_name t.name.name) refl (object-unlisted all (earlier ++ t.name.name ∷ []) ts (right-none (listed_faults all earlier t) _ e) h)
    (listed-low all earlier t (left-none (listed_faults all earlier t) _ e))
  where
    by :
        (b : Bool) → bytes_eq object_name t.name.name ≡ b → kind_of (bindings_of ts) object_name ≡ None → is_above all t.name.name t.name.name ≡ false
        → cond b (Some t.kind.name) (kind_of (bindings_of ts) object_name) ≡ None
    by true q more low = absurd (true≢false (sym h ∙ ap (λ x. is_above all x x) (same-bytes object_name t.name.name q) ∙ low))
    by false q more low = more

pub object-loops :
    (types : List Binding) (up : List ℕ) → ((k : List ℕ) → right_above types k ≡ one_above (kind_of types k) k) → kind_of types object_name ≡ Some up
    → is_above types object_name object_name ≡ true
object-loops [] up chain e = cc
object-loops (b ∷ bs) up chain e =
    let q = λ (k : List ℕ). bytes_eq object_name k || is_above_within (b ∷ bs) (suc (length bs)) object_name k in
    above-is (b ∷ bs) object_name object_name ∙ within-suc (b ∷ bs) (suc (length bs)) object_name object_name
    ∙ ap (list_any q) (chain object_name ∙ ap (λ o. one_above o object_name) e) ∙ ap (λ d. d || false) (by (bytes_eq up object_name) refl)
  where
    by : (d : Bool) → bytes_eq up object_name ≡ d → (bytes_eq object_name up || is_above_within (b ∷ bs) (suc (length bs)) object_name up) ≡ true
    by true w = ap (λ x. bytes_eq object_name x || is_above_within (b ∷ bs) (suc (length bs)) object_name x) (same-bytes up object_name w)
    by false w = or-right (bytes_eq object_name up) _ (object-above (b ∷ bs) (length bs) up chain w)

-- no listed type stands before its place
fresh-at :
    (all : List Binding) (earlier : List (List ℕ)) (ts : List TypedName) (i : ℕ) → types_faults all earlier ts ≡ [] → i < length ts
    → is_among (earlier ++ take i (bound_names (bindings_of ts))) (name_at (bindings_of ts) i) ≡ false
fresh-at all earlier [] i e h = absurd (omega arith)
fresh-at all earlier (t ∷ ts) zero e h =
    list_any-append (bytes_eq t.name.name) earlier [] ∙ or-false (is_among earlier t.name.name) false refl
    ∙ listed-new all earlier t (left-none (listed_faults all earlier t) _ e)
fresh-at all earlier (t ∷ ts) (suc i) e h =
    sym (ap (λ xs. is_among xs (name_at (bindings_of ts) i)) (append_assoc earlier (t.name.name ∷ []) (take i (bound_names (bindings_of ts)))))
    ∙ fresh-at all (earlier ++ t.name.name ∷ []) ts i (right-none (listed_faults all earlier t) _ e) (omega arith)

own-places :
    (ts : List TypedName) → types_faults (bindings_of ts) [] ts ≡ [] → (i : ℕ) → i < length (bindings_of ts)
    → position (bytes_eq (name_at (bindings_of ts) i)) (bound_names (bindings_of ts)) ≡ Some i
own-places ts e i h =
    let many : length (bindings_of ts) ≡ length ts = length-map ts (λ (t : TypedName). (t.name.name, t.kind.name)) in
    own-place (bound_names (bindings_of ts)) i (omega (arith, h, length-names (bindings_of ts))) (fresh-at (bindings_of ts) [] ts i e (omega (arith, h, many)))

pub well_listed :
    (ts : List TypedName) (above : List (List ℕ)) → types_faults (bindings_of ts) [] ts ≡ [] → ((k : List ℕ) → is_among above k ≡ is_among (bound_kinds (bindings_of ts)) k)
    → IsListed (bindings_of ts) above
well_listed ts above e known =
    let chain = λ (k : List ℕ). one-chain (bindings_of ts) [] ts k e in
    record { chain = chain; top = by (kind_of (bindings_of ts) object_name) refl chain; known = known; places = own-places ts e }
  where
    by :
        (o : Option (List ℕ)) → kind_of (bindings_of ts) object_name ≡ o → ((k : List ℕ) → right_above (bindings_of ts) k ≡ one_above (kind_of (bindings_of ts) k) k)
        → kind_of (bindings_of ts) object_name ≡ None
    by None q chain = q
    by (Some up) q chain = object-unlisted (bindings_of ts) [] ts e (object-loops (bindings_of ts) up chain q)
