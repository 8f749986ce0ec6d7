-- Objects that are put into the lists of types, one after the other.
use Rattle.std.proofs.Common.{◌≡◌, ℕ, zero, suc, ◌+◌, ◌<◌, ◌≤◌, Bool, true, false, List, [], ◌∷◌, ◌++◌, ap, sym, refl, ◌∙◌, length, map, cond, ◌||◌, nat_eq, get_or, set, take, not, add-one, subst, append_assoc, length-append, position, Option, Some, None, Vec, Global, arith}
use Rattle.std.proofs.Math.Seq.{take-suc}
use Rattle.std.specs.Str.{bytes_eq}
use Rattle.std.proofs.lemmas.List.{length-map, map-set, get_or-map, append-nil, length-take-le}
use Rattle.std.proofs.lemmas.List.Folds.{list_any_more}
use Rattle.plus_types.proofs.ListLemmas.{or-none, or-rest}
use Rattle.plus_types.proofs.TypesLemmas.{take-past}
use Rattle.std.proofs.lemmas.List.Quantifiers.{position-Some}
use Rattle.std.proofs.lemmas.Iterator.Adapters.{position_from-zero}
use Rattle.plus_types.proofs.PlaceLemmas.{none-none}
use Rattle.std.proofs.lemmas.Bool.Decides.{Decides-eqb}
use Rattle.plus_tree.specs.declared.terms.TypedName.{TypedName}
use Rattle.plus_types.specs.Types.{is_among, Binding, bindings_of, is_under}
use Rattle.plus_types.proofs.KindsLemmas.{map-append}
use Rattle.plus_types.proofs.TypesLemmas.{same-bytes, bytes-self, bytes-swap}
use Rattle.plus_expansion.specs.Objects.{places_from}
use Rattle.plus_numbering.specs.Tables.{places_of, IsPlace, AreBelow, ends_with, once}
use Rattle.plus_expansion.proofs.ObjectsLemmas.{places-append, length-bindings}
use Rattle.plus_expansion.proofs.Places.{same-number}

-- ---- the place of a name

pub places-none : (names lists : List (List ℕ)) (name : List ℕ) → is_among names name ≡ false → places_of names lists name ≡ []
places-none [] lists name h = refl
places-none (n ∷ ns) [] name h = refl
places-none (n ∷ ns) (l ∷ ls) name h = by (bytes_eq name n) h (places-none ns ls name)
  where
    by : (b : Bool) → (b || is_among ns name) ≡ false → (is_among ns name ≡ false → places_of ns ls name ≡ []) → cond b l (places_of ns ls name) ≡ []
    by true h more = cc
    by false h more = more h

pub later-place : (n : List ℕ) (ns : List (List ℕ)) (name : List ℕ) (i : ℕ) → IsPlace (n ∷ ns) name (suc i) → IsPlace ns name i
later-place n ns name i p =
    let w = p.within in
    record { within = omega (arith, w); here = p.here; first = λ j l. p.first (suc j) (omega (arith, l)) }

pub places-at : (names lists : List (List ℕ)) (name : List ℕ) (i : ℕ) → IsPlace names name i → places_of names lists name ≡ get_or lists i []
places-at [] lists name i p = let w = p.within in absurd (omega (arith, w))
places-at (n ∷ ns) [] name i p = refl
places-at (n ∷ ns) (l ∷ ls) name zero p = ap (λ b. cond b l (places_of ns ls name)) p.here
places-at (n ∷ ns) (l ∷ ls) name (suc i) p =
    ap (λ b. cond b l (places_of ns ls name)) (p.first 0 (omega arith)) ∙ places-at ns ls name i (later-place n ns name i p)

-- a list that is written changes that of its name, and no other
pub places-set :
    (names lists : List (List ℕ)) (name : List ℕ) (i : ℕ) (y k : List ℕ) → IsPlace names name i → length names ≡ length lists
    → places_of names (set lists i y) k ≡ cond (bytes_eq k name) y (places_of names lists k)
places-set [] lists name i y k p e = let w = p.within in absurd (omega (arith, w))
places-set (n ∷ ns) [] name i y k p e = absurd (omega (arith, e))
places-set (n ∷ ns) (l ∷ ls) name zero y k p e =
    let same : bytes_eq k n ≡ bytes_eq k name = ap (bytes_eq k) (sym (same-bytes name n p.here)) in
    ap (λ b. cond b y (places_of ns ls k)) same ∙ by (bytes_eq k name) ∙ sym (ap (λ b. cond (bytes_eq k name) y (cond b l (places_of ns ls k))) same)
  where
    by : (b : Bool) → cond b y (places_of ns ls k) ≡ cond b y (cond b l (places_of ns ls k))
    by true = refl
    by false = refl
places-set (n ∷ ns) (l ∷ ls) name (suc i) y k p e =
    by (bytes_eq k n) refl (places-set ns ls name i y k (later-place n ns name i p) (omega (arith, e)))
  where
    by :
        (b : Bool) → bytes_eq k n ≡ b → places_of ns (set ls i y) k ≡ cond (bytes_eq k name) y (places_of ns ls k)
        → cond b l (places_of ns (set ls i y) k) ≡ cond (bytes_eq k name) y (cond b l (places_of ns ls k))
    by true q more =
        let other : bytes_eq k name ≡ false = ap (λ x. bytes_eq x name) (same-bytes k n q) ∙ bytes-swap n name ∙ p.first 0 (omega arith) in
        sym (ap (λ b. cond b y l) other)
    by false q more = more

pub cond-same : (b : Bool) (xs : List ℕ) → cond b xs xs ≡ xs
cond-same true xs = refl
cond-same false xs = refl

-- a new name with an empty list
pub places-new :
    (names lists : List (List ℕ)) (n k : List ℕ) → length names ≡ length lists → places_of (names ++ n ∷ []) (lists ++ [] ∷ []) k ≡ places_of names lists k
places-new [] [] n k e = cond-same (bytes_eq k n) []
places-new [] (l ∷ ls) n k e = absurd (omega (arith, e))
places-new (m ∷ ms) [] n k e = absurd (omega (arith, e))
places-new (m ∷ ms) (l ∷ ls) n k e = ap (λ ys. cond (bytes_eq k m) l ys) (places-new ms ls n k (omega (arith, e)))

pub place-later : (n : List ℕ) (ns : List (List ℕ)) (name : List ℕ) (i : ℕ) → bytes_eq name n ≡ false → IsPlace ns name i → IsPlace (n ∷ ns) name (suc i)
place-later n ns name i q p =
    let w = p.within in
    record { within = omega (arith, w); here = p.here; first = earlier }
  where
    earlier : (j : ℕ) → j < suc i → bytes_eq name (get_or (n ∷ ns) j []) ≡ false
    earlier zero l = q
    earlier (suc j) l = p.first j (omega (arith, l))

pub place-new : (names : List (List ℕ)) (name : List ℕ) (i : ℕ) → is_among names name ≡ false → i ≡ length names → IsPlace (names ++ name ∷ []) name i
place-new [] name zero h e = record { within = omega arith; here = bytes-self name; first = λ j l. absurd (omega (arith, l)) }
place-new [] name (suc i) h e = absurd (omega (arith, e))
place-new (n ∷ ns) name zero h e = absurd (omega (arith, e))
place-new (n ∷ ns) name (suc i) h e =
    place-later n (ns ++ name ∷ []) name i (or-none (bytes_eq name n) (is_among ns name) h)
    (place-new ns name i (or-rest (bytes_eq name n) (is_among ns name) h) (omega (arith, e)))

pub place-some : (names : List (List ℕ)) (name : List ℕ) (i : ℕ) → Some i ≡ position (bytes_eq name) names → IsPlace names name i
place-some names name i e = by (position-Some (bytes_eq name) names i [] (sym e))
  where
    by : (i < length names) × (bytes_eq name (get_or names i []) ≡ true) × ((j : ℕ) → j < i → bytes_eq name (get_or names j []) ≡ false) → IsPlace names name i
    by (a, b, c) = record { within = a; here = b; first = c }

pub not-named : (names : List (List ℕ)) (name : List ℕ) (o : Option ℕ) → o ≡ position (bytes_eq name) names → ((i : ℕ) → o ≡ Some i → ⊥) → is_among names name ≡ false
not-named names name None e h = none-none (bytes_eq name) 0 names (sym (position_from-zero (bytes_eq name) names) ∙ sym e)
not-named names name (Some i) e h = absurd (h i refl)

pub unnamed : (names : List (List ℕ)) (name : List ℕ) → None ≡ position (bytes_eq name) names → is_among names name ≡ false
unnamed names name e = none-none (bytes_eq name) 0 names (sym (position_from-zero (bytes_eq name) names) ∙ sym e)

pub shown-at : (lists : List (Vec ℕ Global)) (i : ℕ) (v : Vec ℕ Global) → i < length lists → v ≡ get_or lists i v → get_or (map (λ (x : Vec ℕ Global). x.items) lists) i [] ≡ v.items
shown-at lists i v l e = get_or-map (λ (x : Vec ℕ Global). x.items) lists i v [] l ∙ ap (λ (x : Vec ℕ Global). x.items) (sym e)

pub places-out : (lists : List (Vec ℕ Global)) (i : ℕ) → length lists ≤ i → get_or (map (λ (x : Vec ℕ Global). x.items) lists) i [] ≡ []
places-out [] i l = refl
places-out (x ∷ xs) zero l = absurd (omega (arith, l))
places-out (x ∷ xs) (suc i) l = places-out xs i (omega (arith, l))

-- a name that is new gets an empty list
pub known-new :
    (names new : List (List ℕ)) (lists more : List (Vec ℕ Global)) (v : Vec ℕ Global) (name : List ℕ) (fresh : Bool) → is_among names name ≡ false → fresh ≡ not (is_among names name)
    → new ≡ cond fresh (names ++ name ∷ []) names → more ≡ lists ++ v ∷ [] → v.items ≡ [] → length names ≡ length lists
    → (new ≡ names ++ name ∷ []) × (length new ≡ length more)
    × ((k : List ℕ) → places_of new (map (λ (x : Vec ℕ Global). x.items) more) k ≡ places_of names (map (λ (x : Vec ℕ Global). x.items) lists) k)
known-new names new lists more v name fresh n f e m z s =
    let shown = λ (x : Vec ℕ Global). x.items in
    let g : fresh ≡ true = f ∙ ap not n in
    let q : new ≡ names ++ name ∷ [] = e ∙ ap (λ b. cond b (names ++ name ∷ []) names) g in
    let a = length-append names (name ∷ []) in
    let b = length-append lists (v ∷ []) in
    let l : length new ≡ length (names ++ name ∷ []) = ap length q in
    let r : length more ≡ length (lists ++ v ∷ []) = ap length m in
    let w : map shown more ≡ map shown lists ++ [] ∷ [] = ap (map shown) m ∙ map-append shown lists (v ∷ []) ∙ ap (λ x. map shown lists ++ x ∷ []) z in (
      q,
      omega (arith, a, b, l, r, s),
      λ k. ap (λ ns. places_of ns (map shown more) k) q ∙ ap (λ ls. places_of (names ++ name ∷ []) ls k) w
          ∙ places-new names (map shown lists) name k (s ∙ sym (length-map lists shown)),
    )

-- one list is written
pub put-one :
    (names : List (List ℕ)) (lists : List (Vec ℕ Global)) (name k : List ℕ) (i p : ℕ) (old new : Vec ℕ Global) (before : List ℕ) → IsPlace names name i → length names ≡ length lists
    → old ≡ get_or lists i old → new.items ≡ once p old.items → places_of names (map (λ (x : Vec ℕ Global). x.items) lists) k ≡ before
    → places_of names (map (λ (x : Vec ℕ Global). x.items) (set lists i new)) k ≡ cond (bytes_eq k name) (once p before) before
put-one names lists name k i p old new before h s o n b =
    let shown = λ (x : Vec ℕ Global). x.items in
    let w = h.within in
    let l : i < length lists = omega (arith, w, s) in
    ap (λ ls. places_of names ls k) (map-set shown lists i new)
    ∙ places-set names (map shown lists) name i new.items k h (s ∙ sym (length-map lists shown))
    ∙ by (bytes_eq k name) refl (shown-at lists i old l o)
  where
    by :
        (d : Bool) → bytes_eq k name ≡ d → get_or (map (λ (x : Vec ℕ Global). x.items) lists) i [] ≡ old.items
        → cond d new.items (places_of names (map (λ (x : Vec ℕ Global). x.items) lists) k) ≡ cond d (once p before) before
    by false q e = b
    by true q e =
        let here : before ≡ old.items = sym b ∙ ap (places_of names (map (λ (x : Vec ℕ Global). x.items) lists)) (same-bytes k name q) ∙ places-at names (map (λ (x : Vec ℕ Global). x.items) lists) name i h ∙ e in
        n ∙ ap (once p) (sym here)

-- ---- a number at the end

pub ends-push : (p : ℕ) (xs : List ℕ) → ends_with p (xs ++ p ∷ []) ≡ true
ends-push p [] = same-number p
ends-push p (x ∷ []) = same-number p
ends-push p (x ∷ y ∷ ys) = ends-push p (y ∷ ys)

pub once-twice : (p : ℕ) (xs : List ℕ) → once p (once p xs) ≡ once p xs
once-twice p xs = by (ends_with p xs) refl
  where
    by : (b : Bool) → ends_with p xs ≡ b → once p (cond b xs (xs ++ p ∷ [])) ≡ cond b xs (xs ++ p ∷ [])
    by true q = ap (λ b. cond b xs (xs ++ p ∷ [])) q
    by false q = ap (λ b. cond b (xs ++ p ∷ []) ((xs ++ p ∷ []) ++ p ∷ [])) (ends-push p xs)

pub below-ends : (p : ℕ) (xs : List ℕ) → AreBelow p xs → ends_with p xs ≡ false
below-ends p [] h = refl
below-ends p (x ∷ []) h = by (nat_eq x p) refl
  where
    by : (b : Bool) → nat_eq x p ≡ b → b ≡ false
    by true q = let e : x ≡ p = (Decides-eqb x p).0 q in let l = h.0 in absurd (omega (arith, e, l))
    by false q = refl
below-ends p (x ∷ y ∷ ys) h = below-ends p (y ∷ ys) h.1

pub below-more : (m n : ℕ) (xs : List ℕ) → m ≤ n → AreBelow m xs → AreBelow n xs
below-more m n [] l h = tt
below-more m n (x ∷ xs) l h = let a = h.0 in (omega (arith, a, l), below-more m n xs l h.1)

pub below-append : (n : ℕ) (xs ys : List ℕ) → AreBelow n xs → AreBelow n ys → AreBelow n (xs ++ ys)
below-append n [] ys h k = k
below-append n (x ∷ xs) ys h k = (h.0, below-append n xs ys h.1 k)

pub below-places : (types : List Binding) (kind : List ℕ) (n m : ℕ) (os : List Binding) → m ≡ n + length os → AreBelow m (places_from types kind n os)
below-places types kind n m [] e = tt
below-places types kind n m (o ∷ os) e = by (is_under types o.1 kind) (below-places types kind (suc n) m os (omega (arith, e)))
  where
    by :
        (b : Bool) → AreBelow m (places_from types kind (suc n) os) → AreBelow m (cond b (n ∷ places_from types kind (suc n) os) (places_from types kind (suc n) os))
    by true more = (omega (arith, e), more)
    by false more = more

-- ---- one step

-- one more of the types whose lists an object is put into
pub put-more :
    (ups : List (List ℕ)) (i : ℕ) (name k : List ℕ) (p : ℕ) (old now new : List ℕ) → i < length ups → name ≡ get_or ups i []
    → now ≡ cond (is_among (take i ups) k) (once p old) old → new ≡ cond (bytes_eq k name) (once p now) now
    → new ≡ cond (is_among (take (i + 1) ups) k) (once p old) old
put-more ups i name k p old now new l e a b =
    b ∙ ap (λ xs. cond (bytes_eq k name) (once p xs) xs) a ∙ by (is_among (take i ups) k) (bytes_eq k name)
    ∙ sym (ap (λ d. cond d (once p old) old) (list_any_more (bytes_eq k) ups i [] l ∙ ap (λ x. is_among (take i ups) k || bytes_eq k x) (sym e)))
  where
    by : (c d : Bool) → cond d (once p (cond c (once p old) old)) (cond c (once p old) old) ≡ cond (c || d) (once p old) old
    by true true = once-twice p old
    by true false = refl
    by false true = refl
    by false false = refl

-- one more object
pub object-more :
    (types : List Binding) (k : List ℕ) (first place i : ℕ) (os : List TypedName) (o : TypedName) (old now new : List ℕ) (here : Bool) → i < length os → o ≡ get_or os i o
    → place ≡ first + i → AreBelow first old → now ≡ old ++ places_from types k first (bindings_of (take i os))
    → here ≡ is_under types o.kind.name k → new ≡ cond here (once place now) now
    → new ≡ old ++ places_from types k first (bindings_of (take (i + 1) os))
object-more types k first place i os o old now new here l m c f a u b =
    let grown : take (i + 1) os ≡ take i os ++ o ∷ [] = rw add-one (take-suc os i o l ∙ ap (λ y. take i os ++ y ∷ []) (sym m)) in
    let len : length (take i os) ≡ i = length-take-le i os (omega (arith, l)) in
    let bs = length-bindings (take i os) in
    let q : place ≡ first + length (bindings_of (take i os)) = omega (arith, len, bs, c) in
    let below : AreBelow place now = subst (AreBelow place) (sym a) (below-append place old _ (below-more first place old (omega (arith, c)) f) (below-places types k first place (bindings_of (take i os)) q)) in
    let split : places_from types k first (bindings_of (take (i + 1) os)) ≡ places_from types k first (bindings_of (take i os)) ++ places_from types k place (bindings_of (o ∷ [])) =
    ap (λ xs. places_from types k first (bindings_of xs)) grown ∙ ap (places_from types k first) (map-append (λ t. (t.name.name, t.kind.name)) (take i os) (o ∷ []))
    ∙ places-append types k first place (bindings_of (take i os)) (bindings_of (o ∷ [])) q in
    b ∙ ap (λ d. cond d (once place now) now) u ∙ by (is_under types o.kind.name k) below
    ∙ ap (λ xs. xs ++ cond (is_under types o.kind.name k) (place ∷ []) []) a ∙ append_assoc old _ _ ∙ ap (λ xs. old ++ xs) (sym split)
  where
    by : (d : Bool) → AreBelow place now → cond d (once place now) now ≡ now ++ cond d (place ∷ []) []
    by true h = ap (λ b. cond b now (now ++ place ∷ [])) (below-ends place now h)
    by false h = sym (append-nil now)

pub objects-all :
    (types : List Binding) (k : List ℕ) (first i : ℕ) (os : List TypedName) (old now : List ℕ) → length os ≤ i
    → now ≡ old ++ places_from types k first (bindings_of (take i os)) → now ≡ old ++ places_from types k first (bindings_of os)
objects-all types k first i os old now l a = a ∙ ap (λ ts. old ++ places_from types k first (bindings_of ts)) (take-past os i l)

-- ---- the constants come first

pub start-none : (names lists : List (List ℕ)) (k : List ℕ) → names ≡ [] → places_of names lists k ≡ []
start-none names lists k e = ap (λ ns. places_of ns lists k) e

pub below-first :
    (types : List Binding) (k : List ℕ) (constants : List TypedName) (none all : List ℕ) → none ≡ [] → all ≡ none ++ places_from types k 0 (bindings_of constants)
    → AreBelow (length constants) all
below-first types k constants none all e a =
    let b = length-bindings constants in
    subst (AreBelow (length constants)) (sym (a ∙ ap (λ xs. xs ++ places_from types k 0 (bindings_of constants)) e))
    (below-places types k 0 (length constants) (bindings_of constants) (omega (arith, b)))
