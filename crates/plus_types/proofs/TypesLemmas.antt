-- Ways up from a type.
use Rattle.std.proofs.Common.{◌≡◌, ℕ, zero, suc, ◌+◌, Bool, true, false, List, [], ◌∷◌, ◌++◌, ap, sym, refl, ◌∙◌, cond, not, ◌||◌, ◌&&◌, true≢false, Option, Some, None, length, drop, get_or, take, ◌<◌, ◌≤◌, ◌==◌, arith}
use Rattle.std.specs.List.{list_any}
use Rattle.std.proofs.lemmas.List.Folds.{list_any-append, list_any_more}
use Rattle.std.proofs.lemmas.Slice.Eq.{bytes_eq-Decides}
use Rattle.std.proofs.lemmas.Bool.Decides.{Decides-eqb}
use Rattle.plus_tree.specs.declared.terms.TypedName.{TypedName}
use Rattle.plus_tree.specs.Expr.{Expr, exprs_of}
use Rattle.plus_types.specs.Faults.{are_clock_and_rate}
use Rattle.std.specs.Str.{bytes_eq}
use Rattle.plus_types.specs.Types.{is_among, Binding, bindings_of, bound_kinds, kind_of, object_name, right_above, is_above_within, is_above, is_under}
use Rattle.plus_types.specs.Listed.{under_object, one_above, IsListed}

-- no step up is no way up; a way up goes through a type right above
pub within-zero : (types : List Binding) (high low : List ℕ) → is_above_within types zero high low ≡ false
unfolding is_above_within
within-zero types high low = refl

pub within-suc :
    (types : List Binding) (n : ℕ) (high low : List ℕ)
    → is_above_within types (suc n) high low ≡ list_any (λ k. bytes_eq high k || is_above_within types n high k) (right_above types low)
unfolding is_above_within
within-suc types n high low = refl

pub above-is : (types : List Binding) (high low : List ℕ) → is_above types high low ≡ is_above_within types (suc (length types)) high low
unfolding is_above
above-is types high low = refl

pub under-is : (types : List Binding) (low high : List ℕ) → is_under types low high ≡ (bytes_eq high low || is_above types high low)
unfolding is_under
under-is types low high = refl

-- nothing is above `object`
pub none-above-object : (types : List Binding) (above : List (List ℕ)) (n : ℕ) (high : List ℕ) → IsListed types above → is_above_within types n high object_name ≡ false
none-above-object types above zero high h = within-zero types high object_name
none-above-object types above (suc n) high h =
    within-suc types n high object_name ∙ ap (list_any (λ k. bytes_eq high k || is_above_within types n high k)) (h.chain object_name ∙ ap (λ o. one_above o object_name) h.top)

-- where only `object` is right above, nothing else is above
pub under-object-false :
    (types : List Binding) (above : List (List ℕ)) (n : ℕ) (high low : List ℕ) → IsListed types above → bytes_eq high object_name ≡ false
    → list_any (λ k. bytes_eq high k || is_above_within types n high k) (under_object low) ≡ false
under-object-false types above n high low h ne = by (bytes_eq low object_name)
  where
    by : (b : Bool) → list_any (λ k. bytes_eq high k || is_above_within types n high k) (cond b [] (object_name ∷ [])) ≡ false
    by true = refl
    by false = rw (ne, none-above-object types above n high h) refl

pub climb-none :
    (types : List Binding) (above : List (List ℕ)) (n : ℕ) (high low : List ℕ) → IsListed types above → bytes_eq high object_name ≡ false
    → kind_of types low ≡ None → is_above_within types (suc n) high low ≡ false
climb-none types above n high low h ne e =
    within-suc types n high low ∙ ap (list_any (λ k. bytes_eq high k || is_above_within types n high k)) (h.chain low ∙ ap (λ o. one_above o low) e)
    ∙ under-object-false types above n high low h ne

pub or-false : (a b : Bool) → b ≡ false → (a || b) ≡ a
or-false true b e = refl
or-false false b e = e

pub climb-some :
    (types : List Binding) (above : List (List ℕ)) (n : ℕ) (high low up : List ℕ) → IsListed types above → bytes_eq high object_name ≡ false
    → kind_of types low ≡ Some up → is_above_within types (suc n) high low ≡ (bytes_eq high up || is_above_within types n high up)
climb-some types above n high low up h ne e =
    within-suc types n high low ∙ ap (list_any (λ k. bytes_eq high k || is_above_within types n high k)) (h.chain low ∙ ap (λ o. one_above o low) e)
    ∙ or-false _ _ (under-object-false types above n high low h ne)

pub or-right : (a b : Bool) → b ≡ true → (a || b) ≡ true
or-right true b e = refl
or-right false b e = e

pub mixed : (a b c d : Bool) → ((a || b) || (c || d)) ≡ ((a || c) || (b || d))
mixed true b c d = refl
mixed false true true d = refl
mixed false true false d = refl
mixed false false true d = refl
mixed false false false d = refl

pub or-assoc : (a b c : Bool) → ((a || b) || c) ≡ (a || (b || c))
or-assoc true b c = refl
or-assoc false b c = refl

pub or-turn : (a b c : Bool) → ((a || b) || c) ≡ ((a || c) || b)
or-turn true b c = refl
or-turn false true true = refl
or-turn false true false = refl
or-turn false false true = refl
or-turn false false false = refl

pub and-or : (a c b : Bool) → ((a && b) || (c && b)) ≡ ((a || c) && b)
and-or true true true = refl
and-or true true false = refl
and-or true false true = refl
and-or true false false = refl
and-or false true b = refl
and-or false false b = refl

pub or-known : (a b : Bool) → (a || b) ≡ true → (b ≡ true → a ≡ true) → a ≡ true
or-known true b e f = refl
or-known false b e f = f e

-- ---- tests of lists

pub same-bytes : (xs ys : List ℕ) → bytes_eq xs ys ≡ true → xs ≡ ys
same-bytes xs ys e = (bytes_eq-Decides xs ys).0 e

pub bytes-self : (xs : List ℕ) → bytes_eq xs xs ≡ true
bytes-self xs = (bytes_eq-Decides xs xs).1 refl

pub bool-both : (a b : Bool) → (a ≡ true → b ≡ true) → (b ≡ true → a ≡ true) → a ≡ b
bool-both true true f g = refl
bool-both true false f g = sym (f refl)
bool-both false true f g = g refl
bool-both false false f g = refl

pub bytes-swap : (xs ys : List ℕ) → bytes_eq xs ys ≡ bytes_eq ys xs
bytes-swap xs ys =
    bool-both (bytes_eq xs ys) (bytes_eq ys xs)
    (λ e. rw (same-bytes xs ys e) (bytes-self ys)) (λ e. rw (same-bytes ys xs e) (bytes-self xs))

-- a member that passes
pub record Passes {X : Type 0} (p : X → Bool) (is : X → Bool) : Type 0 where
  pub member : X
  pub there : is member ≡ true
  pub passes : p member ≡ true

pub any-passes : (p : List ℕ → Bool) (xs : List (List ℕ)) → list_any p xs ≡ true → Passes p (is_among xs)
any-passes p [] e = absurd (true≢false (sym e))
any-passes p (x ∷ xs) e = by (p x) refl e (any-passes p xs)
  where
    by : (b : Bool) → p x ≡ b → (b || list_any p xs) ≡ true → (list_any p xs ≡ true → Passes p (is_among xs)) → Passes p (is_among (x ∷ xs))
    by true q e more = record { member = x; there = ap (λ b. b || is_among xs x) (bytes-self x); passes = q }
    by false q e more =
        let w = more e in
        record { member = w.member; there = or-right (bytes_eq w.member x) (is_among xs w.member) w.there; passes = w.passes }

pub among-any : (p : List ℕ → Bool) (x : List ℕ) (ys : List (List ℕ)) → is_among ys x ≡ true → p x ≡ true → list_any p ys ≡ true
among-any p x [] e h = absurd (true≢false (sym e))
among-any p x (y ∷ ys) e h = by (bytes_eq x y) refl e (among-any p x ys)
  where
    by : (b : Bool) → bytes_eq x y ≡ b → (b || is_among ys x) ≡ true → (is_among ys x ≡ true → p x ≡ true → list_any p ys ≡ true) → (p y || list_any p ys) ≡ true
    by true q e more = ap (λ b. b || list_any p ys) (ap p (sym (same-bytes x y q)) ∙ h)
    by false q e more = or-right (p y) (list_any p ys) (more e h)

-- two lists with the same members pass the same tests
pub any-same : (p : List ℕ → Bool) (xs ys : List (List ℕ)) → ((k : List ℕ) → is_among xs k ≡ is_among ys k) → list_any p xs ≡ list_any p ys
any-same p xs ys h =
    bool-both (list_any p xs) (list_any p ys)
    (λ e. let w = any-passes p xs e in among-any p w.member ys (sym (h w.member) ∙ w.there) w.passes)
    (λ e. let w = any-passes p ys e in among-any p w.member xs (h w.member ∙ w.there) w.passes)

pub any-or : {X : Type 0} (p q : X → Bool) (xs : List X) → list_any (λ x. p x || q x) xs ≡ (list_any p xs || list_any q xs)
any-or p q [] = refl
any-or p q (x ∷ xs) = ap (λ b. (p x || q x) || b) (any-or p q xs) ∙ mixed (p x) (q x) (list_any p xs) (list_any q xs)

-- all that stand above the members of a list
pub flat : (List ℕ → List (List ℕ)) → List (List ℕ) → List (List ℕ)
flat f [] = []
flat f (x ∷ xs) = f x ++ flat f xs

pub any-flat : (f : List ℕ → List (List ℕ)) (p : List ℕ → Bool) (xs : List (List ℕ)) → list_any p (flat f xs) ≡ list_any (λ x. list_any p (f x)) xs
unfolding flat
any-flat f p [] = refl
any-flat f p (x ∷ xs) = list_any-append p (f x) (flat f xs) ∙ ap (λ b. list_any p (f x) || b) (any-flat f p xs)

-- one level up: what is above one of a level is one of the next, or is above one of them
pub level-up :
    (types : List Binding) (n : ℕ) (high : List ℕ) (level up : List (List ℕ))
    → ((k : List ℕ) → is_among up k ≡ list_any (λ low. is_among (right_above types low) k) level)
    → list_any (λ low. is_above_within types (suc n) high low) level ≡ (is_among up high || list_any (λ low. is_above_within types n high low) up)
unfolding is_above_within
level-up types n high level up h =
    let q = λ (k : List ℕ). bytes_eq high k || is_above_within types n high k in
    sym (any-flat (right_above types) q level)
    ∙ any-same q (flat (right_above types) level) up (λ k. any-flat (right_above types) (bytes_eq k) level ∙ sym (h k))
    ∙ any-or (bytes_eq high) (λ k. is_above_within types n high k) up

-- ---- a level is gathered by going through the list of types

pub any-and : (p : List ℕ → Bool) (b : Bool) (xs : List (List ℕ)) → list_any (λ x. p x && b) xs ≡ (list_any p xs && b)
any-and p b [] = refl
any-and p b (x ∷ xs) = ap (λ c. (p x && b) || c) (any-and p b xs) ∙ and-or (p x) (list_any p xs) b

pub any-ext : {X : Type 0} (p q : X → Bool) → ((x : X) → p x ≡ q x) → (xs : List X) → list_any p xs ≡ list_any q xs
any-ext p q h [] = refl
any-ext p q h (x ∷ xs) = ap (λ b. b || list_any p xs) (h x) ∙ ap (λ b. q x || b) (any-ext p q h xs)

pub among-under-object : (low k : List ℕ) → is_among (under_object low) k ≡ (not (bytes_eq low object_name) && bytes_eq k object_name)
among-under-object low k = by (bytes_eq low object_name) (bytes_eq k object_name)
  where
    by : (b d : Bool) → list_any (bytes_eq k) (cond b [] (object_name ∷ [])) ≡ (not b && bytes_eq k object_name)
    by true d = refl
    by false d = or-false (bytes_eq k object_name) false refl

pub among-above :
    (b : Binding) (bs : List Binding) (low k : List ℕ)
    → is_among (right_above (b ∷ bs) low) k ≡ ((bytes_eq low b.0 && bytes_eq k b.1) || is_among (right_above bs low) k)
among-above b bs low k = by (bytes_eq low b.0)
  where
    by :
        (d : Bool) → list_any (bytes_eq k) (cond d (b.1 ∷ right_above bs low) (right_above bs low))
        ≡ ((d && bytes_eq k b.1) || is_among (right_above bs low) k)
    by true = refl
    by false = refl

pub gathered :
    (types : List TypedName) (level : List (List ℕ)) (k : List ℕ)
    → (list_any (λ t. is_among level t.name.name && bytes_eq k t.kind.name) types || (list_any (λ x. not (bytes_eq x object_name)) level && bytes_eq k object_name))
    ≡ list_any (λ low. is_among (right_above (bindings_of types) low) k) level
gathered [] level k =
    sym (any-and (λ x. not (bytes_eq x object_name)) (bytes_eq k object_name) level)
    ∙ any-ext _ _ (λ low. sym (among-under-object low k)) level
gathered (t ∷ ts) level k =
    let rest = list_any (λ x. not (bytes_eq x object_name)) level && bytes_eq k object_name in
    or-assoc (is_among level t.name.name && bytes_eq k t.kind.name) (list_any (λ u. is_among level u.name.name && bytes_eq k u.kind.name) ts) rest
    ∙ ap (λ b. (is_among level t.name.name && bytes_eq k t.kind.name) || b) (gathered ts level k)
    ∙ ap (λ b. (b && bytes_eq k t.kind.name) || list_any (λ low. is_among (right_above (bindings_of ts) low) k) level) (any-ext (bytes_eq t.name.name) (λ low. bytes_eq low t.name.name) (λ low. bytes-swap t.name.name low) level)
    ∙ ap (λ b. b || list_any (λ low. is_among (right_above (bindings_of ts) low) k) level) (sym (any-and (λ low. bytes_eq low t.name.name) (bytes_eq k t.kind.name) level))
    ∙ sym (any-or (λ low. bytes_eq low t.name.name && bytes_eq k t.kind.name) (λ low. is_among (right_above (bindings_of ts) low) k) level)
    ∙ any-ext _ _ (λ low. sym (among-above (t.name.name, t.kind.name) (bindings_of ts) low k)) level

-- a name that is added, new or not
pub among-added :
    (old new : List (List ℕ)) (name : List ℕ) (fresh : Bool) → fresh ≡ not (is_among old name) → new ≡ cond fresh (old ++ name ∷ []) old
    → (k : List ℕ) → is_among new k ≡ (is_among old k || bytes_eq k name)
among-added old new name fresh e n k = by (is_among old name) refl
  where
    by : (b : Bool) → is_among old name ≡ b → is_among new k ≡ (is_among old k || bytes_eq k name)
    by false h =
        let f : fresh ≡ true = e ∙ ap not h in
        ap (λ xs. is_among xs k) (n ∙ ap (λ c. cond c (old ++ name ∷ []) old) f) ∙ list_any-append (bytes_eq k) old (name ∷ [])
        ∙ ap (λ b. is_among old k || b) (or-false (bytes_eq k name) false refl)
    by true h =
        let f : fresh ≡ false = e ∙ ap not h in
        ap (λ xs. is_among xs k) (n ∙ ap (λ c. cond c (old ++ name ∷ []) old) f)
        ∙ bool-both (is_among old k) (is_among old k || bytes_eq k name)
        (λ w. ap (λ b. b || bytes_eq k name) w)
        (λ w. or-known (is_among old k) (bytes_eq k name) w (λ q. ap (is_among old) (same-bytes k name q) ∙ h))

-- `object` is above all other types
pub object-above :
    (types : List Binding) (n : ℕ) (low : List ℕ) → ((k : List ℕ) → right_above types k ≡ one_above (kind_of types k) k) → bytes_eq low object_name ≡ false
    → is_above_within types (suc n) object_name low ≡ true
object-above types n low chain w =
    let q = λ (k : List ℕ). bytes_eq object_name k || is_above_within types n object_name k in
    let top : list_any q (under_object low) ≡ true = ap (λ b. list_any q (cond b [] (object_name ∷ []))) w in
    within-suc types n object_name low ∙ ap (list_any q) (chain low) ∙ by (kind_of types low) top
  where
    by : (o : Option (List ℕ)) → list_any (λ k. bytes_eq object_name k || is_above_within types n object_name k) (under_object low) ≡ true
        → list_any (λ k. bytes_eq object_name k || is_above_within types n object_name k) (one_above o low) ≡ true
    by None top = top
    by (Some up) top = or-right (bytes_eq object_name up || is_above_within types n object_name up) _ top

-- `object` is above all types but itself
pub top-above : (types : List Binding) (above : List (List ℕ)) (high low : List ℕ) → IsListed types above → bytes_eq high object_name ≡ true → is_above types high low ≡ not (bytes_eq low object_name)
top-above types above high low h e =
    ap (λ x. is_above types x low) (same-bytes high object_name e) ∙ above-is types object_name low ∙ by (bytes_eq low object_name) refl
  where
    by : (b : Bool) → bytes_eq low object_name ≡ b → is_above_within types (suc (length types)) object_name low ≡ not b
    by true w = ap (is_above_within types (suc (length types)) object_name) (same-bytes low object_name w) ∙ none-above-object types above (suc (length types)) object_name h
    by false w = object-above types (length types) low h.chain w

-- one more of the list of types
pub gathered-more :
    (level : List (List ℕ)) (types : List TypedName) (i : ℕ) (t : TypedName) (rest old new : Bool) (k : List ℕ) → i < length types → t ≡ get_or types i t
    → old ≡ (list_any (λ u. is_among level u.name.name && bytes_eq k u.kind.name) (take i types) || rest)
    → new ≡ (old || (is_among level t.name.name && bytes_eq k t.kind.name))
    → new ≡ (list_any (λ u. is_among level u.name.name && bytes_eq k u.kind.name) (take (i + 1) types) || rest)
gathered-more level types i t rest old new k h m a b =
    let p = λ (u : TypedName). is_among level u.name.name && bytes_eq k u.kind.name in
    b ∙ ap (λ c. c || p t) a ∙ or-turn (list_any p (take i types)) rest (p t) ∙ ap (λ c. (list_any p (take i types) || c) || rest) (ap p m)
    ∙ ap (λ c. c || rest) (sym (list_any_more p types i t h))

pub none-of-none : (p : List ℕ → Bool) (xs : List (List ℕ)) → (length xs == 0) ≡ true → list_any p xs ≡ false
none-of-none p [] e = refl
none-of-none p (x ∷ xs) e = let n : length (x ∷ xs) ≡ 0 = (Decides-eqb (length (x ∷ xs)) 0).0 e in absurd (omega arith)

pub not-two : (xs : List Expr) → (length xs ≡ 2 → ⊥) → are_clock_and_rate (exprs_of xs) ≡ false
not-two [] h = refl
not-two (x ∷ []) h = refl
not-two (x ∷ y ∷ []) h = absurd (h refl)
not-two (x ∷ y ∷ z ∷ zs) h = refl

pub take-past : {X : Type 0} (xs : List X) (i : ℕ) → length xs ≤ i → take i xs ≡ xs
take-past [] zero h = refl
take-past [] (suc i) h = refl
take-past (x ∷ xs) zero h = absurd (omega arith)
take-past (x ∷ xs) (suc i) h = ap (λ ys. x ∷ ys) (take-past xs i (omega arith))

pub kinds-any : (types : List TypedName) (k : List ℕ) → list_any (λ t. bytes_eq k t.kind.name) types ≡ is_among (bound_kinds (bindings_of types)) k
kinds-any [] k = refl
kinds-any (t ∷ ts) k = ap (λ b. bytes_eq k t.kind.name || b) (kinds-any ts k)

-- nothing is above a level in no step
pub none-within : (types : List Binding) (high : List ℕ) (level : List (List ℕ)) → list_any (λ low. is_above_within types 0 high low) level ≡ false
none-within types high [] = refl
none-within types high (x ∷ xs) = ap (λ b. b || list_any (λ low. is_above_within types 0 high low) xs) (within-zero types high x) ∙ none-within types high xs

pub drop-past : {X : Type 0} (xs : List X) (i : ℕ) → length xs ≤ i → drop i xs ≡ []
drop-past [] zero h = refl
drop-past [] (suc i) h = refl
drop-past (x ∷ xs) zero h = absurd (omega arith)
drop-past (x ∷ xs) (suc i) h = drop-past xs i (omega arith)
