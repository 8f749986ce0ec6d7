-- Steps up from a type: by depths, and by jumps over several.
use Rattle.std.proofs.Common.{◌≡◌, ℕ, zero, suc, ◌+◌, ◌<◌, ◌≤◌, Bool, true, false, List, [], ◌∷◌, ◌++◌, ap, sym, refl, ◌∙◌, subst, cond, ◌||◌, true≢false, Option, Some, None, length, get_or, position, nat_eq, ltb, leb, arith}
use Rattle.std.proofs.lemmas.Bool.{ltb-false, leb-false}
use Rattle.std.proofs.lemmas.Bool.Decides.{Decides-eqb}
use Rattle.std.proofs.lemmas.List.{length_push, get_or_push, get_or_append_left, get_or-map}
use Rattle.std.specs.List.{list_any, position_from}
use Rattle.std.specs.Str.{bytes_eq}
use Rattle.std.proofs.lemmas.List.Quantifiers.{position-Some}
use Rattle.plus_tree.specs.declared.terms.TypedName.{TypedName}
use Rattle.plus_types.specs.Types.{Binding, bindings_of, bound_names, kind_of, object_name, is_above_within, is_above, is_under}
use Rattle.plus_types.specs.Ranks.{rank_at, rank_of}
use Rattle.plus_types.specs.Listed.{IsListed, name_at}
use Rattle.plus_types.specs.Jumps.{depth_of, AreDepths, AreAlike, Reaches, LeadUp, AllLeadUp}
use Rattle.plus_types.specs.declared.jumps.Steps.{Steps}
use Rattle.plus_types.proofs.TypesLemmas.{within-zero, above-is, under-is, climb-none, climb-some, bytes-self, bytes-swap, same-bytes, or-false}
use Rattle.plus_types.proofs.RankLemmas.{other-rank, under-top}
use Rattle.plus_types.proofs.PlaceLemmas.{from-zero, place-least}
use Rattle.plus_types.proofs.ListLemmas.{or-none, or-rest}

-- ---- numbers and names of listed types

pub position-here : (types : List Binding) (name : List ℕ) (i : ℕ) → position (bytes_eq name) (bound_names types) ≡ Some i → name ≡ name_at types i
position-here types name i e = same-bytes name (name_at types i) (position-Some (bytes_eq name) (bound_names types) i [] e).1

pub depth-there :
    (types : List Binding) (depths : List ℕ) (name : List ℕ) (i : ℕ) → position (bytes_eq name) (bound_names types) ≡ Some i
    → depth_of types depths name ≡ get_or depths i 0
depth-there types depths name i e = ap (rank_at depths) e

pub depth-none :
    (types : List Binding) (depths : List ℕ) (name : List ℕ) → position (bytes_eq name) (bound_names types) ≡ None
    → depth_of types depths name ≡ 0
depth-none types depths name e = ap (rank_at depths) e

-- the type of a name stands at its place
kind-from :
    (name : List ℕ) (i j m : ℕ) (d : Binding) (bs : List Binding) → position_from (bytes_eq name) i (bound_names bs) ≡ Some j → j ≡ i + m
    → kind_of bs name ≡ Some (get_or bs m d).1
kind-from name i j m d [] e q = cc
kind-from name i j zero d (b ∷ bs) e q = by (bytes_eq name b.0) e (place-least (bytes_eq name) (i + 1) j (bound_names bs))
  where
    by :
        (t : Bool) → cond t (Some i) (position_from (bytes_eq name) (i + 1) (bound_names bs)) ≡ Some j
        → (position_from (bytes_eq name) (i + 1) (bound_names bs) ≡ Some j → i + 1 ≤ j)
        → cond t (Some b.1) (kind_of bs name) ≡ Some b.1
    by true e least = refl
    by false e least = let w : i + 1 ≤ j = least e in absurd (omega arith)
kind-from name i j (suc m) d (b ∷ bs) e q = by (bytes_eq name b.0) e (kind-from name (i + 1) j m d bs)
  where
    by :
        (t : Bool) → cond t (Some i) (position_from (bytes_eq name) (i + 1) (bound_names bs)) ≡ Some j
        → (position_from (bytes_eq name) (i + 1) (bound_names bs) ≡ Some j → j ≡ i + 1 + m → kind_of bs name ≡ Some (get_or bs m d).1)
        → cond t (Some b.1) (kind_of bs name) ≡ Some (get_or bs m d).1
    by true e more = let w : i ≡ j = cc in absurd (omega arith)
    by false e more = more e (omega arith)

pub kind-there :
    (types : List Binding) (name : List ℕ) (i : ℕ) (d : Binding) → position (bytes_eq name) (bound_names types) ≡ Some i
    → kind_of types name ≡ Some (get_or types i d).1
kind-there types name i d e = kind-from name 0 i i d types (from-zero (bytes_eq name) (bound_names types) (Some i) e) (omega arith)

-- a member of the list, by its number
pub binding-at :
    (ts : List TypedName) (i : ℕ) (t : TypedName) (d : Binding) → i < length ts → t ≡ get_or ts i t → get_or (bindings_of ts) i d ≡ (t.name.name, t.kind.name)
binding-at ts i t d h e =
    let f : TypedName → Binding = λ x. (x.name.name, x.kind.name) in
    get_or-map f ts i t d h ∙ ap f (sym e)

-- ---- depths

-- no type is above one that stands no deeper
none-above-deeper :
    (types : List Binding) (above : List (List ℕ)) (depths : List ℕ) (n : ℕ) (high low : List ℕ) → IsListed types above → AreDepths types depths
    → bytes_eq high object_name ≡ false → depth_of types depths low ≤ depth_of types depths high → is_above_within types n high low ≡ false
none-above-deeper types above depths zero high low h d ne l = within-zero types high low
none-above-deeper types above depths (suc n) high low h d ne l =
    by (kind_of types low) refl (λ up m. none-above-deeper types above depths n high up h d ne m)
  where
    by :
        (o : Option (List ℕ)) → kind_of types low ≡ o
        → ((up : List ℕ) → depth_of types depths up ≤ depth_of types depths high → is_above_within types n high up ≡ false)
        → is_above_within types (suc n) high low ≡ false
    by None e more = climb-none types above n high low h ne e
    by (Some up) e more =
        let less : depth_of types depths up < depth_of types depths low = (d low up e).0 in
        let lower : depth_of types depths up < depth_of types depths high = omega (arith, less, l) in
        climb-some types above n high low up h ne e
        ∙ ap (λ b. b || is_above_within types n high up) (other-rank (depth_of types depths) high up lower)
        ∙ more up (omega (arith, lower))

-- more steps than a type is deep lead nowhere else
settled :
    (types : List Binding) (above : List (List ℕ)) (depths : List ℕ) (n : ℕ) (high low : List ℕ) → IsListed types above → AreDepths types depths
    → bytes_eq high object_name ≡ false → depth_of types depths low ≤ n → is_above_within types n high low ≡ is_above_within types (suc n) high low
settled types above depths zero high low h d ne l = by (kind_of types low) refl
  where
    by : (o : Option (List ℕ)) → kind_of types low ≡ o → is_above_within types zero high low ≡ is_above_within types (suc zero) high low
    by None e = within-zero types high low ∙ sym (climb-none types above zero high low h ne e)
    by (Some up) e = let less : depth_of types depths up < depth_of types depths low = (d low up e).0 in absurd (omega (arith, less, l))
settled types above depths (suc n) high low h d ne l =
    by (kind_of types low) refl (λ up m. settled types above depths n high up h d ne m)
  where
    by :
        (o : Option (List ℕ)) → kind_of types low ≡ o
        → ((up : List ℕ) → depth_of types depths up ≤ n → is_above_within types n high up ≡ is_above_within types (suc n) high up)
        → is_above_within types (suc n) high low ≡ is_above_within types (suc (suc n)) high low
    by None e more = climb-none types above n high low h ne e ∙ sym (climb-none types above (suc n) high low h ne e)
    by (Some up) e more =
        let less : depth_of types depths up < depth_of types depths low = (d low up e).0 in
        climb-some types above n high low up h ne e
        ∙ ap (λ b. bytes_eq high up || b) (more up (omega (arith, less, l)))
        ∙ sym (climb-some types above (suc n) high low up h ne e)

-- what stands less deep is above a type where it is the type right above, or above that
above-step :
    (types : List Binding) (above : List (List ℕ)) (depths : List ℕ) (high low up : List ℕ) → IsListed types above → AreDepths types depths
    → bytes_eq high object_name ≡ false → kind_of types low ≡ Some up → is_above types high low ≡ is_under types up high
above-step types above depths high low up h d ne e =
    let less : depth_of types depths up < depth_of types depths low = (d low up e).0 in
    let few : depth_of types depths low ≤ length types = (d low up e).1 in
    above-is types high low ∙ climb-some types above (length types) high low up h ne e
    ∙ ap (λ b. bytes_eq high up || b) (settled types above depths (length types) high up h d ne (omega (arith, less, few)) ∙ sym (above-is types high up))
    ∙ sym (under-is types up high)

-- a type is under the same types of less depth as the type right above it
pub under-step :
    (types : List Binding) (above : List (List ℕ)) (depths : List ℕ) (high low up : List ℕ) → IsListed types above → AreDepths types depths
    → kind_of types low ≡ Some up → depth_of types depths high ≤ depth_of types depths up → is_under types low high ≡ is_under types up high
under-step types above depths high low up h d e l = by (bytes_eq high object_name) refl
  where
    by : (b : Bool) → bytes_eq high object_name ≡ b → is_under types low high ≡ is_under types up high
    by true q = under-top types above low high h q ∙ sym (under-top types above up high h q)
    by false q =
        let less : depth_of types depths up < depth_of types depths low = (d low up e).0 in
        let other = other-rank (depth_of types depths) low high (omega (arith, less, l)) in
        under-is types low high
        ∙ ap (λ b. b || is_above types high low) (bytes-swap high low ∙ other)
        ∙ above-step types above depths high low up h d q e

-- no listed type that stands no deeper is above another
pub not-under :
    (types : List Binding) (above : List (List ℕ)) (depths : List ℕ) (high low : List ℕ) → IsListed types above → AreDepths types depths
    → bytes_eq high object_name ≡ false → bytes_eq high low ≡ false → depth_of types depths low ≤ depth_of types depths high → is_under types low high ≡ false
not-under types above depths high low h d ne other l =
    under-is types low high ∙ ap (λ b. b || is_above types high low) other ∙ above-is types high low
    ∙ none-above-deeper types above depths (suc (length types)) high low h d ne l

-- a member of the list that stands no deeper than the one above it, or too deep
abbrev pub misplaced : (List ℕ → ℕ) → ℕ → TypedName → Bool
misplaced d n t = leb (d t.name.name) (d t.kind.name) || ltb n (d t.name.name)

-- where there is none, each listed type stands deeper than the one above it
pub well-placed :
    (ts : List TypedName) (d : List ℕ → ℕ) (n : ℕ) → list_any (misplaced d n) ts ≡ false → (k up : List ℕ) → kind_of (bindings_of ts) k ≡ Some up
    → (d up < d k) × (d k ≤ n)
well-placed [] d n f k up e = cc
well-placed (t ∷ ts) d n f k up e =
    by (bytes_eq k t.name.name) refl e (or-none (misplaced d n t) (list_any (misplaced d n) ts) f)
    (well-placed ts d n (or-rest (misplaced d n t) (list_any (misplaced d n) ts) f) k up)
  where
    by :
        (b : Bool) → bytes_eq k t.name.name ≡ b → cond b (Some t.kind.name) (kind_of (bindings_of ts) k) ≡ Some up → misplaced d n t ≡ false
        → (kind_of (bindings_of ts) k ≡ Some up → (d up < d k) × (d k ≤ n)) → (d up < d k) × (d k ≤ n)
    by true q e fine more =
        let kind : t.kind.name ≡ up = cc in
        let deep : d k ≡ d t.name.name = ap d (same-bytes k t.name.name q) in
        let high : d t.kind.name ≡ d up = ap d kind in
        let less : d t.kind.name < d t.name.name = leb-false (d t.name.name) (d t.kind.name) (or-none (leb (d t.name.name) (d t.kind.name)) (ltb n (d t.name.name)) fine) in
        let few : d t.name.name ≤ n = ltb-false n (d t.name.name) (or-rest (leb (d t.name.name) (d t.kind.name)) (ltb n (d t.name.name)) fine) in
        (omega (arith, deep, high, less), omega (arith, deep, few))
    by false q e fine more = more e

-- ---- two types under the same ones

pub reaches-on :
    (types : List Binding) (depths : List ℕ) (i j k : ℕ) → get_or depths k 0 ≤ get_or depths j 0 → Reaches types depths i j → Reaches types depths j k
    → Reaches types depths i k
reaches-on types depths i j k le f g high l = f high (omega (arith, le, l)) ∙ g high l

-- the type right above a listed one is reached from it
pub reaches-up :
    (types : List Binding) (above : List (List ℕ)) (depths : List ℕ) (i up : ℕ) (b : Binding) → IsListed types above → AreDepths types depths
    → i < length types → get_or types i b ≡ b → position (bytes_eq b.1) (bound_names types) ≡ Some up → Reaches types depths i up
reaches-up types above depths i up b h d m here e high l =
    let there : b.1 ≡ name_at types up = position-here types b.1 up e in
    let kind : kind_of types (name_at types i) ≡ Some b.1 = kind-there types (name_at types i) i b (h.places i m) ∙ ap (λ (x : Binding). Some x.1) here in
    let deep : depth_of types depths b.1 ≡ get_or depths up 0 = depth-there types depths b.1 up e in
    under-step types above depths high (name_at types i) b.1 h d kind (omega (arith, l, deep)) ∙ ap (λ k. is_under types k high) there

-- ---- steps up

-- steps that stay
pub stay-lead : (types : List Binding) (depths : List ℕ) (i : ℕ) → LeadUp types depths i (record { up = i; jump = i })
stay-lead types depths i = record { up = λ high l. refl; jump = λ high l. refl }

same-lead : (types : List Binding) (depths : List ℕ) (i j : ℕ) (r s : Steps) → j ≡ i → r ≡ s → LeadUp types depths i s → LeadUp types depths j r
same-lead types depths i j r s e f is =
    subst (λ (k : ℕ). LeadUp types depths k r) (sym e) (subst (λ (t : Steps). LeadUp types depths i t) (sym f) is)

pub push-lead :
    (types : List Binding) (depths : List ℕ) (all : List Steps) (i : ℕ) (s : Steps) → AllLeadUp types depths all → LeadUp types depths i s → length all ≡ i
    → AllLeadUp types depths (all ++ s ∷ [])
push-lead types depths all i s lead is n j r h e = by (nat_eq j i) refl
  where
    by : (b : Bool) → nat_eq j i ≡ b → LeadUp types depths j r
    by true q =
        let same : j ≡ i = (Decides-eqb j i).0 q in
        same-lead types depths i j r s same (e ∙ ap (λ k. get_or (all ++ s ∷ []) k r) same ∙ get_or_push all s r i n) is
    by false q =
        let other : j ≡ i → ⊥ = λ w. true≢false (sym ((Decides-eqb j i).1 w) ∙ q) in
        let less : j < length all = omega (arith, h, length_push all s, n, other) in
        lead j r less (e ∙ get_or_append_left all (s ∷ []) r j less)

-- ---- what a query answers

-- two numbers have two names
other-names :
    (types : List Binding) (above : List (List ℕ)) (i j : ℕ) → IsListed types above → i < length types → j < length types → nat_eq i j ≡ false
    → bytes_eq (name_at types j) (name_at types i) ≡ false
other-names types above i j h m n q = by (bytes_eq (name_at types j) (name_at types i)) refl
  where
    by : (b : Bool) → bytes_eq (name_at types j) (name_at types i) ≡ b → b ≡ false
    by true w =
        let same : Some j ≡ Some i =
        sym (h.places j n) ∙ ap (λ k. position (bytes_eq k) (bound_names types)) (same-bytes (name_at types j) (name_at types i) w) ∙ h.places i m in
        let e : i ≡ j = cc in
        sym ((Decides-eqb i j).1 e) ∙ q
    by false w = refl

-- a listed type that was reached, which stands no deeper than another, is under that one only where it is that one
pub reached-listed :
    (types : List Binding) (above : List (List ℕ)) (depths : List ℕ) (start at end : ℕ) → IsListed types above → AreDepths types depths
    → at < length types → end < length types → bytes_eq (name_at types end) object_name ≡ false
    → get_or depths at 0 ≤ get_or depths end 0 → AreAlike types depths (get_or depths end 0) start at
    → nat_eq at end ≡ is_under types (name_at types start) (name_at types end)
reached-listed types above depths start at end h d m n ne l alike =
    let low-deep : depth_of types depths (name_at types at) ≡ get_or depths at 0 = depth-there types depths (name_at types at) at (h.places at m) in
    let high-deep : depth_of types depths (name_at types end) ≡ get_or depths end 0 = depth-there types depths (name_at types end) end (h.places end n) in
    by (nat_eq at end) refl (omega (arith, low-deep, high-deep, l)) ∙ sym (alike (name_at types end) (omega (arith, high-deep)))
  where
    by :
        (b : Bool) → nat_eq at end ≡ b → depth_of types depths (name_at types at) ≤ depth_of types depths (name_at types end)
        → b ≡ is_under types (name_at types at) (name_at types end)
    by true q le =
        let e : at ≡ end = (Decides-eqb at end).0 q in
        let high = name_at types end in
        sym (ap (λ i. is_under types (name_at types i) high) e ∙ under-is types high high ∙ ap (λ b. b || is_above types high high) (bytes-self high))
    by false q le =
        sym (not-under types above depths (name_at types end) (name_at types at) h d ne (other-names types above at end h m n q) le)

-- a listed type that was reached, right above which none is listed, is under one that is not listed only where that is right above it
pub reached-top :
    (types : List Binding) (above : List (List ℕ)) (depths : List ℕ) (start at : ℕ) (high kind : List ℕ) → IsListed types above → AreDepths types depths
    → at < length types → position (bytes_eq high) (bound_names types) ≡ None → bytes_eq high object_name ≡ false
    → kind_of types (name_at types at) ≡ Some kind → get_or depths at 0 ≤ 1 → AreAlike types depths 1 start at
    → bytes_eq high kind ≡ is_under types (name_at types start) high
reached-top types above depths start at high kind h d m none ne e l alike =
    let low-deep : depth_of types depths (name_at types at) ≡ get_or depths at 0 = depth-there types depths (name_at types at) at (h.places at m) in
    let high-deep : depth_of types depths high ≡ 0 = depth-none types depths high none in
    let less : depth_of types depths kind < depth_of types depths (name_at types at) = (d (name_at types at) kind e).0 in
    let nothing : is_above types high kind ≡ false =
    above-is types high kind ∙ none-above-deeper types above depths (suc (length types)) high kind h d ne (omega (arith, less, low-deep, high-deep, l)) in
    sym (or-false (bytes_eq high kind) (is_above types high kind) nothing)
    ∙ sym (under-is types kind high)
    ∙ sym (above-step types above depths high (name_at types at) kind h d ne e)
    ∙ sym (ap (λ b. b || is_above types high (name_at types at)) (unlisted (bytes_eq high (name_at types at)) refl))
    ∙ sym (under-is types (name_at types at) high)
    ∙ sym (alike high (omega (arith, high-deep)))
  where
    unlisted : (b : Bool) → bytes_eq high (name_at types at) ≡ b → b ≡ false
    unlisted true w =
        let same : None ≡ Some at =
        sym none ∙ ap (λ k. position (bytes_eq k) (bound_names types)) (same-bytes high (name_at types at) w) ∙ h.places at m in
        cc
    unlisted false w = refl
