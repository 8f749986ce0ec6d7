-- The timed literals of a well-typed pair have atoms that are there, and come in the order of their times.
use Rattle.std.proofs.Common.{◌≡◌, ℕ, ◌^◌, ◌<◌, Bool, true, false, List, [], ◌∷◌, ◌++◌, ◌∙◌, refl, sym, ap, subst, All, pos, arith, if◌then◌else◌}
use mathlib.Core.Bool.{true≢false}
use Rattle.std.proofs.lemmas.Int.{ints}
use Rattle.std.proofs.lemmas.List.Elements.{All-from_recursion}
use Rattle.std.specs.List.{AllByRecursion, flat_map}
use Rattle.plus_fraction.specs.Fraction.{Fraction, whole, over, ◌<ℚ◌, ◌≤ℚ◌}
use Rattle.plus_fraction.proofs.FractionLaws.{Is-over}
use Rattle.plus_fraction.proofs.FractionOrder.{le_by}
use Rattle.plus_fraction.proofs.FractionAtMost.{le_lt, le_by_not}
use Rattle.plus_fraction.proofs.Compared.{less-compared}
use Rattle.plus_model.specs.Terms.{Below, Timed}
use Rattle.plus_model.specs.Value.{passes}
use Rattle.plus_model.specs.Trajectory.{is_below}
use Rattle.plus_model.proofs.Moments.{from_below}
use Rattle.plus_state.specs.Fits.{AreInOrder}
use Rattle.plus_tree.specs.declared.terms.Literal.{Literal}
use Rattle.plus_tree.specs.declared.trees.Init.{Init}
use Rattle.plus_tree.specs.declared.trees.Init.TheVariants.{Holds, Absent, Value, At, AtNot}
use Rattle.plus_types.specs.Faults.{Context, initial_faults, valued_after, init_faults}
use Rattle.plus_types.proofs.SoundLemmas.{left-none, right-none}
use Rattle.plus_literal.specs.Value.{signed_whole, literal_value}
use Rattle.plus_literal.proofs.Powers.{ten-above}
use Rattle.plus_expansion.specs.Environments.{atom_number}
use Rattle.plus_expansion.specs.Expansion.{literal_at, timed_by, insert_timed, by_time, timed_meant}
use Rattle.plus_expansion.proofs.Conditions.{atoms_of}
use Rattle.plus_expansion.proofs.Uses.{Widens, atom-within}

-- ---- the order

-- what holds of all literals holds of them in order
insert-all : (P : Timed → Type 0) (l : Timed) (ms : List Timed) → P l → AllByRecursion P ms → AllByRecursion P (insert_timed l ms)
insert-all P l [] h a = (h, tt)
insert-all P l (m ∷ ms) h a = by (is_below m.time l.time) (insert-all P l ms h a.1)
  where
    by : (b : Bool) → AllByRecursion P (insert_timed l ms) → AllByRecursion P (if b then m ∷ insert_timed l ms else l ∷ m ∷ ms)
    by true rest = (a.0, rest)
    by false rest = (h, a)

ordered-all : (P : Timed → Type 0) (ls : List Timed) → AllByRecursion P ls → AllByRecursion P (by_time ls)
ordered-all P [] a = tt
ordered-all P (l ∷ ls) a = insert-all P l (by_time ls) a.0 (ordered-all P ls a.1)

not-earlier : (x y : Fraction) → is_below x y ≡ false → y ≤ℚ x
not-earlier x y e = le_by_not y x (λ (l : x <ℚ y). true≢false (sym (ap (passes Below) (less-compared x y l)) ∙ e))

insert-ordered : (from : Fraction) (l : Timed) (ms : List Timed) → from ≤ℚ l.time → AreInOrder from ms → AreInOrder from (insert_timed l ms)
insert-ordered from l [] h o = (h, tt)
insert-ordered from l (m ∷ ms) h o =
    by (is_below m.time l.time) refl (λ e. insert-ordered m.time l ms (le_lt m.time l.time (from_below m.time l.time e)) o.1)
  where
    by :
        (b : Bool) → is_below m.time l.time ≡ b → (is_below m.time l.time ≡ true → AreInOrder m.time (insert_timed l ms))
        → AreInOrder from (if b then m ∷ insert_timed l ms else l ∷ m ∷ ms)
    by true e rest = (o.0, rest e)
    by false e rest = (h, (not-earlier m.time l.time e, o.1))

-- the times of literals that are not before a time do not fall from it on
ordered-from : (from : Fraction) (ls : List Timed) → AllByRecursion (λ (l : Timed). from ≤ℚ l.time) ls → AreInOrder from (by_time ls)
ordered-from from [] a = tt
ordered-from from (l ∷ ls) a = insert-ordered from l (by_time ls) a.0 (ordered-from from ls a.1)

-- ---- the literals of `:init`

both-all : (P : Timed → Type 0) (xs ys : List Timed) → AllByRecursion P xs → AllByRecursion P ys → AllByRecursion P (xs ++ ys)
both-all P [] ys h k = k
both-all P (x ∷ xs) ys h k = (h.0, both-all P xs ys h.1 k)

-- what holds of a literal that is not before time 0
literal-all :
    (P : Timed → Type 0) (t : Literal) (atom : ℕ) (positive : Bool)
    → (t.negative ≡ false → P (record { time = literal_value t; atom = atom; positive = positive })) → AllByRecursion P (literal_at t atom positive)
literal-all P t atom positive h = by t.negative refl
  where
    by : (b : Bool) → t.negative ≡ b → AllByRecursion P (if b then [] else record { time = literal_value t; atom = atom; positive = positive } ∷ [])
    by true e = tt
    by false e = (h e, tt)

at-zero-or-later : (t : Literal) → t.negative ≡ false → whole (pos 0) ≤ℚ literal_value t
at-zero-or-later t e =
    subst (λ (b : Bool). whole (pos 0) ≤ℚ over (signed_whole b t.digits) (10 ^ t.places)) (sym e)
    (le_by (Is-over (pos 0) 1 (omega arith)) (Is-over (pos t.digits) (10 ^ t.places) (ten-above t.places)) (omega (arith, ints)))

abbrev IsLater : Timed → Type 0
IsLater l = whole (pos 0) ≤ℚ l.time

member-later : (c : Context) (i : Init) → AllByRecursion IsLater (timed_by c i)
member-later c (Holds u) = tt
member-later c (Absent u s) = tt
member-later c (Value u n s) = tt
member-later c (At t u s) = literal-all IsLater t (atom_number c [] u) true (at-zero-or-later t)
member-later c (AtNot t u s) = literal-all IsLater t (atom_number c [] u) false (at-zero-or-later t)

inits-later : (c : Context) (is : List Init) → AllByRecursion IsLater (flat_map (timed_by c) is)
inits-later c [] = tt
inits-later c (i ∷ is) = both-all IsLater (timed_by c i) (flat_map (timed_by c) is) (member-later c i) (inits-later c is)

pub timed-ordered : (c : Context) (is : List Init) → AreInOrder (whole (pos 0)) (timed_meant c is)
timed-ordered c is = ordered-from (whole (pos 0)) (flat_map (timed_by c) is) (inits-later c is)

abbrev IsIn : Context → Timed → Type 0
IsIn c l = l.atom < atoms_of c

member-in :
    (c : Context) → Widens c c → (valued : List (List (List ℕ))) (i : Init) → initial_faults c valued i ≡ [] → AllByRecursion (IsIn c) (timed_by c i)
member-in c w valued (Holds u) e = tt
member-in c w valued (Absent u s) e = tt
member-in c w valued (Value u n s) e = tt
member-in c w valued (At t u s) e =
    literal-all (IsIn c) t (atom_number c [] u) true (λ _. atom-within c c w [] [] u tt e)
member-in c w valued (AtNot t u s) e =
    literal-all (IsIn c) t (atom_number c [] u) false (λ _. atom-within c c w [] [] u tt e)

inits-in :
    (c : Context) → Widens c c → (valued : List (List (List ℕ))) (is : List Init) → init_faults c valued is ≡ []
    → AllByRecursion (IsIn c) (flat_map (timed_by c) is)
inits-in c w valued [] e = tt
inits-in c w valued (i ∷ is) e =
    both-all (IsIn c) (timed_by c i) (flat_map (timed_by c) is)
    (member-in c w valued i (left-none (initial_faults c valued i) _ e))
    (inits-in c w (valued_after valued i) is (right-none (initial_faults c valued i) _ e))

pub timed-in : (c : Context) → Widens c c → (is : List Init) → init_faults c [] is ≡ [] → All (λ (l : Timed). l.atom < atoms_of c) (timed_meant c is)
timed-in c w is e =
    All-from_recursion (IsIn c) (timed_meant c is)
    (ordered-all (IsIn c) (flat_map (timed_by c) is) (inits-in c w [] is e))
