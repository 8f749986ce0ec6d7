-- The atoms of the initial state: what literals of time 0 set and clear is done in the translated `:init`.
use Rattle.std.proofs.Common.{◌≡◌, ℕ, zero, suc, Bool, true, false, not, ◌&&◌, ◌||◌, List, [], ◌∷◌, ◌++◌, map, filter, refl, ap, ap₂, sym, subst, ◌∙◌, arith, flat_map, pos, nat_eq, Option, Some, None}
use Rattle.std.specs.Prelude.{if◌then◌else◌}
use Rattle.std.specs.List.{list_any, AllByRecursion}
use Rattle.std.specs.Str.{bytes_eq}
use Rattle.std.proofs.lemmas.Bool.{eqb-true}
use Rattle.std.proofs.lemmas.Grind.{flat_map-append}
use Rattle.plus_fraction.specs.Fraction.{Fraction, whole, compared, ◌<ℚ◌}
use Rattle.plus_fraction.proofs.Compared.{compared_refl, greater-compared}
use Rattle.plus_fraction.proofs.FractionRing.{zero-*ℚ}
use Rattle.plus_model.specs.Terms.{Same, Timed}
use Rattle.plus_model.specs.Value.{passes}
use Rattle.plus_model.specs.Joint.{Gains, Loses, gains, loses}
use Rattle.plus_model.specs.Trajectory.{is_below, literal_changes}
use Rattle.plus_model.proofs.Moments.{from_below}
use Rattle.plus_tree.specs.declared.terms.Literal.{Literal}
use Rattle.plus_tree.specs.declared.terms.Term.{Term}
use Rattle.plus_tree.specs.declared.terms.Term.TheVariants.{Object, Variable}
use Rattle.plus_tree.specs.declared.terms.TypedName.{TypedName}
use Rattle.plus_tree.specs.declared.terms.Use.{Use}
use Rattle.plus_tree.specs.declared.trees.Init.{Init}
use Rattle.plus_tree.specs.declared.trees.Init.TheVariants.{Holds, Absent, Value, At, AtNot}
use Rattle.plus_types.specs.Faults.{Context, params_of, term_name, term_faults, argument_faults, arguments_faults, declared_faults, use_faults, fault_where, ground_name, same_names}
use Rattle.plus_types.specs.declared.faults.Wrong.TheVariants.{Arity}
use Rattle.plus_types.proofs.SoundLemmas.{right-none}
use Rattle.plus_types.proofs.TypesLemmas.{same-bytes, bytes-self}
use Rattle.plus_literal.specs.Value.{literal_value}
use Rattle.plus_expansion.specs.Objects.{object_place}
use Rattle.plus_expansion.specs.Numbers.{number_of}
use Rattle.plus_expansion.proofs.Places.{same-number}
use Rattle.plus_expansion.specs.Environments.{term_object, use_objects, atom_number}
use Rattle.plus_expansion.specs.Expansion.{held_by, literal_at, timed_by, timed_meant}
use Rattle.plus_expansion.proofs.Uses.{Widens, atom-within}
use Rattle.plus_steps.specs.Stepped.{time_of_step}
use Rattle.plus_translation.specs.Renamed.{nowhere}
use Rattle.plus_translation.specs.Translated.{Due, natural, clock_use, steps_to, due_at, due_by, is_later, same_atom, set_at_once, cleared_at_once, stays_in_init, init_translated}
use Rattle.plus_translation.proofs.Clock.{AllOnGrid, later_same, ordered_any}
use Rattle.plus_translation.proofs.Injective.{number_injective, terms_injective}

-- ---- a use is known by its number
record Declared (c : Context) (u : Use) : Type 0 where
  params : List TypedName
  is : params_of c.predicates u.head.name ≡ Some params
  typed : arguments_faults c [] params u.args ≡ []

declared : (c : Context) (u : Use) → use_faults c [] c.predicates u ≡ [] → Declared c u
declared c u f = by (params_of c.predicates u.head.name) refl f
  where
    by : (o : Option (List TypedName)) → params_of c.predicates u.head.name ≡ o → declared_faults c [] u o ≡ [] → Declared c u
    by None e g = absurd cc
    by (Some params) e g = record { params = params; is = e; typed = right-none (fault_where _ Arity c.file u.span) _ g }

-- without variables, objects are known by their names
objects_named : (c : Context) (params : List TypedName) (ts : List Term) → arguments_faults c [] params ts ≡ [] → map (term_object c []) ts ≡ map (object_place c) (map term_name ts)
objects_named c params [] f = refl
objects_named c [] (Object x ∷ ts) f = ap (λ os. object_place c x.name ∷ os) (objects_named c [] ts (right-none (term_faults c [] (Object x)) _ f))
objects_named c [] (Variable x ∷ ts) f = absurd cc
objects_named c (p ∷ ps) (Object x ∷ ts) f = ap (λ os. object_place c x.name ∷ os) (objects_named c ps ts (right-none (argument_faults c [] p.kind.name (Object x)) _ f))
objects_named c (p ∷ ps) (Variable x ∷ ts) f = absurd cc

names_self : (xs : List (List ℕ)) → same_names xs xs ≡ true
names_self [] = refl
names_self (x ∷ xs) = ap₂ (λ a b. a && b) (bytes-self x) (names_self xs)

names_same : (xs ys : List (List ℕ)) → same_names xs ys ≡ true → xs ≡ ys
names_same [] [] e = refl
names_same [] (y ∷ ys) e = absurd cc
names_same (x ∷ xs) [] e = absurd cc
names_same (x ∷ xs) (y ∷ ys) e = by (bytes_eq x y) refl e (names_same xs ys)
  where
    by : (b : Bool) → bytes_eq x y ≡ b → (b && same_names xs ys) ≡ true → (same_names xs ys ≡ true → xs ≡ ys) → ◌≡◌ {A = List (List ℕ)} (x ∷ xs) (y ∷ ys)
    by true h k rest = ap₂ (λ z zs. z ∷ zs) (same-bytes x y h) (rest k)
    by false h k rest = absurd cc

module _ (c : Context) (w : Widens c c) where
  abbrev pub number : Use → ℕ
  number u = atom_number c [] u

  abbrev pub AtomTyped : Use → Type 0
  AtomTyped u = use_faults c [] c.predicates u ≡ []

  same_numbers : (u v : Use) → AtomTyped u → AtomTyped v → number u ≡ number v → same_atom u v ≡ true
  same_numbers u v f g e =
      let du = declared c u f in
      let dv = declared c v g in
      let i = number_injective c c.predicates u.head.name v.head.name (use_objects c [] u) (use_objects c [] v) (atom-within c c w [] [] u tt f) e in
      let params : dv.params ≡ du.params = let h : params_of c.predicates v.head.name ≡ params_of c.predicates u.head.name = ap (params_of c.predicates) (sym i.0) in let k : Some dv.params ≡ Some du.params = sym dv.is ∙ h ∙ du.is in cc in
      let args = terms_injective c du.params u.args v.args du.typed (subst (λ ps. arguments_faults c [] ps v.args ≡ []) params dv.typed) i.1 in
      ap₂ (λ x xs. same_names (u.head.name ∷ map term_name u.args) (x ∷ xs)) (sym i.0) (sym args) ∙ names_self (ground_name u)

  numbers_same : (u v : Use) → AtomTyped u → AtomTyped v → same_atom u v ≡ true → number u ≡ number v
  numbers_same u v f g e =
      let n : ground_name u ≡ ground_name v = names_same (ground_name u) (ground_name v) e in
      let heads : u.head.name ≡ v.head.name = cc in
      let names : map term_name u.args ≡ map term_name v.args = cc in
      let du = declared c u f in
      let dv = declared c v g in
      ap₂ (number_of c c.predicates) heads (objects_named c du.params u.args du.typed ∙ ap (map (object_place c)) names ∙ sym (objects_named c dv.params v.args dv.typed))

  same_is : (u v : Use) → AtomTyped u → AtomTyped v → same_atom u v ≡ nat_eq (number u) (number v)
  same_is u v f g = by (nat_eq (number u) (number v)) refl (same_atom u v) refl
    where
      by : (b : Bool) → nat_eq (number u) (number v) ≡ b → (a : Bool) → same_atom u v ≡ a → same_atom u v ≡ nat_eq (number u) (number v)
      by true e a h = same_numbers u v f g (eqb-true (number u) (number v) e) ∙ sym e
      by false e false h = h ∙ sym e
      by false e true h = absurd (let k : nat_eq (number u) (number u) ≡ false = ap (nat_eq (number u)) (numbers_same u v f g h) ∙ e in let j = same-number (number u) in cc)

  -- ---- atoms among others
  abbrev pub any_atom : ℕ → List Use → Bool
  any_atom k us = list_any (λ u. nat_eq k (number u)) us

  abbrev AllAtoms : List Use → Type 0
  AllAtoms us = AllByRecursion AtomTyped us

  any_same : (u : Use) → AtomTyped u → (us : List Use) → AllAtoms us → list_any (same_atom u) us ≡ any_atom (number u) us
  any_same u f [] t = refl
  any_same u f (v ∷ us) t = ap₂ (λ a b. a || b) (same_is u v f t.0) (any_same u f us t.1)

  any_last : (k : ℕ) (us : List Use) (u : Use) → any_atom k (us ++ u ∷ []) ≡ (any_atom k us || (nat_eq k (number u) || false))
  any_last k [] u = refl
  any_last k (v ∷ us) u = ap (λ b. nat_eq k (number v) || b) (any_last k us u) ∙ or_assoc (nat_eq k (number v)) (any_atom k us) (nat_eq k (number u) || false)
    where
      or_assoc : (x y z : Bool) → (x || (y || z)) ≡ ((x || y) || z)
      or_assoc true y z = refl
      or_assoc false y z = refl

  all_last : (us : List Use) (u : Use) → AllAtoms us → AtomTyped u → AllAtoms (us ++ u ∷ [])
  all_last [] u t f = (f, tt)
  all_last (v ∷ us) u t f = (t.0, all_last us u t.1 f)

  -- ---- what is set and cleared at time 0
  abbrev DueTyped : Due → Type 0
  DueTyped d = AtomTyped d.atom

  abbrev AllDue : List Due → Type 0
  AllDue due = AllByRecursion DueTyped due

  abbrev pub sets_now : ℕ → Due → Bool
  sets_now k d = nat_eq d.steps 0 && (d.positive && nat_eq k (number d.atom))

  abbrev pub clears_now : ℕ → Due → Bool
  clears_now k d = (nat_eq d.steps 0 && not d.positive) && nat_eq k (number d.atom)

  grown : (b x s m b' : Bool) → b' ≡ (b || (x || false)) → (b' || s) ≡ (b' || m) → (b || (x || s)) ≡ (b || (x || m))
  grown true x s m b' e h = refl
  grown false true s m b' e h = refl
  grown false false s m b' e h = ap (λ z. z || s) (sym e) ∙ h ∙ ap (λ z. z || m) e

  present : (b x s m : Bool) → (x ≡ true → b ≡ true) → (b || s) ≡ (b || m) → (b || s) ≡ (b || (x || m))
  present b false s m k h = h
  present true true s m k h = refl
  present false true s m k h = absurd (let z : false ≡ true = k refl in cc)

  set_is : (k : ℕ) (before : List Use) (due : List Due) → AllAtoms before → AllDue due → (any_atom k before || any_atom k (set_at_once before due)) ≡ (any_atom k before || list_any (sets_now k) due)
  set_is k before [] tb td = refl
  set_is k before (d ∷ more) tb td =
      by (nat_eq d.steps 0) d.positive (list_any (same_atom d.atom) before) refl (set_is k before more tb td.1) (set_is k (before ++ d.atom ∷ []) more (all_last before d.atom tb td.0) td.1)
    where
      by : (z s b : Bool) → list_any (same_atom d.atom) before ≡ b → (any_atom k before || any_atom k (set_at_once before more)) ≡ (any_atom k before || list_any (sets_now k) more)
          → (any_atom k (before ++ d.atom ∷ []) || any_atom k (set_at_once (before ++ d.atom ∷ []) more)) ≡ (any_atom k (before ++ d.atom ∷ []) || list_any (sets_now k) more)
          → (any_atom k before || any_atom k (if z && (s && not b) then d.atom ∷ set_at_once (before ++ d.atom ∷ []) more else set_at_once before more)) ≡ (any_atom k before || ((z && (s && nat_eq k (number d.atom))) || list_any (sets_now k) more))
      by false s b e h h' = h
      by true false b e h h' = h
      by true true true e h h' =
          present (any_atom k before) (nat_eq k (number d.atom)) (any_atom k (set_at_once before more)) (list_any (sets_now k) more)
          (λ x. ap (λ (n : ℕ). any_atom n before) (eqb-true k (number d.atom) x) ∙ sym (any_same d.atom td.0 before tb) ∙ e) h
      by true true false e h h' =
          grown (any_atom k before) (nat_eq k (number d.atom)) (any_atom k (set_at_once (before ++ d.atom ∷ []) more)) (list_any (sets_now k) more) (any_atom k (before ++ d.atom ∷ [])) (any_last k before d.atom) h'

  set_typed : (before : List Use) (due : List Due) → AllDue due → AllAtoms (set_at_once before due)
  set_typed before [] td = tt
  set_typed before (d ∷ more) td = by (nat_eq d.steps 0 && (d.positive && not (list_any (same_atom d.atom) before))) (set_typed (before ++ d.atom ∷ []) more td.1) (set_typed before more td.1)
    where
      by : (b : Bool) → AllAtoms (set_at_once (before ++ d.atom ∷ []) more) → AllAtoms (set_at_once before more) → AllAtoms (if b then d.atom ∷ set_at_once (before ++ d.atom ∷ []) more else set_at_once before more)
      by true h h' = (td.0, h)
      by false h h' = h'

  cleared_is : (k : ℕ) (due : List Due) → any_atom k (cleared_at_once due) ≡ list_any (clears_now k) due
  cleared_is k [] = refl
  cleared_is k (d ∷ more) = by (nat_eq d.steps 0 && not d.positive) (cleared_is k more)
    where
      by : (b : Bool) → any_atom k (cleared_at_once more) ≡ list_any (clears_now k) more → any_atom k (map (λ (x : Due). x.atom) (if b then d ∷ filter (λ (x : Due). nat_eq x.steps 0 && not x.positive) more else filter (λ (x : Due). nat_eq x.steps 0 && not x.positive) more)) ≡ ((b && nat_eq k (number d.atom)) || list_any (clears_now k) more)
      by true h = ap (λ b. nat_eq k (number d.atom) || b) h
      by false h = h

  cleared_typed : (due : List Due) → AllDue due → AllAtoms (cleared_at_once due)
  cleared_typed [] td = tt
  cleared_typed (d ∷ more) td = by (nat_eq d.steps 0 && not d.positive) (cleared_typed more td.1)
    where
      by : (b : Bool) → AllAtoms (cleared_at_once more) → AllAtoms (map (λ (x : Due). x.atom) (if b then d ∷ filter (λ (x : Due). nat_eq x.steps 0 && not x.positive) more else filter (λ (x : Due). nat_eq x.steps 0 && not x.positive) more))
      by true h = (td.0, h)
      by false h = h

  -- ---- what stays of `:init`
  abbrev pub HoldsTyped : Init → Type 0
  HoldsTyped (Holds u) = AtomTyped u
  HoldsTyped (At t u s) = AtomTyped u
  HoldsTyped (AtNot t u s) = AtomTyped u
  HoldsTyped _ = Unit {0}

  abbrev pub AllHolds : List Init → Type 0
  AllHolds init = AllByRecursion HoldsTyped init

  kept : (x h y f : Bool) → (x ≡ true → y ≡ true) → f ≡ (h && y) → (x || f) ≡ ((x || h) && y)
  kept true h y f k e = sym (k refl)
  kept false h y f k e = e

  dropped : (x h y f : Bool) → (x ≡ true → y ≡ false) → f ≡ (h && y) → f ≡ ((x || h) && y)
  dropped true h y f k e = e ∙ ap (λ b. h && b) (k refl) ∙ none h ∙ sym (k refl)
    where
      none : (b : Bool) → (b && false) ≡ false
      none true = refl
      none false = refl
  dropped false h y f k e = e

  held_filtered : (k : ℕ) (set cleared : List Use) → AllAtoms set → AllAtoms cleared → (init : List Init) → AllHolds init
      → list_any (nat_eq k) (flat_map (held_by c) (filter (stays_in_init set cleared) init)) ≡ (list_any (nat_eq k) (flat_map (held_by c) init) && not (any_atom k cleared && not (any_atom k set)))
  held_filtered k set cleared ts tc [] t = refl
  held_filtered k set cleared ts tc (Holds u ∷ more) t = by (not (list_any (same_atom u) cleared && not (list_any (same_atom u) set))) refl (held_filtered k set cleared ts tc more t.1)
    where
      here : nat_eq k (number u) ≡ true → not (any_atom k cleared && not (any_atom k set)) ≡ not (list_any (same_atom u) cleared && not (list_any (same_atom u) set))
      here e =
          let n : k ≡ number u = eqb-true k (number u) e in
          ap (λ (m : ℕ). not (any_atom m cleared && not (any_atom m set))) n ∙ sym (ap₂ (λ a b. not (a && not b)) (any_same u t.0 cleared tc) (any_same u t.0 set ts))

      by : (b : Bool) → not (list_any (same_atom u) cleared && not (list_any (same_atom u) set)) ≡ b
          → list_any (nat_eq k) (flat_map (held_by c) (filter (stays_in_init set cleared) more)) ≡ (list_any (nat_eq k) (flat_map (held_by c) more) && not (any_atom k cleared && not (any_atom k set)))
          → list_any (nat_eq k) (flat_map (held_by c) (if b then Holds u ∷ filter (stays_in_init set cleared) more else filter (stays_in_init set cleared) more))
          ≡ ((nat_eq k (number u) || list_any (nat_eq k) (flat_map (held_by c) more)) && not (any_atom k cleared && not (any_atom k set)))
      by true e h = kept (nat_eq k (number u)) (list_any (nat_eq k) (flat_map (held_by c) more)) (not (any_atom k cleared && not (any_atom k set))) _ (λ x. here x ∙ e) h
      by false e h = dropped (nat_eq k (number u)) (list_any (nat_eq k) (flat_map (held_by c) more)) (not (any_atom k cleared && not (any_atom k set))) _ (λ x. here x ∙ e) h
  held_filtered k set cleared ts tc (Absent u s ∷ more) t = held_filtered k set cleared ts tc more t.1
  held_filtered k set cleared ts tc (Value u n s ∷ more) t = held_filtered k set cleared ts tc more t.1
  held_filtered k set cleared ts tc (At n u s ∷ more) t = held_filtered k set cleared ts tc more t.1
  held_filtered k set cleared ts tc (AtNot n u s ∷ more) t = held_filtered k set cleared ts tc more t.1

  -- ---- the literals of time 0
  abbrev now_sets : ℕ → Timed → Bool
  now_sets k l = passes Same (compared l.time (whole (pos 0))) && (l.positive && nat_eq k l.atom)

  abbrev now_clears : ℕ → Timed → Bool
  now_clears k l = (passes Same (compared l.time (whole (pos 0))) && not l.positive) && nat_eq k l.atom

  gains_is : (k : ℕ) (ls : List Timed) → gains k (literal_changes (whole (pos 0)) ls) ≡ list_any (now_sets k) ls
  gains_is k [] = refl
  gains_is k (l ∷ ls) = by (passes Same (compared l.time (whole (pos 0)))) l.positive (gains_is k ls)
    where
      by : (z s : Bool) → gains k (literal_changes (whole (pos 0)) ls) ≡ list_any (now_sets k) ls
          → gains k (if z then (if s then Gains l.atom else Loses l.atom) ∷ literal_changes (whole (pos 0)) ls else literal_changes (whole (pos 0)) ls) ≡ ((z && (s && nat_eq k l.atom)) || list_any (now_sets k) ls)
      by false s h = h
      by true false h = h
      by true true h = ap (λ b. nat_eq k l.atom || b) h

  loses_is : (k : ℕ) (ls : List Timed) → loses k (literal_changes (whole (pos 0)) ls) ≡ list_any (now_clears k) ls
  loses_is k [] = refl
  loses_is k (l ∷ ls) = by (passes Same (compared l.time (whole (pos 0)))) l.positive (loses_is k ls)
    where
      by : (z s : Bool) → loses k (literal_changes (whole (pos 0)) ls) ≡ list_any (now_clears k) ls
          → loses k (if z then (if s then Gains l.atom else Loses l.atom) ∷ literal_changes (whole (pos 0)) ls else literal_changes (whole (pos 0)) ls) ≡ (((z && not s) && nat_eq k l.atom) || list_any (now_clears k) ls)
      by false s h = h
      by true true h = h
      by true false h = ap (λ b. nat_eq k l.atom || b) h

  module _ (q : Fraction) (positive : whole (pos 0) <ℚ q) where
    zero_same : (time : Fraction) (k : ℕ) → time ≡ time_of_step q k → passes Same (compared time (whole (pos 0))) ≡ nat_eq k 0
    zero_same time zero e = ap (λ (x : Fraction). passes Same (compared x (whole (pos 0)))) (e ∙ zero-*ℚ q) ∙ ap (passes Same) (compared_refl (whole (pos 0)))
    zero_same time (suc k) e = by (is_below (whole (pos 0)) time) refl (nat_eq (suc k) 0) refl
      where
        by : (b : Bool) → is_below (whole (pos 0)) time ≡ b → (n : Bool) → nat_eq (suc k) 0 ≡ n → passes Same (compared time (whole (pos 0))) ≡ nat_eq (suc k) 0
        by true f false g = ap (passes Same) (greater-compared time (whole (pos 0)) (from_below (whole (pos 0)) time f)) ∙ sym g
        by b f true g = absurd (let h : suc k ≡ 0 = eqb-true (suc k) 0 g in omega (arith, h))
        by false f false g = absurd (let h = sym f ∙ later_same q positive time (suc k) e ∙ ap not g in cc)

    -- member by member
    member_sets : (k : ℕ) (n : Literal) (u : Use) (s : Bool) → literal_value n ≡ time_of_step q (steps_to q n) → (ls : List Timed) (ds : List Due) → list_any (now_sets k) ls ≡ list_any (sets_now k) ds
        → list_any (now_sets k) (literal_at n (number u) s ++ ls) ≡ list_any (sets_now k) (due_at q n s u ++ ds)
    member_sets k n u s e ls ds h = by n.negative
      where
        by : (b : Bool) → list_any (now_sets k) ((if b then [] else record { time = literal_value n; atom = number u; positive = s } ∷ []) ++ ls)
            ≡ list_any (sets_now k) ((if b then [] else record { steps = steps_to q n; positive = s; atom = u } ∷ []) ++ ds)
        by true = h
        by false = ap₂ (λ z r. (z && (s && nat_eq k (number u))) || r) (zero_same (literal_value n) (steps_to q n) e) h

    member_clears : (k : ℕ) (n : Literal) (u : Use) (s : Bool) → literal_value n ≡ time_of_step q (steps_to q n) → (ls : List Timed) (ds : List Due) → list_any (now_clears k) ls ≡ list_any (clears_now k) ds
        → list_any (now_clears k) (literal_at n (number u) s ++ ls) ≡ list_any (clears_now k) (due_at q n s u ++ ds)
    member_clears k n u s e ls ds h = by n.negative
      where
        by : (b : Bool) → list_any (now_clears k) ((if b then [] else record { time = literal_value n; atom = number u; positive = s } ∷ []) ++ ls)
            ≡ list_any (clears_now k) ((if b then [] else record { steps = steps_to q n; positive = s; atom = u } ∷ []) ++ ds)
        by true = h
        by false = ap₂ (λ z r. ((z && not s) && nat_eq k (number u)) || r) (zero_same (literal_value n) (steps_to q n) e) h

    due_sets : (k : ℕ) (init : List Init) → AllOnGrid q init → list_any (now_sets k) (flat_map (timed_by c) init) ≡ list_any (sets_now k) (flat_map (due_by q) init)
    due_sets k [] g = refl
    due_sets k (Holds u ∷ more) g = due_sets k more g.1
    due_sets k (Absent u s ∷ more) g = due_sets k more g.1
    due_sets k (Value u n s ∷ more) g = due_sets k more g.1
    due_sets k (At n u s ∷ more) g = member_sets k n u true g.0 _ _ (due_sets k more g.1)
    due_sets k (AtNot n u s ∷ more) g = member_sets k n u false g.0 _ _ (due_sets k more g.1)

    due_clears : (k : ℕ) (init : List Init) → AllOnGrid q init → list_any (now_clears k) (flat_map (timed_by c) init) ≡ list_any (clears_now k) (flat_map (due_by q) init)
    due_clears k [] g = refl
    due_clears k (Holds u ∷ more) g = due_clears k more g.1
    due_clears k (Absent u s ∷ more) g = due_clears k more g.1
    due_clears k (Value u n s ∷ more) g = due_clears k more g.1
    due_clears k (At n u s ∷ more) g = member_clears k n u true g.0 _ _ (due_clears k more g.1)
    due_clears k (AtNot n u s ∷ more) g = member_clears k n u false g.0 _ _ (due_clears k more g.1)

    due_member : (n : Literal) (u : Use) (s : Bool) → AtomTyped u → (ds : List Due) → AllDue ds → AllDue (due_at q n s u ++ ds)
    due_member n u s f ds t = by n.negative
      where
        by : (b : Bool) → AllDue ((if b then [] else record { steps = steps_to q n; positive = s; atom = u } ∷ []) ++ ds)
        by true = t
        by false = (f, t)

    pub due_typed : (init : List Init) → AllHolds init → AllDue (flat_map (due_by q) init)
    due_typed [] t = tt
    due_typed (Holds u ∷ more) t = due_typed more t.1
    due_typed (Absent u s ∷ more) t = due_typed more t.1
    due_typed (Value u n s ∷ more) t = due_typed more t.1
    due_typed (At n u s ∷ more) t = due_member n u true t.0 _ (due_typed more t.1)
    due_typed (AtNot n u s ∷ more) t = due_member n u false t.0 _ (due_typed more t.1)

    filter_typed : (set cleared : List Use) (init : List Init) → AllHolds init → AllHolds (filter (stays_in_init set cleared) init)
    filter_typed set cleared [] t = tt
    filter_typed set cleared (i ∷ more) t = by (stays_in_init set cleared i) (filter_typed set cleared more t.1)
      where
        by : (b : Bool) → AllHolds (filter (stays_in_init set cleared) more) → AllHolds (if b then i ∷ filter (stays_in_init set cleared) more else filter (stays_in_init set cleared) more)
        by true h = (t.0, h)
        by false h = h

    both_typed : (xs ys : List Init) → AllHolds xs → AllHolds ys → AllHolds (xs ++ ys)
    both_typed [] ys s t = t
    both_typed (x ∷ xs) ys s t = (s.0, both_typed xs ys s.1 t)

    added_typed : (us : List Use) → AllAtoms us → AllHolds (map Holds us)
    added_typed [] t = tt
    added_typed (u ∷ us) t = (t.0, added_typed us t.1)

    clock_typed : (later : Bool) → AllHolds (if later then Value clock_use (natural 0) nowhere ∷ [] else [])
    clock_typed true = (tt, tt)
    clock_typed false = tt

    pub translated_typed : (init : List Init) → AllHolds init → AllHolds (init_translated (flat_map (due_by q) init) init)
    translated_typed init t =
        let due = flat_map (due_by q) init in
        both_typed (filter (stays_in_init (set_at_once [] due) (cleared_at_once due)) init) (map Holds (set_at_once [] due) ++ (if list_any is_later due then Value clock_use (natural 0) nowhere ∷ [] else []))
        (filter_typed (set_at_once [] due) (cleared_at_once due) init t)
        (both_typed (map Holds (set_at_once [] due)) (if list_any is_later due then Value clock_use (natural 0) nowhere ∷ [] else []) (added_typed (set_at_once [] due) (set_typed [] due (due_typed init t))) (clock_typed (list_any is_later due)))

    -- ---- the atoms of the translated `:init`
    any_append : (k : ℕ) (xs ys : List ℕ) → list_any (nat_eq k) (xs ++ ys) ≡ (list_any (nat_eq k) xs || list_any (nat_eq k) ys)
    any_append k [] ys = refl
    any_append k (x ∷ xs) ys = ap (λ b. nat_eq k x || b) (any_append k xs ys) ∙ or_assoc (nat_eq k x) (list_any (nat_eq k) xs) (list_any (nat_eq k) ys)
      where
        or_assoc : (x y z : Bool) → (x || (y || z)) ≡ ((x || y) || z)
        or_assoc true y z = refl
        or_assoc false y z = refl

    held_set : (k : ℕ) (us : List Use) (later : Bool) → list_any (nat_eq k) (flat_map (held_by c) (map Holds us ++ (if later then Value clock_use (natural 0) nowhere ∷ [] else []))) ≡ any_atom k us
    held_set k [] true = refl
    held_set k [] false = refl
    held_set k (u ∷ us) later = ap (λ b. nat_eq k (number u) || b) (held_set k us later)

    table : (h g l : Bool) → ((h && not (l && not g)) || g) ≡ (g || (h && not l))
    table true true true = refl
    table true true false = refl
    table true false true = refl
    table true false false = refl
    table false true l = refl
    table false false l = refl

    pub atoms_now : (init : List Init) → AllHolds init → AllOnGrid q init → (k : ℕ)
        → list_any (nat_eq k) (flat_map (held_by c) (init_translated (flat_map (due_by q) init) init))
        ≡ (gains k (literal_changes (whole (pos 0)) (timed_meant c init)) || (list_any (nat_eq k) (flat_map (held_by c) init) && not (loses k (literal_changes (whole (pos 0)) (timed_meant c init)))))
    atoms_now init t g k =
        let due = flat_map (due_by q) init in
        let dt = due_typed init t in
        let set = set_at_once [] due in
        let cleared = cleared_at_once due in
        let stay = filter (stays_in_init set cleared) init in
        let tail = map Holds set ++ (if list_any is_later due then Value clock_use (natural 0) nowhere ∷ [] else []) in
        let s : any_atom k set ≡ gains k (literal_changes (whole (pos 0)) (timed_meant c init)) =
        set_is k [] due tt dt ∙ sym (due_sets k init g) ∙ sym (ordered_any (now_sets k) (flat_map (timed_by c) init)) ∙ sym (gains_is k (timed_meant c init)) in
        let l : any_atom k cleared ≡ loses k (literal_changes (whole (pos 0)) (timed_meant c init)) =
        cleared_is k due ∙ sym (due_clears k init g) ∙ sym (ordered_any (now_clears k) (flat_map (timed_by c) init)) ∙ sym (loses_is k (timed_meant c init)) in
        ap (list_any (nat_eq k)) (flat_map-append (held_by c) stay tail) ∙ any_append k (flat_map (held_by c) stay) (flat_map (held_by c) tail)
        ∙ ap₂ (λ a b. a || b) (held_filtered k set cleared (set_typed [] due dt) (cleared_typed due dt) init t) (held_set k set (list_any is_later due))
        ∙ table (list_any (nat_eq k) (flat_map (held_by c) init)) (any_atom k set) (any_atom k cleared)
        ∙ ap₂ (λ a b. a || (list_any (nat_eq k) (flat_map (held_by c) init) && not b)) s l
