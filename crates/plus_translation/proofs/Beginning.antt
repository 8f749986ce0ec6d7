-- The initial state of the translation.
use Rattle.std.proofs.Common.{◌≡◌, ℕ, zero, suc, ◌<◌, ◌≤◌, ◌+◌, Bool, true, false, not, ◌&&◌, ◌||◌, List, [], ◌∷◌, ◌++◌, map, length, replicate, filter, refl, ap, ap₂, sym, ◌∙◌, arith, append-nil, length-append, flat_map, All, nat_eq, pos, Option, Some, None}
use Rattle.std.specs.Prelude.{codes, if◌then◌else◌}
use Rattle.std.specs.List.{list_any, AllByRecursion}
use Rattle.std.specs.Str.{bytes_eq}
use Rattle.std.proofs.lemmas.List.Elements.{All-nil, All-cons, All-head, All-tail}
use Rattle.std.proofs.lemmas.Bool.{ne_eqb}
use Rattle.std.proofs.lemmas.Grind.{flat_map-append}
use Rattle.plus_fraction.specs.Fraction.{Fraction, whole, ◌<ℚ◌}
use Rattle.plus_model.specs.Joint.{Change, gains, loses, new_atoms}
use Rattle.plus_model.specs.Trajectory.{literal_changes}
use Rattle.plus_tree.specs.declared.terms.TypedName.{TypedName}
use Rattle.plus_tree.specs.declared.terms.Use.{Use}
use Rattle.plus_tree.specs.declared.trees.Head.{Head}
use Rattle.plus_tree.specs.declared.trees.Schema.{Schema}
use Rattle.plus_tree.specs.declared.trees.Init.{Init}
use Rattle.plus_tree.specs.declared.trees.Init.TheVariants.{Holds, Absent, Value, At, AtNot}
use Rattle.plus_types.specs.Faults.{Context, use_faults, initial_faults, valued_after, init_faults}
use Rattle.plus_types.proofs.SoundLemmas.{left-none, right-none}
use Rattle.plus_expansion.specs.Objects.{members_of, extents_of, tuples}
use Rattle.plus_expansion.specs.Numbers.{ground_names, ground_names_from, head_names, number_of}
use Rattle.plus_expansion.proofs.Places.{same-number}
use Rattle.plus_expansion.specs.Environments.{environments, atom_number, fluent_number}
use Rattle.plus_expansion.specs.Expansion.{held_by, given_by, truths_from, value_given, values_from, initial_state, timed_meant, event_meant, instances_of}
use Rattle.plus_literal.specs.Value.{literal_value}
use Rattle.plus_expansion.proofs.Uses.{atom-within, fluent-within}
use Rattle.plus_steps.specs.Translation.{clock_value}
use Rattle.plus_translation.specs.Renamed.{nowhere, spelled, renamed_list, renamed_event, renamed_from}
use Rattle.plus_translation.specs.Translated.{Due, natural, clock_use, due_by, is_later, mark_heads, set_at_once, cleared_at_once, stays_in_init, init_translated}
use Rattle.plus_translation.proofs.Numbers.{SameWorld, extents_same, ground_names_more}
use Rattle.plus_translation.proofs.Meant.{Contexts}
use Rattle.plus_translation.proofs.Kept.{atom_same, fluent_same}
use Rattle.plus_translation.proofs.MarkNumbers.{environments_objects, map_self, objects}
use Rattle.plus_translation.proofs.Clock.{AllOnGrid, clock_number}
use Rattle.plus_translation.proofs.Early.{AllHolds, atoms_now, translated_typed}

-- the old truths, and then the marks
truths_append : (held : List ℕ) (k n m : ℕ) → truths_from held k (n + m) ≡ truths_from held k n ++ truths_from held (k + n) m
truths_append held k zero m =
    let z : 0 + m ≡ m = omega arith in
    let k0 : k ≡ k + 0 = omega arith in
    ap (truths_from held k) z ∙ ap (λ (i : ℕ). truths_from held i m) k0
truths_append held k (suc n) m =
    let s : suc n + m ≡ suc (n + m) = omega arith in
    let k1 : suc k + n ≡ k + suc n = omega arith in
    ap (truths_from held k) s ∙ ap (λ xs. list_any (nat_eq k) held ∷ xs) (truths_append held (suc k) n m ∙ ap (λ (i : ℕ). truths_from held (suc k) n ++ truths_from held i m) k1)

none_held : (held : List ℕ) (n k : ℕ) → n ≤ k → All (λ a. a < n) held → list_any (nat_eq k) held ≡ false
none_held [] n k l h = refl
none_held (a ∷ held) n k l h =
    let b = All-head (λ a. a < n) a held h in
    ap₂ (λ x y. x || y) (ne_eqb k a (λ e. omega (arith, b, l, e))) (none_held held n k l (All-tail (λ a. a < n) a held h))

truths_none : (held : List ℕ) (n k m : ℕ) → n ≤ k → All (λ a. a < n) held → truths_from held k m ≡ replicate m false
truths_none held n k zero l h = refl
truths_none held n k (suc m) l h = ap₂ (λ x xs. x ∷ xs) (none_held held n k l h) (truths_none held n (suc k) m (omega arith) h)

length_map : {X Y : Type 0} (f : X → Y) (xs : List X) → length (map f xs) ≡ length xs
length_map f [] = refl
length_map f (x ∷ xs) = ap suc (length_map f xs)

-- there are as many marks as instances of events
renamed_extents : (c : Context) (i k : ℕ) (vs : List TypedName) → extents_of c (renamed_list i k vs) ≡ extents_of c vs
renamed_extents c i k [] = refl
renamed_extents c i k (v ∷ vs) = ap (λ xs. members_of c v.kind.name ∷ xs) (renamed_extents c i (suc k) vs)

marks_many : (c c' : Context) → SameWorld c c' → (n i : ℕ) (all : List Schema) → length (ground_names_from c' n (mark_heads i (renamed_from i all))) ≡ length (instances_of c (event_meant c) all)
marks_many c c' w n i [] = refl
marks_many c c' w n i (a ∷ more) =
    let ts = tuples (extents_of c' (renamed_event i a).params) in
    let one : length (map (λ t. (n, t)) ts) ≡ length (map (event_meant c a) (environments c a.params [])) =
    length_map (λ t. (n, t)) ts ∙ ap (λ x. length (tuples x)) (renamed_extents c' i 1 a.params ∙ extents_same c c' w a.params)
    ∙ sym (ap length (environments_objects c a.params [] ∙ map_self (tuples (extents_of c a.params)))) ∙ length_map objects (environments c a.params [])
    ∙ sym (length_map (event_meant c a) (environments c a.params [])) in
    length-append (map (λ t. (n, t)) ts) (ground_names_from c' (suc n) (mark_heads (suc i) (renamed_from (suc i) more)))
    ∙ ap₂ (λ (x y : ℕ). x + y) one (marks_many c c' w (suc n) (suc i) more)
    ∙ sym (length-append (map (event_meant c a) (environments c a.params [])) (instances_of c (event_meant c) more))

-- the truths after the literals of time 0
truths_new : (held held' : List ℕ) (cs : List Change) → ((k : ℕ) → list_any (nat_eq k) held' ≡ (gains k cs || (list_any (nat_eq k) held && not (loses k cs)))) → (k n : ℕ) → truths_from held' k n ≡ new_atoms k cs (truths_from held k n)
truths_new held held' cs h k zero = refl
truths_new held held' cs h k (suc n) = ap₂ (λ x xs. x ∷ xs) (h k) (truths_new held held' cs h (suc k) n)

-- ---- values, and one more behind them
values_append : (given : List (ℕ × Fraction)) (k n m : ℕ) → values_from given k (n + m) ≡ values_from given k n ++ values_from given (k + n) m
values_append given k zero m =
    let z : 0 + m ≡ m = omega arith in
    let k0 : k ≡ k + 0 = omega arith in
    ap (values_from given k) z ∙ ap (λ (i : ℕ). values_from given i m) k0
values_append given k (suc n) m =
    let s : suc n + m ≡ suc (n + m) = omega arith in
    let k1 : suc k + n ≡ k + suc n = omega arith in
    ap (values_from given k) s ∙ ap (λ xs. value_given k given ∷ xs) (values_append given (suc k) n m ∙ ap (λ (i : ℕ). values_from given (suc k) n ++ values_from given i m) k1)

value_more : (given : List (ℕ × Fraction)) (f k : ℕ) (v : Fraction) → k < f → value_given k (given ++ (f, v) ∷ []) ≡ value_given k given
value_more [] f k v l = ap (λ (b : Bool). if b then Some v else None) (ne_eqb k f (λ e. omega (arith, e, l)))
value_more (g ∷ given) f k v l = ap (λ o. if nat_eq k g.0 then Some g.1 else o) (value_more given f k v l)

values_more : (given : List (ℕ × Fraction)) (f : ℕ) (v : Fraction) (k n : ℕ) → k + n ≤ f → values_from (given ++ (f, v) ∷ []) k n ≡ values_from given k n
values_more given f v k zero l = refl
values_more given f v k (suc n) l = ap₂ (λ x xs. x ∷ xs) (value_more given f k v (omega arith)) (values_more given f v (suc k) n (omega arith))

value_last : (given : List (ℕ × Fraction)) (f : ℕ) (v : Fraction) → All (λ (g : ℕ × Fraction). g.0 < f) given → value_given f (given ++ (f, v) ∷ []) ≡ Some v
value_last [] f v h = ap (λ (b : Bool). if b then Some v else None) (same-number f)
value_last (g ∷ given) f v h =
    let b = All-head (λ (g : ℕ × Fraction). g.0 < f) g given h in
    ap (λ (b : Bool). if b then Some g.1 else value_given f (given ++ (f, v) ∷ [])) (ne_eqb f g.0 (λ e. omega (arith, b, e)))
    ∙ value_last given f v (All-tail (λ (g : ℕ × Fraction). g.0 < f) g given h)

-- ---- the members of `:init`
abbrev pub clock_heads : Bool → List Head
clock_heads later = if later then record { name = spelled (codes "pp-clock"); params = []; span = nowhere } ∷ [] else []

module _ (c c' : Context) (w : Contexts c c c') where
  abbrev ValueTyped : Init → Type 0
  ValueTyped (Value u n s) = use_faults c [] c.functions u ≡ []
  ValueTyped _ = Unit {0}

  abbrev AllValues : List Init → Type 0
  AllValues init = AllByRecursion ValueTyped init

  pub holds_typed : (valued : List (List (List ℕ))) (init : List Init) → init_faults c valued init ≡ [] → AllHolds c w.widens init
  holds_typed valued [] f = tt
  holds_typed valued (Holds u ∷ more) f = (left-none (initial_faults c valued (Holds u)) _ f, holds_typed (valued_after valued (Holds u)) more (right-none (initial_faults c valued (Holds u)) _ f))
  holds_typed valued (Absent u s ∷ more) f = (tt, holds_typed (valued_after valued (Absent u s)) more (right-none (initial_faults c valued (Absent u s)) _ f))
  holds_typed valued (At n u s ∷ more) f = (left-none (initial_faults c valued (At n u s)) _ f, holds_typed (valued_after valued (At n u s)) more (right-none (initial_faults c valued (At n u s)) _ f))
  holds_typed valued (AtNot n u s ∷ more) f = (left-none (initial_faults c valued (AtNot n u s)) _ f, holds_typed (valued_after valued (AtNot n u s)) more (right-none (initial_faults c valued (AtNot n u s)) _ f))
  holds_typed valued (Value u n s ∷ more) f = (tt, holds_typed (valued_after valued (Value u n s)) more (right-none (initial_faults c valued (Value u n s)) _ f))

  values_typed : (valued : List (List (List ℕ))) (init : List Init) → init_faults c valued init ≡ [] → AllValues init
  values_typed valued [] f = tt
  values_typed valued (Holds u ∷ more) f = (tt, values_typed (valued_after valued (Holds u)) more (right-none (initial_faults c valued (Holds u)) _ f))
  values_typed valued (Absent u s ∷ more) f = (tt, values_typed (valued_after valued (Absent u s)) more (right-none (initial_faults c valued (Absent u s)) _ f))
  values_typed valued (At n u s ∷ more) f = (tt, values_typed (valued_after valued (At n u s)) more (right-none (initial_faults c valued (At n u s)) _ f))
  values_typed valued (AtNot n u s ∷ more) f = (tt, values_typed (valued_after valued (AtNot n u s)) more (right-none (initial_faults c valued (AtNot n u s)) _ f))
  values_typed valued (Value u n s ∷ more) f =
      (left-none (use_faults c [] c.functions u) _ (left-none (initial_faults c valued (Value u n s)) _ f), values_typed (valued_after valued (Value u n s)) more (right-none (initial_faults c valued (Value u n s)) _ f))

  held_same : (init : List Init) → AllHolds c w.widens init → flat_map (held_by c') init ≡ flat_map (held_by c) init
  held_same [] t = refl
  held_same (Holds u ∷ more) t = ap₂ (λ (x : ℕ) xs. x ∷ xs) (atom_same c c c' w [] [] [] tt (λ x k e. refl) u t.0) (held_same more t.1)
  held_same (Absent u s ∷ more) t = held_same more t.1
  held_same (At n u s ∷ more) t = held_same more t.1
  held_same (AtNot n u s ∷ more) t = held_same more t.1
  held_same (Value u n s ∷ more) t = held_same more t.1

  held_in : (init : List Init) → AllHolds c w.widens init → All (λ a. a < length (ground_names c c.predicates)) (flat_map (held_by c) init)
  held_in [] t = All-nil (λ a. a < length (ground_names c c.predicates))
  held_in (Holds u ∷ more) t = All-cons (λ a. a < length (ground_names c c.predicates)) (atom_number c [] u) (flat_map (held_by c) more) (atom-within c c w.widens [] [] u tt t.0) (held_in more t.1)
  held_in (Absent u s ∷ more) t = held_in more t.1
  held_in (At n u s ∷ more) t = held_in more t.1
  held_in (AtNot n u s ∷ more) t = held_in more t.1
  held_in (Value u n s ∷ more) t = held_in more t.1

  -- the values stay, whatever atoms go
  given_filtered : (set cleared : List Use) (init : List Init) → AllValues init → flat_map (given_by c') (filter (stays_in_init set cleared) init) ≡ flat_map (given_by c) init
  given_filtered set cleared [] t = refl
  given_filtered set cleared (Holds u ∷ more) t = by (stays_in_init set cleared (Holds u)) (given_filtered set cleared more t.1)
    where
      by : (b : Bool) → flat_map (given_by c') (filter (stays_in_init set cleared) more) ≡ flat_map (given_by c) more
          → flat_map (given_by c') (if b then Holds u ∷ filter (stays_in_init set cleared) more else filter (stays_in_init set cleared) more) ≡ flat_map (given_by c) more
      by true h = h
      by false h = h
  given_filtered set cleared (Absent u s ∷ more) t = given_filtered set cleared more t.1
  given_filtered set cleared (At n u s ∷ more) t = given_filtered set cleared more t.1
  given_filtered set cleared (AtNot n u s ∷ more) t = given_filtered set cleared more t.1
  given_filtered set cleared (Value u n s ∷ more) t = ap₂ (λ (x : ℕ) xs. (x, literal_value n) ∷ xs) (fluent_same c c c' w [] [] [] tt (λ x k e. refl) u t.0) (given_filtered set cleared more t.1)

  given_in : (init : List Init) → AllValues init → All (λ (g : ℕ × Fraction). g.0 < length (ground_names c c.functions)) (flat_map (given_by c) init)
  given_in [] t = All-nil (λ (g : ℕ × Fraction). g.0 < length (ground_names c c.functions))
  given_in (Holds u ∷ more) t = given_in more t.1
  given_in (Absent u s ∷ more) t = given_in more t.1
  given_in (At n u s ∷ more) t = given_in more t.1
  given_in (AtNot n u s ∷ more) t = given_in more t.1
  given_in (Value u n s ∷ more) t =
      All-cons (λ (g : ℕ × Fraction). g.0 < length (ground_names c c.functions)) (fluent_number c [] u, literal_value n) (flat_map (given_by c) more) (fluent-within c c w.widens [] [] u tt t.0) (given_in more t.1)

  given_set : (us : List Use) (rest : List Init) → flat_map (given_by c') (map Holds us ++ rest) ≡ flat_map (given_by c') rest
  given_set [] rest = refl
  given_set (u ∷ us) rest = given_set us rest

  module _ (all : List Schema) (marks : c'.predicates ≡ c.predicates ++ mark_heads 1 (renamed_from 1 all)) (q : Fraction) (positive : whole (pos 0) <ℚ q)
      (init : List Init) (typed : init_faults c [] init ≡ []) (grid : AllOnGrid q init)
      (clocks : c'.functions ≡ c.functions ++ clock_heads (list_any is_later (flat_map (due_by q) init))) (free : list_any (bytes_eq (codes "pp-clock")) (head_names c.functions) ≡ false) where
    abbrev due : List Due
    due = flat_map (due_by q) init

    abbrev marked : ℕ
    marked = length (instances_of c (event_meant c) all)

    abbrev changes : List Change
    changes = literal_changes (whole (pos 0)) (timed_meant c init)

    atoms_are : (initial_state c' (init_translated due init)).atoms ≡ new_atoms 0 changes (initial_state c init).atoms ++ replicate marked false
    atoms_are =
        let t = holds_typed [] init typed in
        let t' = translated_typed c w.widens q positive init t in
        let n = length (ground_names c c.predicates) in
        let held' = flat_map (held_by c) (init_translated due init) in
        let many : length (ground_names c' c'.predicates) ≡ n + marked =
        ap (λ hs. length (ground_names c' hs)) marks ∙ ap length (ground_names_more c c' w.world c.predicates (mark_heads 1 (renamed_from 1 all)))
        ∙ length-append (ground_names c c.predicates) (ground_names_from c' (0 + length c.predicates) (mark_heads 1 (renamed_from 1 all))) ∙ ap (λ (m : ℕ). n + m) (marks_many c c' w.world (0 + length c.predicates) 1 all) in
        ap₂ (λ h (m : ℕ). truths_from h 0 m) (held_same (init_translated due init) t') many ∙ truths_append held' 0 n marked
        ∙ ap₂ (λ xs ys. xs ++ ys) (truths_new (flat_map (held_by c) init) held' changes (atoms_now c w.widens q positive init t grid) 0 n)
        (truths_none held' n (0 + n) marked (omega arith) (held_in (init_translated due init) t'))

    functions_same : ground_names c' c.functions ≡ ground_names c c.functions
    functions_same = ap (ground_names c') (sym (append-nil c.functions)) ∙ ground_names_more c c' w.world c.functions [] ∙ append-nil (ground_names c c.functions)

    -- the values that the translated `:init` gives
    given_are : flat_map (given_by c') (init_translated due init) ≡ flat_map (given_by c) init ++ flat_map (given_by c') (if list_any is_later due then Value clock_use (natural 0) nowhere ∷ [] else [])
    given_are =
        flat_map-append (given_by c') (filter (stays_in_init (set_at_once [] due) (cleared_at_once due)) init) (map Holds (set_at_once [] due) ++ (if list_any is_later due then Value clock_use (natural 0) nowhere ∷ [] else []))
        ∙ ap₂ (λ x y. x ++ y) (given_filtered (set_at_once [] due) (cleared_at_once due) init (values_typed [] init typed)) (given_set (set_at_once [] due) (if list_any is_later due then Value clock_use (natural 0) nowhere ∷ [] else []))

    pub clock_is : list_any is_later due ≡ true → fluent_number c' [] clock_use ≡ length (ground_names c c.functions)
    clock_is e = ap (λ hs. number_of c' hs (codes "pp-clock") []) (clocks ∙ ap (λ b. c.functions ++ clock_heads b) e) ∙ clock_number c' c.functions free ∙ ap length functions_same

    fluents_are : (initial_state c' (init_translated due init)).fluents ≡ (initial_state c init).fluents ++ clock_value (list_any is_later due) 0
    fluents_are = by (list_any is_later due) refl
      where
        f : ℕ
        f = length (ground_names c c.functions)

        given : List (ℕ × Fraction)
        given = flat_map (given_by c) init

        by : (b : Bool) → list_any is_later due ≡ b → values_from (flat_map (given_by c') (init_translated due init)) 0 (length (ground_names c' c'.functions)) ≡ values_from (flat_map (given_by c) init) 0 (length (ground_names c c.functions)) ++ clock_value b 0
        by false e =
            let long : length (ground_names c' c'.functions) ≡ length (ground_names c c.functions) = ap (λ hs. length (ground_names c' hs)) (clocks ∙ ap (λ b. c.functions ++ clock_heads b) e ∙ append-nil c.functions) ∙ ap length functions_same in
            ap₂ (λ g (n : ℕ). values_from g 0 n) (given_are ∙ ap (λ (b : Bool). flat_map (given_by c) init ++ flat_map (given_by c') (if b then Value clock_use (natural 0) nowhere ∷ [] else [])) e ∙ append-nil (flat_map (given_by c) init)) long
            ∙ sym (append-nil (values_from (flat_map (given_by c) init) 0 (length (ground_names c c.functions))))
        by true e =
            let long : length (ground_names c' c'.functions) ≡ length (ground_names c c.functions) + 1 =
            ap (λ hs. length (ground_names c' hs)) (clocks ∙ ap (λ b. c.functions ++ clock_heads b) e) ∙ ap length (ground_names_more c c' w.world c.functions (clock_heads true)) ∙ length-append (ground_names c c.functions) (ground_names_from c' (0 + length c.functions) (clock_heads true)) in
            let more : flat_map (given_by c') (init_translated due init) ≡ flat_map (given_by c) init ++ (length (ground_names c c.functions), whole (pos 0)) ∷ [] =
            given_are ∙ ap (λ (b : Bool). flat_map (given_by c) init ++ flat_map (given_by c') (if b then Value clock_use (natural 0) nowhere ∷ [] else [])) e ∙ ap (λ (k : ℕ). flat_map (given_by c) init ++ (k, whole (pos 0)) ∷ []) (clock_is e) in
            ap₂ (λ g (n : ℕ). values_from g 0 n) more long
            ∙ values_append (flat_map (given_by c) init ++ (length (ground_names c c.functions), whole (pos 0)) ∷ []) 0 (length (ground_names c c.functions)) 1
            ∙ ap₂ (λ xs ys. xs ++ ys) (values_more (flat_map (given_by c) init) (length (ground_names c c.functions)) (whole (pos 0)) 0 (length (ground_names c c.functions)) (omega arith))
            (last (0 + length (ground_names c c.functions)) (omega arith))
          where
            last : (k : ℕ) → k ≡ length (ground_names c c.functions) → values_from (flat_map (given_by c) init ++ (length (ground_names c c.functions), whole (pos 0)) ∷ []) k 1 ≡ Some (whole (pos 0)) ∷ []
            last k e = ap (λ (i : ℕ). values_from (flat_map (given_by c) init ++ (length (ground_names c c.functions), whole (pos 0)) ∷ []) i 1) e
                ∙ ap (λ v. v ∷ []) (value_last (flat_map (given_by c) init) (length (ground_names c c.functions)) (whole (pos 0)) (given_in init (values_typed [] init typed)))

    pub initial_same : initial_state c' (init_translated due init) ≡ record { atoms = new_atoms 0 changes (initial_state c init).atoms ++ replicate marked false; fluents = (initial_state c init).fluents ++ clock_value (list_any is_later due) 0 }
    initial_same = ap₂ (λ (x : List Bool) (y : List (Option Fraction)). record { atoms = x; fluents = y }) atoms_are fluents_are
