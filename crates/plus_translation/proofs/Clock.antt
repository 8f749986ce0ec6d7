-- The clock and the timed literals of the translation are those of the ground translation.
use Rattle.std.proofs.Common.{◌≡◌, ℕ, zero, suc, ◌-◌, ◌+◌, Bool, true, false, not, cond, ◌&&◌, ◌||◌, List, [], ◌∷◌, ◌++◌, map, length, filter, refl, ap, ap₂, sym, ◌∙◌, arith, append_assoc, flat_map, pos, nat_eq, All, ℤ, unsigned_abs}
use Rattle.std.specs.Prelude.{codes, if◌then◌else◌}
use Rattle.std.specs.List.{AllByRecursion, list_any, position_or_len}
use Rattle.std.specs.Str.{bytes_eq}
use Rattle.std.proofs.lemmas.List.{map-append}
use Rattle.std.proofs.lemmas.List.Elements.{All-from_recursion}
use Rattle.std.proofs.lemmas.Bool.{ne_eqb}
use Rattle.plus_fraction.specs.GcdLemmas.{gcd-one}
use Rattle.plus_fraction.specs.Fraction.{Fraction, whole, ◌-ℚ◌, ◌/ℚ◌, ◌<ℚ◌}
use Rattle.plus_fraction.proofs.FractionBase.{Is-parts, same as equal_parts}
use Rattle.plus_fraction.proofs.FractionRing.{Is-whole, zero-*ℚ}
use Rattle.plus_fraction.proofs.FractionSigns.{*ℚ-/ℚ}
use Rattle.plus_fraction.proofs.Compared.{compared_refl}
use Rattle.plus_model.specs.Terms as model
use Rattle.plus_model.specs.Terms.{Same, Below, Number, Fluent, Compare, Always, Effect, Timed, Write}
use Rattle.plus_model.specs.Value.{passes}
use Rattle.plus_model.specs.Trajectory.{is_below}
use Rattle.plus_tree.specs.declared.terms.Literal.{Literal}
use Rattle.plus_tree.specs.declared.terms.Use.{Use}
use Rattle.plus_tree.specs.declared.trees.Head.{Head}
use Rattle.plus_tree.specs.declared.trees.Init.{Init}
use Rattle.plus_tree.specs.declared.trees.Init.TheVariants.{Holds, Absent, Value, At, AtNot}
use Rattle.plus_tree.specs.declared.trees.LeafNode.TheVariants.{Add, Delete}
use Rattle.plus_tree.specs.Effect as effects
use Rattle.plus_types.specs.Faults.{Context, use_faults, initial_faults, valued_after, init_faults}
use Rattle.plus_types.proofs.SoundLemmas.{left-none, right-none}
use Rattle.plus_literal.specs.Value.{literal_value}
use Rattle.plus_expansion.specs.Numbers.{ground_names, head_names, is_same, number_of}
use Rattle.plus_expansion.proofs.GroundNames.{ground-none, length-names}
use Rattle.plus_expansion.proofs.Places.{place-there, same-number}
use Rattle.plus_expansion.specs.Environments.{atom_number, fluent_number}
use Rattle.plus_expansion.specs.Expansion.{write_meant, effects_meant, literal_at, timed_by, insert_timed, by_time, timed_meant}
use Rattle.plus_steps.specs.Stepped.{time_of_step}
use Rattle.plus_steps.specs.Laws.{IsOnGrid}
use Rattle.plus_steps.specs.Translation as ground
use Rattle.plus_steps.specs.Translation.{whenever, literal_write, literals_at_steps}
use Rattle.plus_steps.proofs.Same as same
use Rattle.plus_steps.proofs.TickStep.{is_above, suc_is, less_one, not_zero}
use Rattle.plus_translation.specs.Renamed.{nowhere, spelled}
use Rattle.plus_translation.specs.Translated.{Due, natural, clock_use, steps_to, due_at, due_by, is_later, due_node, due_effect}
use Rattle.plus_translation.proofs.Numbers.{ground_names_more}
use Rattle.plus_translation.proofs.Meant.{Contexts}
use Rattle.plus_translation.proofs.Kept.{atom_same}

-- its time is as many steps as are counted for it
abbrev pub OnGrid : Fraction → Init → Type 0
OnGrid q (At t u s) = literal_value t ≡ time_of_step q (steps_to q t)
OnGrid q (AtNot t u s) = literal_value t ≡ time_of_step q (steps_to q t)
OnGrid q _ = Unit {0}

abbrev pub AllOnGrid : Fraction → List Init → Type 0
AllOnGrid q [] = Unit {0}
AllOnGrid q (i ∷ more) = OnGrid q i × AllOnGrid q more

nowhere_named : (name : List ℕ) (xs : List (List ℕ)) → list_any (bytes_eq name) xs ≡ false → position_or_len (bytes_eq name) xs ≡ length xs
nowhere_named name [] e = refl
nowhere_named name (x ∷ xs) e = by (bytes_eq name x) e (nowhere_named name xs)
  where
    by : (b : Bool) → (b || list_any (bytes_eq name) xs) ≡ false → (list_any (bytes_eq name) xs ≡ false → position_or_len (bytes_eq name) xs ≡ length xs) → cond (not b) (1 + position_or_len (bytes_eq name) xs) 0 ≡ length (x ∷ xs)
    by true f more = cc
    by false f more = let h = more f in omega (arith, h)

-- the clock comes behind the old fluents
pub clock_number : (c : Context) (old : List Head) → list_any (bytes_eq (codes "pp-clock")) (head_names old) ≡ false → number_of c (old ++ record { name = spelled (codes "pp-clock"); params = []; span = nowhere } ∷ []) (codes "pp-clock") [] ≡ length (ground_names c old)
clock_number c old new =
    let there = place-there (bytes_eq (codes "pp-clock")) (head_names old) (codes "pp-clock" ∷ []) (nowhere_named (codes "pp-clock") (head_names old) new) in
    let long = length-names old in
    let k : position_or_len (bytes_eq (codes "pp-clock")) (head_names (old ++ record { name = spelled (codes "pp-clock"); params = []; span = nowhere } ∷ [])) ≡ 0 + length old =
    ap (position_or_len (bytes_eq (codes "pp-clock"))) (map-append (λ (x : Head). x.name.name) old (record { name = spelled (codes "pp-clock"); params = []; span = nowhere } ∷ [])) ∙ omega (arith, there, long) in
    let none = ground-none c 0 (0 + length old) old [] (λ j l e. absurd (omega arith)) in
    let before = place-there (is_same (0 + length old, [])) (ground_names c old) ((0 + length old, []) ∷ []) none in
    let here : position_or_len (is_same (0 + length old, [])) ((0 + length old, []) ∷ []) ≡ 0 = ap (λ b. cond (not (b && true)) (1 + 0) 0) (same-number (0 + length old)) in
    ap₂ (λ (m : ℕ) xs. position_or_len (is_same (m, [])) xs) k (ground_names_more c c (record { types = refl; objects = refl }) old (record { name = spelled (codes "pp-clock"); params = []; span = nowhere } ∷ []))
    ∙ before ∙ omega (arith, here)

-- what holds of all literals holds of them in time's order
insert_all : (P : Timed → Type 0) (l : Timed) (ms : List Timed) → P l → AllByRecursion P ms → AllByRecursion P (insert_timed l ms)
insert_all P l [] h a = (h, tt)
insert_all P l (m ∷ ms) h a = by (is_below m.time l.time) (insert_all P l ms h a.1)
  where
    by : (b : Bool) → AllByRecursion P (insert_timed l ms) → AllByRecursion P (if b then m ∷ insert_timed l ms else l ∷ m ∷ ms)
    by true rest = (a.0, rest)
    by false rest = (h, a)

ordered_all : (P : Timed → Type 0) (ls : List Timed) → AllByRecursion P ls → AllByRecursion P (by_time ls)
ordered_all P [] a = tt
ordered_all P (l ∷ ls) a = insert_all P l (by_time ls) a.0 (ordered_all P ls a.1)

-- a time that is k steps is counted as k
whole_top : (n : ℤ) → (whole n).top ≡ n
whole_top n =
    let one : Fraction = record { top = n; bottom = 1; positive = omega arith; reduced = gcd-one (unsigned_abs n) } in
    let e : whole n ≡ one = equal_parts (Is-whole n) (Is-parts one) refl in
    ap (λ (x : Fraction). x.top) e

pub steps_are : (q : Fraction) → whole (pos 0) <ℚ q → (t : Literal) (k : ℕ) → literal_value t ≡ time_of_step q k → steps_to q t ≡ k
steps_are q positive t k e =
    ap (λ (x : Fraction). unsigned_abs (x /ℚ q).top) e ∙ ap (λ (x : Fraction). unsigned_abs x.top) (*ℚ-/ℚ (whole (pos k)) q (not_zero q positive)) ∙ ap unsigned_abs (whole_top (pos k))

module _ (q : Fraction) (positive : whole (pos 0) <ℚ q) where
  some_steps : (k : ℕ) → nat_eq (suc k) 0 ≡ false
  some_steps k = ne_eqb (suc k) 0 (λ e. absurd (omega (arith, e)))

  -- a literal comes later in both
  pub later_same : (time : Fraction) (k : ℕ) → time ≡ time_of_step q k → is_below (whole (pos 0)) time ≡ not (nat_eq k 0)
  later_same time zero e = ap (is_below (whole (pos 0))) (e ∙ zero-*ℚ q) ∙ ap (passes Below) (compared_refl (whole (pos 0)))
  later_same time (suc k) e = ap (is_below (whole (pos 0))) e ∙ is_above q positive k ∙ sym (ap not (some_steps k))

  number_same : (time : Fraction) (k : ℕ) → time ≡ time_of_step q (suc k) → literal_value (natural k) ≡ time /ℚ q -ℚ whole (pos 1)
  number_same time k e =
      sym (ap (λ (x : Fraction). x -ℚ whole (pos 1)) (ap (λ (x : Fraction). x /ℚ q) e ∙ *ℚ-/ℚ (whole (pos (suc k))) q (not_zero q positive) ∙ suc_is q positive k) ∙ less_one q positive (whole (pos k)))

  -- some literal comes later, in both
  member_later : (c : Context) (n : Literal) (u : Use) (positive : Bool) → literal_value n ≡ time_of_step q (steps_to q n) → (ls : List Timed) (ds : List Due) → list_any ground.is_later ls ≡ list_any is_later ds
      → list_any ground.is_later (literal_at n (atom_number c [] u) positive ++ ls) ≡ list_any is_later (due_at q n positive u ++ ds)
  member_later c n u positive e ls ds h = by n.negative
    where
      by : (b : Bool) → list_any ground.is_later ((if b then [] else record { time = literal_value n; atom = atom_number c [] u; positive = positive } ∷ []) ++ ls)
          ≡ list_any is_later ((if b then [] else record { steps = steps_to q n; positive = positive; atom = u } ∷ []) ++ ds)
      by true = h
      by false = ap₂ (λ a b. a || b) (later_same (literal_value n) (steps_to q n) e) h

  pub later_any : (c : Context) (init : List Init) → AllOnGrid q init → list_any ground.is_later (flat_map (timed_by c) init) ≡ list_any is_later (flat_map (due_by q) init)
  later_any c [] g = refl
  later_any c (Holds u ∷ more) g = later_any c more g.1
  later_any c (Absent u s ∷ more) g = later_any c more g.1
  later_any c (Value u n s ∷ more) g = later_any c more g.1
  later_any c (At n u s ∷ more) g = member_later c n u true g.0 _ _ (later_any c more g.1)
  later_any c (AtNot n u s ∷ more) g = member_later c n u false g.0 _ _ (later_any c more g.1)

  -- all of them stand on the grid
  member_on : (c : Context) (n : Literal) (u : Use) (positive : Bool) → literal_value n ≡ time_of_step q (steps_to q n) → (ls : List Timed) → AllByRecursion (λ (l : Timed). IsOnGrid q l.time) ls
      → AllByRecursion (λ (l : Timed). IsOnGrid q l.time) (literal_at n (atom_number c [] u) positive ++ ls)
  member_on c n u positive e ls h = by n.negative
    where
      by : (b : Bool) → AllByRecursion (λ (l : Timed). IsOnGrid q l.time) ((if b then [] else record { time = literal_value n; atom = atom_number c [] u; positive = positive } ∷ []) ++ ls)
      by true = h
      by false = (record { steps = steps_to q n; at = e }, h)

  timed_on : (c : Context) (init : List Init) → AllOnGrid q init → AllByRecursion (λ (l : Timed). IsOnGrid q l.time) (flat_map (timed_by c) init)
  timed_on c [] g = tt
  timed_on c (Holds u ∷ more) g = timed_on c more g.1
  timed_on c (Absent u s ∷ more) g = timed_on c more g.1
  timed_on c (Value u n s ∷ more) g = timed_on c more g.1
  timed_on c (At n u s ∷ more) g = member_on c n u true g.0 _ (timed_on c more g.1)
  timed_on c (AtNot n u s ∷ more) g = member_on c n u false g.0 _ (timed_on c more g.1)

  pub all_on : (c : Context) (init : List Init) → AllOnGrid q init → All (λ (l : Timed). IsOnGrid q l.time) (timed_meant c init)
  all_on c init g = All-from_recursion (λ (l : Timed). IsOnGrid q l.time) (timed_meant c init) (ordered_all (λ (l : Timed). IsOnGrid q l.time) (flat_map (timed_by c) init) (timed_on c init g))

  module _ (c c' : Context) (w : Contexts c c c') where
    clock : ℕ
    clock = fluent_number c' [] clock_use

    -- one literal
    one_due : (d : Due) (l : Timed) → l.time ≡ time_of_step q d.steps → literal_write l ≡ write_meant c' [] (due_node d) → (rest : List Effect) (more : List effects.Effect)
        → flat_map (effects_meant c' []) more ≡ rest
        → flat_map (effects_meant c' []) (map due_effect (if is_later d then d ∷ [] else []) ++ more)
        ≡ (if ground.is_later l then whenever (Compare Same (Fluent (fluent_number c' [] clock_use)) (Number (l.time /ℚ q -ℚ whole (pos 1))) true) (literal_write l) ∷ rest else rest)
    one_due d l e wr rest more h = by d.steps refl (ground.is_later l) refl
      where
        by : (k : ℕ) → k ≡ d.steps → (b : Bool) → b ≡ ground.is_later l
            → flat_map (effects_meant c' []) (map due_effect (if not (nat_eq k 0) then d ∷ [] else []) ++ more)
            ≡ (if b then whenever (Compare Same (Fluent (fluent_number c' [] clock_use)) (Number (l.time /ℚ q -ℚ whole (pos 1))) true) (literal_write l) ∷ rest else rest)
        by zero s false g = h
        by zero s true g = absurd (let x = g ∙ later_same l.time zero (e ∙ ap (time_of_step q) (sym s)) in cc)
        by (suc k) s false g = absurd (let x : false ≡ true = g ∙ later_same l.time (suc k) (e ∙ ap (time_of_step q) (sym s)) ∙ ap not (some_steps k) in cc)
        by (suc k) s true g =
            let less : d.steps - 1 ≡ k = omega (arith, s) in
            ap (λ b. flat_map (effects_meant c' []) (map due_effect (if not b then d ∷ [] else []) ++ more)) (some_steps k)
            ∙ ap₂ (λ x y. x ∷ y)
            (ap₂ (λ n x. whenever (Compare Same (Fluent (fluent_number c' [] clock_use)) (Number n) true) x) (ap (λ (m : ℕ). literal_value (natural m)) less ∙ number_same l.time k (e ∙ ap (time_of_step q) (sym s))) (sym wr)) h

    -- a timed member of `:init`
    member_due : (n : Literal) (u : Use) (positive : Bool) → literal_value n ≡ time_of_step q (steps_to q n) → use_faults c [] c.predicates u ≡ [] → (ds : List Due) (ls : List Timed)
        → flat_map (effects_meant c' []) (map due_effect (filter is_later ds)) ≡ literals_at_steps q (fluent_number c' [] clock_use) ls
        → flat_map (effects_meant c' []) (map due_effect (filter is_later (due_at q n positive u ++ ds))) ≡ literals_at_steps q (fluent_number c' [] clock_use) (literal_at n (atom_number c [] u) positive ++ ls)
    member_due n u positive e f ds ls rest = by n.negative
      where
        d : Due
        d = record { steps = steps_to q n; positive = positive; atom = u }

        l : Timed
        l = record { time = literal_value n; atom = atom_number c [] u; positive = positive }

        writes_same : (b : Bool) → (if b then model.Add (atom_number c [] u) else model.Delete (atom_number c [] u)) ≡ write_meant c' [] (if b then Add u else Delete u)
        writes_same true = ap model.Add (sym (atom_same c c c' w [] [] [] tt (λ x k e. refl) u f))
        writes_same false = ap model.Delete (sym (atom_same c c c' w [] [] [] tt (λ x k e. refl) u f))

        shape : (b : Bool) → flat_map (effects_meant c' []) (map due_effect (if b then d ∷ filter is_later ds else filter is_later ds)) ≡ flat_map (effects_meant c' []) (map due_effect (if b then d ∷ [] else []) ++ map due_effect (filter is_later ds))
        shape true = refl
        shape false = refl

        by : (b : Bool) → flat_map (effects_meant c' []) (map due_effect (filter is_later ((if b then [] else d ∷ []) ++ ds))) ≡ literals_at_steps q (fluent_number c' [] clock_use) ((if b then [] else l ∷ []) ++ ls)
        by true = rest
        by false = shape (is_later d) ∙ one_due d l e (writes_same positive) _ _ rest

    -- all of them
    pub all_due : (valued : List (List (List ℕ))) (init : List Init) → init_faults c valued init ≡ [] → AllOnGrid q init
        → flat_map (effects_meant c' []) (map due_effect (filter is_later (flat_map (due_by q) init))) ≡ literals_at_steps q (fluent_number c' [] clock_use) (flat_map (timed_by c) init)
    all_due valued [] f g = refl
    all_due valued (Holds u ∷ more) f g = all_due (valued_after valued (Holds u)) more (right-none (initial_faults c valued (Holds u)) _ f) g.1
    all_due valued (Absent u s ∷ more) f g = all_due (valued_after valued (Absent u s)) more (right-none (initial_faults c valued (Absent u s)) _ f) g.1
    all_due valued (Value u n s ∷ more) f g = all_due (valued_after valued (Value u n s)) more (right-none (initial_faults c valued (Value u n s)) _ f) g.1
    all_due valued (At n u s ∷ more) f g =
        member_due n u true g.0 (left-none (initial_faults c valued (At n u s)) _ f) (flat_map (due_by q) more) (flat_map (timed_by c) more)
        (all_due (valued_after valued (At n u s)) more (right-none (initial_faults c valued (At n u s)) _ f) g.1)
    all_due valued (AtNot n u s ∷ more) f g =
        member_due n u false g.0 (left-none (initial_faults c valued (AtNot n u s)) _ f) (flat_map (due_by q) more) (flat_map (timed_by c) more)
        (all_due (valued_after valued (AtNot n u s)) more (right-none (initial_faults c valued (AtNot n u s)) _ f) g.1)

-- ---- the order of the literals does not matter
due_now : Fraction → ℕ → Timed → List Effect
due_now q place l = if ground.is_later l then whenever (Compare Same (Fluent place) (Number (l.time /ℚ q -ℚ whole (pos 1))) true) (literal_write l) ∷ [] else []

due_first : (q : Fraction) (place : ℕ) (l : Timed) (ls : List Timed) → literals_at_steps q place (l ∷ ls) ≡ due_now q place l ++ literals_at_steps q place ls
unfolding due_now
due_first q place l ls = by (ground.is_later l)
  where
    by : (b : Bool) → (if b then whenever (Compare Same (Fluent place) (Number (l.time /ℚ q -ℚ whole (pos 1))) true) (literal_write l) ∷ literals_at_steps q place ls else literals_at_steps q place ls)
        ≡ (if b then whenever (Compare Same (Fluent place) (Number (l.time /ℚ q -ℚ whole (pos 1))) true) (literal_write l) ∷ [] else []) ++ literals_at_steps q place ls
    by true = refl
    by false = refl

insert_due : (q : Fraction) (place : ℕ) (l : Timed) (ms : List Timed) → same.Same (literals_at_steps q place (insert_timed l ms)) (literals_at_steps q place (l ∷ ms))
insert_due q place l [] = same.same_refl _
insert_due q place l (m ∷ ms) = by (is_below m.time l.time) (insert_due q place l ms)
  where
    behind : same.Same (literals_at_steps q place (insert_timed l ms)) (literals_at_steps q place (l ∷ ms)) → same.Same (literals_at_steps q place (m ∷ insert_timed l ms)) (literals_at_steps q place (l ∷ m ∷ ms))
    behind h =
        same.same_trans _ _ _ (same.same_equal _ _ (due_first q place m (insert_timed l ms)))
        (same.same_trans _ _ _ (same.same_append (due_now q place m) (due_now q place m) _ _ (same.same_refl (due_now q place m)) (same.same_trans _ _ _ h (same.same_equal _ _ (due_first q place l ms))))
        (same.same_trans _ _ _ (same.same_equal _ _ (sym (append_assoc (due_now q place m) (due_now q place l) (literals_at_steps q place ms))))
        (same.same_trans _ _ _ (same.same_append _ _ _ _ (same.same_swap (due_now q place m) (due_now q place l)) (same.same_refl (literals_at_steps q place ms)))
        (same.same_equal _ _ (append_assoc (due_now q place l) (due_now q place m) (literals_at_steps q place ms) ∙ ap (λ xs. due_now q place l ++ xs) (sym (due_first q place m ms)) ∙ sym (due_first q place l (m ∷ ms)))))))

    by : (b : Bool) → same.Same (literals_at_steps q place (insert_timed l ms)) (literals_at_steps q place (l ∷ ms)) → same.Same (literals_at_steps q place (if b then m ∷ insert_timed l ms else l ∷ m ∷ ms)) (literals_at_steps q place (l ∷ m ∷ ms))
    by true h = behind h
    by false h = same.same_refl _

pub ordered_due : (q : Fraction) (place : ℕ) (ls : List Timed) → same.Same (literals_at_steps q place (by_time ls)) (literals_at_steps q place ls)
ordered_due q place [] = same.same_refl _
ordered_due q place (l ∷ ls) =
    same.same_trans _ _ _ (insert_due q place l (by_time ls))
    (same.same_trans _ _ _ (same.same_equal _ _ (due_first q place l (by_time ls)))
    (same.same_trans _ _ _ (same.same_append (due_now q place l) (due_now q place l) _ _ (same.same_refl _) (ordered_due q place ls)) (same.same_equal _ _ (sym (due_first q place l ls)))))

-- a test finds the same in time's order
or_swap : (x y z : Bool) → (x || (y || z)) ≡ (y || (x || z))
or_swap true true z = refl
or_swap true false z = refl
or_swap false true z = refl
or_swap false false z = refl

insert_any : (t : Timed → Bool) (l : Timed) (ms : List Timed) → list_any t (insert_timed l ms) ≡ (t l || list_any t ms)
insert_any t l [] = refl
insert_any t l (m ∷ ms) = by (is_below m.time l.time) (insert_any t l ms)
  where
    by : (b : Bool) → list_any t (insert_timed l ms) ≡ (t l || list_any t ms) → list_any t (if b then m ∷ insert_timed l ms else l ∷ m ∷ ms) ≡ (t l || (t m || list_any t ms))
    by true h = ap (λ b. t m || b) h ∙ or_swap (t m) (t l) (list_any t ms)
    by false h = refl

pub ordered_any : (t : Timed → Bool) (ls : List Timed) → list_any t (by_time ls) ≡ list_any t ls
ordered_any t [] = refl
ordered_any t (l ∷ ls) = insert_any t l (by_time ls) ∙ ap (λ b. t l || b) (ordered_any t ls)
