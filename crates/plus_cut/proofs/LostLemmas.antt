-- The cut by atoms that nothing adds: no plan goes on where it says says.
use Rattle.std.proofs.Common.{◌≡◌, ℕ, zero, suc, true, false, Bool, not, ◌&&◌, ◌||◌, List, [], ◌∷◌, ◌++◌, refl, ap, sym, subst, ◌∙◌, if◌then◌else◌, pos}
use Rattle.std.specs.Prelude.{Option, Some, None, slice_get}
use Rattle.std.specs.List.{AllByRecursion}
use Rattle.plus_fraction.specs.Fraction.{Fraction, whole, ◌<ℚ◌, ◌≤ℚ◌}
use Rattle.plus_fraction.proofs.FractionAtMost.{≤ℚ_refl, ≤ℚ_trans}
use Rattle.plus_model.specs.Terms.{Condition, Always, Never, Both, Either, Atom, Compare, Action, State, Problem}
use Rattle.plus_model.specs.Value.{atom_of, holds}
use Rattle.plus_model.specs.Plan.{Line, ActLine, EndLine, Instance, time_of}
use Rattle.plus_planner.specs.Grid.{Task, ticks, line_for, after_decision, lines_from, acts_from, tick_after, timed}
use Rattle.plus_planner.proofs.Ready.{lines_join, ends_with}
use Rattle.plus_planner.proofs.Ticks.{tick_later}
use Rattle.plus_planner.proofs.Valid.{goal_holds}
use Rattle.plus_never.specs.Adds.{some_adds, action_adds, world_adds, something_adds, line_adds}
use Rattle.plus_never.specs.Laws.{GoesFurther}
use Rattle.plus_never.proofs.Atoms.{or_left, or_right}
use Rattle.plus_never.proofs.Later.{stays_false_later}
use Rattle.plus_cut.specs.Lost.{before_atoms, goal_atoms, never_added, some_false}
use Rattle.plus_cut.specs.Laws.{LostIsKept}

-- ---- where the goal holds its atoms are true

and_left : (a b : Bool) → (a && b) ≡ true → a ≡ true
and_left true b e = refl
and_left false b e = cc

and_right : (a b : Bool) → (a && b) ≡ true → b ≡ true
and_right true b e = e
and_right false b e = cc

before_true : (c : Condition) (s : State) (bs : List ℕ) → holds c s ≡ true → AllByRecursion (λ a. atom_of s a ≡ true) bs → AllByRecursion (λ a. atom_of s a ≡ true) (before_atoms c bs)
before_true (Atom a true) s bs e h = (e, h)
before_true (Atom a false) s bs e h = h
before_true Always s bs e h = h
before_true Never s bs e h = h
before_true (Both c d) s bs e h = h
before_true (Either c d) s bs e h = h
before_true (Compare t l r p) s bs e h = h

goal_true : (c : Condition) (s : State) → holds c s ≡ true → AllByRecursion (λ a. atom_of s a ≡ true) (goal_atoms c)
goal_true (Both c d) s e = before_true c s (goal_atoms d) (and_left (holds c s) (holds d s) e) (goal_true d s (and_right (holds c s) (holds d s) e))
goal_true (Atom a true) s e = (e, tt)
goal_true (Atom a false) s e = tt
goal_true Always s e = tt
goal_true Never s e = tt
goal_true (Either c d) s e = tt
goal_true (Compare t l r p) s e = tt

-- ---- a false one among them

-- what is false and never added stays false
abbrev Stays : Problem → List Action → State → State → Type 0
Stays P actions s t = (a : ℕ) → something_adds a P actions ≡ false → atom_of s a ≡ false → atom_of t a ≡ false

not_true : (b : Bool) → not b ≡ true → b ≡ false
not_true true e = cc
not_true false e = refl

none_false : (P : Problem) (actions : List Action) (s t : State) (bs : List ℕ) → Stays P actions s t → AllByRecursion (λ a. atom_of t a ≡ true) bs → some_false (never_added P actions bs) s ≡ true → ⊥
none_false P actions s t [] f h e = cc
none_false P actions s t (a ∷ bs) f h e = go (something_adds a P actions) refl e (λ e. none_false P actions s t bs f h.1 e)
  where
    or_true : (b c : Bool) → (b || c) ≡ true → (b ≡ true → ⊥) → c ≡ true
    or_true true c e n = absurd (n refl)
    or_true false c e n = e

    both : atom_of t a ≡ false → ⊥
    both g = (let k = h.0 in cc (g, k))

    go : (b : Bool) → something_adds a P actions ≡ b → some_false (if b then never_added P actions bs else a ∷ never_added P actions bs) s ≡ true → (some_false (never_added P actions bs) s ≡ true → ⊥) → ⊥
    go true i e rest = rest e
    go false i e rest = rest (or_true (not (atom_of s a)) _ e (λ n. both (f a i (not_true (atom_of s a) n))))

-- ---- the lines of decisions

one_action : (a : ℕ) (actions : List Action) (k : ℕ) (x : Action) → action_adds a actions ≡ false → slice_get actions k ≡ Some x → some_adds a x.effects ≡ false
one_action a [] k x n e = absurd (let f : None ≡ Some x = e in cc)
one_action a (y ∷ ys) zero x n e = subst (λ (z : Action). some_adds a z.effects ≡ false) (let f : y ≡ x = cc in f) (or_left (some_adds a y.effects) (action_adds a ys) n)
one_action a (y ∷ ys) (suc k) x n e = one_action a ys k x (or_right (some_adds a y.effects) (action_adds a ys) n) e

none_adds : (a : ℕ) (actions : List Action) (q : Fraction) (n : ℕ) (ds : List ℕ) → action_adds a actions ≡ false → line_adds a (lines_from actions q n ds) ≡ false
none_adds a actions q n [] e = refl
none_adds a actions q n (d ∷ ds) e = go (slice_get actions d) refl (λ m. none_adds a actions q m ds e)
  where
    or_both : (b c : Bool) → b ≡ false → c ≡ false → (b || c) ≡ false
    or_both true c e f = cc
    or_both false c e f = f

    go : (o : Option Action) → slice_get actions d ≡ o → ((m : ℕ) → line_adds a (lines_from actions q m ds) ≡ false) → line_adds a (line_for o (ticks q n) (lines_from actions q (after_decision o n) ds)) ≡ false
    go (Some x) i rest = or_both (some_adds a x.effects) _ (one_action a actions d x e i) (rest n)
    go None i rest = rest (suc n)

-- the first line of further decisions is no earlier than they begin
abbrev Heads : Fraction → List Line → Type 0
Heads t ls = (line : Line) × (more : List Line) × (ls ≡ line ∷ more) × (t ≤ℚ time_of line)

heads : (actions : List Action) (q : Fraction) (n : ℕ) (es : List ℕ) → whole (pos 0) <ℚ q → Heads (ticks q n) (lines_from actions q n es)
heads actions q n [] h = (EndLine (ticks q n), [], refl, ≤ℚ_refl (ticks q n))
heads actions q n (d ∷ ds) h = go (slice_get actions d) (heads actions q (suc n) ds h)
  where
    go : (o : Option Action) → Heads (ticks q (suc n)) (lines_from actions q (suc n) ds) → Heads (ticks q n) (line_for o (ticks q n) (lines_from actions q (after_decision o n) ds))
    go (Some x) r = (ActLine (ticks q n) (Instance x), lines_from actions q n ds, refl, ≤ℚ_refl (ticks q n))
    go None r = (r.0, r.1, r.2, ≤ℚ_trans _ _ _ (tick_later q n h) r.3)

further : (task : Task) (ds es : List ℕ) → whole (pos 0) <ℚ task.interval → GoesFurther (timed task ds) (timed task (ds ++ es))
further task ds es h =
    let A = task.actions in let q = task.interval in let n = tick_after A 0 ds in
    let r = heads A q n es h in
    record {
      lines = acts_from A q 0 ds;
      last = ticks q n;
      line = r.0;
      more = r.1;
      is = ap (λ L. L.lines) (ends_with task ds);
      further = lines_join A q 0 ds es ∙ ap (λ ls. acts_from A q 0 ds ++ ls) r.2;
      later = r.3;
    }

pub lost_is_kept : (fits : Fraction → Type 0) → LostIsKept fits
lost_is_kept fits task h s m says ds es ends short plan =
    let P = task.problem in let A = task.actions in
    let other = plan.goal.ends in
    none_false P A s plan.goal.state (goal_atoms P.goal)
    (λ a n f. subst (λ z. atom_of z a ≡ false) (sym other.state)
    (stays_false_later P (timed task ds) (timed task (ds ++ es)) ends.history other.history a (further task ds es h)
    record { world = or_left (world_adds a P) (action_adds a A) n; lines = none_adds a A task.interval 0 (ds ++ es) (or_right (world_adds a P) (action_adds a A) n) }
    ends.plays.prefix ends.plays.worked other.plays.prefix other.plays.worked (subst (λ z. atom_of z a ≡ false) ends.state f)))
    (goal_true P.goal plan.goal.state (goal_holds fits P plan.goal.state plan.goal.goal)) says
