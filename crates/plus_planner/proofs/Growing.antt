-- The lists of decisions are a tree.
use Rattle.std.proofs.Common.{◌≡◌, inl, inr, ℕ, List, [], ◌∷◌, ◌++◌, refl, sym, subst, arith, rules, ◌∙◌}
use Rattle.std.proofs.lemmas.Grind.{common_steps}
use Rattle.std.proofs.lemmas.List.{append-nil}
use Rattle.plus_fraction.specs.Fraction.{Fraction}
use Rattle.plus_model.specs.History.{Part}
use Rattle.plus_model.proofs.Longest.{worked_is_longest}
use Rattle.plus_stretch.specs.Tests.{Passes, AllPass}
use Rattle.plus_state.proofs.Testing.{one_test}
use Rattle.plus_planner.specs.Grid.{Task, timed, asked_at, Plays, IsAlive, Halts, EndsBeyond}
use Rattle.plus_planner.specs.Laws.{GridIsTree}

joined : {X : Type 0} (xs ys zs : List X) → (xs ++ ys) ++ zs ≡ xs ++ (ys ++ zs)
joined xs ys zs = search (rules, common_steps)

longer : {X : Type 0} (ds ps qs es : List X) → ds ≡ ps ++ qs → ds ++ es ≡ ps ++ (qs ++ es)
longer ds ps qs es e = rw e (joined ps qs es)

alive_before : (fits : Fraction → Type 0) (task : Task) (ds es : List ℕ) → IsAlive fits task (ds ++ es) → IsAlive fits task ds
alive_before fits task ds es a = record {
  each = λ ps qs e. a.each ps (qs ++ es) (longer ds ps qs es e);
  within = λ ps qs d e. a.within ps (qs ++ es) d (longer ds ps (d ∷ qs) es e);
}

-- a history that is played to the end of the plan meets no failing test
no_halt : (fits : Fraction → Type 0) (task : Task) (ds : List ℕ) (h g : List Part) → Plays fits task ds h → Halts fits task ds g → ⊥
no_halt fits task ds h g p s =
    let b = (worked_is_longest task.problem (timed task ds) h p.prefix p.worked).longest g s.prefix in
    at_end g s b.rest b.is
  where
    at_end : (g : List Part) → Halts fits task ds g → (rest : List Part) → h ≡ g ++ rest → ⊥
    at_end g s [] e = (one_test (Passes fits)).none (asked_at task ds g) s.test (subst (λ x. AllPass fits (asked_at task ds x)) (e ∙ append-nil g) p.passes) s.first
    at_end g s (r ∷ rest) e = (one_test (Passes fits)).none (asked_at task ds g) s.test (p.clear g r rest s.prefix e) s.first

apart : (fits : Fraction → Type 0) (task : Task) (ds : List ℕ) → IsAlive fits task ds → EndsBeyond fits task ds → ⊥
apart fits task ds a b =
    let p = a.each ds [] (sym (append-nil ds)) in
    elim b.beyond [
      | inl n ↦ n p.1.times
      | inr s ↦ no_halt fits task ds p.0 s.0 p.1 s.1
    ]

pub grid_is_tree : (fits : Fraction → Type 0) → GridIsTree fits
grid_is_tree fits task cut kept = record {
  before = alive_before fits task;
  before_limit = λ ds es some b. b.before ds es some refl;
  apart = apart fits task;
  within = λ ds d es a. a.within ds es d refl;
  within_limit = λ ds d es b. b.within ds es d refl;
  kept = λ ds es k b short a r. kept b.0 k b.2 ds es b.1 short record { short = omega arith; alive = a; goal = r };
}
