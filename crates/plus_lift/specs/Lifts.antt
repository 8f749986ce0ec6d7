-- The timed plan that an untimed plan of a translation leaves.
use Rattle.std.specs.Prelude.{◌≡◌, ℕ, suc, List, [], ◌∷◌, ◌++◌, map, All, pos}
use Rattle.plus_fraction.specs.Fraction.{Fraction, whole}
use Rattle.plus_number.specs.declared.frac.Frac64.{Frac64}
use Rattle.plus_number.specs.Frac.{fraction_of, IsFrac64}
use Rattle.plus_tree.specs.declared.trees.Call.{Call}
use Rattle.plus_state.specs.declared.term.Sign.TheVariants.{Times}
use Rattle.plus_state.specs.declared.outcome.TimedPlan.{TimedPlan}
use Rattle.plus_expansion.specs.Numbers.{label_of}
use Rattle.plus_steps.specs.Stepped.{Move, Act, Tick, time_of_step, timed}
use Rattle.plus_steps.specs.Laws.{CallName}
use Rattle.plus_translation.specs.Laws.{stripped}
use Rattle.plus_report.specs.Plans.{Timed, acts_of}
use Rattle.plus_lift.specs.declared.fault.LiftFault.{LiftFault}
use Rattle.plus_lift.specs.declared.fault.LiftFault.TheVariants.{Number, Memory}

-- the names of calls
abbrev pub names_of : List Call → List CallName
names_of calls = map (λ c. (c.name, c.args)) calls

-- actions by their labels
abbrev pub labelled : List (Fraction × CallName) → List Timed
labelled acts = map (λ a. (a.0, label_of a.1.0 a.1.1)) acts

-- the steps before each act and before the end, of which there are n at first
abbrev pub counts : {C : Type 0} → ℕ → List (Move C) → List ℕ
counts n [] = n ∷ []
counts n (Act call ∷ moves) = n ∷ counts n moves
counts n (Tick ∷ moves) = counts (suc n) moves

-- so many steps times the length of one is no value, and these are the operands
abbrev pub IsOverflow : Frac64 → ℕ → LiftFault → Type 0
IsOverflow interval count (Number o) =
    (IsFrac64 (time_of_step (fraction_of interval) count) → ⊥) × (o.sign ≡ Times) × (fraction_of o.left ≡ whole (pos count)) × (o.right ≡ interval)
IsOverflow interval count Memory = ⊥

-- the acts of the moves that are left, each with its time, and the end
pub record IsLifted (q : Fraction) (calls : List Call) (plan : TimedPlan Frac64) : Type 0 where
  pub acts : acts_of fraction_of plan.acts.items ≡ labelled (timed q (stripped (names_of calls))).0
  pub ends : fraction_of plan.«end» ≡ (timed q (stripped (names_of calls))).1

-- the first time that is no value
pub record IsFirstOverflow (interval : Frac64) (steps : List ℕ) (fault : LiftFault) : Type 0 where
  pub before : List ℕ
  pub count : ℕ
  pub after : List ℕ
  pub split : steps ≡ before ++ count ∷ after
  pub fit : All (λ n. IsFrac64 (time_of_step (fraction_of interval) n)) before
  pub overflow : IsOverflow interval count fault

-- the first of these numbers of steps whose time is no value
pub record IsFirstLate (q : Fraction) (steps : List ℕ) (count : ℕ) : Type 0 where
  pub before : List ℕ
  pub after : List ℕ
  pub split : steps ≡ before ++ count ∷ after
  pub fit : All (λ n. IsFrac64 (time_of_step q n)) before
  pub late : IsFrac64 (time_of_step q count) → ⊥

-- want of memory is free
abbrev pub IsNotLifted : Frac64 → List Call → LiftFault → Type 0
IsNotLifted interval calls (Number o) = IsFirstOverflow interval (counts 0 (stripped (names_of calls))) (Number o)
IsNotLifted interval calls Memory = Unit {0}
