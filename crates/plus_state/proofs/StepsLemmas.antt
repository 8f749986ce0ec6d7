-- What the steps of a write come to.
use Rattle.std.proofs.Common.{◌≡◌, ℕ, Bool, true, false, List, [], ◌∷◌, ap, subst, ◌∙◌}
use Rattle.std.specs.Prelude.{Option, Some, None, if◌then◌else◌}
use Rattle.plus_fraction.specs.Fraction.{Fraction}
use Rattle.plus_model.specs.Terms.{Expression, State, Effect}
use Rattle.plus_model.specs.Value.{value, is_zero, holds}
use Rattle.plus_model.specs.Joint.{NoValue}
use Rattle.plus_state.specs.declared.term.AssignOp.{AssignOp}
use Rattle.plus_state.specs.Due.{Due, updates, due_update, due_write, due_effect}
use Rattle.plus_state.specs.Node.{Node}
use Rattle.plus_state.specs.Asked.{nodes, NodeFits, AllFit, FirstUnfit}
use Rattle.plus_state.specs.Tests.{tests_of}
use Rattle.plus_state.specs.Steps.{guarded, effect_steps, write_steps, Step, asks, fault, Passes, AllPass, FirstStop, need, need_divisor, amount_steps}
use Rattle.plus_state.specs.Tested.{Carries}
use Rattle.plus_state.proofs.Testing.{pass_none, pass_append, fail_left, fail_right, fail_here, carry_pass, carry_fail}

-- a node is a step that passes where it does
pub nodes_carry : (fits : Fraction → Type 0) → Carries asks (NodeFits fits) (Passes fits)
unfolding Passes
nodes_carry fits = record { there = λ n h. h; back = λ n h. h }

pub need_pass : (fits : Fraction → Type 0) (f : ℕ) (o : Option Fraction) (x : Fraction) → Some x ≡ o → AllPass fits (need f o)
unfolding need
need_pass fits f o x e = subst (λ w. AllPass fits (need f w)) e (pass_none (Passes fits))

pub need_stop : (fits : Fraction → Type 0) (f : ℕ) (o : Option Fraction) → None ≡ o → FirstStop fits (need f o) (fault (NoValue f))
unfolding need Passes
need_stop fits f o e = subst (λ w. FirstStop fits (need f w) (fault (NoValue f))) e (fail_here (Passes fits) _ [] (λ h. h))

pub divisor_pass : (fits : Fraction → Type 0) (f : ℕ) (o : Option Fraction) (x : Fraction) → Some x ≡ o → false ≡ is_zero x → AllPass fits (need_divisor f o)
unfolding need_divisor
divisor_pass fits f o x e z = subst (λ w. AllPass fits (need_divisor f w)) e (subst (λ (b : Bool). AllPass fits (if b then fault (NoValue f) ∷ [] else [])) z (pass_none (Passes fits)))

pub divisor_stop : (fits : Fraction → Type 0) (f : ℕ) (o : Option Fraction) (x : Fraction) → Some x ≡ o → true ≡ is_zero x → FirstStop fits (need_divisor f o) (fault (NoValue f))
unfolding need_divisor Passes
divisor_stop fits f o x e z = subst (λ w. FirstStop fits (need_divisor f w) (fault (NoValue f))) e (subst (λ (b : Bool). FirstStop fits (if b then fault (NoValue f) ∷ [] else []) (fault (NoValue f))) z (fail_here (Passes fits) _ [] (λ h. h)))

module _ (fits : Fraction → Type 0) (f : ℕ) (e : Expression) (s : State) where
  pub amount_pass : (x : Fraction) → AllFit fits (nodes e s) → Some x ≡ value e s → AllPass fits (amount_steps f e s)
  unfolding amount_steps
  amount_pass x a k = pass_append (Passes fits) _ _ (carry_pass (nodes_carry fits) _ a) (need_pass fits f _ x k)

  pub amount_missing : AllFit fits (nodes e s) → None ≡ value e s → FirstStop fits (amount_steps f e s) (fault (NoValue f))
  unfolding amount_steps
  amount_missing a k = fail_right (Passes fits) _ _ _ (carry_pass (nodes_carry fits) _ a) (need_stop fits f _ k)

  pub amount_unfit : (m : Node) → FirstUnfit fits (nodes e s) m → FirstStop fits (amount_steps f e s) (asks m)
  unfolding amount_steps
  amount_unfit m h = fail_left (Passes fits) _ _ _ (carry_fail (nodes_carry fits) _ m h)

-- the write that is due by an amount
pub due_some : (d : Due) (f : ℕ) (op : AssignOp) (o : Option Fraction) (x : Fraction) → d ≡ updates f (record { op = op; amount = x }) → Some x ≡ o → d ∷ [] ≡ due_update f op o
due_some d f op o x k e = ap (λ w. w ∷ []) k ∙ ap (due_update f op) e

pub ruleset stepping = (pass_none, pass_append, fail_left, fail_right, need_pass, need_stop, divisor_pass, divisor_stop, amount_pass, amount_missing, amount_unfit, due_some)

module _ (fits : Fraction → Type 0) (e : Effect) (s : State) where
  pub guard_unfit : (m : Node) → FirstUnfit fits (tests_of e.guard s) m → FirstStop fits (effect_steps e s) (asks m)
  unfolding effect_steps
  guard_unfit m h = fail_left (Passes fits) _ _ _ (carry_fail (nodes_carry fits) _ m h)

  pub guard_false : AllFit fits (tests_of e.guard s) → false ≡ holds e.guard s → AllPass fits (effect_steps e s)
  unfolding effect_steps
  guard_false a h = pass_append (Passes fits) _ _ (carry_pass (nodes_carry fits) _ a) (subst (λ (b : Bool). AllPass fits (guarded b (write_steps e.write s))) h (pass_none (Passes fits)))

  pub guard_true : AllFit fits (tests_of e.guard s) → true ≡ holds e.guard s → AllPass fits (write_steps e.write s) → AllPass fits (effect_steps e s)
  unfolding effect_steps
  guard_true a h w = pass_append (Passes fits) _ _ (carry_pass (nodes_carry fits) _ a) (subst (λ (b : Bool). AllPass fits (guarded b (write_steps e.write s))) h w)

  pub guard_stop : (m : Step) → AllFit fits (tests_of e.guard s) → true ≡ holds e.guard s → FirstStop fits (write_steps e.write s) m → FirstStop fits (effect_steps e s) m
  unfolding effect_steps
  guard_stop m a h w = fail_right (Passes fits) _ _ _ (carry_pass (nodes_carry fits) _ a) (subst (λ (b : Bool). FirstStop fits (guarded b (write_steps e.write s)) m) h w)

pub due_false : (e : Effect) (s : State) → false ≡ holds e.guard s → [] ≡ due_effect e s
due_false e s h = ap (λ (b : Bool). if b then due_write e.write s else []) h

pub due_true : (e : Effect) (s : State) (ds : List Due) → true ≡ holds e.guard s → ds ≡ due_write e.write s → ds ≡ due_effect e s
due_true e s ds h k = k ∙ ap (λ (b : Bool). if b then due_write e.write s else []) h

pub ruleset guarding = (guard_unfit, guard_false, guard_true, guard_stop, due_false, due_true)
