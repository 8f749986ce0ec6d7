-- What lets a `Model` hold a joint effect that is being put together.
use Rattle.std.specs.Prelude.{◌≡◌, ◌⊎◌, ℕ, zero, suc, Bool, List, refl}
use Rattle.std.specs.Coded.{Coded, code_by, coded_ℕ, coded_bool, coded_list, coded×, coded⊎}
use Rattle.std.proofs.Common.{inl, inr}
use Rattle.plus_fraction.specs.Fraction.{Fraction}
use Rattle.plus_fraction.specs.FractionCode.{coded_fraction}
use Rattle.plus_model.specs.Terms.{State}
use Rattle.plus_model.specs.Codes.{coded_state}
use Rattle.plus_state.specs.declared.term.AssignOp.{AssignOp}
use Rattle.plus_state.specs.declared.term.AssignOp.TheVariants.{Assign, Increase, Decrease, ScaleUp, ScaleDown}
use Rattle.plus_state.specs.Due.{Update, Due, puts, updates, Begun}

abbrev pub number_of_op : AssignOp → ℕ
number_of_op Assign = 0
number_of_op Increase = 1
number_of_op Decrease = 2
number_of_op ScaleUp = 3
number_of_op ScaleDown = 4

abbrev pub op_of_number : ℕ → AssignOp
op_of_number zero = Assign
op_of_number (suc zero) = Increase
op_of_number (suc (suc zero)) = Decrease
op_of_number (suc (suc (suc zero))) = ScaleUp
op_of_number (suc (suc (suc (suc n)))) = ScaleDown

abbrev pub op_back : (op : AssignOp) → op_of_number (number_of_op op) ≡ op
op_back Assign = refl
op_back Increase = refl
op_back Decrease = refl
op_back ScaleUp = refl
op_back ScaleDown = refl

abbrev pub coded_op : Coded AssignOp
coded_op = code_by ℕ coded_ℕ number_of_op op_of_number op_back

abbrev pub coded_update : Coded Update
coded_update = code_by (AssignOp × Fraction) (coded× coded_op coded_fraction) (λ u. (u.op, u.amount)) (λ p. record { op = p.0; amount = p.1 }) (λ _. refl)

abbrev pub split_due : Due → (ℕ × Bool) ⊎ (ℕ × Update)
split_due (puts a b) = inl (a, b)
split_due (updates f u) = inr (f, u)

abbrev pub join_due : (ℕ × Bool) ⊎ (ℕ × Update) → Due
join_due (inl p) = puts p.0 p.1
join_due (inr p) = updates p.0 p.1

abbrev pub due_back : (d : Due) → join_due (split_due d) ≡ d
due_back (puts a b) = refl
due_back (updates f u) = refl

abbrev pub coded_due : Coded Due
coded_due = code_by ((ℕ × Bool) ⊎ (ℕ × Update)) (coded⊎ (coded× coded_ℕ coded_bool) (coded× coded_ℕ coded_update)) split_due join_due due_back

abbrev pub coded_begun : Coded Begun
coded_begun = code_by (State × List Due) (coded× coded_state (coded_list coded_due)) (λ b. (b.start, b.due)) (λ p. record { start = p.0; due = p.1 }) (λ _. refl)
