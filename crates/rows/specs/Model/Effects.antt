-- Worked rows of joint effects. The state has the atoms 0 (true) and 1 (false), and the fluents 0
-- (6), 1 (4) and 2 (no value).
use Rattle.std.specs.Prelude.{◌≡◌, ℕ, Bool, true, false, List, [], ◌∷◌, Option, Some, None, Result, Ok, Err, pos}
use Rattle.plus_fraction.specs.Fraction.{Fraction, whole, over}
use Rattle.plus_model.specs.Terms.{Number, Difference, Condition, Always, Atom, Write, Add, Delete, Assign, Increase, Decrease, ScaleUp, ScaleDown, Effect, State}
use Rattle.plus_model.specs.Joint.{Fault, NoValue, Conflict, joint}
use Rattle.rows.specs.Model.Values.{some_values, six, four, unknown}

abbrev pub does : Write → Effect
does write = record { guard = Always; write = write }

abbrev pub when : Condition → Write → Effect
when guard write = record { guard = guard; write = write }

abbrev pub after_all : List Effect → Result State Fault
after_all effects = joint effects some_values

-- the state with these atoms, or with these values
abbrev pub with_truths : Bool → Bool → Result State Fault
with_truths a b =
    Ok (record { atoms = a ∷ b ∷ []; fluents = Some (whole (pos 6)) ∷ Some (whole (pos 4)) ∷ None ∷ [] })

abbrev pub with_values : Fraction → Fraction → Option Fraction → Result State Fault
with_values x y z = Ok (record { atoms = true ∷ false ∷ []; fluents = Some x ∷ Some y ∷ z ∷ [] })

abbrev pub n : ℕ → Fraction
n k = whole (pos k)

pub record AtomRows : Type 0 where
  pub nothing : after_all [] ≡ Ok some_values
  pub add : after_all (does (Add 1) ∷ []) ≡ with_truths true true
  pub delete : after_all (does (Delete 0) ∷ []) ≡ with_truths false false
  pub add_wins : after_all (does (Add 0) ∷ does (Delete 0) ∷ []) ≡ with_truths true false
  pub add_wins_later : after_all (does (Delete 1) ∷ does (Add 1) ∷ []) ≡ with_truths true true
  pub no_change : after_all (does (Add 0) ∷ does (Delete 1) ∷ []) ≡ with_truths true false
  pub guarded : after_all (when (Atom 1 true) (Delete 0) ∷ []) ≡ with_truths true false
  pub guards_read_before :
      after_all (does (Delete 0) ∷ when (Atom 0 true) (Add 1) ∷ []) ≡ with_truths false true

pub record FluentRows : Type 0 where
  pub assign : after_all (does (Assign 0 four) ∷ []) ≡ with_values (n 4) (n 4) None
  pub assign_new : after_all (does (Assign 2 four) ∷ []) ≡ with_values (n 6) (n 4) (Some (n 4))
  pub increase : after_all (does (Increase 0 four) ∷ []) ≡ with_values (n 10) (n 4) None
  pub decrease : after_all (does (Decrease 0 four) ∷ []) ≡ with_values (n 2) (n 4) None
  pub scale_up : after_all (does (ScaleUp 0 four) ∷ []) ≡ with_values (n 24) (n 4) None
  pub scale_down : after_all (does (ScaleDown 0 four) ∷ []) ≡ with_values (over (pos 3) 2) (n 4) None
  pub swap : after_all (does (Assign 0 four) ∷ does (Assign 1 six) ∷ []) ≡ with_values (n 4) (n 6) None
  pub add_up :
      after_all (does (Increase 0 four) ∷ does (Decrease 0 (Number (n 1))) ∷ does (Increase 0 six) ∷ []) ≡ with_values (n 15) (n 4) None

pub record FaultRows : Type 0 where
  pub amount : after_all (does (Assign 0 unknown) ∷ []) ≡ Err (NoValue 0)
  pub increased : after_all (does (Increase 2 four) ∷ []) ≡ Err (NoValue 2)
  pub decreased : after_all (does (Decrease 2 four) ∷ []) ≡ Err (NoValue 2)
  pub scaled_up : after_all (does (ScaleUp 2 four) ∷ []) ≡ Err (NoValue 2)
  pub scaled_down : after_all (does (ScaleDown 2 four) ∷ []) ≡ Err (NoValue 2)
  pub by_zero : after_all (does (ScaleDown 0 (Difference four four)) ∷ []) ≡ Err (NoValue 0)
  pub unasked : after_all (when (Atom 1 true) (Increase 2 unknown) ∷ []) ≡ Ok some_values
  pub assigned_before : after_all (does (Assign 2 four) ∷ does (Increase 2 four) ∷ []) ≡ Err (NoValue 2)
  pub two_assigns : after_all (does (Assign 0 four) ∷ does (Assign 0 four) ∷ []) ≡ Err (Conflict 0)
  pub assign_and_increase :
      after_all (does (Assign 0 four) ∷ does (Increase 0 four) ∷ []) ≡ Err (Conflict 0)
  pub decrease_and_assign :
      after_all (does (Decrease 1 four) ∷ does (Assign 1 four) ∷ []) ≡ Err (Conflict 1)
  pub two_scalings : after_all (does (ScaleUp 0 four) ∷ does (ScaleUp 0 four) ∷ []) ≡ Err (Conflict 0)
  pub scaling_and_increase :
      after_all (does (ScaleDown 0 four) ∷ does (Increase 0 four) ∷ []) ≡ Err (Conflict 0)
  pub lowest_conflict :
      after_all (does (Assign 1 six) ∷ does (Assign 0 six) ∷ does (Assign 1 six) ∷ does (Assign 0 six) ∷ []) ≡ Err (Conflict 0)
  pub values_first :
      after_all (does (Assign 0 six) ∷ does (Assign 0 six) ∷ does (Assign 1 unknown) ∷ []) ≡ Err (NoValue 1)
  pub first_value : after_all (does (Assign 1 unknown) ∷ does (Assign 0 unknown) ∷ []) ≡ Err (NoValue 1)
