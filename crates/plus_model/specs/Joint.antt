-- The joint effect of several effects that happen at once. All of them read the state before it. An
-- atom that is added and deleted is true afterwards, as in Fox and Long (2003): the new atoms are
-- (s minus the deleted) and the added. Two or more writes on one fluent are allowed only where all
-- are `increase` or `decrease`, whose amounts add up; Fox and Long ask the same of two actions at
-- one moment. Here it is asked of all effects, those of one action included, and any other pair is
-- a conflict. There is no joint effect where an amount has no value, where `increase`, `decrease`
-- or a scaling meets a fluent without value, or where `scale-down` divides by zero. Which reason
-- counts where there are several is this project's profile: first every effect in order for what
-- lacks a value, then the fluents in ground order for conflicts.
use Rattle.std.specs.Prelude.{ℕ, suc, Bool, false, List, [], ◌∷◌, Option, Some, None, Result, Ok, Err, option_map, nat_eq, ◌||◌, ◌&&◌, not, if◌then◌else◌}
use Rattle.plus_fraction.specs.Fraction.{Fraction, ◌+ℚ◌, ◌*ℚ◌, ◌/ℚ◌, neg_ℚ}
use Rattle.plus_model.specs.Terms.{Write, Add, Delete, Assign, Increase, Decrease, ScaleUp, ScaleDown, Effect, State}
use Rattle.plus_model.specs.Value.{is_zero, fluent_of, value, holds}

-- why there is no joint effect: the fluent that is written lacks a value or an amount, or its
-- writes clash
pub data Fault : Type 0 where
  NoValue Conflict : ℕ → Fault

-- what a write does to an atom or a fluent, its amount evaluated: `Moves` is an `increase` or
-- `decrease`, and a scaling is a new value like an `assign`
pub data Change : Type 0 where
  Gains Loses : ℕ → Change
  Becomes Moves : ℕ → Fraction → Change

-- what f makes of a value; where there is none, the fault of the fluent that is written
abbrev pub given : {A : Type 0} → ℕ → Option Fraction → (Fraction → Result A Fault) → Result A Fault
given fluent None f = Err (NoValue fluent)
given fluent (Some x) f = f x

-- the change that a write makes in a state
abbrev pub change_of : Write → State → Result Change Fault
change_of (Add a) s = Ok (Gains a)
change_of (Delete a) s = Ok (Loses a)
change_of (Assign f e) s = given f (value e s) (λ x. Ok (Becomes f x))
change_of (Increase f e) s = given f (value e s) (λ x. given f (fluent_of s f) (λ v. Ok (Moves f x)))
change_of (Decrease f e) s =
    given f (value e s) (λ x. given f (fluent_of s f) (λ v. Ok (Moves f (neg_ℚ x))))
change_of (ScaleUp f e) s =
    given f (value e s) (λ x. given f (fluent_of s f) (λ v. Ok (Becomes f (v *ℚ x))))
change_of (ScaleDown f e) s =
    given f (value e s) (λ x. given f (fluent_of s f) (λ v.
    if is_zero x then Err (NoValue f) else Ok (Becomes f (v /ℚ x))))

-- one change before others, or the first fault
abbrev pub before : Result Change Fault → Result (List Change) Fault → Result (List Change) Fault
before (Err e) cs = Err e
before (Ok c) (Err e) = Err e
before (Ok c) (Ok cs) = Ok (c ∷ cs)

-- the changes of the effects whose guard holds, in order, or the first fault
abbrev pub changes_of : List Effect → State → Result (List Change) Fault
changes_of [] s = Ok []
changes_of (e ∷ es) s =
    if holds e.guard s then before (change_of e.write s) (changes_of es s) else changes_of es s

-- whether an atom is gained; whether it is lost
abbrev pub gains : ℕ → List Change → Bool
gains a [] = false
gains a (Gains b ∷ cs) = nat_eq a b || gains a cs
gains a (_ ∷ cs) = gains a cs

abbrev pub loses : ℕ → List Change → Bool
loses a [] = false
loses a (Loses b ∷ cs) = nat_eq a b || loses a cs
loses a (_ ∷ cs) = loses a cs

-- the atoms from number a on: what is gained is there, and what is only lost is not
abbrev pub new_atoms : ℕ → List Change → List Bool → List Bool
new_atoms a cs [] = []
new_atoms a cs (b ∷ bs) = (gains a cs || (b && not (loses a cs))) ∷ new_atoms (suc a) cs bs

-- what all writes on one fluent come to
pub data Written : Type 0 where
  Stays Clash : Written
  Becoming Moving : Fraction → Written

-- a new value is the only write on its fluent
abbrev pub becoming : Fraction → Written → Written
becoming x Stays = Becoming x
becoming x _ = Clash

-- moves of one fluent add up
abbrev pub moving : Fraction → Written → Written
moving x Stays = Moving x
moving x (Moving y) = Moving (x +ℚ y)
moving x _ = Clash

-- what the changes come to on fluent f
abbrev pub written : ℕ → List Change → Written
written f [] = Stays
written f (Gains a ∷ cs) = written f cs
written f (Loses a ∷ cs) = written f cs
written f (Becomes g x ∷ cs) = if nat_eq f g then becoming x (written f cs) else written f cs
written f (Moves g x ∷ cs) = if nat_eq f g then moving x (written f cs) else written f cs

-- the value of fluent f after its writes
abbrev pub new_value : ℕ → Written → Option Fraction → Result (Option Fraction) Fault
new_value f Stays v = Ok v
new_value f (Becoming x) v = Ok (Some x)
new_value f (Moving x) v = Ok (option_map (λ w. w +ℚ x) v)
new_value f Clash v = Err (Conflict f)

-- one value before others, or the first fault
abbrev pub value_before : Result (Option Fraction) Fault → Result (List (Option Fraction)) Fault
    → Result (List (Option Fraction)) Fault
value_before (Err e) vs = Err e
value_before (Ok v) (Err e) = Err e
value_before (Ok v) (Ok vs) = Ok (v ∷ vs)

-- the values of the fluents from number f on, or the first on which writes clash
abbrev pub new_values : ℕ → List Change → List (Option Fraction) → Result (List (Option Fraction)) Fault
new_values f cs [] = Ok []
new_values f cs (v ∷ vs) = value_before (new_value f (written f cs) v) (new_values (suc f) cs vs)

-- the state of these atoms and values, if there are values
abbrev pub with_atoms : List Bool → Result (List (Option Fraction)) Fault → Result State Fault
with_atoms bs (Err e) = Err e
with_atoms bs (Ok vs) = Ok (record { atoms = bs; fluents = vs })

-- the state after the changes, or the first fault
abbrev pub changed : Result (List Change) Fault → State → Result State Fault
changed (Err e) s = Err e
changed (Ok cs) s = with_atoms (new_atoms 0 cs s.atoms) (new_values 0 cs s.fluents)

-- the state after the joint effect, or the first fault in the order of evaluation
unfoldable pub joint : List Effect → State → Result State Fault
joint effects s = changed (changes_of effects s) s
