-- Writes that are due: the guard held and the amount was evaluated, and nothing is changed yet.
use Rattle.std.specs.Prelude.{ℕ, suc, Bool, true, false, not, ◌&&◌, List, [], ◌∷◌, ◌++◌, ◌<◌, Option, Some, None, nat_eq, if◌then◌else◌}
use Rattle.plus_fraction.specs.Fraction.{Fraction}
use Rattle.plus_model.specs.Terms as model
use Rattle.plus_model.specs.Terms.{State, Effect}
use Rattle.plus_model.specs.Value.{value, holds}
use Rattle.plus_model.specs.Joint.{Change, Gains, Loses, new_atoms}
use Rattle.plus_state.specs.declared.term.AssignOp.{AssignOp}
use Rattle.plus_state.specs.declared.term.AssignOp.TheVariants.{Assign, Increase, Decrease, ScaleUp, ScaleDown}
use Rattle.plus_state.specs.declared.term.Sign.{Sign}
use Rattle.plus_state.specs.declared.term.Sign.TheVariants.{Plus, Minus, Times, Divide}
use Rattle.plus_state.specs.Asked.{outcome}

-- a change of one fluent by an evaluated amount
pub record Update : Type 0 where
  pub op : AssignOp
  pub amount : Fraction

-- an atom becomes true or false; a fluent is changed
pub data Due : Type 0 where
  puts : ℕ → Bool → Due
  updates : ℕ → Update → Due

-- a joint effect that was begun in a state, and the writes that are due so far, in the order added
pub record Begun : Type 0 where
  pub start : State
  pub due : List Due

-- the atoms and fluents written are among these many
abbrev pub DueFits : ℕ → ℕ → Due → Type 0
DueFits atoms fluents (puts a b) = a < atoms
DueFits atoms fluents (updates f u) = f < fluents

abbrev pub DuesFit : ℕ → ℕ → List Due → Type 0
DuesFit atoms fluents [] = Unit {0}
DuesFit atoms fluents (d ∷ ds) = DueFits atoms fluents d × DuesFit atoms fluents ds

-- the write that is due by one effect; none where its guard does not hold, or its amount has no value
abbrev pub due_update : ℕ → AssignOp → Option Fraction → List Due
due_update f op None = []
due_update f op (Some x) = updates f (record { op = op; amount = x }) ∷ []

abbrev pub due_write : model.Write → State → List Due
due_write (model.Add a) s = puts a true ∷ []
due_write (model.Delete a) s = puts a false ∷ []
due_write (model.Assign f e) s = due_update f Assign (value e s)
due_write (model.Increase f e) s = due_update f Increase (value e s)
due_write (model.Decrease f e) s = due_update f Decrease (value e s)
due_write (model.ScaleUp f e) s = due_update f ScaleUp (value e s)
due_write (model.ScaleDown f e) s = due_update f ScaleDown (value e s)

abbrev pub due_effect : Effect → State → List Due
due_effect e s = if holds e.guard s then due_write e.write s else []

-- the writes that are due by these effects, in their order
abbrev pub dues : List Effect → State → List Due
dues [] s = []
dues (e ∷ es) s = due_effect e s ++ dues es s

-- the value plus, minus, times or divided by the amount
abbrev pub combined : Sign → Option Fraction → Fraction → Option Fraction
combined sign None x = None
combined sign (Some w) x = outcome sign w x

-- what a write makes of the value before it
abbrev pub updated : AssignOp → Fraction → Option Fraction → Option Fraction
updated Assign x v = Some x
updated Increase x v = combined Plus v x
updated Decrease x v = combined Minus v x
updated ScaleUp x v = combined Times v x
updated ScaleDown x v = combined Divide v x

-- the writes on one fluent, done one after the other
abbrev pub all_updated : List Update → Option Fraction → Option Fraction
all_updated [] v = v
all_updated (u ∷ us) v = all_updated us (updated u.op u.amount v)

-- the writes on one fluent, in the order added
abbrev pub updates_on : ℕ → List Due → List Update
updates_on f [] = []
updates_on f (puts a b ∷ ds) = updates_on f ds
updates_on f (updates g u ∷ ds) = if nat_eq f g then u ∷ updates_on f ds else updates_on f ds

-- the same for each of these fluents, of which the first has number f
abbrev pub by_fluent : ℕ → List Due → List (Option Fraction) → List (List Update)
by_fluent f ds [] = []
by_fluent f ds (v ∷ vs) = updates_on f ds ∷ by_fluent (suc f) ds vs

-- each fluent after its writes
abbrev pub new_fluents : List (List Update) → List (Option Fraction) → List (Option Fraction)
new_fluents [] vs = vs
new_fluents (us ∷ rest) [] = []
new_fluents (us ∷ rest) (v ∷ vs) = all_updated us v ∷ new_fluents rest vs

abbrev pub is_move : AssignOp → Bool
is_move Assign = false
is_move Increase = true
is_move Decrease = true
is_move ScaleUp = false
is_move ScaleDown = false

abbrev pub all_moves : List Update → Bool
all_moves [] = true
all_moves (u ∷ us) = is_move u.op && all_moves us

-- two or more writes on one fluent go together only where all increase or decrease it
abbrev pub clash : List Update → Bool
clash [] = false
clash (u ∷ []) = false
clash (u ∷ w ∷ us) = not (is_move u.op && all_moves (w ∷ us))

-- what becomes of atoms: an atom that is added and deleted is true
abbrev pub atom_change : ℕ → Bool → Change
atom_change a true = Gains a
atom_change a false = Loses a

abbrev pub atom_changes : List Due → List Change
atom_changes [] = []
atom_changes (puts a b ∷ ds) = atom_change a b ∷ atom_changes ds
atom_changes (updates f u ∷ ds) = atom_changes ds

-- the state after all writes that are due
abbrev pub after_dues : List Due → State → State
after_dues ds s = record {
  atoms = new_atoms 0 (atom_changes ds) s.atoms;
  fluents = new_fluents (by_fluent 0 ds s.fluents) s.fluents;
}
