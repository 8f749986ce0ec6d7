-- Worked rows of the fluents that an expression names, of live comparisons, of lines in order and of
-- cascades. The fluents are x and y; atom 0 is true and atom 1 is not.
use Rattle.std.specs.Prelude.{◌≡◌, true, false, [], ◌∷◌, Some}
use Rattle.plus_model.specs.Terms.{Expression, Number, Fluent, Sum, Difference, Product, Quotient, AtLeast, Condition, Always, Never, Both, Either, Atom, State, Rate}
use Rattle.plus_model.specs.Running.{names, names_of_rates}
use Rattle.plus_model.specs.Live.{live}
use Rattle.plus_model.specs.Firing.{Cascade}
use Rattle.plus_model.specs.Plan.{IsInOrder}
use Rattle.rows.specs.Model.Door.{end_at}
use Rattle.rows.specs.Model.Rises.{n, if_x}
use Rattle.rows.specs.Model.Times.{called, chain, one_token, two_tokens, last_tokens, loop_token}

abbrev pub x : Expression
x = Fluent 0

abbrev pub y : Expression
y = Fluent 1

abbrev pub rate_by : Expression → Rate
rate_by amount = record { fluent = 2; up = true; amount = amount }

pub record NameRows : Type 0 where
  pub number : names (Number (n 5)) ≡ []
  pub fluent : names y ≡ 1 ∷ []
  pub sum : names (Sum y x) ≡ 1 ∷ 0 ∷ []
  pub difference : names (Difference x y) ≡ 0 ∷ 1 ∷ []
  pub product : names (Product y x) ≡ 1 ∷ 0 ∷ []
  pub quotient : names (Quotient x y) ≡ 0 ∷ 1 ∷ []
  pub cancelled : names (Difference x x) ≡ 0 ∷ 0 ∷ []
  pub nested : names (Sum (Product (Number (n 0)) y) (Quotient x (Number (n 2)))) ≡ 1 ∷ 0 ∷ []
  pub rates : names_of_rates (rate_by y ∷ rate_by (Number (n 1)) ∷ rate_by (Sum x y) ∷ []) ≡ 1 ∷ 0 ∷ 1 ∷ []

abbrev pub state : State
state = record { atoms = true ∷ false ∷ []; fluents = Some (n 5) ∷ Some (n 2) ∷ [] }

abbrev pub left : Condition → Condition
left c = live c state

-- (>= (x) 5), and (>= (x) 6): which of them holds does not matter
abbrev pub five : Condition
five = if_x AtLeast 5

abbrev pub six : Condition
six = if_x AtLeast 6

pub record LiveRows : Type 0 where
  pub atom : left (Atom 0 true) ≡ Always
  pub not_atom : left (Atom 0 false) ≡ Never
  pub comparison : left six ≡ six
  pub beside_true : left (Both (Atom 0 true) (Both five Always)) ≡ five
  pub beside_false : left (Both five (Both (Atom 1 true) Always)) ≡ Never
  pub or_true : left (Either five (Either (Atom 1 false) Never)) ≡ Always
  pub or_false : left (Either (Atom 1 true) (Either six Never)) ≡ six
  pub both : left (Both five (Both six Always)) ≡ Both five six
  pub either : left (Either (Both five (Both (Atom 1 true) Always)) (Either six (Either five Never))) ≡ Either six five

pub record OrderRows : Type 0 where
  pub at_once : IsInOrder (called 4 ∷ called 4 ∷ end_at 4 ∷ [])
  pub goes_back : IsInOrder (called 1 ∷ called 4 ∷ called 3 ∷ []) → ⊥
  pub ends_before : IsInOrder (called 1 ∷ called 4 ∷ end_at 3 ∷ []) → ⊥
  pub after_end : IsInOrder (called 1 ∷ end_at 4 ∷ called 5 ∷ []) → ⊥
  pub two_ends : IsInOrder (called 1 ∷ end_at 4 ∷ end_at 4 ∷ []) → ⊥

-- events 0 and 1 fire together, then event 2; event 3 would fire again and again
pub record CascadeRows : Type 0 where
  pub whole : Cascade chain [] one_token ((0 ∷ 1 ∷ [], two_tokens) ∷ (2 ∷ [], last_tokens) ∷ []) last_tokens
  pub not_over : Cascade chain [] one_token [] one_token → ⊥
  pub cut_off : Cascade chain [] one_token ((0 ∷ 1 ∷ [], two_tokens) ∷ []) two_tokens → ⊥
  pub one_alone : Cascade chain [] one_token ((0 ∷ [], two_tokens) ∷ (2 ∷ [], last_tokens) ∷ []) last_tokens → ⊥
  pub again : Cascade chain (2 ∷ []) two_tokens ((2 ∷ [], last_tokens) ∷ []) last_tokens → ⊥
  pub endless : Cascade chain [] loop_token ((3 ∷ [], loop_token) ∷ (3 ∷ [], loop_token) ∷ []) loop_token → ⊥
