-- Writes with their numbers: the writes on each number, in order, and what they come to one after the other.
use Rattle.std.specs.Prelude.{◌≡◌, ℕ, ◌≤◌, Bool, true, false, not, ◌&&◌, List, [], ◌∷◌, ◌++◌, Option, Some, None, nat_eq, slice_set, slice_get, unwrap_or, if◌then◌else◌}
use Rattle.plus_fraction.specs.Fraction.{Fraction}
use Rattle.plus_state.specs.Node.{Node}
use Rattle.plus_state.specs.Due.{Update, Due, puts, updates, is_move, updated}
use Rattle.plus_state.specs.Steps.{updated_nodes}

-- those of number k, in order
abbrev pub on : {A : Type 0} → ℕ → List (ℕ × A) → List A
on k [] = []
on k (p ∷ ps) = if nat_eq k p.0 then p.1 ∷ on k ps else on k ps

-- no number is below k; the numbers do not fall
abbrev pub From : {A : Type 0} → ℕ → List (ℕ × A) → Type 0
From k [] = Unit {0}
From k (p ∷ ps) = (k ≤ p.0) × From k ps

abbrev pub Ordered : {A : Type 0} → List (ℕ × A) → Type 0
Ordered [] = Unit {0}
Ordered (p ∷ ps) = From p.0 ps × Ordered ps

-- the same with numbers that do not fall, those of one number in the order that they had
pub record Sorts {A : Type 0} (xs ys : List (ℕ × A)) : Type 0 where
  pub order : Ordered ys
  pub same : (k : ℕ) → on k ys ≡ on k xs

-- the writes on fluents
abbrev pub set_of : Due → List (ℕ × Update)
set_of (puts a b) = []
set_of (updates f u) = (f, u) ∷ []

abbrev pub sets : List Due → List (ℕ × Update)
sets [] = []
sets (d ∷ ds) = set_of d ++ sets ds

-- the writes that give atoms this truth
abbrev pub put_of : Bool → Due → List (ℕ × Bool)
put_of true (puts a true) = (a, true) ∷ []
put_of false (puts a false) = (a, false) ∷ []
put_of present d = []

abbrev pub puts_as : Bool → List Due → List (ℕ × Bool)
puts_as present [] = []
puts_as present (d ∷ ds) = put_of present d ++ puts_as present ds

-- a write clashes with the one before it
abbrev pub clashes : Option (ℕ × Update) → ℕ × Update → Bool
clashes None q = false
clashes (Some p) q = nat_eq p.0 q.0 && not (is_move p.1.op && is_move q.1.op)

abbrev pub clash_after : Option (ℕ × Update) → List (ℕ × Update) → Option ℕ
clash_after p [] = None
clash_after p (q ∷ qs) = if clashes p q then Some q.0 else clash_after (Some q) qs

-- values by their numbers after the writes, one after the other, and what that asks
abbrev pub value_at : List (Option Fraction) → ℕ → Option Fraction
value_at vs f = unwrap_or (slice_get vs f) None

abbrev pub after : List (ℕ × Update) → List (Option Fraction) → List (Option Fraction)
after [] vs = vs
after (p ∷ ps) vs = after ps (slice_set vs p.0 (updated p.1.op p.1.amount (value_at vs p.0)))

abbrev pub walk : List (ℕ × Update) → List (Option Fraction) → List Node
walk [] vs = []
walk (p ∷ ps) vs = updated_nodes p.1.op p.1.amount (value_at vs p.0) ++ walk ps (slice_set vs p.0 (updated p.1.op p.1.amount (value_at vs p.0)))

-- a change that is open ends where the next number is another
abbrev pub shut : {A : Type 0} → Option (ℕ × A) → ℕ → List (ℕ × A)
shut None k = []
shut (Some c) k = if nat_eq c.0 k then [] else c ∷ []

-- the change that is open is one of this number
abbrev pub is_open : {A : Type 0} → Option (ℕ × A) → ℕ → Bool
is_open None k = false
is_open (Some c) k = nat_eq c.0 k

-- the value of number k where a change is open, else this one
abbrev pub at_open : {A : Type 0} → Option (ℕ × A) → ℕ → A → A
at_open None k d = d
at_open (Some c) k d = if nat_eq c.0 k then c.1 else d
