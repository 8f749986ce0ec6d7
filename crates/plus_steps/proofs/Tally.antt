-- What effects come to, atom by atom and fluent by fluent, whatever their order: which atoms are gained and lost, what is
-- written on each fluent, and whether each effect can be evaluated.
use Rattle.std.proofs.Common.{◌≡◌, ℕ, suc, Bool, true, false, not, ◌&&◌, ◌||◌, List, [], ◌∷◌, ◌++◌, refl, ap, ap₂, sym, ◌∙◌}
use Rattle.std.specs.Prelude.{Option, Result, Ok, Err, nat_eq, if◌then◌else◌}
use Rattle.plus_fraction.specs.Fraction.{Fraction}
use Rattle.plus_fraction.proofs.FractionLaws.{+ℚ_comm, +ℚ_assoc}
use Rattle.plus_model.specs.Terms.{Effect, State}
use Rattle.plus_model.specs.Value.{holds}
use Rattle.plus_model.specs.Joint.{Fault, Change, Gains, Loses, Becomes, Moves, change_of, before, changes_of, gains, loses, new_atoms, Written, Stays, Clash, Becoming, Moving, becoming, moving, written, new_value, value_before, new_values, with_atoms, changed, joint}

-- ---- of one change
abbrev pub change_gains : ℕ → Result Change Fault → Bool
change_gains a (Ok (Gains b)) = nat_eq a b
change_gains a _ = false

abbrev pub change_loses : ℕ → Result Change Fault → Bool
change_loses a (Ok (Loses b)) = nat_eq a b
change_loses a _ = false

abbrev pub change_written : ℕ → Result Change Fault → Written
change_written f (Ok (Becomes g x)) = if nat_eq f g then Becoming x else Stays
change_written f (Ok (Moves g x)) = if nat_eq f g then Moving x else Stays
change_written f _ = Stays

abbrev pub change_fine : Result Change Fault → Bool
change_fine (Ok c) = true
change_fine (Err e) = false

-- ---- of one effect
abbrev pub when : {A : Type 0} → Bool → A → A → A
when true x y = x
when false x y = y

abbrev pub gained_by : ℕ → Effect → State → Bool
gained_by a e s = when (holds e.guard s) (change_gains a (change_of e.write s)) false

abbrev pub lost_by : ℕ → Effect → State → Bool
lost_by a e s = when (holds e.guard s) (change_loses a (change_of e.write s)) false

abbrev pub wrote_by : ℕ → Effect → State → Written
wrote_by f e s = when (holds e.guard s) (change_written f (change_of e.write s)) Stays

abbrev pub fine_by : Effect → State → Bool
fine_by e s = when (holds e.guard s) (change_fine (change_of e.write s)) true

-- ---- of several
abbrev pub both_written : Written → Written → Written
both_written Stays w = w
both_written (Becoming x) w = becoming x w
both_written (Moving x) w = moving x w
both_written Clash w = Clash

unfoldable pub gained : ℕ → List Effect → State → Bool
gained a [] s = false
gained a (e ∷ es) s = gained_by a e s || gained a es s

unfoldable pub lost : ℕ → List Effect → State → Bool
lost a [] s = false
lost a (e ∷ es) s = lost_by a e s || lost a es s

unfoldable pub wrote : ℕ → List Effect → State → Written
wrote f [] s = Stays
wrote f (e ∷ es) s = both_written (wrote_by f e s) (wrote f es s)

unfoldable pub fine : List Effect → State → Bool
fine [] s = true
fine (e ∷ es) s = fine_by e s && fine es s

-- the atoms and the values from a number on
abbrev pub atoms_by : ℕ → List Effect → State → List Bool → List Bool
atoms_by k es s [] = []
atoms_by k es s (b ∷ bs) = (gained k es s || (b && not (lost k es s))) ∷ atoms_by (suc k) es s bs

abbrev pub values_by : ℕ → List Effect → State → List (Option Fraction) → Result (List (Option Fraction)) Fault
values_by k es s [] = Ok []
values_by k es s (v ∷ vs) = value_before (new_value k (wrote k es s) v) (values_by (suc k) es s vs)

abbrev pub state_by : List Effect → State → Result State Fault
state_by es s = with_atoms (atoms_by 0 es s s.atoms) (values_by 0 es s s.fluents)

-- ---- the changes of effects, and their tally
pub record Tallied (es : List Effect) (s : State) (cs : List Change) : Type 0 where
  pub fine_is : fine es s ≡ true
  pub gained_is : (a : ℕ) → gains a cs ≡ gained a es s
  pub lost_is : (a : ℕ) → loses a cs ≡ lost a es s
  pub wrote_is : (f : ℕ) → written f cs ≡ wrote f es s

gains_first : (a : ℕ) (c : Change) (cs : List Change) → gains a (c ∷ cs) ≡ change_gains a (Ok c) || gains a cs
gains_first a (Gains b) cs = refl
gains_first a (Loses b) cs = refl
gains_first a (Becomes g x) cs = refl
gains_first a (Moves g x) cs = refl

loses_first : (a : ℕ) (c : Change) (cs : List Change) → loses a (c ∷ cs) ≡ change_loses a (Ok c) || loses a cs
loses_first a (Gains b) cs = refl
loses_first a (Loses b) cs = refl
loses_first a (Becomes g x) cs = refl
loses_first a (Moves g x) cs = refl

if_written : (b : Bool) (v w : Written) → (if b then both_written v w else w) ≡ both_written (if b then v else Stays) w
if_written true v w = refl
if_written false v w = refl

written_first : (f : ℕ) (c : Change) (cs : List Change) → written f (c ∷ cs) ≡ both_written (change_written f (Ok c)) (written f cs)
written_first f (Gains b) cs = refl
written_first f (Loses b) cs = refl
written_first f (Becomes g x) cs = if_written (nat_eq f g) (Becoming x) (written f cs)
written_first f (Moves g x) cs = if_written (nat_eq f g) (Moving x) (written f cs)

-- the changes of a list, case by case
pub data Changes (es : List Effect) (s : State) : Type 0 where
  there : (cs : List Change) → changes_of es s ≡ Ok cs → Tallied es s cs → Changes es s
  fails : (e : Fault) → changes_of es s ≡ Err e → fine es s ≡ false → Changes es s

and_false : (b : Bool) → b && false ≡ false
and_false true = refl
and_false false = refl

pub changes_are : (es : List Effect) (s : State) → Changes es s
unfolding gained lost wrote fine
changes_are [] s = there [] refl (record { fine_is = refl; gained_is = λ a. refl; lost_is = λ a. refl; wrote_is = λ f. refl })
changes_are (e ∷ es) s = step (holds e.guard s) refl (change_of e.write s) refl (changes_are es s)
  where
    step : (b : Bool) → b ≡ holds e.guard s → (r : Result Change Fault) → r ≡ change_of e.write s → Changes es s → Changes (e ∷ es) s
    step false h r k (there cs x t) = there cs (ap (λ (c : Bool). if c then before (change_of e.write s) (changes_of es s) else changes_of es s) (sym h) ∙ x) (record {
      fine_is = ap (λ (c : Bool). when c (change_fine (change_of e.write s)) true && fine es s) (sym h) ∙ t.fine_is;
      gained_is = λ a. t.gained_is a ∙ ap (λ (c : Bool). when c (change_gains a (change_of e.write s)) false || gained a es s) h;
      lost_is = λ a. t.lost_is a ∙ ap (λ (c : Bool). when c (change_loses a (change_of e.write s)) false || lost a es s) h;
      wrote_is = λ f. t.wrote_is f ∙ ap (λ (c : Bool). both_written (when c (change_written f (change_of e.write s)) Stays) (wrote f es s)) h;
    })
    step false h r k (fails w x t) = fails w (ap (λ (c : Bool). if c then before (change_of e.write s) (changes_of es s) else changes_of es s) (sym h) ∙ x)
        (ap (λ (b : Bool). fine_by e s && b) t ∙ and_false (fine_by e s))
    step true h (Err w) k rest = fails w (ap (λ (c : Bool). if c then before (change_of e.write s) (changes_of es s) else changes_of es s) (sym h) ∙ ap (λ x. before x (changes_of es s)) (sym k))
        (ap (λ (c : Bool). when c (change_fine (change_of e.write s)) true && fine es s) (sym h) ∙ ap (λ x. change_fine x && fine es s) (sym k))
    step true h (Ok c) k (fails w x t) = fails w (ap (λ (c : Bool). if c then before (change_of e.write s) (changes_of es s) else changes_of es s) (sym h) ∙ ap₂ before (sym k) x)
        (ap (λ (b : Bool). fine_by e s && b) t ∙ and_false (fine_by e s))
    step true h (Ok c) k (there cs x t) = there (c ∷ cs) (ap (λ (c : Bool). if c then before (change_of e.write s) (changes_of es s) else changes_of es s) (sym h) ∙ ap₂ before (sym k) x) (record {
      fine_is = ap (λ (c : Bool). when c (change_fine (change_of e.write s)) true && fine es s) (sym h) ∙ ap₂ (λ x b. change_fine x && b) (sym k) t.fine_is;
      gained_is = λ a. gains_first a c cs ∙ ap₂ (λ x b. change_gains a x || b) k (t.gained_is a) ∙ ap (λ (c : Bool). when c (change_gains a (change_of e.write s)) false || gained a es s) h;
      lost_is = λ a. loses_first a c cs ∙ ap₂ (λ x b. change_loses a x || b) k (t.lost_is a) ∙ ap (λ (c : Bool). when c (change_loses a (change_of e.write s)) false || lost a es s) h;
      wrote_is = λ f. written_first f c cs ∙ ap₂ (λ x b. both_written (change_written f x) b) k (t.wrote_is f) ∙ ap (λ (c : Bool). both_written (when c (change_written f (change_of e.write s)) Stays) (wrote f es s)) h;
    })

-- ---- the joint effect by its tally
same_atoms : (k : ℕ) (es : List Effect) (s : State) (cs : List Change) → Tallied es s cs → (bs : List Bool) → new_atoms k cs bs ≡ atoms_by k es s bs
same_atoms k es s cs t [] = refl
same_atoms k es s cs t (b ∷ bs) =
    ap₂ (λ h r. h ∷ r) (ap₂ (λ (x y : Bool). x || (b && not y)) (t.gained_is k) (t.lost_is k)) (same_atoms (suc k) es s cs t bs)

same_values : (k : ℕ) (es : List Effect) (s : State) (cs : List Change) → Tallied es s cs → (vs : List (Option Fraction)) → new_values k cs vs ≡ values_by k es s vs
same_values k es s cs t [] = refl
same_values k es s cs t (v ∷ vs) = ap₂ value_before (ap (λ w. new_value k w v) (t.wrote_is k)) (same_values (suc k) es s cs t vs)

pub joint_there : (es : List Effect) (s : State) → fine es s ≡ true → joint es s ≡ state_by es s
unfolding joint
joint_there es s f = elim (changes_are es s) [
  | there cs x t ↦ ap (λ r. changed r s) x ∙ ap₂ with_atoms (same_atoms 0 es s cs t s.atoms) (same_values 0 es s cs t s.fluents)
  | fails e x g ↦ cc
]

pub joint_fine : (es : List Effect) (s t : State) → joint es s ≡ Ok t → fine es s ≡ true
unfolding joint
joint_fine es s t h = elim (changes_are es s) [
  | there cs x y ↦ y.fine_is
  | fails e x g ↦ absurd (no_state e t (ap (λ r. changed r s) (sym x) ∙ h))
]
  where
    no_state : (e : Fault) (t : State) → changed (Err e) s ≡ Ok t → ⊥
    no_state e t h = cc

-- ---- lists one after the other
module _ (s : State) where
  pub gained-append : (a : ℕ) (es fs : List Effect) → gained a (es ++ fs) s ≡ gained a es s || gained a fs s
  unfolding gained
  gained-append a [] fs = refl
  gained-append a (e ∷ es) fs = ap (λ (b : Bool). gained_by a e s || b) (gained-append a es fs) ∙ or_assoc (gained_by a e s) (gained a es s) (gained a fs s)
    where
      or_assoc : (x y z : Bool) → x || (y || z) ≡ (x || y) || z
      or_assoc true y z = refl
      or_assoc false y z = refl

  pub lost-append : (a : ℕ) (es fs : List Effect) → lost a (es ++ fs) s ≡ lost a es s || lost a fs s
  unfolding lost
  lost-append a [] fs = refl
  lost-append a (e ∷ es) fs = ap (λ (b : Bool). lost_by a e s || b) (lost-append a es fs) ∙ or_assoc (lost_by a e s) (lost a es s) (lost a fs s)
    where
      or_assoc : (x y z : Bool) → x || (y || z) ≡ (x || y) || z
      or_assoc true y z = refl
      or_assoc false y z = refl

  pub fine-append : (es fs : List Effect) → fine (es ++ fs) s ≡ fine es s && fine fs s
  unfolding fine
  fine-append [] fs = refl
  fine-append (e ∷ es) fs = ap (λ (b : Bool). fine_by e s && b) (fine-append es fs) ∙ and_assoc (fine_by e s) (fine es s) (fine fs s)
    where
      and_assoc : (x y z : Bool) → x && (y && z) ≡ (x && y) && z
      and_assoc true y z = refl
      and_assoc false y z = refl

-- writes are told whatever their order
pub written_comm : (v w : Written) → both_written v w ≡ both_written w v
written_comm Stays Stays = refl
written_comm Stays (Becoming y) = refl
written_comm Stays (Moving y) = refl
written_comm Stays Clash = refl
written_comm (Becoming x) Stays = refl
written_comm (Becoming x) (Becoming y) = refl
written_comm (Becoming x) (Moving y) = refl
written_comm (Becoming x) Clash = refl
written_comm (Moving x) Stays = refl
written_comm (Moving x) (Becoming y) = refl
written_comm (Moving x) (Moving y) = ap Moving (+ℚ_comm x y)
written_comm (Moving x) Clash = refl
written_comm Clash Stays = refl
written_comm Clash (Becoming y) = refl
written_comm Clash (Moving y) = refl
written_comm Clash Clash = refl

pub written_assoc : (u v w : Written) → both_written u (both_written v w) ≡ both_written (both_written u v) w
written_assoc Stays v w = refl
written_assoc Clash v w = refl
written_assoc (Becoming x) Stays w = refl
written_assoc (Becoming x) (Becoming y) Stays = refl
written_assoc (Becoming x) (Becoming y) (Becoming z) = refl
written_assoc (Becoming x) (Becoming y) (Moving z) = refl
written_assoc (Becoming x) (Becoming y) Clash = refl
written_assoc (Becoming x) (Moving y) Stays = refl
written_assoc (Becoming x) (Moving y) (Becoming z) = refl
written_assoc (Becoming x) (Moving y) (Moving z) = refl
written_assoc (Becoming x) (Moving y) Clash = refl
written_assoc (Becoming x) Clash w = refl
written_assoc (Moving x) Stays w = refl
written_assoc (Moving x) (Becoming y) Stays = refl
written_assoc (Moving x) (Becoming y) (Becoming z) = refl
written_assoc (Moving x) (Becoming y) (Moving z) = refl
written_assoc (Moving x) (Becoming y) Clash = refl
written_assoc (Moving x) (Moving y) Stays = refl
written_assoc (Moving x) (Moving y) (Becoming z) = refl
written_assoc (Moving x) (Moving y) (Moving z) = ap Moving (sym (+ℚ_assoc x y z))
written_assoc (Moving x) (Moving y) Clash = refl
written_assoc (Moving x) Clash w = refl

pub wrote-append : (s : State) (f : ℕ) (es fs : List Effect) → wrote f (es ++ fs) s ≡ both_written (wrote f es s) (wrote f fs s)
unfolding wrote
wrote-append s f [] fs = refl
wrote-append s f (e ∷ es) fs =
    ap (λ w. both_written (wrote_by f e s) w) (wrote-append s f es fs) ∙ written_assoc (wrote_by f e s) (wrote f es s) (wrote f fs s)
