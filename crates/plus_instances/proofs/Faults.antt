-- The fluents that the faults of effects name are among those that the effects write.
use Rattle.std.proofs.Common.{◌≡◌, ℕ, ◌<◌, suc, true, false, List, [], ◌∷◌, refl, sym, subst}
use Rattle.std.proofs.lemmas.Bool.{eqb-true}
use Rattle.std.specs.Prelude.{Option, Some, None, Result, Ok, Err, MatchResult, IfErr, Bool, nat_eq, if◌then◌else◌}
use Rattle.plus_fraction.specs.Fraction.{Fraction, ◌/ℚ◌}
use Rattle.plus_model.specs.Terms.{Write, Add, Delete, Assign, Increase, Decrease, ScaleUp, ScaleDown, Effect, State}
use Rattle.plus_model.specs.Value.{value, fluent_of, is_zero, holds}
use Rattle.plus_model.specs.Joint.{Fault, NoValue, Conflict, Change, Gains, Loses, Becomes, Moves, given, change_of, changes_of, before, changed, Written, Stays, Clash, Becoming, Moving, becoming, moving, written, new_value, new_values, new_atoms, value_before, with_atoms, joint}
use Rattle.plus_state.specs.Fits.{WriteFits, AllEffectsFit}

FaultIn : ℕ → Fault → Type 0
FaultIn m (NoValue g) = g < m
FaultIn m (Conflict g) = g < m

ChangeIn : ℕ → Change → Type 0
ChangeIn m (Gains a) = Unit {0}
ChangeIn m (Loses a) = Unit {0}
ChangeIn m (Becomes f x) = f < m
ChangeIn m (Moves f x) = f < m

AllIn : ℕ → List Change → Type 0
AllIn m [] = Unit {0}
AllIn m (c ∷ cs) = ChangeIn m c × AllIn m cs

given_in : (m f : ℕ) (o : Option Fraction) (k : Fraction → Result Change Fault) → f < m → ((x : Fraction) → MatchResult (k x) (ChangeIn m) (FaultIn m)) → MatchResult (given f o k) (ChangeIn m) (FaultIn m)
unfolding FaultIn
given_in m f None k l h = l
given_in m f (Some x) k l h = h x

divided_in : (m f : ℕ) (v x : Fraction) (b : Bool) → f < m → MatchResult (if b then Err (NoValue f) else Ok (Becomes f (v /ℚ x))) (ChangeIn m) (FaultIn m)
unfolding FaultIn ChangeIn
divided_in m f v x true l = l
divided_in m f v x false l = l

change_in : (w : Write) (s : State) (n m : ℕ) → WriteFits n m w → MatchResult (change_of w s) (ChangeIn m) (FaultIn m)
unfolding ChangeIn
change_in (Add a) s n m f = tt
change_in (Delete a) s n m f = tt
change_in (Assign g e) s n m f = given_in m g (value e s) _ f.0 (λ x. f.0)
change_in (Increase g e) s n m f = given_in m g (value e s) _ f.0 (λ x. given_in m g (fluent_of s g) _ f.0 (λ v. f.0))
change_in (Decrease g e) s n m f = given_in m g (value e s) _ f.0 (λ x. given_in m g (fluent_of s g) _ f.0 (λ v. f.0))
change_in (ScaleUp g e) s n m f = given_in m g (value e s) _ f.0 (λ x. given_in m g (fluent_of s g) _ f.0 (λ v. f.0))
change_in (ScaleDown g e) s n m f = given_in m g (value e s) _ f.0 (λ x. given_in m g (fluent_of s g) _ f.0 (λ v. divided_in m g v x (is_zero x) f.0))

before_in : (m : ℕ) (c : Result Change Fault) (cs : Result (List Change) Fault) → MatchResult c (ChangeIn m) (FaultIn m) → MatchResult cs (AllIn m) (FaultIn m) → MatchResult (before c cs) (AllIn m) (FaultIn m)
unfolding AllIn
before_in m (Err e) cs f g = f
before_in m (Ok c) (Err e) f g = g
before_in m (Ok c) (Ok cs) f g = (f, g)

changes_in : (es : List Effect) (s : State) (n m : ℕ) → AllEffectsFit n m es → MatchResult (changes_of es s) (AllIn m) (FaultIn m)
unfolding AllIn
changes_in [] s n m f = tt
changes_in (e ∷ es) s n m f =
    elim (holds e.guard s) as (λ b. MatchResult (if b then before (change_of e.write s) (changes_of es s) else changes_of es s) (AllIn m) (FaultIn m)) [
      | true ↦ before_in m (change_of e.write s) (changes_of es s) (change_in e.write s n m f.0.1) (changes_in es s n m f.1)
      | false ↦ changes_in es s n m f.1
    ]

-- writes clash only on a fluent that is written
clash_case : (m g h : ℕ) (b : Bool) (w r : Written) → nat_eq g h ≡ b → h < m → (r ≡ Clash → g < m) → (if b then w else r) ≡ Clash → g < m
clash_case m g h true w r k l rest c = subst (λ i. i < m) (sym (eqb-true g h k)) l
clash_case m g h false w r k l rest c = rest c

clash_in : (m g : ℕ) (cs : List Change) → AllIn m cs → written g cs ≡ Clash → g < m
unfolding AllIn ChangeIn
clash_in m g [] a e = absurd (let f : Stays ≡ Clash = e in cc f)
clash_in m g (Gains b ∷ cs) a e = clash_in m g cs a.1 e
clash_in m g (Loses b ∷ cs) a e = clash_in m g cs a.1 e
clash_in m g (Becomes h x ∷ cs) a e = clash_case m g h (nat_eq g h) (becoming x (written g cs)) (written g cs) refl a.0 (clash_in m g cs a.1) e
clash_in m g (Moves h x ∷ cs) a e = clash_case m g h (nat_eq g h) (moving x (written g cs)) (written g cs) refl a.0 (clash_in m g cs a.1) e

value_in : (m f : ℕ) (v : Option Fraction) (w : Written) (r : Result (List (Option Fraction)) Fault) → (w ≡ Clash → f < m) → IfErr r (FaultIn m) → IfErr (value_before (new_value f w v) r) (FaultIn m)
unfolding FaultIn
value_in m f v Stays (Err e) k h = h
value_in m f v Stays (Ok vs) k h = tt
value_in m f v (Becoming x) (Err e) k h = h
value_in m f v (Becoming x) (Ok vs) k h = tt
value_in m f v (Moving x) (Err e) k h = h
value_in m f v (Moving x) (Ok vs) k h = tt
value_in m f v Clash r k h = k refl

values_in : (m f : ℕ) (cs : List Change) (vs : List (Option Fraction)) → AllIn m cs → IfErr (new_values f cs vs) (FaultIn m)
values_in m f cs [] a = tt
values_in m f cs (v ∷ vs) a = value_in m f v (written f cs) (new_values (suc f) cs vs) (clash_in m f cs a) (values_in m (suc f) cs vs a)

with_in : (m : ℕ) (bs : List Bool) (r : Result (List (Option Fraction)) Fault) → IfErr r (FaultIn m) → IfErr (with_atoms bs r) (FaultIn m)
with_in m bs (Err e) h = h
with_in m bs (Ok vs) h = tt

changed_in : (m : ℕ) (r : Result (List Change) Fault) (s : State) → MatchResult r (AllIn m) (FaultIn m) → IfErr (changed r s) (FaultIn m)
changed_in m (Err e) s f = f
changed_in m (Ok cs) s f = with_in m (new_atoms 0 cs s.atoms) (new_values 0 cs s.fluents) (values_in m 0 cs s.fluents f)

joint_fault_in : (es : List Effect) (s : State) (n m : ℕ) (why : Fault) → AllEffectsFit n m es → joint es s ≡ Err why → FaultIn m why
unfolding joint
joint_fault_in es s n m why f j = subst (λ r. IfErr r (FaultIn m)) j (changed_in m (changes_of es s) s (changes_in es s n m f))

pub conflict_in : (es : List Effect) (s : State) (n m g : ℕ) → AllEffectsFit n m es → joint es s ≡ Err (Conflict g) → g < m
unfolding FaultIn
conflict_in es s n m g f j = joint_fault_in es s n m (Conflict g) f j

pub no_value_in : (es : List Effect) (s : State) (n m g : ℕ) → AllEffectsFit n m es → joint es s ≡ Err (NoValue g) → g < m
unfolding FaultIn
no_value_in es s n m g f j = joint_fault_in es s n m (NoValue g) f j
