-- Calls are lifted in one way, or one time is the first that is no value.
use Rattle.std.specs.Prelude.{◌≡◌, ℕ, suc, List, [], ◌∷◌, ◌++◌, All}
use Rattle.std.proofs.Common.{ap, sym, ◌∙◌, subst, arith}
use Rattle.std.proofs.lemmas.List.Elements.{All-cons, All-head, All-tail}
use Rattle.plus_fraction.specs.Fraction.{Fraction}
use Rattle.plus_number.specs.declared.frac.Frac64.{Frac64}
use Rattle.plus_number.specs.Frac.{fraction_of, IsFrac64}
use Rattle.plus_number.specs.FracLaws.{fits_of}
use Rattle.plus_tree.specs.declared.trees.Call.{Call}
use Rattle.plus_state.specs.declared.outcome.TimedPlan.{TimedPlan}
use Rattle.plus_state.specs.declared.term.Overflow.{Overflow}
use Rattle.plus_steps.specs.Stepped.{Move, Act, Tick, time_of_step, timed_acts, steps_after}
use Rattle.plus_steps.specs.Laws.{CallName}
use Rattle.plus_translation.specs.Laws.{stripped}
use Rattle.plus_report.specs.Plans.{acts_of}
use Rattle.plus_lift.specs.declared.fault.LiftFault.TheVariants.{Number}
use Rattle.plus_lift.specs.Lifts.{names_of, labelled, counts, IsLifted, IsFirstLate, IsFirstOverflow}

none_yet : {A : Type 0} (P : A → Type 0) → All P []
none_yet P k d h = absurd (omega (arith, h))

same_head : {A : Type 0} (x y : A) (xs ys : List A) → x ∷ xs ≡ y ∷ ys → x ≡ y
same_head x y xs ys e = cc e

same_tail : {A : Type 0} (x y : A) (xs ys : List A) → x ∷ xs ≡ y ∷ ys → xs ≡ ys
same_tail x y xs ys e = cc e

-- ---- the first that fails is one, and none fails where all pass
first_once : {A : Type 0} (P : A → Type 0) (before before' : List A) (t t' : A) (after after' : List A) → before ++ t ∷ after ≡ before' ++ t' ∷ after'
    → All P before → All P before' → (P t → ⊥) → (P t' → ⊥) → t ≡ t'
first_once P [] [] t t' after after' e a b f g = same_head t t' after after' e
first_once P [] (c ∷ cs) t t' after after' e a b f g = absurd (f (subst P (sym (same_head t c after (cs ++ t' ∷ after') e)) (All-head P c cs b)))
first_once P (b ∷ bs) [] t t' after after' e h k f g = absurd (g (subst P (same_head b t' (bs ++ t ∷ after) after' e) (All-head P b bs h)))
first_once P (b ∷ bs) (c ∷ cs) t t' after after' e h k f g =
    first_once P bs cs t t' after after' (same_tail b c (bs ++ t ∷ after) (cs ++ t' ∷ after') e) (All-tail P b bs h) (All-tail P c cs k) f g

member_passes : {A : Type 0} (P : A → Type 0) (before : List A) (t : A) (after : List A) → All P (before ++ t ∷ after) → P t
member_passes P [] t after h = All-head P t after h
member_passes P (b ∷ bs) t after h = member_passes P bs t after (All-tail P b (bs ++ t ∷ after) h)

pub late_once : (q : Fraction) (steps : List ℕ) (n m : ℕ) → IsFirstLate q steps n → IsFirstLate q steps m → n ≡ m
late_once q steps n m h k =
    first_once (λ c. IsFrac64 (time_of_step q c)) h.before k.before n m h.after k.after (sym h.split ∙ k.split) h.fit k.fit h.late k.late

-- ---- the times of a lifted plan are values
act_fits : (q : Fraction) (n : ℕ) (a : Frac64 × List ℕ) (more : List (Frac64 × List ℕ)) (call : CallName) (rest : List (Fraction × CallName))
    → acts_of fraction_of (a ∷ more) ≡ labelled ((time_of_step q n, call) ∷ rest) → IsFrac64 (time_of_step q n)
act_fits q n a more call rest e =
    let head = same_head (fraction_of a.0, a.1) _ (acts_of fraction_of more) (labelled rest) e in
    subst IsFrac64 (ap (λ t. t.0) head) (fits_of a.0)

times_fit : (q : Fraction) (n : ℕ) (moves : List (Move CallName)) (acts : List (Frac64 × List ℕ)) (last : Frac64)
    → acts_of fraction_of acts ≡ labelled (timed_acts q n moves) → fraction_of last ≡ time_of_step q (steps_after n moves)
    → All (λ c. IsFrac64 (time_of_step q c)) (counts n moves)
times_fit q n [] acts last e f = All-cons (λ c. IsFrac64 (time_of_step q c)) n [] (subst IsFrac64 f (fits_of last)) (none_yet (λ c. IsFrac64 (time_of_step q c)))
times_fit q n (Act call ∷ moves) [] last e f = absurd (cc e)
times_fit q n (Act call ∷ moves) (a ∷ more) last e f =
    All-cons (λ c. IsFrac64 (time_of_step q c)) n (counts n moves) (act_fits q n a more call (timed_acts q n moves) e)
    (times_fit q n moves more last (same_tail (fraction_of a.0, a.1) _ (acts_of fraction_of more) (labelled (timed_acts q n moves)) e) f)
times_fit q n (Tick ∷ moves) acts last e f = times_fit q (suc n) moves acts last e f

pub lifted_or_late : (q : Fraction) (calls : List Call) (plan : TimedPlan Frac64) (n : ℕ) → IsLifted q calls plan
    → IsFirstLate q (counts 0 (stripped (names_of calls))) n → ⊥
lifted_or_late q calls plan n l h =
    let all = times_fit q 0 (stripped (names_of calls)) plan.acts.items plan.«end» l.acts l.ends in
    h.late (member_passes (λ c. IsFrac64 (time_of_step q c)) h.before n h.after (subst (All (λ c. IsFrac64 (time_of_step q c))) h.split all))

-- the fault of `lift` names the first late time
pub late_of : (interval : Frac64) (steps : List ℕ) (o : Overflow Frac64) (h : IsFirstOverflow interval steps (Number o)) → IsFirstLate (fraction_of interval) steps h.count
late_of interval steps o h = record { before = h.before; after = h.after; split = h.split; fit = h.fit; late = h.overflow.0 }
