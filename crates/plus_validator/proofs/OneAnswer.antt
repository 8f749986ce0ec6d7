-- Two refusals of one plan text are the same.
use Rattle.std.proofs.Common.{◌≡◌, ℕ, true, false, List, [], ◌∷◌, ◌++◌, refl, ap, sym, subst, ◌∙◌, append_assoc, append-nil}
use Rattle.std.specs.Prelude.{Result, Ok, map}
use Rattle.plus_model.specs.Terms.{Problem}
use Rattle.plus_model.specs.Plan as model
use Rattle.plus_model.specs.Plan.{Plan, IsInOrder}
use Rattle.plus_model.specs.History.{Part}
use Rattle.plus_model.specs.Trajectory.{next_line, view_of}
use Rattle.plus_model.specs.Breach.{TimeGoesBack, AfterEnd}
use Rattle.plus_model.specs.Laws.{Begins}
use Rattle.plus_model.proofs.OneBreach.{one_line_breach}
use Rattle.plus_number.specs.declared.frac.Frac64.{Frac64}
use Rattle.plus_number.specs.Frac.{fraction_of}
use Rattle.plus_state.specs.View.{Labels}
use Rattle.plus_plan.specs.declared.forms.Line.{Line}
use Rattle.plus_plan.specs.declared.forms.Line.TheVariants as lines
use Rattle.plus_plan.specs.declared.forms.Time.{Time}
use Rattle.plus_plan.specs.declared.faults.PlanFault.{PlanFault}
use Rattle.plus_plan.specs.declared.faults.PlanFault.TheVariants as faults
use Rattle.plus_report.specs.Report.{called_label}
use Rattle.plus_report.specs.Verdicts.{verdict_text}
use Rattle.plus_report.specs.declared.verdicts.Verdict.{Verdict}
use Rattle.plus_validator.specs.Outcomes.{outcome_of}
use Rattle.plus_validator.specs.Plans.{Pair, line_meant, lines_meant, plan_of, Reading, HasTime}
use Rattle.plus_validator.specs.Asking.{instances_of}
use Rattle.plus_validator.specs.Refused.{NamesFault, TimeFault, after_end, no_value, goes_back, number_in, IsTimeRefused, IsStopped, IsStoppedAtEnd}
use Rattle.plus_validator.proofs.LineStops.{names_line}
use Rattle.plus_validator.proofs.Telling.{one_verdict}
use Rattle.plus_validator.proofs.Between.{time_excluded}

-- ---- two readings of one list

-- one of two lists of lines that are read begins the other
pub data Parted (xs ys : List Line) (rs rs' : List (Result Line PlanFault)) : Type 0 where
  same : xs ≡ ys → rs ≡ rs' → Parted xs ys rs rs'
  left : (line : Line) (more : List Line) (rest : List (Result Line PlanFault)) → ys ≡ xs ++ line ∷ more → rs ≡ Ok line ∷ rest → Parted xs ys rs rs'
  right : (line : Line) (more : List Line) (rest : List (Result Line PlanFault)) → xs ≡ ys ++ line ∷ more → rs' ≡ Ok line ∷ rest → Parted xs ys rs rs'

pub parted : (xs ys : List Line) (rs rs' : List (Result Line PlanFault)) → map Ok xs ++ rs ≡ map Ok ys ++ rs' → Parted xs ys rs rs'
parted [] [] rs rs' e = same refl e
parted [] (y ∷ ys) rs rs' e = left y ys _ refl e
parted (x ∷ xs) [] rs rs' e = right x xs _ refl (sym e)
parted (x ∷ xs) (y ∷ ys) rs rs' e =
    let f : Ok x ∷ (map Ok xs ++ rs) ≡ Ok y ∷ (map Ok ys ++ rs') = e in
    let head : x ≡ y = cc f in
    let tail : map Ok xs ++ rs ≡ map Ok ys ++ rs' = cc f in
    elim (parted xs ys rs rs' tail) [
      | same i r ↦ same (ap (λ z. z ∷ xs) head ∙ ap (λ zs. y ∷ zs) i) r
      | left l m r i k ↦ left l m r (ap (λ zs. y ∷ zs) i ∙ ap (λ z. z ∷ (xs ++ l ∷ m)) (sym head)) k
      | right l m r i k ↦ right l m r (ap (λ zs. x ∷ zs) i ∙ ap (λ z. z ∷ (ys ++ l ∷ m)) head) k
    ]

-- ---- one history

own_nothing : (h r : List Part) → h ≡ h ++ r → r ≡ []
own_nothing [] r e = sym e
own_nothing (x ∷ h) r e = own_nothing h r (let f : x ∷ h ≡ x ∷ (h ++ r) = e in cc f)

both_nothing : (r s : List Part) → r ++ s ≡ [] → r ≡ []
both_nothing [] s e = refl
both_nothing (x ∷ r) s e = cc e

pub begins_both : (h g : List Part) → Begins h g → Begins g h → h ≡ g
begins_both h g a b =
    let e : h ≡ h ++ (a.rest ++ b.rest) = b.is ∙ ap (λ x. x ++ b.rest) a.is ∙ append_assoc h a.rest b.rest in
    let n : a.rest ≡ [] = both_nothing a.rest b.rest (own_nothing h (a.rest ++ b.rest) e) in
    sym (a.is ∙ ap (λ x. h ++ x) n ∙ append-nil h)

-- ---- one verdict at one line

-- the same verdict line, and the same outcome
pub record SameVerdict (N : Labels) (P : Problem) (v w : Verdict Frac64) : Type 0 where
  pub outcome : outcome_of v ≡ outcome_of w
  pub text : verdict_text fraction_of N P v ≡ verdict_text fraction_of N P w

pub by_equal : (N : Labels) (P : Problem) (v w : Verdict Frac64) → v ≡ w → SameVerdict N P v w
by_equal N P v w e = record { outcome = ap outcome_of e; text = ap (λ (x : Verdict Frac64). verdict_text fraction_of N P x) e }

pub fault_once : (fault : PlanFault) (v w : Verdict Frac64) → NamesFault fault v → NamesFault fault w → v ≡ w
fault_once (faults.NotLine n start last) v w a b = a ∙ sym b
fault_once (faults.LineTooLong n) v w a b = a ∙ sym b
fault_once faults.Memory v w a b = absurd a

pub time_once : (line : Line) (t u : Time) → HasTime line t → HasTime line u → t ≡ u
time_once (lines.Act n time call) t u a b = sym a ∙ b
time_once (lines.End n time) t u a b = sym a ∙ b
time_once lines.Blank t u a b = absurd a
time_once (lines.Step n call) t u a b = absurd a

meant_once : (ls : List model.Line) (a b : model.Line) → ls ≡ a ∷ [] → ls ≡ b ∷ [] → a ≡ b
meant_once ls a b e f = let g : a ∷ [] ≡ b ∷ [] = sym e ∙ f in cc g

time_fault_once : (P : Problem) (L : Plan) (h : List Part) (n : ℕ) (meant : model.Line) (time : Time) (v w : Verdict Frac64) → TimeFault P L h n meant time v → TimeFault P L h n meant time w → v ≡ w
time_fault_once P L h n meant time v w (after_end b e) (after_end c f) = e ∙ sym f
time_fault_once P L h n meant time v w (after_end b e) (no_value c x f) = absurd (c b)
time_fault_once P L h n meant time v w (after_end b e) (goes_back c x f) = let k : AfterEnd ≡ TimeGoesBack = one_line_breach P L (view_of P h) meant AfterEnd TimeGoesBack b.breach c.breach in cc k
time_fault_once P L h n meant time v w (no_value b x e) (after_end c f) = absurd (b c)
time_fault_once P L h n meant time v w (no_value b x e) (no_value c y f) = e ∙ sym f
time_fault_once P L h n meant time v w (no_value b x e) (goes_back c y f) = absurd (x y)
time_fault_once P L h n meant time v w (goes_back b x e) (after_end c f) = let k : TimeGoesBack ≡ AfterEnd = one_line_breach P L (view_of P h) meant TimeGoesBack AfterEnd b.breach c.breach in cc k
time_fault_once P L h n meant time v w (goes_back b x e) (no_value c y f) = absurd (y x)
time_fault_once P L h n meant time v w (goes_back b x e) (goes_back c y f) = e ∙ sym f

-- ---- two causes at one place

module _ (N : Labels) (d : Pair) (P : Problem) (most : ℕ) (before : List Line) (h : List Part) (v w : Verdict Frac64) where
  pub stopped_once : (line : Line) (r : Reading) → IsStopped d P most before line r h v → IsStopped d P most before line r h w → SameVerdict N P v w
  stopped_once line r a b =
      let L = plan_of d (before ++ line ∷ []) false in
      let k = one_verdict N P L most (instances_of d (before ++ line ∷ [])) h (number_in line) (called_label (next_line L (view_of P h))) v w a.stands b.stands a.names b.names in
      record { outcome = k.0; text = k.1 }

  pub ended_once : (r : Reading) → IsStoppedAtEnd d P most before r h v → IsStoppedAtEnd d P most before r h w → SameVerdict N P v w
  ended_once r a b =
      let k = one_verdict N P (plan_of d before true) most (instances_of d before) h 0 [] v w a.stands b.stands (names_line 0 [] v a.names) (names_line 0 [] w b.names) in
      record { outcome = k.0; text = k.1 }

  pub time_refused_once : (line : Line) (r : Reading) → IsTimeRefused d P most before line r h v → IsTimeRefused d P most before line r h w → v ≡ w
  time_refused_once line r a b =
      let m : b.meant ≡ a.meant = meant_once (line_meant d line) b.meant a.meant b.meant_is a.meant_is in
      let t : b.time ≡ a.time = time_once line b.time a.time b.time_is a.time_is in
      time_fault_once P (plan_of d before false) h (number_in line) a.meant a.time v w a.why
      (subst (λ (x : Time). TimeFault P (plan_of d before false) h (number_in line) a.meant x w) t
      (subst (λ (x : model.Line). TimeFault P (plan_of d before false) h (number_in line) x b.time w) m b.why))

-- a line that is refused for its place or time is not stopped in
pub time_or_stopped : (d : Pair) (P : Problem) (most : ℕ) (before : List Line) (line : Line) (r s : Reading) (h g : List Part) (v w : Verdict Frac64) → IsTimeRefused d P most before line r h v → IsStopped d P most before line s g w → IsInOrder (lines_meant d (before ++ line ∷ [])) → ⊥
time_or_stopped d P most before line r s h g v w a b o =
    time_excluded d P before [] line h a.meant a.time v a.meant_is a.time_is a.why b.value
    (subst (λ (ls : List Line). IsInOrder (lines_meant d ls)) (sym (append-nil (before ++ line ∷ []))) o)
