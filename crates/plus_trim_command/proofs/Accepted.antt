-- The lines of an accepted plan can be played, and its acts can be trimmed.
use Rattle.std.proofs.Common.{◌≡◌, ℕ, zero, suc, ◌+◌, ◌≤◌, ◌<◌, true, List, [], ◌∷◌, ◌++◌, length, refl, ap, sym, subst, ◌∙◌, arith, pos}
use Rattle.std.specs.Prelude.{Some, None, slice_get, All}
use Rattle.std.proofs.lemmas.Int.{ints}
use Rattle.std.proofs.lemmas.List.Elements.{All-nil, All-cons, All-head, All-tail}
use Rattle.plus_fraction.specs.Fraction.{Fraction, whole, over, ◌≤ℚ◌}
use Rattle.plus_fraction.proofs.FractionLaws.{Is-over}
use Rattle.plus_fraction.proofs.FractionOrder.{le_by}
use Rattle.plus_model.specs.Terms as terms
use Rattle.plus_model.specs.Terms.{Action}
use Rattle.plus_model.specs.Plan as model
use Rattle.plus_model.specs.Plan.{Called, Instance, ActLine, EndLine, IsInOrder}
use Rattle.plus_number.specs.Frac.{IsFrac64}
use Rattle.plus_numbering.specs.declared.faults.GroundFault.{GroundFault}
use Rattle.plus_numbering.specs.declared.faults.GroundFault.TheVariants as faults
use Rattle.plus_ground.specs.Refusals.{RefusesGround}
use Rattle.plus_expansion.specs.Calls.{called_of}
use Rattle.plus_expansion.specs.Expansion.{expanded}
use Rattle.plus_plan.specs.declared.forms.Line.{Line}
use Rattle.plus_plan.specs.declared.forms.Line.TheVariants.{Blank, Act, End, Step}
use Rattle.plus_plan.specs.declared.forms.Time.{Time}
use Rattle.plus_plan.specs.Answers.{HasBottom}
use Rattle.plus_plan.specs.TimeValue.{value_of}
use Rattle.plus_stretch.specs.Tests.{Test, AllPass}
use Rattle.plus_tree.specs.declared.trees.Domain.{Domain}
use Rattle.plus_tree.specs.declared.trees.Problem.{Problem}
use Rattle.plus_trim.specs.Acts as trim
use Rattle.plus_trim.specs.Acts.{AllFit}
use Rattle.plus_trim_command.specs.Acts.{act_count, acts_in, last_time}
use Rattle.plus_trim_command.specs.Lines.{spoken}
use Rattle.plus_trim_command.specs.Playable.{IsCallable, CallsInstance, IsPlayable, IsAcceptedAs, IsTrimmable}
use Rattle.plus_trim_command.proofs.Calls.{IsDone, all_done}
use Rattle.plus_trim_command.proofs.Inside.{CallsInstances, shaped, AreLater, IsPlanIn, plan_in}
use Rattle.plus_validator.specs.Accepted.{IsAccepted}
use Rattle.plus_validator.specs.Asking.{call_tests, all_instances, or_nothing, instances_of}
use Rattle.plus_validator.specs.Plans.{Pair, pair, lines_meant, HasValue}
use Rattle.plus_validator.specs.Validates.{TellsFault}
use Rattle.plus_validator.specs.Validates.{fault_meant}
use Rattle.plus_report.specs.Refusals.{early_text}
use Rattle.plus_validator.proofs.Excluding.{not_groundable}
use Rattle.plus_words.specs.Numbers.{default_happenings}

-- ---- blank lines say nothing

pub meant_spoken : (d : Pair) (ls : List Line) → lines_meant d (spoken ls) ≡ lines_meant d ls
meant_spoken d [] = refl
meant_spoken d (Blank ∷ ls) = meant_spoken d ls
meant_spoken d (Act n t c ∷ ls) = ap (λ ks. ActLine (value_of t) (called_of d.domain d.problem c.name c.args) ∷ ks) (meant_spoken d ls)
meant_spoken d (End n t ∷ ls) = ap (λ ks. EndLine (value_of t) ∷ ks) (meant_spoken d ls)
meant_spoken d (Step n c ∷ ls) = meant_spoken d ls

values_spoken : (ls : List Line) → All HasValue ls → All HasValue (spoken ls)
values_spoken [] a = All-nil HasValue
values_spoken (Blank ∷ ls) a = values_spoken ls (All-tail HasValue Blank ls a)
values_spoken (Act n t c ∷ ls) a = All-cons HasValue (Act n t c) (spoken ls) (All-head HasValue (Act n t c) ls a) (values_spoken ls (All-tail HasValue (Act n t c) ls a))
values_spoken (End n t ∷ ls) a = All-cons HasValue (End n t) (spoken ls) (All-head HasValue (End n t) ls a) (values_spoken ls (All-tail HasValue (End n t) ls a))
values_spoken (Step n c ∷ ls) a = All-cons HasValue (Step n c) (spoken ls) (All-head HasValue (Step n c) ls a) (values_spoken ls (All-tail HasValue (Step n c) ls a))

-- ---- each line can be played

module _ (d : Domain) (p : Problem) where
  abbrev Done : List Line → Type 0
  Done ls = (i : ℕ) (t : Fraction) (c : Called) → slice_get (lines_meant (pair d p) ls) i ≡ Some (ActLine t c) → IsDone (lines_meant (pair d p) ls) (instances_of (pair d p) ls) i

  -- what is said of a list of lines and of their instances, one by one
  abbrev Calls : List model.Line → List (List Test) → Type 0
  Calls xs ts = (i : ℕ) (t : Fraction) (c : Called) → slice_get xs i ≡ Some (ActLine t c) → (a : Action) × (c ≡ Instance a) × AllPass IsFrac64 (or_nothing (slice_get ts i))

  done_calls : (ls : List Line) → Done ls → Calls (lines_meant (pair d p) ls) (all_instances (pair d p) ls)
  done_calls ls f i t c e =
      let k = f i t c e in
      let g : Some (ActLine t c) ≡ Some (ActLine k.0 (Instance k.1)) = sym e ∙ k.2 in
      (k.1, (let h : ActLine t c ≡ ActLine k.0 (Instance k.1) = cc g in let l : c ≡ Instance k.1 = cc h in l), k.3)

  playable_from : (ls : List Line) → All HasBottom (spoken ls) → All HasValue ls → Calls (lines_meant (pair d p) ls) (all_instances (pair d p) ls) → All (IsPlayable d p) (spoken ls)
  playable_from [] b v f = All-nil (IsPlayable d p)
  playable_from (Blank ∷ ls) b v f = playable_from ls b (All-tail HasValue Blank ls v) f
  playable_from (Act n t c ∷ ls) b v f =
      let k = f 0 (value_of t) (called_of d p c.name c.args) refl in
      All-cons (IsPlayable d p) (Act n t c) (spoken ls)
      record { bottom = All-head HasBottom (Act n t c) (spoken ls) b; value = All-head HasValue (Act n t c) ls v; calls = record { action = k.0; is = k.1; passes = k.2 } }
      (playable_from ls (All-tail HasBottom (Act n t c) (spoken ls) b) (All-tail HasValue (Act n t c) ls v) (λ i. f (suc i)))
  playable_from (End n t ∷ ls) b v f =
      All-cons (IsPlayable d p) (End n t) (spoken ls)
      record { bottom = All-head HasBottom (End n t) (spoken ls) b; value = All-head HasValue (End n t) ls v; calls = tt }
      (playable_from ls (All-tail HasBottom (End n t) (spoken ls) b) (All-tail HasValue (End n t) ls v) (λ i. f (suc i)))
  playable_from (Step n c ∷ ls) b v f =
      All-cons (IsPlayable d p) (Step n c) (spoken ls)
      record { bottom = All-head HasBottom (Step n c) (spoken ls) b; value = All-head HasValue (Step n c) ls v; calls = tt }
      (playable_from ls (All-tail HasBottom (Step n c) (spoken ls) b) (All-tail HasValue (Step n c) ls v) f)

  -- ---- times

  at_zero : (t : Time) → 0 < t.bottom → whole (pos 0) ≤ℚ value_of t
  at_zero t k = le_by (Is-over (pos 0) 1 (omega arith)) (Is-over (pos t.top) t.bottom k) (omega (arith, ints))

  later : (ls : List Line) → All HasBottom (spoken ls) → AreLater (lines_meant (pair d p) ls)
  later [] b = tt
  later (Blank ∷ ls) b = later ls b
  later (Act n t c ∷ ls) b = (at_zero t (All-head HasBottom (Act n t c) (spoken ls) b), later ls (All-tail HasBottom (Act n t c) (spoken ls) b))
  later (End n t ∷ ls) b = (at_zero t (All-head HasBottom (End n t) (spoken ls) b), later ls (All-tail HasBottom (End n t) (spoken ls) b))
  later (Step n c ∷ ls) b = later ls (All-tail HasBottom (Step n c) (spoken ls) b)

  module _ (lines : List Line) (a : IsAcceptedAs d p lines) where
    ls : List Line
    ls = a.accepted.lines

    done : Done a.accepted.lines
    done i t c e =
        all_done (expanded d p) (lines_meant (pair d p) a.accepted.lines) default_happenings (instances_of (pair d p) a.accepted.lines) a.accepted.history
        a.accepted.happens a.accepted.clear i t c e

    bottoms : All HasBottom (spoken a.accepted.lines)
    bottoms = subst (All HasBottom) a.are a.bottoms

    pub playable : All (IsPlayable d p) lines
    playable = subst (All (IsPlayable d p)) (sym a.are) (playable_from a.accepted.lines bottoms a.accepted.times (done_calls a.accepted.lines done))

    pub values : All HasValue lines
    values = subst (All HasValue) (sym a.are) (values_spoken a.accepted.lines a.accepted.times)

    pub meant : lines_meant (pair d p) lines ≡ lines_meant (pair d p) a.accepted.lines
    meant = ap (lines_meant (pair d p)) a.are ∙ meant_spoken (pair d p) a.accepted.lines

    instances : CallsInstances (lines_meant (pair d p) a.accepted.lines)
    instances i t c e = let k = done_calls a.accepted.lines done i t c e in (k.0, k.1)

    inside : IsPlanIn (expanded d p) default_happenings (lines_meant (pair d p) a.accepted.lines)
    inside =
        plan_in (expanded d p) default_happenings (instances_of (pair d p) a.accepted.lines) a.accepted.history (lines_meant (pair d p) a.accepted.lines)
        (shaped (lines_meant (pair d p) a.accepted.lines) a.accepted.happens.prefix.ordered instances) (later a.accepted.lines bottoms)
        a.accepted.happens a.accepted.clear a.accepted.passed

    pub plan_inside : IsPlanIn (expanded d p) default_happenings (lines_meant (pair d p) lines)
    plan_inside = subst (IsPlanIn (expanded d p) default_happenings) (sym meant) inside

-- acts are no more than actions
pub acts_few : (xs : List model.Line) → length (acts_in xs) ≤ act_count xs
acts_few [] = omega arith
acts_few (ActLine t (Instance a) ∷ xs) = let k = acts_few xs in omega arith
acts_few (ActLine t (model.UnknownAction n) ∷ xs) = let k = acts_few xs in omega arith
acts_few (ActLine t (model.WrongArguments n) ∷ xs) = let k = acts_few xs in omega arith
acts_few (EndLine t ∷ xs) = acts_few xs

-- the pair of an accepted plan is grounded
pub grounded : (d : Domain) (p : Problem) (lines : List Line) (fault : GroundFault) → IsAcceptedAs d p lines → RefusesGround IsFrac64 d p fault → fault ≡ faults.Memory
grounded d p lines (faults.TooMany kind most) a r = absurd (not_groundable d p _ (faults.TooMany kind most) r refl a.accepted.groundable)
grounded d p lines (faults.Literal file span) a r = absurd (not_groundable d p _ (faults.Literal file span) r refl a.accepted.groundable)
grounded d p lines faults.Memory a r = refl

pub trimmable : (d : Domain) (p : Problem) (lines : List Line) (a : IsAcceptedAs d p lines) (P : terms.Problem) (xs : List trim.Act) (last : Fraction) → P ≡ expanded d p → act_count (lines_meant (pair d p) lines) ≤ 200
    → xs ≡ acts_in (lines_meant (pair d p) lines) → last ≡ last_time (lines_meant (pair d p) lines) → AllFit (expanded d p).atoms (expanded d p).fluents xs → IsTrimmable P xs last
trimmable d p lines a P xs last e f x t g =
    let ls = lines_meant (pair d p) lines in
    let k = plan_inside d p lines a in
    let n = acts_few ls in
    subst (λ (Q : terms.Problem). IsTrimmable Q xs last) (sym e)
    (subst (λ (ys : List trim.Act). IsTrimmable (expanded d p) ys last) (sym x)
    (subst (λ (u : Fraction). IsTrimmable (expanded d p) (acts_in ls) u) (sym t)
    record { fit = subst (AllFit (expanded d p).atoms (expanded d p).fluents) x g; few = omega arith; ahead = k.ahead; valid = k.valid }))
