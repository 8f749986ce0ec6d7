-- The acts of lines, their number, and their last time.
use Rattle.std.proofs.Common.{◌≡◌, ◌⊎◌, inl, inr, ℕ, suc, ◌+◌, ◌≤◌, ◌<◌, List, [], ◌∷◌, ◌++◌, map, drop, length, refl, ap, sym, subst, ◌∙◌, arith, append-nil, append_assoc, drop-cons, pos}
use Rattle.std.specs.Prelude.{Some, slice_get, slice_index_or, All}
use Rattle.std.proofs.Math.ListN.{drop_of_length-le}
use Rattle.std.proofs.lemmas.List.Elements.{All-head, All-drop}
use Rattle.plus_fraction.specs.Fraction.{Fraction, whole}
use Rattle.plus_model.specs.Terms.{Action}
use Rattle.plus_model.specs.Plan as model
use Rattle.plus_model.specs.Plan.{Called, Instance, UnknownAction, WrongArguments, ActLine, EndLine}
use Rattle.plus_number.specs.Frac.{fraction_of, IsFrac64}
use Rattle.plus_ground.specs.declared.faults.InstanceFault.{InstanceFault}
use Rattle.plus_ground.specs.declared.faults.InstanceFault.TheVariants as faults
use Rattle.plus_ground.specs.Refusals.{RefusesCall}
use Rattle.plus_expansion.specs.Calls.{called_of}
use Rattle.plus_number.specs.declared.frac.Frac64.{Frac64}
use Rattle.plus_plan.specs.declared.forms.Line.{Line}
use Rattle.plus_plan.specs.declared.forms.Line.TheVariants as forms
use Rattle.plus_plan.specs.declared.forms.Time.{Time}
use Rattle.plus_plan.specs.Answers.{HasBottom}
use Rattle.plus_plan.specs.TimeValue.{value_of}
use Rattle.plus_planner.proofs.PlaceLemmas.{map-snoc}
use Rattle.plus_state.specs.View.{action_of}
use Rattle.plus_state.proofs.Testing.{one_test}
use Rattle.plus_state.specs.Fits.{ActionFits}
use Rattle.plus_stretch.specs.Tests.{Test, Passes}
use Rattle.plus_tree.specs.declared.trees.Call.{Call}
use Rattle.plus_tree.specs.declared.trees.Domain.{Domain}
use Rattle.plus_tree.specs.declared.trees.Problem.{Problem}
use Rattle.plus_trim.specs.declared.acts.TimedAction.{TimedAction}
use Rattle.plus_trim.specs.Acts.{Act, act_of, AllFit}
use Rattle.plus_trim.proofs.Marking.{get_one}
use Rattle.plus_trim_command.specs.Acts.{act_count, acts_in, last_time}
use Rattle.plus_trim_command.specs.Playable.{IsCallable, CallsInstance, IsPlayable, time_after}
use Rattle.plus_validator.specs.Asking.{call_tests}
use Rattle.plus_validator.specs.Plans.{Pair, pair, line_meant, lines_meant, HasValue}
use Rattle.plus_validator.proofs.CalledTests.{call_too_large, call_unfit}

pub drop_here : {X : Type 0} (xs : List X) (i : ℕ) (x : X) → i < length xs → x ≡ slice_index_or xs i x → drop i xs ≡ x ∷ drop (i + 1) xs
drop_here xs i x h e =
    drop-cons xs i x h ∙ ap (λ z. z ∷ drop (suc i) xs) (sym e) ∙ ap (λ k. x ∷ drop k xs) (let f : suc i ≡ i + 1 = omega arith in f)

-- ---- how many

count_join : (xs ys : List model.Line) → act_count (xs ++ ys) ≡ act_count xs + act_count ys
count_join [] ys = omega arith
count_join (ActLine t c ∷ xs) ys = let k = count_join xs ys in omega arith
count_join (EndLine t ∷ xs) ys = count_join xs ys

module _ (d : Pair) (lines : List Line) (i : ℕ) where
  pub count_more : (x : Line) (count one : ℕ) → i < length lines → x ≡ slice_index_or lines i x → one ≡ act_count (line_meant d x) → count + act_count (lines_meant d (drop i lines)) ≡ act_count (lines_meant d lines) → (count + one) + act_count (lines_meant d (drop (i + 1) lines)) ≡ act_count (lines_meant d lines)
  count_more x count one h e o k =
      let s : act_count (lines_meant d (drop i lines)) ≡ act_count (line_meant d x) + act_count (lines_meant d (drop (i + 1) lines)) =
      ap (λ (ls : List Line). act_count (lines_meant d ls)) (drop_here lines i x h e) ∙ count_join (line_meant d x) (lines_meant d (drop (i + 1) lines)) in
      omega arith

  pub count_end : (count : ℕ) → length lines ≤ i → count + act_count (lines_meant d (drop i lines)) ≡ act_count (lines_meant d lines) → count ≡ act_count (lines_meant d lines)
  count_end count h k =
      let s : act_count (lines_meant d (drop i lines)) ≡ 0 = ap (λ (ls : List Line). act_count (lines_meant d ls)) (drop_of_length-le lines h) in
      omega arith

-- ---- the last time

time_join : (xs ys : List model.Line) (t : Fraction) → time_after (xs ++ ys) t ≡ time_after ys (time_after xs t)
time_join [] ys t = refl
time_join (x ∷ xs) ys t = time_join xs ys (model.time_of x)

last_is : (xs : List model.Line) → last_time xs ≡ time_after xs (whole (pos 0))
last_is [] = refl
last_is (x ∷ []) = refl
last_is (x ∷ y ∷ ys) = last_is (y ∷ ys)

module _ (d : Pair) (lines : List Line) (i : ℕ) where
  pub time_more : (x : Line) (t u : Fraction) → i < length lines → x ≡ slice_index_or lines i x → u ≡ time_after (line_meant d x) t → time_after (lines_meant d (drop i lines)) t ≡ last_time (lines_meant d lines) → time_after (lines_meant d (drop (i + 1) lines)) u ≡ last_time (lines_meant d lines)
  time_more x t u h e o k =
      ap (time_after (lines_meant d (drop (i + 1) lines))) o
      ∙ sym (time_join (line_meant d x) (lines_meant d (drop (i + 1) lines)) t)
      ∙ sym (ap (λ (ls : List Line). time_after (lines_meant d ls) t) (drop_here lines i x h e))
      ∙ k

  pub time_end : (t : Fraction) → length lines ≤ i → time_after (lines_meant d (drop i lines)) t ≡ last_time (lines_meant d lines) → t ≡ last_time (lines_meant d lines)
  time_end t h k = sym (ap (λ (ls : List Line). time_after (lines_meant d ls) t) (drop_of_length-le lines h)) ∙ k

pub time_begin : (d : Pair) (lines : List Line) (t : Fraction) → t ≡ whole (pos 0) → time_after (lines_meant d lines) t ≡ last_time (lines_meant d lines)
time_begin d lines t e = ap (time_after (lines_meant d lines)) e ∙ sym (last_is (lines_meant d lines))

-- ---- acts

acts_join : (xs ys : List model.Line) → acts_in (xs ++ ys) ≡ acts_in xs ++ acts_in ys
acts_join [] ys = refl
acts_join (ActLine t (Instance a) ∷ xs) ys = ap (λ zs. (t, a) ∷ zs) (acts_join xs ys)
acts_join (ActLine t (UnknownAction n) ∷ xs) ys = acts_join xs ys
acts_join (ActLine t (WrongArguments n) ∷ xs) ys = acts_join xs ys
acts_join (EndLine t ∷ xs) ys = acts_join xs ys

module _ (d : Pair) (lines : List Line) (i : ℕ) where
  pub acts_more : (x : Line) (old new : List Act) → i < length lines → x ≡ slice_index_or lines i x → new ≡ old ++ acts_in (line_meant d x) → old ++ acts_in (lines_meant d (drop i lines)) ≡ acts_in (lines_meant d lines) → new ++ acts_in (lines_meant d (drop (i + 1) lines)) ≡ acts_in (lines_meant d lines)
  acts_more x old new h e o k =
      ap (λ zs. zs ++ acts_in (lines_meant d (drop (i + 1) lines))) o
      ∙ append_assoc old (acts_in (line_meant d x)) (acts_in (lines_meant d (drop (i + 1) lines)))
      ∙ ap (λ zs. old ++ zs) (sym (acts_join (line_meant d x) (lines_meant d (drop (i + 1) lines))))
      ∙ ap (λ (ls : List Line). old ++ acts_in (lines_meant d ls)) (sym (drop_here lines i x h e))
      ∙ k

  pub acts_end : (acts : List Act) → length lines ≤ i → acts ++ acts_in (lines_meant d (drop i lines)) ≡ acts_in (lines_meant d lines) → acts ≡ acts_in (lines_meant d lines)
  acts_end acts h k = sym (append-nil acts) ∙ sym (ap (λ (ls : List Line). acts ++ acts_in (lines_meant d ls)) (drop_of_length-le lines h)) ∙ k

-- the act of a line
pub act_is : (t : Fraction) (c : Called) (a : Action) → c ≡ Instance a → acts_in (ActLine t c ∷ []) ≡ (t, a) ∷ []
act_is t c a e = ap (λ (z : Called). acts_in (ActLine t z ∷ [])) e

pub fit_none : (atoms fluents : ℕ) → AllFit atoms fluents []
fit_none atoms fluents k x e = cc e

pub fit_more : (atoms fluents : ℕ) (xs : List Act) (x : Act) → AllFit atoms fluents xs → ActionFits atoms fluents x.1 → AllFit atoms fluents (xs ++ x ∷ [])
fit_more atoms fluents xs x f g k y e = elim (get_one xs x y k e) [
  | inl h ↦ f k y h
  | inr h ↦ subst (λ (z : Act). ActionFits atoms fluents z.1) h.1 g
]

-- a call that is accepted is not refused
pub only_memory : (d : Domain) (p : Problem) (c : Call) (fault : InstanceFault) → IsCallable d p c → RefusesCall IsFrac64 d c.name (called_of d p c.name c.args) fault → fault ≡ faults.Memory
only_memory d p c faults.UnknownAction a r = absurd (let e : Instance a.action ≡ UnknownAction c.name = sym a.is ∙ r in cc e)
only_memory d p c faults.WrongArguments a r = absurd (let e : Instance a.action ≡ WrongArguments c.name = sym a.is ∙ r in cc e)
only_memory d p c faults.TooManyNodes a r = absurd ((one_test (Passes IsFrac64)).none (call_tests (pair d p) c) _ a.passes (call_too_large (pair d p) c r))
only_memory d p c (faults.Literal span) a r = absurd ((one_test (Passes IsFrac64)).none (call_tests (pair d p) c) _ a.passes (call_unfit (pair d p) c span r))
only_memory d p c faults.Memory a r = refl

-- what holds of all members holds of one
pub all_at : {X : Type 0} (P : X → Type 0) (xs : List X) (i : ℕ) (x : X) → All P xs → i < length xs → x ≡ slice_index_or xs i x → P x
all_at P xs i x a h e = All-head P x (drop (i + 1) xs) (subst (All P) (drop_here xs i x h e) (All-drop P i xs a))

-- ---- a line that is an action, or an end

module _ (line : Line) (n : ℕ) (t : Time) (c : Call) (e : line ≡ forms.Act n t c) where
  pub act_bottom : HasBottom line → 0 < t.bottom
  act_bottom b = let k : HasBottom (forms.Act n t c) = subst HasBottom e b in k

  pub act_value : HasValue line → IsFrac64 (value_of t)
  act_value v = let k : HasValue (forms.Act n t c) = subst HasValue e v in k.fits t refl

  pub act_calls : (d : Domain) (p : Problem) → IsPlayable d p line → IsCallable d p c
  act_calls d p a = let k : CallsInstance d p (forms.Act n t c) = subst (CallsInstance d p) e a.calls in k

  pub act_time : (u : Fraction) (other : Fraction) → u ≡ value_of t → (d : Pair) → u ≡ time_after (line_meant d line) other
  act_time u other k d = k ∙ sym (ap (λ (l : Line). time_after (line_meant d l) other) e)

  pub act_added : (d : Pair) (old new : List (TimedAction Frac64)) (a : TimedAction Frac64) → new ≡ old ++ a ∷ [] → fraction_of a.time ≡ value_of t → called_of d.domain d.problem c.name c.args ≡ Instance (action_of fraction_of a.action)
      → map (act_of fraction_of) new ≡ map (act_of fraction_of) old ++ acts_in (line_meant d line)
  act_added d old new a k u i =
      ap (map (act_of fraction_of)) k ∙ map-snoc (act_of fraction_of) old a
      ∙ ap (λ (w : Fraction). map (act_of fraction_of) old ++ (w, action_of fraction_of a.action) ∷ []) u
      ∙ sym (ap (λ zs. map (act_of fraction_of) old ++ zs) (act_is (value_of t) (called_of d.domain d.problem c.name c.args) (action_of fraction_of a.action) i))
      ∙ sym (ap (λ (l : Line). map (act_of fraction_of) old ++ acts_in (line_meant d l)) e)

pub act_fits : (atoms fluents : ℕ) (old new : List (TimedAction Frac64)) (a : TimedAction Frac64) → new ≡ old ++ a ∷ [] → AllFit atoms fluents (map (act_of fraction_of) old) → ActionFits atoms fluents (action_of fraction_of a.action) → AllFit atoms fluents (map (act_of fraction_of) new)
act_fits atoms fluents old new a k f g =
    subst (AllFit atoms fluents) (sym (ap (map (act_of fraction_of)) k ∙ map-snoc (act_of fraction_of) old a)) (fit_more atoms fluents (map (act_of fraction_of) old) (act_of fraction_of a) f g)

module _ (line : Line) (n : ℕ) (t : Time) (e : line ≡ forms.End n t) where
  pub end_bottom : HasBottom line → 0 < t.bottom
  end_bottom b = let k : HasBottom (forms.End n t) = subst HasBottom e b in k

  pub end_value : HasValue line → IsFrac64 (value_of t)
  end_value v = let k : HasValue (forms.End n t) = subst HasValue e v in k.fits t refl

  pub end_time : (u : Fraction) (other : Fraction) → u ≡ value_of t → (d : Pair) → u ≡ time_after (line_meant d line) other
  end_time u other k d = k ∙ sym (ap (λ (l : Line). time_after (line_meant d l) other) e)
