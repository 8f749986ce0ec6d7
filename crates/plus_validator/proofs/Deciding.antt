-- A plan that stays inside the limits is accepted where it has a trajectory, and refused as invalid where it has none.
use Rattle.std.proofs.Common.{◌≡◌, ℕ, ◌≤◌, Bool, true, false, List, [], ◌∷◌, ◌++◌, refl, ap, sym, subst, ◌∙◌, inl, inr, append-nil, append_assoc, arith}
use Rattle.std.specs.Prelude.{◌⊎◌, Result, Ok, map, length, pos}
use Rattle.plus_fraction.specs.Fraction.{whole}
use Rattle.plus_model.specs.Terms as terms
use Rattle.plus_model.specs.Plan as model
use Rattle.plus_model.specs.Plan.{ActLine, EndLine, Plan, IsInOrder}
use Rattle.plus_model.specs.History.{Part}
use Rattle.plus_model.specs.Trajectory.{IsWorked, Prefix, Trajectory, view_of}
use Rattle.plus_model.specs.Breach.{BreaksBy, AfterEnd}
use Rattle.plus_model.specs.Laws.{Begins}
use Rattle.plus_model.proofs.Longest.{worked_is_longest}
use Rattle.plus_model.proofs.Moments.{≤ℚ_refl}
use Rattle.plus_model.proofs.Reading.{order_grows}
use Rattle.plus_number.specs.declared.frac.Frac64.{Frac64}
use Rattle.plus_number.specs.Frac.{fraction_of}
use Rattle.plus_state.specs.declared.outcome.Breach.{Breach}
use Rattle.plus_state.specs.declared.outcome.Breach.TheVariants as breaches
use Rattle.plus_state.specs.declared.outcome.Limit.{Limit}
use Rattle.plus_state.specs.declared.outcome.Limit.TheVariants as limits
use Rattle.plus_stretch.specs.Tests.{Test, too_many_nodes, no_number, of_limit, IsLimit}
use Rattle.plus_tree.specs.declared.trees.Domain.{Domain}
use Rattle.plus_tree.specs.declared.trees.Problem.{Problem}
use Rattle.plus_plan.specs.declared.forms.Time.{Time}
use Rattle.plus_plan.specs.declared.forms.Line.{Line}
use Rattle.plus_plan.specs.declared.forms.PlanForm.TheVariants.{Timed}
use Rattle.plus_plan.specs.declared.faults.PlanFault.{PlanFault}
use Rattle.plus_plan.specs.Lines.{plan_lines}
use Rattle.plus_expansion.specs.Expansion.{expanded}
use Rattle.plus_report.specs.declared.verdicts.Verdict.{Verdict}
use Rattle.plus_report.specs.declared.verdicts.Verdict.TheVariants as verdicts
use Rattle.plus_report.specs.declared.refusals.Early.{Early}
use Rattle.plus_report.specs.declared.refusals.Early.TheVariants as early
use Rattle.plus_report.specs.declared.refusals.Text.TheVariants as texts
use Rattle.plus_validator.specs.declared.judge.Outcome.{Outcome}
use Rattle.plus_validator.specs.declared.judge.Outcome.TheVariants.{Valid, Invalid, Beyond, BadText, ReadFault, WriteFault, NoMemory}
use Rattle.plus_io.specs.Limits.{text_limit}
use Rattle.plus_validator.specs.Outcomes.{outcome_of}
use Rattle.plus_validator.specs.Plans.{Pair, pair, lines_meant, plan_of, Reading, plan_in}
use Rattle.plus_timeline.specs.Played.{asked_at}
use Rattle.plus_validator.specs.Asking.{instances_of, NoneFails}
use Rattle.plus_validator.specs.Refused.{StandsEarly, Stands, IsWaiting, TimeFault, after_end, no_value, goes_back, number_in, IsTimeRefused, IsStopped, IsStoppedAtEnd, Cause, NonePlays, BreachRefutes, line_next, Refusal, IsRefused}
use Rattle.plus_validator.specs.Accepted.{IsAccepted}
use Rattle.plus_validator.specs.Validates.{IsRead, IsRefusedIn, IsWhole}
use Rattle.plus_validator.specs.Tame.{StaysInside, IsOpenBehind, IsTame, IsTameText, HasTrajectory}
use Rattle.plus_validator.specs.Laws.{TameDecides, InvalidIsNone, IsDecided, is_valid, is_invalid, Decides, ValidIsTame}
use Rattle.plus_validator.proofs.Asking.{none_fails}
use Rattle.plus_validator.proofs.OneAnswer.{same, left, right, parted}
use Rattle.plus_validator.proofs.Inside.{in_order_is_tame}

-- ---- what stands is no limit

limit_is_one : (l : Limit Frac64) → IsLimit (of_limit fraction_of l)
limit_is_one (limits.Happenings n) = tt
limit_is_one (limits.Number o) = tt
limit_is_one (limits.Nonlinear owner k) = tt

module _ (P : terms.Problem) (L : Plan) (most : ℕ) (instance : ℕ → List Test) (h : List Part) (p : Prefix P L h) (k : StaysInside P L most instance) where
  no_early : (e : Early) → StandsEarly P L most instance h e → ⊥
  no_early (early.TooMany kind n) s = k h (too_many_nodes n) p s.2 tt
  no_early (early.Literal texts.Domain start last) s = k h (no_number start last) p s tt
  no_early (early.Literal texts.Problem start last) s = s
  no_early (early.Literal texts.Plan start last) s = s
  no_early (early.Literal texts.Constraints start last) s = s
  no_early (early.Literal texts.TranslatedDomain start last) s = s
  no_early (early.Literal texts.TranslatedProblem start last) s = s
  no_early (early.BadText text start last word) s = s
  no_early (early.BadLine line start last) s = s
  no_early (early.TooLong text) s = s
  no_early (early.Depth text at) s = s
  no_early early.DepthOut s = s
  no_early (early.LineTooLong line) s = s

  stands_invalid : (v : Verdict Frac64) → Stands P L most instance h v → Invalid ≡ outcome_of v
  stands_invalid verdicts.Valid s = absurd s
  stands_invalid (verdicts.Invalid b) s = refl
  stands_invalid (verdicts.Beyond l) s = absurd (k h (of_limit fraction_of l) p s (limit_is_one l))
  stands_invalid (verdicts.Other e) s = absurd (no_early e s)

-- ---- a time that is no value

-- a list is none, or has a last
data Lasts {A : Type 0} (xs : List A) : Type 0 where
  nothing : xs ≡ [] → Lasts xs
  last_of : (front : List A) (x : A) → xs ≡ front ++ x ∷ [] → Lasts xs

lasts_cons : {A : Type 0} (x : A) (xs : List A) → Lasts xs → Lasts (x ∷ xs)
lasts_cons x xs (nothing e) = last_of [] x (ap (λ ys. x ∷ ys) e)
lasts_cons x xs (last_of front y e) = last_of (x ∷ front) y (ap (λ ys. x ∷ ys) e)

lasts : {A : Type 0} (xs : List A) → Lasts xs
lasts [] = nothing refl
lasts (x ∷ xs) = lasts_cons x xs (lasts xs)

pub not_none : {A : Type 0} (front : List A) (x : A) → front ++ x ∷ [] ≡ [] → ⊥
not_none [] x e = cc e
not_none (y ∷ front) x e = cc e

module _ (d : Pair) (P : terms.Problem) (most : ℕ) (before : List Line) (h : List Part) (meant : model.Line) (p : Prefix P (plan_of d before false) h) (n : BreaksBy P (plan_of d before false) h meant AfterEnd → ⊥) where
  open_by : (ms : List model.Line) → lines_meant d before ≡ ms → (line : model.Line) → IsInOrder (ms ++ line ∷ []) → IsOpenBehind d before
  open_by ms e line o = record { line = line; ordered = subst (λ (xs : List model.Line). IsInOrder (xs ++ line ∷ [])) (sym e) o }

  worked_by : (front : List model.Line) (x : model.Line) → lines_meant d before ≡ front ++ x ∷ [] → IsWaiting P (plan_of d before false) most (instances_of d before) h → IsWorked P (plan_of d before false) (view_of P h)
  worked_by front x e (inl none) = absurd (not_none front x (sym e ∙ none))
  worked_by front x e (inr done) = done.worked

  open_last : IsWaiting P (plan_of d before false) most (instances_of d before) h → Lasts (lines_meant d before) → IsOpenBehind d before
  open_last w (nothing e) = open_by [] e (EndLine (whole (pos 0))) tt
  open_last w (last_of front (ActLine t c) e) =
      open_by (front ++ ActLine t c ∷ []) e (EndLine t) (order_grows front t c (EndLine t) (subst IsInOrder e p.ordered) (≤ℚ_refl t))
  open_last w (last_of front (EndLine t) e) =
      absurd (n (record { prefix = p; breach = (front, t, record { worked = worked_by front (EndLine t) e w; open_yet = refl; lines = e }) }))

  -- where no end stands before, a line may stand behind lines that are waited for
  pub open_behind : IsWaiting P (plan_of d before false) most (instances_of d before) h → IsOpenBehind d before
  open_behind w = open_last w (lasts (lines_meant d before))

-- ---- a refusal of a tame plan

module _ (d : Pair) (P : terms.Problem) (most : ℕ) (lines : List Line) (k : IsTame d P most lines) (before : List Line) (r : Reading) (h : List Part) (v : Verdict Frac64) (p : Prefix P (plan_in d r) h) where
  prefix_in : (s : Reading) → r ≡ s → Prefix P (plan_in d s) h
  prefix_in s e = subst (λ (x : Reading). Prefix P (plan_in d x) h) e p

  at_end : lines ≡ before → IsStoppedAtEnd d P most before r h v → Invalid ≡ outcome_of v
  at_end e s =
      stands_invalid P (plan_of d before true) most (instances_of d before) h (prefix_in _ s.reads)
      (subst (λ (ls : List Line). StaysInside P (plan_of d ls true) most (instances_of d ls)) e k.at_end) v s.stands

  stopped : (line : Line) (more : List Line) → lines ≡ before ++ line ∷ more → IsStopped d P most before line r h v → Invalid ≡ outcome_of v
  stopped line more e s =
      stands_invalid P (plan_of d (before ++ line ∷ []) false) most (instances_of d (before ++ line ∷ [])) h (prefix_in _ s.reads)
      (k.on_way (before ++ line ∷ []) more (e ∙ sym (append_assoc before (line ∷ []) more))) v s.stands

  by_time : (line : Line) (more : List Line) → lines ≡ before ++ line ∷ more → (s : IsTimeRefused d P most before line r h v) → TimeFault P (plan_of d before false) h (number_in line) s.meant s.time v → Invalid ≡ outcome_of v
  by_time line more e s (after_end b f) = sym (ap (λ (x : Verdict Frac64). outcome_of x) f)
  by_time line more e s (goes_back b x f) = sym (ap (λ (x : Verdict Frac64). outcome_of x) f)
  by_time line more e s (no_value n x f) =
      absurd (x ((k.times before line more h e (open_behind d P most before h s.meant (prefix_in _ s.reads) n s.waits) (prefix_in _ s.reads) s.waits).fits s.time s.time_is))

  in_line : (line : Line) (more : List Line) → lines ≡ before ++ line ∷ more → IsTimeRefused d P most before line r h v ⊎ IsStopped d P most before line r h v → Invalid ≡ outcome_of v
  in_line line more e (inl s) = by_time line more e s s.why
  in_line line more e (inr s) = stopped line more e s

-- ---- the lines of a refused text

-- all are read before, or one is read next
pub data Places (lines before : List Line) (rest : List (Result Line PlanFault)) : Type 0 where
  all_read : lines ≡ before → rest ≡ [] → Places lines before rest
  next_read : (line : Line) (more : List Line) (rest' : List (Result Line PlanFault)) → lines ≡ before ++ line ∷ more → rest ≡ Ok line ∷ rest' → Places lines before rest

pub places : (lines before : List Line) (rest all : List (Result Line PlanFault)) → all ≡ map Ok lines → all ≡ map Ok before ++ rest → Places lines before rest
places lines before rest all e f =
    elim (parted lines before [] rest (append-nil _ ∙ sym e ∙ f)) [
      | same i r ↦ all_read i (sym r)
      | left l m r i j ↦ absurd (let k : [] ≡ Ok l ∷ r = j in cc k)
      | right l m r i j ↦ next_read l m r i j
    ]

module _ (d : Pair) (P : terms.Problem) (most : ℕ) (text piece : List ℕ) (v : Verdict Frac64) (x : Refusal d P most false text piece v) where
  pub cause_in : (rest : List (Result Line PlanFault)) → x.rest ≡ rest → Cause d P most false piece x.before rest x.reading x.history v
  cause_in rest e = subst (λ (xs : List (Result Line PlanFault)). Cause d P most false piece x.before xs x.reading x.history v) e x.cause

  is_invalid_by : (lines : List Line) → IsTame d P most lines → Places lines x.before x.rest → Invalid ≡ outcome_of v
  is_invalid_by lines k (all_read e f) = at_end d P most lines k x.before x.reading x.history v x.prefix e (cause_in [] f)
  is_invalid_by lines k (next_read line more rest e f) = in_line d P most lines k x.before x.reading x.history v x.prefix line more e (cause_in (Ok line ∷ rest) f)

pub refusal_of : (d : Domain) (p : Problem) (most : ℕ) (text : List ℕ) (outcome : Outcome) (bytes : List ℕ) (r : IsRefused d p most text false outcome bytes) → Refusal (pair d p) (expanded d p) most false text r.piece r.verdict
refusal_of d p most text outcome bytes r = subst (λ (w : List ℕ). Refusal (pair d p) (expanded d p) most false w r.piece r.verdict) r.cut r.refusal

pub tame_decides : TameDecides
tame_decides d p most text outcome bytes k r =
    let x = refusal_of d p most text outcome bytes r in
    r.outcome_is
    ∙ sym (is_invalid_by (pair d p) (expanded d p) most text r.piece r.verdict x k.lines k.tame (places k.lines x.before x.rest (plan_lines Timed text) k.read x.read))

-- ---- an invalid plan has no trajectory

early_is_none : (e : Early) → Invalid ≡ outcome_of {Q = Frac64} (verdicts.Other e) → ⊥
early_is_none (early.TooMany kind n) i = cc i
early_is_none (early.Literal text start last) i = cc i
early_is_none (early.BadText text start last word) i = cc i
early_is_none (early.BadLine line start last) i = cc i
early_is_none (early.TooLong text) i = cc i
early_is_none (early.Depth text at) i = cc i
early_is_none early.DepthOut i = cc i
early_is_none (early.LineTooLong line) i = cc i

-- its verdict is a breach
pub breach_in : (v : Verdict Frac64) → Invalid ≡ outcome_of v → (b : Breach Frac64) × (v ≡ verdicts.Invalid b)
breach_in verdicts.Valid i = absurd (cc i)
breach_in (verdicts.Invalid b) i = (b, refl)
breach_in (verdicts.Beyond l) i = absurd (cc i)
breach_in (verdicts.Other e) i = absurd (early_is_none e i)

-- a goal that fails, or a breach that is final
refuted_by : (d : Pair) (P : terms.Problem) (ls : List Line) (b : Breach Frac64) → BreachRefutes d P ls b → ((b ≡ breaches.Goal) × ((h : List Part) → Trajectory P (plan_of d ls true) h → ⊥)) ⊎ NonePlays d P ls
refuted_by d P ls (breaches.UnknownAction line name) n = inr n
refuted_by d P ls (breaches.WrongArguments line name) n = inr n
refuted_by d P ls (breaches.Precondition line label) n = inr n
refuted_by d P ls (breaches.TimeGoesBack line) n = inr n
refuted_by d P ls (breaches.AfterEnd line) n = inr n
refuted_by d P ls (breaches.Conflict f) n = inr n
refuted_by d P ls (breaches.NoValue f) n = inr n
refuted_by d P ls (breaches.Repeats e) n = inr n
refuted_by d P ls (breaches.Unsettled p) n = inr n
refuted_by d P ls (breaches.Coupled p f) n = inr n
refuted_by d P ls (breaches.NoFirstMoment e t) n = inr n
refuted_by d P ls breaches.Goal n = inl (refl, n)

-- the goal is asked at the end alone
module _ (d : Pair) (P : terms.Problem) (most : ℕ) (before : List Line) (line : Line) (r : Reading) (h : List Part) where
  no_time_goal : (meant : model.Line) (time : Time) → TimeFault P (plan_of d before false) h (number_in line) meant time (verdicts.Invalid breaches.Goal) → ⊥
  no_time_goal meant time (after_end b e) = cc e
  no_time_goal meant time (no_value n x e) = cc e
  no_time_goal meant time (goes_back b x e) = cc e

  no_goal : IsTimeRefused d P most before line r h (verdicts.Invalid breaches.Goal) ⊎ IsStopped d P most before line r h (verdicts.Invalid breaches.Goal) → ⊥
  no_goal (inl s) = no_time_goal s.meant s.time s.why
  no_goal (inr s) = (let e : false ≡ true = s.stands.breaks.breach.stands.0 in cc e)

module _ (d : Pair) (P : terms.Problem) (most : ℕ) (text piece : List ℕ) (b : Breach Frac64) (x : Refusal d P most false text piece (verdicts.Invalid b)) (lines : List Line) (h : List Part) (t : Trajectory P (plan_of d lines true) h) where
  none_on : (ls more : List Line) → lines ≡ ls ++ more → NonePlays d P ls → ⊥
  none_on ls more e n = n more true h (subst (λ (ks : List Line). Trajectory P (plan_of d ks true) h) e t)

  none_at_end : lines ≡ x.before → x.rest ≡ [] → ⊥
  none_at_end e f =
      let final : BreachRefutes d P (x.before ++ []) b = subst (λ (rs : List (Result Line PlanFault)). BreachRefutes d P (x.before ++ line_next rs) b) f x.final in
      let ls : lines ≡ x.before ++ [] = e ∙ sym (append-nil x.before) in
      elim (refuted_by d P (x.before ++ []) b final) [
        | inl g ↦ g.1 h (subst (λ (ks : List Line). Trajectory P (plan_of d ks true) h) ls t)
        | inr n ↦ none_on (x.before ++ []) [] (ls ∙ sym (append-nil (x.before ++ []))) n
      ]

  none_in_line : (line : Line) (more : List Line) (rest : List (Result Line PlanFault)) → lines ≡ x.before ++ line ∷ more → x.rest ≡ Ok line ∷ rest → ⊥
  none_in_line line more rest e f =
      let final : BreachRefutes d P (x.before ++ line ∷ []) b = subst (λ (rs : List (Result Line PlanFault)). BreachRefutes d P (x.before ++ line_next rs) b) f x.final in
      let cause : Cause d P most false piece x.before (Ok line ∷ rest) x.reading x.history (verdicts.Invalid b) = cause_in d P most text piece (verdicts.Invalid b) x (Ok line ∷ rest) f in
      elim (refuted_by d P (x.before ++ line ∷ []) b final) [
        | inl g ↦ no_goal d P most x.before line x.reading x.history
            (subst (λ (c : Breach Frac64). IsTimeRefused d P most x.before line x.reading x.history (verdicts.Invalid c) ⊎ IsStopped d P most x.before line x.reading x.history (verdicts.Invalid c)) g.0 cause)
        | inr n ↦ none_on (x.before ++ line ∷ []) more (e ∙ sym (append_assoc x.before (line ∷ []) more)) n
      ]

  none_plays : Places lines x.before x.rest → ⊥
  none_plays (all_read e f) = none_at_end e f
  none_plays (next_read line more rest e f) = none_in_line line more rest e f

none_where : (d : Pair) (P : terms.Problem) (most : ℕ) (text piece : List ℕ) (v : Verdict Frac64) (b : Breach Frac64) → v ≡ verdicts.Invalid b → Refusal d P most false text piece v → (lines : List Line) → plan_lines Timed text ≡ map Ok lines → (h : List Part) → Trajectory P (plan_of d lines true) h → ⊥
none_where d P most text piece v b i r lines e h t =
    let x : Refusal d P most false text piece (verdicts.Invalid b) = subst (Refusal d P most false text piece) i r in
    none_plays d P most text piece b x lines h t (places lines x.before x.rest (plan_lines Timed text) e x.read)

pub invalid_is_none : InvalidIsNone
invalid_is_none d p most text bytes r t =
    let k = breach_in r.verdict r.outcome_is in
    none_where (pair d p) (expanded d p) most text r.piece r.verdict k.0 k.1 (refusal_of d p most text Invalid bytes r) t.lines t.read t.history t.happens

-- ---- every answer

-- a text within its limit is read whole
module _ (d : Domain) (p : Problem) (most : ℕ) (text : List ℕ) (outcome : Outcome) (bytes : List ℕ) (w : length text ≤ text_limit) where
  whole_by : (goes_on : Bool) (read : List ℕ) → IsRead text read goes_on → IsRefused d p most read goes_on outcome bytes → IsRefused d p most text false outcome bytes
  whole_by false read i r = subst (λ (ts : List ℕ). IsRefused d p most ts false outcome bytes) i.0 r
  whole_by true read i r = absurd (let k = i.1 in omega arith)

  refused_whole : IsRefusedIn d p most text outcome bytes → IsRefused d p most text false outcome bytes
  refused_whole r = whole_by r.goes_on r.text r.read r.refused

module _ (d : Domain) (p : Problem) (most : ℕ) (text : List ℕ) (k : IsTameText d p most text) where
  accepted_plays : (bytes : List ℕ) → IsAccepted d p most text bytes → HasTrajectory d p text
  accepted_plays bytes a = record { lines = a.lines; read = a.read; history = a.history; happens = a.happens }

  refused_invalid : (outcome : Outcome) (bytes : List ℕ) → IsRefusedIn d p most text outcome bytes → outcome ≡ Invalid
  refused_invalid outcome bytes r = tame_decides d p most text outcome bytes k (refused_whole d p most text outcome bytes k.within r)

  decided : (outcome : Outcome) (bytes : List ℕ) → IsWhole d p most text outcome bytes → IsDecided d p text outcome
  decided Valid bytes a = is_valid refl (accepted_plays bytes a)
  decided Invalid bytes r = is_invalid refl (invalid_is_none d p most text bytes (refused_whole d p most text Invalid bytes k.within r))
  decided Beyond bytes r = absurd (let i : Beyond ≡ Invalid = refused_invalid Beyond bytes r in cc i)
  decided BadText bytes r = absurd (let i : BadText ≡ Invalid = refused_invalid BadText bytes r in cc i)
  decided ReadFault bytes r = absurd r
  decided WriteFault bytes r = absurd r
  decided NoMemory bytes r = absurd r

pub decides : Decides
decides d p most text outcome bytes k a = decided d p most text k outcome bytes a

-- ---- an accepted plan

module _ (d : Domain) (p : Problem) (most : ℕ) (text bytes : List ℕ) (a : IsAccepted d p most text bytes) where
  abbrev plan_there : Plan
  plan_there = plan_of (pair d p) a.lines true

  passes_there : (h : List Part) → Prefix (expanded d p) plan_there h → (rest : List Part) → a.history ≡ h ++ rest → NoneFails (expanded d p) plan_there most (instances_of (pair d p) a.lines) h
  passes_there h q [] e = subst (NoneFails (expanded d p) plan_there most (instances_of (pair d p) a.lines)) (e ∙ append-nil h) a.passed
  passes_there h q (x ∷ rest) e = a.clear h x rest q e

  inside_there : StaysInside (expanded d p) plan_there most (instances_of (pair d p) a.lines)
  inside_there h t q f l =
      let b : Begins h a.history = (worked_is_longest (expanded d p) plan_there a.history a.happens.prefix a.happens.worked).longest h q in
      none_fails (asked_at (expanded d p) plan_there most (instances_of (pair d p) a.lines) h) t (passes_there h q b.rest b.is) f

pub valid_is_tame : ValidIsTame
valid_is_tame d p most text bytes a = record {
  groundable = a.groundable;
  within = a.within;
  lines = a.lines;
  read = a.read;
  tame = in_order_is_tame (pair d p) (expanded d p) most a.lines a.happens.prefix.ordered a.times (inside_there d p most text bytes a);
}
