-- A plan that is refused as invalid stays inside the limits.
use Rattle.std.proofs.Common.{◌≡◌, ℕ, Bool, true, false, List, [], ◌∷◌, ◌++◌, refl, ap, sym, subst, ◌∙◌, inl, inr, append-nil, append_assoc}
use Rattle.std.specs.Prelude.{◌≢◌, ◌⊎◌, All, Ok}
use Rattle.plus_model.specs.Terms as terms
use Rattle.plus_model.specs.Plan as model
use Rattle.plus_model.specs.Plan.{Plan, IsInOrder}
use Rattle.plus_model.specs.History.{Part}
use Rattle.plus_model.specs.Trajectory.{HasBegun, Next, IsWorked, Prefix, first_part, first_view, view_of}
use Rattle.plus_model.specs.Breach as breach
use Rattle.plus_model.specs.Breach.{Goal, Breaks}
use Rattle.plus_model.specs.Laws.{Begins}
use Rattle.plus_model.proofs.Paths as paths
use Rattle.plus_model.proofs.Paths.{meet, view_is}
use Rattle.plus_model.proofs.Final.{breach_stuck}
use Rattle.plus_model.proofs.Later.{prefix_goes_on}
use Rattle.plus_model.proofs.Longest.{worked_is_longest, one_longest}
use Rattle.plus_number.specs.declared.frac.Frac64.{Frac64}
use Rattle.plus_number.specs.Frac.{IsFrac64}
use Rattle.plus_state.proofs.Testing.{one_test}
use Rattle.plus_state.specs.declared.outcome.Breach.{Breach}
use Rattle.plus_state.specs.declared.outcome.Breach.TheVariants as breaches
use Rattle.plus_stretch.specs.Tests.{Test, breach as broken_by, Passes, IsLimit}
use Rattle.plus_plan.specs.declared.forms.Time.{Time}
use Rattle.plus_plan.specs.declared.forms.Line.{Line}
use Rattle.plus_plan.specs.declared.forms.PlanForm.TheVariants.{Timed}
use Rattle.plus_plan.specs.Lines.{plan_lines}
use Rattle.plus_plan.specs.TimeValue.{value_of}
use Rattle.plus_expansion.specs.Expansion.{expanded}
use Rattle.plus_report.specs.declared.verdicts.Verdict.TheVariants as verdicts
use Rattle.plus_timeline.specs.Played.{asked_at}
use Rattle.plus_validator.specs.Plans.{Pair, pair, lines_meant, plan_of, Reading, plan_in, HasTime, HasValue}
use Rattle.plus_validator.specs.Asking.{instances_of, NoneFails, Fails, IsClear}
use Rattle.plus_validator.specs.Refused.{IsBroken, Stands, IsWaiting, TimeFault, after_end, no_value, goes_back, number_in, IsTimeRefused, IsStopped, IsStoppedAtEnd, Refusal}
use Rattle.plus_validator.specs.Tame.{StaysInside, IsOpenBehind, IsTame}
use Rattle.plus_validator.specs.Laws.{InvalidIsTame}
use Rattle.plus_validator.proofs.Asking.{none_fails}
use Rattle.plus_validator.proofs.Between.{place_excluded, no_after}
use Rattle.plus_validator.proofs.CalledTests.{instances_agree}
use Rattle.plus_validator.proofs.Clear.{clear_grows}
use Rattle.plus_validator.proofs.Deciding.{Places, all_read, next_read, places, cause_in, refusal_of, breach_in, not_none}
use Rattle.plus_validator.proofs.Inside.{one_of, inside_front, in_order_is_tame}
use Rattle.plus_validator.proofs.Longer.{fails_longer}
use Rattle.plus_validator.proofs.OneAnswer.{time_once}
use Rattle.plus_validator.proofs.TextStops.{goes_on, begun_more}

-- ---- at the longest prefix, before which all passes

module _ (P : terms.Problem) (L : Plan) (most : ℕ) (instance : ℕ → List Test) (g : List Part) (longest : (h : List Part) → Prefix P L h → Begins h g) (clear : IsClear P L most instance g) (here : (t : Test) → Fails P L most instance g t → IsLimit t → ⊥) where
  inside_at : (h : List Part) (t : Test) (rest : List Part) → g ≡ h ++ rest → Prefix P L h → Fails P L most instance h t → IsLimit t → ⊥
  inside_at h t [] e q f l = here t (subst (λ (x : List Part). Fails P L most instance x t) (sym (e ∙ append-nil h)) f) l
  inside_at h t (x ∷ rest) e q f l = none_fails (asked_at P L most instance h) t (clear h x rest q e) f

  inside_by : StaysInside P L most instance
  inside_by h t q f l = (let b = longest h q in inside_at h t b.rest b.is q f l)

-- a breach that is the first test that fails is no limit
breach_here : (P : terms.Problem) (L : Plan) (most : ℕ) (instance : ℕ → List Test) (g : List Part) (b : breach.Breach) → Fails P L most instance g (broken_by b) → (t : Test) → Fails P L most instance g t → IsLimit t → ⊥
breach_here P L most instance g b first t f l =
    subst IsLimit ((one_test (Passes IsFrac64)).one (asked_at P L most instance g) t (broken_by b) f first) l

-- where nothing comes next, no prefix is longer
longest_by : (P : terms.Problem) (L : Plan) (g : List Part) → Prefix P L g → ((part : Part) → Next P L (view_of P g) part → ⊥) → (h : List Part) → Prefix P L h → Begins h g
longest_by P L g a n h c = elim (meet P L (first_view P) a.rest c.rest a.follow c.follow) [
  | paths.same s ↦ record { rest = []; is = a.begins ∙ ap (λ t. first_part P ∷ t) s ∙ sym c.begins ∙ sym (append-nil h) }
  | paths.shorter p ps s m ↦ absurd (n p (subst (λ v. Next P L v p) (sym (view_is P g a.rest a.begins)) m))
  | paths.longer p ps s m ↦ record { rest = p ∷ ps; is = a.begins ∙ ap (λ t. first_part P ∷ t) s ∙ ap (λ t. t ++ p ∷ ps) (sym c.begins) }
]

-- the breach of a verdict
record IsBrokenBy (P : terms.Problem) (L : Plan) (most : ℕ) (instance : ℕ → List Test) (h : List Part) : Type 0 where
  by : breach.Breach
  broken : IsBroken P L most instance h by

broken_in : (P : terms.Problem) (L : Plan) (most : ℕ) (instance : ℕ → List Test) (h : List Part) (b : Breach Frac64) → Stands P L most instance h (verdicts.Invalid b) → IsBrokenBy P L most instance h
broken_in P L most instance h (breaches.UnknownAction line name) s = record { by = _; broken = s }
broken_in P L most instance h (breaches.WrongArguments line name) s = record { by = _; broken = s }
broken_in P L most instance h (breaches.Precondition line label) s = record { by = _; broken = s }
broken_in P L most instance h (breaches.TimeGoesBack line) s = absurd s
broken_in P L most instance h (breaches.AfterEnd line) s = absurd s
broken_in P L most instance h (breaches.Conflict f) s = record { by = _; broken = s }
broken_in P L most instance h (breaches.NoValue f) s = record { by = _; broken = s }
broken_in P L most instance h (breaches.Repeats e) s = record { by = _; broken = s }
broken_in P L most instance h (breaches.Unsettled p) s = record { by = _; broken = s }
broken_in P L most instance h (breaches.Coupled p f) s = record { by = _; broken = s }
broken_in P L most instance h (breaches.NoFirstMoment e t) s = record { by = _; broken = s }
broken_in P L most instance h breaches.Goal s = record { by = _; broken = s }

-- ---- a plan that goes on behind a breach

module _ (d : Pair) (P : terms.Problem) (most : ℕ) (ls : List Line) (g : List Part) (p : Prefix P (plan_of d ls false) g) (begun : HasBegun (plan_of d ls false)) (clear : IsClear P (plan_of d ls false) most (instances_of d ls) g) (k : IsBrokenBy P (plan_of d ls false) most (instances_of d ls) g) where
  no_goal_open : k.by ≢ Goal
  no_goal_open e = (let f : Breaks P (plan_of d ls false) g Goal = subst (Breaks P (plan_of d ls false) g) e k.broken.breaks in let c : false ≡ true = f.breach.stands.0 in cc c)

  inside_behind : (more : List Line) (closed : Bool) → StaysInside P (plan_of d (ls ++ more) closed) most (instances_of d (ls ++ more))
  inside_behind more closed h t q f l =
      let on = goes_on d ls more false closed in
      let there : Prefix P (plan_of d (ls ++ more) closed) g = prefix_goes_on P (plan_of d ls false) (plan_of d (ls ++ more) closed) g p on q.ordered (begun_more d ls more closed begun) in
      inside_by P (plan_of d (ls ++ more) closed) most (instances_of d (ls ++ more)) g
      (longest_by P (plan_of d (ls ++ more) closed) g there (breach_stuck P (plan_of d ls false) (plan_of d (ls ++ more) closed) (view_of P g) k.by on k.broken.breaks.breach.stands no_goal_open).nothing)
      (clear_grows P (plan_of d ls false) (plan_of d (ls ++ more) closed) most (instances_of d ls) (instances_of d (ls ++ more)) on (instances_agree d ls more) g p clear)
      (breach_here P (plan_of d (ls ++ more) closed) most (instances_of d (ls ++ more)) g k.by
      (fails_longer P (plan_of d ls false) (plan_of d (ls ++ more) closed) most (instances_of d ls) (instances_of d (ls ++ more)) g (broken_by k.by) on (instances_agree d ls more) refl p k.broken.first))
      h t q f l

  -- and no line is waited for there
  unwaited_behind : (more : List Line) (h : List Part) → Prefix P (plan_of d (ls ++ more) false) h → IsWaiting P (plan_of d (ls ++ more) false) most (instances_of d (ls ++ more)) h → ⊥
  unwaited_behind more h q (inl none) = elim (begun_more d ls more false begun) [ inl s ↦ s none | inr t ↦ (let f : false ≡ true = t in cc f) ]
  unwaited_behind more h q (inr done) =
      let L = plan_of d (ls ++ more) false in
      let on = goes_on d ls more false false in
      let there : Prefix P L g = prefix_goes_on P (plan_of d ls false) L g p on q.ordered (begun_more d ls more false begun) in
      let stuck = breach_stuck P (plan_of d ls false) L (view_of P g) k.by on k.broken.breaks.breach.stands no_goal_open in
      let same : h ≡ g = one_longest P L h g (worked_is_longest P L h q done.worked) (record { prefix = there; longest = longest_by P L g there stuck.nothing }) in
      stuck.no_end (subst (λ (x : List Part). IsWorked P L (view_of P x)) same done.worked)

-- ---- beginnings of the lines

-- a beginning ends before the line, or goes on behind it
data Split (front before : List Line) (line : Line) : Type 0 where
  inside : (m : List Line) → before ≡ front ++ m → Split front before line
  beyond : (m : List Line) → front ≡ before ++ line ∷ m → Split front before line

split : (front back before : List Line) (line : Line) (more : List Line) → front ++ back ≡ before ++ line ∷ more → Split front before line
split [] back before line more e = inside before refl
split (x ∷ front) back [] line more e =
    let f : x ∷ (front ++ back) ≡ line ∷ more = e in
    let head : x ≡ line = cc f in
    beyond front (ap (λ z. z ∷ front) head)
split (x ∷ front) back (y ∷ before) line more e =
    let f : x ∷ (front ++ back) ≡ y ∷ (before ++ line ∷ more) = e in
    let head : x ≡ y = cc f in
    let tail : front ++ back ≡ before ++ line ∷ more = cc f in
    elim (split front back before line more tail) [
      | inside m i ↦ inside m (ap (λ zs. y ∷ zs) i ∙ ap (λ z. z ∷ (front ++ m)) (sym head))
      | beyond m i ↦ beyond m (ap (λ zs. x ∷ zs) i ∙ ap (λ z. z ∷ (before ++ line ∷ m)) head)
    ]

-- a line stands before the line that is read next, or is that, or stands behind it
data At (front before : List Line) (y line : Line) : Type 0 where
  in_front : (m : List Line) → before ≡ front ++ y ∷ m → At front before y line
  at_it : before ≡ front → y ≡ line → At front before y line
  behind_it : (m : List Line) → front ≡ before ++ line ∷ m → At front before y line

at : (front back before : List Line) (y line : Line) (more : List Line) → front ++ y ∷ back ≡ before ++ line ∷ more → At front before y line
at [] back [] y line more e =
    let f : y ∷ back ≡ line ∷ more = e in
    let head : y ≡ line = cc f in
    at_it refl head
at [] back (z ∷ before) y line more e =
    let f : y ∷ back ≡ z ∷ (before ++ line ∷ more) = e in
    let head : z ≡ y = cc f in
    in_front before (ap (λ x. x ∷ before) head)
at (x ∷ front) back [] y line more e =
    let f : x ∷ (front ++ y ∷ back) ≡ line ∷ more = e in
    let head : x ≡ line = cc f in
    behind_it front (ap (λ z. z ∷ front) head)
at (x ∷ front) back (z ∷ before) y line more e =
    let f : x ∷ (front ++ y ∷ back) ≡ z ∷ (before ++ line ∷ more) = e in
    let head : x ≡ z = cc f in
    let tail : front ++ y ∷ back ≡ before ++ line ∷ more = cc f in
    elim (at front back before y line more tail) [
      | in_front m i ↦ in_front m (ap (λ zs. z ∷ zs) i ∙ ap (λ u. u ∷ (front ++ y ∷ m)) (sym head))
      | at_it i j ↦ at_it (ap (λ zs. z ∷ zs) i ∙ ap (λ u. u ∷ front) (sym head)) j
      | behind_it m i ↦ behind_it m (ap (λ zs. x ∷ zs) i ∙ ap (λ u. u ∷ (before ++ line ∷ m)) head)
    ]

-- ---- a refusal by a breach, or by a line out of its place

module _ (d : Pair) (P : terms.Problem) (most : ℕ) (text piece : List ℕ) (b : Breach Frac64) (x : Refusal d P most false text piece (verdicts.Invalid b)) (lines : List Line) where
  prefix_of : (s : Reading) → x.reading ≡ s → Prefix P (plan_in d s) x.history
  prefix_of s e = subst (λ (r : Reading). Prefix P (plan_in d r) x.history) e x.prefix

  clear_of : (s : Reading) → x.reading ≡ s → IsClear P (plan_in d s) most (instances_of d s.lines) x.history
  clear_of s e = subst (λ (r : Reading). IsClear P (plan_in d r) most (instances_of d r.lines) x.history) e x.clear

  longest_of : (s : Reading) → x.reading ≡ s → (h : List Part) → Prefix P (plan_in d s) h → Begins h x.history
  longest_of s e = subst (λ (r : Reading). (h : List Part) → Prefix P (plan_in d r) h → Begins h x.history) e (x.longest tt).longest

  tame_at_end : lines ≡ x.before → IsStoppedAtEnd d P most x.before x.reading x.history (verdicts.Invalid b) → IsTame d P most lines
  tame_at_end e s =
      let k = broken_in P (plan_of d x.before true) most (instances_of d x.before) x.history b s.stands in
      in_order_is_tame d P most lines
      (subst (λ (ls : List Line). IsInOrder (lines_meant d ls)) (sym e) (prefix_of _ s.reads).ordered)
      (subst (All HasValue) (sym e) x.times)
      (subst (λ (ls : List Line). StaysInside P (plan_of d ls true) most (instances_of d ls)) (sym e)
      (inside_by P (plan_of d x.before true) most (instances_of d x.before) x.history (longest_of _ s.reads) (clear_of _ s.reads)
      (breach_here P (plan_of d x.before true) most (instances_of d x.before) x.history k.by k.broken.first)))

  module _ (line : Line) (more : List Line) (e : lines ≡ x.before ++ line ∷ more) where
    abbrev with_line : List Line
    with_line = x.before ++ line ∷ []

    tame_by : ((m : List Line) (closed : Bool) → StaysInside P (plan_of d (with_line ++ m) closed) most (instances_of d (with_line ++ m)))
        → ((front m : List Line) → x.before ≡ front ++ m → StaysInside P (plan_of d front false) most (instances_of d front))
        → (IsOpenBehind d x.before → HasValue line)
        → ((m : List Line) (h : List Part) → Prefix P (plan_of d (with_line ++ m) false) h → IsWaiting P (plan_of d (with_line ++ m) false) most (instances_of d (with_line ++ m)) h → ⊥)
        → IsTame d P most lines
    tame_by behind ahead here none_waits = record {
      at_end = subst (λ (ls : List Line). StaysInside P (plan_of d ls true) most (instances_of d ls)) (sym (e ∙ sym (append_assoc x.before (line ∷ []) more))) (behind more true);
      on_way = λ front back f. elim (split front back x.before line more (sym f ∙ e)) [
        | inside m i ↦ ahead front m i
        | beyond m i ↦ subst (λ (ls : List Line). StaysInside P (plan_of d ls false) most (instances_of d ls)) (sym (i ∙ sym (append_assoc x.before (line ∷ []) m))) (behind m false)
      ];
      times = λ front y back h f o p w. elim (at front back x.before y line more (sym f ∙ e)) [
        | in_front m i ↦ one_of HasValue front m y (subst (All HasValue) i x.times)
        | at_it i j ↦ subst HasValue (sym j) (here (subst (IsOpenBehind d) (sym i) o))
        | behind_it m i ↦ (let s : front ≡ with_line ++ m = i ∙ sym (append_assoc x.before (line ∷ []) m) in
            absurd (none_waits m h (subst (λ (ls : List Line). Prefix P (plan_of d ls false) h) s p)
            (subst (λ (ls : List Line). IsWaiting P (plan_of d ls false) most (instances_of d ls) h) s w)))
      ];
    }

    -- a breach stands on the way to the line, or in it
    tame_stopped : IsStopped d P most x.before line x.reading x.history (verdicts.Invalid b) → IsTame d P most lines
    tame_stopped s =
        let p : Prefix P (plan_of d with_line false) x.history = prefix_of _ s.reads in
        let k = broken_in P (plan_of d with_line false) most (instances_of d with_line) x.history b s.stands in
        let behind : (m : List Line) (closed : Bool) → StaysInside P (plan_of d (with_line ++ m) closed) most (instances_of d (with_line ++ m)) =
        inside_behind d P most with_line x.history p s.begun (clear_of _ s.reads) k in
        tame_by behind
        (λ front m i.
        let is : with_line ++ [] ≡ front ++ (m ++ line ∷ []) = append-nil with_line ∙ ap (λ ls. ls ++ line ∷ []) i ∙ append_assoc front m (line ∷ []) in
        inside_front d P most front (m ++ line ∷ []) false
        (subst (λ (ls : List Line). IsInOrder (lines_meant d ls)) (sym (append-nil with_line) ∙ is) p.ordered)
        (subst (λ (ls : List Line). StaysInside P (plan_of d ls false) most (instances_of d ls)) is (behind [] false)))
        (λ o. s.value)
        (unwaited_behind d P most with_line x.history p s.begun (clear_of _ s.reads) k)

    -- the line is out of its place
    waits_here : (meant : model.Line) (time : Time) → TimeFault P (plan_of d x.before false) x.history (number_in line) meant time (verdicts.Invalid b) → IsWaiting P (plan_of d x.before false) most (instances_of d x.before) x.history → NoneFails P (plan_of d x.before false) most (instances_of d x.before) x.history
    waits_here meant time w (inr done) = done.passed
    waits_here meant time (after_end c f) (inl none) = (let a = c.breach in absurd (not_none a.0 (model.EndLine a.1) (sym a.2.lines ∙ none)))
    waits_here meant time (no_value n c f) (inl none) = absurd (cc f)
    waits_here meant time (goes_back c w f) (inl none) = (let a = c.breach in absurd (not_none a.0 (model.ActLine a.1 a.2) (sym a.3.lines ∙ none)))

    -- and where one may stand behind those before, its time is a value
    value_here : (meant : model.Line) (time : Time) → HasTime line time → TimeFault P (plan_of d x.before false) x.history (number_in line) meant time (verdicts.Invalid b) → IsOpenBehind d x.before → HasValue line
    value_here meant time t (after_end c f) o = (let a = c.breach in absurd (no_after a.0 a.1 o.line [] (subst (λ (ls : List model.Line). IsInOrder (ls ++ o.line ∷ [])) a.2.lines o.ordered)))
    value_here meant time t (no_value n c f) o = absurd (cc f)
    value_here meant time t (goes_back c w f) o = record {
      fits = λ u is. subst (λ (y : Time). IsFrac64 (value_of y)) (time_once line time u t is) w;
    }

    tame_time : IsTimeRefused d P most x.before line x.reading x.history (verdicts.Invalid b) → IsTame d P most lines
    tame_time s =
        let p : Prefix P (plan_of d x.before false) x.history = prefix_of _ s.reads in
        let passed = waits_here s.meant s.time s.why s.waits in
        let before_inside : StaysInside P (plan_of d x.before false) most (instances_of d x.before) =
        inside_by P (plan_of d x.before false) most (instances_of d x.before) x.history (longest_of _ s.reads) (clear_of _ s.reads)
        (λ t f l. none_fails (asked_at P (plan_of d x.before false) most (instances_of d x.before) x.history) t passed f) in
        let out : (m : List Line) → IsInOrder (lines_meant d (with_line ++ m)) → ⊥ =
        (λ m o. place_excluded d P x.before m line x.history s.meant s.time (verdicts.Invalid b) s.meant_is (λ n f. cc f) s.why o) in
        tame_by
        (λ m closed h t q f l. out m q.ordered)
        (λ front m i. inside_front d P most front m false
        (subst (λ (ls : List Line). IsInOrder (lines_meant d ls)) i p.ordered)
        (subst (λ (ls : List Line). StaysInside P (plan_of d ls false) most (instances_of d ls)) i before_inside))
        (value_here s.meant s.time s.time_is s.why)
        (λ m h q w. out m q.ordered)

    tame_in_line : IsTimeRefused d P most x.before line x.reading x.history (verdicts.Invalid b) ⊎ IsStopped d P most x.before line x.reading x.history (verdicts.Invalid b) → IsTame d P most lines
    tame_in_line (inl s) = tame_time s
    tame_in_line (inr s) = tame_stopped s

  tame_refused : Places lines x.before x.rest → IsTame d P most lines
  tame_refused (all_read e f) = tame_at_end e (cause_in d P most text piece (verdicts.Invalid b) x [] f)
  tame_refused (next_read line more rest e f) = tame_in_line line more e (cause_in d P most text piece (verdicts.Invalid b) x (Ok line ∷ rest) f)

pub invalid_is_tame : InvalidIsTame
invalid_is_tame d p most text bytes lines w e r =
    let k = breach_in r.verdict r.outcome_is in
    let x : Refusal (pair d p) (expanded d p) most false text r.piece (verdicts.Invalid k.0) =
    subst (Refusal (pair d p) (expanded d p) most false text r.piece) k.1 (refusal_of d p most text _ bytes r) in
    record {
      groundable = r.groundable;
      within = w;
      lines = lines;
      read = e;
      tame = tame_refused (pair d p) (expanded d p) most text r.piece k.0 x lines (places lines x.before x.rest (plan_lines Timed text) e x.read);
    }
