-- A plan text is refused in one way.
use Rattle.std.proofs.Common.{◌≡◌, ℕ, Bool, true, false, List, [], ◌∷◌, ◌++◌, ap, sym, subst, ◌∙◌, inl, inr, append_assoc, append-nil}
use Rattle.std.specs.Prelude.{◌⊎◌, All, Result, Ok, Err}
use Rattle.plus_model.specs.Terms.{Problem}
use Rattle.plus_model.specs.Plan as model
use Rattle.plus_model.specs.Plan.{Plan, IsInOrder}
use Rattle.plus_model.specs.History.{Part}
use Rattle.plus_model.specs.Trajectory.{HasBegun, Prefix}
use Rattle.plus_model.specs.Laws.{Begins}
use Rattle.plus_number.specs.declared.frac.Frac64.{Frac64}
use Rattle.plus_state.specs.View.{Labels}
use Rattle.plus_plan.specs.declared.forms.Line.{Line}
use Rattle.plus_plan.specs.declared.faults.PlanFault.{PlanFault}
use Rattle.plus_report.specs.declared.verdicts.Verdict.{Verdict}
use Rattle.plus_stretch.specs.Tests.{Test}
use Rattle.plus_validator.specs.Plans.{Pair, line_meant, lines_meant, plan_of, Reading, reading_of, plan_in, HasValue}
use Rattle.plus_validator.specs.Asking.{instances_of, IsClear}
use Rattle.plus_validator.specs.Refused.{IsWaiting, AreWorked, IsTimeRefused, IsStopped, Cause, Refusal}
use Rattle.plus_validator.proofs.Telling.{tells_first}
use Rattle.plus_validator.proofs.TextStops.{lines_meant-more, begun_more}
use Rattle.plus_validator.proofs.Between.{PlaysOn, time_excluded, none_between}
use Rattle.plus_validator.proofs.OneAnswer.{same, left, right, parted, begins_both, SameVerdict, by_equal, fault_once, time_refused_once, stopped_once, ended_once, time_or_stopped}
use Rattle.plus_validator.proofs.Inside.{one_of}

clear_front : (P : Problem) (L : Plan) (most : ℕ) (instance : ℕ → List Test) (g h : List Part) → Begins g h → IsClear P L most instance h → IsClear P L most instance g
clear_front P L most instance g h b c = λ f part rest q e.
    c f part (rest ++ b.rest) q (b.is ∙ ap (λ x. x ++ b.rest) e ∙ append_assoc f (part ∷ rest) b.rest)

-- ---- how far a refusal plays

module _ (d : Pair) (P : Problem) (most : ℕ) (ls more : List Line) (closed : Bool) (h : List Part) (begun : HasBegun (plan_of d ls false)) (p : Prefix P (plan_of d (ls ++ more) closed) h) (c : IsClear P (plan_of d (ls ++ more) closed) most (instances_of d (ls ++ more)) h) where
  waits_on : (front : List Part) → Prefix P (plan_of d ls false) front → Begins front h → IsWaiting P (plan_of d ls false) most (instances_of d ls) front → PlaysOn d P most ls
  waits_on front q b (inl n) = absurd (elim begun [ inl s ↦ s n | inr t ↦ (let f : false ≡ true = t in cc f) ])
  waits_on front q b (inr k) = record {
    closed = false;
    front = front;
    prefix = q;
    done = k;
    more = more;
    closed' = closed;
    ordered = p.ordered;
    clear = clear_front P (plan_of d (ls ++ more) closed) most (instances_of d (ls ++ more)) front h b c;
  }

module _ (d : Pair) (P : Problem) (most : ℕ) (ls : List Line) (r : Reading) (h : List Part) (begun : HasBegun (plan_of d ls false)) (p : Prefix P (plan_in d r) h) (c : IsClear P (plan_in d r) most (instances_of d r.lines) h) where
  on_reading : (more : List Line) (closed : Bool) → r ≡ reading_of (ls ++ more) closed → (front : List Part) → Prefix P (plan_of d ls false) front → Begins front h → IsWaiting P (plan_of d ls false) most (instances_of d ls) front → PlaysOn d P most ls
  on_reading more closed e front q b w =
      waits_on d P most ls more closed h begun (subst (λ (x : Reading). Prefix P (plan_in d x) h) e p) (subst (λ (x : Reading). IsClear P (plan_in d x) most (instances_of d x.lines) h) e c) front q b w

  -- the lines before are waited for at its history
  waiting : r ≡ reading_of ls false → IsWaiting P (plan_of d ls false) most (instances_of d ls) h → PlaysOn d P most ls
  waiting e w =
      on_reading [] false (e ∙ ap (λ (xs : List Line). reading_of xs false) (sym (append-nil ls))) h
      (subst (λ (x : Reading). Prefix P (plan_in d x) h) e p) (record { rest = []; is = sym (append-nil h) }) w

  working : (more : List Line) (closed : Bool) → r ≡ reading_of (ls ++ more) closed → AreWorked d P most ls h → PlaysOn d P most ls
  working more closed e k = on_reading more closed e k.front k.prefix k.begins k.waits

  plays_on : (goes_on : Bool) (piece : List ℕ) (rest : List (Result Line PlanFault)) (v : Verdict Frac64) → Cause d P most goes_on piece ls rest r h v → PlaysOn d P most ls
  plays_on false piece [] v k = working [] true (k.reads ∙ ap (λ (xs : List Line). reading_of xs true) (sym (append-nil ls))) k.worked
  plays_on true piece [] v k = waiting k.reads k.waits
  plays_on goes_on piece (Err fault ∷ rest) v k = waiting k.reads k.waits
  plays_on goes_on piece (Ok line ∷ rest) v (inl k) = waiting k.reads k.waits
  plays_on goes_on piece (Ok line ∷ rest) v (inr k) = working (line ∷ []) false k.reads k.worked

some_meant : (xs : List model.Line) (m : model.Line) → xs ++ m ∷ [] ≡ [] → ⊥
some_meant [] m e = cc e
some_meant (x ∷ xs) m e = cc e

-- ---- one refusal does not stand before another

module _ (d : Pair) (P : Problem) (most : ℕ) (goes_on goes_on' : Bool) (whole piece whole' piece' : List ℕ) (v w : Verdict Frac64) (a : Refusal d P most goes_on whole piece v) (b : Refusal d P most goes_on' whole' piece' w) where
  module _ (line : Line) (more : List Line) (rest : List (Result Line PlanFault)) (e : b.before ≡ a.before ++ line ∷ more) where
    all_is : b.before ≡ (a.before ++ line ∷ []) ++ more
    all_is = e ∙ sym (append_assoc a.before (line ∷ []) more)

    further : HasBegun (plan_of d (a.before ++ line ∷ []) false) → PlaysOn d P most ((a.before ++ line ∷ []) ++ more)
    further begun =
        subst (PlaysOn d P most) all_is
        (plays_on d P most b.before b.reading b.history
        (subst (λ (xs : List Line). HasBegun (plan_of d xs false)) (sym all_is) (begun_more d (a.before ++ line ∷ []) more false begun))
        b.prefix b.clear goes_on' piece' b.rest w b.cause)

    apart_by : IsTimeRefused d P most a.before line a.reading a.history v ⊎ IsStopped d P most a.before line a.reading a.history v → ⊥
    apart_by (inl t) =
        let begun : HasBegun (plan_of d (a.before ++ line ∷ []) false) =
        inl (λ n. some_meant (lines_meant d a.before) t.meant (sym (lines_meant-more d a.before (line ∷ []) ∙ ap (λ ks. lines_meant d a.before ++ ks) (append-nil (line_meant d line) ∙ t.meant_is)) ∙ n)) in
        time_excluded d P a.before more line a.history t.meant t.time v t.meant_is t.time_is t.why
        (one_of HasValue a.before more line (subst (All HasValue) e b.times)) (further begun).prefix.ordered
    apart_by (inr s) =
        let k = tells_first (record { atoms = []; fluents = [] }) P (plan_of d (a.before ++ line ∷ []) false) most (instances_of d (a.before ++ line ∷ [])) a.history _ _ v s.stands s.names in
        none_between d P most (a.before ++ line ∷ []) more (further s.begun) a.history k.test
        (subst (λ (x : Reading). Prefix P (plan_in d x) a.history) s.reads a.prefix) s.begun k.fails

    pub apart : a.rest ≡ Ok line ∷ rest → ⊥
    apart f = apart_by (subst (λ (xs : List (Result Line PlanFault)). Cause d P most goes_on piece a.before xs a.reading a.history v) f a.cause)

-- ---- two refusals at one place

module _ (N : Labels) (d : Pair) (P : Problem) (most : ℕ) (goes_on : Bool) (piece : List ℕ) (before : List Line) (v w : Verdict Frac64) where
  in_order : (line : Line) (r : Reading) (h : List Part) (x : Verdict Frac64) → Prefix P (plan_in d r) h → IsStopped d P most before line r h x → IsInOrder (lines_meant d (before ++ line ∷ []))
  in_order line r h x p s = (subst (λ (y : Reading). Prefix P (plan_in d y) h) s.reads p).ordered

  -- they read the same lines
  one_reading : (more : Bool) (rest : List (Result Line PlanFault)) (r s : Reading) (h g : List Part) → Prefix P (plan_in d r) h → Prefix P (plan_in d s) g → Cause d P most more piece before rest r h v → Cause d P most more piece before rest s g w → r ≡ s
  one_reading false [] r s h g p q a b = a.reads ∙ sym b.reads
  one_reading true [] r s h g p q a b = a.reads ∙ sym b.reads
  one_reading more (Err fault ∷ rest) r s h g p q a b = a.reads ∙ sym b.reads
  one_reading more (Ok line ∷ rest) r s h g p q (inl a) (inl b) = a.reads ∙ sym b.reads
  one_reading more (Ok line ∷ rest) r s h g p q (inl a) (inr b) = absurd (time_or_stopped d P most before line r s h g v w a b (in_order line s g w q b))
  one_reading more (Ok line ∷ rest) r s h g p q (inr a) (inl b) = absurd (time_or_stopped d P most before line s r g h w v b a (in_order line r h v p a))
  one_reading more (Ok line ∷ rest) r s h g p q (inr a) (inr b) = a.reads ∙ sym b.reads

  -- and tell the same
  one_telling : (more : Bool) (rest : List (Result Line PlanFault)) (r : Reading) (h : List Part) → Prefix P (plan_in d r) h → Cause d P most more piece before rest r h v → Cause d P most more piece before rest r h w → SameVerdict N P v w
  one_telling false [] r h p a b = ended_once N d P most before h v w r a b
  one_telling true [] r h p a b = by_equal N P v w (a.is ∙ sym b.is)
  one_telling more (Err fault ∷ rest) r h p a b = by_equal N P v w (fault_once fault v w a.names b.names)
  one_telling more (Ok line ∷ rest) r h p (inl a) (inl b) = by_equal N P v w (time_refused_once N d P most before h v w line r a b)
  one_telling more (Ok line ∷ rest) r h p (inl a) (inr b) = absurd (time_or_stopped d P most before line r r h h v w a b (in_order line r h w p b))
  one_telling more (Ok line ∷ rest) r h p (inr a) (inl b) = absurd (time_or_stopped d P most before line r r h h w v b a (in_order line r h v p a))
  one_telling more (Ok line ∷ rest) r h p (inr a) (inr b) = stopped_once N d P most before h v w line r a b

-- the same lines, the same history, and the same verdict line
pub record SameRefusal (N : Labels) (d : Pair) (P : Problem) (v w : Verdict Frac64) (r s : Reading) (h g : List Part) : Type 0 where
  pub reading : r ≡ s
  pub history : h ≡ g
  pub verdict : SameVerdict N P v w

module _ (N : Labels) (d : Pair) (P : Problem) (most : ℕ) (goes_on : Bool) (whole piece : List ℕ) (v w : Verdict Frac64) where
  together : (x : Refusal d P most goes_on whole piece v) (y : Refusal d P most goes_on whole piece w) → x.before ≡ y.before → x.rest ≡ y.rest → SameRefusal N d P v w x.reading y.reading x.history y.history
  together x y e f =
      let cause : Cause d P most goes_on piece x.before x.rest y.reading y.history w =
      subst (λ (ls : List Line). Cause d P most goes_on piece ls x.rest y.reading y.history w) (sym e)
      (subst (λ (rs : List (Result Line PlanFault)). Cause d P most goes_on piece y.before rs y.reading y.history w) (sym f) y.cause) in
      let r : x.reading ≡ y.reading = one_reading N d P most goes_on piece x.before v w goes_on x.rest x.reading y.reading x.history y.history x.prefix y.prefix x.cause cause in
      let h : x.history ≡ y.history = begins_both x.history y.history
      (y.furthest x.history (subst (λ (z : Reading). Prefix P (plan_in d z) x.history) r x.prefix) (subst (λ (z : Reading). IsClear P (plan_in d z) most (instances_of d z.lines) x.history) r x.clear))
      (x.furthest y.history (subst (λ (z : Reading). Prefix P (plan_in d z) y.history) (sym r) y.prefix) (subst (λ (z : Reading). IsClear P (plan_in d z) most (instances_of d z.lines) y.history) (sym r) y.clear)) in
      record {
        reading = r;
        history = h;
        verdict = one_telling N d P most goes_on piece x.before v w goes_on x.rest x.reading x.history x.prefix x.cause
            (subst (λ (z : Reading). Cause d P most goes_on piece x.before x.rest z x.history w) (sym r)
            (subst (λ (g : List Part). Cause d P most goes_on piece x.before x.rest y.reading g w) (sym h) cause));
      }

-- two refusals of one text are the same
pub one_refusal : (N : Labels) (d : Pair) (P : Problem) (most : ℕ) (goes_on : Bool) (whole piece : List ℕ) (v w : Verdict Frac64) (x : Refusal d P most goes_on whole piece v) (y : Refusal d P most goes_on whole piece w) → SameRefusal N d P v w x.reading y.reading x.history y.history
one_refusal N d P most goes_on whole piece v w x y =
    elim (parted x.before y.before x.rest y.rest (sym x.read ∙ y.read)) [
      | same e f ↦ together N d P most goes_on whole piece v w x y e f
      | left line more rest e f ↦ absurd (apart d P most goes_on goes_on whole piece whole piece v w x y line more rest e f)
      | right line more rest e f ↦ absurd (apart d P most goes_on goes_on whole piece whole piece w v y x line more rest e f)
    ]

-- a plan that plays on behind a line is not refused in it
pub passed_by : (d : Pair) (P : Problem) (most : ℕ) (goes_on : Bool) (whole piece : List ℕ) (v : Verdict Frac64) (a : Refusal d P most goes_on whole piece v) (line : Line) (more : List Line) (rest : List (Result Line PlanFault)) → PlaysOn d P most ((a.before ++ line ∷ []) ++ more) → HasValue line → a.rest ≡ Ok line ∷ rest → ⊥
passed_by d P most goes_on whole piece v a line more rest k w e =
    elim (let c : Cause d P most goes_on piece a.before (Ok line ∷ rest) a.reading a.history v = subst (λ (xs : List (Result Line PlanFault)). Cause d P most goes_on piece a.before xs a.reading a.history v) e a.cause in c) [
      | inl t ↦ time_excluded d P a.before more line a.history t.meant t.time v t.meant_is t.time_is t.why w k.prefix.ordered
      | inr s ↦ (let f = tells_first (record { atoms = []; fluents = [] }) P (plan_of d (a.before ++ line ∷ []) false) most (instances_of d (a.before ++ line ∷ [])) a.history _ _ v s.stands s.names in
          none_between d P most (a.before ++ line ∷ []) more k a.history f.test (subst (λ (x : Reading). Prefix P (plan_in d x) a.history) s.reads a.prefix) s.begun f.fails)
    ]
