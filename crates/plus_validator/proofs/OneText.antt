-- The bytes of a plan text have one answer.
use Rattle.std.proofs.Common.{◌≡◌, ℕ, Bool, true, false, List, [], ◌∷◌, ◌++◌, refl, ap, sym, subst, ◌∙◌, inl, inr, append-nil, append_assoc, arith}
use Rattle.std.specs.Prelude.{◌≢◌, ◌⊎◌, All, Result, Ok, Err, map, codes}
use Rattle.std.proofs.lemmas.List.Elements.{All-nil, All-cons, All-head, All-tail}
use Rattle.plus_model.specs.Terms as terms
use Rattle.plus_model.specs.Plan.{IsInOrder}
use Rattle.plus_model.specs.History.{Part}
use Rattle.plus_model.specs.Trajectory.{Prefix, Trajectory}
use Rattle.plus_model.specs.Laws.{Begins}
use Rattle.plus_model.proofs.Longest.{worked_is_longest}
use Rattle.plus_number.specs.declared.frac.Frac64.{Frac64}
use Rattle.plus_number.specs.Frac.{fraction_of}
use Rattle.plus_tree.specs.declared.trees.Domain.{Domain}
use Rattle.plus_tree.specs.declared.trees.Problem.{Problem}
use Rattle.plus_plan.specs.declared.forms.Line.{Line}
use Rattle.plus_plan.specs.declared.faults.PlanFault.{PlanFault}
use Rattle.plus_expansion.specs.Expansion.{expanded, labels_meant}
use Rattle.plus_report.specs.Report.{report_of}
use Rattle.plus_report.specs.Verdicts.{verdict_text}
use Rattle.plus_report.specs.declared.verdicts.Verdict.{Verdict}
use Rattle.plus_validator.specs.declared.judge.Outcome.{Outcome}
use Rattle.plus_validator.specs.declared.judge.Outcome.TheVariants as outcomes
use Rattle.plus_validator.specs.Outcomes.{outcome_of}
use Rattle.plus_validator.specs.Plans.{Pair, pair, plan_of, Reading, plan_in, lines_meant, HasValue}
use Rattle.plus_validator.specs.Refused.{Cause, Refusal, IsCut, WholeLines, IsRefused, IsStoppedAtEnd}
use Rattle.plus_validator.proofs.OneRefusal.{one_refusal, passed_by}
use Rattle.plus_validator.specs.Accepted.{IsAccepted}
use Rattle.plus_timeline.specs.Played.{entries_of, asked_at}
use Rattle.plus_validator.specs.Asking.{firings_of, IsClear, NoneFails, instances_of}
use Rattle.plus_validator.proofs.Between.{PlaysOn}
use Rattle.plus_validator.proofs.OneAnswer.{begins_both, Parted, left, parted, right, same}
use Rattle.plus_validator.proofs.LineStops.{names_line}
use Rattle.plus_validator.proofs.Asking.{none_fails}
use Rattle.plus_validator.proofs.Telling.{tells_first}
use Rattle.plus_validator.specs.Validates.{IsRead, IsRefusedIn, IsWhole}
use Rattle.plus_validator.specs.Laws.{OneAnswer}
use Rattle.plus_validator.proofs.Inside.{one_of}

-- ---- one cut

none_left : (w m : List ℕ) → w ++ m ≡ [] → m ≡ []
none_left [] m e = e
none_left (x ∷ w) m e = cc e

-- an LF at the end stands in what is added
last_in : (w m front : List ℕ) → (m ≡ [] → ⊥) → w ++ m ≡ front ++ 10 ∷ [] → All (λ (b : ℕ). b ≢ 10) m → ⊥
last_in [] m front n e a = one_of (λ (b : ℕ). b ≢ 10) front [] 10 (subst (All (λ (b : ℕ). b ≢ 10)) e a) refl
last_in (x ∷ w) m [] n e a = n (none_left w m (let f : x ∷ (w ++ m) ≡ 10 ∷ [] = e in cc f))
last_in (x ∷ w) m (y ∷ front) n e a = last_in w m front n (let f : x ∷ (w ++ m) ≡ y ∷ (front ++ 10 ∷ []) = e in cc f) a

all_left : (m p : List ℕ) → All (λ (b : ℕ). b ≢ 10) (m ++ p) → All (λ (b : ℕ). b ≢ 10) m
all_left [] p a = All-nil (λ (b : ℕ). b ≢ 10)
all_left (x ∷ m) p a = All-cons (λ (b : ℕ). b ≢ 10) x m (All-head (λ (b : ℕ). b ≢ 10) x (m ++ p) a) (all_left m p (All-tail (λ (b : ℕ). b ≢ 10) x (m ++ p) a))

-- one of two pieces in front begins the other
pub data Cuts (w p w' p' : List ℕ) : Type 0 where
  shorter : (m : List ℕ) → w' ≡ w ++ m → p ≡ m ++ p' → Cuts w p w' p'
  longer : (m : List ℕ) → w ≡ w' ++ m → p' ≡ m ++ p → Cuts w p w' p'

cuts : (w p w' p' : List ℕ) → w ++ p ≡ w' ++ p' → Cuts w p w' p'
cuts [] p w' p' e = shorter w' refl e
cuts (x ∷ w) p [] p' e = longer (x ∷ w) refl (sym e)
cuts (x ∷ w) p (y ∷ w') p' e =
    let f : x ∷ (w ++ p) ≡ y ∷ (w' ++ p') = e in
    let head : x ≡ y = cc f in
    elim (cuts w p w' p' (let g : w ++ p ≡ w' ++ p' = cc f in g)) [
      | shorter m i k ↦ shorter m (ap (λ zs. y ∷ zs) i ∙ ap (λ z. z ∷ (w ++ m)) (sym head)) k
      | longer m i k ↦ longer m (ap (λ zs. x ∷ zs) i ∙ ap (λ z. z ∷ (w' ++ m)) head) k
    ]

nothing_more : (w w' m p' : List ℕ) → w' ≡ w ++ m → (w' ≡ []) ⊎ (front : List ℕ) × (w' ≡ front ++ 10 ∷ []) → All (λ (b : ℕ). b ≢ 10) (m ++ p') → m ≡ []
nothing_more w w' [] p' e s a = refl
nothing_more w w' (x ∷ m) p' e (inl n) a = none_left w (x ∷ m) (sym e ∙ n)
nothing_more w w' (x ∷ m) p' e (inr f) a = absurd (last_in w (x ∷ m) f.0 (λ n. cc n) (sym e ∙ f.1) (all_left (x ∷ m) p' a))

pub record OneCut (w p w' p' : List ℕ) : Type 0 where
  pub whole : w ≡ w'
  pub piece : p ≡ p'

one_cut : (text w p w' p' : List ℕ) → IsCut text w p → IsCut text w' p' → OneCut w p w' p'
one_cut text w p w' p' a b = elim (cuts w p w' p' (sym a.is ∙ b.is)) [
  | shorter m i k ↦ (let n : m ≡ [] = nothing_more w w' m p' i b.at_line (subst (All (λ (b : ℕ). b ≢ 10)) k a.in_one_line) in
      record { whole = sym (i ∙ ap (λ x. w ++ x) n ∙ append-nil w); piece = k ∙ ap (λ x. x ++ p') n })
  | longer m i k ↦ (let n : m ≡ [] = nothing_more w' w m p i a.at_line (subst (All (λ (b : ℕ). b ≢ 10)) k b.in_one_line) in
      record { whole = i ∙ ap (λ x. w' ++ x) n ∙ append-nil w'; piece = sym (k ∙ ap (λ x. x ++ p) n) })
]

-- ---- two refusals of one text

-- a text that is read to its end has no piece
any_piece : (d : Pair) (P : terms.Problem) (most : ℕ) (before : List Line) (rest : List (Result Line PlanFault)) (p q : List ℕ) (r : Reading) (h : List Part) (v : Verdict Frac64) → Cause d P most false p before rest r h v → Cause d P most false q before rest r h v
any_piece d P most before [] p q r h v c = c
any_piece d P most before (Err fault ∷ rest) p q r h v c = c
any_piece d P most before (Ok line ∷ rest) p q r h v c = c

with_piece : (d : Pair) (P : terms.Problem) (most : ℕ) (whole p q : List ℕ) (v : Verdict Frac64) → Refusal d P most false whole p v → Refusal d P most false whole q v
with_piece d P most whole p q v x = record {
  before = x.before;
  rest = x.rest;
  read = x.read;
  times = x.times;
  reading = x.reading;
  history = x.history;
  prefix = x.prefix;
  few = x.few;
  clear = x.clear;
  cause = any_piece d P most x.before x.rest p q x.reading x.history v x.cause;
  furthest = x.furthest;
  longest = x.longest;
  final = x.final;
}

-- what is told of a text: its report with the verdict's line, that line, and how much happens
pub record Telling : Type 0 where
  pub written : List ℕ
  pub line : List ℕ
  pub entries : ℕ
  pub firings : ℕ

-- one outcome, and one telling
pub record SameAnswer (one other : Outcome) (t u : Telling) : Type 0 where
  pub outcome : one ≡ other
  pub telling : t ≡ u

module _ (d : Domain) (p : Problem) (most : ℕ) where
  -- with this line of the verdict
  abbrev with_line : (r : Reading) (h : List Part) (line : List ℕ) → Telling
  with_line r h line =
      record {
        written = report_of (labels_meant d p) (expanded d p) (plan_in (pair d p) r) h ++ line;
        line = line;
        entries = entries_of h;
        firings = firings_of h;
      }

  abbrev pub told_by : (r : Reading) (h : List Part) (v : Verdict Frac64) → Telling
  told_by r h v = with_line r h (verdict_text fraction_of (labels_meant d p) (expanded d p) v)

  same_refusals : (goes_on : Bool) (whole piece : List ℕ) (v w : Verdict Frac64) (x : Refusal (pair d p) (expanded d p) most goes_on whole piece v) (y : Refusal (pair d p) (expanded d p) most goes_on whole piece w) → SameAnswer (outcome_of v) (outcome_of w) (told_by x.reading x.history v) (told_by y.reading y.history w)
  same_refusals goes_on whole piece v w x y =
      let s = one_refusal (labels_meant d p) (pair d p) (expanded d p) most goes_on whole piece v w x y in
      record {
        outcome = s.verdict.outcome;
        telling = ap (λ (r : Reading). told_by r x.history v) s.reading ∙ ap (λ (h : List Part). told_by y.reading h v) s.history
            ∙ ap (with_line y.reading y.history) s.verdict.text;
      }

  -- with what is read to its end in any pieces, and what is cut in the same
  same_whole : (whole whole' piece piece' : List ℕ) (v w : Verdict Frac64) → whole ≡ whole' → (x : Refusal (pair d p) (expanded d p) most false whole piece v) (y : Refusal (pair d p) (expanded d p) most false whole' piece' w) → SameAnswer (outcome_of v) (outcome_of w) (told_by x.reading x.history v) (told_by y.reading y.history w)
  unfolding with_piece
  same_whole whole whole' piece piece' v w e x =
      subst (λ (k : List ℕ). (y : Refusal (pair d p) (expanded d p) most false k piece' w) → SameAnswer (outcome_of v) (outcome_of w) (told_by x.reading x.history v) (told_by y.reading y.history w)) e
      (λ y. same_refusals false whole piece v w x (with_piece (pair d p) (expanded d p) most whole piece' piece w y))

  same_cut : (whole whole' piece piece' : List ℕ) (v w : Verdict Frac64) → whole ≡ whole' → piece ≡ piece' → (x : Refusal (pair d p) (expanded d p) most true whole piece v) (y : Refusal (pair d p) (expanded d p) most true whole' piece' w) → SameAnswer (outcome_of v) (outcome_of w) (told_by x.reading x.history v) (told_by y.reading y.history w)
  same_cut whole whole' piece piece' v w e f x =
      subst (λ (k : List ℕ). (y : Refusal (pair d p) (expanded d p) most true k piece' w) → SameAnswer (outcome_of v) (outcome_of w) (told_by x.reading x.history v) (told_by y.reading y.history w)) e
      (subst (λ (q : List ℕ). (y : Refusal (pair d p) (expanded d p) most true whole q w) → SameAnswer (outcome_of v) (outcome_of w) (told_by x.reading x.history v) (told_by y.reading y.history w)) f
      (λ y. same_refusals true whole piece v w x y))

  same_told : (goes_on : Bool) (text whole whole' piece piece' : List ℕ) (v w : Verdict Frac64) → WholeLines goes_on text whole piece → WholeLines goes_on text whole' piece' → (x : Refusal (pair d p) (expanded d p) most goes_on whole piece v) (y : Refusal (pair d p) (expanded d p) most goes_on whole' piece' w) → SameAnswer (outcome_of v) (outcome_of w) (told_by x.reading x.history v) (told_by y.reading y.history w)
  same_told false text whole whole' piece piece' v w a b x y = same_whole whole whole' piece piece' v w (a ∙ sym b) x y
  same_told true text whole whole' piece piece' v w a b x y =
      let k = one_cut text whole piece whole' piece' a b in
      same_cut whole whole' piece piece' v w k.whole k.piece x y

  pub refusals_once : (goes_on : Bool) (text : List ℕ) (one other : Outcome) (bytes bytes' : List ℕ) (a : IsRefused d p most text goes_on one bytes) (b : IsRefused d p most text goes_on other bytes') → SameAnswer (outcome_of a.verdict) (outcome_of b.verdict) (told_by a.refusal.reading a.refusal.history a.verdict) (told_by b.refusal.reading b.refusal.history b.verdict)
  refusals_once goes_on text one other bytes bytes' a b =
      same_told goes_on text a.whole b.whole a.piece b.piece a.verdict b.verdict a.cut b.cut a.refusal b.refusal

  refused_once : (goes_on : Bool) (text : List ℕ) (one other : Outcome) (bytes bytes' : List ℕ) → IsRefused d p most text goes_on one bytes → IsRefused d p most text goes_on other bytes' → (one ≡ other) × (bytes ≡ bytes')
  refused_once goes_on text one other bytes bytes' a b =
      let s = refusals_once goes_on text one other bytes bytes' a b in
      (a.outcome_is ∙ s.outcome ∙ sym b.outcome_is, a.written ∙ ap (λ (t : Telling). t.written) s.telling ∙ sym b.written)

-- ---- an accepted text is not refused

lines_once : (xs ys : List Line) → map (λ (x : Line). let r : Result Line PlanFault = Ok x in r) xs ≡ map (λ (x : Line). let r : Result Line PlanFault = Ok x in r) ys → xs ≡ ys
lines_once [] [] e = refl
lines_once [] (y ∷ ys) e = cc e
lines_once (x ∷ xs) [] e = cc e
lines_once (x ∷ xs) (y ∷ ys) e =
    let f : Ok x ∷ map (λ (x : Line). let r : Result Line PlanFault = Ok x in r) xs ≡ Ok y ∷ map (λ (x : Line). let r : Result Line PlanFault = Ok x in r) ys = e in
    let head : x ≡ y = cc f in
    ap (λ z. z ∷ xs) head ∙ ap (λ zs. y ∷ zs) (lines_once xs ys (let g : map (λ (x : Line). let r : Result Line PlanFault = Ok x in r) xs ≡ map (λ (x : Line). let r : Result Line PlanFault = Ok x in r) ys = cc f in g))

module _ (d : Domain) (p : Problem) (most : ℕ) where
  abbrev accepted_text : List Line → List Part → List ℕ
  accepted_text ls h = report_of (labels_meant d p) (expanded d p) (plan_of (pair d p) ls true) h ++ codes "valid\n"

  -- one history
  pub history_once : (text bytes bytes' : List ℕ) (a : IsAccepted d p most text bytes) (b : IsAccepted d p most text bytes') → a.history ≡ b.history
  history_once text bytes bytes' a b =
      let e : a.lines ≡ b.lines = lines_once a.lines b.lines (sym a.read ∙ b.read) in
      sym (a.only b.history (subst (λ (ls : List Line). Trajectory (expanded d p) (plan_of (pair d p) ls true) b.history) (sym e) b.happens))

  pub accepted_once : (text bytes bytes' : List ℕ) → IsAccepted d p most text bytes → IsAccepted d p most text bytes' → bytes ≡ bytes'
  accepted_once text bytes bytes' a b =
      let e : a.lines ≡ b.lines = lines_once a.lines b.lines (sym a.read ∙ b.read) in
      a.written ∙ ap (accepted_text a.lines) (history_once text bytes bytes' a b) ∙ ap (λ (ls : List Line). accepted_text ls b.history) e ∙ sym b.written

  -- what an accepted plan plays
  plays : (text bytes : List ℕ) (a : IsAccepted d p most text bytes) → PlaysOn (pair d p) (expanded d p) most a.lines
  plays text bytes a = record {
    closed = true;
    front = a.history;
    prefix = a.happens.prefix;
    done = record { worked = a.happens.worked; passed = a.passed };
    more = [];
    closed' = true;
    ordered = subst (λ (ls : List Line). IsInOrder (lines_meant (pair d p) ls)) (sym (append-nil a.lines)) a.happens.prefix.ordered;
    clear = subst (λ (ls : List Line). IsClear (expanded d p) (plan_of (pair d p) ls true) most (instances_of (pair d p) ls) a.history) (sym (append-nil a.lines)) a.clear;
  }

  -- all its lines are read, and then it is not stopped at the end
  not_at_end : (text bytes : List ℕ) (a : IsAccepted d p most text bytes) (piece : List ℕ) (v : Verdict Frac64) (x : Refusal (pair d p) (expanded d p) most false text piece v) → IsStoppedAtEnd (pair d p) (expanded d p) most a.lines x.reading x.history v → ⊥
  not_at_end text bytes a piece v x s =
      let L = plan_of (pair d p) a.lines true in
      let i = instances_of (pair d p) a.lines in
      let q : Prefix (expanded d p) L x.history = subst (λ (r : Reading). Prefix (expanded d p) (plan_in (pair d p) r) x.history) s.reads x.prefix in
      let front : Begins x.history a.history = (worked_is_longest (expanded d p) L a.history a.happens.prefix a.happens.worked).longest x.history q in
      let back : Begins a.history x.history = x.furthest a.history
      (subst (λ (r : Reading). Prefix (expanded d p) (plan_in (pair d p) r) a.history) (sym s.reads) a.happens.prefix)
      (subst (λ (r : Reading). IsClear (expanded d p) (plan_in (pair d p) r) most (instances_of (pair d p) r.lines) a.history) (sym s.reads) a.clear) in
      let here : a.history ≡ x.history = begins_both a.history x.history back front in
      let k = tells_first (labels_meant d p) (expanded d p) L most i x.history 0 [] v s.stands (names_line 0 [] v s.names) in
      none_fails (asked_at (expanded d p) L most i x.history) k.test (subst (NoneFails (expanded d p) L most i) here a.passed) k.fails

  -- nor is it refused
  not_refused : (text bytes : List ℕ) (a : IsAccepted d p most text bytes) (piece : List ℕ) (v : Verdict Frac64) (x : Refusal (pair d p) (expanded d p) most false text piece v) → Parted a.lines x.before [] x.rest → ⊥
  not_refused text bytes a piece v x (same e f) =
      not_at_end text bytes a piece v x
      (subst (λ (ls : List Line). IsStoppedAtEnd (pair d p) (expanded d p) most ls x.reading x.history v) (sym e)
      (subst (λ (rs : List (Result Line PlanFault)). Cause (pair d p) (expanded d p) most false piece x.before rs x.reading x.history v) (sym f) x.cause))
  not_refused text bytes a piece v x (left line more rest e f) = cc f
  not_refused text bytes a piece v x (right line more rest e f) =
      passed_by (pair d p) (expanded d p) most false text piece v x line more rest
      (subst (PlaysOn (pair d p) (expanded d p) most) (e ∙ sym (append_assoc x.before (line ∷ []) more)) (plays text bytes a))
      (one_of HasValue x.before more line (subst (All HasValue) e a.times)) f

  pub one_end : (text bytes : List ℕ) (one : Outcome) (bytes' : List ℕ) → IsAccepted d p most text bytes → IsRefused d p most text false one bytes' → ⊥
  one_end text bytes one bytes' a b =
      let x : Refusal (pair d p) (expanded d p) most false text b.piece b.verdict = subst (λ (w : List ℕ). Refusal (pair d p) (expanded d p) most false w b.piece b.verdict) b.cut b.refusal in
      not_refused text bytes a b.piece b.verdict x (parted a.lines x.before [] x.rest (append-nil _ ∙ sym a.read ∙ x.read))

  -- ---- the bytes that are read

  pub read_once : (bytes text text' : List ℕ) (goes_on goes_on' : Bool) → IsRead bytes text goes_on → IsRead bytes text' goes_on' → (text ≡ text') × (goes_on ≡ goes_on')
  read_once bytes text text' false false a b = (a.0 ∙ sym b.0, refl)
  read_once bytes text text' true true a b = (a.0 ∙ sym b.0, refl)
  read_once bytes text text' false true a b = absurd (let k = a.1 in let l = b.1 in omega arith)
  read_once bytes text text' true false a b = absurd (let k = a.1 in let l = b.1 in omega arith)

  -- an accepted text is within its limit, and so is read whole
  pub accepted_whole : (bytes text written : List ℕ) (goes_on : Bool) → IsAccepted d p most bytes written → IsRead bytes text goes_on → (text ≡ bytes) × (goes_on ≡ false)
  accepted_whole bytes text written false a r = (r.0, refl)
  accepted_whole bytes text written true a r = absurd (let k = a.within in let l = r.1 in omega arith)

  accepted_or_refused : (bytes written written' : List ℕ) (one : Outcome) → IsAccepted d p most bytes written → IsRefusedIn d p most bytes one written' → ⊥
  accepted_or_refused bytes written written' one a r =
      let k = accepted_whole bytes r.text written r.goes_on a r.read in
      one_end bytes written one written' a
      (subst (λ (g : Bool). IsRefused d p most bytes g one written') k.1 (subst (λ (t : List ℕ). IsRefused d p most t r.goes_on one written') k.0 r.refused))

  refused_in_once : (bytes written written' : List ℕ) (one other : Outcome) → IsRefusedIn d p most bytes one written → IsRefusedIn d p most bytes other written' → (one ≡ other) × (written ≡ written')
  refused_in_once bytes written written' one other a b =
      let k = read_once bytes a.text b.text a.goes_on b.goes_on a.read b.read in
      refused_once d p most b.goes_on b.text one other written written'
      (subst (λ (g : Bool). IsRefused d p most b.text g one written) k.1 (subst (λ (t : List ℕ). IsRefused d p most t a.goes_on one written) k.0 a.refused)) b.refused

  -- ---- all answers

  -- accepted, or refused with this outcome
  data Answered (bytes : List ℕ) (o : Outcome) (written : List ℕ) : Type 0 where
    is_accepted : o ≡ outcomes.Valid → IsAccepted d p most bytes written → Answered bytes o written
    is_refused : IsRefusedIn d p most bytes o written → Answered bytes o written

  answered : (bytes : List ℕ) (o : Outcome) (written : List ℕ) → IsWhole d p most bytes o written → Answered bytes o written
  answered bytes outcomes.Valid written a = is_accepted refl a
  answered bytes outcomes.Invalid written a = is_refused a
  answered bytes outcomes.Beyond written a = is_refused a
  answered bytes outcomes.BadText written a = is_refused a
  answered bytes outcomes.ReadFault written a = absurd a
  answered bytes outcomes.WriteFault written a = absurd a
  answered bytes outcomes.NoMemory written a = absurd a

  once : (bytes : List ℕ) (one other : Outcome) (text text' : List ℕ) → Answered bytes one text → Answered bytes other text' → (one ≡ other) × (text ≡ text')
  once bytes one other text text' (is_accepted e a) (is_accepted f b) = (e ∙ sym f, accepted_once bytes text text' a b)
  once bytes one other text text' (is_accepted e a) (is_refused b) = absurd (accepted_or_refused bytes text text' other a b)
  once bytes one other text text' (is_refused a) (is_accepted f b) = absurd (accepted_or_refused bytes text' text one b a)
  once bytes one other text text' (is_refused a) (is_refused b) = refused_in_once bytes text text' one other a b

pub one_answer : OneAnswer
one_answer d p most bytes one other text text' a b = once d p most bytes one other text text' (answered d p most bytes one text a) (answered d p most bytes other text' b)
