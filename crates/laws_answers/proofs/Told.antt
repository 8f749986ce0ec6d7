-- What first lines of a plan text tell begins the report that the text has.
use Rattle.std.proofs.Common.{◌≡◌, ℕ, ◌≤◌, Bool, true, false, List, [], ◌∷◌, ◌++◌, refl, ap, sym, subst, ◌∙◌, inl, inr, append-nil, append_assoc, arith, length}
use Rattle.std.specs.Prelude.{◌⊎◌, All, Result, Ok, Err, codes}
use Rattle.plus_io.specs.Files.{IsPrefix}
use Rattle.plus_model.specs.Terms.{Problem}
use Rattle.plus_model.specs.Plan as model
use Rattle.plus_model.specs.Plan.{Plan, IsInOrder}
use Rattle.plus_model.specs.History.{Part}
use Rattle.plus_model.specs.Trajectory.{HasBegun, Prefix}
use Rattle.plus_model.specs.Laws.{Begins}
use Rattle.plus_model.proofs.Later.{prefix_goes_on}
use Rattle.plus_model.proofs.Longest.{worked_is_longest}
use Rattle.plus_number.specs.declared.frac.Frac64.{Frac64}
use Rattle.plus_number.specs.Frac.{fraction_of}
use Rattle.plus_state.specs.View.{Labels}
use Rattle.plus_tree.specs.declared.trees.Domain.{Domain}
use Rattle.plus_tree.specs.declared.trees.Problem as tree
use Rattle.plus_plan.specs.declared.forms.Line.{Line}
use Rattle.plus_plan.specs.declared.forms.PlanForm.TheVariants.{Timed}
use Rattle.plus_plan.specs.declared.faults.PlanFault.{PlanFault}
use Rattle.plus_plan.specs.Lines.{plan_lines}
use Rattle.plus_expansion.specs.Expansion.{expanded, labels_meant}
use Rattle.plus_report.specs.Report.{report_of}
use Rattle.plus_report.specs.Verdicts.{verdict_text}
use Rattle.plus_report.specs.declared.verdicts.Verdict.{Verdict}
use Rattle.plus_report.proofs.ReportLemmas.{report_of-grown}
use Rattle.plus_validator.specs.declared.judge.Outcome.{Outcome}
use Rattle.plus_validator.specs.declared.judge.Outcome.TheVariants as outcomes
use Rattle.plus_validator.specs.Accepted.{IsAccepted}
use Rattle.plus_validator.specs.Asking.{instances_of, IsClear}
use Rattle.plus_validator.specs.Leaving.{IsToldOnWay}
use Rattle.plus_validator.specs.Plans.{Pair, pair, lines_meant, plan_of, Reading, reading_of, plan_in, HasValue}
use Rattle.plus_validator.specs.Refused.{IsWaiting, IsTimeRefused, IsStopped, Cause, Refusal, WholeLines, IsRefused}
use Rattle.plus_validator.specs.Validates.{IsRefusedIn, IsWhole}
use Rattle.plus_validator.proofs.Between.{PlaysOn, time_excluded}
use Rattle.plus_validator.proofs.CalledTests.{instances_agree}
use Rattle.plus_validator.proofs.Clear.{clear_grows}
use Rattle.plus_validator.proofs.Inside.{one_of}
use Rattle.plus_validator.proofs.OneAnswer.{Parted, same, left, right, parted}
use Rattle.plus_validator.proofs.OneRefusal.{passed_by}
use Rattle.plus_validator.proofs.OneText.{read_once, accepted_whole}
use Rattle.plus_validator.proofs.TextStops.{lines_meant-more, goes_on, begun_more, unbegun_is}
use Rattle.plus_validator.specs.Told.{report_more}
use Rattle.laws_answers.specs.Beginnings.{ToldOnWayBegins}
use Rattle.laws_answers.proofs.Cuts.{one_whole}

-- ---- how far a text plays

-- the lines that are played of a text, and the longest history of theirs before which all passes; what is written begins with its report
record Far (N : Labels) (d : Pair) (P : Problem) (most : ℕ) (reading : Reading) (written : List ℕ) : Type 0 where
  history : List Part
  prefix : Prefix P (plan_in d reading) history
  furthest :
      (other : List Part) → Prefix P (plan_in d reading) other → IsClear P (plan_in d reading) most (instances_of d reading.lines) other
      → Begins other history
  tail : List ℕ
  is : written ≡ report_of N P (plan_in d reading) history ++ tail

module _ (N : Labels) (d : Pair) (P : Problem) (most : ℕ) (written : List ℕ) where
  -- a history of the same lines
  begins_same : (r : Reading) (far : Far N d P most r written) (h : List Part) → Prefix P (plan_in d r) h → IsClear P (plan_in d r) most (instances_of d r.lines) h → IsPrefix (report_of N P (plan_in d r) h) written
  begins_same r far h p c =
      let L = plan_in d r in
      let b = far.furthest h p c in
      let k = report_more N P L h b.rest in
      (k.0 ++ far.tail, far.is ∙ ap (λ z. z ++ far.tail) (ap (report_of N P L) b.is ∙ k.1) ∙ append_assoc (report_of N P L h) k.0 far.tail)

  -- a history of some first lines
  module _ (ls more : List Line) (closed : Bool) (far : Far N d P most (reading_of (ls ++ more) closed) written) (h : List Part) (p : Prefix P (plan_of d ls false) h) (c : IsClear P (plan_of d ls false) most (instances_of d ls) h) where
    abbrev all : Plan
    all = plan_of d (ls ++ more) closed

    unbegun : (HasBegun (plan_of d ls false) → ⊥) → Begins h far.history
    unbegun n = record {
      rest = far.prefix.rest;
      is = far.prefix.begins ∙ ap (λ (g : List Part). g ++ far.prefix.rest) (sym (unbegun_is P (plan_of d ls false) h n p));
    }

    begun : HasBegun (plan_of d ls false) → Begins h far.history
    begun x =
        let on = goes_on d ls more false closed in
        far.furthest h (prefix_goes_on P (plan_of d ls false) all h p on far.prefix.ordered (begun_more d ls more closed x))
        (clear_grows P (plan_of d ls false) all most (instances_of d ls) (instances_of d (ls ++ more)) on (instances_agree d ls more) h p c)

    by_line : (xs : List model.Line) → lines_meant d ls ≡ xs → Begins h far.history
    by_line [] e = unbegun (λ x. elim x [ inl n ↦ n e | inr t ↦ (let f : false ≡ true = t in cc f) ])
    by_line (y ∷ ys) e = begun (inl (λ n. let f : [] ≡ y ∷ ys = sym n ∙ e in cc f))

    begins_front : IsPrefix (report_of N P (plan_of d ls false) h) written
    begins_front =
        let b = by_line (lines_meant d ls) refl in
        let is : all ≡ record { lines = lines_meant d ls ++ lines_meant d more; closed = closed } = λ i. record { lines = lines_meant-more d ls more i; closed = closed } in
        let k = report_more N P all h b.rest in
        let grown : report_of N P all h ≡ report_of N P (plan_of d ls false) h = ap (λ (L : Plan). report_of N P L h) is ∙ report_of-grown N P (plan_of d ls false) (lines_meant d more) closed h p in (
          k.0 ++ far.tail,
          far.is ∙ ap (λ z. z ++ far.tail) (ap (report_of N P all) b.is ∙ k.1 ∙ ap (λ z. z ++ k.0) grown) ∙ append_assoc (report_of N P (plan_of d ls false) h) k.0 far.tail,
        )

-- ---- what is told on the way

-- which lines a refusal plays: those before it, and perhaps more
record ReadsOn (before : List Line) (r : Reading) : Type 0 where
  more : List Line
  closed : Bool
  is : r ≡ reading_of (before ++ more) closed

-- the last of some lines is this line, or stands behind it
data AtLast (xs : List Line) (line : Line) (more before : List Line) : Type 0 where
  at_it : more ≡ [] → before ≡ xs → AtLast xs line more before
  behind_it : (m : List Line) → before ≡ xs ++ line ∷ m → AtLast xs line more before

at_last : (xs : List Line) (line : Line) (more before : List Line) (z : Line) → before ++ z ∷ [] ≡ xs ++ line ∷ more → AtLast xs line more before
at_last [] line more [] z e =
    let f : z ∷ [] ≡ line ∷ more = e in
    let n : [] ≡ more = cc f in
    at_it (sym n) refl
at_last [] line more (y ∷ before) z e =
    let f : y ∷ (before ++ z ∷ []) ≡ line ∷ more = e in
    let head : y ≡ line = cc f in
    behind_it before (ap (λ u. u ∷ before) head)
at_last (x ∷ []) line more [] z e =
    let f : z ∷ [] ≡ x ∷ (line ∷ more) = e in
    let n : [] ≡ line ∷ more = cc f in
    cc n
at_last (x ∷ y ∷ xs) line more [] z e =
    let f : z ∷ [] ≡ x ∷ (y ∷ (xs ++ line ∷ more)) = e in
    let n : [] ≡ y ∷ (xs ++ line ∷ more) = cc f in
    cc n
at_last (x ∷ xs) line more (y ∷ before) z e =
    let f : y ∷ (before ++ z ∷ []) ≡ x ∷ (xs ++ line ∷ more) = e in
    let head : y ≡ x = cc f in
    let tail : before ++ z ∷ [] ≡ xs ++ line ∷ more = cc f in
    elim (at_last xs line more before z tail) [
      | at_it n i ↦ at_it n (ap (λ u. u ∷ before) head ∙ ap (λ us. x ∷ us) i)
      | behind_it m i ↦ behind_it m (ap (λ u. u ∷ before) head ∙ ap (λ us. x ∷ us) i)
    ]

module _ (d : Pair) (P : Problem) (most : ℕ) where
  reads_on : (goes_on : Bool) (piece : List ℕ) (before : List Line) (rest : List (Result Line PlanFault)) (r : Reading) (h : List Part) (v : Verdict Frac64) → Cause d P most goes_on piece before rest r h v → ReadsOn before r
  reads_on false piece before [] r h v k = record { more = []; closed = true; is = k.reads ∙ ap (λ (ls : List Line). reading_of ls true) (sym (append-nil before)) }
  reads_on true piece before [] r h v k = record { more = []; closed = false; is = k.reads ∙ ap (λ (ls : List Line). reading_of ls false) (sym (append-nil before)) }
  reads_on goes_on piece before (Err fault ∷ rest) r h v k = record { more = []; closed = false; is = k.reads ∙ ap (λ (ls : List Line). reading_of ls false) (sym (append-nil before)) }
  reads_on goes_on piece before (Ok line ∷ rest) r h v (inl k) = record { more = []; closed = false; is = k.reads ∙ ap (λ (ls : List Line). reading_of ls false) (sym (append-nil before)) }
  reads_on goes_on piece before (Ok line ∷ rest) r h v (inr k) = record { more = line ∷ []; closed = false; is = k.reads }

module _ (N : Labels) (d : Pair) (P : Problem) (most : ℕ) (bytes report written : List ℕ) (a : IsToldOnWay d N P most bytes report) where
  -- where all that may follow the same lines is far
  told_same : (r : Reading) (far : Far N d P most r written) → a.reading ≡ r → IsPrefix report written
  told_same r far e =
      subst (λ z. IsPrefix z written) (sym (a.written ∙ ap (λ (x : Reading). report_of N P (plan_in d x) a.history) e))
      (begins_same N d P most written r far a.history
      (subst (λ (x : Reading). Prefix P (plan_in d x) a.history) e a.prefix)
      (subst (λ (x : Reading). IsClear P (plan_in d x) most (instances_of d x.lines) a.history) e a.clear))

  -- or where more lines follow
  told_front : (ls more : List Line) (closed : Bool) (far : Far N d P most (reading_of (ls ++ more) closed) written) → a.reading ≡ reading_of ls false → IsPrefix report written
  told_front ls more closed far e =
      subst (λ z. IsPrefix z written) (sym (a.written ∙ ap (λ (x : Reading). report_of N P (plan_in d x) a.history) e))
      (begins_front N d P most written ls more closed far a.history
      (subst (λ (x : Reading). Prefix P (plan_in d x) a.history) e a.prefix)
      (subst (λ (x : Reading). IsClear P (plan_in d x) most (instances_of d x.lines) a.history) e a.clear))

  -- the reading, by its lines and whether it is closed
  abbrev lines : List Line
  lines = a.reading.lines

  reads : (ls : List Line) (b : Bool) → lines ≡ ls → a.reading.closed ≡ b → a.reading ≡ reading_of ls b
  reads ls b e f = λ i. record { lines = e i; closed = f i }

  none_behind : (line : Line) (rest : List (Result Line PlanFault)) → a.reading.closed ≡ true → a.played.rest ≡ Ok line ∷ rest → ⊥
  none_behind line rest e g =
      let n = a.played.all_read e in
      let k : [] ≡ Ok line ∷ rest = sym n.1 ∙ g in
      cc k

  -- the lines that are worked play on
  worked_on : HasBegun (plan_of d a.played.before false) → IsWaiting P (plan_of d a.played.before false) most (instances_of d a.played.before) a.played.worked.front → PlaysOn d P most a.played.before
  worked_on b (inl n) = absurd (elim b [ inl x ↦ x n | inr t ↦ (let f : false ≡ true = t in cc f) ])
  worked_on b (inr k) =
      let w = a.played.worked in
      let c : IsClear P (plan_of d (a.played.before ++ a.played.last) a.reading.closed) most (instances_of d (a.played.before ++ a.played.last)) a.history =
      subst (λ (ls : List Line). IsClear P (plan_of d ls a.reading.closed) most (instances_of d ls) a.history) a.played.are a.clear in
      record {
        closed = false;
        front = w.front;
        prefix = w.prefix;
        done = k;
        more = a.played.last;
        closed' = a.reading.closed;
        ordered = subst (λ (ls : List Line). IsInOrder (lines_meant d ls)) a.played.are a.prefix.ordered;
        clear = λ front part rest q e. c front part (rest ++ w.begins.rest) q (w.begins.is ∙ ap (λ x. x ++ w.begins.rest) e ∙ append_assoc front (part ∷ rest) w.begins.rest);
      }

-- ---- the text is accepted

module _ (d : Domain) (p : tree.Problem) (most : ℕ) (bytes report written : List ℕ) (a : IsToldOnWay (pair d p) (labels_meant d p) (expanded d p) most bytes report) (k : IsAccepted d p most bytes written) where
  abbrev Reaches : Reading → Type 0
  Reaches r = Far (labels_meant d p) (pair d p) (expanded d p) most r written

  far_of : Reaches (reading_of k.lines true)
  far_of = record {
    history = k.history;
    prefix = k.happens.prefix;
    furthest = λ h q c. (worked_is_longest (expanded d p) (plan_of (pair d p) k.lines true) k.history k.happens.prefix k.happens.worked).longest h q;
    tail = codes "valid\n";
    is = k.written;
  }

  open_front : (more : List Line) → a.reading.closed ≡ false → k.lines ≡ a.reading.lines ++ more → IsPrefix report written
  open_front more e f =
      told_front (labels_meant d p) (pair d p) (expanded d p) most bytes report written a a.reading.lines more true
      (subst (λ (ls : List Line). Reaches (reading_of ls true)) f far_of)
      (reads (labels_meant d p) (pair d p) (expanded d p) most bytes report written a a.reading.lines false refl e)

  by_lines : (b : Bool) → a.reading.closed ≡ b → Parted a.reading.lines k.lines a.played.rest [] → IsPrefix report written
  by_lines true e (same f g) =
      told_same (labels_meant d p) (pair d p) (expanded d p) most bytes report written a (reading_of k.lines true) far_of
      (reads (labels_meant d p) (pair d p) (expanded d p) most bytes report written a k.lines true f e)
  by_lines true e (left line more rest f g) = absurd (none_behind (labels_meant d p) (pair d p) (expanded d p) most bytes report written a line rest e g)
  by_lines true e (right line more rest f g) = cc g
  by_lines false e (same f g) = open_front [] e (sym f ∙ sym (append-nil a.reading.lines))
  by_lines false e (left line more rest f g) = open_front (line ∷ more) e f
  by_lines false e (right line more rest f g) = cc g

  of_accepted : IsPrefix report written
  of_accepted =
      let r = accepted_whole d p most bytes a.text written a.goes_on k a.within in
      let whole : a.whole ≡ bytes = (let c : WholeLines false a.text a.whole a.piece = subst (λ (g : Bool). WholeLines g a.text a.whole a.piece) r.1 a.cut in c) ∙ r.0 in
      by_lines a.reading.closed refl
      (parted a.reading.lines k.lines a.played.rest [] (sym a.played.read ∙ ap (plan_lines Timed) whole ∙ k.read ∙ sym (append-nil _)))

-- ---- the text is refused

module _ (N : Labels) (d : Pair) (P : Problem) (most : ℕ) (bytes report written : List ℕ) (a : IsToldOnWay d N P most bytes report) (piece : List ℕ) (whole : List ℕ) (v : Verdict Frac64) (x : Refusal d P most a.goes_on whole piece v) (far : Far N d P most x.reading written) where
  open_until : (more : List Line) → a.reading.closed ≡ false → x.before ≡ a.reading.lines ++ more → IsPrefix report written
  open_until more e f =
      let on = reads_on d P most a.goes_on piece x.before x.rest x.reading x.history v x.cause in
      let is : x.reading ≡ reading_of (a.reading.lines ++ (more ++ on.more)) on.closed =
      on.is ∙ ap (λ (ls : List Line). reading_of (ls ++ on.more) on.closed) f ∙ ap (λ (ls : List Line). reading_of ls on.closed) (append_assoc a.reading.lines more on.more) in
      told_front N d P most bytes report written a a.reading.lines (more ++ on.more) on.closed
      (subst (λ (r : Reading). Far N d P most r written) is far)
      (reads N d P most bytes report written a a.reading.lines false refl e)

  -- all lines are read, and then it is refused at the end
  closed_at_end : a.reading.closed ≡ true → x.before ≡ a.reading.lines → x.rest ≡ a.played.rest → IsPrefix report written
  closed_at_end e f g =
      let n = a.played.all_read e in
      let c : Cause d P most false piece x.before [] x.reading x.history v =
      subst (λ (rs : List (Result Line PlanFault)). Cause d P most false piece x.before rs x.reading x.history v) (g ∙ n.1)
      (subst (λ (go : Bool). Cause d P most go piece x.before x.rest x.reading x.history v) n.2 x.cause) in
      told_same N d P most bytes report written a (reading_of x.before true)
      (subst (λ (r : Reading). Far N d P most r written) c.reads far)
      (reads N d P most bytes report written a x.before true (sym f) e)

  module _ (line : Line) (more : List Line) (rest : List (Result Line PlanFault)) (f : a.reading.lines ≡ x.before ++ line ∷ more) (g : x.rest ≡ Ok line ∷ rest) where
    value : HasValue line
    value = one_of HasValue x.before more line (subst (All HasValue) f a.played.times)

    -- the line is not worked
    not_worked : (m : List Line) → HasBegun (plan_of d (x.before ++ line ∷ []) false) → a.played.before ≡ x.before ++ line ∷ m → ⊥
    not_worked m b e =
        let is : a.played.before ≡ (x.before ++ line ∷ []) ++ m = e ∙ sym (append_assoc x.before (line ∷ []) m) in
        let begun : HasBegun (plan_of d a.played.before false) =
        subst (λ (ls : List Line). HasBegun (plan_of d ls false)) (sym is) (begun_more d (x.before ++ line ∷ []) m false b) in
        passed_by d P most a.goes_on whole piece v x line m rest
        (subst (PlaysOn d P most) is (worked_on N d P most bytes report written a begun a.played.worked.waits)) value g

    -- it is the last, and the history stops on the way that it tells
    in_last : (b : Bool) → a.reading.closed ≡ b → (z : Line) → a.played.last ≡ z ∷ [] → more ≡ [] → x.reading ≡ reading_of (x.before ++ line ∷ []) false → IsPrefix report written
    in_last true e z l n r = absurd (let k : [] ≡ z ∷ [] = sym (a.played.all_read e).0 ∙ l in cc k)
    in_last false e z l n r =
        told_same N d P most bytes report written a (reading_of (x.before ++ line ∷ []) false)
        (subst (λ (y : Reading). Far N d P most y written) r far)
        (reads N d P most bytes report written a (x.before ++ line ∷ []) false (f ∙ ap (λ m. x.before ++ line ∷ m) n) e)

    by_last : (last : List Line) → a.played.last ≡ last → IsStopped d P most x.before line x.reading x.history v → IsPrefix report written
    by_last [] l s =
        absurd (not_worked more s.begun (sym (append-nil a.played.before) ∙ ap (λ m. a.played.before ++ m) (sym l) ∙ sym a.played.are ∙ f))
    by_last (z ∷ []) l s =
        elim (at_last x.before line more a.played.before z (ap (λ m. a.played.before ++ m) (sym l) ∙ sym a.played.are ∙ f)) [
          | at_it n i ↦ in_last a.reading.closed refl z l n s.reads
          | behind_it m i ↦ absurd (not_worked m s.begun i)
        ]
    by_last (z ∷ y ∷ ys) l s = absurd (let k : length (z ∷ y ∷ ys) ≤ 1 = subst (λ (ls : List Line). length ls ≤ 1) l a.played.one in omega (arith, k))

    at_line : IsTimeRefused d P most x.before line x.reading x.history v ⊎ IsStopped d P most x.before line x.reading x.history v → IsPrefix report written
    at_line (inl t) =
        absurd (time_excluded d P x.before more line x.history t.meant t.time v t.meant_is t.time_is t.why value
        (subst (λ (ls : List Line). IsInOrder (lines_meant d ls)) (f ∙ sym (append_assoc x.before (line ∷ []) more)) a.prefix.ordered))
    at_line (inr s) = by_last a.played.last refl s

    behind_line : IsPrefix report written
    behind_line = at_line (subst (λ (rs : List (Result Line PlanFault)). Cause d P most a.goes_on piece x.before rs x.reading x.history v) g x.cause)

  by_place : (b : Bool) → a.reading.closed ≡ b → Parted x.before a.reading.lines x.rest a.played.rest → IsPrefix report written
  by_place true e (same f g) = closed_at_end e f g
  by_place true e (left line more rest f g) = behind_line line more rest f g
  by_place true e (right line more rest f g) = absurd (none_behind N d P most bytes report written a line rest e g)
  by_place false e (same f g) = open_until [] e (f ∙ sym (append-nil a.reading.lines))
  by_place false e (left line more rest f g) = behind_line line more rest f g
  by_place false e (right line more rest f g) = open_until (line ∷ more) e f

module _ (d : Domain) (p : tree.Problem) (most : ℕ) (bytes report written : List ℕ) (a : IsToldOnWay (pair d p) (labels_meant d p) (expanded d p) most bytes report) where
  of_refused : (text : List ℕ) (goes_on : Bool) (outcome : Outcome) → a.text ≡ text → a.goes_on ≡ goes_on → IsRefused d p most text goes_on outcome written → IsPrefix report written
  of_refused text goes_on outcome i j r =
      let k : IsRefused d p most a.text a.goes_on outcome written =
      subst (λ (g : Bool). IsRefused d p most a.text g outcome written) (sym j) (subst (λ (t : List ℕ). IsRefused d p most t goes_on outcome written) (sym i) r) in
      let x = k.refusal in
      let whole : a.whole ≡ k.whole = one_whole a.goes_on a.text a.whole a.piece k.whole k.piece a.cut k.cut in
      by_place (labels_meant d p) (pair d p) (expanded d p) most bytes report written a k.piece k.whole k.verdict x
      (record { history = x.history; prefix = x.prefix; furthest = x.furthest; tail = verdict_text fraction_of (labels_meant d p) (expanded d p) k.verdict; is = k.written })
      a.reading.closed refl
      (parted x.before a.reading.lines x.rest a.played.rest (sym x.read ∙ ap (plan_lines Timed) (sym whole) ∙ a.played.read))

  of_refused_in : (outcome : Outcome) → IsRefusedIn d p most bytes outcome written → IsPrefix report written
  of_refused_in outcome r =
      let k = read_once d p most bytes a.text r.text a.goes_on r.goes_on a.within r.read in
      of_refused r.text r.goes_on outcome k.0 k.1 r.refused

  of_whole : (outcome : Outcome) → IsWhole d p most bytes outcome written → IsPrefix report written
  of_whole outcomes.Valid w = of_accepted d p most bytes report written a w
  of_whole outcomes.Invalid w = of_refused_in outcomes.Invalid w
  of_whole outcomes.Beyond w = of_refused_in outcomes.Beyond w
  of_whole outcomes.BadText w = of_refused_in outcomes.BadText w
  of_whole outcomes.ReadFault w = absurd w
  of_whole outcomes.WriteFault w = absurd w
  of_whole outcomes.NoMemory w = absurd w

pub told_on_way_begins : ToldOnWayBegins
told_on_way_begins d p most bytes report written outcome a w = of_whole d p most bytes report written a outcome w
