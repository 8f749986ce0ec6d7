-- What the first lines of a text tell is a beginning of what more of it tells; and so a plan is read at most one piece ahead of its report.
use Rattle.std.proofs.Common.{◌≡◌, ℕ, ◌+◌, ◌<◌, false, true, List, [], ◌∷◌, ◌++◌, map, length, take, refl, subst, sym, ap, ◌∙◌, arith, append-nil, append_assoc, length-append, inl, inr}
use Rattle.std.specs.Prelude.{◌≢◌, All, Result, Ok}
use Rattle.std.proofs.lemmas.List.{length-take-le}
use Rattle.std.proofs.lemmas.List.Elements.{All-head, All-tail}
use Rattle.plus_model.specs.Terms as terms
use Rattle.plus_model.specs.Plan.{Plan}
use Rattle.plus_model.specs.History.{Part}
use Rattle.plus_model.specs.Trajectory.{HasBegun, Prefix}
use Rattle.plus_model.specs.Laws.{Begins}
use Rattle.plus_model.proofs.Later.{prefix_goes_on}
use Rattle.plus_model.proofs.Longest.{worked_is_longest}
use Rattle.plus_state.specs.View.{Labels}
use Rattle.plus_plan.specs.declared.forms.Line.{Line}
use Rattle.plus_plan.specs.declared.forms.PlanForm.TheVariants.{Timed}
use Rattle.plus_plan.specs.declared.faults.PlanFault.{PlanFault}
use Rattle.plus_plan.specs.Cut.{lines_of}
use Rattle.plus_plan.specs.Lines.{numbered, plan_lines}
use Rattle.plus_plan.specs.Pieces.{AtLine}
use Rattle.plus_plan.proofs.Cuttings.{behind_line, numbered-append}
use Rattle.plus_model.specs.Terms.{State}
use Rattle.plus_report.specs.Report.{report_of}
use Rattle.plus_report.proofs.ReportLemmas.{report_of-grown}
use Rattle.plus_validator.specs.Plans.{Pair, lines_meant, plan_of}
use Rattle.plus_validator.specs.Asking.{instances_of}
use Rattle.plus_validator.specs.Refused.{IsWaiting}
use Rattle.plus_validator.specs.Leaving.{IsToldSoFar, TellsSoFar, unread, ahead}
use Rattle.plus_validator.specs.KeepingUp.{MoreTellsMore, ReadsOnePieceAhead}
use Rattle.plus_validator.specs.Told.{report_more}
use Rattle.plus_validator.proofs.TextStops.{lines_meant-more, goes_on, begun_more, unbegun_is}

-- ---- whole lines

has_lf : (front more : List ℕ) → All (λ b. b ≢ 10) ((front ++ 10 ∷ []) ++ more) → ⊥
has_lf [] more a = (All-head (λ (b : ℕ). b ≢ 10) 10 more a) refl
has_lf (x ∷ front) more a = has_lf front more (All-tail (λ (b : ℕ). b ≢ 10) x ((front ++ 10 ∷ []) ++ more) a)

lf_kept : (front more whole piece : List ℕ) → (front ++ 10 ∷ []) ++ more ≡ whole ++ piece → All (λ b. b ≢ 10) piece → (v : List ℕ) × (whole ≡ (front ++ 10 ∷ []) ++ v)
lf_kept front more [] piece e n = absurd (has_lf front more (subst (All (λ (b : ℕ). b ≢ 10)) (sym e) n))
lf_kept [] more (x ∷ whole) piece e n =
    let f : 10 ∷ more ≡ x ∷ (whole ++ piece) = e in
    let head : x ≡ 10 = cc f in
    (whole, ap (λ z. z ∷ whole) head)
lf_kept (y ∷ front) more (x ∷ whole) piece e n =
    let f : y ∷ ((front ++ 10 ∷ []) ++ more) ≡ x ∷ (whole ++ piece) = e in
    let head : x ≡ y = cc f in
    let tail : (front ++ 10 ∷ []) ++ more ≡ whole ++ piece = cc f in
    let k = lf_kept front more whole piece tail n in
    (k.0, ap (λ zs. x ∷ zs) k.1 ∙ ap (λ z. z ∷ ((front ++ 10 ∷ []) ++ k.0)) head)

-- the whole lines of a text are whole lines of one that goes on behind it
whole_kept : (w rest whole piece : List ℕ) → AtLine w → w ++ rest ≡ whole ++ piece → All (λ b. b ≢ 10) piece → (v : List ℕ) × (whole ≡ w ++ v)
whole_kept w rest whole piece (inl e) same n = (whole, ap (λ z. z ++ whole) (sym e))
whole_kept w rest whole piece (inr e) same n =
    let k = lf_kept e.0 rest whole piece (ap (λ z. z ++ rest) (sym e.1) ∙ same) n in
    (k.0, k.1 ∙ ap (λ z. z ++ k.0) (sym e.1))

oks_first : (ls ls' : List Line) (rest : List (Result Line PlanFault)) → map {B = Result Line PlanFault} Ok ls' ≡ map {B = Result Line PlanFault} Ok ls ++ rest → (m : List Line) × (ls' ≡ ls ++ m)
oks_first [] ls' rest e = (ls', refl)
oks_first (l ∷ ls) [] rest e = absurd (let f : [] ≡ Ok l ∷ (map {B = Result Line PlanFault} Ok ls ++ rest) = e in cc f)
oks_first (l ∷ ls) (x ∷ ls') rest e =
    let f : Ok x ∷ map {B = Result Line PlanFault} Ok ls' ≡ Ok l ∷ (map {B = Result Line PlanFault} Ok ls ++ rest) = e in
    let head : x ≡ l = cc f in
    let tail : map {B = Result Line PlanFault} Ok ls' ≡ map {B = Result Line PlanFault} Ok ls ++ rest = cc f in
    let k = oks_first ls ls' rest tail in
    (k.0, ap (λ zs. x ∷ zs) k.1 ∙ ap (λ z. z ∷ (ls ++ k.0)) head)

lines_kept : (w v : List ℕ) (ls ls' : List Line) → AtLine w → plan_lines Timed w ≡ map Ok ls → plan_lines Timed (w ++ v) ≡ map Ok ls' → (m : List Line) × (ls' ≡ ls ++ m)
lines_kept w v ls ls' at e f =
    let n = 1 + length (lines_of w) in
    oks_first ls ls' (numbered Timed n (lines_of v))
    (sym f ∙ ap (numbered Timed 1) (behind_line w v at) ∙ numbered-append Timed 1 n (lines_of w) (lines_of v) refl ∙ ap (λ rs. rs ++ numbered Timed n (lines_of v)) e)

-- ---- histories

module _ (d : Pair) (P : terms.Problem) (most : ℕ) (ls m : List Line) (g h : List Part) (a : Prefix P (plan_of d ls false) g) (b : Prefix P (plan_of d (ls ++ m) false) h) where
  -- where no line of a plan is read, the first part is all
  unbegun : (HasBegun (plan_of d (ls ++ m) false) → ⊥) → Begins g h
  unbegun n = record {
    rest = [];
    is = unbegun_is P (plan_of d (ls ++ m) false) h n b ∙ sym (unbegun_is P (plan_of d ls false) g (λ x. n (begun_more d ls m false x)) a) ∙ sym (append-nil g);
  }

  begun : HasBegun (plan_of d (ls ++ m) false) → IsWaiting P (plan_of d (ls ++ m) false) most (instances_of d (ls ++ m)) h → Begins g h
  begun x (inl none) = absurd (elim x [ inl s ↦ s none | inr t ↦ (let f : false ≡ true = t in cc f) ])
  begun x (inr done) =
      (worked_is_longest P (plan_of d (ls ++ m) false) h b done.worked).longest g
      (prefix_goes_on P (plan_of d ls false) (plan_of d (ls ++ m) false) g a (goes_on d ls m false false) b.ordered x)

  -- what some lines tell begins what more tell
  begins_more : IsWaiting P (plan_of d (ls ++ m) false) most (instances_of d (ls ++ m)) h → Begins g h
  begins_more (inl none) = unbegun (λ x. elim x [ inl s ↦ s none | inr t ↦ (let f : false ≡ true = t in cc f) ])
  begins_more (inr done) = by_line (lines_meant d (ls ++ m)) refl
    where
      by_line : (xs : List _) → lines_meant d (ls ++ m) ≡ xs → Begins g h
      by_line [] e = unbegun (λ x. elim x [ inl s ↦ s e | inr t ↦ (let f : false ≡ true = t in cc f) ])
      by_line (y ∷ ys) e = begun (inl (λ n. let f : [] ≡ y ∷ ys = sym n ∙ e in cc f)) (inr done)

  -- and so do the reports
  report_begins : (N : Labels) → Begins g h → (r : List ℕ) × (report_of N P (plan_of d (ls ++ m) false) h ≡ report_of N P (plan_of d ls false) g ++ r)
  report_begins N x =
      let M = plan_of d (ls ++ m) false in
      let is : M ≡ record { lines = lines_meant d ls ++ lines_meant d m; closed = false } = λ i. record { lines = lines_meant-more d ls m i; closed = false } in
      let k = report_more N P M g x.rest in
      let same : report_of N P M g ≡ report_of N P (plan_of d ls false) g = ap (λ (L : Plan). report_of N P L g) is ∙ report_of-grown N P (plan_of d ls false) (lines_meant d m) false g a in
      (k.0, ap (report_of N P M) x.is ∙ k.1 ∙ ap (λ z. z ++ k.0) same)

told_more : (d : Pair) (N : Labels) (P : terms.Problem) (most : ℕ) (text more one other : List ℕ) → IsToldSoFar d N P most text one → IsToldSoFar d N P most (text ++ more) other → (r : List ℕ) × (other ≡ one ++ r)
told_more d N P most text more one other a b =
    let w = whole_kept a.whole (a.piece ++ more) b.whole b.piece a.cut.at_line (sym (append_assoc a.whole a.piece more) ∙ ap (λ t. t ++ more) (sym a.cut.is) ∙ b.cut.is) b.cut.in_one_line in
    let l = lines_kept a.whole w.0 a.lines b.lines a.cut.at_line a.read (ap (plan_lines Timed) (sym w.1) ∙ b.read) in
    let p : Prefix P (plan_of d (a.lines ++ l.0) false) b.history = subst (λ (ls : List Line). Prefix P (plan_of d ls false) b.history) l.1 b.prefix in
    let s : IsWaiting P (plan_of d (a.lines ++ l.0) false) most (instances_of d (a.lines ++ l.0)) b.history =
    subst (λ (ls : List Line). IsWaiting P (plan_of d ls false) most (instances_of d ls) b.history) l.1 b.waits in
    let r = report_begins d P most a.lines l.0 a.history b.history a.prefix p N (begins_more d P most a.lines l.0 a.history b.history a.prefix p s) in
    (r.0, b.written ∙ ap (λ (ls : List Line). report_of N P (plan_of d ls false) b.history) l.1 ∙ r.1 ∙ ap (λ z. z ++ r.0) (sym a.written))

pub more_tells_more : MoreTellsMore
more_tells_more d p most text more one other a b = told_more _ _ _ most text more one other a b

-- ---- how far the reading is ahead

-- of two beginnings of a text one begins the other
data Longer (front other : List ℕ) : Type 0 where
  longer : (m : List ℕ) → front ≡ other ++ m → Longer front other
  not_longer : length front < length other → Longer front other

two_fronts : (front rest other left : List ℕ) → front ++ rest ≡ other ++ left → Longer front other
two_fronts front rest [] left e = longer front refl
two_fronts [] rest (y ∷ other) left e = not_longer (omega arith)
two_fronts (x ∷ front) rest (y ∷ other) left e =
    let f : x ∷ (front ++ rest) ≡ y ∷ (other ++ left) = e in
    let head : x ≡ y = cc f in
    let tail : front ++ rest ≡ other ++ left = cc f in
    elim (two_fronts front rest other left tail) [
      | longer m i ↦ longer m (ap (λ zs. x ∷ zs) i ∙ ap (λ z. z ∷ (other ++ m)) head)
      | not_longer l ↦ not_longer (omega arith)
    ]

-- bytes that are told were taken once
taken_length : (old a b : List ℕ) → old ++ a ≡ old ++ b → length a ≡ length b
taken_length old a b e =
    let l : length (old ++ a) ≡ length (old ++ b) = ap length e in
    omega (arith, length-append old a, length-append old b)

pub reads_one_piece_ahead : ReadsOnePieceAhead
reads_one_piece_ahead d p most text rest old new front report (unread t) begins told part =
    let is : text ≡ rest = cc t in
    let l : length text ≡ length rest = ap length is in
    omega arith
reads_one_piece_ahead d p most text rest old new front report (ahead read piece out more t few told' took) begins told part =
    let is : text ≡ (read ++ piece) ++ rest = cc t in
    let l : length text ≡ length ((read ++ piece) ++ rest) = ap length is in
    let sum = length-append (read ++ piece) rest in
    let sum' = length-append read piece in
    elim (two_fronts read (piece ++ rest) front begins.0 (sym (append_assoc read piece rest) ∙ sym is ∙ begins.1)) [
      | not_longer s ↦ omega arith
      | longer m i ↦
          let k = more_tells_more d p most front m report out told (subst (λ (z : List ℕ). TellsSoFar d p most z out) i told') in
          let same = taken_length old (out ++ more) (take part.0 report) (let q : old ++ (out ++ more) ≡ old ++ take part.0 report = cc (sym took ∙ part.2) in q) in
          let longer' : length out ≡ length (report ++ k.0) = ap length k.1 in
          let a = length-append report k.0 in
          let b = length-append out more in
          let short : part.0 < length report = part.1 in
          let c = length-take-le part.0 report (omega arith) in
          absurd (omega arith)
    ]
