-- A run that halts in a text: the plan is refused.
use Rattle.std.proofs.Common.{◌≡◌, ℕ, ◌+◌, ◌<◌, Bool, true, false, List, [], ◌∷◌, ◌++◌, refl, ap, sym, subst, ◌∙◌, inl, inr, append_assoc, append-nil, arith, length-append}
use Rattle.std.specs.Prelude.{◌≢◌, ◌⊎◌, All, Option, Some, None, Result, Ok, Err, IsSomeAnd, length, map}
use Rattle.plus_model.specs.Terms.{Problem}
use Rattle.plus_model.specs.Plan as model
use Rattle.plus_model.specs.Plan.{Plan}
use Rattle.plus_model.specs.History.{Part}
use Rattle.plus_model.specs.Trajectory.{HasBegun, Prefix, Trajectory, first_part, first_view, view_of}
use Rattle.plus_model.specs.Breach as breach
use Rattle.plus_model.specs.Breach.{Breaks, BreaksBy, LineBreach}
use Rattle.plus_model.specs.Laws.{Begins, IsLongest, GoesOnFrom}
use Rattle.plus_model.proofs.Paths.{one_path}
use Rattle.plus_model.proofs.Later.{prefix_goes_on}
use Rattle.plus_model.proofs.Final.{breach_is_final, breach_is_no_trajectory}
use Rattle.plus_model.proofs.LineFinal.{line_breach_is_final}
use Rattle.plus_model.proofs.Longest.{breach_is_longest, worked_is_longest, unbegun_is_longest}
use Rattle.plus_number.specs.declared.frac.Frac64.{Frac64}
use Rattle.plus_number.specs.Frac.{fraction_of}
use Rattle.plus_state.specs.declared.outcome.Breach.{Breach}
use Rattle.plus_state.specs.declared.outcome.Breach.TheVariants as breaches
use Rattle.plus_plan.specs.declared.forms.Time.{Time}
use Rattle.plus_plan.specs.declared.forms.Line.{Line}
use Rattle.plus_plan.specs.declared.forms.PlanForm.TheVariants.{Timed}
use Rattle.plus_plan.specs.declared.faults.PlanFault.{PlanFault}
use Rattle.plus_plan.specs.declared.faults.PlanFault.TheVariants as faults
use Rattle.plus_plan.specs.Lines.{plan_lines}
use Rattle.plus_stretch.specs.Tests as tests
use Rattle.plus_stretch.specs.Tests.{Test, breach_of}
use Rattle.plus_report.specs.declared.verdicts.Verdict.{Verdict}
use Rattle.plus_report.specs.declared.verdicts.Verdict.TheVariants.{Valid, Invalid, Beyond, Other}
use Rattle.plus_report.specs.declared.refusals.Early.{Early}
use Rattle.plus_report.specs.declared.refusals.Early.TheVariants as early
use Rattle.plus_report.specs.declared.refusals.Early.TheVariants.{BadLine, LineTooLong}
use Rattle.plus_report.specs.declared.refusals.Text.TheVariants as texts
use Rattle.plus_validator.specs.Account.{Account, Progress}
use Rattle.plus_validator.specs.declared.halt.Halt.{Halt}
use Rattle.plus_validator.specs.declared.halt.Halt.TheVariants.{Refused, Memory, WriteFault}
use Rattle.plus_validator.specs.Halts.{line_halt}
use Rattle.plus_validator.specs.Handing.{Left, left_by, IsPartOut}
use Rattle.plus_validator.specs.Plans.{Pair, line_meant, lines_meant, plan_of, reading_of, HasValue}
use Rattle.plus_validator.specs.Standing.{CanGoOn}
use Rattle.plus_validator.specs.Told.{Telling}
use Rattle.plus_validator.specs.Playing.{ReadiedFor}
use Rattle.plus_validator.specs.Refused.{IsBroken, StandsEarly, Stands, AreWorked, NamesFault, IsWaiting, TimeFault, after_end, no_value, goes_back, cut_verdict, NonePlays, BreachRefutes, Refutes, IsOfText, IsNoLimit, number_in}
use Rattle.plus_validator.specs.Stopped.{IsReported, IsWorkedOut, IsCutShort, IsCutShortIn, IsCutShortInText, StopsOnWay, StopsInLine, HaltsInLine, HaltsAtEnd, IsStoppedInText, StopsInText}
use Rattle.plus_validator.specs.Feeding.{HasPlayed}
use Rattle.plus_validator.proofs.Stopping.{reported}
use Rattle.plus_validator.proofs.Waiting.{waits}
use Rattle.plus_validator.proofs.Played.{all_more}
use Rattle.plus_validator.proofs.Clear.{clear_grows, unbegun_rest}
use Rattle.plus_timeline.specs.Played.{asked_at}
use Rattle.plus_validator.specs.Asking.{IsClear, NoneFails, instances_of}
use Rattle.plus_validator.proofs.CalledTests.{instances_agree}
use Rattle.plus_validator.proofs.Asking.{none_fails}

-- ---- no prefix is longer

pub waiting_longest : (d : Pair) (P : Problem) (ls : List Line) (most : ℕ) (instance : ℕ → List Test) (h : List Part) → Prefix P (plan_of d ls false) h → IsWaiting P (plan_of d ls false) most instance h → IsLongest P (plan_of d ls false) h
waiting_longest d P ls most instance h p (inl n) = unbegun_is_longest P (plan_of d ls false) h p (λ b. elim b [ inl s ↦ s n | inr t ↦ (let e : false ≡ true = t in cc e) ])
waiting_longest d P ls most instance h p (inr w) = worked_is_longest P (plan_of d ls false) h p w.worked

breach_longest : (P : Problem) (L : Plan) (most : ℕ) (instance : ℕ → List Test) (h : List Part) (o : Option breach.Breach) → IsSomeAnd o (IsBroken P L most instance h) → IsLongest P L h
breach_longest P L most instance h None s = absurd s
breach_longest P L most instance h (Some b) s = breach_is_longest P L h b s.breaks

early_is_limit : (P : Problem) (L : Plan) (most : ℕ) (instance : ℕ → List Test) (h : List Part) (e : Early) → StandsEarly P L most instance h e → IsOfText e → ⊥
early_is_limit P L most instance h (early.TooMany kind n) s n' = n'
early_is_limit P L most instance h (early.Literal texts.Domain start last) s n = n
early_is_limit P L most instance h (early.Literal texts.Problem start last) s n = s
early_is_limit P L most instance h (early.Literal texts.Plan start last) s n = s
early_is_limit P L most instance h (early.Literal texts.Constraints start last) s n = s
early_is_limit P L most instance h (early.Literal texts.TranslatedDomain start last) s n = s
early_is_limit P L most instance h (early.Literal texts.TranslatedProblem start last) s n = s
early_is_limit P L most instance h (early.BadText text start last word) s n = s
early_is_limit P L most instance h (early.BadLine line start last) s n = s
early_is_limit P L most instance h (early.TooLong text) s n = s
early_is_limit P L most instance h (early.Depth text at) s n = s
early_is_limit P L most instance h early.DepthOut s n = s
early_is_limit P L most instance h (early.LineTooLong line) s n = s

stands_longest : (P : Problem) (L : Plan) (most : ℕ) (instance : ℕ → List Test) (h : List Part) (v : Verdict Frac64) → Stands P L most instance h v → IsNoLimit v → IsLongest P L h
stands_longest P L most instance h Valid s n = absurd s
stands_longest P L most instance h (Invalid b) s n = breach_longest P L most instance h _ s
stands_longest P L most instance h (Beyond l) s n = absurd n
stands_longest P L most instance h (Other e) s n = absurd (early_is_limit P L most instance h e s n)

-- where a verdict stands, a test fails
some_fails : (P : Problem) (L : Plan) (most : ℕ) (instance : ℕ → List Test) (h : List Part) (o : Option breach.Breach) → IsSomeAnd o (IsBroken P L most instance h) → NoneFails P L most instance h → ⊥
some_fails P L most instance h None s n = s
some_fails P L most instance h (Some b) s n = none_fails (asked_at P L most instance h) (tests.breach b) n s.first

early_fails : (P : Problem) (L : Plan) (most : ℕ) (instance : ℕ → List Test) (h : List Part) (e : Early) → StandsEarly P L most instance h e → NoneFails P L most instance h → ⊥
early_fails P L most instance h (early.TooMany kind n) s a = none_fails (asked_at P L most instance h) (tests.too_many_nodes n) a s.2
early_fails P L most instance h (early.Literal texts.Domain start last) s a = none_fails (asked_at P L most instance h) (tests.no_number start last) a s
early_fails P L most instance h (early.Literal texts.Problem start last) s a = s
early_fails P L most instance h (early.Literal texts.Plan start last) s a = s
early_fails P L most instance h (early.Literal texts.Constraints start last) s a = s
early_fails P L most instance h (early.Literal texts.TranslatedDomain start last) s a = s
early_fails P L most instance h (early.Literal texts.TranslatedProblem start last) s a = s
early_fails P L most instance h (early.BadText text start last word) s a = s
early_fails P L most instance h (early.BadLine line start last) s a = s
early_fails P L most instance h (early.TooLong text) s a = s
early_fails P L most instance h (early.Depth text at) s a = s
early_fails P L most instance h early.DepthOut s a = s
early_fails P L most instance h (early.LineTooLong line) s a = s

stands_fails : (P : Problem) (L : Plan) (most : ℕ) (instance : ℕ → List Test) (h : List Part) (v : Verdict Frac64) → Stands P L most instance h v → NoneFails P L most instance h → ⊥
stands_fails P L most instance h Valid s n = s
stands_fails P L most instance h (Invalid b) s n = some_fails P L most instance h _ s n
stands_fails P L most instance h (Beyond l) s n = none_fails (asked_at P L most instance h) (tests.of_limit fraction_of l) n s
stands_fails P L most instance h (Other e) s n = early_fails P L most instance h e s n

-- ---- no longer prefix is one before which no limit stands

begins_or : (P : Problem) (L : Plan) (most : ℕ) (instance : ℕ → List Test) (g h rest : List Part) (v : Verdict Frac64) → Prefix P L h → IsClear P L most instance g → Stands P L most instance h v → g ≡ h ++ rest → Begins g h
begins_or P L most instance g h [] v p c s e = record { rest = []; is = sym (append-nil h) ∙ sym e ∙ sym (append-nil g) }
begins_or P L most instance g h (x ∷ rest) v p c s e = absurd (stands_fails P L most instance h v s (c h x rest p e))

-- what is played before a verdict stands is a beginning of where it stands
begins_by : (P : Problem) (L : Plan) (most : ℕ) (instance : ℕ → List Test) (g h : List Part) (v : Verdict Frac64) → Prefix P L g → IsClear P L most instance g → Prefix P L h → Stands P L most instance h v → Begins g h
begins_by P L most instance g h v a c p s = elim (one_path P L g h a p) [
  | inl b ↦ b
  | inr b ↦ begins_or P L most instance g h b.rest v p c s b.is
]

-- ---- no plan that begins so has a trajectory

pub lines_meant-more : (d : Pair) (xs ys : List Line) → lines_meant d (xs ++ ys) ≡ lines_meant d xs ++ lines_meant d ys
lines_meant-more d [] ys = refl
lines_meant-more d (x ∷ xs) ys = ap (λ t. line_meant d x ++ t) (lines_meant-more d xs ys) ∙ sym (append_assoc (line_meant d x) (lines_meant d xs) (lines_meant d ys))

pub goes_on : (d : Pair) (ls more : List Line) (c c' : Bool) → GoesOnFrom (plan_of d ls c) (plan_of d (ls ++ more) c')
goes_on d ls more c c' = record { more = lines_meant d more; lines = lines_meant-more d ls more }

-- where no plan plays, the verdict tells no more than that
refutes : (d : Pair) (P : Problem) (ls : List Line) (v : Verdict Frac64) → NonePlays d P ls → Refutes d P ls v
refutes d P ls Valid n = tt
refutes d P ls (Beyond l) n = tt
refutes d P ls (Other e) n = tt
refutes d P ls (Invalid breaches.Goal) n = λ h t. n [] true h (subst (λ (ks : List Line). Trajectory P (plan_of d ks true) h) (sym (append-nil ls)) t)
refutes d P ls (Invalid (breaches.UnknownAction line name)) n = n
refutes d P ls (Invalid (breaches.WrongArguments line name)) n = n
refutes d P ls (Invalid (breaches.Precondition line whose)) n = n
refutes d P ls (Invalid (breaches.TimeGoesBack line)) n = n
refutes d P ls (Invalid (breaches.AfterEnd line)) n = n
refutes d P ls (Invalid (breaches.Conflict f)) n = n
refutes d P ls (Invalid (breaches.NoValue f)) n = n
refutes d P ls (Invalid (breaches.Repeats x)) n = n
refutes d P ls (Invalid (breaches.Unsettled x)) n = n
refutes d P ls (Invalid (breaches.Coupled x y)) n = n
refutes d P ls (Invalid (breaches.NoFirstMoment x t)) n = n

not_goal : (P : Problem) (L : Plan) (h : List Part) (b : breach.Breach) → L.closed ≡ false → Breaks P L h b → b ≢ breach.Goal
not_goal P L h b c s e =
    let k : L.closed ≡ true = (subst (Breaks P L h) e s).breach.stands.0 in
    let f : false ≡ true = sym c ∙ k in
    cc f

none_after_breach : (d : Pair) (P : Problem) (ls : List Line) (most : ℕ) (instance : ℕ → List Test) (h : List Part) (o : Option breach.Breach) → IsSomeAnd o (IsBroken P (plan_of d ls false) most instance h) → NonePlays d P ls
none_after_breach d P ls most instance h None s = absurd s
none_after_breach d P ls most instance h (Some b) s =
    λ more closed h' t. breach_is_final P (plan_of d ls false) h b s.breaks (not_goal P (plan_of d ls false) h b refl s.breaks) (plan_of d (ls ++ more) closed) h' (goes_on d ls more false closed) t

-- of lines that are not all
stands_refutes : (d : Pair) (P : Problem) (ls : List Line) (most : ℕ) (instance : ℕ → List Test) (h : List Part) (v : Verdict Frac64) → Stands P (plan_of d ls false) most instance h v → Refutes d P ls v
stands_refutes d P ls most instance h Valid s = absurd s
stands_refutes d P ls most instance h (Invalid b) s = refutes d P ls (Invalid b) (none_after_breach d P ls most instance h _ s)
stands_refutes d P ls most instance h (Beyond l) s = tt
stands_refutes d P ls most instance h (Other e) s = tt

none_plays_on : (d : Pair) (P : Problem) (ls : List Line) (h : List Part) (b : breach.Breach) → Breaks P (plan_of d ls true) h b → b ≢ breach.Goal → NonePlays d P ls
none_plays_on d P ls h b s n = λ more closed h' t. breach_is_final P (plan_of d ls true) h b s n (plan_of d (ls ++ more) closed) h' (goes_on d ls more true closed) t

-- of all lines
end_breach : (d : Pair) (P : Problem) (ls : List Line) (most : ℕ) (instance : ℕ → List Test) (h : List Part) (acted : ℕ) (b : Breach Frac64) → IsSomeAnd (breach_of fraction_of acted b) (IsBroken P (plan_of d ls true) most instance h) → BreachRefutes d P ls b
end_breach d P ls most instance h acted (breaches.UnknownAction line name) s = none_plays_on d P ls h (breach.UnknownAction acted name) s.breaks (λ e. cc e)
end_breach d P ls most instance h acted (breaches.WrongArguments line name) s = none_plays_on d P ls h (breach.WrongArguments acted name) s.breaks (λ e. cc e)
end_breach d P ls most instance h acted (breaches.Precondition line whose) s = none_plays_on d P ls h (breach.Precondition acted) s.breaks (λ e. cc e)
end_breach d P ls most instance h acted (breaches.TimeGoesBack line) s = absurd s
end_breach d P ls most instance h acted (breaches.AfterEnd line) s = absurd s
end_breach d P ls most instance h acted (breaches.Conflict f) s = none_plays_on d P ls h (breach.Conflict f.0) s.breaks (λ e. cc e)
end_breach d P ls most instance h acted (breaches.NoValue f) s = none_plays_on d P ls h (breach.NoValue f.0) s.breaks (λ e. cc e)
end_breach d P ls most instance h acted (breaches.Repeats x) s = none_plays_on d P ls h (breach.Repeats x.0) s.breaks (λ e. cc e)
end_breach d P ls most instance h acted (breaches.Unsettled x) s = none_plays_on d P ls h (breach.Unsettled x.0) s.breaks (λ e. cc e)
end_breach d P ls most instance h acted (breaches.Coupled x y) s = none_plays_on d P ls h (breach.Coupled x.0 y.0) s.breaks (λ e. cc e)
end_breach d P ls most instance h acted (breaches.NoFirstMoment x t) s = none_plays_on d P ls h (breach.NoFirstMoment x.0 (fraction_of t)) s.breaks (λ e. cc e)
end_breach d P ls most instance h acted breaches.Goal s = λ h' t. breach_is_no_trajectory P (plan_of d ls true) h h' breach.Goal s.breaks t

end_refutes : (d : Pair) (P : Problem) (ls : List Line) (most : ℕ) (instance : ℕ → List Test) (h : List Part) (v : Verdict Frac64) → Stands P (plan_of d ls true) most instance h v → Refutes d P ls v
end_refutes d P ls most instance h Valid s = absurd s
end_refutes d P ls most instance h (Invalid b) s = end_breach d P ls most instance h (view_of P h).acted b s
end_refutes d P ls most instance h (Beyond l) s = tt
end_refutes d P ls most instance h (Other e) s = tt

-- of a line that cannot be played
none_after_line : (d : Pair) (P : Problem) (ls : List Line) (line : Line) (h : List Part) (meant : model.Line) (b : LineBreach) → line_meant d line ≡ meant ∷ [] → BreaksBy P (plan_of d ls false) h meant b → NonePlays d P (ls ++ line ∷ [])
none_after_line d P ls line h meant b e s =
    λ more closed h' t.
    line_breach_is_final P (plan_of d ls false) h meant b s (plan_of d ((ls ++ line ∷ []) ++ more) closed) h' (lines_meant d more)
    (lines_meant-more d (ls ++ line ∷ []) more ∙ ap (λ ks. ks ++ lines_meant d more) (lines_meant-more d ls (line ∷ []) ∙ ap (λ ks. lines_meant d ls ++ ks) (append-nil (line_meant d line) ∙ e))
    ∙ append_assoc (lines_meant d ls) (meant ∷ []) (lines_meant d more))
    t

time_refutes : (d : Pair) (P : Problem) (ls : List Line) (line : Line) (h : List Part) (meant : model.Line) (time : Time) (n : ℕ) (v : Verdict Frac64) → line_meant d line ≡ meant ∷ [] → TimeFault P (plan_of d ls false) h n meant time v → Refutes d P (ls ++ line ∷ []) v
time_refutes d P ls line h meant time n v e (after_end b k) = refutes d P (ls ++ line ∷ []) v (none_after_line d P ls line h meant breach.AfterEnd e b)
time_refutes d P ls line h meant time n v e (no_value b f k) = subst (Refutes d P (ls ++ line ∷ [])) (sym k) tt
time_refutes d P ls line h meant time n v e (goes_back b f k) = refutes d P (ls ++ line ∷ []) v (none_after_line d P ls line h meant breach.TimeGoesBack e b)

-- ---- the lines before are worked on the way

pub unbegun_is : (P : Problem) (L : Plan) (h : List Part) → (HasBegun L → ⊥) → Prefix P L h → h ≡ first_part P ∷ []
unbegun_is P L h n p = p.begins ∙ ap (λ r. first_part P ∷ r) (unbegun_rest P L (first_view P) p.rest n p.follow)

pub some_more : (xs ys : List model.Line) → xs ++ ys ≡ [] → xs ≡ []
some_more [] ys e = refl
some_more (x ∷ xs) ys e = cc e

pub begun_more : (d : Pair) (ls more : List Line) (closed : Bool) → HasBegun (plan_of d ls false) → HasBegun (plan_of d (ls ++ more) closed)
begun_more d ls more closed (inl n) = inl (λ e. n (some_more (lines_meant d ls) (lines_meant d more) (sym (lines_meant-more d ls more) ∙ e)))
begun_more d ls more closed (inr t) = let f : false ≡ true = t in absurd (cc f)

is_begun : (ls : List model.Line) → (HasBegun (record { lines = ls; closed = false })) ⊎ (HasBegun (record { lines = ls; closed = false }) → ⊥)
is_begun [] = inr (λ b. elim b [ inl n ↦ n refl | inr t ↦ (let f : false ≡ true = t in cc f) ])
is_begun (l ∷ ls) = inl (inl (λ e. cc e))

-- the lines read, and the same with more
are_worked : (d : Pair) (P : Problem) (ls more : List Line) (closed : Bool) (most : ℕ) (g h : List Part) (v : Verdict Frac64) → Prefix P (plan_of d ls false) g → IsClear P (plan_of d ls false) most (instances_of d ls) g → IsWaiting P (plan_of d ls false) most (instances_of d ls) g → Prefix P (plan_of d (ls ++ more) closed) h → Stands P (plan_of d (ls ++ more) closed) most (instances_of d (ls ++ more)) h v → (HasBegun (plan_of d (ls ++ more) closed)) ⊎ (HasBegun (plan_of d (ls ++ more) closed) → ⊥) → AreWorked d P most ls h
are_worked d P ls more closed most g h v a c w p s (inl b) =
    let L = plan_of d ls false in
    let M = plan_of d (ls ++ more) closed in
    record {
      front = g;
      prefix = a;
      waits = w;
      begins = begins_by P M most (instances_of d (ls ++ more)) g h v (prefix_goes_on P L M g a (goes_on d ls more false closed) p.ordered b)
          (clear_grows P L M most (instances_of d ls) (instances_of d (ls ++ more)) (goes_on d ls more false closed) (instances_agree d ls more) g a c) p s;
    }
are_worked d P ls more closed most g h v a c w p s (inr n) = record {
  front = g;
  prefix = a;
  waits = w;
  begins = record {
    rest = [];
    is = unbegun_is P (plan_of d (ls ++ more) closed) h n p ∙ sym (unbegun_is P (plan_of d ls false) g (λ b. n (begun_more d ls more closed b)) a) ∙ sym (append-nil g);
  };
}

-- ---- a fault comes where the lines before are worked

-- what is out of a report is out of a longer one
part_longer : (halt : Halt) (out report more : List ℕ) → IsPartOut halt out report → IsPartOut halt out (report ++ more)
part_longer (Refused v) out report more o = (o.0 ++ more, ap (λ t. t ++ more) o.1 ∙ append_assoc out o.0 more)
part_longer Memory out report more o = (o.0 ++ more, ap (λ t. t ++ more) o.1 ∙ append_assoc out o.0 more)
part_longer WriteFault out report more o = (
  o.0 ++ more,
  ap (λ t. t ++ more) o.1 ∙ append_assoc out o.0 more,
  (let some : 0 < length o.0 = o.2 in omega (arith, length-append o.0 more)),
)

-- a fault comes in one history with these lines, in a beginning of which they are worked
record IsCutBehind {V : Type 0} (d : Pair) (P : Problem) (T : Telling P V) (M : Plan) (most : ℕ) (instance : ℕ → List Test) (ls : List Line) (out : List ℕ) (halt : Halt) : Type 0 where
  cut : IsCutShort P T M most instance out halt
  worked : AreWorked d P most ls cut.history

module _ {V : Type 0} (d : Pair) (P : Problem) (T : Telling P V) (ls more : List Line) (closed : Bool) (most : ℕ) (g : List Part) (account : Account V) (out : List ℕ) (halt : Halt)
    (r : IsReported P T (plan_of d ls false) most (instances_of d ls) g account) (w : IsWaiting P (plan_of d ls false) most (instances_of d ls) g)
    (s : IsCutShort P T (plan_of d (ls ++ more) closed) most (instances_of d (ls ++ more)) out halt) where
  abbrev L : Plan
  L = plan_of d ls false

  abbrev M : Plan
  M = plan_of d (ls ++ more) closed

  more_lines : M ≡ record { lines = L.lines ++ lines_meant d more; closed = closed }
  more_lines = λ i. record { lines = lines_meant-more d ls more i; closed = closed }

  worked_in : (h : List Part) → Begins g h → AreWorked d P most ls h
  worked_in h b = record { front = g; prefix = r.prefix; waits = w; begins = b }

  -- it comes before they are worked
  cut_sooner : Prefix P M g → HasBegun M → Begins s.history g → IsCutBehind d P T M most (instances_of d (ls ++ more)) ls out halt
  cut_sooner p b x =
      let told : T.Tells M g account.told = subst (λ (A : Plan). T.Tells A g account.told) (sym more_lines) (T.stays L (lines_meant d more) closed g account.told r.prefix r.told.tells) in
      let k = T.grows M s.history x.rest s.account.told account.told s.reported.told.tells (subst (λ (f : List Part). T.Tells M f account.told) x.is told) in
      record {
        cut = record {
          history = g;
          account = account;
          reported = record {
            prefix = p;
            few = r.few;
            clear = clear_grows P L M most (instances_of d ls) (instances_of d (ls ++ more)) (goes_on d ls more false closed) (instances_agree d ls more) g r.prefix r.clear;
            told = record { tells = told; entries = r.told.entries; firings = r.told.firings };
          };
          part = subst (IsPartOut halt out) (sym k.1) (part_longer halt out (T.bytes s.account.told) k.0 s.part);
        };
        worked = worked_in g (record { rest = []; is = sym (append-nil g) });
      }

  cut_begun : HasBegun M → IsCutBehind d P T M most (instances_of d (ls ++ more)) ls out halt
  cut_begun b =
      let p = prefix_goes_on P L M g r.prefix (goes_on d ls more false closed) s.reported.prefix.ordered b in
      elim (one_path P M g s.history p s.reported.prefix) [
        | inl x ↦ record { cut = s; worked = worked_in s.history x }
        | inr x ↦ cut_sooner p b x
      ]

  cut_worked : (HasBegun M) ⊎ (HasBegun M → ⊥) → IsCutBehind d P T M most (instances_of d (ls ++ more)) ls out halt
  cut_worked (inl b) = cut_begun b
  cut_worked (inr n) = record {
    cut = s;
    worked = worked_in s.history (record {
      rest = [];
      is = unbegun_is P M s.history n s.reported.prefix ∙ sym (unbegun_is P L g (λ b. n (begun_more d ls more closed b)) r.prefix) ∙ sym (append-nil g);
    });
  }

-- ---- what the run leaves

-- the report is that of the lines read, which are worked
pub waiting_report : {V : Type 0} (d : Pair) (P : Problem) (T : Telling P V) (ls : List Line) (most : ℕ) (h : List Part) (run : Progress V) → CanGoOn P run.timeline → run.timeline.line.most ≡ most → ReadiedFor d P T ls h run → IsReported P T (plan_of d ls false) most (instances_of d ls) h run.account
waiting_report d P T ls most h run c m r =
    subst (λ k. IsReported P T (plan_of d ls false) k (instances_of d ls) h run.account) m
    (reported P T (plan_of d ls false) (instances_of d ls) h run.timeline.line run.account run.account r.played c.within refl)

pub waiting_for : {V : Type 0} (d : Pair) (P : Problem) (T : Telling P V) (ls : List Line) (most : ℕ) (h : List Part) (run : Progress V) → run.timeline.line.most ≡ most → ReadiedFor d P T ls h run → IsWaiting P (plan_of d ls false) most (instances_of d ls) h
waiting_for d P T ls most h run m r =
    subst (λ k. IsWaiting P (plan_of d ls false) k (instances_of d ls) h) m (waits P T (plan_of d ls false) (instances_of d ls) h run r)

-- the lines that are played are worked
pub works_out : {V : Type 0} (d : Pair) (P : Problem) (T : Telling P V) (start run : Progress V) (lines : List Line) → HasPlayed d P T lines start run → (h : List Part) → ReadiedFor d P T [] h start → IsWorkedOut d P T start.timeline.line.most lines
works_out d P T start run lines r h ready =
    let a = r.ready h ready in
    record {
      history = a.0;
      account = run.account;
      reported = waiting_report d P T lines start.timeline.line.most a.0 run r.rests.can r.rests.most_is a.1;
      waits = waiting_for d P T lines start.timeline.line.most a.0 run r.rests.most_is a.1;
    }

-- the next line is the last of those read
pub lines_then : (lines : List Line) (line : Line) (behind : List (Result Line PlanFault)) → map Ok lines ++ Ok line ∷ behind ≡ map Ok (lines ++ line ∷ []) ++ behind
lines_then [] line behind = refl
lines_then (x ∷ lines) line behind = ap (λ rs. Ok x ∷ rs) (lines_then lines line behind)

-- the lines of these whole lines begin with those that are played
module _ {V : Type 0} (d : Pair) (P : Problem) (T : Telling P V) (start run : Progress V) (lines : List Line) (r : HasPlayed d P T lines start run) (whole : List ℕ) (behind : List (Result Line PlanFault)) (more : Bool) (piece : List ℕ) where
  -- the verdict on a next line that is none
  none_next : (fault : PlanFault) (v : Verdict Frac64) (h : List Part) → plan_lines Timed whole ≡ map Ok lines ++ Err fault ∷ behind → NamesFault fault v → Refutes d P (lines ++ []) v → ReadiedFor d P T [] h start → IsStoppedInText d P T start.timeline.line.most more whole piece run.account v
  none_next fault v h e n f ready =
      let a = r.ready h ready in
      let w = waiting_report d P T lines start.timeline.line.most a.0 run r.rests.can r.rests.most_is a.1 in
      let k = waiting_for d P T lines start.timeline.line.most a.0 run r.rests.most_is a.1 in
      let longest = waiting_longest d P lines start.timeline.line.most (instances_of d lines) a.0 w.prefix k in
      record {
        refusal = record {
          before = lines;
          rest = Err fault ∷ behind;
          read = e;
          times = r.times;
          reading = reading_of lines false;
          history = a.0;
          prefix = w.prefix;
          few = w.few;
          clear = w.clear;
          cause = record { reads = refl; waits = k; names = n };
          furthest = λ other p c. longest.longest other p;
          longest = λ _. longest;
          final = f;
        };
        told = w.told;
      }

  -- a fault comes behind them
  pub cut_behind : (rest : List (Result Line PlanFault)) (out : List ℕ) (halt : Halt) (h : List Part) → plan_lines Timed whole ≡ map Ok lines ++ rest → IsPartOut halt out (T.bytes run.account.told) → ReadiedFor d P T [] h start → IsCutShortInText d P T start.timeline.line.most more whole out halt
  cut_behind rest out halt h e o ready =
      let a = r.ready h ready in
      let w = waiting_report d P T lines start.timeline.line.most a.0 run r.rests.can r.rests.most_is a.1 in
      record {
        reading = reading_of lines false;
        cut = record { history = a.0; account = run.account; reported = w; part = o };
        played = record {
          before = lines;
          last = [];
          are = sym (append-nil lines);
          one = omega arith;
          rest = rest;
          read = e;
          all_read = λ c. absurd (let f : false ≡ true = c in cc f);
          times = r.times;
          worked = record {
            front = a.0;
            prefix = w.prefix;
            waits = waiting_for d P T lines start.timeline.line.most a.0 run r.rests.most_is a.1;
            begins = record { rest = []; is = sym (append-nil a.0) };
          };
        };
      }

  pub bad_stops : (fault : PlanFault) (out : List ℕ) (h : List Part) → plan_lines Timed whole ≡ map Ok lines ++ Err fault ∷ behind → IsPartOut Memory out (T.bytes run.account.told) → ReadiedFor d P T [] h start → StopsInText d P T start.timeline.line.most more whole piece (left_by out run) (line_halt fault)
  bad_stops (faults.NotLine n begin last) out h e o ready = none_next (faults.NotLine n begin last) (Other (BadLine n begin last)) h e refl tt ready
  bad_stops (faults.LineTooLong n) out h e o ready = none_next (faults.LineTooLong n) (Other (LineTooLong n)) h e refl tt ready
  bad_stops faults.Memory out h e o ready = cut_behind (Err faults.Memory ∷ behind) out Memory h e o ready

  -- one comes in the next line, or on the way to it
  cut_with : (line : Line) (out : List ℕ) (halt : Halt) (g : List Part) → IsReported P T (plan_of d lines false) start.timeline.line.most (instances_of d lines) g run.account → IsWaiting P (plan_of d lines false) start.timeline.line.most (instances_of d lines) g → plan_lines Timed whole ≡ map Ok lines ++ Ok line ∷ behind → IsCutShortIn d P T lines start.timeline.line.most line out halt → IsCutShortInText d P T start.timeline.line.most more whole out halt
  cut_with line out halt g ready w e s =
      let k = cut_worked d P T lines (line ∷ []) false start.timeline.line.most g run.account out halt ready w s.cut (is_begun (lines_meant d (lines ++ line ∷ []))) in
      record {
        reading = reading_of (lines ++ line ∷ []) false;
        cut = k.cut;
        played = record {
          before = lines;
          last = line ∷ [];
          are = refl;
          one = omega arith;
          rest = behind;
          read = e ∙ lines_then lines line behind;
          all_read = λ c. absurd (let f : false ≡ true = c in cc f);
          times = all_more HasValue lines line r.times s.value;
          worked = k.worked;
        };
      }

  line_stops : (new : Left V) (line : Line) (halt : Halt) (g : List Part) → IsReported P T (plan_of d lines false) start.timeline.line.most (instances_of d lines) g run.account → IsWaiting P (plan_of d lines false) start.timeline.line.most (instances_of d lines) g → plan_lines Timed whole ≡ map Ok lines ++ Ok line ∷ behind → StopsInLine d P T lines start.timeline.line.most line new halt → StopsInText d P T start.timeline.line.most more whole piece new halt
  line_stops new line Memory g ready w e s = cut_with line new.out Memory g ready w e s
  line_stops new line WriteFault g ready w e s = cut_with line new.out WriteFault g ready w e s
  line_stops new line (Refused v) g ready w e (inl b) =
      let longest = waiting_longest d P lines start.timeline.line.most (instances_of d lines) b.history b.reported.prefix b.waits in
      record {
        refusal = record {
          before = lines;
          rest = Ok line ∷ behind;
          read = e;
          times = r.times;
          reading = reading_of lines false;
          history = b.history;
          prefix = b.reported.prefix;
          few = b.reported.few;
          clear = b.reported.clear;
          cause = inl (record { reads = refl; waits = b.waits; meant = b.meant; meant_is = b.meant_is; time = b.time; time_is = b.time_is; why = b.why });
          furthest = λ other p c. longest.longest other p;
          longest = λ _. longest;
          final = time_refutes d P lines line b.history b.meant b.time (number_in line) v b.meant_is b.why;
        };
        told = b.reported.told;
      }
  line_stops new line (Refused v) g ready w e (inr b) =
      let k = b.stopped in
      let ls = lines ++ line ∷ [] in
      record {
        refusal = record {
          before = lines;
          rest = Ok line ∷ behind;
          read = e;
          times = r.times;
          reading = reading_of ls false;
          history = k.stopped.history;
          prefix = k.stopped.reported.prefix;
          few = k.stopped.reported.few;
          clear = k.stopped.reported.clear;
          cause = inr (record {
            reads = refl;
            begun = b.begun;
            value = b.value;
            worked = are_worked d P lines (line ∷ []) false start.timeline.line.most g k.stopped.history v ready.prefix ready.clear w k.stopped.reported.prefix k.stopped.stands
                (is_begun (lines_meant d ls));
            stands = k.stopped.stands;
            names = k.names;
          });
          furthest = λ other p c. begins_by P (plan_of d ls false) start.timeline.line.most (instances_of d ls) other k.stopped.history v p c k.stopped.reported.prefix k.stopped.stands;
          longest = stands_longest P (plan_of d ls false) start.timeline.line.most (instances_of d ls) k.stopped.history v k.stopped.stands;
          final = stands_refutes d P ls start.timeline.line.most (instances_of d ls) k.stopped.history v k.stopped.stands;
        };
        told = k.stopped.reported.told;
      }

  -- the next line halts the run
  pub next_stops : (new : Left V) (line : Line) (halt : Halt) (h : List Part) → plan_lines Timed whole ≡ map Ok lines ++ Ok line ∷ behind → HaltsInLine d P T line run new halt → ReadiedFor d P T [] h start → StopsInText d P T start.timeline.line.most more whole piece new halt
  next_stops new line halt h e s ready =
      let a = r.ready h ready in
      line_stops new line halt a.0 (waiting_report d P T lines start.timeline.line.most a.0 run r.rests.can r.rests.most_is a.1)
      (waiting_for d P T lines start.timeline.line.most a.0 run r.rests.most_is a.1) e
      (subst (λ m. StopsInLine d P T lines m line new halt) r.rests.most_is (s.stops lines a.0 a.1))

-- ---- all lines are worked

pub end_cut : {V : Type 0} (d : Pair) (P : Problem) (T : Telling P V) (most : ℕ) (text : List ℕ) (lines : List Line) (out : List ℕ) (halt : Halt) → plan_lines Timed text ≡ map Ok lines → All HasValue lines → IsWorkedOut d P T most lines → IsCutShort P T (plan_of d lines true) most (instances_of d lines) out halt → IsCutShortInText d P T most false text out halt
end_cut d P T most text lines out halt said times g s =
    let k : IsCutBehind d P T (plan_of d lines true) most (instances_of d lines) lines out halt =
    subst (λ (ls : List Line). IsCutBehind d P T (plan_of d ls true) most (instances_of d ls) lines out halt) (append-nil lines)
    (cut_worked d P T lines [] true most g.history g.account out halt g.reported g.waits
    (subst (λ (ls : List Line). IsCutShort P T (plan_of d ls true) most (instances_of d ls) out halt) (sym (append-nil lines)) s) (inl (inr refl))) in
    record {
      reading = reading_of lines true;
      cut = k.cut;
      played = record {
        before = lines;
        last = [];
        are = sym (append-nil lines);
        one = omega arith;
        rest = [];
        read = said ∙ sym (append-nil (map Ok lines));
        all_read = λ c. (refl, refl, refl);
        times = times;
        worked = k.worked;
      };
    }

module _ {V : Type 0} (d : Pair) (P : Problem) (T : Telling P V) (text : List ℕ) (old mid : Progress V) (lines : List Line) (r : HasPlayed d P T lines old mid) (said : plan_lines Timed text ≡ map Ok lines) where
  end_worked : (g h : List Part) (v : Verdict Frac64) → IsReported P T (plan_of d lines false) old.timeline.line.most (instances_of d lines) g mid.account → IsWaiting P (plan_of d lines false) old.timeline.line.most (instances_of d lines) g → Prefix P (plan_of d lines true) h → Stands P (plan_of d lines true) old.timeline.line.most (instances_of d lines) h v → AreWorked d P old.timeline.line.most lines h
  end_worked g h v a w p s =
      are_worked d P lines [] true old.timeline.line.most g h v a.prefix a.clear w
      (subst (λ (ls : List Line). Prefix P (plan_of d ls true) h) (sym (append-nil lines)) p)
      (subst (λ (ls : List Line). Stands P (plan_of d ls true) old.timeline.line.most (instances_of d ls) h v) (sym (append-nil lines)) s) (inl (inr refl))

  end_stops : (new : Left V) (halt : Halt) (g : List Part) → IsReported P T (plan_of d lines false) old.timeline.line.most (instances_of d lines) g mid.account → IsWaiting P (plan_of d lines false) old.timeline.line.most (instances_of d lines) g → StopsOnWay P T (plan_of d lines true) old.timeline.line.most (instances_of d lines) new halt → StopsInText d P T old.timeline.line.most false text [] new halt
  end_stops new Memory g ready w s =
      end_cut d P T old.timeline.line.most text lines new.out Memory said r.times (record { history = g; account = mid.account; reported = ready; waits = w }) s
  end_stops new WriteFault g ready w s =
      end_cut d P T old.timeline.line.most text lines new.out WriteFault said r.times (record { history = g; account = mid.account; reported = ready; waits = w }) s
  end_stops new (Refused v) g ready w s = record {
    refusal = record {
      before = lines;
      rest = [];
      read = said ∙ sym (append-nil (map Ok lines));
      times = r.times;
      reading = reading_of lines true;
      history = s.stopped.history;
      prefix = s.stopped.reported.prefix;
      few = s.stopped.reported.few;
      clear = s.stopped.reported.clear;
      cause = record { reads = refl; worked = end_worked g s.stopped.history v ready w s.stopped.reported.prefix s.stopped.stands; stands = s.stopped.stands; names = s.names };
      furthest = λ other p c. begins_by P (plan_of d lines true) old.timeline.line.most (instances_of d lines) other s.stopped.history v p c s.stopped.reported.prefix s.stopped.stands;
      longest = stands_longest P (plan_of d lines true) old.timeline.line.most (instances_of d lines) s.stopped.history v s.stopped.stands;
      final = subst (λ (ls : List Line). Refutes d P ls v) (sym (append-nil lines)) (end_refutes d P lines old.timeline.line.most (instances_of d lines) s.stopped.history v s.stopped.stands);
    };
    told = s.stopped.reported.told;
  }

  -- the text is at its end
  pub halts_after_all : (new : Left V) (halt : Halt) (h : List Part) → HaltsAtEnd P T mid new halt → ReadiedFor d P T [] h old → StopsInText d P T old.timeline.line.most false text [] new halt
  halts_after_all new halt h s ready =
      let a = r.ready h ready in
      end_stops new halt a.0 (waiting_report d P T lines old.timeline.line.most a.0 mid r.rests.can r.rests.most_is a.1)
      (waiting_for d P T lines old.timeline.line.most a.0 mid r.rests.most_is a.1)
      (subst (λ m. StopsOnWay P T (plan_of d lines true) m (instances_of d lines) new halt) r.rests.most_is (s.stops (plan_of d lines false) (instances_of d lines) a.0 a.1))

  -- the text goes on behind a piece of a line
  pub cut_stops : (piece : List ℕ) (v : Verdict Frac64) (h : List Part) → v ≡ Other (cut_verdict (length lines + 1) (length piece)) → ReadiedFor d P T [] h old → IsStoppedInText d P T old.timeline.line.most true text piece mid.account v
  cut_stops piece v h e ready =
      let a = r.ready h ready in
      let w = waiting_report d P T lines old.timeline.line.most a.0 mid r.rests.can r.rests.most_is a.1 in
      let k = waiting_for d P T lines old.timeline.line.most a.0 mid r.rests.most_is a.1 in
      let longest = waiting_longest d P lines old.timeline.line.most (instances_of d lines) a.0 w.prefix k in
      record {
        refusal = record {
          before = lines;
          rest = [];
          read = said ∙ sym (append-nil (map Ok lines));
          times = r.times;
          reading = reading_of lines false;
          history = a.0;
          prefix = w.prefix;
          few = w.few;
          clear = w.clear;
          cause = record { reads = refl; waits = k; is = e };
          furthest = λ other p c. longest.longest other p;
          longest = λ _. longest;
          final = subst (Refutes d P (lines ++ [])) (sym e) tt;
        };
        told = w.told;
      }
