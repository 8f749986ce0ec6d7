-- What is told of a plan text that is played while constraints are watched.
use Rattle.std.proofs.Common.{◌≡◌, ℕ, Bool, ◌≤◌, true, false, List, [], ◌++◌, map, refl, ap, sym, subst, ◌∙◌}
use Rattle.std.specs.Prelude.{codes, length, All, IfErr, Result, Ok, Err, Option}
use Rattle.plus_model.specs.Terms.{Problem}
use Rattle.plus_model.specs.Plan.{Plan}
use Rattle.plus_model.specs.History.{Part}
use Rattle.plus_model.specs.Trajectory.{Prefix}
use Rattle.plus_model.proofs.Paths.{one_trajectory}
use Rattle.plus_io.specs.Limits.{text_limit}
use Rattle.plus_plan.specs.declared.forms.Line.{Line}
use Rattle.plus_plan.specs.declared.forms.PlanForm.TheVariants.{Timed}
use Rattle.plus_plan.specs.Lines.{plan_lines}
use Rattle.plus_timeline.specs.Played.{entries_of}
use Rattle.plus_number.specs.declared.frac.Frac64.{Frac64}
use Rattle.plus_number.specs.Frac.{fraction_of, IsFrac64}
use Rattle.plus_state.specs.View.{Labels}
use Rattle.plus_tree.specs.declared.trees.Domain.{Domain}
use Rattle.plus_tree.specs.declared.trees.Problem as tree
use Rattle.plus_expansion.specs.Counting.{IsGroundable}
use Rattle.plus_expansion.specs.Expansion.{expanded, labels_meant}
use Rattle.plus_report.specs.declared.refusals.Early.{Early}
use Rattle.plus_report.specs.declared.refusals.Early.TheVariants as early
use Rattle.plus_report.specs.declared.verdicts.Verdict.{Verdict}
use Rattle.plus_report.specs.declared.verdicts.Verdict.TheVariants.{Valid, Invalid, Beyond, Other}
use Rattle.plus_report.specs.Report.{report_of}
use Rattle.plus_report.specs.Verdicts.{verdict_text}
use Rattle.plus_stretch.specs.Tests.{Test}
use Rattle.plus_constraints.specs.Place.{Place}
use Rattle.plus_watch.specs.Watched.{places_of}
use Rattle.plus_watch.proofs.AllFound.{watch_tells}
use Rattle.plus_validator.specs.declared.halt.Halt.{Halt}
use Rattle.plus_validator.specs.declared.halt.Halt.TheVariants.{Refused, Memory, WriteFault}
use Rattle.plus_validator.specs.declared.judge.Judged.{Judged}
use Rattle.plus_validator.specs.declared.run.Run.{Run}
use Rattle.plus_validator.specs.Accepted.{IsAccepted}
use Rattle.plus_validator.specs.Account.{Progress, progress}
use Rattle.plus_validator.specs.Asking.{firings_of, instances_of, IsClear}
use Rattle.plus_validator.specs.Feeding.{IsPlayedOut, PlaysText, HaltsWith, StopsOn}
use Rattle.plus_validator.specs.Halts.{NamesOf, HaltFits}
use Rattle.plus_validator.specs.Handing.{left}
use Rattle.plus_validator.specs.Judged.{Says}
use Rattle.plus_validator.specs.Outcomes.{early_outcome, outcome_of}
use Rattle.plus_validator.specs.Plans.{pair, plan_of, plan_in, HasValue}
use Rattle.plus_validator.specs.Playing.{Begins, Ends}
use Rattle.plus_validator.specs.Stopped.{IsStoppedInText}
use Rattle.plus_validator.specs.Validates.{IsRead, IsRefusal}
use Rattle.plus_validator.specs.Verdicts as verdicts
use Rattle.plus_validator.specs.Verdicts.{JudgesWhole}
use Rattle.plus_validator.proofs.FiresLemmas.{fires_exactly}
use Rattle.plus_watching.specs.declared.findings.Findings.{Findings}
use Rattle.plus_watcher.specs.declared.rules.Rules.{Rules}
use Rattle.plus_watcher.specs.declared.watcher.Standing.{Standing}
use Rattle.plus_watcher.specs.declared.watcher.Standing.TheVariants.{Going, Limit, Lost}
use Rattle.plus_watcher.specs.declared.watcher.Watcher.{Watcher}
use Rattle.plus_watcher.specs.Stands.{constraints_in, AreOver, StandsBy, TellsOf}
use Rattle.plus_watching.specs.declared.telling.Observer.{Observer}
use Rattle.plus_watching.specs.Watching.{Seen, watching, watched_told}
use Rattle.plus_watching.specs.Watches.{Gathers, SeenOn, OnWhole, WatchesText}
use Rattle.plus_watcher.proofs.Lengths.{lengths_fit}

-- ---- what is seen

module _ (P : Problem) (L : Plan) (most : ℕ) (instance : ℕ → List Test) (h : List Part) (w : Watcher) (p : Prefix P L h) where
  abbrev places : List (Option Place)
  places = places_of fraction_of w.firsts.items

  seen_by : (s : Standing) → StandsBy P h w s → SeenOn P (constraints_in w.rules) places s h
  seen_by Going k = record { passed = k.passed; places = k.firsts; found = watch_tells IsFrac64 P L h (constraints_in w.rules) p k.passed }
  seen_by (Limit index stop) k = k
  seen_by Lost k = k

  seen_on : IsClear P L most instance h → AreOver P w.rules → TellsOf P h w → SeenOn P (constraints_in w.rules) places w.standing h
  seen_on clear over tells = seen_by w.standing (tells over (lengths_fit P L h most instance p clear))

-- ---- a refusal

early_refuses : (e : Early) → IsRefusal (early_outcome e)
early_refuses (early.BadText text start last word) = tt
early_refuses (early.BadLine line start last) = tt
early_refuses (early.TooLong text) = tt
early_refuses (early.Depth text at) = tt
early_refuses early.DepthOut = tt
early_refuses (early.LineTooLong line) = tt
early_refuses (early.Literal text start last) = tt
early_refuses (early.TooMany kind most) = tt

verdict_refuses : (P : Problem) (v : Verdict Frac64) → NamesOf P (Refused v) → IsRefusal (outcome_of v)
verdict_refuses P Valid n = absurd n
verdict_refuses P (Invalid b) n = tt
verdict_refuses P (Beyond l) n = tt
verdict_refuses P (Other e) n = early_refuses e

-- ---- the text

-- the judgement, and what is seen on its history
record Watches (d : Domain) (p : tree.Problem) (most : ℕ) (bytes : List ℕ) (w : Watcher) (j : Judged) : Type 0 where
  text : List ℕ
  goes_on : Bool
  read : IsRead bytes text goes_on
  judges : JudgesWhole d p most text goes_on j
  seen : OnWhole d p most text goes_on j judges (SeenOn (expanded d p) (constraints_in w.rules) (places_of fraction_of w.firsts.items) w.standing)

module _ (d : Domain) (p : tree.Problem) (N : Labels) (P : Problem) (most : ℕ) (bytes : List ℕ) (old : Progress Seen) (sent : List ℕ) (run : Run Observer) (z : IsGroundable IsFrac64 d p)
    (e : P ≡ expanded d p) (n : N ≡ labels_meant d p) (b : Begins P (watching N P) most old) (over : AreOver P run.teller.watcher.rules) (j : Judged) where
  abbrev new : Progress Seen
  new = progress watched_told sent run

  over_meant : AreOver (expanded d p) run.teller.watcher.rules
  over_meant = subst (λ (Q : Problem). AreOver Q run.teller.watcher.rules) e over

  -- it is accepted
  abbrev PlayedTo : Labels → Problem → ℕ → List Line → List Part → Type 0
  PlayedTo M Q n lines h = Ends Q (watching M Q) (plan_of (pair d p) lines true) n (instances_of (pair d p) lines) h new.account

  ended_there : (lines : List Line) (h : List Part) → PlayedTo N P old.timeline.line.most lines h → PlayedTo (labels_meant d p) (expanded d p) most lines h
  ended_there lines h x =
      subst (λ (M : Labels). PlayedTo M (expanded d p) most lines h) n
      (subst (λ (Q : Problem). PlayedTo N Q most lines h) e (subst (λ m. PlayedTo N P m lines h) b.rests.most_is x))

  abbrev whole_report : List Line → List Part → List ℕ
  whole_report lines h = report_of (labels_meant d p) (expanded d p) (plan_of (pair d p) lines true) h ++ codes "valid\n"

  accepted_so : (lines : List Line) (h : List Part) → length bytes ≤ text_limit → plan_lines Timed bytes ≡ map Ok lines → All HasValue lines → PlayedTo (labels_meant d p) (expanded d p) most lines h
      → (a : IsAccepted d p most bytes (whole_report lines h)) × (a.history ≡ h)
  accepted_so lines h within read times x = (
    record {
      groundable = z;
      within = within;
      lines = lines;
      read = read;
      history = h;
      happens = x.happens;
      only = λ other t. one_trajectory (expanded d p) (plan_of (pair d p) lines true) other h t x.happens;
      fires = fires_exactly (expanded d p) (plan_of (pair d p) lines true) h x.happens;
      few = x.few;
      times = times;
      clear = x.clear;
      passed = x.passed;
      written = refl;
    },
    refl,
  )

  all_played : PlaysText (pair d p) P (watching N P) bytes old new → Says N P run (Ok tt) j → Watches d p most bytes run.teller.watcher j
  all_played r s =
      let start = b.ready (plan_of (pair d p) [] false) (instances_of (pair d p) []) refl refl in
      let finish = r.plays.ends start.0 start.1 in
      let lines = r.plays.lines in
      let h = finish.0 in
      let x : PlayedTo (labels_meant d p) (expanded d p) most lines h = ended_there lines h finish.1 in
      let a = accepted_so lines h r.within r.plays.read r.plays.times x in
      record {
        text = bytes;
        goes_on = false;
        read = (refl, r.within);
        judges = verdicts.accepted refl (record {
          verdict = s.gives;
          line = s.line ∙ ap (verdict_text fraction_of N P) s.gives;
          bytes = whole_report lines h;
          accepted = a.0;
          entries = s.entries ∙ x.told.entries ∙ ap entries_of (sym a.1);
          firings = s.firings ∙ x.told.firings ∙ ap firings_of (sym a.1);
        });
        seen = subst (SeenOn (expanded d p) (constraints_in run.teller.watcher.rules) (places_of fraction_of run.teller.watcher.firsts.items) run.teller.watcher.standing) (sym a.1)
            (seen_on (expanded d p) (plan_of (pair d p) lines true) most (instances_of (pair d p) lines) h run.teller.watcher x.happens.prefix x.clear over_meant x.told.tells.1);
      }

  -- or refused
  abbrev stopped_at : StopsOn (pair d p) P (watching N P) old.timeline.line.most bytes (left watched_told sent run) (Refused j.verdict) → Type 0
  stopped_at at = IsStoppedInText (pair d p) (expanded d p) (watching (labels_meant d p) (expanded d p)) most at.goes_on at.whole at.piece new.account j.verdict

  stopped_there : (at : StopsOn (pair d p) P (watching N P) old.timeline.line.most bytes (left watched_told sent run) (Refused j.verdict)) → stopped_at at
  stopped_there at =
      subst (λ (M : Labels). IsStoppedInText (pair d p) (expanded d p) (watching M (expanded d p)) most at.goes_on at.whole at.piece new.account j.verdict) n
      (subst (λ (Q : Problem). IsStoppedInText (pair d p) Q (watching N Q) most at.goes_on at.whole at.piece new.account j.verdict) e
      (subst (λ m. IsStoppedInText (pair d p) P (watching N P) m at.goes_on at.whole at.piece new.account j.verdict) b.rests.most_is at.stopped))

  is_stopped : HaltsWith (pair d p) P (watching N P) bytes old (left watched_told sent run) (Refused j.verdict) → NamesOf P (Refused j.verdict) → Says N P run (Err (Refused j.verdict)) j → Watches d p most bytes run.teller.watcher j
  is_stopped r names s =
      let start = b.ready (plan_of (pair d p) [] false) (instances_of (pair d p) []) refl refl in
      let at = r.stops start.0 start.1 in
      let there = stopped_there at in
      let refusal = there.refusal in
      record {
        text = at.text;
        goes_on = at.goes_on;
        read = at.read;
        judges = verdicts.refused (record {
          refusal = verdict_refuses P j.verdict names;
          line = s.line ∙ ap (λ (M : Labels). verdict_text fraction_of M P j.verdict) n ∙ ap (λ (Q : Problem). verdict_text fraction_of (labels_meant d p) Q j.verdict) e;
          bytes =
              report_of (labels_meant d p) (expanded d p) (plan_in (pair d p) refusal.reading) refusal.history
              ++ verdict_text fraction_of (labels_meant d p) (expanded d p) j.verdict;
          refused = record {
            groundable = z;
            whole = at.whole;
            piece = at.piece;
            cut = at.cut;
            verdict = j.verdict;
            outcome_is = refl;
            refusal = refusal;
            written = refl;
          };
          verdict = refl;
          entries = s.entries ∙ there.told.entries;
          firings = s.firings ∙ there.told.firings;
        });
        seen = seen_on (expanded d p) (plan_in (pair d p) refusal.reading) most (instances_of (pair d p) refusal.reading.lines) refusal.history run.teller.watcher
            refusal.prefix refusal.clear over_meant there.told.tells.1;
      }

  refused_by : (v : Verdict Frac64) → j.verdict ≡ v → HaltsWith (pair d p) P (watching N P) bytes old (left watched_told sent run) (Refused v) → NamesOf P (Refused v) → Says N P run (Err (Refused v)) j → Watches d p most bytes run.teller.watcher j
  refused_by v i r names s =
      is_stopped (subst (λ (x : Verdict Frac64). HaltsWith (pair d p) P (watching N P) bytes old (left watched_told sent run) (Refused x)) (sym i) r)
      (subst (λ (x : Verdict Frac64). NamesOf P (Refused x)) (sym i) names) (subst (λ (x : Verdict Frac64). Says N P run (Err (Refused x)) j) (sym i) s)

  watches : (played : Result (Unit {0}) Halt) → IsPlayedOut (pair d p) P (watching N P) watched_told bytes old sent run played → IfErr played (HaltFits P) → Says N P run played j → Watches d p most bytes run.teller.watcher j
  watches (Ok u) r f s = all_played r s
  watches (Err (Refused v)) r f s = refused_by v s.gives r f.names s
  watches (Err Memory) r f s = absurd s.gives
  watches (Err WriteFault) r f s = absurd s.gives

-- with what was gathered
module _ (d : Domain) (p : tree.Problem) (N : Labels) (P : Problem) (most : ℕ) (bytes : List ℕ) (old : Progress Seen) (sent : List ℕ) (run : Run Observer) (z : IsGroundable IsFrac64 d p)
    (e : P ≡ expanded d p) (n : N ≡ labels_meant d p) (b : Begins P (watching N P) most old) (rules : Rules) (over : AreOver P rules) (same : run.teller.watcher.rules ≡ rules) where
  pub found_so : (played : Result (Unit {0}) Halt) → IsPlayedOut (pair d p) P (watching N P) watched_told bytes old sent run played → IfErr played (HaltFits P) → (f : Findings) → Gathers N P run played f → WatchesText d p (constraints_in rules) most bytes f
  found_so played r h f g =
      let w = watches d p N P most bytes old sent run z e n b (subst (AreOver P) (sym same) over) f.judged played r h g.says in
      record {
        text = w.text;
        goes_on = w.goes_on;
        read = w.read;
        judges = w.judges;
        seen = subst (λ (q : Rules). OnWhole d p most w.text w.goes_on f.judged w.judges (SeenOn (expanded d p) (constraints_in q) (places_of fraction_of f.firsts.items) f.standing)) same
            (subst (λ (s : Standing). OnWhole d p most w.text w.goes_on f.judged w.judges (SeenOn (expanded d p) (constraints_in run.teller.watcher.rules) (places_of fraction_of f.firsts.items) s)) (sym g.standing)
            (subst (λ (os : List _). OnWhole d p most w.text w.goes_on f.judged w.judges (SeenOn (expanded d p) (constraints_in run.teller.watcher.rules) (places_of fraction_of os) run.teller.watcher.standing)) (sym g.firsts) w.seen));
      }
