-- What of a report is out, and what is told by it.
use Rattle.std.proofs.Common.{◌≡◌, ℕ, ◌<◌, Bool, true, false, List, [], ◌∷◌, ◌++◌, map, length, take, Option, Some, None, refl, subst, sym, ap, ◌∙◌, arith, append-nil, append_assoc, length-append, inl, inr}
use Rattle.std.specs.Prelude.{All, IfSome, IfErr, Result, Ok, Err}
use Rattle.std.proofs.lemmas.List.{take_at}
use Rattle.plus_io.specs.Taken.{Took}
use Rattle.plus_model.specs.Terms.{Problem}
use Rattle.plus_model.specs.History.{Part}
use Rattle.plus_model.specs.Trajectory.{Prefix}
use Rattle.plus_number.specs.declared.frac.Frac64.{Frac64}
use Rattle.plus_number.specs.Frac.{IsFrac64}
use Rattle.plus_state.specs.View.{Labels}
use Rattle.plus_tree.specs.declared.trees.Domain.{Domain}
use Rattle.plus_tree.specs.declared.trees.Problem as tree
use Rattle.plus_expansion.specs.Counting.{IsGroundable}
use Rattle.plus_expansion.specs.Expansion.{expanded, labels_meant}
use Rattle.plus_plan.specs.declared.forms.Line.{Line}
use Rattle.plus_plan.specs.declared.forms.PlanForm.TheVariants.{Timed}
use Rattle.plus_plan.specs.declared.faults.PlanFault.{PlanFault}
use Rattle.plus_plan.specs.Lines.{plan_lines}
use Rattle.plus_plan.specs.Given.{HasGiven}
use Rattle.plus_plan.specs.Pending.{Pending}
use Rattle.plus_plan.specs.Pieces.{IsIdle}
use Rattle.plus_report.specs.declared.verdicts.Verdict.{Verdict}
use Rattle.plus_validator.specs.declared.halt.Halt.{Halt}
use Rattle.plus_validator.specs.declared.halt.Halt.TheVariants.{Refused, Memory, WriteFault}
use Rattle.plus_validator.specs.declared.run.Run.{Run}
use Rattle.plus_validator.specs.Account.{Account, Progress, progress}
use Rattle.plus_validator.specs.Asking.{instances_of}
use Rattle.plus_validator.specs.Halts.{HaltFits}
use Rattle.plus_validator.specs.Handing.{Left, left, IsPartOut}
use Rattle.plus_validator.specs.Plans.{Pair, pair, plan_of, plan_in, Reading, reading_of, HasValue}
use Rattle.plus_validator.specs.Playing.{Begins, ReadiedFor}
use Rattle.plus_validator.specs.Refused.{IsWaiting, IsPlayedOn, IsCut, WholeLines, Cause}
use Rattle.plus_validator.specs.Stopped.{IsCutShortInText, IsStoppedInText}
use Rattle.plus_validator.specs.Told.{reports, report_told}
use Rattle.plus_validator.specs.declared.memory.Report.{Report}
use Rattle.plus_validator.specs.Validates.{IsRead}
use Rattle.plus_validator.specs.Feeding.{HasPlayed, HaltsWith, PlaysText, IsPlayedOut}
use Rattle.plus_validator.specs.Leaving.{IsToldSoFar, TellsSoFar, TellsOnWay, TookSoFar, LeavesReport, BreaksOffSoFar, KeepsUp, unread, ahead}
use Rattle.plus_validator.proofs.Cutting.{cut_here, no_lf_from}
use Rattle.plus_validator.proofs.Handing.{took_both, kept_behind}
use Rattle.plus_validator.proofs.Played.{all_more}
use Rattle.plus_validator.proofs.TextStops.{waiting_report, waiting_for, lines_then, end_cut}

-- ---- the report of the lines read so far

told_in : (d : Pair) (N : Labels) (P : Problem) (most : ℕ) (text : List ℕ) (first now : Progress (List ℕ)) (lines : List Line) (reader : Pending) → IsGroundable IsFrac64 d.domain d.problem → Begins P (reports N P) most first → IsIdle reader → reader.closed ≡ false → HasGiven Timed text lines reader → HasPlayed d P (reports N P) lines first now → IsToldSoFar d N P most text now.account.told
told_in d N P most text first now lines reader z b i o given played =
    let start = b.ready (plan_of d [] false) (instances_of d []) refl refl in
    let there = played.ready start.0 start.1 in
    let same : now.timeline.line.most ≡ most = played.rests.most_is ∙ b.rests.most_is in
    let reported = waiting_report d P (reports N P) lines most there.0 now played.rests.can same there.1 in
    record {
      groundable = z;
      whole = given.given;
      piece = reader.rest;
      cut = subst (λ (t : List ℕ). IsCut t given.given reader.rest) (sym given.is) (cut_here given.given reader.rest (given.at_line o) (no_lf_from reader.rest i.no_lf));
      lines = lines;
      read = given.said;
      times = played.times;
      history = there.0;
      prefix = reported.prefix;
      few = reported.few;
      clear = reported.clear;
      waits = waiting_for d P (reports N P) lines most there.0 now same there.1;
      written = reported.told.tells;
    }

pub told_so_far : (d : Domain) (p : tree.Problem) (N : Labels) (P : Problem) (most : ℕ) (text : List ℕ) (first now : Progress (List ℕ)) (lines : List Line) (reader : Pending) → IsGroundable IsFrac64 d p → P ≡ expanded d p → N ≡ labels_meant d p → Begins P (reports N P) most first → IsIdle reader → reader.closed ≡ false → HasGiven Timed text lines reader → HasPlayed (pair d p) P (reports N P) lines first now → TellsSoFar d p most text now.account.told
told_so_far d p N P most text first now lines reader z e n b i o given played =
    subst (λ M. IsToldSoFar (pair d p) M (expanded d p) most text now.account.told) n
    (subst (λ Q. IsToldSoFar (pair d p) N Q most text now.account.told) e
    (told_in (pair d p) N P most text first now lines reader z b i o given played))

-- what is written later changes nothing of that
pub keeps_more : (d : Domain) (p : tree.Problem) (most : ℕ) (bytes rest old mid new : Option (List ℕ)) (later : List ℕ) → KeepsUp d p most bytes rest old mid → Took mid new later → KeepsUp d p most bytes rest old new
keeps_more d p most bytes rest old mid new later (unread t) k = unread t
keeps_more d p most bytes rest old mid new later (ahead front piece report more t l r w) k =
    ahead front piece report (more ++ later) t l r (subst (Took old new) (append_assoc report more later) (took_both old mid new (report ++ more) later w k))

-- ---- on the way that a line tells

-- which lines are played
module _ (d : Pair) (P : Problem) (most : ℕ) (whole : List ℕ) (before : List Line) (h : List Part) (times : All HasValue before) where
  abbrev OnWay : Bool → Reading → Type 0
  OnWay goes_on known = IsPlayedOn d P most goes_on whole known h

  plays_before : (goes_on : Bool) (behind : List (Result Line PlanFault)) (known : Reading) → plan_lines Timed whole ≡ map Ok before ++ behind → known ≡ reading_of before false → Prefix P (plan_in d known) h → IsWaiting P (plan_of d before false) most (instances_of d before) h → OnWay goes_on known
  plays_before goes_on behind known r e p w = subst (OnWay goes_on) (sym e) (record {
    before = before;
    last = [];
    are = sym (append-nil before);
    one = omega arith;
    rest = behind;
    read = r;
    all_read = λ c. absurd (let f : false ≡ true = c in cc f);
    times = times;
    worked = record { front = h; prefix = subst (λ (k : Reading). Prefix P (plan_in d k) h) e p; waits = w; begins = record { rest = []; is = sym (append-nil h) } };
  })

  cause_plays : (goes_on : Bool) (piece : List ℕ) (behind : List (Result Line PlanFault)) (known : Reading) (v : Verdict Frac64) → plan_lines Timed whole ≡ map Ok before ++ behind → Prefix P (plan_in d known) h → Cause d P most goes_on piece before behind known h v → OnWay goes_on known
  cause_plays false piece [] known v r p s = subst (OnWay false) (sym s.reads) (record {
    before = before;
    last = [];
    are = sym (append-nil before);
    one = omega arith;
    rest = [];
    read = r;
    all_read = λ c. (refl, refl, refl);
    times = times;
    worked = s.worked;
  })
  cause_plays true piece [] known v r p s = plays_before true [] known r s.reads p s.waits
  cause_plays goes_on piece (Err fault ∷ behind) known v r p s = plays_before goes_on (Err fault ∷ behind) known r s.reads p s.waits
  cause_plays goes_on piece (Ok line ∷ behind) known v r p (inl s) = plays_before goes_on (Ok line ∷ behind) known r s.reads p s.waits
  cause_plays goes_on piece (Ok line ∷ behind) known v r p (inr s) = subst (OnWay goes_on) (sym s.reads) (record {
    before = before;
    last = line ∷ [];
    are = refl;
    one = omega arith;
    rest = behind;
    read = r ∙ lines_then before line behind;
    all_read = λ c. absurd (let f : false ≡ true = c in cc f);
    times = all_more HasValue before line times s.value;
    worked = s.worked;
  })

-- what is out where a plan is refused
stopped_cut : (d : Pair) (N : Labels) (P : Problem) (most : ℕ) (goes_on : Bool) (whole piece : List ℕ) (account : Account (List ℕ)) (v : Verdict Frac64) (out : List ℕ) → IsStoppedInText d P (reports N P) most goes_on whole piece account v → IsPartOut Memory out account.told → IsCutShortInText d P (reports N P) most goes_on whole out Memory
stopped_cut d N P most goes_on whole piece account v out s o =
    let r = s.refusal in
    record {
      reading = r.reading;
      played = cause_plays d P most whole r.before r.history r.times goes_on piece r.rest r.reading v r.read r.prefix r.cause;
      cut = record {
        history = r.history;
        account = account;
        reported = record { prefix = r.prefix; few = r.few; clear = r.clear; told = s.told };
        part = o;
      };
    }

-- a part of what is told of a text is out
record IsPartTold (d : Domain) (p : tree.Problem) (most : ℕ) (bytes out : List ℕ) (halt : Halt) : Type 0 where
  report : List ℕ
  told : TellsOnWay d p most bytes report
  part : IsPartOut halt out report

module _ (d : Domain) (p : tree.Problem) (N : Labels) (P : Problem) (most : ℕ) (first : Progress (List ℕ)) (z : IsGroundable IsFrac64 d p) (e : P ≡ expanded d p) (n : N ≡ labels_meant d p) (b : Begins P (reports N P) most first) where
  abbrev start : (h : List Part) × ReadiedFor (pair d p) P (reports N P) [] h first
  start = b.ready (plan_of (pair d p) [] false) (instances_of (pair d p) []) refl refl

  module _ (bytes : List ℕ) where
    cut_told : (text : List ℕ) (goes_on : Bool) (whole piece out : List ℕ) (halt : Halt) → IsRead bytes text goes_on → WholeLines goes_on text whole piece → IsCutShortInText (pair d p) P (reports N P) first.timeline.line.most goes_on whole out halt → IsPartTold d p most bytes out halt
    cut_told text goes_on whole piece out halt r c s =
        let k : IsCutShortInText (pair d p) (expanded d p) (reports (labels_meant d p) (expanded d p)) most goes_on whole out halt =
        subst (λ (M : Labels). IsCutShortInText (pair d p) (expanded d p) (reports M (expanded d p)) most goes_on whole out halt) n
        (subst (λ (Q : Problem). IsCutShortInText (pair d p) Q (reports N Q) most goes_on whole out halt) e
        (subst (λ m. IsCutShortInText (pair d p) P (reports N P) m goes_on whole out halt) b.rests.most_is s)) in
        record {
          report = k.cut.account.told;
          told = record {
            groundable = z;
            text = text;
            goes_on = goes_on;
            within = r;
            whole = whole;
            piece = piece;
            cut = c;
            reading = k.reading;
            history = k.cut.history;
            played = k.played;
            prefix = k.cut.reported.prefix;
            few = k.cut.reported.few;
            clear = k.cut.reported.clear;
            written = k.cut.reported.told.tells;
          };
          part = k.cut.part;
        }

    -- the text is played
    played_told : (out : List ℕ) (new : Progress (List ℕ)) → IsPartOut Memory out new.account.told → PlaysText (pair d p) P (reports N P) bytes first new → IsPartTold d p most bytes out Memory
    played_told out new o s =
        let finish = s.plays.ends start.0 start.1 in
        cut_told bytes false bytes [] out Memory (refl, s.within) refl
        (end_cut (pair d p) P (reports N P) first.timeline.line.most bytes s.plays.lines out Memory s.plays.read s.plays.times (s.works start.0 start.1) (record {
          history = finish.0;
          account = new.account;
          reported = record { prefix = finish.1.happens.prefix; few = finish.1.few; clear = finish.1.clear; told = finish.1.told };
          part = o;
        }))

    -- the run halts in it
    refused_told : (new : Left (List ℕ)) (v : Verdict Frac64) → IsPartOut Memory new.out new.account.told → HaltsWith (pair d p) P (reports N P) bytes first new (Refused v) → IsPartTold d p most bytes new.out Memory
    refused_told new v o s =
        let k = s.stops start.0 start.1 in
        cut_told k.text k.goes_on k.whole k.piece new.out Memory k.read k.cut
        (stopped_cut (pair d p) N P first.timeline.line.most k.goes_on k.whole k.piece new.account v new.out k.stopped o)

    wanting_told : (new : Left (List ℕ)) → HaltsWith (pair d p) P (reports N P) bytes first new Memory → IsPartTold d p most bytes new.out Memory
    wanting_told new s = (let k = s.stops start.0 start.1 in cut_told k.text k.goes_on k.whole k.piece new.out Memory k.read k.cut k.stopped)

    broken_told : (new : Left (List ℕ)) → HaltsWith (pair d p) P (reports N P) bytes first new WriteFault → IsPartTold d p most bytes new.out WriteFault
    broken_told new s = (let k = s.stops start.0 start.1 in cut_told k.text k.goes_on k.whole k.piece new.out WriteFault k.read k.cut k.stopped)

    -- what is out, however it was played
    some_told : (sent : List ℕ) (run : Run Report) (played : Result (Unit {0}) Halt) → IfErr played (HaltFits P) → IsPlayedOut (pair d p) P (reports N P) report_told bytes first sent run played → IsPartTold d p most bytes sent Memory
    some_told sent run (Ok u) f s = played_told sent (progress report_told sent run) (kept_behind sent run) s
    some_told sent run (Err (Refused v)) f s = refused_told (left report_told sent run) v (kept_behind sent run) s
    some_told sent run (Err Memory) f s = wanting_told (left report_told sent run) s
    some_told sent run (Err WriteFault) f s = absurd f.names

    took_some : (old new : Option (List ℕ)) (out : List ℕ) → Took old new out → IsPartTold d p most bytes out Memory → TookSoFar d p most bytes old new
    took_some old new out t k = record { report = k.report; told = k.told; out = out; begins = k.part; took = t }

    took_part : (old new : Option (List ℕ)) (out : List ℕ) → Took old new out → IsPartTold d p most bytes out WriteFault → BreaksOffSoFar d p most bytes old new
    took_part old new out t k =
        let rest = k.part.0 in
        let some : 0 < length rest = k.part.2 in
        record {
          report = k.report;
          told = k.told;
          part = (
            length out,
            omega (arith, ap length k.part.1, length-append out rest),
            subst (Took old new) (sym (ap (take (length out)) k.part.1 ∙ take_at out rest (length out) refl)) t,
          );
        }

  at_some : (o : Option (List ℕ)) (A B : List ℕ → Type 0) → ((x : List ℕ) → A x → B x) → IfSome o A → IfSome o B
  at_some None A B f h = tt
  at_some (Some x) A B f h = f x h

  -- what is out is some of the report
  pub leaves_played : (bytes : Option (List ℕ)) (sent : List ℕ) (run : Run Report) (played : Result (Unit {0}) Halt) (old new : Option (List ℕ)) → IfErr played (HaltFits P) → Took old new sent → IfSome bytes (λ text. IsPlayedOut (pair d p) P (reports N P) report_told text first sent run played) → LeavesReport d p most bytes old new
  leaves_played bytes sent run played old new f t s =
      inr (at_some bytes (λ text. IsPlayedOut (pair d p) P (reports N P) report_told text first sent run played) (λ text. TookSoFar d p most text old new)
      (λ text k. took_some text old new sent t (some_told text sent run played f k)) s)

  -- or the sink failed
  pub leaves_broken : (bytes : Option (List ℕ)) (sent : List ℕ) (run : Run Report) (old new : Option (List ℕ)) → Took old new sent → IfSome bytes (λ text. HaltsWith (pair d p) P (reports N P) text first (left report_told sent run) WriteFault) → IfSome bytes (λ text. BreaksOffSoFar d p most text old new)
  leaves_broken bytes sent run old new t s =
      at_some bytes (λ text. HaltsWith (pair d p) P (reports N P) text first (left report_told sent run) WriteFault) (λ text. BreaksOffSoFar d p most text old new)
      (λ text k. took_part text old new sent t (broken_told text (left report_told sent run) k)) s
