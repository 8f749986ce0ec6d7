-- How the playing of a plan text ends.
use Rattle.std.proofs.Common.{◌≡◌, ℕ, ◌≤◌, List, [], Option, Some, None, sym, subst, ap, arith}
use Rattle.std.specs.Prelude.{IfSome, IfErr, OnOk, Result, Ok, Err}
use Rattle.plus_io.specs.Faults.{Rose}
use Rattle.plus_io.specs.Taken.{Took}
use Rattle.plus_io.proofs.Pieces.{Takes-append}
use Rattle.plus_model.specs.Terms.{Problem}
use Rattle.plus_number.specs.Frac.{fraction_of, IsFrac64}
use Rattle.plus_state.specs.View.{Labels, problem_of, labels_of}
use Rattle.plus_tree.specs.declared.trees.Domain.{Domain}
use Rattle.plus_tree.specs.declared.trees.Problem as tree
use Rattle.plus_expansion.specs.Counting.{IsGroundable}
use Rattle.plus_plan.specs.declared.forms.Line.{Line}
use Rattle.plus_plan.specs.declared.forms.PlanForm.{PlanForm}
use Rattle.plus_plan.specs.declared.forms.PlanForm.TheVariants.{Timed}
use Rattle.plus_plan.specs.Given.{HasGiven}
use Rattle.plus_plan.specs.Pending.{Pending}
use Rattle.plus_play.specs.Rules.{Why, AreAll, Stands, IsPlayed, IsHalted}
use Rattle.plus_play.specs.Feeding as playing
use Rattle.plus_play.specs.Feeding.{IsReading, IsCutShort, unpicked, reading, Pauses, UnlessFailed}
use Rattle.plus_play.specs.declared.file.Pause.{Pause}
use Rattle.plus_play.specs.declared.file.Pause.TheVariants as pauses
use Rattle.plus_numbering.specs.declared.numbering.Numbering.{Numbering}
use Rattle.plus_validator.specs.declared.halt.Halt.{Halt}
use Rattle.plus_validator.specs.declared.halt.Halt.TheVariants.{Refused, Memory, WriteFault}
use Rattle.plus_validator.specs.declared.playing.Playing.{Playing}
use Rattle.plus_validator.specs.declared.run.Run.{Run}
use Rattle.plus_validator.specs.Account.{Progress, progress}
use Rattle.plus_validator.specs.Halts.{HaltFits, HasCause}
use Rattle.plus_validator.specs.Handing.{left, IsAllOut, Tellings}
use Rattle.plus_validator.specs.Plans.{Pair, pair_in}
use Rattle.plus_validator.specs.Playing.{IsGroundOf}
use Rattle.plus_validator.specs.Feeding.{HasPlayed, HaltsWith, PlaysText, IsPlayedOut}
use Rattle.plus_validator.specs.PlayRules.{pair_of, labels_in, problem_in, telling_in, IsFresh, Hands, PlaysToEnd, HaltsBehind, play_rules}
use Rattle.plus_validator.specs.Streaming.{IsPlayedFrom, IsPlayedThrough, ended, OnPlayed, OnReadFault, OnWriteFault, UnlessReadFault}
use Rattle.plus_validator.specs.Told.{Telling, reports, report_told, report_kept}
use Rattle.plus_validator.specs.declared.memory.Report.{Report}
use Rattle.plus_validator.specs.Leaving as leaving
use Rattle.plus_validator.specs.Leaving.{TellsSoFar, StopsReading, BreaksOffSoFar, KeepsUp}
use Rattle.plus_validator.proofs.Played.{plays_all}
use Rattle.plus_validator.proofs.TextStops.{works_out}
use Rattle.plus_validator.proofs.PlayedText.{halts_on}
use Rattle.plus_validator.proofs.Leaving.{told_so_far, leaves_broken}
use Rattle.plus_validator.proofs.Handing.{took_both, cause_inside}

-- where the bytes of a text are told
if_some : (bytes : Option (List ℕ)) (P Q : List ℕ → Type 0) → ((text : List ℕ) → P text → Q text) → IfSome bytes P → IfSome bytes Q
if_some None P Q f h = tt
if_some (Some text) P Q f h = f text h

module _ {S V K O : Type 0} (told : List ℕ → S → V) (telling : Tellings V) (kept : S → K) (taken : O → Option (List ℕ)) (faults : O → ℕ) (first : Playing S) (start : O) (now : Playing S) (out : O) where
  -- what is said of the pair and its ground form at the end is said of them at the beginning
  at_first : (sent : List ℕ) → Hands told telling kept taken faults first start now out sent → (F : Pair → Labels → Problem → Type 0) → F (pair_of now) (labels_in now) (problem_in now) → F (pair_of first) (labels_in first) (problem_in first)
  at_first sent h F k = subst (λ q. F (pair_in q.now.typed.now) (labels_in first) (problem_in first)) h.numbering
      (subst (λ q. F (pair_of now) (labels_of q.now) (problem_of fraction_of q.now)) h.ground k)

  -- all is played
  text_plays : (text : List ℕ) (lines : List Line) → AreAll Timed text lines → (e : PlaysToEnd told telling kept taken faults first start lines now out) → PlaysText (pair_of first) (problem_in first) (telling_in telling first) text (progress told [] first.run) (progress told e.sent now.run)
  text_plays text lines a e =
      at_first e.sent e.hands (λ d N P. PlaysText d P (telling N P) text (progress told [] first.run) (progress told e.sent now.run)) (record {
        within = a.within;
        plays = plays_all (pair_of now) (problem_in now) (telling_in telling now) text lines (progress told [] first.run) e.before (progress told e.sent now.run) e.played a.read e.closes;
        works = works_out (pair_of now) (problem_in now) (telling_in telling now) (progress told [] first.run) e.before lines e.played;
      })

  -- the run halts
  text_halts : (text : List ℕ) (lines : List Line) (why : Why) (halt : Halt) → Stands Timed text lines why → (s : HaltsBehind told telling kept taken faults first start lines why now out halt) → HaltsWith (pair_of first) (problem_in first) (telling_in telling first) text (progress told [] first.run) (left told s.sent now.run) halt
  text_halts text lines why halt k s =
      at_first s.sent s.hands (λ d N P. HaltsWith d P (telling N P) text (progress told [] first.run) (left told s.sent now.run) halt) (record {
        stops = λ g ready. halts_on (pair_of now) (problem_in now) (telling_in telling now) (progress told [] first.run) s.before lines s.played text (left told s.sent now.run) g ready why halt k s.by;
      })

  halt_cause : (form : PlanForm) (bytes : Option (List ℕ)) (halt : Halt) → IsHalted (play_rules told telling kept taken faults) form bytes first start now out halt → HasCause (problem_in first) (faults start) (faults out) halt
  halt_cause form bytes halt h = at_first h.stops.sent h.stops.hands (λ d N P. HasCause P (faults start) (faults out) halt) h.stops.cause

  -- ---- a text that stands in memory

  module _ (form : PlanForm) (is : form ≡ Timed) (bytes : List ℕ) where
    pub plays_through : (r : Result (Unit {0}) Halt) → OnOk r (IsPlayed (play_rules told telling kept taken faults) form (Some bytes) first start now out) → IfErr r (IsHalted (play_rules told telling kept taken faults) form (Some bytes) first start now out)
        → IsPlayedThrough (pair_of first) (problem_in first) (telling_in telling first) told bytes (progress told [] first.run) now.run r
    plays_through (Ok u) e h = record { gone = e.ended.sent; out = text_plays bytes e.lines (subst (λ f. AreAll f bytes e.lines) is e.all) e.ended }
    plays_through (Err halt) e h = record { gone = h.stops.sent; out = text_halts bytes h.lines h.why halt (subst (λ f. Stands f bytes h.lines h.why) is h.stands) h.stops }

    -- and the one who tells tells by the same
    pub keeps_through : (r : Result (Unit {0}) Halt) → OnOk r (IsPlayed (play_rules told telling kept taken faults) form (Some bytes) first start now out) → IfErr r (IsHalted (play_rules told telling kept taken faults) form (Some bytes) first start now out)
        → kept now.run.teller ≡ kept first.run.teller
    keeps_through (Ok u) e h = e.ended.hands.kept_so
    keeps_through (Err halt) e h = h.stops.hands.kept_so

    -- a sink that counts no fault is none
    pub fits_through : (r : Result (Unit {0}) Halt) → faults start ≡ 0 → faults out ≡ 0 → IfErr r (IsHalted (play_rules told telling kept taken faults) form (Some bytes) first start now out) → IfErr r (HaltFits (problem_in first))
    fits_through (Ok u) a b h = tt
    fits_through (Err halt) a b h = cause_inside (problem_in first) halt
        (subst (λ n. HasCause (problem_in first) n 0 halt) a (subst (λ n. HasCause (problem_in first) (faults start) n halt) b (halt_cause form (Some bytes) halt h)))

-- ---- a report that goes to a sink

module _ {O : Type 0} (taken : O → Option (List ℕ)) (faults : O → ℕ) (first : Playing Report) (start : O) (now : Playing Report) (out : O) where
  module _ (form : PlanForm) (is : form ≡ Timed) (bytes : Option (List ℕ)) where
    abbrev From : Result (Unit {0}) Halt → Type 0
    From r = IsPlayedFrom first.instances.numbering.now.typed.now.domain first.instances.numbering.now.typed.now.problem (labels_in first) (problem_in first) bytes (progress report_told [] first.run) now.run (taken start) (taken out) r

    plays_from : IsPlayed (play_rules report_told reports report_kept taken faults) form bytes first start now out → From (Ok tt)
    plays_from h = record {
      sent = h.ended.sent;
      took = h.ended.hands.took;
      out = if_some bytes (λ text. AreAll form text h.lines) (λ text. PlaysText (pair_of first) (problem_in first) (telling_in reports first) text (progress report_told [] first.run) (progress report_told h.ended.sent now.run))
          (λ text a. text_plays report_told reports report_kept taken faults first start now out text h.lines (subst (λ f. AreAll f text h.lines) is a) h.ended) h.all;
    }

    halts_from : (halt : Halt) → IsHalted (play_rules report_told reports report_kept taken faults) form bytes first start now out halt → From (Err halt)
    halts_from halt h = record {
      sent = h.stops.sent;
      took = h.stops.hands.took;
      out = if_some bytes (λ text. Stands form text h.lines h.why) (λ text. HaltsWith (pair_of first) (problem_in first) (telling_in reports first) text (progress report_told [] first.run) (left report_told h.stops.sent now.run) halt)
          (λ text k. text_halts report_told reports report_kept taken faults first start now out text h.lines h.why halt (subst (λ f. Stands f text h.lines h.why) is k) h.stops) h.stands;
    }

    -- ---- a file

    module _ (picked rest : Option (List ℕ)) (before after : ℕ) (reader : Pending) where
      abbrev Paused : Result (Unit {0}) (Pause Halt) → Type 0
      Paused r = OnOk r (IsPlayed (play_rules report_told reports report_kept taken faults) form bytes first start now out) × IfErr r (Pauses (play_rules report_told reports report_kept taken faults) form bytes picked rest before after first start reader now out)

      pub plays_by : (r : Result (Unit {0}) (Pause Halt)) → Paused r → OnPlayed (ended r) From
      plays_by (Ok u) h = plays_from h.0
      plays_by (Err (pauses.Halt (Refused v))) h = halts_from (Refused v) h.1
      plays_by (Err (pauses.Halt Memory)) h = halts_from Memory h.1
      plays_by (Err (pauses.Halt WriteFault)) h = tt
      plays_by (Err pauses.Failed) h = tt

      pub fits_by : (r : Result (Unit {0}) (Pause Halt)) → Paused r → OnPlayed (ended r) (λ played. IfErr played (HaltFits (problem_in first)))
      fits_by (Ok u) h = tt
      fits_by (Err (pauses.Halt (Refused v))) h = halt_cause report_told reports report_kept taken faults first start now out form bytes (Refused v) h.1
      fits_by (Err (pauses.Halt Memory)) h = halt_cause report_told reports report_kept taken faults first start now out form bytes Memory h.1
      fits_by (Err (pauses.Halt WriteFault)) h = tt
      fits_by (Err pauses.Failed) h = tt

      no_fall_cut : IsCutShort (play_rules report_told reports report_kept taken faults) form bytes picked rest first start reader now out → faults start ≤ faults out
      no_fall_cut (unpicked none same still) = subst (λ x. faults start ≤ faults x) (sym still) (omega arith)
      no_fall_cut (reading total h) = h.come.fed.played.hands.no_fall

      pub no_fall_by : (r : Result (Unit {0}) (Pause Halt)) → Paused r → faults start ≤ faults out
      no_fall_by (Ok u) h = h.0.ended.hands.no_fall
      no_fall_by (Err (pauses.Halt halt)) h = h.1.stops.hands.no_fall
      no_fall_by (Err pauses.Failed) h = no_fall_cut h.1.1

      module _ (most : ℕ) (expands : IsGroundOf first.instances.numbering.now.typed.now.domain first.instances.numbering.now.typed.now.problem first.ground.now)
          (groundable : IsGroundable IsFrac64 first.instances.numbering.now.typed.now.domain first.instances.numbering.now.typed.now.problem) (fresh : IsFresh report_told reports most first) where
        abbrev d : Domain
        d = first.instances.numbering.now.typed.now.domain

        abbrev p : tree.Problem
        p = first.instances.numbering.now.typed.now.problem

        -- before a piece is read, all that the lines tell is out
        all_out : (sent : List ℕ) → IsAllOut report_told reports now.run.teller → Took (taken start) (taken out) sent → Took (taken start) (taken out) (progress report_told sent now.run).account.told
        all_out sent e t = subst (Took (taken start) (taken out)) (sym (e (labels_in now) (problem_in now) sent)) t

        -- and this is what they tell
        module _ (total : ℕ) (h : IsReading (play_rules report_told reports report_kept taken faults) form bytes rest total first start reader now out) where
          abbrev report : List ℕ
          report = (progress report_told h.come.fed.played.sent now.run).account.told

          pub so_far_told : TellsSoFar d p most h.come.text report
          so_far_told =
              let fed = h.come.fed in
              told_so_far d p (labels_in first) (problem_in first) most h.come.text (progress report_told [] first.run) (progress report_told fed.played.sent now.run) fed.lines reader groundable expands.expands expands.labels fresh.begins
              h.idle h.going (subst (λ f. HasGiven f h.come.text fed.lines reader) is fed.given)
              (at_first report_told reports report_kept taken faults first start now out fed.played.sent fed.played.hands (λ e N P. HasPlayed e P (reports N P) fed.lines (progress report_told [] first.run) (progress report_told fed.played.sent now.run)) fed.played.played)

          pub report_out : Took (taken start) (taken out) report
          report_out = all_out h.come.fed.played.sent h.handed h.come.fed.played.hands.took

          reads_so : StopsReading d p most bytes picked rest (taken start) (taken out)
          reads_so = leaving.reading h.come.text report h.come.front so_far_told report_out

        reads_cut : IsCutShort (play_rules report_told reports report_kept taken faults) form bytes picked rest first start reader now out → StopsReading d p most bytes picked rest (taken start) (taken out)
        reads_cut (unpicked none same still) = leaving.unpicked none (ap taken still)
        reads_cut (reading total h) = reads_so total h

        pub reads_by : (r : Result (Unit {0}) (Pause Halt)) → Paused r → OnReadFault (ended r) (Rose before after × StopsReading d p most bytes picked rest (taken start) (taken out))
        reads_by (Ok u) h = tt
        reads_by (Err (pauses.Halt (Refused v))) h = tt
        reads_by (Err (pauses.Halt Memory)) h = tt
        reads_by (Err (pauses.Halt WriteFault)) h = tt
        reads_by (Err pauses.Failed) h = (h.1.0, reads_cut h.1.1)

        pub writes_by : (r : Result (Unit {0}) (Pause Halt)) → Paused r → OnWriteFault (ended r) (Rose (faults start) (faults out) × IfSome bytes (λ text. BreaksOffSoFar d p most text (taken start) (taken out)))
        writes_by (Ok u) h = tt
        writes_by (Err (pauses.Halt (Refused v))) h = tt
        writes_by (Err (pauses.Halt Memory)) h = tt
        writes_by (Err (pauses.Halt WriteFault)) h =
            let k = halts_from WriteFault h.1 in (
              halt_cause report_told reports report_kept taken faults first start now out form bytes WriteFault h.1,
              leaves_broken d p (labels_in first) (problem_in first) most (progress report_told [] first.run) groundable expands.expands expands.labels fresh.begins bytes k.sent now.run (taken start) (taken out) k.took k.out,
            )
        writes_by (Err pauses.Failed) h = tt

-- ---- the report is not held back

module _ {O : Type 0} (taken : O → Option (List ℕ)) (faults : O → ℕ) (first : Playing Report) (start : O) (form : PlanForm) (is : form ≡ Timed) (bytes rest : Option (List ℕ)) (out : O) (most : ℕ)
    (expands : IsGroundOf first.instances.numbering.now.typed.now.domain first.instances.numbering.now.typed.now.problem first.ground.now)
    (groundable : IsGroundable IsFrac64 first.instances.numbering.now.typed.now.domain first.instances.numbering.now.typed.now.problem) (fresh : IsFresh report_told reports most first) where
  abbrev Keeps : Type 0
  Keeps = KeepsUp first.instances.numbering.now.typed.now.domain first.instances.numbering.now.typed.now.problem most bytes rest (taken start) (taken out)

  keeps_so : playing.KeepsUp (play_rules report_told reports report_kept taken faults) form bytes rest first start out → Keeps
  keeps_so (playing.unread t) = leaving.unread t
  keeps_so (playing.ahead total left reader now between piece h t l more) =
      leaving.ahead h.come.text piece (report taken faults first start now between form is bytes None left 0 0 reader most expands groundable fresh total h) more.0
      (Takes-append bytes left rest h.come.text piece h.come.front t) l
      (so_far_told taken faults first start now between form is bytes None left 0 0 reader most expands groundable fresh total h)
      (took_both (taken start) (taken between) (taken out) (report taken faults first start now between form is bytes None left 0 0 reader most expands groundable fresh total h) more.0
      (report_out taken faults first start now between form is bytes None left 0 0 reader most expands groundable fresh total h) more.1)

  pub keeps_by : (r : Result (Unit {0}) (Pause Halt)) → UnlessFailed r (playing.KeepsUp (play_rules report_told reports report_kept taken faults) form bytes rest first start out) → UnlessReadFault (ended r) Keeps
  keeps_by (Ok u) k = keeps_so k
  keeps_by (Err (pauses.Halt (Refused v))) k = keeps_so k
  keeps_by (Err (pauses.Halt Memory)) k = keeps_so k
  keeps_by (Err (pauses.Halt WriteFault)) k = keeps_so k
  keeps_by (Err pauses.Failed) k = tt

-- ---- what became of a file, for the same pair

module _ (n m : Numbering) (N : Labels) (P : Problem) (same : n ≡ m) (bytes : Option (List ℕ)) (old new : Option (List ℕ)) where
  pub from_same : (first : Progress (List ℕ)) (run : Run Report) (played : Result (Unit {0}) Halt) → IsPlayedFrom n.typed.now.domain n.typed.now.problem N P bytes first run old new played → IsPlayedFrom m.typed.now.domain m.typed.now.problem N P bytes first run old new played
  from_same first run played h = subst (λ (k : Numbering). IsPlayedFrom k.typed.now.domain k.typed.now.problem N P bytes first run old new played) same h

  pub reading_same : (most : ℕ) (picked rest : Option (List ℕ)) → StopsReading n.typed.now.domain n.typed.now.problem most bytes picked rest old new → StopsReading m.typed.now.domain m.typed.now.problem most bytes picked rest old new
  reading_same most picked rest h = subst (λ (k : Numbering). StopsReading k.typed.now.domain k.typed.now.problem most bytes picked rest old new) same h

  pub broken_same : (most : ℕ) → IfSome bytes (λ text. BreaksOffSoFar n.typed.now.domain n.typed.now.problem most text old new) → IfSome bytes (λ text. BreaksOffSoFar m.typed.now.domain m.typed.now.problem most text old new)
  broken_same most h = subst (λ (k : Numbering). IfSome bytes (λ text. BreaksOffSoFar k.typed.now.domain k.typed.now.problem most text old new)) same h

  pub keeps_same : (most : ℕ) (rest : Option (List ℕ)) → KeepsUp n.typed.now.domain n.typed.now.problem most bytes rest old new → KeepsUp m.typed.now.domain m.typed.now.problem most bytes rest old new
  keeps_same most rest h = subst (λ (k : Numbering). KeepsUp k.typed.now.domain k.typed.now.problem most bytes rest old new) same h

pub played_same : {S V : Type 0} (n m : Numbering) (P : Problem) (T : Telling P V) (told : List ℕ → S → V) → n ≡ m → (bytes : List ℕ) (first : Progress V) (sent : List ℕ) (new : Run S) (played : Result (Unit {0}) Halt) → IsPlayedOut (pair_in n.typed.now) P T told bytes first sent new played → IsPlayedOut (pair_in m.typed.now) P T told bytes first sent new played
played_same n m P T told same bytes first sent new played h = subst (λ (k : Numbering). IsPlayedOut (pair_in k.typed.now) P T told bytes first sent new played) same h
