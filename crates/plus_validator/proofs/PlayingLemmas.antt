-- A plan whose report goes to a sink, as one who plays lines.
use Rattle.std.proofs.Common.{◌≡◌, ℕ, ◌≤◌, List, [], ◌∷◌, ◌++◌, Option, refl, subst, sym, ◌∙◌, arith}
use Rattle.std.specs.Prelude.{Result, Ok, Err, IfErr}
use Rattle.plus_io.specs.Faults.{Rose}
use Rattle.plus_io.specs.Files.{IsPrefix}
use Rattle.plus_io.specs.Taken.{Took}
use Rattle.plus_number.specs.Frac.{fraction_of}
use Rattle.plus_state.specs.View.{Labels, problem_of, labels_of}
use Rattle.plus_model.specs.Terms.{Problem}
use Rattle.plus_plan.specs.declared.forms.Line.{Line}
use Rattle.plus_plan.specs.declared.faults.PlanFault.{PlanFault}
use Rattle.plus_play.specs.Rules.{on_line, no_line, too_long as too_long_text, at_end, handing}
use Rattle.plus_instances.specs.Made.{AreMade, StayMade}
use Rattle.plus_indexed.specs.Indexed.{IndexedView}
use Rattle.plus_report.specs.declared.verdicts.Verdict.TheVariants.{Other}
use Rattle.plus_report.specs.declared.refusals.Early.TheVariants.{TooLong}
use Rattle.plus_report.specs.declared.refusals.Text.TheVariants as texts
use Rattle.plus_validator.specs.declared.halt.Halt.{Halt}
use Rattle.plus_validator.specs.declared.halt.Halt.TheVariants.{Refused, WriteFault}
use Rattle.plus_validator.specs.declared.playing.Playing.{Playing}
use Rattle.plus_validator.specs.Account.{progress}
use Rattle.plus_validator.specs.Halts.{line_halt, HaltFits, HasCause}
use Rattle.plus_validator.specs.Handing.{HandsOn, StaysSo, left, Tellings, RunBreaksOff}
use Rattle.plus_validator.specs.Plans.{Pair, pair_in}
use Rattle.plus_validator.specs.Playing.{IsGroundOf, IsResting, PlaysLine, Closes}
use Rattle.plus_validator.specs.Stopped.{HaltsInLine, HaltsAtEnd}
use Rattle.plus_validator.specs.Feeding.{HasPlayed}
use Rattle.plus_validator.specs.PlayRules.{pair_of, labels_in, problem_in, telling_in, CanPlay, IsFresh, Hands, PlaysLines, PlaysToEnd, HaltsBehind}
use Rattle.plus_validator.proofs.Handing.{took_none, took_both, cause_of, cause_since}
use Rattle.plus_validator.proofs.Played.{played_none, played_more}

rests_so : (P : Problem) (most : ℕ) (t : IndexedView) → IsResting P most t → IsResting P t.line.most t
rests_so P most t r = record { can = r.can; moment = r.moment; most_is = refl }

-- ---- nothing is played

pub fresh_can : {S V : Type 0} (told : List ℕ → S → V) (telling : Tellings V) (most : ℕ) (now : Playing S) → IsGroundOf now.instances.numbering.now.typed.now.domain now.instances.numbering.now.typed.now.problem now.ground.now → IsFresh told telling most now → CanPlay now
fresh_can told telling most now e f = record { expands = e; made = f.made; rests = rests_so (problem_in now) most now.run.timeline f.begins.rests }

-- a run of the same pair, at a moment
pub can_after : {S : Type 0} (old new : Playing S) → StayMade old.instances new.instances → new.ground ≡ old.ground → IsResting (problem_in old) old.run.timeline.line.most new.run.timeline → CanPlay old → CanPlay new
can_after old new m g r c = record {
  expands = subst (λ q. IsGroundOf q.now.typed.now.domain q.now.typed.now.problem new.ground.now) (sym m.same)
      (subst (λ q. IsGroundOf old.instances.numbering.now.typed.now.domain old.instances.numbering.now.typed.now.problem q.now) (sym g) c.expands);
  made = m.made;
  rests = subst (λ q. IsResting (problem_of fraction_of q.now) new.run.timeline.line.most new.run.timeline) (sym g) (rests_so (problem_in old) old.run.timeline.line.most new.run.timeline r);
}

-- what is kept of the report does not matter
pub can_flush : {S : Type 0} (old new : Playing S) → new.instances ≡ old.instances → new.ground ≡ old.ground → new.run.timeline ≡ old.run.timeline → CanPlay old → CanPlay new
can_flush old new i g t c = record {
  expands = subst (λ q. IsGroundOf q.numbering.now.typed.now.domain q.numbering.now.typed.now.problem new.ground.now) (sym i)
      (subst (λ q. IsGroundOf old.instances.numbering.now.typed.now.domain old.instances.numbering.now.typed.now.problem q.now) (sym g) c.expands);
  made = subst AreMade (sym i) c.made;
  rests = subst (λ q. IsResting (problem_of fraction_of q.now) new.run.timeline.line.most new.run.timeline) (sym g)
      (subst (λ q. IsResting (problem_in old) q.line.most q) (sym t) c.rests);
}

module _ {S V K O : Type 0} (told : List ℕ → S → V) (telling : Tellings V) (kept : S → K) (taken : O → Option (List ℕ)) (faults : O → ℕ) where
  pub fresh_played : (most : ℕ) (now : Playing S) (out : O) → IsFresh told telling most now → PlaysLines told telling kept taken faults now out [] now out
  fresh_played most now out f = record {
    sent = [];
    hands = record { numbering = refl; ground = refl; kept_so = refl; took = took_none (taken out); no_fall = omega arith };
    played = played_none (pair_of now) (problem_in now) (telling_in telling now) (progress told [] now.run) (rests_so (problem_in now) most now.run.timeline f.begins.rests);
  }

  -- ---- one call

  module _ (old : Playing S) (out : O) (new : Playing S) (next : O) (numbering : new.instances.numbering ≡ old.instances.numbering) (ground : new.ground ≡ old.ground) (keeps : kept new.run.teller ≡ kept old.run.teller) (no_fall : faults out ≤ faults next) where
    -- what is said of the pair and its ground form before is said of them after
    abbrev Said : Type 1
    Said = Pair → Labels → Problem → Type 0

    later : (F : Said) → F (pair_of old) (labels_in old) (problem_in old) → F (pair_of new) (labels_in new) (problem_in new)
    later F h = subst (λ q. F (pair_in q.now.typed.now) (labels_in new) (problem_in new)) (sym numbering)
        (subst (λ q. F (pair_of old) (labels_of q.now) (problem_of fraction_of q.now)) (sym ground) h)

    hands_then : (first : Playing S) (start : O) (sent gone : List ℕ) → Hands told telling kept taken faults first start old out sent → Took (taken out) (taken next) gone → Hands told telling kept taken faults first start new next (sent ++ gone)
    hands_then first start sent gone h t = record {
      numbering = numbering ∙ h.numbering;
      ground = ground ∙ h.ground;
      kept_so = keeps ∙ h.kept_so;
      took = took_both (taken start) (taken out) (taken next) sent gone h.took t;
      no_fall = (let a = h.no_fall in omega arith);
    }

    pub line_plays :
        (line : Line) → HandsOn (progress told) (progress told) (PlaysLine (pair_of old) (problem_in old) (telling_in telling old) line) old.run new.run (taken out) (taken next)
        → (first : Playing S) (start : O) (lines : List Line) → PlaysLines told telling kept taken faults first start lines old out → PlaysLines told telling kept taken faults first start (lines ++ line ∷ []) new next
    line_plays line k first start lines h = record {
      sent = h.sent ++ k.gone;
      hands = hands_then first start h.sent k.gone h.hands k.took;
      played = later (λ d N P. HasPlayed d P (telling N P) (lines ++ line ∷ []) (progress told [] first.run) (progress told (h.sent ++ k.gone) new.run))
          (played_more (pair_of old) (problem_in old) (telling_in telling old) lines line (progress told [] first.run) (progress told h.sent old.run) (progress told (h.sent ++ k.gone) new.run) h.played (k.goes h.sent));
    }

    -- the run halts in a line, or at the end of the text
    module _ (halt : Halt) (cause : HasCause (problem_in old) (faults out) (faults next) halt) where
      cause_then : (first : Playing S) (start : O) (sent : List ℕ) → Hands told telling kept taken faults first start old out sent → HasCause (problem_in new) (faults start) (faults next) halt
      cause_then first start sent h = later (λ d N P. HasCause P (faults start) (faults next) halt) (cause_since (problem_in old) (faults start) (faults out) (faults next) halt h.no_fall cause)

      pub line_halts :
          (line : Line) → HandsOn (progress told) (left told) (λ a b. HaltsInLine (pair_of old) (problem_in old) (telling_in telling old) line a b halt) old.run new.run (taken out) (taken next)
          → (first : Playing S) (start : O) (lines : List Line) → PlaysLines told telling kept taken faults first start lines old out → HaltsBehind told telling kept taken faults first start lines (on_line line) new next halt
      line_halts line k first start lines h = record {
        sent = h.sent ++ k.gone;
        hands = hands_then first start h.sent k.gone h.hands k.took;
        before = progress told h.sent old.run;
        played = later (λ d N P. HasPlayed d P (telling N P) lines (progress told [] first.run) (progress told h.sent old.run)) h.played;
        by = later (λ d N P. HaltsInLine d P (telling N P) line (progress told h.sent old.run) (left told (h.sent ++ k.gone) new.run) halt) (k.goes h.sent);
        cause = cause_then first start h.sent h.hands;
      }

      pub end_halts :
          HandsOn (progress told) (left told) (λ a b. HaltsAtEnd (problem_in old) (telling_in telling old) a b halt) old.run new.run (taken out) (taken next)
          → (first : Playing S) (start : O) (lines : List Line) → PlaysLines told telling kept taken faults first start lines old out → HaltsBehind told telling kept taken faults first start lines at_end new next halt
      end_halts k first start lines h = record {
        sent = h.sent ++ k.gone;
        hands = hands_then first start h.sent k.gone h.hands k.took;
        before = progress told h.sent old.run;
        played = later (λ d N P. HasPlayed d P (telling N P) lines (progress told [] first.run) (progress told h.sent old.run)) h.played;
        by = later (λ d N P. HaltsAtEnd P (telling N P) (progress told h.sent old.run) (left told (h.sent ++ k.gone) new.run) halt) (k.goes h.sent);
        cause = cause_then first start h.sent h.hands;
      }

    pub end_plays :
        HandsOn (progress told) (progress told) (Closes (problem_in old) (telling_in telling old)) old.run new.run (taken out) (taken next)
        → (first : Playing S) (start : O) (lines : List Line) → PlaysLines told telling kept taken faults first start lines old out → PlaysToEnd told telling kept taken faults first start lines new next
    end_plays k first start lines h = record {
      sent = h.sent ++ k.gone;
      hands = hands_then first start h.sent k.gone h.hands k.took;
      before = progress told h.sent old.run;
      played = later (λ d N P. HasPlayed d P (telling N P) lines (progress told [] first.run) (progress told h.sent old.run)) h.played;
      closes = later (λ d N P. Closes P (telling N P) (progress told h.sent old.run) (progress told (h.sent ++ k.gone) new.run)) (k.goes h.sent);
    }

    -- what is told is handed on
    pub flush_hands :
        StaysSo (progress told) old.run new.run (taken out) (taken next)
        → (first : Playing S) (start : O) (lines : List Line) → PlaysLines told telling kept taken faults first start lines old out → PlaysLines told telling kept taken faults first start lines new next
    flush_hands k first start lines h = record {
      sent = h.sent ++ k.gone;
      hands = hands_then first start h.sent k.gone h.hands k.took;
      played = subst (HasPlayed (pair_of new) (problem_in new) (telling_in telling new) lines (progress told [] first.run)) (sym (k.goes h.sent))
          (later (λ d N P. HasPlayed d P (telling N P) lines (progress told [] first.run) (progress told h.sent old.run)) h.played);
    }

    -- or the sink fails
    pub flush_halts :
        Rose (faults out) (faults next) → RunBreaksOff told telling old.run new.run (taken out) (taken next)
        → (first : Playing S) (start : O) (lines : List Line) → PlaysLines told telling kept taken faults first start lines old out → HaltsBehind told telling kept taken faults first start lines handing new next WriteFault
    flush_halts r breaks first start lines h =
        let k = breaks (labels_in new) (problem_in new) in
        record {
          sent = h.sent ++ k.gone;
          hands = hands_then first start h.sent k.gone h.hands k.took;
          before = progress told h.sent old.run;
          played = later (λ d N P. HasPlayed d P (telling N P) lines (progress told [] first.run) (progress told h.sent old.run)) h.played;
          by = (refl, k.goes h.sent);
          cause = cause_since (problem_in new) (faults start) (faults out) (faults next) WriteFault h.hands.no_fall r;
        }

  -- a stop that changes nothing
  module _ (now : Playing S) (out : O) (first : Playing S) (start : O) (lines : List Line) (h : PlaysLines told telling kept taken faults first start lines now out) where
    pub bad_halts : (fault : PlanFault) (halt : Halt) → IsPrefix h.sent ((telling_in telling now).bytes (told h.sent now.run.teller)) → halt ≡ line_halt fault → HaltFits (problem_in now) halt → HaltsBehind told telling kept taken faults first start lines (no_line fault) now out halt
    bad_halts fault halt behind is f = record {
      sent = h.sent;
      hands = h.hands;
      before = progress told h.sent now.run;
      played = h.played;
      by = (is, refl, behind);
      cause = cause_of (problem_in now) (faults start) (faults out) halt f;
    }

    pub long_halts : HaltsBehind told telling kept taken faults first start lines too_long_text now out (Refused (Other (TooLong texts.Plan)))
    long_halts = record {
      sent = h.sent;
      hands = h.hands;
      before = progress told h.sent now.run;
      played = h.played;
      by = (refl, refl);
      cause = record { names = tt };
    }

-- ---- what calls tell

pub err_both : {T E : Type 0} (r : Result T E) (P Q R : E → Type 0) → ((e : E) → P e → Q e → R e) → IfErr r P → IfErr r Q → IfErr r R
err_both (Ok x) P Q R f p q = tt
err_both (Err e) P Q R f p q = f e p q
