-- What is replied on a plan that was watched, put together from what the calls answer.
use Rattle.std.proofs.Common.{◌≡◌, ℕ, Bool, List, length, refl, ap, sym, subst, ◌∙◌}
use Rattle.std.proofs.lemmas.List.{length-map}
use Rattle.std.specs.Prelude.{IfOk, IfErr, Result, Ok, Err}
use Rattle.plus_model.specs.History.{Part}
use Rattle.plus_number.specs.declared.frac.Frac64.{Frac64}
use Rattle.plus_number.specs.Frac.{fraction_of, IsFrac64}
use Rattle.plus_tree.specs.declared.trees.Constraint as written
use Rattle.plus_tree.specs.declared.trees.Domain.{Domain}
use Rattle.plus_tree.specs.declared.trees.Problem.{Problem}
use Rattle.plus_expansion.specs.Expansion.{expanded}
use Rattle.plus_constraints.specs.Constraint.{Constraint}
use Rattle.plus_rules.specs.declared.faults.WatchFault.{WatchFault}
use Rattle.plus_rules.specs.declared.faults.WatchFault.TheVariants.{At, TooManyNodes, Literal, Memory}
use Rattle.plus_rules.specs.Refusals.{AreSound, RefusesConstraints}
use Rattle.plus_rules.specs.Written.{constraints_meant}
use Rattle.plus_watch.specs.declared.watched.Watched.{Watched}
use Rattle.plus_watch.specs.Watched.{constraint_of, constraints_of, places_of}
use Rattle.plus_validator.specs.declared.judge.Judged.{Judged}
use Rattle.plus_validator.specs.Verdicts.{JudgesWhole, accepted, refused}
use Rattle.plus_watcher.specs.declared.watcher.Standing.{Standing}
use Rattle.plus_watcher.specs.declared.watcher.Standing.TheVariants.{Going}
use Rattle.plus_watching.specs.declared.findings.Findings.{Findings}
use Rattle.plus_watching.specs.Watches.{SeenOn, OnWhole, WatchesText}
use Rattle.plus_reply.specs.declared.reply.Reply.{Reply}
use Rattle.plus_reply.specs.declared.reply.Fault.{Fault}
use Rattle.plus_reply.specs.declared.reply.Fault.TheVariants as faults
use Rattle.plus_reply.specs.declared.pair.pair.Refusal.{Refusal}
use Rattle.plus_reply.specs.declared.pair.pair.Refusal.TheVariants as refusals
use Rattle.plus_reply.specs.Reply.{TellsRefusal}
use Rattle.plus_watch_command.specs.Told as told
use Rattle.plus_watch_command.specs.Told.{text_by, status_by, TellsPlan, watch_refusal, TellsRules}

-- what is seen is seen on some history
on_some :
    (d : Domain) (p : Problem) (most : ℕ) (text : List ℕ) (goes_on : Bool) (j : Judged) (w : JudgesWhole d p most text goes_on j) (Q : List Part → Type 0) (X : Type 0)
    → ((h : List Part) → Q h → X) → OnWhole d p most text goes_on j w Q → X
on_some d p most text goes_on j (accepted e a) Q X f q = f a.accepted.history q
on_some d p most text goes_on j (refused r) Q X f q = f r.refused.refusal.history q

-- where no limit came, there is a place or none for each constraint
pub each_noted :
    (d : Domain) (p : Problem) (ws : List (Watched Frac64)) (most : ℕ) (bytes : List ℕ) (f : Findings) → WatchesText d p (constraints_of fraction_of ws) most bytes f
    → f.standing ≡ Going → length f.firsts.items ≡ length ws
each_noted d p ws most bytes f w going =
    on_some d p most w.text w.goes_on f.judged w.judges (SeenOn (expanded d p) (constraints_of fraction_of ws) (places_of fraction_of f.firsts.items) f.standing) (length f.firsts.items ≡ length ws)
    (λ h seen.
    let s = subst (λ (z : Standing). SeenOn (expanded d p) (constraints_of fraction_of ws) (places_of fraction_of f.firsts.items) z h) going seen in
    sym (length-map f.firsts.items _) ∙ ap length s.places ∙ length-map (constraints_of fraction_of ws) _ ∙ length-map ws (constraint_of fraction_of))
    w.seen

module _ (d : Domain) (p : Problem) (most : ℕ) (bytes : List ℕ) where
  pub plan_told :
      (cs : List Constraint) (f : Findings) (r : Result Reply Fault) → WatchesText d p cs most bytes f → IfOk r (λ x. x.status ≡ status_by cs f f.standing)
      → IfOk r (λ x. x.text.items ≡ text_by cs f f.standing) → IfOk r (λ x. TellsPlan d p cs most bytes x.status x.text.items)
  plan_told cs f (Ok x) w a b = record { findings = f; watched = w; status_is = a; written_is = b }
  plan_told cs f (Err e) w a b = tt

  module _ (rules : List written.Constraint) where
    pub played_told :
        (cs : List Constraint) (r : Result Reply Fault) → AreSound IsFrac64 d p rules → cs ≡ constraints_meant d p rules → IfOk r (λ x. TellsPlan d p cs most bytes x.status x.text.items)
        → IfOk r (λ x. TellsRules d p rules most bytes x.status x.text.items)
    played_told cs (Ok x) s e t = told.played s (subst (λ (ks : List Constraint). TellsPlan d p ks most bytes x.status x.text.items) e t)
    played_told cs (Err f) s e t = tt

    pub refused_told :
        (fault : WatchFault) (refusal : Refusal) (r : Result Reply Fault) → RefusesConstraints IsFrac64 d p rules fault → refusal ≡ watch_refusal fault → TellsRefusal refusal r
        → IfOk r (λ x. TellsRules d p rules most bytes x.status x.text.items)
    refused_told fault (refusals.Early e) (Ok x) k i t = told.refused fault e k (sym i) t.0 t.1
    refused_told fault (refusals.Early e) (Err f) k i t = tt
    refused_told fault refusals.ReadFault r k i t = subst (λ x. IfOk x (λ y. TellsRules d p rules most bytes y.status y.text.items)) (sym t) tt
    refused_told fault refusals.NoMemory r k i t = subst (λ x. IfOk x (λ y. TellsRules d p rules most bytes y.status y.text.items)) (sym t) tt

-- no constraints are refused because a file was not read
never_read : (fault : WatchFault) → refusals.ReadFault ≡ watch_refusal fault → ⊥
never_read (At wrong span) i = cc i
never_read TooManyNodes i = cc i
never_read (Literal span) i = cc i
never_read Memory i = cc i

pub refused_memory : (fault : WatchFault) (refusal : Refusal) (r : Result Reply Fault) → refusal ≡ watch_refusal fault → TellsRefusal refusal r → IfErr r (λ f. f ≡ faults.NoMemory)
refused_memory fault (refusals.Early e) (Ok x) i t = tt
refused_memory fault (refusals.Early e) (Err f) i t = t
refused_memory fault refusals.ReadFault r i t = absurd (never_read fault i)
refused_memory fault refusals.NoMemory r i t = subst (λ x. IfErr x (λ f. f ≡ faults.NoMemory)) (sym t) refl
