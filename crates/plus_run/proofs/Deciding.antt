-- A check of a plan that stays inside the limits decides it.
use Rattle.std.proofs.Common.{◌≡◌, ℕ, List, Option, Some, None, subst, sym, ◌∙◌, ap, refl}
use Rattle.std.specs.Prelude.{IfSome, IsSome}
use Rattle.plus_tree.specs.declared.trees.Domain.{Domain}
use Rattle.plus_tree.specs.declared.trees.Problem.{Problem}
use Rattle.plus_validator.specs.declared.judge.Outcome.{Outcome}
use Rattle.plus_validator.specs.Outcomes.{status_of}
use Rattle.plus_validator.specs.Validates.{IsUngrounded, IsWhole}
use Rattle.plus_validator.specs.Laws as plans
use Rattle.plus_validator.proofs.Excluding.{not_groundable}
use Rattle.plus_validator.proofs.Deciding as plan
use Rattle.plus_report.specs.declared.status.Status.{Status}
use Rattle.plus_run.specs.Command.{Command, Check, ShowDomain, ShowProblem, Numeric, Trial, Translate, Lift, Plan, Trim}
use Rattle.plus_run.specs.Checks.{Checks}
use Rattle.plus_run.specs.Headline.{SpellsWellTyped, IsAnswer}
use Rattle.plus_run.specs.Laws.{IsInside, IsDecided, is_valid, is_invalid, Decides, DecidesFor}
use Rattle.plus_reply.proofs.PairLemmas.OnePair.{pair_once, pair_or_not}
use Rattle.plus_run.proofs.OneAnswer.{Checked, by_pair, by_ground, by_plan, checked, settled_reply}

module _ (n : ℕ) (ds ps ls : List ℕ) (d : Domain) (p : Problem) (k : IsInside n ds ps ls d p) where
  -- from the outcome to the status
  status_decided : (status : Status) (o : Outcome) → status ≡ status_of o → plans.IsDecided d p ls o → IsDecided d p ls status
  status_decided status o i (plans.is_valid e t) = is_valid (i ∙ ap status_of e) t
  status_decided status o i (plans.is_invalid e none) = is_invalid (i ∙ ap status_of e) none

  not_ungrounded : (d' : Domain) (p' : Problem) (line : List ℕ) → SpellsWellTyped ds ps d' p' → IsUngrounded d' p' line → ⊥
  not_ungrounded d' p' line t g =
      let one = pair_once ds ps d' d p' p t.spelled k.pair.spelled in
      let u : IsUngrounded d p line = subst (λ q. IsUngrounded d q line) one.1 (subst (λ e. IsUngrounded e p' line) one.0 g) in
      not_groundable d p line u.fault u.refused u.tells k.tame.groundable

  plan_decided : (d' : Domain) (p' : Problem) (o : Outcome) (written : List ℕ) → SpellsWellTyped ds ps d' p' → IsWhole d' p' n ls o written → plans.IsDecided d p ls o
  plan_decided d' p' o written t h =
      let one = pair_once ds ps d' d p' p t.spelled k.pair.spelled in
      plan.decides d p n ls o written k.tame
      (subst (λ q. IsWhole d q n ls o written) one.1 (subst (λ e. IsWhole e p' n ls o written) one.0 h))

  decided : (status : Status) (written : List ℕ) → Checked n ds ps ls status written → IsDecided d p ls status
  decided status written (by_pair e h i w) = absurd (pair_or_not ds ps e d p h k.pair)
  decided status written (by_ground d' p' t i g) = absurd (not_ungrounded d' p' written t g)
  decided status written (by_plan d' p' o t i h) = status_decided status o i (plan_decided d' p' o written t h)

  -- where the shelf tells the three texts
  told : (du pu lu : Option (List ℕ)) → du ≡ Some ds → pu ≡ Some ps → lu ≡ Some ls → (x : Status) (w : List ℕ) → IfSome du (λ xs. IfSome pu (λ ys. Checks n xs ys lu x w)) → IsDecided d p ls x
  told du pu lu i j l =
      subst (λ (o : Option (List ℕ)). (x : Status) (w : List ℕ) → IfSome o (λ xs. IfSome pu (λ ys. Checks n xs ys lu x w)) → IsDecided d p ls x) (sym i)
      (subst (λ (o : Option (List ℕ)). (x : Status) (w : List ℕ) → IfSome o (λ ys. Checks n ds ys lu x w) → IsDecided d p ls x) (sym j)
      (subst (λ (o : Option (List ℕ)). (x : Status) (w : List ℕ) → Checks n ds ps o x w → IsDecided d p ls x) (sym l)
      (λ x w h. decided x w (checked n ds ps ls x w h))))

-- a text that is so is told
pub is_told : (o : Option (List ℕ)) (x : List ℕ) → o ≡ Some x → IsSome o
is_told o x e = subst IsSome (sym e) refl

pub decides : Decides
decides dn pn ln n bytes old new a b c e status ds ps ls d p i j l k h g =
    let r = settled_reply (Some (Check dn pn ln n)) bytes old new a b c e status
    (is_told (bytes dn) ds i, (is_told (bytes pn) ps j, (is_told (bytes ln) ls l, tt))) h g in
    told n ds ps ls d p k (bytes dn) (bytes pn) (bytes ln) i j l status r.written r.reply

-- the same of any command
pub decides_for : (command : Option Command) (bytes : List ℕ → Option (List ℕ)) (old new : Option (List ℕ)) (a b c e : ℕ) (status : Status) → IsAnswer command bytes old new a b c e status → DecidesFor command bytes status
decides_for None bytes old new a b c e status h = tt
decides_for (Some (ShowDomain file)) bytes old new a b c e status h = tt
decides_for (Some (ShowProblem file)) bytes old new a b c e status h = tt
decides_for (Some (Numeric dn pn ln)) bytes old new a b c e status h = tt
decides_for (Some (Trial n)) bytes old new a b c e status h = tt
decides_for (Some (Translate file q d p)) bytes old new a b c e status h = tt
decides_for (Some (Lift q d p l)) bytes old new a b c e status h = tt
decides_for (Some (Plan q k n cut d p)) bytes old new a b c e status h = tt
decides_for (Some (Trim dn pn ln)) bytes old new a b c e status h = tt
decides_for (Some (Check dn pn ln n)) bytes old new a b c e status h = λ ds ps ls d p i j l k g.
    decides dn pn ln n bytes old new a b c e status ds ps ls d p i j l k h g
