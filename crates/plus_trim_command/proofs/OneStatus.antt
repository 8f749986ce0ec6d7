-- The same three texts have one status.
use Rattle.std.proofs.Common.{◌≡◌, ◌≢◌, ℕ, List, [], ◌∷◌, map, subst, sym, ◌∙◌, ap, refl, arith}
use Rattle.std.specs.Prelude.{Result, Ok}
use Rattle.plus_model.specs.Terms as terms
use Rattle.plus_model.specs.Plan as model
use Rattle.plus_tree.specs.declared.trees.Domain.{Domain}
use Rattle.plus_tree.specs.declared.trees.Problem.{Problem}
use Rattle.plus_expansion.specs.Expansion.{expanded}
use Rattle.plus_plan.specs.declared.forms.Line.{Line}
use Rattle.plus_plan.specs.declared.faults.PlanFault.{PlanFault}
use Rattle.plus_report.specs.declared.status.Status.{Status}
use Rattle.plus_report.specs.declared.status.Status.TheVariants.{Valid}
use Rattle.plus_report.specs.Refusals.{early_text}
use Rattle.plus_reply.specs.Statuses.{early_status}
use Rattle.plus_reply.proofs.PairLemmas.OnePair.{pair_once, pair_or_not, pair_refused_once}
use Rattle.plus_trim_command.specs.Laws.{OneStatus}
use Rattle.plus_trim_command.specs.Trim.{TrimsPlan, many, kept, TrimsPair, refused, accepted, no_pair, of_pair}
use Rattle.plus_validator.specs.declared.judge.Judged.{Judged}
use Rattle.plus_validator.specs.declared.judge.Outcome.TheVariants as outcomes
use Rattle.plus_validator.specs.Accepted.{IsAccepted}
use Rattle.plus_validator.specs.Outcomes.{outcome_of, status_of}
use Rattle.plus_validator.specs.Plans.{pair, lines_meant}
use Rattle.plus_validator.specs.Verdicts.{JudgesText, for_plan}
use Rattle.plus_validator.proofs.OneJudgement.{answers_once, one_judgement, judged_as_checked}
use Rattle.plus_words.specs.Numbers.{default_happenings}

-- one status, and one text where it is not that of a valid plan
abbrev Once : Status → Status → List ℕ → List ℕ → Type 0
Once x y w v = (x ≡ y) × (x ≢ Valid → w ≡ v)

same_lines : (xs ys : List Line) → ◌≡◌ {A = List (Result Line PlanFault)} (map Ok xs) (map Ok ys) → xs ≡ ys
same_lines [] [] e = refl
same_lines [] (y ∷ ys) e = absurd (cc e)
same_lines (x ∷ xs) [] e = absurd (cc e)
same_lines (x ∷ xs) (y ∷ ys) e =
    let head : x ≡ y = cc e in
    let tail : ◌≡◌ {A = List (Result Line PlanFault)} (map Ok xs) (map Ok ys) = cc e in
    ap (λ z. z ∷ xs) head ∙ ap (λ zs. y ∷ zs) (same_lines xs ys tail)

plan_once : (P : terms.Problem) (lines : List model.Line) (x y : Status) (w v : List ℕ) → TrimsPlan P lines x w → TrimsPlan P lines y v → Once x y w v
plan_once P lines x y w v (many h i k) (many g j l) = (i ∙ sym j, λ n. k ∙ sym l)
plan_once P lines x y w v (many h i k) (kept ps b g m j l) = absurd (omega arith)
plan_once P lines x y w v (kept ps b h m i k) (many g j l) = absurd (omega arith)
plan_once P lines x y w v (kept ps b h m i k) (kept qs c g o j l) = (i ∙ sym j, λ n. absurd (n i))

module _ (d : Domain) (p : Problem) (plan : List ℕ) where
  not_both : (j : Judged) (bytes : List ℕ) → JudgesText d p default_happenings plan j → outcome_of j.verdict ≢ outcomes.Valid → IsAccepted d p default_happenings plan bytes → ⊥
  not_both j bytes k n a =
      let c = judged_as_checked d p default_happenings plan j k in
      n (answers_once d p default_happenings plan (outcome_of j.verdict) outcomes.Valid _ bytes c.1 (for_plan a)).0

  pair_says_once : (x y : Status) (w v : List ℕ) → TrimsPair d p plan x w → TrimsPair d p plan y v → Once x y w v
  pair_says_once x y w v (refused j h n i k) (refused j' g m i' l) =
      let one = one_judgement d p default_happenings plan j j' h g in
      (i ∙ ap status_of one.outcome ∙ sym i', λ o. k ∙ one.line ∙ sym l)
  pair_says_once x y w v (refused j h n i k) (accepted b a g) = absurd (not_both j b h n a)
  pair_says_once x y w v (accepted b a g) (refused j h n i k) = absurd (not_both j b h n a)
  pair_says_once x y w v (accepted b a h) (accepted c e g) =
      plan_once (expanded d p) (lines_meant (pair d p) e.lines) x y w v
      (subst (λ ls. TrimsPlan (expanded d p) (lines_meant (pair d p) ls) x w) (same_lines a.lines e.lines (sym a.read ∙ e.read)) h) g

pub one_status : OneStatus
one_status ds ps ls w v x y (no_pair e h i k) (no_pair f g j l) =
    let one = pair_refused_once ds ps e f h g in
    (i ∙ ap early_status one ∙ sym j, λ n. k ∙ ap early_text one ∙ sym l)
one_status ds ps ls w v x y (no_pair e h i k) (of_pair d p t g) = absurd (pair_or_not ds ps e d p h t)
one_status ds ps ls w v x y (of_pair d p t h) (no_pair e g j l) = absurd (pair_or_not ds ps e d p g t)
one_status ds ps ls w v x y (of_pair d p t h) (of_pair d' p' t' g) =
    let one = pair_once ds ps d d' p p' t.spelled t'.spelled in
    pair_says_once d' p' ls x y w v (subst (λ r. TrimsPair d' r ls x w) one.1 (subst (λ e. TrimsPair e p ls x w) one.0 h)) g
