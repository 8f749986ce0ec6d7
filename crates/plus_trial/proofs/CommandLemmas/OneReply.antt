-- A trial has one reply.
use Rattle.std.proofs.Common.{◌≡◌, ℕ, List, subst, sym, ◌∙◌, ap}
use Rattle.plus_tree.specs.declared.trees.Domain.{Domain}
use Rattle.plus_tree.specs.declared.trees.Problem.{Problem}
use Rattle.plus_report.specs.Refusals.{early_text}
use Rattle.plus_validator.specs.declared.judge.Judged.{Judged}
use Rattle.plus_validator.specs.declared.judge.Outcome.{Outcome}
use Rattle.plus_validator.specs.Outcomes.{outcome_of, status_of}
use Rattle.plus_validator.specs.Verdicts.{JudgesText, SameJudgement}
use Rattle.plus_validator.proofs.OneJudgement.{one_judgement}
use Rattle.plus_trial.specs.Summary.{summary_text}
use Rattle.plus_words.specs.Numbers.{default_happenings}
use Rattle.plus_reply.proofs.PairLemmas.OnePair.{pair_once, pair_refused_once, pair_or_not}
use Rattle.plus_reply.specs.Reply.{HasOneReply}
use Rattle.plus_reply.specs.Statuses.{early_status}
use Rattle.plus_trial.specs.Trial.{farm_domain, farm_problem, farm_plan, word_of, summary_of, IsTrial, is_judged, no_pair}

abbrev line : ℕ → Outcome → ℕ → ℕ → List ℕ
line n o entries firings = summary_text (record { tanks = n; word = word_of o; entries = entries; firings = firings })

same_line : (n : ℕ) (j k : Judged) → SameJudgement j k → summary_text (summary_of n j) ≡ summary_text (summary_of n k)
same_line n j k same =
    ap (λ (o : Outcome). line n o j.entries j.firings) same.outcome ∙ ap (λ (e : ℕ). line n (outcome_of k.verdict) e j.firings) same.entries
    ∙ ap (λ (f : ℕ). line n (outcome_of k.verdict) k.entries f) same.firings

pub one_reply : (n : ℕ) → HasOneReply (IsTrial n)
one_reply n x y w v (no_pair e h i k) (no_pair f g j l) =
    let one = pair_refused_once farm_domain (farm_problem n) e f h g in
    (i ∙ ap early_status one ∙ sym j, k ∙ ap early_text one ∙ sym l)
one_reply n x y w v (no_pair e h i k) (is_judged d p j t g l m) = absurd (pair_or_not farm_domain (farm_problem n) e d p h t)
one_reply n x y w v (is_judged d p j t g l m) (no_pair e h i k) = absurd (pair_or_not farm_domain (farm_problem n) e d p h t)
one_reply n x y w v (is_judged d p j t h i k) (is_judged d' p' j' u g l m) =
    let one = pair_once farm_domain (farm_problem n) d' d p' p u.spelled t.spelled in
    let again : JudgesText d p default_happenings (farm_plan n) j' =
    subst (λ (q : Problem). JudgesText d q default_happenings (farm_plan n) j') one.1
    (subst (λ (e : Domain). JudgesText e p' default_happenings (farm_plan n) j') one.0 g) in
    let same = one_judgement d p default_happenings (farm_plan n) j j' h again in
    (i ∙ ap status_of same.outcome ∙ sym l, k ∙ same_line n j j' same ∙ sym m)
