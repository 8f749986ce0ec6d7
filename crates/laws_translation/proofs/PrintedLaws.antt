-- The plans of the printed translation.
use Rattle.std.proofs.Common.{◌≡◌, List, [], ◌∷◌, sym, subst, ◌∙◌}
use Rattle.plus_model.specs.Plan.{Called}
use Rattle.plus_model.specs.Terms.{Condition, State, Problem as GroundProblem}
use Rattle.plus_tree.specs.declared.trees.Domain.{Domain}
use Rattle.plus_tree.specs.declared.trees.Problem.{Problem}
use Rattle.plus_expansion.specs.Expansion.{expanded}
use Rattle.plus_parser.proofs.Wholes.{one_domain_only, one_problem_only}
use Rattle.plus_canonical.specs.Same.{SameDomain, SameProblem}
use Rattle.plus_steps.specs.Laws.{CallName}
use Rattle.plus_steps.specs.Numeric.{NumericPlan}
use Rattle.plus_translation.specs.Translated.{translated_domain, translated_problem}
use Rattle.plus_translation.specs.Laws.{called_in_pair, IsNumericPlan}
use Rattle.plus_translation.proofs.TreeLaws.{translated_plans_are_stepped, stepped_plans_are_translated}
use Rattle.laws_translation.proofs.TextLemmas.TextLaws.{translation_reads_again}
use Rattle.laws_translation.proofs.TypedLemmas.TypedLaws.{translation_is_typed}
use Rattle.laws_translation.specs.Same.Laws.{MeansTheSame}
use Rattle.laws_translation.proofs.SameLemmas.SameLaws.{spans_mean_nothing}
use Rattle.laws_translation.specs.Plans.Laws.{PrintedPlans}

-- where calls mean the same, plans are the same
same_calls : (meant other : CallName → Called) → ((call : CallName) → meant call ≡ other call) → (goal : Condition) (s : State) (calls : List CallName) → NumericPlan meant goal s calls → NumericPlan other goal s calls
same_calls meant other e goal s [] h = h
same_calls meant other e goal s (call ∷ calls) h =
    (h.0, record { action = h.1.action; called = sym (e call) ∙ h.1.called; does = h.1.does }, same_calls meant other e goal h.0 calls h.2)

same_plans : (d d' : Domain) (p p' : Problem) → MeansTheSame d p d' p' → (calls : List CallName) → IsNumericPlan d p calls → IsNumericPlan d' p' calls
same_plans d d' p p' m calls h =
    subst (λ (g : GroundProblem). NumericPlan (called_in_pair d' p') g.goal g.initial calls) m.problem
    (same_calls (called_in_pair d p) (called_in_pair d' p') (λ call. m.calls call.0 call.1) (expanded d p).goal (expanded d p).initial calls h)

pub printed_plans : PrintedPlans
printed_plans d p q d' p' given =
    let t = translated_domain q d p in
    let u = translated_problem q d p in
    let reads = translation_reads_again given.text given.task d p q given.domain given.problem given.can given.fits in
    let domain : SameDomain t d' = subst (SameDomain t) (one_domain_only _ reads.0.0 d' reads.0.1 given.printed_domain) reads.0.2 in
    let problem : SameProblem u p' = subst (SameProblem u) (one_problem_only _ reads.1.0 p' reads.1.1 given.printed_problem) reads.1.2 in
    let there = spans_mean_nothing t d' u p' domain problem in
    let back = spans_mean_nothing d' t p' u (sym domain) (sym problem) in
    record {
      domain = domain;
      problem = problem;
      typed = λ apart. sym there.typed ∙ translation_is_typed d p q given.can apart;
      stepped = λ calls h. translated_plans_are_stepped d p q calls given.can (same_plans d' t p' u back calls h);
      planned = λ moves h.
          let one = stepped_plans_are_translated d p q moves given.can h in
          record {
            calls = one.calls;
            plan = same_plans t d' u p' there one.calls one.plan;
            left = one.left;
            one = λ other k e. one.one other (same_plans d' t p' u back other k) e;
          };
    }
