-- What `translate` hands out meets what the laws on printed translations ask.
use Rattle.std.proofs.Common.{◌≡◌, ℕ, ◌<◌, ◌^◌, true, List, sym, ap, subst, ◌∙◌, arith, get_or}
use Rattle.plus_fraction.specs.Fraction.{Fraction}
use Rattle.plus_tree.specs.declared.terms.Literal.{Literal}
use Rattle.plus_tree.specs.declared.trees.Domain.{Domain}
use Rattle.plus_tree.specs.declared.trees.Problem.{Problem}
use Rattle.plus_literal.specs.Value.{literal_value}
use Rattle.plus_parser.specs.SpellsDomain.{Spells, SpellsWithin}
use Rattle.plus_parser.specs.SpellsProblem.{SpellsProblem, SpellsProblemWithin}
use Rattle.plus_printer.specs.Canon.{domain_text, problem_text}
use Rattle.plus_canonical.specs.Same.{SameDomain, SameProblem}
use Rattle.plus_steps.specs.Laws.{IsOnGrid}
use Rattle.plus_translation.specs.Depth.{most_depth, pair_within}
use Rattle.plus_translation.specs.Translated.{steps_to, times_of, translated_domain, translated_problem}
use Rattle.plus_translation.specs.Laws.{CanBeTranslated}
use Rattle.plus_translation.proofs.Clock.{steps_are}
use Rattle.laws_translation.specs.Laws.{FitsText}
use Rattle.laws_translation.proofs.TextLemmas.Counts.{few_in_text}
use Rattle.laws_translation.proofs.DepthLemmas.DepthLaws.{translation_depth}
use Rattle.laws_translation.proofs.PrintedLaws.{printed_plans}
use Rattle.plus_translate.specs.Grid.{StandsOnGrid}
use Rattle.laws_translation.specs.Read.Laws.{IsTranslated, TranslationIsRead, ReadPlans}

grid_of : (q : Fraction) (t : Literal) → StandsOnGrid q t → IsOnGrid q (literal_value t)
grid_of q t h = record { steps = h.grid.steps; at = h.grid.at }

few_steps : (n m : ℕ) → n ≡ m → m < 2 ^ 63 → n < 10 ^ 19
few_steps n m e l = omega (arith, e, l)

module _ (text task : List ℕ) (d : Domain) (p : Problem) (q : Fraction) (d' : Domain) (p' : Problem) (h : IsTranslated text task d p q d' p') where
  can : CanBeTranslated d p q
  can = record {
    passes = h.step.passes;
    typed = h.typed;
    names = h.translation.has.names;
    grid = λ k t l. grid_of q (get_or (times_of p) k t) (h.translation.has.grid k t l);
  }

  short_time : (t : Literal) → StandsOnGrid q t → steps_to q t < 10 ^ 19
  short_time t g = few_steps (steps_to q t) g.grid.steps (steps_are q h.step.passes t g.grid.steps g.grid.at) g.grid.few

  fits : FitsText d p q
  fits =
      let few = few_in_text text d h.domain h.short in
      record {
        top = let v = h.step.value.0 in omega (arith, v);
        bottom = let v = h.step.value.1 in omega (arith, v);
        times = λ k t l. short_time (get_or (times_of p) k t) (h.translation.has.grid k t l);
        events = few.0;
        variables = few.1;
      }

  within : pair_within (translated_domain q d p) (translated_problem q d p) ≡ true
  within = sym (ap (λ x. pair_within x p') h.translation.domain_is ∙ ap (pair_within (translated_domain q d p)) h.translation.problem_is) ∙ h.translation.within

pub translation_is_read : TranslationIsRead
translation_is_read text task d p q d' p' h =
    let reads = (translation_depth text task d p q h.domain h.problem (can text task d p q d' p' h) (fits text task d p q d' p' h)).reads (within text task d p q d' p' h) in (
      subst (λ t. (again : Domain) × SpellsWithin most_depth (domain_text t) again × SameDomain t again) (sym h.translation.domain_is) reads.0,
      subst (λ t. (again : Problem) × SpellsProblemWithin most_depth (problem_text t) again × SameProblem t again) (sym h.translation.problem_is) reads.1,
    )

pub read_plans : ReadPlans
read_plans text task d p q d' p' d'' p'' h rd rp =
    printed_plans d p q d'' p'' (record {
      text = text;
      task = task;
      domain = h.domain;
      problem = h.problem;
      can = can text task d p q d' p' h;
      fits = fits text task d p q d' p' h;
      printed_domain = subst (λ t. Spells (domain_text t) d'') h.translation.domain_is rd;
      printed_problem = subst (λ t. SpellsProblem (problem_text t) p'') h.translation.problem_is rp;
    })
