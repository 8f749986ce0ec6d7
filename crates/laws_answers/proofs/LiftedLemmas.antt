-- The calls that `lift` makes a timed plan of are a stepped plan of the pair.
use Rattle.std.proofs.Common.{◌≡◌, ℕ, ◌<◌, ◌≤◌, ◌^◌, List, [], ◌∷◌, length, sym, ap, subst, arith}
use Rattle.plus_fraction.specs.Fraction.{Fraction}
use Rattle.plus_io.specs.Limits.{text_limit}
use Rattle.plus_model.specs.Terms.{Condition, State}
use Rattle.plus_tree.specs.declared.trees.Domain.{Domain}
use Rattle.plus_tree.specs.declared.trees.Problem.{Problem}
use Rattle.plus_tree.specs.declared.trees.Call.{Call}
use Rattle.plus_types.specs.Faults.{is_empty}
use Rattle.plus_typing.proofs.Typed.{well_typed_by_statements}
use Rattle.plus_parser.specs.SpellsDomain.{Spells, SpellsWithin}
use Rattle.plus_parser.specs.SpellsProblem.{SpellsProblem, SpellsProblemWithin}
use Rattle.plus_grammar.specs.Texts.{IsDomainText, IsProblemText}
use Rattle.plus_grammar.proofs.Texts.{domain_texts, problem_texts}
use Rattle.plus_printer.specs.Canon.{domain_text, problem_text}
use Rattle.plus_expansion.specs.Expansion.{expanded}
use Rattle.plus_steps.specs.Numeric.{NumericPlan}
use Rattle.plus_translation.specs.Laws.{called_in_pair, stripped, IsSteppedPlan}
use Rattle.laws_translation.specs.Read.Laws.{IsStep, IsTranslated}
use Rattle.laws_translation.proofs.ReadLaws.{read_plans}
use Rattle.plus_numeric.specs.Calls.{call_meant, PlanOf}
use Rattle.plus_reply.specs.Pair.Pair.{depth_limit, SpellsWellTyped}
use Rattle.plus_report.specs.declared.status.Status.TheVariants as s
use Rattle.plus_numeric.specs.declared.answer.Kind.{Kind}
use Rattle.plus_numeric.specs.declared.answer.Kind.TheVariants as kinds
use Rattle.plus_numeric.specs.Verdicts.{kind_status}
use Rattle.plus_lift.specs.Lifts.{names_of}
use Rattle.plus_lift.specs.Command.Again.{SpellsAgain}
use Rattle.plus_lift.specs.Command.Lift.{no_pair, of_pair, LiftsPair, no_texts, of_texts, LiftsPlan, no_plan, lifts, LiftsCalls, late, judged}
use Rattle.laws_found.proofs.CheckedLemmas.Written.{not_valid}
use Rattle.laws_answers.specs.Lifted.{AcceptedIsStepped, TellsSteppedPlan, LiftedIsStepped}

-- ---- texts, whatever the depth

domain_spelled : (text : List ℕ) (d : Domain) → SpellsWithin depth_limit text d → Spells text d
domain_spelled text d (ts, is, t, w) = (ts, is, t)

problem_spelled : (text : List ℕ) (p : Problem) → SpellsProblemWithin depth_limit text p → SpellsProblem text p
problem_spelled text p (ts, is, t, w) = (ts, is, t)

domain_of : (text : List ℕ) (d : Domain) → IsDomainText depth_limit text d → Spells text d
domain_of text d h = domain_spelled text d ((domain_texts depth_limit text d).1 h)

problem_of : (text : List ℕ) (p : Problem) → IsProblemText depth_limit text p → SpellsProblem text p
problem_of text p h = problem_spelled text p ((problem_texts depth_limit text p).1 h)

short : (n : ℕ) → n ≤ text_limit → n < 2 ^ 63
short n l = omega (arith, l)

-- ---- the calls by their names

by_names : (d : Domain) (p : Problem) (goal : Condition) (s : State) (calls : List Call) → NumericPlan (call_meant d p) goal s calls → NumericPlan (called_in_pair d p) goal s (names_of calls)
by_names d p goal s [] h = h
by_names d p goal s (call ∷ calls) h =
    (h.0, record { action = h.1.action; called = h.1.called; does = h.1.does }, by_names d p goal h.0 calls h.2)

pub accepted_is_stepped : AcceptedIsStepped
accepted_is_stepped q ds ps ls d p d' p' calls step t x a =
    let given : IsTranslated ds ps d p q x.d' x.p' = record {
      short = short (length ds) t.spelled.domain_within;
      domain = domain_of ds d t.spelled.domain_spelled;
      problem = problem_of ps p t.spelled.problem_spelled;
      typed = ap is_empty ((well_typed_by_statements d p).1 t.well_typed);
      step = step;
      translation = x.translation;
    } in
    let says = read_plans ds ps d p q x.d' x.p' d' p' given
    (domain_of (domain_text x.d') d' x.again.spelled.domain_spelled) (problem_of (problem_text x.p') p' x.again.spelled.problem_spelled) in
    let plan : PlanOf d' p' calls = subst (PlanOf d' p') (sym a.calls_are) a.has.plan in
    says.stepped (names_of calls) (by_names d' p' (expanded d' p').goal (expanded d' p').initial calls plan)

-- ---- what is written

-- a plan that is refused is not valid
pub kind_not_valid : (kind : Kind) → s.Valid ≡ kind_status kind → ⊥
kind_not_valid kinds.Invalid i = cc
kind_not_valid kinds.Beyond i = cc
kind_not_valid kinds.BadText i = cc

module _ (q : Fraction) (ds ps ls written : List ℕ) (step : IsStep q) (d : Domain) (p : Problem) (t : SpellsWellTyped ds ps d p) where
  of_calls : (calls : List Call) → IsSteppedPlan d p q (stripped (names_of calls)) → LiftsCalls q d p calls s.Valid written → TellsSteppedPlan q ds ps written
  of_calls calls h (late n l i k) = cc i
  of_calls calls h (judged plan j l g i k) = record { d = d; p = p; pair = t; moves = stripped (names_of calls); stepped = h; verdict = j.line.items; text = k }

  of_plan : (d' : Domain) (p' : Problem) → SpellsAgain q d p d' p' → LiftsPlan q d p d' p' ls s.Valid written → TellsSteppedPlan q ds ps written
  of_plan d' p' x (no_plan kind h i) = absurd (kind_not_valid kind i)
  of_plan d' p' x (lifts calls a h) = of_calls calls (accepted_is_stepped q ds ps ls d p d' p' calls step t x a) h

  of_texts_pair : LiftsPair q d p ls s.Valid written → TellsSteppedPlan q ds ps written
  of_texts_pair (no_texts e h i k) = absurd (not_valid e i)
  of_texts_pair (of_texts d' p' x h) = of_plan d' p' x h

pub lifted_is_stepped : LiftedIsStepped
lifted_is_stepped q ds ps ls written step (no_pair e h i k) = absurd (not_valid e i)
lifted_is_stepped q ds ps ls written step (of_pair d p t h) = of_texts_pair q ds ps ls written step d p t h
