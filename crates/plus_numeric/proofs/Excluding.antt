-- A text has one answer.
use Rattle.std.proofs.Common.{◌≡◌, ℕ, List, sym, ap, ◌∙◌}
use Rattle.plus_state.proofs.Testing.{one_test}
use Rattle.plus_numeric.specs.Tests.{Test, Passes}
use Rattle.plus_numeric.specs.Asked.{numeric_tests}
use Rattle.plus_numeric.specs.Verdicts.{verdict_of, line_of, kind_of}
use Rattle.plus_numeric.specs.Laws.{OneRefusal, NotBoth, PassingIsPlan, BreachIsNone}
use Rattle.plus_numeric.proofs.Meaning.{text_passes, text_not}

pub one_refusal : OneRefusal
one_refusal source d p bytes kind kind' line line' a b =
    let same : a.test ≡ b.test = (one_test Passes).one (numeric_tests d p bytes) a.test b.test a.first b.first in (
      a.kind_is ∙ ap (λ (t : Test). kind_of (verdict_of source t)) same ∙ sym b.kind_is,
      a.says ∙ ap (λ (t : Test). line_of d p (verdict_of source t)) same ∙ sym b.says,
    )

pub not_both : NotBoth
not_both source d p bytes keep calls kind line a b = (one_test Passes).none (numeric_tests d p bytes) b.test a.passed b.first

pub breach_is_none : BreachIsNone
breach_is_none d p bytes test f b plan = text_not d p bytes test f b plan

pub passing_is_plan : PassingIsPlan
passing_is_plan d p bytes h = text_passes d p bytes h
