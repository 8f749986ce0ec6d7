use Rattle.std.proofs.Common.{ap, map, sym, subst, ◌∙◌}
use Rattle.plus_state.specs.Due.{DuesFit}
use Rattle.plus_state.specs.Stops.{due_of}
use Rattle.plus_timeline.proofs.LiteralLemmas.{one_alone, with_ok}
use Rattle.plus_timeline.proofs.literals.atoms_by.Goals as goal

pub returns-then-literals-eq1-clause-same : goal.returns-then-literals-eq1-clause-same
returns-then-literals-eq1-clause-same g c =
    with_ok _ _ c.one_change.result (λ x e. one_alone c.args.literals.now c.index-literals-0.result _ c.if-literals-eq1.true c.index-literals-0.is e) c.one_change.ensures

pub returns-clause-inside : goal.returns-clause-inside
returns-clause-inside g c =
    with_ok _ _ c.changed_atoms.result (λ x h n m d. h n m (subst (DuesFit n m) (sym (ap (map (due_of g.Q.Exact.value)) c.deref.ensures.value ∙ c.in_ok-due.ensures)) d)) c.changed_atoms.ensures.inside
