use Rattle.std.proofs.Common.{ap, ap₂, ◌∙◌, true}
use Rattle.plus_model.specs.Terms.{Condition}
use Rattle.plus_constraints.specs.Constraint.{When, Constraint}
use Rattle.plus_numbering.specs.Numbered.{context}
use Rattle.plus_expansion.specs.Expansion.{condition_meant}
use Rattle.plus_rules.proofs.preparation.watched.Goals as goal

pub returns : goal.returns
returns g c =
    ap₂ (λ (w : When) (f : Condition). let k : Constraint = record { when = w; condition = f } in k) c.rule_at.ensures
    (c.in_ok-cond.ensures ∙ ap (λ e. condition_meant (context c.args.numbering.now) e true c.args.rule.now.cond) c.new-none.ensures)
