use Rattle.std.proofs.Common.{ap, map, ◌∙◌}
use Rattle.std.specs.List.{flat_map}
use Rattle.std.proofs.lemmas.List.{take_all}
use Rattle.plus_tree.specs.declared.trees.Constraint.{Constraint}
use Rattle.plus_literal.specs.Value.{LiteralFits}
use Rattle.plus_expansion.specs.Literals.{condition_literals}
use Rattle.plus_numbering.specs.Numbered.{context}
use Rattle.plus_ground.proofs.ExpressionsLemmas.{all_left, all_right}
use Rattle.plus_ground.proofs.ConditionsLemmas.{mapped_more}
use Rattle.plus_ground.proofs.EffectsLemmas.{part_fits}
use Rattle.plus_watch.specs.Watched.{constraint_of}
use Rattle.plus_rules.specs.Written.{times_of, constraint_meant}
use Rattle.plus_rules.proofs.preparation.build.Goals as goal

pub watched-requires-clause-condition : goal.watched-requires-clause-condition
watched-requires-clause-condition g c =
    part_fits g.Q.Exact.fits (λ (x : Constraint). condition_literals x.cond) c.args.rules.now c.rules.rule-index c.rule-item.result c.rules-test.true c.rule-item.is
    (all_left (LiteralFits g.Q.Exact.fits) (flat_map (λ (x : Constraint). condition_literals x.cond) c.args.rules.now) (flat_map (λ (x : Constraint). times_of x.rule) c.args.rules.now) c.requires)

pub watched-requires-clause-time : goal.watched-requires-clause-time
watched-requires-clause-time g c =
    part_fits g.Q.Exact.fits (λ (x : Constraint). times_of x.rule) c.args.rules.now c.rules.rule-index c.rule-item.result c.rules-test.true c.rule-item.is
    (all_right (LiteralFits g.Q.Exact.fits) (flat_map (λ (x : Constraint). condition_literals x.cond) c.args.rules.now) (flat_map (λ (x : Constraint). times_of x.rule) c.args.rules.now) c.requires)

pub rules-preserved : goal.rules-preserved
rules-preserved g c =
    mapped_more (constraint_of g.Q.Exact.value) (constraint_meant (context c.args.numbering.now)) c.rules.found.items c.push.new.self.items c.in_ok-watched.field-0
    c.args.rules.now c.rules.rule-index c.rule-item.result c.rules-test.true c.rule-item.is c.rules.invariant c.in_ok-push.ensures.items c.in_ok-watched.ensures

pub returns : goal.returns
returns g c = c.rules.invariant ∙ ap (map (constraint_meant (context c.args.numbering.now))) (take_all c.rules.rule-index c.args.rules.now c.rules-test.false)
