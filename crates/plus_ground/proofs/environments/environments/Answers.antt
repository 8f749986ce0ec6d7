use Rattle.std.proofs.Common.{◌∙◌, sym}
use Rattle.plus_types.specs.Faults.{problem_context}
use Rattle.plus_ground.proofs.NothingLemmas.{no_environment}
use Rattle.plus_ground.proofs.environments.environments.Goals as goal

pub returns-then-not-have_objects : goal.returns-then-not-have_objects
returns-then-not-have_objects c =
    c.new.ensures.items
    ∙ sym (no_environment (problem_context c.args.numbering.now.typed.now.domain c.args.numbering.now.typed.now.problem) c.args.vars.now c.args.env.now (sym c.if-not-have_objects.ensures))
