use Rattle.std.proofs.Common.{◌∙◌}
use Rattle.plus_types.specs.Faults.{problem_context}
use Rattle.plus_ground.proofs.EnvironmentsLemmas.{atom_named, one_object}
use Rattle.plus_ground.proofs.environments.atom.Goals as goal

pub returns : goal.returns
returns c =
    atom_named (problem_context c.args.numbering.now.typed.now.domain c.args.numbering.now.typed.now.problem) c.args.env.now c.args.used.now _ _ _
    c.atom-2.ensures c.bytes-name.ensures (c.as_slice-2.ensures ∙ c.in_ok-objects.ensures)

pub returns-in-len1 : goal.returns-in-len1
returns-in-len1 c =
    atom_named (problem_context c.args.numbering.now.typed.now.domain c.args.numbering.now.typed.now.problem) c.args.env.now c.args.used.now _ _ _
    c.atom.ensures c.bytes-name.ensures
    (one_object (problem_context c.args.numbering.now.typed.now.domain c.args.numbering.now.typed.now.problem) c.args.env.now c.args.used.now c.as_slice.result.now c.only-item.result _ c.in-len1.len_at_least c.in-len1.len_below c.only-item.is c.as_slice.ensures c.term_object.ensures)
