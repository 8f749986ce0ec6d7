use Rattle.std.proofs.Common.{◌∙◌}
use Rattle.plus_types.specs.Types.{bound_kinds}
use Rattle.plus_types.proofs.JumpLemmas.{reached-top}
use Rattle.plus_types.proofs.jumps.Jumps.is_under_top.Goals as goal

pub returns-in-Some-kind_at : goal.returns-in-Some-kind_at
returns-in-Some-kind_at c =
    let types = c.args.listed.now in
    c.is_name.ensures
    ∙ reached-top types (bound_kinds types) c.args.self.now.depths.items c.args.start c.in-Some.at c.args.high.now c.in-Some-kind_at.kind.now
    c.requires.jumps.listed c.requires.jumps.depths c.in-Some-kind_at.ensures.within c.requires.unlisted c.requires.high
    c.in-Some-kind_at.ensures.kind c.in-Some.ensures.depth (c.in-Some.ensures.alike types c.requires.jumps.steps)
