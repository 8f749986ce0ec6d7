use Rattle.std.proofs.Common.{◌∙◌, ℕ, List, sym, subst}
use Rattle.plus_types.specs.Jumps.{AreDepths}
use Rattle.plus_types.proofs.jumps.from_parents.Goals as goal

pub all_steps-requires-clause-depths : goal.all_steps-requires-clause-depths
all_steps-requires-clause-depths c =
    let same = c.as_slice-2.ensures.value ∙ sym c.as_slice-3.ensures.value in
    let P : List ℕ → Type 0 = λ ds. AreDepths c.args.listed.now ds in
    subst P same (c.are_depths.ensures c.if-not-are_depths.false)
