use Rattle.std.proofs.Common.{ℕ, List, ◌++◌, ap, refl}
use Rattle.std.proofs.lemmas.Result.{IfOk-equal}
use Rattle.plus_cut.specs.Marks.{unmarked}
use Rattle.plus_cut.proofs.LosingLemmas.{kept_no}
use Rattle.plus_cut.proofs.losing.keep.Goals as goal

pub returns-in-Some : goal.returns-in-Some
returns-in-Some g c =
    IfOk-equal c.keep_unmarked.result _ _ _ c.keep_unmarked.ensures (ap (λ (bs : List ℕ). c.args.atoms.now.items ++ unmarked c.args.marks.now bs) c.in-Some.ensures)

pub returns-in-None : goal.returns-in-None
returns-in-None g c = kept_no c.args.marks.now c.args.atoms.now.items _ _ c.in-None.ensures refl
