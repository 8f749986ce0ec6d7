use Rattle.std.proofs.Common.{refl, ◌++◌, [], ◌∷◌, ◌∙◌, ap}
use Rattle.std.proofs.lemmas.Result.{err_from_is_err_and}
use Rattle.plus_types.specs.Types.{bindings_of, bound_names}
use Rattle.plus_types.specs.Faults.{listed_faults, types_faults}
use Rattle.plus_types.proofs.WalkLemmas.{walk_err}
use Rattle.plus_types.proofs.TypesLemmas.{take-past, drop-past}
use Rattle.plus_types.proofs.SoundLemmas.{well_listed}
use Rattle.plus_types.proofs.RankLemmas.{listed-here}
use Rattle.plus_types.proofs.types.table.Goals as goal

pub returns-in_err-listed-clause-walks : goal.returns-in_err-listed-clause-walks
returns-in_err-listed-clause-walks c =
    let p = err_from_is_err_and c.from_residual-in_err-listed.result c.from_residual-in_err-listed.ensures.1 in
    let bs = bindings_of c.args.types.now in
    let before = bound_names c.types.table in
    rw (p.1, p.2) (walk_err _ (types_faults bs before) (listed_faults bs before) (λ t ts. types_faults bs (before ++ t.name.name ∷ []) ts) (λ t ts. refl)
    c.args.types.now c.types.member-index c.member-item.result _ c.types-test.true c.member-item.is c.types.invariant.walked c.in_err-listed.ensures.walks)

pub listed-requires-clause-listed : goal.listed-requires-clause-listed
listed-requires-clause-listed c = listed-here c.args.types.now c.types.member-index c.member-item.result c.types-test.true c.member-item.is
