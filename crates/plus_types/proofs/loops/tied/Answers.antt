use Rattle.std.proofs.Common.{◌∙◌, ap, sym, arith}
use Rattle.std.specs.List.{list_any}
use Rattle.plus_types.specs.Ranks.{rank_of}
use Rattle.plus_types.proofs.TypesLemmas.{take-past}
use Rattle.plus_types.proofs.RankLemmas.{rises, stays, not_suspect}
use Rattle.plus_types.proofs.loops.tied.Goals as goal

pub returns : goal.returns
returns c =
    let r = rank_of c.args.names.now c.args.ranks.now in
    let past = take-past c.args.types.now c.types.member-index c.types-test.false in
    not_suspect r c.args.types.now c.types.suspects (omega (arith, c.rank.ensures, c.if-rank-ne0.false))
    (ap (list_any (rises r)) (sym past) ∙ c.types.invariant.falls)
    (λ k. c.types.invariant.known k ∙ ap (list_any (stays r k)) past)
