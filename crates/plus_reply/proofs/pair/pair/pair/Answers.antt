use Rattle.std.proofs.Common.{[], ◌∷◌, ap}
use Rattle.plus_io.proofs.Readings.{one_read, then_read, both_read}
use Rattle.std.proofs.lemmas.Result.{err_from_is_err_and}
use Rattle.plus_reply.proofs.PairLemmas.PairLemmas.{pair_by_domain, pair_by_problem, pair_by_types, pair_read}
use Rattle.plus_reply.proofs.pair.pair.pair.Goals as goal

pub returns-in_err-domain-clause-not_read : goal.returns-in_err-domain-clause-not_read
returns-in_err-domain-clause-not_read g c =
    let p = err_from_is_err_and c.from_residual.result c.from_residual.ensures.1 in
    rw (p.1, p.2) (pair_by_domain _ _ _ _ _ c.in_err-domain.ensures.not_read)

pub returns-in_err-problem-clause-not_read : goal.returns-in_err-problem-clause-not_read
returns-in_err-problem-clause-not_read g c =
    let p = err_from_is_err_and c.from_residual-in_err-problem.result c.from_residual-in_err-problem.ensures.1 in
    rw (p.1, p.2) (pair_by_problem _ _ _ c.in_ok-domain.domain _ _ _ _ (ap (λ f. f c.args.problem.now) c.in_ok-domain.ensures.keeps.same_bytes) c.in_ok-domain.ensures.keeps.no_fall c.in_ok-domain.ensures.read c.in_err-problem.ensures.not_read)

pub returns-in-Err-clause-not_read : goal.returns-in-Err-clause-not_read
returns-in-Err-clause-not_read g c =
    pair_by_types _ _ _ c.in_ok-domain.domain c.in_ok-problem.problem _ _ c.in-Err.fault _ (ap (λ f. f c.args.problem.now) c.in_ok-domain.ensures.keeps.same_bytes) c.in_ok-domain.ensures.read c.in_ok-problem.ensures.read c.in-Err.ensures.walks c.refuse_types.ensures

pub returns-in-Ok-clause-read : goal.returns-in-Ok-clause-read
returns-in-Ok-clause-read g c =
    pair_read _ _ _ c.in_ok-domain.domain c.in-Ok.typed.domain c.in_ok-problem.problem c.in-Ok.typed.problem
    (ap (λ f. f c.args.problem.now) c.in_ok-domain.ensures.keeps.same_bytes) c.in_ok-domain.ensures.read c.in_ok-problem.ensures.read c.in-Ok.ensures.pair

pub returns-in_err-domain-clause-reads : goal.returns-in_err-domain-clause-reads
returns-in_err-domain-clause-reads g c = one_read _ _ _ _ _ _ (c.args.problem.now ∷ []) _ _ c.in_err-domain.ensures.reads

pub returns-in_err-problem-clause-reads : goal.returns-in_err-problem-clause-reads
returns-in_err-problem-clause-reads g c =
    then_read _ _ _ _ _ _ (c.args.problem.now ∷ []) _ _ _ c.in_ok-domain.ensures.reads (one_read _ _ _ _ _ _ [] _ _ c.in_err-problem.ensures.reads)

pub returns-in-Err-clause-reads : goal.returns-in-Err-clause-reads
returns-in-Err-clause-reads g c =
    then_read _ _ _ _ _ _ (c.args.problem.now ∷ []) _ _ _ c.in_ok-domain.ensures.reads (one_read _ _ _ _ _ _ [] _ _ c.in_ok-problem.ensures.reads)

pub returns-in-Ok-clause-reads : goal.returns-in-Ok-clause-reads
returns-in-Ok-clause-reads g c =
    then_read _ _ _ _ _ _ (c.args.problem.now ∷ []) _ _ _ c.in_ok-domain.ensures.reads (one_read _ _ _ _ _ _ [] _ _ c.in_ok-problem.ensures.reads)

pub returns-in-Ok-clause-both : goal.returns-in-Ok-clause-both
returns-in-Ok-clause-both g c = both_read _ _ _ _ _ _ _ _ _ _ c.in_ok-domain.ensures.reads c.in_ok-problem.ensures.reads
