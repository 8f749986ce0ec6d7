use Rattle.std.proofs.Common.{refl, subst}
use Rattle.plus_io.specs.Taken.{Took, TookPart}
use Rattle.plus_validator.specs.Judged.{told, broken}
use Rattle.plus_validator.proofs.checking.conclude.Goals as goal

pub returns-in-Ok-write_all-clause-concludes : goal.returns-in-Ok-write_all-clause-concludes
returns-in-Ok-write_all-clause-concludes g c =
    told c.in-Ok.judgement c.in-Ok.ensures.sums refl (subst (Took (g.O.Sink.taken c.args.out.now) (g.O.Sink.taken c.write_all.new.sink)) c.deref.ensures.value c.in-Ok-write_all.ensures.took)

pub returns-clause-concludes : goal.returns-clause-concludes
returns-clause-concludes g c =
    broken c.in-Ok.judgement c.in-Ok.ensures.sums refl c.in-Err.ensures.cause (subst (TookPart (g.O.Sink.taken c.args.out.now) (g.O.Sink.taken c.write_all.new.sink)) c.deref.ensures.value c.in-Err.ensures.part)
