use Rattle.std.proofs.Common.{◌++◌, ap, subst, ◌∙◌, append-nil}
use Rattle.std.specs.Prelude.{Result, Ok, Err, OnErr}
use Rattle.plus_io.specs.Taken.{Took, TookPart}
use Rattle.plus_validator.proofs.Handing.{hands_part}
use Rattle.plus_validator.proofs.reporting.ReportTeller.hand_on.Goals as goal

at_err : {T E Q : Type 0} (r : Result T E) → Q → OnErr r Q
at_err (Ok x) q = tt
at_err (Err e) q = q

pub returns-clause-stays : goal.returns-clause-stays
returns-clause-stays g c = record {
  gone = c.args.self.now.bytes.items;
  took = subst (Took (g.O.Sink.taken c.args.out.now) (g.O.Sink.taken c.write_all.new.sink)) c.deref.ensures.value c.in_ok-write_all.ensures.took;
  goes = λ sent. ap (λ z. (sent ++ c.args.self.now.bytes.items) ++ z) c.clear.ensures.items ∙ append-nil (sent ++ c.args.self.now.bytes.items);
}

pub returns-clause-all : goal.returns-clause-all
returns-clause-all g c = λ N P sent. ap (λ z. sent ++ z) c.clear.ensures.items ∙ append-nil sent

pub returns-in_err-write_all-clause-breaks : goal.returns-in_err-write_all-clause-breaks
returns-in_err-write_all-clause-breaks g c =
    at_err c.from_residual.result
    (hands_part c.args.self.now (g.O.Sink.taken c.args.out.now) (g.O.Sink.taken c.write_all.new.sink)
    (subst (TookPart (g.O.Sink.taken c.args.out.now) (g.O.Sink.taken c.write_all.new.sink)) c.deref.ensures.value c.in_err-write_all.ensures.part))
