use Rattle.std.proofs.Common.{refl}
use Rattle.std.specs.Prelude.{OnErr, Result, Ok, Err}
use Rattle.plus_play.proofs.FeedLemmas.{on_one}
use Rattle.plus_validator.specs.declared.run.Run.{Run}
use Rattle.plus_validator.proofs.Handing.{run_stays, run_breaks}
use Rattle.plus_validator.proofs.run.Run.flush.Goals as goal

on_err : {T E : Type 0} (r : Result T E) (P Q : Type 0) → (P → Q) → OnErr r P → OnErr r Q
on_err (Ok x) P Q f h = h
on_err (Err e) P Q f h = f h

pub returns-clause-goes : goal.returns-clause-goes
returns-clause-goes g c =
    let old = c.args.self.now in
    let new : Run g.row.T.Denot = record { timeline = old.timeline; teller = c.hand_on.new.self; entries = old.entries; firings = old.firings; ended = old.ended } in
    on_one c.hand_on.result (λ h. run_stays g.T.Teller.told g.T.Teller.telling old new (g.O.Sink.taken c.args.out.now) (g.O.Sink.taken c.hand_on.new.out) refl refl refl refl h) c.hand_on.ensures.stays

pub returns-clause-breaks : goal.returns-clause-breaks
returns-clause-breaks g c =
    let old = c.args.self.now in
    let new : Run g.row.T.Denot = record { timeline = old.timeline; teller = c.hand_on.new.self; entries = old.entries; firings = old.firings; ended = old.ended } in
    on_err c.hand_on.result _ _ (λ h. run_breaks g.T.Teller.told g.T.Teller.telling old new (g.O.Sink.taken c.args.out.now) (g.O.Sink.taken c.hand_on.new.out) h) c.hand_on.ensures.breaks
