use Rattle.std.proofs.Common.{◌⊎◌, inl, subst}
use Rattle.plus_number.specs.Frac.{IsFrac64}
use Rattle.plus_types.specs.declared.typed.Typed.{Typed}
use Rattle.plus_ground.proofs.RefusalLemmas.{names_refused}
use Rattle.plus_validator.specs.Leaving.{StopsReading, KeepsUp}
use Rattle.plus_validator.specs.Validates.{RefusesPairInPart}
use Rattle.plus_validator.proofs.Validating.{ungrounded_not_valid, ungrounded_reads, ungrounded_refused, ungrounded_fault, ungrounded_memory}
use Rattle.plus_validator.proofs.checking.validate.Goals as goal

pub returns-in-Err-clause-valid : goal.returns-in-Err-clause-valid
returns-in-Err-clause-valid g c = λ h.
    absurd (ungrounded_not_valid c.args.typed.now.domain c.args.typed.now.problem _ _ _ _ c.refuse.result (c.refuse.ensures.refused c.args.typed.now.domain c.args.typed.now.problem (names_refused IsFrac64 c.args.typed.now.domain c.args.typed.now.problem c.in-Err.fault c.in-Err.ensures.counts)) h)

pub returns-in-Err-clause-refused : goal.returns-in-Err-clause-refused
returns-in-Err-clause-refused g c = λ h.
    inl (ungrounded_refused c.args.typed.now.domain c.args.typed.now.problem _ _ _ _ c.refuse.result (c.refuse.ensures.refused c.args.typed.now.domain c.args.typed.now.problem (names_refused IsFrac64 c.args.typed.now.domain c.args.typed.now.problem c.in-Err.fault c.in-Err.ensures.counts)) h)

pub returns-in-Err-clause-read_fault : goal.returns-in-Err-clause-read_fault
returns-in-Err-clause-read_fault g c = λ h.
    absurd (ungrounded_reads c.args.typed.now.domain c.args.typed.now.problem _ _ _ _ c.refuse.result (c.refuse.ensures.refused c.args.typed.now.domain c.args.typed.now.problem (names_refused IsFrac64 c.args.typed.now.domain c.args.typed.now.problem c.in-Err.fault c.in-Err.ensures.counts)) h)

pub returns-in-Err-clause-write_fault : goal.returns-in-Err-clause-write_fault
returns-in-Err-clause-write_fault g c = λ h.
    let k = ungrounded_fault c.args.typed.now.domain c.args.typed.now.problem _ _ _ _ c.refuse.result (c.refuse.ensures.refused c.args.typed.now.domain c.args.typed.now.problem (names_refused IsFrac64 c.args.typed.now.domain c.args.typed.now.problem c.in-Err.fault c.in-Err.ensures.counts)) h in
    (k.0, inl k.1)

pub returns-in-Err-clause-no_memory : goal.returns-in-Err-clause-no_memory
returns-in-Err-clause-no_memory g c = λ h.
    inl (ungrounded_memory c.args.typed.now.domain c.args.typed.now.problem _ _ _ _ c.refuse.result (c.refuse.ensures.refused c.args.typed.now.domain c.args.typed.now.problem (names_refused IsFrac64 c.args.typed.now.domain c.args.typed.now.problem c.in-Err.fault c.in-Err.ensures.counts)) h)

pub returns-in-Ok-clause-read_fault : goal.returns-in-Ok-clause-read_fault
returns-in-Ok-clause-read_fault g c = λ h.
    let k = c.validate_numbered.ensures.read_fault h in (
      k.0,
      subst (λ (t : Typed). StopsReading t.domain t.problem c.args.happenings (g.S.Shelf.bytes c.args.shelf.now c.args.plan.now)
          (g.S.Shelf.picked c.validate_numbered.new.shelf) (g.S.Shelf.rest c.validate_numbered.new.shelf) (g.O.Sink.taken c.args.out.now) (g.O.Sink.taken c.validate_numbered.new.out)) c.in-Ok.ensures.of k.1,
    )

pub returns-in-Err-clause-keeps_up : goal.returns-in-Err-clause-keeps_up
returns-in-Err-clause-keeps_up g c = λ h.
    let k = ungrounded_fault c.args.typed.now.domain c.args.typed.now.problem _ _ _ _ c.refuse.result (c.refuse.ensures.refused c.args.typed.now.domain c.args.typed.now.problem (names_refused IsFrac64 c.args.typed.now.domain c.args.typed.now.problem c.in-Err.fault c.in-Err.ensures.counts)) h in
    inl k.1

pub returns-in-Ok-clause-keeps_up : goal.returns-in-Ok-clause-keeps_up
returns-in-Ok-clause-keeps_up g c = λ h.
    subst (λ (t : Typed). RefusesPairInPart t.domain t.problem (g.O.Sink.taken c.args.out.now) (g.O.Sink.taken c.validate_numbered.new.out)
    ⊎ KeepsUp t.domain t.problem c.args.happenings (g.S.Shelf.bytes c.args.shelf.now c.args.plan.now)
    (g.S.Shelf.rest c.validate_numbered.new.shelf) (g.O.Sink.taken c.args.out.now) (g.O.Sink.taken c.validate_numbered.new.out)) c.in-Ok.ensures.of (c.validate_numbered.ensures.keeps_up h)
