use Rattle.std.proofs.Common.{inl, inr}
use Rattle.plus_validator.proofs.Validating.{ungrounded_not_valid, ungrounded_reads, ungrounded_refused, ungrounded_fault, ungrounded_memory}
use Rattle.plus_validator.proofs.checking.validate_numbered.Goals as goal

pub returns-in-Err-clause-valid : goal.returns-in-Err-clause-valid
returns-in-Err-clause-valid g c = λ h.
    absurd (ungrounded_not_valid c.args.numbering.now.typed.now.domain c.args.numbering.now.typed.now.problem _ _ _ _ c.refuse.result (c.refuse.ensures.refused c.args.numbering.now.typed.now.domain c.args.numbering.now.typed.now.problem c.in-Err.ensures.limits) h)

pub returns-in-Err-clause-refused : goal.returns-in-Err-clause-refused
returns-in-Err-clause-refused g c = λ h.
    inl (ungrounded_refused c.args.numbering.now.typed.now.domain c.args.numbering.now.typed.now.problem _ _ _ _ c.refuse.result (c.refuse.ensures.refused c.args.numbering.now.typed.now.domain c.args.numbering.now.typed.now.problem c.in-Err.ensures.limits) h)

pub returns-in-Err-clause-read_fault : goal.returns-in-Err-clause-read_fault
returns-in-Err-clause-read_fault g c = λ h.
    absurd (ungrounded_reads c.args.numbering.now.typed.now.domain c.args.numbering.now.typed.now.problem _ _ _ _ c.refuse.result (c.refuse.ensures.refused c.args.numbering.now.typed.now.domain c.args.numbering.now.typed.now.problem c.in-Err.ensures.limits) h)

pub returns-in-Err-clause-write_fault : goal.returns-in-Err-clause-write_fault
returns-in-Err-clause-write_fault g c = λ h.
    let k = ungrounded_fault c.args.numbering.now.typed.now.domain c.args.numbering.now.typed.now.problem _ _ _ _ c.refuse.result (c.refuse.ensures.refused c.args.numbering.now.typed.now.domain c.args.numbering.now.typed.now.problem c.in-Err.ensures.limits) h in
    (k.0, inl k.1)

pub returns-in-Err-clause-no_memory : goal.returns-in-Err-clause-no_memory
returns-in-Err-clause-no_memory g c = λ h.
    inl (ungrounded_memory c.args.numbering.now.typed.now.domain c.args.numbering.now.typed.now.problem _ _ _ _ c.refuse.result (c.refuse.ensures.refused c.args.numbering.now.typed.now.domain c.args.numbering.now.typed.now.problem c.in-Err.ensures.limits) h)

pub returns-clause-refused : goal.returns-clause-refused
returns-clause-refused g c = λ h. inr (c.validate_ground-outcome.ensures.refused h)

pub returns-clause-write_fault : goal.returns-clause-write_fault
returns-clause-write_fault g c = λ h. (let k = c.validate_ground-outcome.ensures.write_fault h in (k.0, inr k.1))

pub returns-in-Err-clause-keeps_up : goal.returns-in-Err-clause-keeps_up
returns-in-Err-clause-keeps_up g c = λ h.
    let k = ungrounded_fault c.args.numbering.now.typed.now.domain c.args.numbering.now.typed.now.problem _ _ _ _ c.refuse.result (c.refuse.ensures.refused c.args.numbering.now.typed.now.domain c.args.numbering.now.typed.now.problem c.in-Err.ensures.limits) h in
    inl k.1

pub returns-clause-keeps_up : goal.returns-clause-keeps_up
returns-clause-keeps_up g c = λ h. inr (c.validate_ground-outcome.ensures.keeps_up h)
