-- The stops of a round, of settling and of a stretch as stops of a timeline.
use Rattle.plus_state.specs.declared.outcome.Breach.TheVariants as breach
use Rattle.plus_state.specs.declared.outcome.Limit.TheVariants as limit
use Rattle.plus_state.specs.declared.outcome.Owner.TheVariants.{Process}
use Rattle.plus_cascade.specs.declared.rounds.CascadeStop.{CascadeStop}
use Rattle.plus_cascade.specs.declared.rounds.CascadeStop.TheVariants as cascade
use Rattle.plus_settle.specs.declared.stops.SettleStop.{SettleStop}
use Rattle.plus_settle.specs.declared.stops.SettleStop.TheVariants as settle
use Rattle.plus_stretch.specs.declared.halt.Halt.{Halt}
use Rattle.plus_stretch.specs.declared.halt.Halt.TheVariants as halt
use Rattle.plus_timeline.specs.declared.stop.Stop.{Stop}
use Rattle.plus_timeline.specs.declared.stop.Stop.TheVariants.{Breach, Limit, Memory}

-- of a round
abbrev pub of_cascade : {Q : Type 0} → CascadeStop Q → Stop Q
of_cascade (cascade.Repeats e) = Breach (breach.Repeats e)
of_cascade (cascade.Conflict f) = Breach (breach.Conflict f)
of_cascade (cascade.NoValue f) = Breach (breach.NoValue f)
of_cascade (cascade.Number o) = Limit (limit.Number o)
of_cascade cascade.Memory = Memory

-- of settling; a comparison that is not linear is one of a process
abbrev pub of_settle_stop : {Q : Type 0} → SettleStop Q → Stop Q
of_settle_stop (settle.Unsettled p) = Breach (breach.Unsettled p)
of_settle_stop (settle.Coupled p f) = Breach (breach.Coupled p f)
of_settle_stop (settle.NoValue f) = Breach (breach.NoValue f)
of_settle_stop (settle.Number o) = Limit (limit.Number o)
of_settle_stop (settle.Nonlinear p k) = Limit (limit.Nonlinear (Process p) k)
of_settle_stop settle.Memory = Memory

-- of a stretch
abbrev pub of_halt : {Q : Type 0} → Halt Q → Stop Q
of_halt (halt.NoFirstMoment e t) = Breach (breach.NoFirstMoment e t)
of_halt (halt.Limit l) = Limit l
of_halt halt.Memory = Memory
