-- The ids in the conditions of a problem that fits are places in its lists.
use Rattle.std.specs.Prelude.{All}
use Rattle.std.proofs.lemmas.List.Elements.{All-map}
use Rattle.plus_model.specs.Terms.{Event, Process, Problem}
use Rattle.plus_state.specs.Fits.{Fits, ProblemFits}
use Rattle.plus_state.specs.Walk.{event_conditions, process_conditions}

pub event_conditions_fit : (P : Problem) → ProblemFits P → All (Fits P.atoms P.fluents) (event_conditions P)
event_conditions_fit P h = All-map (Fits P.atoms P.fluents) (λ (e : Event). e.condition) P.events (λ k d l. (h.events k d l).condition)

pub process_conditions_fit : (P : Problem) → ProblemFits P → All (Fits P.atoms P.fluents) (process_conditions P)
process_conditions_fit P h = All-map (Fits P.atoms P.fluents) (λ (p : Process). p.condition) P.processes (λ k d l. (h.processes k d l).condition)
