use Rattle.std.proofs.Common.{refl, arith, lit<}
use Rattle.std.proofs.lemmas.List.{length-map}
use Rattle.std.proofs.lemmas.Grind.{common_steps}
use Rattle.std.proofs.lemmas.List.Elements.{All-map}
use Rattle.plus_state.specs.Fits.{ProcessFits, EventFits}
use Rattle.plus_state.proofs.FitsLemmas.{untimed_fits}
use Rattle.tests_low.proofs.reports.ground.Goals as goal

pub invariant_of-result : goal.invariant_of-result
invariant_of-result c = record {
  fits = untimed_fits _ 2 1 (grind (arith, common_steps)) (grind (arith, common_steps)) (rw c.new-4.ensures.items refl) (All-map (ProcessFits 2 1) _ _ c.requires.processes_fit)
      (All-map (EventFits 2 1) _ _ c.requires.events_fit) c.in_ok-initial.ensures c.always.ensures.fits (lit< tt) (lit< tt) (rw length-map c.requires.few_processes) (rw length-map c.requires.few_events);
}
