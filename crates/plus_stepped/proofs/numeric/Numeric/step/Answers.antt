use Rattle.plus_cascade.proofs.FiringLemmas.{after_fits}
use Rattle.std.proofs.Common.{refl, ◌∙◌, ap}
use Rattle.plus_model.specs.Terms.{State}
use Rattle.plus_state.specs.Changes.{patched}
use Rattle.plus_stepped.proofs.numeric.Numeric.step.Goals as goal

pub returns-clause-fits : goal.returns-clause-fits
returns-clause-fits g c =
    after_fits _ _ c.args.self.now _ c.action_changes_in.new.changes (record { atoms_fit = refl; fluents_fit = refl })
    (c.patch.ensures ∙ ap (λ (s : State). patched s c.action_changes_in.new.changes) c.self.view_is)
