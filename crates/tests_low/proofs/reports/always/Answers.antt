use Rattle.std.proofs.Common.{◌≡◌, [], sym, subst, refl}
use Rattle.plus_model.specs.Terms.{Condition}
use Rattle.plus_state.specs.Fits.{Fits, comparisons}
use Rattle.plus_state.proofs.TestsLemmas.{all_view}
use Rattle.tests_low.proofs.reports.always.Goals as goal

pub returns-clause-fits : goal.returns-clause-fits
returns-clause-fits c = subst (Fits 2 1) (all_view _ _ _ [] refl (sym c.new.ensures.items)) tt

pub returns-clause-few : goal.returns-clause-few
returns-clause-few c = subst (λ (k : Condition). comparisons k ≡ 0) (all_view _ _ _ [] refl (sym c.new.ensures.items)) refl
