-- What atoms decide stays decided along rates, and asks nothing.
use Rattle.std.proofs.Common.{◌≡◌, Bool, ◌∙◌}
use Rattle.std.specs.Prelude.{Some}
use Rattle.plus_model.specs.Terms.{Condition, Always, Never, Both, Either, Atom, Compare, State}
use Rattle.plus_model.specs.Value.{holds}
use Rattle.plus_model.specs.Live.{live}
use Rattle.plus_model.proofs.Alive.{live_holds}
use Rattle.plus_state.specs.Tests.{verdict, decided}

verdict_holds : (c : Condition) (b : Bool) (t : State) → Some b ≡ verdict c → b ≡ holds c t
verdict_holds Always b t e = cc
verdict_holds Never b t e = cc
verdict_holds (Both c d) b t e = cc
verdict_holds (Either c d) b t e = cc
verdict_holds (Atom a positive) b t e = cc
verdict_holds (Compare test left right positive) b t e = cc

-- in each state with the same atoms
pub decided_along : (c : Condition) (b : Bool) (s t : State) → s.atoms ≡ t.atoms → Some b ≡ decided c s → b ≡ holds c t
unfolding decided
decided_along c b s t e h = verdict_holds (live c s) b t h ∙ live_holds c s t e
