use Rattle.std.proofs.Common.{◌≡◌, take, vec_len}
use Rattle.std.specs.List.{AllByRecursion}
use Rattle.plus_model.specs.Terms.{Problem}
use Rattle.plus_planner.specs.declared.places.Tried.{Tried}
use Rattle.plus_planner.specs.Kin.{IsKin}
use Rattle.plus_planner.proofs.places.Place.forget.Given as goal

-- no more is forgotten than is to be, and what was forgotten is spared
abbrev pub invariant-tried : goal.invariant-tried
invariant-tried g l = record {
  start : l.self.start ≡ l.initial.self.start;
  same : l.self.taken ≡ l.initial.self.taken;
  stepper : l.self.stepper ≡ l.initial.self.stepper;
  left : take l.count l.self.tried.items ≡ take l.count l.initial.self.tried.items;
  kin : (P : Problem) → AllByRecursion (λ (x : Tried g.row.Q.Denot). IsKin P x.taken.timeline) l.initial.self.tried.items → AllByRecursion (IsKin P) l.initial.self.spares.items
      → AllByRecursion (λ (x : Tried g.row.Q.Denot). IsKin P x.taken.timeline) l.self.tried.items × AllByRecursion (IsKin P) l.self.spares.items;
}

abbrev pub decreases-tried : goal.decreases-tried
decreases-tried g l = vec_len l.self.tried
