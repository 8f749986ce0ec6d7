use Rattle.std.proofs.Common.{◌≡◌, ◌-◌, ◌∙◌, length, subst}
use Rattle.std.specs.Prelude.{Some, slice_get}
use Rattle.plus_planner.proofs.TakenLemmas.{last_now}
use Rattle.plus_planner.proofs.places.Place.now.Goals as goal

pub returns-in-Some : goal.returns-in-Some
returns-in-Some g c =
    c.get.ensures
    ∙ last_now c.args.self.now.start c.args.self.now.taken.items c.in-Some.last.now
    (subst (λ xs. Some c.in-Some.last.now ≡ slice_get xs (length xs - 1)) c.deref.ensures.value c.in-Some.ensures.value)
