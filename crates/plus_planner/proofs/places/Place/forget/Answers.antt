use Rattle.std.proofs.Common.{◌≡◌, ◌++◌, ◌∷◌, [], ◌<◌, length, ap, ◌∙◌, arith}
use Rattle.std.specs.Prelude.{option_to_list}
use Rattle.plus_planner.proofs.KinLemmas.{forget_next, forget_kin}
use Rattle.plus_planner.proofs.places.Place.forget.Goals as goal

pub tried-preserved : goal.tried-preserved
tried-preserved g c =
    let xs = c.tried.self.tried.items in
    let ys = c.pop.new.self.items in
    let popped : xs ≡ ys ++ c.in-Some.tried ∷ [] = c.pop.ensures.items ∙ ap (λ o. ys ++ option_to_list o) c.in-Some.is in
    let more : c.args.count < length xs = omega arith in
    record {
      start = c.tried.invariant.start;
      same = c.tried.invariant.same;
      stepper = c.tried.invariant.stepper;
      left = forget_next c.args.count c.args.self.now.tried.items xs ys c.in-Some.tried more popped c.tried.invariant.left;
      kin = λ P h k. forget_kin P xs ys c.in-Some.tried c.tried.self.spares.items c.push.new.self.items popped c.in_ok-push-in-Some.ensures.items (c.tried.invariant.kin P h k);
    }

pub returns-clause-kin : goal.returns-clause-kin
returns-clause-kin g c P h k = (c.tried.invariant.kin P h k).1
