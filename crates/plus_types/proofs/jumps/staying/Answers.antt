use Rattle.std.proofs.Common.{◌∙◌, ◌+◌, ap}
use Rattle.std.proofs.lemmas.List.{length_push}
use Rattle.plus_types.proofs.JumpLemmas.{push-lead, stay-lead}
use Rattle.plus_types.proofs.jumps.staying.Goals as goal

pub numbers-preserved : goal.numbers-preserved
numbers-preserved c =
    let n = c.numbers.number in
    record {
      size = rw c.in_ok-push.ensures.items (length_push c.numbers.steps.items (record { up = n; jump = n }) ∙ ap (λ k. k + 1) c.numbers.invariant.size);
      stay = rw c.in_ok-push.ensures.items (λ types depths.
          push-lead types depths c.numbers.steps.items n (record { up = n; jump = n }) (c.numbers.invariant.stay types depths) (stay-lead types depths n) c.numbers.invariant.size);
    }
