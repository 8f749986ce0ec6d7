use Rattle.std.proofs.Common.{ℕ, List, subst}
use Rattle.plus_indexed.specs.Woken.{AddsReaders}
use Rattle.plus_indexed.proofs.Present.{adds_as}
use Rattle.plus_indexed.proofs.waiting.Waiting.add_readers.Goals as goal

pub returns : goal.returns
returns g c =
    adds_as c.args.readers.now c.args.changes.now c.args.self.now c.append_readers.new.numbers.items _
    (subst (λ (xs : List ℕ). AddsReaders c.args.readers.now c.args.changes.now xs c.append_readers.new.numbers.items) c.self.view_is c.in_ok-append_readers.ensures) c.in_ok-thin.ensures
