use Rattle.plus_indexed.proofs.indexed.Indexed.copy.Goals as goal

pub returns : goal.returns
returns g c = rw (c.in_ok-timeline.ensures, c.in_ok-stepper.ensures) c.self.view_is
