use Rattle.std.proofs.Common.{◌∙◌, ap, sym}
use Rattle.std.specs.Option.{option_map}
use Rattle.plus_types.proofs.KindsLemmas.{kind-shown}
use Rattle.plus_types.proofs.kinds.Kinds.kind.Goals as goal

pub returns-in-None : goal.returns-in-None
returns-in-None c =
    rw (← c.self.view_is) (kind-shown c.args.name.now c.self.inside.table.entries ∙ ap (option_map (λ k. k.items)) (sym c.in-None.ensures.value))

pub returns-in-Some : goal.returns-in-Some
returns-in-Some c =
    rw (← c.self.view_is, c.as_slice.ensures) (kind-shown c.args.name.now c.self.inside.table.entries ∙ ap (option_map (λ k. k.items)) (sym c.in-Some.ensures.value))
