use Rattle.std.proofs.Common.{◌∙◌, ap, sym, ◌||◌, ◌&&◌}
use Rattle.std.specs.Str.{bytes_eq}
use Rattle.plus_types.specs.Types.{is_among}
use Rattle.plus_types.proofs.TypesLemmas.{among-added}
use Rattle.plus_types.proofs.types.add_where.Goals as goal

pub returns-in_ok-add : goal.returns-in_ok-add
returns-in_ok-add c = λ k.
    among-added c.args.up.now c.add.new.self c.args.name.now c.in_ok-add.field-0 c.in_ok-add.ensures.fresh c.in_ok-add.ensures.added k
    ∙ ap (λ b. is_among c.args.up.now k || (b && bytes_eq k c.args.name.now)) (sym c.if-holds.true)
