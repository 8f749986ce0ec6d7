use Rattle.std.proofs.Common.{sym, ◌∙◌}
use Rattle.std.specs.Str.{bytes_eq}
use Rattle.plus_instances.proofs.Making.{same_names}
use Rattle.plus_instances.proofs.instances.+are_same.Goals as goal

pub returns-then-eq : goal.returns-then-eq
returns-then-eq t c = λ h.
    same_names c.args.names.now c.args.others.now c.name-item.result c.other-item.result
    c.in-len1-up.len_at_least c.name-item.is c.in-len1-up-others.len_at_least c.other-item.is
    (sym (λ j. bytes_eq (c.bytes.ensures j) (c.bytes-in-len1-up-others.ensures j)) ∙ sym c.eq.ensures ∙ c.if-eq.true)
    (c.are_same.ensures h)
