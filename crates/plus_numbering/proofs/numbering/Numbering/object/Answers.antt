use Rattle.std.proofs.Common.{◌∙◌, ap, sym, length, position}
use Rattle.std.specs.Str.{bytes_eq}
use Rattle.plus_types.specs.Types.{bindings_of, bound_names, objects_of}
use Rattle.plus_types.proofs.ListLemmas.{length-names}
use Rattle.plus_numbering.proofs.NumberLemmas.{position-none}
use Rattle.plus_numbering.proofs.numbering.Numbering.object.Goals as goal

pub returns-in-None : goal.returns-in-None
returns-in-None c =
    let t = c.args.self.now.typed.now in
    let os = bindings_of (objects_of t.domain t.problem) in
    let none = position-none (bytes_eq c.args.name.now) (bound_names os) (ap (λ bs. position (bytes_eq c.args.name.now) (bound_names bs)) (sym t.objects_are) ∙ sym c.in-None.ensures.place) in
    c.len.ensures.len ∙ ap length t.objects_are ∙ sym (length-names os) ∙ sym none
