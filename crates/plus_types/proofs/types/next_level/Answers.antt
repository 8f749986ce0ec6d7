use Rattle.std.proofs.Common.{◌∙◌, ◌&&◌, not}
use Rattle.std.specs.List.{list_any}
use Rattle.std.specs.Str.{bytes_eq}
use Rattle.plus_types.specs.Types.{object_name}
use Rattle.plus_types.proofs.TypesLemmas.{gathered, gathered-more, take-past}
use Rattle.plus_types.proofs.types.next_level.Goals as goal

pub types-preserved : goal.types-preserved
types-preserved c = λ k.
    let e = rw (c.bytes-in-types.ensures, c.contains-below.ensures, c.bytes.ensures) at c.in_ok-add_where-2.ensures k in
    gathered-more c.args.level.now c.args.types.now c.types.member-index c.member-item.result (list_any (λ x. not (bytes_eq x object_name)) c.args.level.now && bytes_eq k object_name) _ _ k c.types-test.true c.member-item.is
    (c.types.invariant k) e

pub returns : goal.returns
returns c = λ k.
    let e = rw (take-past c.args.types.now c.types.member-index c.types-test.false) at c.types.invariant k in
    e ∙ gathered c.args.types.now c.args.level.now k
