use Rattle.std.proofs.Common.{sym, Some, None, refl, arith}
use Rattle.std.specs.Str.{bytes_eq}
use Rattle.plus_types.specs.Types.{bound_names}
use Rattle.plus_types.proofs.PlaceLemmas.{none-none, place-before, place-after, place-there, from-zero}
use Rattle.plus_types.proofs.ListLemmas.{none-before, none-after}
use Rattle.plus_types.proofs.declarations.bound.Goals as goal
use Rattle.plus_types.proofs.declarations.bound.Goals.{then-place-outer, else-place-outer}

pub returns-in-None-clause-fresh : goal.returns-in-None-clause-fresh
returns-in-None-clause-fresh c =
    let e = rw c.bytes.ensures at (sym c.in-None.ensures.place) in
    none-none (bytes_eq c.args.name.now.name) 0 (bound_names c.args.table.now) (from-zero (bytes_eq c.args.name.now.name) (bound_names c.args.table.now) None e)

pub returns-in-None-clause-walks : goal.returns-in-None-clause-walks
returns-in-None-clause-walks c =
    let e = rw c.bytes.ensures at (sym c.in-None.ensures.place) in
    let n = none-none (bytes_eq c.args.name.now.name) 0 (bound_names c.args.table.now) (from-zero (bytes_eq c.args.name.now.name) (bound_names c.args.table.now) None e) in
    rw (none-before _ c.args.outer _ n, none-after _ c.args.outer _ n) refl

pub returns-after-place-outer-clause-walks : goal.returns-after-place-outer-clause-walks
returns-after-place-outer-clause-walks c =
    let p = rw c.bytes.ensures at (sym c.in-Some.ensures.place) in
    let e = from-zero (bytes_eq c.args.name.now.name) (bound_names c.args.table.now) (Some c.in-Some.place) p in
    elim c.if-place-outer.branch [
      | then-place-outer w ↦ rw (w.wrong-is, place-before _ 0 c.in-Some.place c.args.outer _ e (omega arith)) refl
      | else-place-outer w ↦
          rw (w.wrong-is, place-after _ 0 c.in-Some.place c.args.outer _ e (omega arith), place-there _ 0 c.in-Some.place c.args.outer _ e (omega arith)) refl
    ]
