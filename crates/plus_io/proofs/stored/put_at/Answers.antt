use Rattle.std.proofs.Common.{◌∙◌, ap}
use Rattle.std.proofs.lemmas.List.{map-set}
use Rattle.std.proofs.Math.ListN.{set}
use Rattle.std.proofs.Math.Seq.{map-set_same}
use Rattle.plus_io.specs.declared.stored.File.{File}
use Rattle.plus_io.specs.Named.{texts_of}
use Rattle.plus_io.proofs.stored.put_at.Goals as goal

pub returns-in-Some-clause-names : goal.returns-in-Some-clause-names
returns-in-Some-clause-names c =
    rw c.in-Some.is (map-set_same _ _ _ _ c.index_mut.result.now (ap (λ (f : File). f.name.items) c.index_mut.ensures.value))

pub returns-in-Some-clause-texts : goal.returns-in-Some-clause-texts
returns-in-Some-clause-texts c =
    rw c.in-Some.is (map-set _ _ _ _ ∙ ap (set (texts_of c.args.files.now.items) c.in-Some.place) c.in_ok-bytes.ensures.items)
