use Rattle.std.proofs.Common.{List, ◌∙◌, ap}
use Rattle.plus_io.specs.declared.stored.File.{File}
use Rattle.plus_io.specs.Named.{names_of}
use Rattle.plus_io.specs.Stored.{Texts, place_of}
use Rattle.plus_io.proofs.StoredLemmas.{first_named, found, absent}
use Rattle.plus_io.proofs.stored.Stored.place_of.Goals as goal

pub returns-clause-place : goal.returns-clause-place
returns-clause-place c =
    c.first_named.ensures.first ∙ first_named c.deref.result.now c.args.name.now
    ∙ ap (λ (files : List File). place_of (names_of files) c.args.name.now) c.deref.ensures.value
    ∙ ap (λ (t : Texts). place_of t.names c.args.name.now) c.self.view_is

pub returns-clause-found : goal.returns-clause-found
returns-clause-found c listed = rw (returns-clause-place c) (found c.args.self.now.names c.args.name.now listed)

pub returns-clause-absent : goal.returns-clause-absent
returns-clause-absent c out = returns-clause-place c ∙ absent c.args.self.now.names c.args.name.now out
