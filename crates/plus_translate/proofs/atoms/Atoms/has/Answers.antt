use Rattle.std.proofs.Common.{◌∙◌, ap}
use Rattle.std.specs.List.{list_any}
use Rattle.plus_translation.specs.Translated.{same_atom}
use Rattle.plus_translate.proofs.AtomsLemmas.{found}
use Rattle.plus_translate.proofs.atoms.Atoms.has.Goals as goal

pub returns : goal.returns
returns c =
    c.contains.ensures ∙ found c.in_ok-key.key c.self.inside.table.keys _ c.args.atom.now c.in_ok-key.ensures c.self.invariant
    ∙ ap (list_any (same_atom c.args.atom.now)) c.self.view_is
