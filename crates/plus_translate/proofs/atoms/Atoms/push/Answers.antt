use Rattle.std.proofs.Common.{◌≡◌, ◌∙◌, ap, ◌++◌, ◌∷◌, [], if◌then◌else◌}
use Rattle.std.specs.Prelude.{is_ok}
use Rattle.std.proofs.lemmas.List.{map-append}
use Rattle.plus_translate.specs.Atoms.{atoms_of}
use Rattle.plus_translate.proofs.AtomsLemmas.{table_grows}
use Rattle.plus_translate.proofs.atoms.Atoms.push.Goals as goal

pub invariant_of-self-2 : goal.invariant_of-self-2
invariant_of-self-2 c =
    let old = c.self.inside.list.items in
    let pushed : c.push.new.self.items ≡ c.reserve.new.self.items ++ c.args.atom ∷ [] =
    c.push.ensures.items ∙ ap (λ r. if is_ok r then c.reserve.new.self.items ++ c.args.atom ∷ [] else c.reserve.new.self.items) c.unwrap.ensures in
    table_grows c.self.inside.table.keys c.insert_full.new.self.keys c.in_ok-key.key (atoms_of old) _ c.args.atom.now c.in_ok-key.ensures c.in_ok-insert_full.ensures.keys
    (ap atoms_of (pushed ∙ ap (λ xs. xs ++ c.args.atom ∷ []) c.in_ok-reserve.ensures.items) ∙ map-append (λ u. u.now) old (c.args.atom ∷ []))
    c.self.invariant
