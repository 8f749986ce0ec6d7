use Rattle.std.proofs.Common.{drop, option_map}
use Rattle.plus_state.specs.ChangesView.{atom_change, atom_changes}
use Rattle.plus_state.proofs.OpenLemmas.{Rising}
use Rattle.plus_state.proofs.atoms.are_once.Given as goal

abbrev pub invariant-each : goal.invariant-each
invariant-each l = Rising (option_map atom_change l.last) (atom_changes (drop l.put-index l.puts)) (atom_changes l.puts)
