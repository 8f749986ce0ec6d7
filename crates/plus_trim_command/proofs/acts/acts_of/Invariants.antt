use Rattle.std.proofs.Common.{◌≡◌, ◌++◌, drop, map, length}
use Rattle.plus_expansion.specs.Numbers.{ground_names}
use Rattle.plus_number.specs.Frac.{fraction_of}
use Rattle.plus_numbering.specs.Numbered.{context}
use Rattle.plus_trim.specs.Acts.{act_of, AllFit}
use Rattle.plus_validator.specs.Plans.{pair_in, lines_meant}
use Rattle.plus_trim_command.specs.Acts.{acts_in}
use Rattle.plus_trim_command.proofs.acts.acts_of.Given as goal

abbrev pub invariant-each : goal.invariant-each
invariant-each l = record {
  acts : map (act_of fraction_of) l.acts.items ++ acts_in (lines_meant (pair_in l.numbering.typed.now) (drop l.line-index l.lines)) ≡ acts_in (lines_meant (pair_in l.numbering.typed.now) l.lines);
  fit : AllFit (length (ground_names (context l.numbering) l.numbering.typed.now.domain.predicates)) (length (ground_names (context l.numbering) l.numbering.typed.now.domain.functions)) (map (act_of fraction_of) l.acts.items);
}
