use Rattle.std.proofs.Common.{◌++◌, map, length, ap, sym, subst}
use Rattle.plus_expansion.specs.Numbers.{ground_names}
use Rattle.plus_number.specs.Frac.{fraction_of}
use Rattle.plus_numbering.specs.Numbered.{context}
use Rattle.plus_trim.specs.Acts.{act_of, AllFit}
use Rattle.plus_validator.specs.Plans.{pair_in, lines_meant}
use Rattle.plus_trim_command.specs.Acts.{acts_in}
use Rattle.plus_trim_command.specs.Playable.{IsPlayable}
use Rattle.plus_trim_command.proofs.ActLemmas.{acts_more, acts_end, fit_none, all_at}
use Rattle.plus_trim_command.proofs.acts.acts_of.Goals as goal

pub each-init : goal.each-init
each-init c = record {
  acts = ap (λ xs. map (act_of fraction_of) xs ++ acts_in (lines_meant (pair_in c.args.numbering.now.typed.now) c.args.lines.now)) c.new-acts.ensures.items;
  fit = subst (λ xs. AllFit (length (ground_names (context c.args.numbering.now) c.args.numbering.now.typed.now.domain.predicates)) (length (ground_names (context c.args.numbering.now) c.args.numbering.now.typed.now.domain.functions)) (map (act_of fraction_of) xs)) (sym c.new-acts.ensures.items)
      (fit_none (length (ground_names (context c.args.numbering.now) c.args.numbering.now.typed.now.domain.predicates)) (length (ground_names (context c.args.numbering.now) c.args.numbering.now.typed.now.domain.functions)));
}

pub add-requires-clause-playable : goal.add-requires-clause-playable
add-requires-clause-playable c =
    all_at (IsPlayable c.args.numbering.now.typed.now.domain c.args.numbering.now.typed.now.problem) c.args.lines.now c.each.line-index c.line-item.result c.requires c.each-test.true c.line-item.is

pub each-preserved : goal.each-preserved
each-preserved c = record {
  acts = acts_more (pair_in c.args.numbering.now.typed.now) c.args.lines.now c.each.line-index c.line-item.result (map (act_of fraction_of) c.each.acts.items) (map (act_of fraction_of) c.add.new.acts.items)
      c.each-test.true c.line-item.is c.in_ok-add.ensures.acts c.each.invariant.acts;
  fit = c.in_ok-add.ensures.fit;
}

pub returns-clause-acts : goal.returns-clause-acts
returns-clause-acts c = acts_end (pair_in c.args.numbering.now.typed.now) c.args.lines.now c.each.line-index (map (act_of fraction_of) c.each.acts.items) c.each-test.false c.each.invariant.acts

pub returns-clause-fit : goal.returns-clause-fit
returns-clause-fit c = c.each.invariant.fit
