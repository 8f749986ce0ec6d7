use Rattle.std.proofs.Common.{◌≡◌, ◌++◌, ◌-◌, map, length, ap, sym, subst, ◌∙◌, arith}
use Rattle.std.proofs.lemmas.List.{length-map}
use Rattle.plus_number.specs.Frac.{fraction_of}
use Rattle.plus_report.specs.Plans.{acts_of, plan_text}
use Rattle.plus_trim.specs.Acts.{act_of, chosen}
use Rattle.plus_trim_command.specs.Trim.{labelled, note_text}
use Rattle.plus_trim_command.proofs.KeptLemmas.{text_is}
use Rattle.plus_trim_command.proofs.kept.text_of.Goals as goal

pub returns : goal.returns
returns c =
    text_is (map (act_of fraction_of) c.args.acts.now) c.args.kept.now.places.items (acts_of fraction_of c.in_ok-plan.plan.acts.items) (fraction_of c.in_ok-plan.plan.end) (fraction_of c.args.end)
    c.in_ok-text.text.items c.put_note.new.text.items _ c.args.kept.now.beyond
    (rw c.deref.ensures.value at c.in_ok-plan.ensures.acts) (ap fraction_of c.in_ok-plan.ensures.end) c.in_ok-text.ensures c.in_ok-put_note.ensures
    (let e = length-map c.args.acts.now (act_of fraction_of) in omega arith)
