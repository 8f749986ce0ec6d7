use Rattle.std.proofs.Common.{length}
use Rattle.plus_expansion.specs.Numbers.{ground_names}
use Rattle.plus_numbering.specs.Numbered.{context}
use Rattle.plus_validator.specs.Plans.{pair_in}
use Rattle.plus_trim_command.proofs.ActLemmas.{act_bottom, act_value, act_calls, act_added, act_fits}
use Rattle.plus_trim_command.proofs.acts.add.Goals as goal

pub moment-time-requires-clause-bottom : goal.moment-time-requires-clause-bottom
moment-time-requires-clause-bottom c = act_bottom c.args.line.now _ c.in-Act.time _ c.in-Act.is c.requires.playable.bottom

pub moment-time-requires-clause-fits : goal.moment-time-requires-clause-fits
moment-time-requires-clause-fits c = act_value c.args.line.now _ c.in-Act.time _ c.in-Act.is c.requires.playable.value

pub instance_of-requires : goal.instance_of-requires
instance_of-requires c =
    act_calls c.args.line.now _ c.in-Act.time c.in-Act.call c.in-Act.is c.args.numbering.now.typed.now.domain c.args.numbering.now.typed.now.problem c.requires.playable

pub returns-in_ok-push-in-Act-clause-acts : goal.returns-in_ok-push-in-Act-clause-acts
returns-in_ok-push-in-Act-clause-acts c =
    act_added c.args.line.now _ c.in-Act.time c.in-Act.call c.in-Act.is (pair_in c.args.numbering.now.typed.now) c.args.acts.now.items c.push.new.self.items
    (record { time = c.moment-time.result; action = c.in_ok-action-in-Act.action }) c.in_ok-push-in-Act.ensures.items c.moment-time.ensures c.in_ok-action-in-Act.ensures.called

pub returns-in_ok-push-in-Act-clause-fit : goal.returns-in_ok-push-in-Act-clause-fit
returns-in_ok-push-in-Act-clause-fit c =
    act_fits (length (ground_names (context c.args.numbering.now) c.args.numbering.now.typed.now.domain.predicates)) (length (ground_names (context c.args.numbering.now) c.args.numbering.now.typed.now.domain.functions))
    c.args.acts.now.items c.push.new.self.items (record { time = c.moment-time.result; action = c.in_ok-action-in-Act.action }) c.in_ok-push-in-Act.ensures.items c.requires.fit c.in_ok-action-in-Act.ensures.fits
