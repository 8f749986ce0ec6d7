use Rattle.std.proofs.Common.{refl}
use Rattle.plus_numeric.specs.Playing.{domain_in, problem_in}
use Rattle.plus_numeric.proofs.PlayLemmas.{line_leads, line_halts, quiet_leads, stays_same}
use Rattle.plus_numeric.proofs.play.Play.does.Goals as goal

pub returns-in-Step-clause-leads : goal.returns-in-Step-clause-leads
returns-in-Step-clause-leads c =
    line_leads (domain_in c.args.self.now) (problem_in c.args.self.now) c.args.read.now c.in-Step.line c.in-Step.call c.args.self.now.numeric c.in-Step.is
    c.call.result c.call.new.self.numeric c.call.ensures.leads

pub returns-in-Step-clause-halts : goal.returns-in-Step-clause-halts
returns-in-Step-clause-halts c =
    line_halts (domain_in c.args.self.now) (problem_in c.args.self.now) c.args.read.now c.in-Step.line c.in-Step.call c.args.self.now.numeric c.in-Step.is
    c.args.self.now.source c.call.result c.call.ensures.halts

pub returns-in_default : goal.returns-in_default
returns-in_default c = record {
  leads = quiet_leads (domain_in c.args.self.now) (problem_in c.args.self.now) c.args.read.now c.args.self.now.numeric c.in_default.not-Step;
  halts = tt;
  fits = tt;
  stays = stays_same c.args.self.now c.requires;
  calls = refl;
}
