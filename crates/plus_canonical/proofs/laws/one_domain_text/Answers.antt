use Rattle.plus_canonical.proofs.Texts as texts
use Rattle.plus_canonical.proofs.laws.one_domain_text.Goals as goal

pub returns : goal.returns
returns c = texts.one_domain_text
