use Rattle.std.proofs.Common.{◌≡◌, map, take}
use Rattle.plus_numbering.specs.Numbered.{context}
use Rattle.plus_watch.specs.Watched.{constraint_of}
use Rattle.plus_rules.specs.Written.{constraint_meant}
use Rattle.plus_rules.proofs.preparation.build.Given as goal

-- the constraints so far
abbrev pub invariant-rules : goal.invariant-rules
invariant-rules g l = map (constraint_of g.Q.Exact.value) l.found.items ≡ map (constraint_meant (context l.numbering)) (take l.rule-index l.rules)
