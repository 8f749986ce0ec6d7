-- What is declared where a form stands, as the walk holds it.
use Rattle.plus_types.specs.declared.known.Known.{Known}
use Rattle.plus_types.specs.Faults.{Context}

abbrev pub context : Known → Context
context k = record { types = k.types.now; objects = k.objects.now; predicates = k.predicates.heads.now; functions = k.functions.heads.now; file = k.file }
