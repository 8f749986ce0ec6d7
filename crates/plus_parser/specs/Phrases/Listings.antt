-- What a contract sees of a list that is being read.
use Rattle.plus_parser.specs.declared.phrases.lists.Listed.{Listed}
use Rattle.plus_parser.specs.Phrases.Grammar.{Listing}

abbrev pub listing : Listed → Listing
listing l = record { typed = l.typed.items; waiting = l.waiting.items }
