-- What a reader of a reply may rely on, over the definitions alone.
use Rattle.std.specs.Prelude.{ℕ, List}
use Rattle.plus_fraction.specs.Fraction.{Fraction}
use Rattle.plus_types.specs.declared.faults.File.{File}
use Rattle.plus_reply.specs.Reply.{HasOneReply}
use Rattle.plus_translate_command.specs.Translate.{Translates}

-- The same half of the same two texts in the same steps has one reply: one status, and one text.
abbrev pub OneReply : Type 0
OneReply = (file : File) (q : Fraction) (domain problem : List ℕ) → HasOneReply (Translates file q domain problem)
