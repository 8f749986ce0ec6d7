-- What a reader of a reply may rely on, over the definitions alone.
use Rattle.std.specs.Prelude.{ℕ, List}
use Rattle.plus_fraction.specs.Fraction.{Fraction}
use Rattle.plus_reply.specs.Reply.{HasOneReply}
use Rattle.plus_lift.specs.Command.Lift.{Lifts}

-- The same three texts in the same steps have one reply: one status, and one text.
abbrev pub OneReply : Type 0
OneReply = (q : Fraction) (domain problem plan : List ℕ) → HasOneReply (Lifts q domain problem plan)
