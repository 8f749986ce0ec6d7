-- Why reading does not go on with what comes next.
use Rattle.std.specs.Prelude.{List, [], ◌∷◌}
use Rattle.plus_tokens.specs.Items.{Item, tok, bad}
use Rattle.plus_plan.specs.declared.reader.Refusal.{Refusal}
use Rattle.plus_plan.specs.declared.reader.Refusal.TheVariants as refusals
use Rattle.plus_plan.specs.Reading.{byte_place}

abbrev pub refusal_ahead : List Item → Refusal
refusal_ahead [] = refusals.AtEnd
refusal_ahead (bad f ∷ rest) = refusals.At (byte_place f)
refusal_ahead (tok p ∷ rest) = refusals.At p.span
