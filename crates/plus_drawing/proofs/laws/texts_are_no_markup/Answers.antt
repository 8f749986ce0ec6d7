use Rattle.plus_drawing.proofs.Escaped.{escaped_is_no_markup}
use Rattle.plus_drawing.proofs.laws.texts_are_no_markup.Goals as goal

pub returns : goal.returns
returns c = escaped_is_no_markup
