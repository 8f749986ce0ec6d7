use Rattle.laws_found.proofs.TextLemmas.Room.{have_room}
use Rattle.laws_found.proofs.text.few_arguments_have_room.Goals as goal

pub returns : goal.returns
returns c = have_room
