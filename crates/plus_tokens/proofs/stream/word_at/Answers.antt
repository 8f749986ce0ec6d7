use Rattle.plus_tokens.specs.Ahead.{is_name}
use Rattle.plus_tokens.proofs.Taken.{place_kept, place_taken, place_word}
use Rattle.plus_tokens.proofs.stream.word_at.Goals as goal

pub returns-in_default-clause-word : goal.returns-in_default-clause-word
returns-in_default-clause-word c = (place_kept is_name c.args.text.now c.args.at c.requires cc).comes_not

pub returns-in_default-clause-leaves : goal.returns-in_default-clause-leaves
returns-in_default-clause-leaves c = (place_kept is_name c.args.text.now c.args.at c.requires cc).stays

pub returns-clause-word : goal.returns-clause-word
returns-clause-word c =
    ((place_taken is_name c.args.text.now c.args.at (c.in-Some.start, c.in-Some.end) c.requires cc).comes_is, place_word is_name c.args.text.now c.args.at (c.in-Some.start, c.in-Some.end) c.requires cc)

pub returns-clause-leaves : goal.returns-clause-leaves
returns-clause-leaves c = (place_taken is_name c.args.text.now c.args.at (c.in-Some.start, c.in-Some.end) c.requires cc).leaves
