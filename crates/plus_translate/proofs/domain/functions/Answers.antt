use Rattle.std.proofs.Common.{◌∙◌, sym, map}
use Rattle.plus_translate.specs.Dues.{due_of}
use Rattle.plus_translate.proofs.PartLemmas.{functions_done}
use Rattle.plus_translate.proofs.domain.functions.Goals as goal

pub returns : goal.returns
returns c =
    functions_done (map due_of c.args.dues.now) c.new-heads.result c.args.old.now c.put_copies.new.into c.push.new.self c.in_ok-word.field-0 c.new.result
    (sym c.has_later.ensures ∙ c.if-not-has_later.false) c.new-heads.ensures c.in_ok-put_copies.ensures c.in_ok-word.ensures c.new.ensures c.in_ok-push.ensures.ok
