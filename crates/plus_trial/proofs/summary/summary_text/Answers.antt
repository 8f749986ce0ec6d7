use Rattle.std.proofs.Common.{◌++◌, ap, ◌∙◌}
use Rattle.std.specs.Prelude.{codes}
use Rattle.plus_trial.specs.Farm.{numbered}
use Rattle.plus_trial.specs.Summary.{word_text}
use Rattle.plus_trial.proofs.FarmLemmas.{three}
use Rattle.plus_trial.proofs.summary.summary_text.Goals as goal

pub returns : goal.returns
returns c =
    let s = c.args.summary in
    let more = word_text s.word ++ (numbered (codes ", ") s.entries (codes " happenings") ++ numbered (codes ", ") s.firings (codes " events\n")) in
    three c.put_numbered.new.text.items (word_text s.word) (numbered (codes ", ") s.entries (codes " happenings")) (numbered (codes ", ") s.firings (codes " events\n"))
    c.put.new.text.items c.put_numbered-2.new.text.items c.put_numbered-3.new.text.items
    (c.in_ok-put.ensures ∙ ap (λ t. c.put_numbered.new.text.items ++ t) c.word_of.ensures) c.in_ok-put_numbered-2.ensures c.in_ok-put_numbered-3.ensures
    ∙ ap (λ t. t ++ more) (c.in_ok-put_numbered.ensures ∙ ap (λ t. t ++ numbered (codes "trial ") s.tanks (codes ": ")) c.new-text.ensures.items)
