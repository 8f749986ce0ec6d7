use Rattle.std.proofs.Common.{ap, sym, ◌∙◌}
use Rattle.std.specs.Prelude.{Bool, option_map}
use Rattle.plus_number.specs.Frac.{fraction_of}
use Rattle.plus_constraints.specs.Place.{told, told_by}
use Rattle.plus_watch.specs.View.{place_of}
use Rattle.plus_watch.specs.Watched.{constraint_of}
use Rattle.plus_watch_lines.specs.Lines.{found_at}
use Rattle.plus_watch_lines.proofs.Listed.{seen_at}
use Rattle.plus_watch_lines.proofs.found.found.Goals as goal

pub returns : goal.returns
unfolding told
returns c =
    let o = c.index-firsts-index.result in
    c.told.ensures ∙ ap (λ (b : Bool). told_by b (option_map (place_of fraction_of) o)) c.is_lasting.ensures
    ∙ ap (found_at (constraint_of fraction_of c.args.one.now)) (sym (seen_at (option_map (place_of fraction_of)) c.args.firsts.now c.args.index o c.requires c.index-firsts-index.is))
