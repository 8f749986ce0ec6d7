use Rattle.std.proofs.Common.{List, rules, refl, subst}
use Rattle.std.proofs.lemmas.List.{with_items_is, places}
use Rattle.std.specs.Vec.{with_items}
use Rattle.std.specs.Prelude.{Option}
use Rattle.plus_number.specs.declared.frac.Frac64.{Frac64}
use Rattle.plus_number.specs.Frac.{fraction_of, IsFrac64}
use Rattle.plus_watch.specs.declared.place.Place.{Place}
use Rattle.plus_watch.specs.Watched.{places_of, WatchTold}
use Rattle.plus_watcher.specs.Stands.{constraints_in}
use Rattle.plus_watcher.specs.Looked.{state_looks}
use Rattle.plus_watcher.proofs.Calls.{notes_sees, if_done}
use Rattle.plus_watcher.proofs.watcher.Watcher.look.Goals as goal

pub returns-clause-sees : goal.returns-clause-sees
returns-clause-sees c =
    let w = c.args.self.now in
    let looks = state_looks w c.args.state.now in
    if_done c.note.result _ _
    (λ noted. notes_sees (fraction_of w.since) looks w (record w { firsts = with_items w.firsts c.see-told.new.firsts }) c.note.new.self c.see-told.new.firsts c.requires.going (with_items_is w.firsts c.see-told.new.firsts (search (rules, places))) refl refl refl c.see-told.result noted
    (subst (λ (os : List (Option (Place Frac64))). WatchTold fraction_of IsFrac64 looks (constraints_in w.rules) (places_of fraction_of os) (places_of fraction_of c.see-told.new.firsts) c.see-told.result)
    c.deref_mut.ensures.value c.see-told.ensures))
    c.note.ensures.noted
