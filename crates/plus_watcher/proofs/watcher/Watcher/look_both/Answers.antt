use Rattle.std.proofs.Common.{List, rules, refl, subst}
use Rattle.std.proofs.lemmas.List.{with_items_is, places}
use Rattle.std.specs.Vec.{with_items}
use Rattle.std.specs.Prelude.{Option}
use Rattle.plus_number.specs.declared.frac.Frac64.{Frac64}
use Rattle.plus_number.specs.Frac.{fraction_of, IsFrac64}
use Rattle.plus_watch.specs.declared.place.Place.{Place}
use Rattle.plus_watch.specs.Watched.{places_of, WatchTold}
use Rattle.plus_watcher.specs.Stands.{constraints_in}
use Rattle.plus_watcher.specs.Looked.{first_looks}
use Rattle.plus_watcher.proofs.Calls.{notes_sees, if_done}
use Rattle.plus_watcher.proofs.watcher.Watcher.look_both.Goals as goal

pub returns-clause-sees : goal.returns-clause-sees
returns-clause-sees c =
    let w = c.args.self.now in
    let looks = first_looks c.args.timeline.now.line in
    if_done c.note.result _ _
    (λ noted. notes_sees c.args.timeline.now.line.now.time looks w (record w { firsts = with_items w.firsts c.see_both-told.new.firsts; since = c.time-time.result }) c.note.new.self c.see_both-told.new.firsts c.requires.going (with_items_is w.firsts c.see_both-told.new.firsts (search (rules, places))) refl refl c.time-time.ensures c.see_both-told.result noted
    (subst (λ (os : List (Option (Place Frac64))). WatchTold fraction_of IsFrac64 looks (constraints_in w.rules) (places_of fraction_of os) (places_of fraction_of c.see_both-told.new.firsts) c.see_both-told.result)
    c.deref_mut.ensures.value (rw (c.time-time.ensures, c.arrival.ensures.state, c.state.ensures.state) at c.see_both-told.ensures)))
    c.note.ensures.noted
