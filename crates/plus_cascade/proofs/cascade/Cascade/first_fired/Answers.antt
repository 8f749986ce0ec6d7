use Rattle.std.proofs.Common.{sym, ◌∙◌, ap, false, get_or}
use Rattle.std.specs.Prelude.{slice_get, unwrap_or}
use Rattle.plus_cascade.proofs.FiredLemmas.{next_number, no_number, looking_start, looking_inside, looking_next, looking_found, looking_end}
use Rattle.plus_cascade.proofs.cascade.Cascade.first_fired.Goals as goal

pub each-init : goal.each-init
each-init c = looking_start _ _ c.requires

pub get-requires : goal.get-requires
get-requires c =
    let e = next_number c.args.events.now c.each.event-index (record { 0 = 0 }) c.each-test.true in
    rw c.self.view_is (looking_inside _ _ _ _ (rw e at c.each.invariant))

pub returns-then-get : goal.returns-then-get
returns-then-get c =
    let e = next_number c.args.events.now c.each.event-index (record { 0 = 0 }) c.each-test.true in
    looking_found _ _ _ _ (rw e at c.each.invariant) (sym c.if-get.true ∙ c.get.ensures ∙ ap (λ v. unwrap_or (slice_get v (get_or c.args.events.now c.each.event-index (record { 0 = 0 })).0) false) c.self.view_is)

pub each-preserved : goal.each-preserved
each-preserved c =
    let e = next_number c.args.events.now c.each.event-index (record { 0 = 0 }) c.each-test.true in
    looking_next _ _ _ _ (rw e at c.each.invariant) (sym c.if-get.false ∙ c.get.ensures ∙ ap (λ v. unwrap_or (slice_get v (get_or c.args.events.now c.each.event-index (record { 0 = 0 })).0) false) c.self.view_is)

pub returns : goal.returns
returns c = looking_end _ _ (rw (no_number c.args.events.now c.each.event-index c.each-test.false) at c.each.invariant)
