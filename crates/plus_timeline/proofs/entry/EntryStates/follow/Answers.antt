use Rattle.std.proofs.Common.{◌≡◌, sym, subst, ◌∙◌}
use Rattle.std.specs.Prelude.{option_map}
use Rattle.plus_timeline.specs.EntryStates.{EntryView}
use Rattle.plus_timeline.specs.Undo.{root_at, recalled}
use Rattle.plus_timeline.proofs.Roots.{joined}
use Rattle.plus_timeline.proofs.Noting.{Following, way_in, way_in_arrival, way_in_ahead, view_there, kept_there}
use Rattle.plus_timeline.proofs.entry.EntryStates.follow.Goals as goal

pub patch-requires-2 : goal.patch-requires-2
patch-requires-2 g c =
    let view : EntryView = record { state = c.self.inside.trail.state; before = c.self.inside.trail.before; arrival = c.self.inside.arrival; root = root_at c.self.inside.trail.state (option_map (λ u. u.noted) c.self.inside.undo) } in
    let past = c.args.past in
    let u = c.args.undo.noted in
    let v = c.args.other.now.noted in
    let to = c.args.state.now in
    let way = c.lead_over.new.way in
    let h : Following view past u v to = subst (λ x. Following x past u v to) (sym (c.self.view_is ∙ c.take_spare-way.ensures))
    record { past_leads = c.requires.past; size = c.requires.size; undo = c.requires.undo; other = c.requires.other; root = c.requires.root } in
    let w : way ≡ joined (recalled to u) (recalled to v) = c.in_ok-lead_over.ensures.way in
    way_in_arrival view past u v way to h w c.patch.new.self c.patch.ensures

pub restart-requires : goal.restart-requires
restart-requires g c =
    let view : EntryView = record { state = c.self.inside.trail.state; before = c.self.inside.trail.before; arrival = c.self.inside.arrival; root = root_at c.self.inside.trail.state (option_map (λ u. u.noted) c.self.inside.undo) } in
    let past = c.args.past in
    let u = c.args.undo.noted in
    let v = c.args.other.now.noted in
    let to = c.args.state.now in
    let way = c.lead_over.new.way in
    let h : Following view past u v to = subst (λ x. Following x past u v to) (sym (c.self.view_is ∙ c.take_spare-way.ensures))
    record { past_leads = c.requires.past; size = c.requires.size; undo = c.requires.undo; other = c.requires.other; root = c.requires.root } in
    let w : way ≡ joined (recalled to u) (recalled to v) = c.in_ok-lead_over.ensures.way in
    way_in view past u v way to h w

pub patch-requires-3 : goal.patch-requires-3
patch-requires-3 g c =
    let view : EntryView = record { state = c.self.inside.trail.state; before = c.self.inside.trail.before; arrival = c.self.inside.arrival; root = root_at c.self.inside.trail.state (option_map (λ u. u.noted) c.self.inside.undo) } in
    let past = c.args.past in
    let u = c.args.undo.noted in
    let v = c.args.other.now.noted in
    let to = c.args.state.now in
    let way = c.lead_over.new.way in
    let h : Following view past u v to = subst (λ x. Following x past u v to) (sym (c.self.view_is ∙ c.take_spare-way.ensures))
    record { past_leads = c.requires.past; size = c.requires.size; undo = c.requires.undo; other = c.requires.other; root = c.requires.root } in
    let w : way ≡ joined (recalled to u) (recalled to v) = c.in_ok-lead_over.ensures.way in
    way_in_ahead view past u v way to h w c.self.inside.ahead c.self.invariant.led.same

pub invariant_of-self : goal.invariant_of-self
invariant_of-self g c =
    let view : EntryView = record { state = c.self.inside.trail.state; before = c.self.inside.trail.before; arrival = c.self.inside.arrival; root = root_at c.self.inside.trail.state (option_map (λ u. u.noted) c.self.inside.undo) } in
    let past = c.args.past in
    let u = c.args.undo.noted in
    let v = c.args.other.now.noted in
    let to = c.args.state.now in
    let way = c.lead_over.new.way in
    let h : Following view past u v to = subst (λ x. Following x past u v to) (sym (c.self.view_is ∙ c.take_spare-way.ensures))
    record { past_leads = c.requires.past; size = c.requires.size; undo = c.requires.undo; other = c.requires.other; root = c.requires.root } in
    let w : way ≡ joined (recalled to u) (recalled to v) = c.in_ok-lead_over.ensures.way in
    kept_there view past u v way to h w c.restart.new.self c.patch.new.self c.patch-2.new.self c.restart.ensures c.patch.ensures c.patch-2.ensures c.lead_over.new.undo.noted
    c.in_ok-lead_over.ensures.noted c.clear.new.self c.self.inside.ahead c.patch-3.new.self c.clear.ensures c.self.invariant.led.same c.patch-3.ensures

pub returns-clause-ok : goal.returns-clause-ok
returns-clause-ok g c =
    let view : EntryView = record { state = c.self.inside.trail.state; before = c.self.inside.trail.before; arrival = c.self.inside.arrival; root = root_at c.self.inside.trail.state (option_map (λ u. u.noted) c.self.inside.undo) } in
    let past = c.args.past in
    let u = c.args.undo.noted in
    let v = c.args.other.now.noted in
    let to = c.args.state.now in
    let way = c.lead_over.new.way in
    let h : Following view past u v to = subst (λ x. Following x past u v to) (sym (c.self.view_is ∙ c.take_spare-way.ensures))
    record { past_leads = c.requires.past; size = c.requires.size; undo = c.requires.undo; other = c.requires.other; root = c.requires.root } in
    let w : way ≡ joined (recalled to u) (recalled to v) = c.in_ok-lead_over.ensures.way in
    view_there view past u v way to h w c.restart.new.self c.patch.new.self c.patch-2.new.self c.restart.ensures c.patch.ensures c.patch-2.ensures c.lead_over.new.undo.noted
    c.in_ok-lead_over.ensures.noted
