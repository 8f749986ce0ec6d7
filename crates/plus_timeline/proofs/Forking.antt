-- What a timeline keeps that forgets how it came to its state.
use Rattle.std.proofs.Common.{◌≡◌, ◌<◌, ℕ, Bool, List, length, sym, subst}
use Rattle.std.specs.Prelude.{Option, All}
use Rattle.plus_fraction.specs.Fraction.{Fraction}
use Rattle.plus_model.specs.Terms.{State}
use Rattle.plus_cascade.specs.Fired.{IsSetOf}
use Rattle.plus_timeline.specs.declared.next.Next.{Next}
use Rattle.plus_timeline.specs.EntryStates.{EntryView}
use Rattle.plus_timeline.specs.Timeline.{Keeps}

pub keeps_forked : (e states : EntryView) (set set' : List Bool) (fired fired' : List ℕ) (answer : Option (Next Fraction)) (entries most : ℕ) → Keeps e.state e.before e.arrival (length e.state.atoms) (length e.state.fluents) set fired answer entries most → states ≡ record { state = e.state; before = e.state; arrival = e.state; root = e.root } → set' ≡ set → fired' ≡ fired → Keeps states.state states.before states.arrival (length states.state.atoms) (length states.state.fluents) set' fired' answer entries most
keeps_forked e states set set' fired fired' answer entries most k i s f =
    subst (λ (z : EntryView). Keeps z.state z.before z.arrival (length z.state.atoms) (length z.state.fluents) set' fired' answer entries most) (sym i)
    (subst (λ (z : List Bool). Keeps e.state e.state e.state (length e.state.atoms) (length e.state.fluents) z fired' answer entries most) (sym s)
    (subst (λ (z : List ℕ). Keeps e.state e.state e.state (length e.state.atoms) (length e.state.fluents) set z answer entries most) (sym f)
    record {
      state_fits = k.state_fits;
      before_fits = k.state_fits;
      arrival_fits = k.state_fits;
      set_is = k.set_is;
      inside = k.inside;
      within = k.within;
      room = k.room;
    }))
