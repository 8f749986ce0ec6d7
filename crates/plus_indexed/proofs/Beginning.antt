-- What is known where a timeline with an index begins.
use Rattle.std.proofs.Common.{◌≡◌, ℕ, ◌<◌, [], length, ap, sym, subst, ◌∙◌}
use Rattle.std.proofs.lemmas.List.Elements.{All-nil}
use Rattle.std.specs.Prelude.{Some, None}
use Rattle.plus_fraction.specs.Fraction.{Fraction}
use Rattle.plus_model.specs.Terms.{Problem}
use Rattle.plus_model.specs.Firing.{firing}
use Rattle.plus_state.specs.Walk.{event_conditions}
use Rattle.plus_stretch.specs.Tests.{AllPass}
use Rattle.plus_timeline.specs.Asked.{round_tests}
use Rattle.plus_reads.specs.Indexing.{Indexes}
use Rattle.plus_timeline.specs.Timeline.{TimelineView, begun}
use Rattle.plus_timeline.specs.Serving.{Serves}
use Rattle.plus_timeline.proofs.Serving.{begun_serves}
use Rattle.plus_indexed.specs.Indexed.{IndexedView}
use Rattle.plus_indexed.specs.Knows.{Wait, Knows}
use Rattle.plus_indexed.proofs.Quieting.{rest_quiet}

-- where nothing is known of events and processes
pub knows_nothing : (fits : Fraction → Type 0) (P : Problem) (v : IndexedView) → Serves P v.line → Indexes P v.kept.index → v.kept.events ≡ None → v.kept.processes ≡ None → v.line.now.running ≡ None → Knows fits P v
knows_nothing fits P v s i n m r = record {
  serves = s;
  index = i;
  events = λ w h. (let k : None ≡ Some w = sym n ∙ h in cc);
  processes = λ w h. (let k : None ≡ Some w = sym m ∙ h in cc);
  rests = λ R h. (let k : None ≡ Some R = sym r ∙ h in cc);
}

-- where it is known that nothing is due
pub knows_rest : (fits : Fraction → Type 0) (P : Problem) (v : IndexedView) → Serves P v.line → Indexes P v.kept.index → v.kept.events ≡ Some [] → v.kept.processes ≡ None → v.line.now.running ≡ None → firing P v.line.now.state ≡ [] → AllPass fits (round_tests P v.line.now.fired v.line.now.state) → Knows fits P v
knows_rest fits P v s i n m r e a = record {
  serves = s;
  index = i;
  events = λ w h. (let q : Some [] ≡ Some w = sym n ∙ h in let k : [] ≡ w = cc in subst (Wait fits P v.line.now.state) k (record {
    members = record { inside = All-nil (λ k. k < length (event_conditions P)); rising = tt };
    quiet = rest_quiet fits P v.line.now.fired v.line.now.state a e;
  }));
  processes = λ w h. (let k : None ≡ Some w = sym m ∙ h in cc);
  rests = λ R h. (let k : None ≡ Some R = sym r ∙ h in cc);
}

pub knows_begun : (fits : Fraction → Type 0) (P : Problem) (most : ℕ) (v : IndexedView) → v.line ≡ begun P most → Indexes P v.kept.index → v.kept.events ≡ None → v.kept.processes ≡ None → Knows fits P v
knows_begun fits P most v e i n m =
    knows_nothing fits P v (subst (Serves P) (sym e) (begun_serves P most)) i n m (ap (λ (t : TimelineView). t.now.running) e)
