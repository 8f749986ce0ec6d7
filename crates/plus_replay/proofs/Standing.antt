-- How a plan stands after a step of its replay.
use Rattle.std.proofs.Common.{◌≡◌, ℕ, Bool, true, false, ap, sym, subst, ◌∙◌}
use Rattle.std.specs.Bool.{OnTrue}
use Rattle.std.specs.Prelude.{Result, Ok, Err, IfOk}
use Rattle.std.specs.declared.alloc.AllocError.{AllocError}
use Rattle.plus_model.specs.Terms.{Problem}
use Rattle.plus_number.specs.declared.exact.Exact.{Ghosts}
use Rattle.plus_number.specs.declared.frac.Frac64.{Frac64}
use Rattle.plus_number.specs.Frac.{IsFrac64, fraction_of}
use Rattle.plus_state.specs.declared.problem.Ground.{Ground}
use Rattle.plus_state.specs.View.{problem_of}
use Rattle.plus_types.specs.declared.typed.Typed.{Typed}
use Rattle.plus_instances.specs.declared.instances.Instances.{Instances}
use Rattle.plus_instances.specs.Made.{AreMade, StayMade}
use Rattle.plus_timeline.specs.Timeline.{begun}
use Rattle.plus_indexed.specs.Knows.{Knows}
use Rattle.plus_replay.specs.declared.replay.Replay.{Replay}
use Rattle.plus_replay.specs.Replay.{Rests, IsGroundOf, Stands}
use Rattle.plus_replay.proofs.Playing.{begun_rests}

pub on_true : (b : Bool) (P : Type 0) → b ≡ true → OnTrue b P → P
on_true true P e h = h
on_true false P e h = cc

module _ {E : Ghosts Frac64} (g : Ground Frac64 E) where
  pub begins : (t : Typed) (r : Replay) (most : ℕ) → r.timeline.line ≡ begun (problem_of fraction_of g) most → Knows IsFrac64 (problem_of fraction_of g) r.timeline
      → AreMade r.instances → r.instances.numbering.now.typed.now ≡ t → IsGroundOf t g → Stands g r
  begins t r most e k m n i = record {
    rests = begun_rests (problem_of fraction_of g) most r.timeline e k;
    made = m;
    pair = subst (λ (u : Typed). IsGroundOf u g) (sym n) i;
  }

  module _ (old new : Replay) (s : Stands g old) where
    pub reaches : Rests (problem_of fraction_of g) new.timeline → new.instances ≡ old.instances → Stands g new
    reaches r e = record {
      rests = r;
      made = subst AreMade (sym e) s.made;
      pair = subst (λ (i : Instances). IsGroundOf i.numbering.now.typed.now g) (sym e) s.pair;
    }

    -- what is done of an action leaves the timeline, and instances that stay made
    pub done : (r : Result Bool AllocError) → StayMade old.instances new.instances
        → IfOk r (λ b. OnTrue b (Rests (problem_of fraction_of g) new.timeline)) → IfOk r (λ b. OnTrue b (Stands g new))
    done (Ok true) m h = record { rests = h; made = m.made; pair = subst (λ n. IsGroundOf n.now.typed.now g) (sym m.same) s.pair }
    done (Ok false) m h = tt
    done (Err e) m h = h
