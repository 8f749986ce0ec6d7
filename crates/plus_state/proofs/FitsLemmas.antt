-- A problem without timed literals fits by the numbers of its atoms and fluents.
use Rattle.std.proofs.Common.{◌≡◌, ℕ, ◌<◌, ◌^◌, [], length, sym, subst}
use Rattle.std.proofs.lemmas.List.Elements.{All-nil}
use Rattle.std.specs.Prelude.{pos}
use Rattle.std.specs.List.{All}
use Rattle.plus_fraction.specs.Fraction.{whole}
use Rattle.plus_model.specs.Terms.{Timed, Problem}
use Rattle.plus_state.specs.Fits.{Fits, EventFits, ProcessFits, StateFits, AreInOrder, ProblemFits}

pub untimed_fits :
    (P : Problem) (atoms fluents : ℕ) → P.atoms ≡ atoms → P.fluents ≡ fluents → P.timed ≡ []
    → All (ProcessFits atoms fluents) P.processes → All (EventFits atoms fluents) P.events → StateFits atoms fluents P.initial → Fits atoms fluents P.goal
    → atoms < 2 ^ 32 → fluents < 2 ^ 32 → length P.processes < 2 ^ 32 → length P.events < 2 ^ 32 → ProblemFits P
untimed_fits P atoms fluents a f t p e i g few_a few_f few_p few_e = record {
  processes = subst (λ (k : ℕ). All (ProcessFits k P.fluents) P.processes) (sym a) (subst (λ (k : ℕ). All (ProcessFits atoms k) P.processes) (sym f) p);
  events = subst (λ (k : ℕ). All (EventFits k P.fluents) P.events) (sym a) (subst (λ (k : ℕ). All (EventFits atoms k) P.events) (sym f) e);
  timed = subst (All (λ (t : Timed). t.atom < P.atoms)) (sym t) (All-nil (λ (t : Timed). t.atom < P.atoms));
  in_order = subst (AreInOrder (whole (pos 0))) (sym t) tt;
  initial = subst (λ (k : ℕ). StateFits k P.fluents P.initial) (sym a) (subst (λ (k : ℕ). StateFits atoms k P.initial) (sym f) i);
  goal = subst (λ (k : ℕ). Fits k P.fluents P.goal) (sym a) (subst (λ (k : ℕ). Fits atoms k P.goal) (sym f) g);
  few_atoms = subst (λ (k : ℕ). k < 2 ^ 32) (sym a) few_a;
  few_fluents = subst (λ (k : ℕ). k < 2 ^ 32) (sym f) few_f;
  few_processes = few_p;
  few_events = few_e;
}
