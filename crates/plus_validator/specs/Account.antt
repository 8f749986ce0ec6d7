-- What is told of a plan that is played: of its history, how many moments it enters, and how many events fire in it.
use Rattle.std.specs.Prelude.{ℕ, Bool, List}
use Rattle.plus_indexed.specs.Indexed.{IndexedView}
use Rattle.plus_validator.specs.declared.run.Run.{Run}

pub record Account (V : Type 0) : Type 0 where
  pub told : V
  pub entries : ℕ
  pub firings : ℕ

-- How far a plan is played: its timeline, all that is told of it, and whether its end was read.
pub record Progress (V : Type 0) : Type 0 where
  pub timeline : IndexedView
  pub account : Account V
  pub ended : Bool

-- the progress of a run whose teller has handed on these first bytes of what it tells
abbrev pub progress : {S V : Type 0} → (List ℕ → S → V) → List ℕ → Run S → Progress V
progress told sent run =
    record {
      timeline = run.timeline;
      account = record { told = told sent run.teller; entries = run.entries; firings = run.firings };
      ended = run.ended;
    }
