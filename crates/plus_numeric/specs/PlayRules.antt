-- A plan without time, as one who plays lines.
use Rattle.std.specs.Prelude.{◌≡◌, List, [], ◌∷◌, ◌++◌, map, None, Result, Ok, Err}
use Rattle.plus_model.specs.Terms.{State}
use Rattle.plus_number.specs.Frac.{fraction_of}
use Rattle.plus_state.specs.View.{problem_of}
use Rattle.plus_expansion.specs.Expansion.{expanded}
use Rattle.plus_plan.specs.declared.forms.Line.{Line}
use Rattle.plus_plan.specs.declared.faults.PlanFault.{PlanFault}
use Rattle.plus_play.specs.Rules.{Rules, Why, on_line, no_line, too_long, at_end, handing}
use Rattle.plus_numeric.specs.declared.halt.Halt.{Halt}
use Rattle.plus_numeric.specs.declared.play.Play.{Play}
use Rattle.plus_numeric.specs.declared.playing.Playing.{Playing}
use Rattle.plus_numeric.specs.Tests.{Test, AllPass, too_long as too_long_test}
use Rattle.plus_numeric.specs.Asked.{lines_tests, end_tests}
use Rattle.plus_numeric.specs.Playing.{domain_in, problem_in, IsPlay, Stays, Played, HaltsIn, HaltsAt, HaltFits, fault_halt}

-- it halts at what comes behind these lines, whatever stands behind that
abbrev pub HaltsNext : List Line → Result Line PlanFault → Play → Play → Halt → Type 0
HaltsNext lines next first now halt =
    (behind results : List (Result Line PlanFault)) → results ≡ map Ok lines ++ next ∷ behind
    → HaltsIn first.source (lines_tests (domain_in now) (problem_in now) results first.numeric) halt

-- it halts by what is asked behind these lines, which are all, where that is these tests
abbrev pub HaltsBehind : List Line → List Test → Play → Play → Halt → Type 0
HaltsBehind lines tests first now halt =
    (results : List (Result Line PlanFault)) (more : State → List Test) → results ≡ map Ok lines → more now.numeric ≡ tests
    → HaltsAt first.source (lines_tests (domain_in now) (problem_in now) results first.numeric more) halt

-- where it halts; it hands nothing on
abbrev pub HaltsBy : Why → List Line → Play → Play → Halt → Type 0
HaltsBy (on_line line) lines first now halt = HaltsNext lines (Ok line) first now halt
HaltsBy (no_line fault) lines first now halt = (halt ≡ fault_halt fault) × HaltsNext lines (Err fault) first now halt
HaltsBy too_long lines first now halt = HaltsBehind lines (too_long_test ∷ []) first now halt
HaltsBy at_end lines first now halt = HaltsBehind lines (end_tests (domain_in now) (problem_in now) now.numeric) first now halt
HaltsBy handing lines first now halt = ⊥

-- these lines are played, in one play
pub record HasPlayed (lines : List Line) (first now : Play) : Type 0 where
  pub stays : Stays first now
  pub played : Played (domain_in now) (problem_in now) lines first now

-- they are all, and the goal holds
pub record HasEnded (lines : List Line) (first now : Play) : Type 0 where
  pub plays : HasPlayed lines first now
  pub passed : AllPass (end_tests (domain_in now) (problem_in now) now.numeric)

-- the play halts behind these lines, and the ids that its verdict names are those of the pair
pub record HasHalted (why : Why) (lines : List Line) (first now : Play) (halt : Halt) : Type 0 where
  pub stays : Stays first now
  pub fits : HaltFits (domain_in now) (problem_in now) halt
  pub by : HaltsBy why lines first now halt

-- its problem is that of the play
pub record CanPlay (now : Playing) : Type 0 where
  pub going : IsPlay now.play
  pub expands : problem_of fraction_of now.ground.now ≡ expanded (domain_in now.play) (problem_in now.play)

-- what a plan that is played says of the lines
abbrev pub play_rules : {O : Type 0} → Rules Playing O Halt
play_rules = record {
  told = λ out. None;
  Can = λ now out. CanPlay now;
  Handed = λ now out. Unit {0};
  Played = λ first start lines now out. HasPlayed lines first.play now.play;
  Ended = λ first start lines now out. HasEnded lines first.play now.play;
  Stops = λ first start lines why now out halt. HasHalted why lines first.play now.play halt;
}
