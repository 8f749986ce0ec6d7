-- Lines that are played, one after the other.
use Rattle.std.proofs.Common.{◌≡◌, ℕ, Bool, true, false, List, [], ◌∷◌, ◌++◌, map, refl, subst, sym, ap, ◌∙◌, append_assoc, append-nil, if◌then◌else◌}
use Rattle.std.proofs.lemmas.Grind.{flat_map-append}
use Rattle.std.specs.Prelude.{Result, Ok, Err}
use Rattle.plus_model.specs.Terms.{State}
use Rattle.plus_state.proofs.Testing.{pass_none, pass_append, fail_left, fail_right, fail_here}
use Rattle.plus_tree.specs.declared.trees.Domain.{Domain}
use Rattle.plus_tree.specs.declared.trees.Problem as tree
use Rattle.plus_tree.specs.declared.trees.Call.{Call}
use Rattle.plus_plan.specs.declared.forms.Line.{Line}
use Rattle.plus_plan.specs.declared.forms.Line.TheVariants.{Step}
use Rattle.plus_plan.specs.declared.faults.PlanFault.{PlanFault}
use Rattle.plus_plan.specs.declared.faults.PlanFault.TheVariants as faults
use Rattle.plus_numeric.specs.declared.halt.Halt.{Halt}
use Rattle.plus_numeric.specs.declared.halt.Halt.TheVariants.{Refused, Memory}
use Rattle.plus_numeric.specs.declared.play.Play.{Play}
use Rattle.plus_numeric.specs.declared.source.Source.{Source}
use Rattle.plus_numeric.specs.Calls.{line_calls, calls_of, call_meant}
use Rattle.plus_numeric.specs.Tests.{Test, no_line, Passes, AllPass, FirstFailing}
use Rattle.plus_numeric.specs.Asked.{call_tests, after_call, line_tests, lines_tests}
use Rattle.plus_numeric.specs.Playing.{Leads, LeadsCall, HaltsIn, HaltsAt, Keeps, Played, fault_halt}

-- ---- one line

-- nothing is asked of a line without a call
pub leads_nothing : (s : State) → Leads (λ more. more s) s
leads_nothing s = record { own = []; pass = pass_none Passes; is = λ more. refl }

pub leads_step : (d : Domain) (p : tree.Problem) (n : ℕ) (call : Call) (s after : State) → LeadsCall d p n call s after → Leads (line_tests d p (Step n call) s) after
leads_step d p n call s after h = record {
  own = call_tests d n call.name (call_meant d p call) s;
  pass = h.pass;
  is = λ more. ap (λ ts. call_tests d n call.name (call_meant d p call) s ++ ts) (h.is more);
}

pub halts_step :
    (source : Source) (d : Domain) (p : tree.Problem) (n : ℕ) (call : Call) (s : State) (halt : Halt)
    → HaltsAt source (call_tests d n call.name (call_meant d p call) s) halt → HaltsIn source (line_tests d p (Step n call) s) halt
halts_step source d p n call s (Refused v) h = record {
  test = h.test;
  first = λ more. fail_left Passes (call_tests d n call.name (call_meant d p call) s) (after_call (call_meant d p call) s more) h.test (h.first more);
  is = h.is;
}
halts_step source d p n call s Memory h = tt

-- ---- several lines

kept_none : (keep : Bool) (calls : List Call) → calls ≡ calls ++ (if keep then [] else [])
kept_none true calls = sym (append-nil calls)
kept_none false calls = sym (append-nil calls)

-- none is played yet
pub played_none : (d : Domain) (p : tree.Problem) (play : Play) → Played d p [] play play
played_none d p play = record { own = []; pass = pass_none Passes; is = λ rest more. refl; kept = kept_none play.keep play.calls.items }

oks_more : (ls : List Line) (line : Line) (rest : List (Result Line PlanFault)) → map Ok (ls ++ line ∷ []) ++ rest ≡ map Ok ls ++ Ok line ∷ rest
oks_more [] line rest = refl
oks_more (l ∷ ls) line rest = ap (λ rs. Ok l ∷ rs) (oks_more ls line rest)

kept_more :
    (keep : Bool) (xs ys : List Line) (first now last : List Call) → now ≡ first ++ (if keep then calls_of xs else []) → last ≡ now ++ (if keep then calls_of ys else [])
    → last ≡ first ++ (if keep then calls_of (xs ++ ys) else [])
kept_more true xs ys first now last e g =
    g ∙ ap (λ cs. cs ++ calls_of ys) e ∙ append_assoc first (calls_of xs) (calls_of ys) ∙ ap (λ cs. first ++ cs) (sym (flat_map-append line_calls xs ys))
kept_more false xs ys first now last e g = g ∙ append-nil now ∙ e

-- one more is played
pub played_more :
    (d : Domain) (p : tree.Problem) (lines : List Line) (line : Line) (first now next : Play)
    → Played d p lines first now → Leads (line_tests d p line now.numeric) next.numeric → Keeps (line ∷ []) now next → now.keep ≡ first.keep
    → Played d p (lines ++ line ∷ []) first next
played_more d p lines line first now next h l k same = record {
  own = h.own ++ l.own;
  pass = pass_append Passes h.own l.own h.pass l.pass;
  is = λ rest more.
      ap (λ rs. lines_tests d p rs first.numeric more) (oks_more lines line rest)
      ∙ h.is (Ok line ∷ rest) more ∙ ap (λ ts. h.own ++ ts) (l.is (λ after. lines_tests d p rest after more))
      ∙ sym (append_assoc h.own l.own (lines_tests d p rest next.numeric more));
  kept = kept_more first.keep lines (line ∷ []) first.calls.items now.calls.items next.calls.items h.kept
      (subst (λ (keep : Bool). next.calls.items ≡ now.calls.items ++ (if keep then calls_of (line ∷ []) else [])) same k);
}

-- the next halts the play
pub played_halt :
    (source : Source) (d : Domain) (p : tree.Problem) (lines : List Line) (line : Line) (behind results : List (Result Line PlanFault)) (first now : Play) (halt : Halt)
    → Played d p lines first now → results ≡ map Ok lines ++ Ok line ∷ behind → HaltsIn source (line_tests d p line now.numeric) halt
    → HaltsIn source (lines_tests d p results first.numeric) halt
played_halt source d p lines line behind results first now (Refused v) h e x = record {
  test = x.test;
  first = λ more.
      subst (λ ts. FirstFailing ts x.test) (sym (ap (λ rs. lines_tests d p rs first.numeric more) e ∙ h.is (Ok line ∷ behind) more))
      (fail_right Passes h.own (lines_tests d p (Ok line ∷ behind) now.numeric more) x.test h.pass (x.first (λ after. lines_tests d p behind after more)));
  is = x.is;
}
played_halt source d p lines line behind results first now Memory h e x = tt

no_line_fails : (fault : PlanFault) → Passes (no_line fault) → ⊥
unfolding Passes
no_line_fails fault h = h

bad_line : (source : Source) (fault : PlanFault) → HaltsAt source (no_line fault ∷ []) (fault_halt fault)
bad_line source (faults.NotLine n start last) = record { test = no_line (faults.NotLine n start last); first = λ more. fail_here Passes (no_line (faults.NotLine n start last)) [] (no_line_fails (faults.NotLine n start last)); is = refl }
bad_line source (faults.LineTooLong n) = record { test = no_line (faults.LineTooLong n); first = λ more. fail_here Passes (no_line (faults.LineTooLong n)) [] (no_line_fails (faults.LineTooLong n)); is = refl }
bad_line source faults.Memory = tt

-- a halt behind what passes
halts_behind :
    (source : Source) (tests tests' : (State → List Test) → List Test) (own : List Test) (halt : Halt) → AllPass own
    → ((more : State → List Test) → tests more ≡ own ++ tests' more) → HaltsIn source tests' halt → HaltsIn source tests halt
halts_behind source tests tests' own (Refused v) pass is x = record {
  test = x.test;
  first = λ more. subst (λ ts. FirstFailing ts x.test) (sym (is more)) (fail_right Passes own (tests' more) x.test pass (x.first more));
  is = x.is;
}
halts_behind source tests tests' own Memory pass is x = tt

-- the next is no line
pub played_bad :
    (source : Source) (d : Domain) (p : tree.Problem) (lines : List Line) (fault : PlanFault) (behind results : List (Result Line PlanFault)) (first now : Play)
    → Played d p lines first now → results ≡ map Ok lines ++ Err fault ∷ behind → HaltsIn source (lines_tests d p results first.numeric) (fault_halt fault)
played_bad source d p lines fault behind results first now h e =
    halts_behind source (lines_tests d p results first.numeric) (λ more. no_line fault ∷ []) h.own (fault_halt fault) h.pass
    (λ more. ap (λ rs. lines_tests d p rs first.numeric more) e ∙ h.is (Err fault ∷ behind) more) (bad_line source fault)

-- all are played, and behind them stands what is asked in the state at the end
played_is :
    (d : Domain) (p : tree.Problem) (lines : List Line) (results : List (Result Line PlanFault)) (first now : Play) (h : Played d p lines first now)
    → results ≡ map Ok lines → (more : State → List Test) → lines_tests d p results first.numeric more ≡ h.own ++ more now.numeric
played_is d p lines results first now h e more =
    ap (λ rs. lines_tests d p rs first.numeric more) (e ∙ sym (append-nil (map Ok lines))) ∙ h.is [] more

pub played_all :
    (d : Domain) (p : tree.Problem) (lines : List Line) (results : List (Result Line PlanFault)) (first now : Play)
    → Played d p lines first now → results ≡ map Ok lines → (more : State → List Test) → AllPass (more now.numeric) → AllPass (lines_tests d p results first.numeric more)
played_all d p lines results first now h e more a =
    subst AllPass (sym (played_is d p lines results first now h e more)) (pass_append Passes h.own (more now.numeric) h.pass a)

pub played_then :
    (source : Source) (d : Domain) (p : tree.Problem) (lines : List Line) (results : List (Result Line PlanFault)) (first now : Play) (halt : Halt)
    → Played d p lines first now → results ≡ map Ok lines → (more : State → List Test) → HaltsAt source (more now.numeric) halt
    → HaltsAt source (lines_tests d p results first.numeric more) halt
played_then source d p lines results first now halt h e more x =
    halts_behind source (λ any. lines_tests d p results first.numeric more) (λ any. more now.numeric) h.own halt h.pass (λ any. played_is d p lines results first now h e more) x
