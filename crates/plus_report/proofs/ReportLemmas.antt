-- How a report grows, and that it reads no line which was not acted.
use Rattle.std.proofs.Common.{◌≡◌, ℕ, zero, suc, Bool, List, [], ◌∷◌, ◌++◌, refl, sym, ap, subst, ◌∙◌, append_assoc, append-nil}
use Rattle.std.specs.Prelude.{Option, Some, None, slice_get}
use Rattle.plus_model.specs.Terms.{State, Problem}
use Rattle.plus_model.specs.Plan.{Instance, Line, ActLine, Plan}
use Rattle.plus_model.specs.History.{Part, Enter, Round, Act, Run, View, view_after, view_from}
use Rattle.plus_model.specs.Trajectory.{NextBy, Follow, Prefix, first_part, first_view, view_of}
use Rattle.plus_state.specs.View.{Labels}
use Rattle.plus_report.specs.Text.{act_text}
use Rattle.plus_report.specs.Report.{called_label, part_text, state_after, report_from, report_of}

-- the state after parts
state_from : State → List Part → State
state_from s [] = s
state_from s (part ∷ parts) = state_from (state_after s part) parts

state_after-view : (v : View) (part : Part) → (view_after v part).state ≡ state_after v.state part
state_after-view v (Enter t a s) = refl
state_after-view v (Round events s) = refl
state_after-view v (Act i s) = refl
state_after-view v (Run running) = refl

state_from-view : (v : View) (parts : List Part)
    → (view_from v parts).state ≡ state_from v.state parts
unfolding state_from
state_from-view v [] = refl
state_from-view v (part ∷ parts) = state_from-view (view_after v part) parts ∙ ap (λ s. state_from s parts) (state_after-view v part)

report_from-append : (N : Labels) (P : Problem) (L : Plan) (s : State) (parts : List Part) (part : Part)
    → report_from N P L s (parts ++ part ∷ []) ≡ report_from N P L s parts ++ part_text N P L (state_from s parts) part
unfolding report_from state_from
report_from-append N P L s [] part = append-nil _
report_from-append N P L s (p ∷ parts) part =
    ap (λ t. part_text N P L s p ++ t) (report_from-append N P L (state_after s p) parts part) ∙ sym (append_assoc (part_text N P L s p) _ _)

-- the text of one more part, after the state of the view
pub report_of-append : (N : Labels) (P : Problem) (L : Plan) (h : List Part) (part : Part)
    → Prefix P L h
    → report_of N P L (h ++ part ∷ []) ≡ report_of N P L h ++ part_text N P L (view_of P h).state part
unfolding report_of report_from state_from
report_of-append N P L h part p =
    subst (λ h. report_of N P L (h ++ part ∷ []) ≡ report_of N P L h ++ part_text N P L (view_of P h).state part) (sym p.begins)
    (report_from-append N P L P.initial (first_part P ∷ p.rest) part
    ∙ ap (λ s. report_of N P L (first_part P ∷ p.rest) ++ part_text N P L s part) (sym (state_from-view (first_view P) p.rest)))

-- the lines go on, and the text may have ended
grown : Plan → List Line → Bool → Plan
grown L more closed = record { lines = L.lines ++ more; closed = closed }

slice_get_more : (xs ys : List Line) (k : ℕ) (x : Line) → slice_get xs k ≡ Some x
    → slice_get (xs ++ ys) k ≡ Some x
slice_get_more [] ys k x e = cc
slice_get_more (w ∷ xs) ys zero x e = e
slice_get_more (w ∷ xs) ys (suc k) x e = slice_get_more xs ys k x e

module _ (N : Labels) (P : Problem) (L : Plan) (more : List Line) (closed : Bool) where
  part_text-grown : (v : View) (o : Option (List ℕ)) (part : Part) → NextBy P L v o part
      → part_text N P (grown L more closed) v.state part ≡ part_text N P L v.state part
  unfolding grown
  part_text-grown v o (Enter t a s) n = refl
  part_text-grown v o (Round events s) n = refl
  part_text-grown v o (Run running) n = refl
  part_text-grown v (Some running) (Act i s) n = absurd n
  part_text-grown v None (Act i s) n =
      let due : slice_get L.lines i ≡ Some (ActLine v.time (Instance n.action)) = ap (λ k. slice_get L.lines k) n.line ∙ n.due in
      ap (λ o. act_text N (called_label o) v.state s) (slice_get_more L.lines more i _ due ∙ sym due)

  report_from-grown : (v : View) (parts : List Part) → Follow P L v parts
      → report_from N P (grown L more closed) v.state parts ≡ report_from N P L v.state parts
  unfolding report_from
  report_from-grown v [] f = refl
  report_from-grown v (part ∷ parts) f =
      let rest : report_from N P (grown L more closed) (state_after v.state part) parts ≡ report_from N P L (state_after v.state part) parts =
      subst (λ s. report_from N P (grown L more closed) s parts ≡ report_from N P L s parts) (state_after-view v part) (report_from-grown (view_after v part) parts f.2) in
      ap (λ t. t ++ report_from N P (grown L more closed) (state_after v.state part) parts) (part_text-grown v v.running part f.1)
      ∙ ap (λ t. part_text N P L v.state part ++ t) rest

  -- the report of a prefix stays as the plan is read on
  pub report_of-grown : (h : List Part) → Prefix P L h
      → report_of N P (record { lines = L.lines ++ more; closed = closed }) h ≡ report_of N P L h
  unfolding report_of report_from grown
  report_of-grown h p =
      subst (λ h. report_of N P (grown L more closed) h ≡ report_of N P L h) (sym p.begins)
      (ap (λ t. part_text N P L P.initial (first_part P) ++ t) (report_from-grown (first_view P) p.rest p.follow))
