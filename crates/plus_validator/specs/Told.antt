-- What is told of a history of a plan, by whoever tells it: as its report.
use Rattle.std.specs.Prelude.{◌≡◌, ℕ, Bool, List, [], ◌∷◌, ◌++◌}
use Rattle.std.proofs.Common.{refl, sym, ap, ◌∙◌, append_assoc, append-nil}
use Rattle.plus_io.specs.Files.{IsPrefix}
use Rattle.plus_model.specs.Terms.{State, Problem}
use Rattle.plus_model.specs.Plan.{Line, Plan}
use Rattle.plus_model.specs.History.{Part}
use Rattle.plus_model.specs.Trajectory.{Prefix}
use Rattle.plus_state.specs.View.{Labels}
use Rattle.plus_report.specs.Report.{part_text, state_after, report_from, report_of}
use Rattle.plus_report.proofs.ReportLemmas.{report_of-grown}
use Rattle.plus_validator.specs.declared.memory.Report.{Report}
use Rattle.plus_validator.specs.declared.silent.Silent.{Silent}

-- One way to tell the histories of plans over a problem: V is what is told.
pub record Telling (P : Problem) (V : Type 0) : Type 1 where
  pub Tells : Plan → List Part → V → Type 0  -- this is told of the history of the plan
  pub bytes : V → List ℕ  -- what of it goes to a sink
  -- lines that come later in the plan, and its end, change nothing of it
  pub stays :
      (L : Plan) (more : List Line) (closed : Bool) (h : List Part) (told : V) → Prefix P L h → Tells L h told
      → Tells (record { lines = L.lines ++ more; closed = closed }) h told
  -- and its bytes begin those of what is told of a longer history
  pub grows :
      (L : Plan) (h more : List Part) (one other : V) → Tells L h one → Tells L (h ++ more) other → IsPrefix (bytes one) (bytes other)

-- ---- the report

report_from_more : (N : Labels) (P : Problem) (L : Plan) (s : State) (a b : List Part) → (more : List ℕ) × (report_from N P L s (a ++ b) ≡ report_from N P L s a ++ more)
unfolding report_from
report_from_more N P L s [] b = (report_from N P L s b, refl)
report_from_more N P L s (p ∷ a) b =
    let k = report_from_more N P L (state_after s p) a b in
    (k.0, ap (λ t. part_text N P L s p ++ t) k.1 ∙ sym (append_assoc (part_text N P L s p) (report_from N P L (state_after s p) a) k.0))

pub report_more : (N : Labels) (P : Problem) (L : Plan) (a b : List Part) → (more : List ℕ) × (report_of N P L (a ++ b) ≡ report_of N P L a ++ more)
unfolding report_of
report_more N P L a b = report_from_more N P L P.initial a b

pub report_stays :
    (N : Labels) (P : Problem) (L : Plan) (more : List Line) (closed : Bool) (h : List Part) (told : List ℕ) → Prefix P L h → told ≡ report_of N P L h
    → told ≡ report_of N P (record { lines = L.lines ++ more; closed = closed }) h
report_stays N P L more closed h told p e = e ∙ sym (report_of-grown N P L more closed h p)

pub report_grows :
    (N : Labels) (P : Problem) (L : Plan) (h more : List Part) (one other : List ℕ) → one ≡ report_of N P L h → other ≡ report_of N P L (h ++ more)
    → IsPrefix one other
report_grows N P L h more one other e f = let k = report_more N P L h more in (k.0, f ∙ k.1 ∙ ap (λ t. t ++ k.0) (sym e))

-- the report is told, and all of it goes to the sink
abbrev pub reports : Labels → (P : Problem) → Telling P (List ℕ)
reports N P = record {
  Tells = λ L h told. told ≡ report_of N P L h;
  bytes = λ told. told;
  stays = report_stays N P;
  grows = report_grows N P;
}

-- what is told of it by bytes that wait, behind these
abbrev pub report_told : List ℕ → Report → List ℕ
report_told sent waiting = sent ++ waiting.bytes.items

-- it tells by nothing but what happens
abbrev pub report_kept : Report → Unit {0}
report_kept waiting = tt

-- ---- nothing

pub silence_grows :
    (P : Problem) (L : Plan) (h more : List Part) (one other : List ℕ) → one ≡ [] → other ≡ [] → IsPrefix one other
silence_grows P L h more one other e f = ([], f ∙ sym (ap (λ t. t ++ []) e))

-- nothing is told, so nothing goes to a sink
abbrev pub silence : (P : Problem) → Telling P (List ℕ)
silence P = record {
  Tells = λ L h told. told ≡ [];
  bytes = λ told. told;
  stays = λ L more closed h told p e. e;
  grows = silence_grows P;
}

-- what is handed on of it begins it
pub nothing_behind : (sent : List ℕ) → IsPrefix sent sent
nothing_behind sent = ([], sym (append-nil sent))

-- of which this is told behind these bytes
abbrev pub silent_told : List ℕ → Silent → List ℕ
silent_told sent s = sent
