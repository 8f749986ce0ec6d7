-- What a run hands on of its report, as it goes.
use Rattle.std.proofs.Common.{◌≡◌, ℕ, ◌+◌, ◌≤◌, List, [], ◌++◌, length, take, drop, Option, Some, None, refl, subst, sym, ap, ◌∙◌, arith, append_assoc, append-nil, length-append, length-drop}
use Rattle.std.specs.Io.KnownBytes.{append_known}
use Rattle.std.proofs.Math.Seq.{take-append-add}
use Rattle.std.proofs.lemmas.List.{take-append-drop}
use Rattle.plus_io.specs.Faults.{Rose}
use Rattle.plus_io.specs.Taken.{Took, TookPart}
use Rattle.plus_io.proofs.Pieces.{append_known-append}
use Rattle.plus_model.specs.Terms.{Problem}
use Rattle.plus_validator.specs.declared.halt.Halt.{Halt}
use Rattle.plus_validator.specs.declared.halt.Halt.TheVariants.{Refused, Memory, WriteFault}
use Rattle.plus_validator.specs.declared.run.Run.{Run}
use Rattle.plus_validator.specs.Account.{Progress, progress}
use Rattle.plus_validator.specs.Halts.{HaltFits, HasCause}
use Rattle.plus_validator.specs.Handing.{HandsOn, StaysSo, IsPartOut, Tellings, BreaksOff, RunBreaksOff}
use Rattle.plus_validator.specs.Told.{reports, report_told}
use Rattle.plus_validator.specs.declared.memory.Report.{Report}
use Rattle.plus_validator.proofs.Steps.{account_by}

-- a count that rose later rose
pub rose_since : (a b n : ℕ) → a ≤ b → Rose b n → Rose a n
rose_since a b n l r = grind arith

-- ---- one piece of the report after the other

pub took_both : (old mid new : Option (List ℕ)) (a b : List ℕ) → Took old mid a → Took mid new b → Took old new (a ++ b)
took_both old mid new a b e f = f ∙ ap (λ t. append_known t b) e ∙ append_known-append old a b

pub took_part_behind : (old mid new : Option (List ℕ)) (a b : List ℕ) → Took old mid a → TookPart mid new b → TookPart old new (a ++ b)
took_part_behind old mid new a b e (count, less, f) = (
  length a + count,
  omega (arith, length-append a b),
  subst (Took old new) (sym (take-append-add a b count)) (took_both old mid new a (take count b) e f),
)

pub took_none : (old : Option (List ℕ)) → Took old old []
took_none None = refl
took_none (Some bytes) = ap Some (sym (append-nil bytes))

-- two progresses that tell the same are one
pub same_progress : {V : Type 0} (one other : Progress V) → one.timeline ≡ other.timeline → one.account ≡ other.account → one.ended ≡ other.ended → one ≡ other
same_progress one other t a e = λ i. record { timeline = t i; account = a i; ended = e i }

-- nothing is handed on
pub hands_none : {A B V W : Type 0} {seen : List ℕ → A → V} {later : List ℕ → B → W} {R : V → W → Type 0} {a : A} {b : B} (o : Option (List ℕ)) → ((sent : List ℕ) → R (seen sent a) (later sent b)) → HandsOn seen later R a b o o
hands_none {seen = seen} {later = later} {R = R} {a = a} {b = b} o f = record {
  gone = [];
  took = took_none o;
  goes = λ sent. subst (λ z. R (seen sent a) (later z b)) (sym (append-nil sent)) (f sent);
}

-- what is handed on tells something else
pub hands_map : {A B V W C D X Y : Type 0} {seen : List ℕ → A → V} {later : List ℕ → B → W} {seen' : List ℕ → C → X} {later' : List ℕ → D → Y} {R : V → W → Type 0} {T : X → Y → Type 0} {a : A} {b : B} {c : C} {d : D} {o n : Option (List ℕ)}
    → HandsOn seen later R a b o n → ((sent out : List ℕ) → R (seen sent a) (later out b) → T (seen' sent c) (later' out d)) → HandsOn seen' later' T c d o n
hands_map h f = record { gone = h.gone; took = h.took; goes = λ sent. f sent (sent ++ h.gone) (h.goes sent) }

-- one part and then another
pub hands_then : {A B V W C D X Y E Z : Type 0} {seen : List ℕ → A → V} {later : List ℕ → B → W} {seen' : List ℕ → C → X} {later' : List ℕ → D → Y} {first : List ℕ → E → Z} {R : V → W → Type 0} {S : X → Y → Type 0} {T : Z → Y → Type 0} {a : A} {b : B} {c : C} {d : D} {e : E} {o m n : Option (List ℕ)}
    → HandsOn seen later R a b o m → HandsOn seen' later' S c d m n → ((sent mid out : List ℕ) → R (seen sent a) (later mid b) → S (seen' mid c) (later' out d) → T (first sent e) (later' out d)) → HandsOn first later' T e d o n
hands_then {later' = later'} {first = first} {T = T} {d = d} {e = e} {o = o} {m = m} {n = n} h k f = record {
  gone = h.gone ++ k.gone;
  took = took_both o m n h.gone k.gone h.took k.took;
  goes = λ sent.
      subst (λ z. T (first sent e) (later' z d)) (append_assoc sent h.gone k.gone)
      (f sent (sent ++ h.gone) ((sent ++ h.gone) ++ k.gone) (h.goes sent) (k.goes (sent ++ h.gone)));
}

-- a run hands on what its teller does
pub run_stays : {S V : Type 0} (told : List ℕ → S → V) (telling : Tellings V) (old new : Run S) (o n : Option (List ℕ)) → new.timeline ≡ old.timeline → new.entries ≡ old.entries → new.firings ≡ old.firings → new.ended ≡ old.ended → StaysSo told old.teller new.teller o n → StaysSo (progress told) old new o n
run_stays told telling old new o n t e f d h = record {
  gone = h.gone;
  took = h.took;
  goes = λ sent. same_progress (progress told (sent ++ h.gone) new) (progress told sent old) t (account_by (h.goes sent) e f) d;
}

pub run_breaks : {S V : Type 0} (told : List ℕ → S → V) (telling : Tellings V) (old new : Run S) (o n : Option (List ℕ)) → BreaksOff told telling old.teller new.teller o n → RunBreaksOff told telling old new o n
run_breaks told telling old new o n b = λ N P.
    let h = b N P in
    record { gone = h.gone; took = h.took; goes = h.goes }

-- ---- the report

-- a front of what waits is handed on, and not all
pub hands_part : (r : Report) (o n : Option (List ℕ)) → TookPart o n r.bytes.items → BreaksOff report_told reports r r o n
hands_part r o n (count, less, t) = λ N P. record {
  gone = take count r.bytes.items;
  took = t;
  goes = λ sent. (
    drop count r.bytes.items,
    ap (λ z. sent ++ z) (sym (take-append-drop count r.bytes.items)) ∙ sym (append_assoc sent (take count r.bytes.items) (drop count r.bytes.items)),
    omega (arith, length-drop count r.bytes.items),
  );
}

-- what is kept stays
pub kept_behind : (sent : List ℕ) (run : Run Report) → IsPartOut Memory sent (progress report_told sent run).account.told
kept_behind sent run = (run.teller.bytes.items, refl)

-- ---- why a run halts

pub cause_of : (P : Problem) (before now : ℕ) (halt : Halt) → HaltFits P halt → HasCause P before now halt
cause_of P before now (Refused v) f = f
cause_of P before now Memory f = f
cause_of P before now WriteFault f = absurd f.names

pub cause_since : (P : Problem) (first before now : ℕ) (halt : Halt) → first ≤ before → HasCause P before now halt → HasCause P first now halt
cause_since P first before now (Refused v) w c = c
cause_since P first before now Memory w c = c
cause_since P first before now WriteFault w c = rose_since first before now w c

-- a sink that counts no fault is none
pub cause_inside : (P : Problem) (halt : Halt) → HasCause P 0 0 halt → HaltFits P halt
cause_inside P (Refused v) c = c
cause_inside P Memory c = c
cause_inside P WriteFault c = absurd (let r : Rose 0 0 = c in omega arith)
