-- The readers of what moves now.
use Rattle.std.proofs.Common.{◌≡◌, ℕ, List, subst}
use Rattle.plus_reads.specs.Tables.{ReadAny}
use Rattle.plus_reads.specs.declared.index.Index.{Index}

-- the same index and the same fluents
pub processes_now : (t u : Index) (ms ns listed : List ℕ) → t ≡ u → ms ≡ ns → ReadAny t.processes ms listed → ReadAny u.processes ns listed
processes_now t u ms ns listed e f r =
    subst (λ (i : Index). ReadAny i.processes ns listed) e (subst (λ (ks : List ℕ). ReadAny t.processes ks listed) f r)

pub events_now : (t u : Index) (ms ns listed : List ℕ) → t ≡ u → ms ≡ ns → ReadAny t.events ms listed → ReadAny u.events ns listed
events_now t u ms ns listed e f r =
    subst (λ (i : Index). ReadAny i.events ns listed) e (subst (λ (ks : List ℕ). ReadAny t.events ks listed) f r)
