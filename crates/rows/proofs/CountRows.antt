-- The rows, by computation.
use Rattle.std.proofs.Common.{refl}
use Rattle.rows.specs.Expansion.Counts.{CountRows}

pub count_rows : CountRows
count_rows = record { limits = λ d p. refl; reached = refl; passed = refl }
