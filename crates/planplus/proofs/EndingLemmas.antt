-- What the number that the process ends with says of the words.
use Rattle.std.proofs.Common.{◌≡◌, ◌⊎◌, ℕ, List, Option, None, ap, refl, sym, ◌∙◌, inl, inr, arith}
use Rattle.plus_report.specs.declared.status.Status.{Status}
use Rattle.plus_report.specs.declared.status.Status.TheVariants as s
use Rattle.plus_report.specs.Statuses.{exit_number}
use Rattle.plus_run.specs.Command.{Command}
use Rattle.plus_run.specs.Headline.{IsAnswer, EndsWith, MayEnd}

only_usage : (status : Status) → exit_number status ≡ 4 → status ≡ s.Usage
only_usage s.Valid e = absurd (let f : 0 ≡ 4 = e in omega (arith, f))
only_usage s.Invalid e = absurd (let f : 1 ≡ 4 = e in omega (arith, f))
only_usage s.Beyond e = absurd (let f : 2 ≡ 4 = e in omega (arith, f))
only_usage s.BadText e = absurd (let f : 3 ≡ 4 = e in omega (arith, f))
only_usage s.Usage e = refl
only_usage s.ReadFault e = absurd (let f : 5 ≡ 4 = e in omega (arith, f))
only_usage s.WriteFault e = absurd (let f : 6 ≡ 4 = e in omega (arith, f))
only_usage s.NoMemory e = absurd (let f : 7 ≡ 4 = e in omega (arith, f))

module _ (number : ℕ) (command : Option Command) (bytes : List ℕ → Option (List ℕ)) (old new : Option (List ℕ)) (read_before read_now write_before write_now : ℕ) (ends : EndsWith number (IsAnswer command bytes old new read_before read_now write_before write_now)) where
  -- words that are no command end with the number of the usage line, or of a failed output
  pub ends_unknown : command ≡ None → (number ≡ 4) ⊎ (number ≡ 6) ⊎ (number ≡ 7)
  ends_unknown none =
      elim (ends.2.no_command none) [
        | inl w ↦ inl (ends.1 ∙ ap exit_number w.0)
        | inr w ↦ inr (inl (ends.1 ∙ ap exit_number w.0))
      ]

  -- and no others end with that of the usage line
  pub ends_usage : number ≡ 4 → command ≡ None
  ends_usage four = ends.2.usage (only_usage ends.0 (sym ends.1 ∙ four))

  pub may_end : (number ≡ 7) ⊎ MayEnd command number
  may_end = inr record {
    bytes = bytes;
    old = old;
    new = new;
    read_before = read_before;
    read_now = read_now;
    write_before = write_before;
    write_now = write_now;
    ends = ends;
  }
