-- A table of readers that gets one more.
use Rattle.std.specs.Prelude.{◌≡◌, ◌⊎◌, ℕ, true, List, length}
use Rattle.plus_model.specs.Firing.{is_in}
use Rattle.plus_reads.specs.Tables.{readers_at}

-- under each of these keys the reader is listed too, and no other is added
pub record AddsReader (old new : List (List ℕ)) (keys : List ℕ) (reader : ℕ) : Type 0 where
  pub size : length new ≡ length old
  pub kept : (key k : ℕ) → is_in (readers_at old key) k ≡ true → is_in (readers_at new key) k ≡ true
  pub added : (key : ℕ) → is_in keys key ≡ true → is_in (readers_at new key) reader ≡ true
  pub only : (key k : ℕ) → is_in (readers_at new key) k ≡ true → (is_in (readers_at old key) k ≡ true) ⊎ (k ≡ reader)
