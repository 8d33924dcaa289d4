-- One outcome for each call of parts. Assumes nothing.
use mathlib.Core.List.{List}
use mathlib.Core.Path.{◌≡◌}
use Prim.Native.Nat.{ℕ}
use Rattle.cells.specs.declared.Table.{Table}
use Rattle.parts.specs.Halves.{used_words, used_deltas, with_table}
use Rattle.parts.specs.declared.Growing.{Growing}
use Rattle.outcomes.proofs.One.{both}

-- ---- the front of the half in use: t is the numbers that are handed out

pub used_words_one_outcome : (lower upper : List ℕ) (growing : Growing) (t₁ t₂ : List ℕ) → t₁ ≡ used_words lower upper growing → t₂ ≡ used_words lower upper growing → t₁ ≡ t₂
used_words_one_outcome lower upper growing t₁ t₂ e₁ e₂ = both e₁ e₂

pub used_deltas_one_outcome : (lower upper : List ℕ) (growing : Growing) (t₁ t₂ : List ℕ) → t₁ ≡ used_deltas lower upper growing → t₂ ≡ used_deltas lower upper growing → t₁ ≡ t₂
used_deltas_one_outcome lower upper growing t₁ t₂ e₁ e₂ = both e₁ e₂

-- ---- the record

pub table_one_outcome : (growing : Growing) (r₁ r₂ : Table) → r₁ ≡ growing.table → r₂ ≡ growing.table → r₁ ≡ r₂
table_one_outcome growing r₁ r₂ e₁ e₂ = both e₁ e₂

pub with_table_one_outcome : (growing : Growing) (table : Table) (r₁ r₂ : Growing) → r₁ ≡ with_table growing table → r₂ ≡ with_table growing table → r₁ ≡ r₂
with_table_one_outcome growing table r₁ r₂ e₁ e₂ = both e₁ e₂
