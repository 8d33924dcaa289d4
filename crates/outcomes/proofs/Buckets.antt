-- One outcome for each call of buckets. Assumes nothing.
use mathlib.Core.List.{List}
use mathlib.Core.Path.{◌≡◌, refl, ap}
use Prim.Native.Nat.{ℕ}
use Rattle.buckets.specs.Buckets as says
use Rattle.std.specs.Prelude.{Result, Ok, Err}
use Rattle.cells.specs.declared.Cell.{Cell}
use Rattle.cells.specs.declared.ShapeError.{ShapeError}
use Rattle.buckets.specs.Buckets.{Said, done, refused, taken, taking, put_said, Left, left, putting, cell_said, reading, Handed, changed, changing}
use Rattle.buckets.specs.declared.Bucket.{Bucket}
use Rattle.buckets.specs.declared.Unchanged.{Unchanged}
use Rattle.outcomes.proofs.One.{both, one}

-- ---- taking

-- the answer that is said so, and carries this
abbrev answer : {A : Type 0} → Said → A → Result A ShapeError
answer done a = Ok a
answer (says.cell c) a = Ok a
answer (refused n) a = Err (record {})

abbrev untaken : Handed → Result Bucket ShapeError
untaken h = answer h.said h.bucket

taken_back : (r : Result Bucket ShapeError) → untaken (taken r) ≡ r
taken_back (Ok k) = refl
taken_back (Err e) = refl

pub take_bucket_one_outcome : (words deltas : List ℕ) (b : ℕ) (r₁ r₂ : Result Bucket ShapeError)
    → taken r₁ ≡ taking words deltas b
    → taken r₂ ≡ taking words deltas b
    → r₁ ≡ r₂
take_bucket_one_outcome words deltas b r₁ r₂ e₁ e₂ = one taken untaken taken_back r₁ r₂ (both e₁ e₂)

-- ---- putting

abbrev put_unsaid : Said → Result Unit ShapeError
put_unsaid s = answer s tt

put_back : (r : Result Unit ShapeError) → put_unsaid (put_said r) ≡ r
put_back (Ok u) = refl
put_back (Err e) = refl

pub put_bucket_one_outcome : (words deltas : List ℕ) (b : ℕ) (bucket : Bucket) (r₁ r₂ : Result Unit ShapeError) (words₁ deltas₁ words₂ deltas₂ : List ℕ)
    → left r₁ words₁ deltas₁ ≡ putting words deltas b bucket
    → left r₂ words₂ deltas₂ ≡ putting words deltas b bucket
    → (r₁ ≡ r₂) × (words₁ ≡ words₂) × (deltas₁ ≡ deltas₂)
put_bucket_one_outcome words deltas b bucket r₁ r₂ words₁ deltas₁ words₂ deltas₂ e₁ e₂ =
    let e = both e₁ e₂ in
    (one put_said put_unsaid put_back r₁ r₂ (ap (λ (l : Left). l.said) e), ap (λ (l : Left). l.words) e, ap (λ (l : Left). l.deltas) e)

-- ---- reading a cell

abbrev cell_unsaid : Said → Result Cell ShapeError
cell_unsaid done = Err (record {})
cell_unsaid (says.cell c) = Ok c
cell_unsaid (refused n) = Err (record {})

cell_back : (r : Result Cell ShapeError) → cell_unsaid (cell_said r) ≡ r
cell_back (Ok c) = refl
cell_back (Err e) = refl

pub bucket_cell_one_outcome : (self : Bucket) (j : ℕ) (r₁ r₂ : Result Cell ShapeError) → cell_said r₁ ≡ reading self j → cell_said r₂ ≡ reading self j → r₁ ≡ r₂
bucket_cell_one_outcome self j r₁ r₂ e₁ e₂ = one cell_said cell_unsaid cell_back r₁ r₂ (both e₁ e₂)

-- ---- changing a cell

abbrev unchanged : Handed → Result Bucket Unchanged
unchanged h = go h.said
  where
    go : Said → Result Bucket Unchanged
    go done = Ok h.bucket
    go (says.cell c) = Ok h.bucket
    go (refused n) = Err (record { 0 = h.bucket })

changed_back : (r : Result Bucket Unchanged) → unchanged (changed r) ≡ r
changed_back (Ok k) = refl
changed_back (Err e) = refl

pub bucket_with_cell_one_outcome : (self : Bucket) (j : ℕ) (cell : Cell) (r₁ r₂ : Result Bucket Unchanged)
    → changed r₁ ≡ changing self j cell
    → changed r₂ ≡ changing self j cell
    → r₁ ≡ r₂
bucket_with_cell_one_outcome self j cell r₁ r₂ e₁ e₂ = one changed unchanged changed_back r₁ r₂ (both e₁ e₂)
