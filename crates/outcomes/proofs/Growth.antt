-- One outcome for the growing insert. Assumes nothing.
use mathlib.Core.List.{List}
use mathlib.Core.Path.{◌≡◌, refl, ap}
use Prim.Native.Nat.{ℕ, zero, suc}
use Rattle.std.specs.Prelude.{Result, Ok, Err}
use Rattle.rules.specs.Answers.{Said, found, absent, new, replaced, revived, removed, refused}
use Rattle.rules.specs.Growing.{grow as grow·rule}
use Rattle.cells.specs.declared.insert.InsertSaid.{InsertSaid}
use Rattle.cells.specs.declared.insert.InsertSaid.TheVariants as puts
use Rattle.parts.specs.Halves.{half_of, lent_halves}
use Rattle.parts.specs.declared.Growing.{Growing}
use Rattle.parts.proofs.Which.{unhalf, half_back}
use Rattle.growth.specs.Growth.{grow_said, GrownLeft, grown_by, grow_left}
use Rattle.growth.specs.declared.GrowError.{GrowError}
use Rattle.growth.specs.declared.GrowError.TheVariants as errors
use Rattle.growth.specs.declared.GrowAnswer.{GrowAnswer}
use Rattle.outcomes.proofs.One.{both, one}

-- the answer that is said so
abbrev ungrow : Said → Result InsertSaid GrowError
ungrow new = Ok puts.New
ungrow (replaced v) = Ok (puts.Replaced v)
ungrow revived = Ok puts.Revived
ungrow (refused zero l) = Err errors.NoRoom
ungrow (refused (suc zero) l) = Err errors.Shape
ungrow (refused (suc (suc zero)) l) = Err errors.ZeroHash
ungrow (refused (suc (suc (suc zero))) l) = Err errors.Null
ungrow (refused (suc (suc (suc (suc zero)))) l) = Err errors.NoRoom
ungrow (refused (suc (suc (suc (suc (suc zero))))) l) = Err errors.Broken
ungrow (refused (suc (suc (suc (suc (suc (suc n)))))) l) = Err errors.NoRoom
ungrow (found v) = Err errors.NoRoom
ungrow absent = Err errors.NoRoom
ungrow (removed v) = Err errors.NoRoom

grow_back : (a : Result InsertSaid GrowError) → ungrow (grow_said a) ≡ a
grow_back (Ok puts.New) = refl
grow_back (Ok (puts.Replaced old)) = refl
grow_back (Ok puts.Revived) = refl
grow_back (Err errors.Shape) = refl
grow_back (Err errors.ZeroHash) = refl
grow_back (Err errors.Null) = refl
grow_back (Err errors.Broken) = refl
grow_back (Err errors.NoRoom) = refl

pub insert_one_outcome : (lower_words lower_deltas upper_words upper_deltas : List ℕ) (growing : Growing) (key value : ℕ) (r₁ r₂ : GrowAnswer) (lower_words₁ lower_deltas₁ upper_words₁ upper_deltas₁ lower_words₂ lower_deltas₂ upper_words₂ upper_deltas₂ : List ℕ)
    → grown_by r₁ lower_words₁ lower_deltas₁ upper_words₁ upper_deltas₁ ≡ grow_left (grow·rule (lent_halves lower_words lower_deltas upper_words upper_deltas growing) key value) growing lower_words lower_deltas upper_words upper_deltas
    → grown_by r₂ lower_words₂ lower_deltas₂ upper_words₂ upper_deltas₂ ≡ grow_left (grow·rule (lent_halves lower_words lower_deltas upper_words upper_deltas growing) key value) growing lower_words lower_deltas upper_words upper_deltas
    → (r₁ ≡ r₂) × (lower_words₁ ≡ lower_words₂) × (lower_deltas₁ ≡ lower_deltas₂) × (upper_words₁ ≡ upper_words₂) × (upper_deltas₁ ≡ upper_deltas₂)
insert_one_outcome lower_words lower_deltas upper_words upper_deltas growing key value r₁ r₂ lower_words₁ lower_deltas₁ upper_words₁ upper_deltas₁ lower_words₂ lower_deltas₂ upper_words₂ upper_deltas₂ e₁ e₂ =
    let e = both e₁ e₂ in
    let s = one grow_said ungrow grow_back r₁.said r₂.said (ap (λ (y : GrownLeft). y.grown.said) e) in
    let h = one half_of unhalf half_back r₁.growing.half r₂.growing.half (ap (λ (y : GrownLeft). y.grown.half) e) in (
      λ i. record {
        said = s i;
        looked = (e i).grown.looked;
        moves = (e i).grown.moves;
        growing = record { table = record { hasher = (e i).hasher; live = (e i).grown.counts.live }; size = (e i).grown.size; half = h i };
      },
      ap (λ (y : GrownLeft). y.grown.lower_words) e,
      ap (λ (y : GrownLeft). y.grown.lower_deltas) e,
      ap (λ (y : GrownLeft). y.grown.upper_words) e,
      ap (λ (y : GrownLeft). y.grown.upper_deltas) e,
    )
