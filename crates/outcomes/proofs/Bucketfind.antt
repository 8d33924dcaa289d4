-- One outcome for the lookup over a slice of buckets, and it is the one of find on the flat slices. Assumes nothing.
use mathlib.Core.List.{List}
use mathlib.Core.Path.{◌≡◌, sym, ◌∙◌}
use Prim.Native.Nat.{ℕ}
use Rattle.rules.specs.Calls.{find as find·rule}
use Rattle.cells.specs.Layout.{lent}
use Rattle.cells.specs.declared.Table.{Table}
use Rattle.hashmap.specs.Answers.{find_answer}
use Rattle.hashmap.specs.declared.FindAnswer.{FindAnswer}
use Rattle.buckets.specs.declared.Bucket.{Bucket}
use Rattle.bucketfind.specs.Slice.{buckets_lent, flat_words, flat_deltas}
use Rattle.bucketfind.proofs.Same.{find_same}
use Rattle.outcomes.proofs.One.{both}
use Rattle.outcomes.proofs.Hashmap.{find_answer_one}

pub find_one_outcome : (buckets : List Bucket) (table : Table) (key : ℕ) (r₁ r₂ : FindAnswer)
    → find_answer r₁ ≡ find·rule (buckets_lent buckets table) key
    → find_answer r₂ ≡ find·rule (buckets_lent buckets table) key
    → r₁ ≡ r₂
find_one_outcome buckets table key r₁ r₂ e₁ e₂ = find_answer_one r₁ r₂ (both e₁ e₂)

-- an answer of bucketfind::find on the buckets and one of hashmap::find on the flat slices, by their contracts, are one
pub find_answers_same : (buckets : List Bucket) (table : Table) (key : ℕ) (r₁ r₂ : FindAnswer)
    → find_answer r₁ ≡ find·rule (buckets_lent buckets table) key
    → find_answer r₂ ≡ find·rule (lent (flat_words buckets) (flat_deltas buckets) table) key
    → r₁ ≡ r₂
find_answers_same buckets table key r₁ r₂ e₁ e₂ = find_answer_one r₁ r₂ (both e₁ (e₂ ∙ sym (find_same buckets table key)))
