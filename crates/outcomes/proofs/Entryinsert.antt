-- One outcome for each call of entryinsert. Assumes nothing.
use mathlib.Core.List.{List, [], ◌∷◌}
use mathlib.Core.Path.{◌≡◌, refl, ap}
use Prim.Native.Nat.{ℕ, zero, suc}
use Rattle.std.specs.Prelude.{Result, Ok, Err}
use Rattle.rules.specs.Answers.{Said, found, absent, new, replaced, revived, removed, refused}
use Rattle.rules.specs.Entries.{insert_by, or_insert_by, insert_entry_by}
use Rattle.cells.specs.Layout.{Left, lent}
use Rattle.cells.specs.declared.Table.{Table}
use Rattle.entries.specs.Answers.{entry_in}
use Rattle.entries.specs.declared.record.Entry.{Entry}
use Rattle.entryinsert.specs.Answers.{entry_insert_said, Handed, handed_by, insert_handed}
use Rattle.entryinsert.specs.declared.vacant.EntryInsertSaid.{EntryInsertSaid}
use Rattle.entryinsert.specs.declared.vacant.EntryInsertSaid.TheVariants as inserts
use Rattle.entryinsert.specs.declared.vacant.EntryInsertError.{EntryInsertError}
use Rattle.entryinsert.specs.declared.vacant.EntryInsertError.TheVariants as fails
use Rattle.entryinsert.specs.declared.giving.EntryInsertAnswer.{EntryInsertAnswer}
use Rattle.outcomes.proofs.One.{both, one}
use Rattle.outcomes.proofs.Hashentry.{unentry, entry_back, same_table}

abbrev uninsert : Said → Result EntryInsertSaid EntryInsertError
uninsert new = Ok inserts.New
uninsert (replaced v) = Ok (inserts.Replaced v)
uninsert revived = Ok inserts.Revived
uninsert (found v) = Ok (inserts.Found v)
uninsert (refused zero l) = Err fails.Stale
uninsert (refused (suc zero) l) = Err fails.Shape
uninsert (refused (suc (suc zero)) l) = Err fails.ZeroHash
uninsert (refused (suc (suc (suc zero))) l) = Err fails.Null
uninsert (refused (suc (suc (suc (suc zero)))) []) = Err fails.Stale
uninsert (refused (suc (suc (suc (suc zero)))) (p ∷ l)) = Err (fails.Full (record { position = p }))
uninsert (refused (suc (suc (suc (suc (suc zero))))) l) = Err fails.Broken
uninsert (refused (suc (suc (suc (suc (suc (suc n)))))) l) = Err fails.Stale
uninsert absent = Err fails.Stale
uninsert (removed v) = Err fails.Stale

insert_back : (a : Result EntryInsertSaid EntryInsertError) → uninsert (entry_insert_said a) ≡ a
insert_back (Ok inserts.New) = refl
insert_back (Ok (inserts.Replaced v)) = refl
insert_back (Ok inserts.Revived) = refl
insert_back (Ok (inserts.Found v)) = refl
insert_back (Err fails.Shape) = refl
insert_back (Err fails.ZeroHash) = refl
insert_back (Err fails.Null) = refl
insert_back (Err (fails.Full at)) = refl
insert_back (Err fails.Broken) = refl
insert_back (Err fails.Stale) = refl

-- the three calls are read alike
handed_one : (a b : EntryInsertAnswer) (ws ds ws' ds' : List ℕ) → insert_handed a ws ds ≡ insert_handed b ws' ds' → (a ≡ b) × (ws ≡ ws') × (ds ≡ ds')
handed_one a b ws ds ws' ds' h =
    let n = one entry_in unentry entry_back a.entry b.entry (ap (λ (y : Handed). y.entry) h) in
    let e = ap (λ (y : Handed). y.left) h in
    let s = one entry_insert_said uninsert insert_back a.said b.said (ap (λ (y : Left). y.done.said) e) in
    let t = same_table _ _ a.table b.table ws ds ws' ds' e in
    (λ i. record { said = s i; entry = n i; table = t i }, ap (λ (y : Left). y.done.words) e, ap (λ (y : Left). y.done.deltas) e)

pub insert_one_outcome : (words deltas : List ℕ) (table : Table) (entry : Entry) (value : ℕ) (r₁ r₂ : EntryInsertAnswer) (words₁ deltas₁ words₂ deltas₂ : List ℕ)
    → insert_handed r₁ words₁ deltas₁ ≡ handed_by (insert_by (lent words deltas table) (entry_in entry) value) (entry_in entry) table words deltas
    → insert_handed r₂ words₂ deltas₂ ≡ handed_by (insert_by (lent words deltas table) (entry_in entry) value) (entry_in entry) table words deltas
    → (r₁ ≡ r₂) × (words₁ ≡ words₂) × (deltas₁ ≡ deltas₂)
insert_one_outcome words deltas table entry value r₁ r₂ words₁ deltas₁ words₂ deltas₂ e₁ e₂ = handed_one r₁ r₂ words₁ deltas₁ words₂ deltas₂ (both e₁ e₂)

pub or_insert_one_outcome : (words deltas : List ℕ) (table : Table) (entry : Entry) (value : ℕ) (r₁ r₂ : EntryInsertAnswer) (words₁ deltas₁ words₂ deltas₂ : List ℕ)
    → insert_handed r₁ words₁ deltas₁ ≡ handed_by (or_insert_by (lent words deltas table) (entry_in entry) value) (entry_in entry) table words deltas
    → insert_handed r₂ words₂ deltas₂ ≡ handed_by (or_insert_by (lent words deltas table) (entry_in entry) value) (entry_in entry) table words deltas
    → (r₁ ≡ r₂) × (words₁ ≡ words₂) × (deltas₁ ≡ deltas₂)
or_insert_one_outcome words deltas table entry value r₁ r₂ words₁ deltas₁ words₂ deltas₂ e₁ e₂ = handed_one r₁ r₂ words₁ deltas₁ words₂ deltas₂ (both e₁ e₂)

pub insert_entry_one_outcome : (words deltas : List ℕ) (table : Table) (entry : Entry) (value : ℕ) (r₁ r₂ : EntryInsertAnswer) (words₁ deltas₁ words₂ deltas₂ : List ℕ)
    → insert_handed r₁ words₁ deltas₁ ≡ handed_by (insert_entry_by (lent words deltas table) (entry_in entry) value) (entry_in entry) table words deltas
    → insert_handed r₂ words₂ deltas₂ ≡ handed_by (insert_entry_by (lent words deltas table) (entry_in entry) value) (entry_in entry) table words deltas
    → (r₁ ≡ r₂) × (words₁ ≡ words₂) × (deltas₁ ≡ deltas₂)
insert_entry_one_outcome words deltas table entry value r₁ r₂ words₁ deltas₁ words₂ deltas₂ e₁ e₂ = handed_one r₁ r₂ words₁ deltas₁ words₂ deltas₂ (both e₁ e₂)
