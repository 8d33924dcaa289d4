-- Every find in the new table answers as in the source. Assumes nothing.
use mathlib.Core.Path.{◌≡◌, refl, sym, ◌∙◌}
use Prim.Native.Nat.{ℕ}
use Rattle.rules.specs.Cells.{Lent, shape}
use Rattle.rules.specs.Calls.{find}
use Rattle.sound.specs.State.{State, no_cell, removed_cell, live_cell, state_of, SoundTable, Sized, finds}
use Rattle.sound.proofs.Saying.{find_says_lem}
use Rattle.movelaws.specs.Movable.{state_moved}

-- a find says the same of a removed key and of one that has no cell
pub finds_moved : (s : State) → finds (state_moved s) ≡ finds s
finds_moved no_cell = refl
finds_moved removed_cell = refl
finds_moved (live_cell v) = refl

-- two sound tables with one hasher that pass check 1, and a key whose state in the second is as a move leaves it: a find says the
-- same of it, a refusal under 2 too
pub find_alike : (l n : Lent) → Sized l → Sized n → SoundTable l → SoundTable n → shape l ≡ 0 → shape n ≡ 0 → n.params.hash_of ≡ l.params.hash_of
    → (k : ℕ) → state_of n k ≡ state_moved (state_of l k)
    → (find n k).said ≡ (find l k).said
find_alike l n a b s t c d h k e =
    find_says_lem n b t k
    ∙ (rw (d, c, h, e, finds_moved (state_of l k)))
    ∙ sym (find_says_lem l a s k)
