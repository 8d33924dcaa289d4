-- In a sound table the key that a step hands back is live with the value handed back. Assumes nothing.
use mathlib.Core.Path.{◌≡◌, sym, ap, ◌∙◌}
use Prim.Native.Nat.{ℕ}
use Rattle.rules.specs.Cells.{Lent}
use Rattle.rules.specs.Cursor.{next, step}
use Rattle.sound.specs.State.{live_cell, state_of, SoundTable}
use Rattle.sound.proofs.States.{state_live, state_of_cell, live_both}
use Rattle.walked.proofs.Steps.{step_next_exactly}

pub handed_state : (l : Lent) → SoundTable l → (position i k v : ℕ) → (step l position).said ≡ next i k v → state_of l k ≡ live_cell v
handed_state l s position i k v q =
    let h = (step_next_exactly l position i k v).0 q in
    let t = live_both l.params l.cells l.value i h.least.live in
    state_of_cell l.params l.cells l.value l.counts s k i h.least.below t.0 (sym h.key)
    ∙ state_live l.params.null (l.value i) t.1
    ∙ ap live_cell (sym h.value)
